-- Laws of the interface, for the functions: each shows by them that it returns and leaves what its reply says. Assumes nothing.
--
--   replies_refused, replies_err      the answer's own number refuses: it is returned, and `out` stays
--   replies_exit                      so does a call that leaves with a refusal
--   replies_short, replies_given      `out` is shorter than the answer, or gets it
--   width_right                       bytes that width_refusal does not refuse are 226
--   on-state, on_state_replies        the reply to 226 bytes is that of their state
--   on_state_number, on_state_after   the same by what is returned, and by what is left
--   on_state_refused, on_state_alone  bytes of any other count: the number is returned, `out` stays, and no length is answered
--   member_of_state .. member_refused the member that replay_act names: of 226 bytes, and of any other count
--   width_exit                        a call that leaves with their refusal replies so
--   rename_five, rename_uncounted     renaming by five places, and by any other count of them
--   ImageReplies s out                writing an image answers what the interface returns and leaves, a number below 256 and a
--                                     length of at most 227
--   image_replies, written_replies    it does so for every state and every buffer, and for 226 bytes
--   read_refuses, read_replies        reading an image that is refused by its bytes, and one whose parts are all there
--   bytes_of_numbers l                numbers, each as four bytes, and how many these are
--   low_bytes                         the four low bytes of a number are these
--   verdict-width                     a verdict has 250 bytes
--   refused_leaves                    whatever refuses leaves `out` as it was
use Rattle.std.specs.Prelude.{ℕ, ◌+◌, ◌*◌, ◌≤◌, ◌<◌, ◌≡◌, refl, Bool, true, false, cond, List, [], ◌∷◌, ◌++◌, ltb, length, get_or, take, drop, Result, Ok, Err, IsErrAnd}
use Rattle.std.specs.Option.{unwrap_or}
use Rattle.std.specs.Result.{result_err}
use Rattle.std.specs.Int.{w64, to_le_bytes}
use Rattle.std.proofs.Math.Path.{sym, ap}
use Rattle.std.proofs.Common.{◌∙◌, ap₂, subst, arith, lt-ltb, le-ltb, ltb-false, eq-eqb, ne_eqb}
use Rattle.std.proofs.Math.Decide.{ℕ_discrete, dec_lt}
use Rattle.logic.specs.Tests.{every}
use Rattle.logic.specs.Refuse.{refuse_zero, first_yes, first_no, by_accepted, by_refused, listed_most}
use Rattle.logic.specs.Concat.{concat_below, concat_width}
use Rattle.logic.specs.Stores.{Stored, stored_front}
use Rattle.logic.specs.Table.{cond_true, cond_false}
use Rattle.parts.specs.declared.refusal.Refusal.{Refusal}
use Rattle.parts.specs.declared.refusal.Refusal.TheVariants.{NotRenaming}
use Rattle.parts.specs.Refusal.{accepted, buffer_short, not_renaming, refusal_number, answer_number}
use Rattle.cluster.specs.declared.State.{State}
use Rattle.cluster.specs.declared.valid.ValidState.{ValidState}
use Rattle.cluster.specs.Answer.{ActionAnswer, Outcome}
use Rattle.cluster.specs.State.{zero_state}
use Rattle.cluster.specs.Rules.{rules, state_refusal}
use Rattle.cluster.specs.RuleLaws.{met_refusal, broken_refusal}
use Rattle.cluster.specs.Outcome.{answer}
use Rattle.cluster.specs.Act.{action_of, act}
use Rattle.questions.specs.IsrLaws.{refusal_not_zero}
use Rattle.renamings.specs.Rename.{rename}
use Rattle.images.specs.Answer.{Written}
use Rattle.images.specs.Image.{image, write_image, buffer_after}
use Rattle.images.specs.ImageLaws.{image_most}
use Rattle.images.specs.WriteLaws.{write_numbers, write_listed, writes_broken, writes_short, writes_all}
use Rattle.images.specs.Read.{parsed, read_image}
use Rattle.images.specs.Layout.{body_of, layout_refusal}
use Rattle.images.specs.ReadLaws.{read_refused, read_met, read_unmet}
use Rattle.runs.specs.Answer.{Verdict}
use Rattle.flat.specs.Flat.{flat_width, flat, state_of_flat}
use Rattle.flat.specs.FlatLaws.{flat-width}
use Rattle.replay.specs.Interface.{Reply, refuses, gives, number, out_after, length_written, Replies, reply_by, state_reply, outcome_reply, image_reply, rename_by, width_refusal, on_state, action_reply, replay_act, member_named_by, number_and_member, replay_write_image, number_and_length, verdict_width, number_bytes, verdict_bytes}

-- ---- replies
-- the answer's own number refuses
pub replies_refused : (n : ℕ) (reply : Reply) (out : List ℕ) → (n ≡ accepted → ⊥) → Replies (reply_by n reply) out n out
unfolding number out_after
replies_refused n reply out h = rw (← by_refused n refuses reply h) (refl, refl)

-- the answer's own number is 0
reply_accepted : (n : ℕ) (reply : Reply) → n ≡ accepted → reply ≡ reply_by n reply
reply_accepted n reply h = by_accepted n refuses reply h

pub replies_err : (r : Refusal) (reply : Reply) (out : List ℕ) → Replies (reply_by (refusal_number r) reply) out (refusal_number r) out
replies_err r reply out = replies_refused (refusal_number r) reply out (refusal_not_zero r)

-- a call that leaves with a refusal replies its number
pub replies_exit : (result : Result (Unit {0}) Refusal) (r : Refusal) → IsErrAnd result (λ e. e ≡ r) → (reply : Reply) (out : List ℕ)
    → Replies reply out (refusal_number r) out → Replies reply out (answer_number result) out
replies_exit (Ok x) r same reply out h = absurd same
replies_exit (Err e) r same reply out h = rw same h

-- the buffer is shorter than the answer, or gets it
module _ (bytes out : List ℕ) where
  pub replies_short : length out < length bytes → Replies (gives bytes) out buffer_short out
  unfolding number out_after
  replies_short k =
      (sym (cond_true _ _ _ (lt-ltb (length out) (length bytes) k)), sym (cond_true _ _ _ (lt-ltb (length out) (length bytes) k)))

  pub replies_given : (after : List ℕ) (end : ℕ) → Stored out 0 bytes after end → length bytes ≤ length out
      → Replies (gives bytes) out accepted after
  unfolding number out_after
  replies_given after end w k =
      (sym (cond_false _ _ _ (le-ltb (length out) (length bytes) k)), stored_front w k ∙ sym (cond_false _ _ _ (le-ltb (length out) (length bytes) k)))

-- a number that refuses says all: the state beside it does not count
reply_refused : (n : ℕ) (s t : State) → (n ≡ accepted → ⊥) → state_reply n s ≡ state_reply n t
unfolding state_reply
reply_refused n s t h = sym (by_refused n refuses (gives (flat s)) h) ∙ by_refused n refuses (gives (flat t)) h

-- ---- a state that comes as bytes
-- bytes that are not refused are 226
pub width_right : (state : List ℕ) → width_refusal state ≡ accepted → length state ≡ flat_width
unfolding width_refusal
width_right state h =
    let a = refuse_zero (ltb (length state) flat_width) 20 _ h in
    let b = refuse_zero (ltb flat_width (length state)) 22 _ a.1 in
    let l = ltb-false (length state) flat_width a.0 in
    let m = ltb-false flat_width (length state) b.0 in
    omega arith

-- the reply to them is that of their state
pub on-state : (state : List ℕ) (reply : State → Reply) → width_refusal state ≡ accepted → reply (state_of_flat state) ≡ on_state state reply
unfolding on_state
on-state state reply h = reply_accepted (width_refusal state) (reply (state_of_flat state)) h

pub on_state_replies : (state : List ℕ) (reply : State → Reply) (given : Reply) (out : List ℕ) (n : ℕ) (after : List ℕ)
    → width_refusal state ≡ accepted → given ≡ reply (state_of_flat state) → Replies given out n after → Replies (on_state state reply) out n after
on_state_replies state reply given out n after h e r = subst (λ (m : Reply). Replies m out n after) (e ∙ on-state state reply h) r

-- bytes that are refused: their number is returned, and `out` stays
pub on_state_refused : (state : List ℕ) (reply : State → Reply) (out : List ℕ) (n : ℕ) → n ≡ width_refusal state → (n ≡ accepted → ⊥)
    → Replies (on_state state reply) out n out
unfolding on_state
on_state_refused state reply out n e h = rw e (replies_refused (width_refusal state) (reply (state_of_flat state)) out (λ z. h (e ∙ z)))

-- the same by parts
pub on_state_number : (state : List ℕ) (reply : State → Reply) (out : List ℕ) → accepted ≡ width_refusal state
    → number (on_state state reply) out ≡ number (reply (state_of_flat state)) out
on_state_number state reply out h = ap (λ (m : Reply). number m out) (sym (on-state state reply (sym h)))

pub on_state_after : (state : List ℕ) (reply : State → Reply) (out : List ℕ) → accepted ≡ width_refusal state
    → out_after (on_state state reply) out ≡ out_after (reply (state_of_flat state)) out
on_state_after state reply out h = ap (λ (m : Reply). out_after m out) (sym (on-state state reply (sym h)))

-- the end of a call that leaves with that refusal
pub width_exit : (result : Result (Unit {0}) Refusal) (r : Refusal) → IsErrAnd result (λ e. e ≡ r) → (state : List ℕ) (reply : State → Reply) (out : List ℕ)
    → refusal_number r ≡ width_refusal state → Replies (on_state state reply) out (answer_number result) out
width_exit result r same state reply out h =
    replies_exit result r same (on_state state reply) out (on_state_refused state reply out (refusal_number r) h (refusal_not_zero r))

-- and with no length: the number stands alone
refused_number_alone : (n : ℕ) (reply : Reply) (out : List ℕ) → (n ≡ accepted → ⊥) → n ≡ number_and_length (reply_by n reply) out
unfolding number_and_length number length_written
refused_number_alone n reply out h = rw (← by_refused n refuses reply h) (omega arith)

pub on_state_alone : (state : List ℕ) (reply : State → Reply) (out : List ℕ) (n : ℕ) → n ≡ width_refusal state → (n ≡ accepted → ⊥)
    → n ≡ number_and_length (on_state state reply) out
unfolding on_state
on_state_alone state reply out n e h = rw e (refused_number_alone (width_refusal state) (reply (state_of_flat state)) out (λ z. h (e ∙ z)))

-- ---- the member that an action's answer names
-- 226 bytes: that of the action on their state
pub member_of_state : (state : List ℕ) (kind a b e : ℕ) → width_refusal state ≡ accepted
    → (act (state_of_flat state) (action_of kind a b e)).member ≡ member_named_by state kind a b e
unfolding member_named_by
member_of_state state kind a b e h = by_accepted (width_refusal state) (λ n. 0) (act (state_of_flat state) (action_of kind a b e)).member h

pub member_replies : (state : List ℕ) (kind a b e : ℕ) (given : ActionAnswer) (out : List ℕ) (n : ℕ) (after : List ℕ) → width_refusal state ≡ accepted
    → given ≡ act (state_of_flat state) (action_of kind a b e) → Replies (action_reply given) out n after
    → (n + 256 * given.member ≡ number_and_member (replay_act state kind a b e) (member_named_by state kind a b e) out)
    × (after ≡ out_after (replay_act state kind a b e) out)
unfolding number_and_member replay_act
member_replies state kind a b e given out n after h same r =
    let s = on_state_replies state (λ s. action_reply (act s (action_of kind a b e))) (action_reply given) out n after h (ap action_reply same) r in
    (ap₂ (λ (k m : ℕ). k + 256 * m) s.0 (ap (λ (o : ActionAnswer). o.member) same ∙ member_of_state state kind a b e h), s.1)

-- bytes of any other count: none, so that the number stands alone
pub member_refused : (state : List ℕ) (kind a b e : ℕ) (out : List ℕ) (n : ℕ) → n ≡ width_refusal state → (n ≡ accepted → ⊥)
    → n ≡ number_and_member (replay_act state kind a b e) (member_named_by state kind a b e) out
unfolding member_named_by number_and_member replay_act
member_refused state kind a b e out n same h =
    let none = by_refused (width_refusal state) (λ n. 0) (act (state_of_flat state) (action_of kind a b e)).member (λ z. h (same ∙ z)) in
    let refused = (on_state_refused state (λ s. action_reply (act s (action_of kind a b e))) out n same h).0 in
    omega (arith, none, refused)

-- ---- places that come as bytes
module _ (s : State) (places : List ℕ) where
  pub rename_five : length places ≡ 5 → rename s places ≡ rename_by s places
  unfolding rename_by
  rename_five h = sym (cond_true _ _ _ (eq-eqb (length places) 5 h))

  -- any other count: the state's own refusal, then 27
  pub rename_uncounted : (length places ≡ 5 → ⊥) → (valid : Result ValidState Refusal) → answer_number valid ≡ state_refusal s
      → answer (refusal_number (unwrap_or (result_err valid) NotRenaming)) s ≡ rename_by s places
  unfolding rename_by
  rename_uncounted h (Ok v) e =
      ap (λ (n : ℕ). answer n s) (first_no (state_refusal s) not_renaming (sym e))
      ∙ sym (cond_false _ _ _ (ne_eqb (length places) 5 h))
  rename_uncounted h (Err r) e =
      ap (λ (n : ℕ). answer n s) (e ∙ first_yes (state_refusal s) not_renaming (λ z. refusal_not_zero r (e ∙ z)))
      ∙ sym (cond_false _ _ _ (ne_eqb (length places) 5 h))

-- ---- images
-- what writing an image answers is what the interface returns and leaves; its number is a byte, and its length fits beside that
pub record ImageReplies (s : State) (out : List ℕ) : Type 0 where
  pub length_at_most : (write_image s out).length ≤ 227
  pub number_is_byte : (write_image s out).refusal ≤ 255
  pub answer : (write_image s out).refusal + 256 * (write_image s out).length ≡ number_and_length (image_reply s) out
  pub buffer-after : buffer_after s out ≡ out_after (image_reply s) out

image_number_is_byte : (s : State) (out : List ℕ) → (write_image s out).refusal ≤ 255
unfolding every
image_number_is_byte s out = listed_most (accepted ∷ write_numbers) 255 (write_image s out).refusal refl (write_listed s out)

image_refused : (s : State) → rules s ≡ false → image_reply s ≡ refuses (state_refusal s)
unfolding image_reply
image_refused s h = sym (by_refused (state_refusal s) refuses (gives (image s)) (broken_refusal s h))

image_given : (s : State) → rules s ≡ true → image_reply s ≡ gives (image s)
unfolding image_reply
image_given s h = sym (by_accepted (state_refusal s) refuses (gives (image s)) (met_refusal s h))

pub image_replies : (s : State) (out : List ℕ) → ImageReplies s out
unfolding number_and_length number length_written out_after
image_replies s out = go (rules s) refl
  where
    go : (b : Bool) → rules s ≡ b → ImageReplies s out
    go false h =
        let w = writes_broken s out h in
        record {
          length_at_most = rw (← w.0) (omega arith);
          number_is_byte = image_number_is_byte s out;
          answer = rw (← w.0, image_refused s h) refl;
          buffer-after = rw (← w.1, image_refused s h) refl;
        }
    go true h =
        elim (dec_lt (length out) (length (image s))) [
          | yes l ↦
              let w = writes_short s out h l in
              let t = lt-ltb (length out) (length (image s)) l in
              record {
                length_at_most = rw (← w.0) (omega arith);
                number_is_byte = image_number_is_byte s out;
                answer = rw (← w.0, image_given s h, t) refl;
                buffer-after = rw (← w.1, image_given s h, t) refl;
              }
          | no l ↦
              let k : length (image s) ≤ length out = omega arith in
              let w = writes_all s out h k in
              let t = le-ltb (length out) (length (image s)) k in
              record {
                length_at_most = rw (← w.0) (image_most s h);
                number_is_byte = image_number_is_byte s out;
                answer = rw (← w.0, image_given s h, t) refl;
                buffer-after = rw (← w.1, image_given s h, t) refl;
              }
        ]

-- so 226 bytes whose state was written answer what the interface returns and leaves
pub written_replies : (state : List ℕ) (s : State) (given : Written) (out after : List ℕ) → accepted ≡ width_refusal state → s ≡ state_of_flat state
    → given ≡ write_image s out → after ≡ buffer_after s out
    → (given.refusal + 256 * given.length ≡ number_and_length (replay_write_image state) out) × (after ≡ out_after (replay_write_image state) out)
unfolding replay_write_image
written_replies state s given out after h is w b =
    let i = image_replies s out in
    let e = ap image_reply is ∙ on-state state image_reply (sym h) in
    (ap (λ (g : Written). g.refusal + 256 * g.length) w ∙ i.answer ∙ ap (λ (m : Reply). number_and_length m out) e, b ∙ i.buffer-after ∙ ap (λ (m : Reply). out_after m out) e)

-- an image that is refused by its bytes
pub read_refuses : (bytes out : List ℕ) (n : ℕ) → n ≡ layout_refusal bytes → (n ≡ accepted → ⊥) → Replies (outcome_reply (read_image bytes)) out n out
unfolding state_reply
read_refuses bytes out n e h =
    subst (λ (o : Outcome). Replies (outcome_reply o) out n out) (read_refused bytes n e h) (replies_refused n (gives (flat zero_state)) out h)

-- one whose parts are all there gives its state, or refuses by the state's own number
read_gives : (bytes : List ℕ) (s : State) → layout_refusal bytes ≡ accepted → body_of bytes ≡ parsed s []
    → state_reply (state_refusal s) s ≡ outcome_reply (read_image bytes)
read_gives bytes s laid is =
    elim (ℕ_discrete (state_refusal s) accepted) [
      | yes q ↦ ap (λ (n : ℕ). state_reply n s) q ∙ ap outcome_reply (read_met bytes s laid is q)
      | no q ↦ reply_refused (state_refusal s) s zero_state q ∙ ap outcome_reply (read_unmet bytes s laid is q)
    ]

pub read_replies : (bytes : List ℕ) (s : State) (out : List ℕ) (k n : ℕ) (after : List ℕ) → layout_refusal bytes ≡ accepted → body_of bytes ≡ parsed s []
    → k ≡ state_refusal s → Replies (state_reply k s) out n after → Replies (outcome_reply (read_image bytes)) out n after
read_replies bytes s out k n after laid is e r =
    subst (λ (m : Reply). Replies m out n after) (ap (λ (i : ℕ). state_reply i s) e ∙ read_gives bytes s laid is) r

-- ---- verdicts
-- number i of a list as four bytes, and all of them one after the other
abbrev pub number_bytes_at : List ℕ → ℕ → List ℕ
number_bytes_at numbers i = number_bytes (get_or numbers i 0)

abbrev pub bytes_of_numbers : List ℕ → List ℕ
bytes_of_numbers numbers = concat_below (length numbers) (number_bytes_at numbers)

-- the four low bytes of a number
pub low_bytes : (n : ℕ) → take 4 (to_le_bytes w64 n) ≡ number_bytes n
unfolding number_bytes
low_bytes n = refl

pub numbers-width : (numbers : List ℕ) → length (bytes_of_numbers numbers) ≡ length numbers * 4
unfolding number_bytes
numbers-width numbers = concat_width 4 (length numbers) (number_bytes_at numbers) (λ i h. refl)

pub verdict-width : (v : Verdict) → length (verdict_bytes v) ≡ verdict_width
unfolding verdict_bytes number_bytes
verdict-width v = let e = flat-width v.state in omega arith

-- ---- a refusal leaves `out` as it was
pub refused_leaves : (reply : Reply) (out : List ℕ) → (number reply out ≡ accepted → ⊥) → out_after reply out ≡ out
unfolding number out_after
refused_leaves (refuses n) out h = refl
refused_leaves (gives bytes) out h = go (ltb (length out) (length bytes)) h
  where
    go : (short : Bool) → (cond short buffer_short accepted ≡ accepted → ⊥) → cond short out (bytes ++ drop (length bytes) out) ≡ out
    go true f = refl
    go false f = absurd (f refl)
