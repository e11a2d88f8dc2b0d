-- The C interface: what each of its ten functions answers, and what it leaves in the buffer `out`. A state comes and goes in its
-- flat form. Assumes nothing.
--
--   Reply                           what a function has to say before it looks at `out`: a number that refuses, or its answer
--   number reply out                the number that it returns
--   out_after reply out             `out` afterwards
--   length_written reply out        how many bytes it writes
--   Replies reply out result after  a function with this reply, lent `out`, returns result and leaves after
--   reply_by number reply           the reply where the number is 0, else a refusal by that number
--   state_reply .. image_reply      the replies of the library's answers: states, weak and strong ISR, offers, images
--   width_refusal state             21 or 23 where bytes are not as many as a flat state has
--   on_state state reply            the reply by the state of these bytes, or that refusal
--   rename_by s places              what renaming by places that come as bytes answers; 27 where they are not five
--   number_bytes n, verdict_bytes v a number as four bytes, and a verdict as 250
--   replay_fresh .. replay_judge    the reply of each of the ten functions
--   member_named_by state .. e      the member that replay_act names
--   number_and_member r member out  what replay_act returns
--   number_and_length reply out     what replay_write_image returns
use Rattle.std.specs.Prelude.{ℕ, ◌+◌, ◌*◌, ◌/◌, ◌%◌, ◌≡◌, cond, List, [], ◌∷◌, ◌++◌, eqb, ltb, length, drop}
use Rattle.logic.specs.Refuse.{refuse, first_refusal, by_refusal}
use Rattle.parts.specs.Refusal.{accepted, too_short, left_over, buffer_short, not_renaming}
use Rattle.parts.specs.Isr.{bit}
use Rattle.cluster.specs.declared.State.{State}
use Rattle.cluster.specs.Answer.{ActionAnswer, Outcome}
use Rattle.cluster.specs.Outcome.{answer}
use Rattle.cluster.specs.Rules.{state_refusal}
use Rattle.cluster.specs.Fresh.{fresh}
use Rattle.cluster.specs.Act.{action_of, act}
use Rattle.questions.specs.Answer.{IsrAnswer, OfferAnswer}
use Rattle.questions.specs.Isr.{weak_isr, strong_isr}
use Rattle.questions.specs.Offer.{offer}
use Rattle.images.specs.Image.{image}
use Rattle.images.specs.Read.{read_image}
use Rattle.renamings.specs.Rename.{rename}
use Rattle.representatives.specs.Representative.{represent}
use Rattle.runs.specs.Answer.{Verdict}
use Rattle.runs.specs.Run.{judge}
use Rattle.flat.specs.Flat.{flat_width, flat, state_of_flat}

-- ---- replies
-- what a function has to say before it looks at `out`: a number that refuses, or the bytes of its answer
pub data Reply : Type 0 where
  refuses : ℕ → Reply
  gives : List ℕ → Reply

-- the number that it returns: the one that refuses; else 24 where `out` is shorter than the answer, and 0 where it is not
unfoldable pub number : Reply → List ℕ → ℕ
number (refuses n) out = n
number (gives bytes) out = cond (ltb (length out) (length bytes)) buffer_short accepted

-- `out` afterwards: the answer at its front, and behind it what stood there. Refused, `out` stays as it was.
unfoldable pub out_after : Reply → List ℕ → List ℕ
out_after (refuses n) out = out
out_after (gives bytes) out = cond (ltb (length out) (length bytes)) out (bytes ++ drop (length bytes) out)

-- how many bytes it writes
unfoldable pub length_written : Reply → List ℕ → ℕ
length_written (refuses n) out = 0
length_written (gives bytes) out = cond (ltb (length out) (length bytes)) 0 (length bytes)

-- a function that has this to say, and was lent `out`, returns `result` and leaves `after`
abbrev pub Replies : Reply → List ℕ → ℕ → List ℕ → Type 0
Replies reply out result after = (result ≡ number reply out) × (after ≡ out_after reply out)

-- ---- from the library's answers
-- by the answer's own number: what it gives at 0, else the number
abbrev pub reply_by : ℕ → Reply → Reply
reply_by number reply = by_refusal number refuses reply

-- a number and a state: 226 bytes
unfoldable pub state_reply : ℕ → State → Reply
state_reply number s = reply_by number (gives (flat s))

abbrev pub outcome_reply : Outcome → Reply
outcome_reply o = state_reply o.refusal o.state

abbrev pub action_reply : ActionAnswer → Reply
action_reply a = state_reply a.refusal a.state

-- weak and strong ISR: four bytes, 1, 0, 0, 0 where it holds, else 0 and the smallest failing leader, member and offset
unfoldable pub isr_reply : IsrAnswer → Reply
isr_reply a = reply_by a.refusal (gives (bit a.holds ∷ a.leader ∷ a.member ∷ a.offset ∷ []))

-- an offer: three bytes, a, b and e
unfoldable pub offer_reply : OfferAnswer → Reply
offer_reply o = reply_by o.refusal (gives (o.a ∷ o.b ∷ o.e ∷ []))

-- the image of a state, or 41 to 47 where it breaks a rule
unfoldable pub image_reply : State → Reply
image_reply s = reply_by (state_refusal s) (gives (image s))

-- ---- a state that comes as bytes
-- 21 where `state` has fewer than 226 bytes, 23 where it has more; this is tried before anything else
unfoldable pub width_refusal : List ℕ → ℕ
width_refusal state =
    refuse (ltb (length state) flat_width) too_short
    (refuse (ltb flat_width (length state)) left_over
    accepted)

unfoldable pub on_state : List ℕ → (State → Reply) → Reply
on_state state reply = reply_by (width_refusal state) (reply (state_of_flat state))

-- ---- places that come as bytes
-- 41 to 47 where the state breaks a rule, then 27 where the places are not five, or not a renaming of the replicas
unfoldable pub rename_by : State → List ℕ → Outcome
rename_by s places = cond (eqb (length places) 5) (rename s places) (answer (first_refusal (state_refusal s) not_renaming) s)

-- ---- a verdict as bytes
-- a number as four bytes, low byte first
unfoldable pub number_bytes : ℕ → List ℕ
number_bytes n = n % 256 ∷ n / 256 % 256 ∷ n / 65536 % 256 ∷ n / 16777216 % 256 ∷ []

abbrev pub three_numbers : ℕ → ℕ → ℕ → List ℕ
three_numbers m n k = number_bytes m ++ (number_bytes n ++ number_bytes k)

-- a verdict has 250 bytes: six numbers (accepted, refusal, at, weak, strong, exposed), then the last state
abbrev pub verdict_width : ℕ
verdict_width = 250

unfoldable pub verdict_bytes : Verdict → List ℕ
verdict_bytes v =
    three_numbers v.tally.accepted v.refusal v.at
    ++ (three_numbers v.tally.weak v.tally.strong v.tally.exposed
    ++ flat v.state)

-- ---- the ten functions, as interface/replay.h declares them
-- replay_fresh: the fresh state of a configuration
unfoldable pub replay_fresh : ℕ → ℕ → ℕ → ℕ → Reply
replay_fresh r l m x =
    outcome_reply (fresh (record { replica_count = r; log_size = l; max_records = m; max_leader_epoch = x }))

-- replay_act: the state after an action
unfoldable pub replay_act : List ℕ → ℕ → ℕ → ℕ → ℕ → Reply
replay_act state kind a b e = on_state state (λ s. action_reply (act s (action_of kind a b e)))

-- the member that its answer names, 0 where the state has not its 226 bytes
unfoldable pub member_named_by : List ℕ → ℕ → ℕ → ℕ → ℕ → ℕ
member_named_by state kind a b e = by_refusal (width_refusal state) (λ n. 0) (act (state_of_flat state) (action_of kind a b e)).member

-- it returns the number and 256 times that member. Beside 24 the action is accepted, and so names 0
unfoldable pub number_and_member : Reply → ℕ → List ℕ → ℕ
number_and_member reply member out = number reply out + 256 * member

-- replay_weak and replay_strong: whether the property holds, or its smallest failure
unfoldable pub replay_weak : List ℕ → Reply
replay_weak state = on_state state (λ s. isr_reply (weak_isr s))

unfoldable pub replay_strong : List ℕ → Reply
replay_strong state = on_state state (λ s. isr_reply (strong_isr s))

-- replay_offer: the operands of the smallest accepted action of a kind
unfoldable pub replay_offer : List ℕ → ℕ → Reply
replay_offer state kind = on_state state (λ s. offer_reply (offer s kind))

-- replay_write_image: the image of a state. It returns the number and 256 times the length of what it wrote.
unfoldable pub replay_write_image : List ℕ → Reply
replay_write_image state = on_state state image_reply

unfoldable pub number_and_length : Reply → List ℕ → ℕ
number_and_length reply out = number reply out + 256 * length_written reply out

-- replay_read_image: the state of an image
unfoldable pub replay_read_image : List ℕ → Reply
replay_read_image bytes = outcome_reply (read_image bytes)

-- replay_rename: the state under a renaming
unfoldable pub replay_rename : List ℕ → List ℕ → Reply
replay_rename state places = on_state state (λ s. outcome_reply (rename_by s places))

-- replay_representative: the representative of a state
unfoldable pub replay_representative : List ℕ → Reply
replay_representative state = on_state state (λ s. outcome_reply (represent s))

-- replay_judge: the verdict of a run. It refuses by 24 alone: that a run is refused is an answer, and its refusal a number of the
-- verdict.
unfoldable pub replay_judge : List ℕ → Reply
replay_judge run = gives (verdict_bytes (judge run))
