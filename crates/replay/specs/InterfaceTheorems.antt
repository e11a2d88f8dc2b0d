-- What the interface keeps: a state that one function gives is taken by the next as that state, the six numbers of a verdict
-- are read off their bytes, and replay_act names a member beside 48 and 49 alone. Assumes nothing.
use Rattle.std.specs.Prelude.{ℕ, ◌+◌, ◌*◌, ◌/◌, ◌%◌, ◌≤◌, ◌<◌, ◌≡◌, Bool, true, false, List, ltb, length}
use Rattle.std.proofs.Math.Path.{refl, sym, ap, subst}
use Rattle.std.proofs.Common.{◌∙◌, arith, le-ltb}
use Rattle.std.proofs.Math.Decide.{ℕ_discrete}
use Rattle.std.proofs.Math.Nat.{div-div-eq-div-mul}
use Rattle.logic.specs.Refuse.{refuse, refuse_none, by_accepted, by_refused}
use Rattle.parts.specs.Refusal.{accepted, buffer_short, member_not_following, member_lacks_offset}
use Rattle.parts.specs.Mark.{byte_at}
use Rattle.cluster.specs.declared.State.{State}
use Rattle.cluster.specs.Answer.{ActionAnswer}
use Rattle.cluster.specs.declared.MemberTest.{MemberTest}
use Rattle.cluster.specs.declared.MemberTest.TheVariants.{IsFollowing, HasOffset}
use Rattle.cluster.specs.State.{tidy}
use Rattle.cluster.specs.Rules.{rules}
use Rattle.cluster.specs.Act.{action_of, act}
use Rattle.actions.specs.MemberNamed.{test_number, SmallestMember, member_none}
use Rattle.actions.proofs.NamedMember.{member-named}
use Rattle.flat.specs.Flat.{flat_width, flat, state_of_flat}
use Rattle.flat.specs.FlatLaws.{flat-width}
use Rattle.flat.specs.FlatTheorems.{answer_back}
use Rattle.replay.specs.Interface.{Reply, refuses, gives, number, state_reply, action_reply, width_refusal, on_state, replay_act, member_named_by, number_bytes}
use Rattle.replay.specs.InterfaceLaws.{on-state, on_state_refused, member_of_state}

-- ---- states
flat_taken : (s : State) → width_refusal (flat s) ≡ accepted
unfolding width_refusal
flat_taken s =
    let w = flat-width s in
    refuse_none _ _ _ (le-ltb (length (flat s)) flat_width (omega arith)) (refuse_none _ _ _ (le-ltb flat_width (length (flat s)) (omega arith)) (omega arith))

-- what is said of the flat form of a tidy state that meets the rules is what is said of that state. Every state that is given is
-- so, but for the all-zero one of a run whose configuration is not accepted.
pub given_taken : (s : State) → rules s ≡ true → tidy s ≡ s → (reply : State → Reply) → on_state (flat s) reply ≡ reply s
given_taken s h t reply = sym (on-state (flat s) reply (flat_taken s)) ∙ ap reply (answer_back s h t)

-- ---- numbers
-- the number of four bytes, low byte first
abbrev pub number_of : List ℕ → ℕ
number_of bytes = byte_at bytes 0 + 256 * byte_at bytes 1 + 65536 * byte_at bytes 2 + 16777216 * byte_at bytes 3

by_bytes : (n a b c : ℕ) → a ≡ n / 256 → b ≡ a / 256 → c ≡ b / 256 → n < 4294967296
    → n % 256 + 256 * (a % 256) + 65536 * (b % 256) + 16777216 * (c % 256) ≡ n
by_bytes n a b c h k m l = omega arith

-- a number below 2 to the 32 comes back; every number of a verdict is below it (verdicts/specs/VerdictTheorems.antt, verdict_small)
pub number_back : (n : ℕ) → n < 4294967296 → number_of (number_bytes n) ≡ n
unfolding number_bytes
number_back n h =
    by_bytes n (n / 256) (n / 65536) (n / 16777216) refl (sym (div-div-eq-div-mul n 256 256)) (sym (div-div-eq-div-mul n 65536 256)) h

-- ---- the member that replay_act names
-- 48 and 49 are above every number that does not come from the action
test_number_high : (test : MemberTest) → buffer_short < test_number test
unfolding test_number
test_number_high IsFollowing = omega arith
test_number_high HasOffset = omega arith

given_low : (bytes out : List ℕ) → number (gives bytes) out ≤ buffer_short
unfolding number
given_low bytes out = go (ltb (length out) (length bytes)) refl
  where
    go : (b : Bool) → ltb (length out) (length bytes) ≡ b → number (gives bytes) out ≤ buffer_short
    go true e = rw e (omega arith)
    go false e = rw e (omega arith)

width_low : (state : List ℕ) → width_refusal state ≤ buffer_short
unfolding width_refusal refuse
width_low state = go (ltb (length state) flat_width) refl (ltb flat_width (length state)) refl
  where
    go : (b : Bool) → ltb (length state) flat_width ≡ b → (c : Bool) → ltb flat_width (length state) ≡ c → width_refusal state ≤ buffer_short
    go true e c f = rw e (omega arith)
    go false e true f = rw (e, f) (omega arith)
    go false e false f = rw (e, f) (omega arith)

module _ (state : List ℕ) (kind a b e : ℕ) (out : List ℕ) where
  abbrev answered : ActionAnswer
  answered = act (state_of_flat state) (action_of kind a b e)

  -- the number of a refused action is the one that is returned
  refused_number : width_refusal state ≡ accepted → (answered.refusal ≡ accepted → ⊥) → number (replay_act state kind a b e) out ≡ answered.refusal
  unfolding replay_act state_reply number
  refused_number h refused =
      ap (λ (r : Reply). number r out) (sym (on-state state (λ s. action_reply (act s (action_of kind a b e))) h))
      ∙ ap (λ (r : Reply). number r out) (sym (by_refused answered.refusal refuses (gives (flat answered.state)) refused))

  -- beside every number but 48 and 49 it names 0: 24 stands alone
  pub names_none_beside : (number (replay_act state kind a b e) out ≡ member_not_following → ⊥)
      → (number (replay_act state kind a b e) out ≡ member_lacks_offset → ⊥) → member_named_by state kind a b e ≡ 0
  unfolding member_named_by
  names_none_beside f o =
      elim (ℕ_discrete (width_refusal state) accepted) [
        | yes h ↦
            let named : (k : ℕ) → (number (replay_act state kind a b e) out ≡ k → ⊥) → (k ≡ accepted → ⊥) → answered.refusal ≡ k → ⊥ =
            λ k other some q. other (refused_number h (λ z. some (sym q ∙ z)) ∙ q) in
            sym (by_accepted (width_refusal state) (λ n. 0) answered.member h)
            ∙ member_none (state_of_flat state) (action_of kind a b e) (named member_not_following f (λ z. omega (arith, z)))
            (named member_lacks_offset o (λ z. omega (arith, z)))
        | no h ↦ sym (by_refused (width_refusal state) (λ n. 0) answered.member h)
      ]

  -- where the number is 48 or 49, the member is the smallest of a's ISR with that fault, in the state of these bytes
  pub names_smallest_beside : (test : MemberTest) → number (replay_act state kind a b e) out ≡ test_number test
      → SmallestMember test (state_of_flat state) a (member_named_by state kind a b e)
  unfolding replay_act state_reply number
  names_smallest_beside test q =
      let high = test_number_high test in
      let reply : State → Reply = λ s. action_reply (act s (action_of kind a b e)) in
      elim (ℕ_discrete (width_refusal state) accepted) [
        | yes h ↦
            let same : number (reply (state_of_flat state)) out ≡ test_number test = ap (λ (r : Reply). number r out) (on-state state reply h) ∙ q in
            elim (ℕ_discrete answered.refusal accepted) [
              | yes z ↦
                  let given = ap (λ (r : Reply). number r out) (by_accepted answered.refusal refuses (gives (flat answered.state)) z) ∙ same in
                  absurd (omega (arith, given_low (flat answered.state) out, given, high))
              | no z ↦
                  let own : answered.refusal ≡ test_number test =
                  ap (λ (r : Reply). number r out) (by_refused answered.refusal refuses (gives (flat answered.state)) z) ∙ same in
                  subst (SmallestMember test (state_of_flat state) a) (member_of_state state kind a b e h) (member-named test (state_of_flat state) (action_of kind a b e) own)
            ]
        | no h ↦
            let own : width_refusal state ≡ test_number test = (on_state_refused state reply out (width_refusal state) refl h).0 ∙ q in
            absurd (omega (arith, width_low state, own, high))
      ]
