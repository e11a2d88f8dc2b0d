-- What is answered, as the paper numbers it, and what the code's answers say by it. Assumes nothing.
--
--   ActionAnswer, Outcome          a number, 0 for accepted, the member named, and the state that goes with it
--   member_number                  the member named, 0 where none is
--   names_member                   whether a refusal names a member
--   action_answer_of, outcome_of   what the code answers, by its number
use Rattle.std.specs.Prelude.{ℕ, Bool, ◌||◌, eqb, Result, Ok, Err, Option, None, Some}
use Rattle.parts.specs.declared.refusal.Refusal.{Refusal}
use Rattle.parts.specs.Refusal.{accepted, member_not_following, member_lacks_offset, refusal_number}
use Rattle.cluster.specs.declared.State.{State}
use Rattle.cluster.specs.declared.RefusedAction.{RefusedAction}
use Rattle.cluster.specs.declared.Refused.{Refused}

-- what an action answers: a number, beside 48 and 49 the smallest member of the ISR with that fault, else 0, and the state
pub record ActionAnswer : Type 0 where
  pub refusal : ℕ
  pub member : ℕ
  pub state : State

-- what a fresh state, a reading, a renaming and a representative answer: a number and the state
pub record Outcome : Type 0 where
  pub refusal : ℕ
  pub state : State

-- the member that is named, 0 where none is
abbrev pub member_number : Option ℕ → ℕ
member_number None = 0
member_number (Some m) = m

-- a refusal names a member where its number is 48 or 49, and by no other number
abbrev pub names_member : Refusal → Bool
names_member r = eqb (refusal_number r) member_not_following || eqb (refusal_number r) member_lacks_offset

-- accepted: 0, no member, the next state; refused: the number, the member named and the state as given
abbrev pub action_answer_of : Result State RefusedAction → ActionAnswer
action_answer_of (Ok next) = record { refusal = accepted; member = 0; state = next }
action_answer_of (Err r) = record { refusal = refusal_number r.refusal; member = member_number r.member; state = r.state }

-- accepted: 0 and the state; refused: the number and the state that goes with it
abbrev pub outcome_of : Result State Refused → Outcome
outcome_of (Ok s) = record { refusal = accepted; state = s }
outcome_of (Err r) = record { refusal = refusal_number r.refusal; state = r.state }
