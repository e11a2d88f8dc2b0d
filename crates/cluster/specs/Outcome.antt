-- A number and a state: what a fresh state, a reading, a renaming and a representative answer. Assumes nothing.
use Rattle.std.specs.Prelude.{ℕ}
use Rattle.cluster.specs.declared.State.{State}
use Rattle.cluster.specs.Answer.{Outcome}
use Rattle.cluster.specs.State.{zero_state}

-- a number, and the state that goes with it
abbrev pub answer : ℕ → State → Outcome
answer number s = record { refusal = number; state = s }

-- refused: "a refused read or fresh state (22) gives an all-zero state"
abbrev pub with_zeros : ℕ → Outcome
with_zeros number = answer number zero_state

-- refused: "a refused .. renaming or representative gives back the given state"
abbrev pub as_given : State → ℕ → Outcome
as_given s number = answer number s
