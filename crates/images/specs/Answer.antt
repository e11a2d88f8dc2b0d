-- What writing an image answers, as the paper numbers it, and what the code's answer says by it. Assumes nothing.
use Rattle.std.specs.Prelude.{ℕ, ◌≡◌, Result, Ok, Err}
use Rattle.std.proofs.Common.{arith}
use Rattle.parts.specs.Refusal.{accepted, refusal_number}
use Rattle.parts.specs.declared.refusal.Refusal.{Refusal}

-- a number, 0 for accepted, and the image's length, which is 0 beside a refusal
pub record Written : Type 0 where
  pub refusal : ℕ
  pub length : ℕ

-- accepted: 0 and the length; refused: the number and no length
abbrev pub written_of : Result ℕ Refusal → Written
written_of (Ok n) = record { refusal = accepted; length = n }
written_of (Err r) = record { refusal = refusal_number r; length = 0 }

-- a refusal's number is not 0
pub refuses_not_zero : (r : Refusal) → refusal_number r ≡ accepted → ⊥
refuses_not_zero r h = grind arith
