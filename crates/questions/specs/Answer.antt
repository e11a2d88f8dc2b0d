-- What is answered on weak and strong ISR, and by an offer, as the paper numbers it, and what the code's answers say by it. Assumes
-- nothing.
--
--   IsrAnswer         a number, 0 for accepted, whether the property holds, and where it fails
--   OfferAnswer       a number and the operands of an action
--   isr_answer_of     what the code answers of a property, by its number
--   offer_answer_of   what it answers of an offer
--   triple_of         what a search for an offer found, in the words of searches
use Rattle.std.specs.Prelude.{ℕ, Bool, true, false, Result, Ok, Err, Option, None, Some}
use Rattle.std.proofs.Math.Option.{Option as Found, none, some}
use Rattle.logic.specs.Search.{Triple, triple}
use Rattle.parts.specs.declared.refusal.Refusal.{Refusal}
use Rattle.parts.specs.Refusal.{accepted, refusal_number}
use Rattle.questions.specs.declared.Difference.{Difference}
use Rattle.questions.specs.declared.Operands.{Operands}

-- what a property answers: a number; whether it holds; where it fails, the smallest failing leader, member and offset, which are 0
-- otherwise. Beside a refusal `holds` is false.
pub record IsrAnswer : Type 0 where
  pub refusal : ℕ
  pub holds : Bool
  pub leader : ℕ
  pub member : ℕ
  pub offset : ℕ

-- an offer: a number and the operands of an action, which are 0 beside a refusal
pub record OfferAnswer : Type 0 where
  pub refusal : ℕ
  pub a : ℕ
  pub b : ℕ
  pub e : ℕ

-- no difference: the property holds; a difference: it fails there; refused: the number
abbrev pub isr_answer_of : Result (Option Difference) Refusal → IsrAnswer
isr_answer_of (Ok None) = record { refusal = accepted; holds = true; leader = 0; member = 0; offset = 0 }
isr_answer_of (Ok (Some d)) = record { refusal = accepted; holds = false; leader = d.leader; member = d.member; offset = d.offset }
isr_answer_of (Err r) = record { refusal = refusal_number r; holds = false; leader = 0; member = 0; offset = 0 }

-- offered: 0 and the operands; refused: the number
abbrev pub offer_answer_of : Result Operands Refusal → OfferAnswer
offer_answer_of (Ok o) = record { refusal = accepted; a = o.a; b = o.b; e = o.e }
offer_answer_of (Err r) = record { refusal = refusal_number r; a = 0; b = 0; e = 0 }

-- the operands that a search found, as searches have them
abbrev pub triple_of : Option Operands → Found Triple
triple_of None = none
triple_of (Some o) = some (triple o.a o.b o.e)
