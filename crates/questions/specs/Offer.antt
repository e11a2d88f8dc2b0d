-- Offer: "for a state and a kind, the smallest accepted action by (a, b, e), unused operands 0." Refusals: 41 to 47 "in place of 1",
-- "then 2, then 26 exactly when no operands are accepted." Assumes nothing.
use Rattle.std.specs.Prelude.{ℕ, Bool, eqb, ltb}
use Rattle.std.proofs.Math.Option.{Option, none, some}
use Rattle.logic.specs.Refuse.{refuse, first_refusal, by_refusal}
use Rattle.logic.specs.Search.{Triple, first_triple}
use Rattle.parts.specs.Refusal.{accepted, unknown_kind, no_offer}
use Rattle.cluster.specs.declared.State.{State}
use Rattle.cluster.specs.declared.Bounds.{Bounds}
use Rattle.cluster.specs.State.{tidy}
use Rattle.cluster.specs.Rules.{state_refusal}
use Rattle.cluster.specs.Act.{last_kind, kind_of, action_of, operand_bounds, action_refusal}
use Rattle.questions.specs.Answer.{OfferAnswer}

-- ---- the smallest that is accepted
-- the bound of e, whatever a and b are
abbrev pub epoch_bound : Bounds → ℕ → ℕ → ℕ
epoch_bound bounds a b = bounds.e

-- nothing refuses the action of this kind with these operands, on a state that meets the rules and is tidy
unfoldable pub is_accepted : State → ℕ → ℕ → ℕ → ℕ → Bool
is_accepted s kind a b e = eqb (action_refusal s (action_of kind a b e)) accepted

-- "the smallest accepted action by (a, b, e)", of those whose operands are below these bounds
unfoldable pub smallest_accepted : State → ℕ → Bounds → Option Triple
smallest_accepted s kind bounds = first_triple bounds.a bounds.b (epoch_bound bounds) (is_accepted s kind)

-- ---- the answer
abbrev pub offer_answer : ℕ → ℕ → ℕ → ℕ → OfferAnswer
offer_answer number a b e = record { refusal = number; a = a; b = b; e = e }

-- refused: a number, with zeros beside it
abbrev pub offer_refused : ℕ → OfferAnswer
offer_refused number = offer_answer number 0 0 0

-- an action's operands, or 26
unfoldable pub offer_of : Option Triple → OfferAnswer
offer_of none = offer_refused no_offer
offer_of (some t) = offer_answer accepted t.first t.second t.third

-- what a state that meets the rules and is tidy offers of a kind from 0 to 8
unfoldable pub find_offer : State → ℕ → OfferAnswer
find_offer s kind = offer_of (smallest_accepted s kind (operand_bounds s.limits (kind_of kind)))

-- 41 to 47, "then 2"
unfoldable pub offer_refusal : State → ℕ → ℕ
offer_refusal s kind = first_refusal (state_refusal s) (refuse (ltb last_kind kind) unknown_kind accepted)

-- what any state offers of any kind: as its tidy form does
unfoldable pub offer : State → ℕ → OfferAnswer
offer s kind = by_refusal (offer_refusal s kind) offer_refused (find_offer (tidy s) kind)
