-- The searches for an offer are chains over ranges, and find what the definition finds; what is offered goes by what they find.
-- Assumes nothing.
--
--   found             what a chain found, in the words of searches
--   first_mapped      `find_map` over the numbers below n finds what `first_below` finds
--   accepted_is       an answer is accepted exactly where its number is 0
--   offer_invalid     what a state that breaks a rule offers
--   offer_no_kind     what a state that meets the rules offers of an unknown kind
--   offer_found       what it offers of a known kind, by what a search found
use Rattle.std.specs.Prelude.{ℕ, ◌+◌, ◌-◌, ◌≤◌, ◌<◌, ◌≡◌, true, eqb, ltb, Result, Ok, Err, Option, None, Some, MatchOption, IsTrue}
use Rattle.std.specs.Fn.{Called}
use Rattle.std.specs.Iterator.Runs.{Run, SomeRun, AllItemsGive, IsFirstToGive, CallKeepsClosure}
use Rattle.std.specs.Option.{IsSomeAnd, IfSome, option_map, ok_or}
use Rattle.std.specs.Result.{is_ok}
use Rattle.std.specs.declared.ops.Range.{Range}
use Rattle.std.proofs.Math.Path.{refl}
use Rattle.std.proofs.Common.{sym, ap, ◌∙◌, subst, zero-add, arith, le-ltb, lt-ltb, ne_eqb}
use Rattle.std.proofs.Math.Option.{Option as Found, none, some}
use Rattle.std.proofs.iter.Yields.{nat_range_steps}
use Rattle.std.proofs.iter.runs.Sources.{range_runs}
use denote.Param.Members.{Mut}
use Rattle.logic.specs.Refuse.{refuse, refuse_yes, refuse_none, by_refusal, by_accepted, by_refused}
use Rattle.logic.specs.Search.{first_below}
use Rattle.logic.proofs.SearchLaws.{first_found}
use Rattle.parts.specs.declared.refusal.Refusal.{Refusal}
use Rattle.parts.specs.declared.refusal.Refusal.TheVariants.{NoOffer}
use Rattle.parts.specs.Refusal.{accepted, unknown_kind, refusal_number, answer_number}
use Rattle.cluster.specs.declared.State.{State}
use Rattle.cluster.specs.State.{tidy}
use Rattle.cluster.specs.Rules.{rules, state_refusal}
use Rattle.cluster.specs.RuleLaws.{refusal_broken}
use Rattle.cluster.specs.Act.{last_kind, kind_of, operand_bounds}
use Rattle.questions.specs.declared.Operands.{Operands}
use Rattle.questions.specs.Answer.{offer_answer_of, triple_of}
use Rattle.questions.specs.IsrLaws.{first_nowhere, refusal_not_zero}
use Rattle.questions.specs.Offer.{smallest_accepted, offer_refused, offer_of, find_offer, offer}
use Rattle.questions.specs.OfferTheorems.{offer_met, offer_unmet}

-- ---- `find_map` over the numbers below n
-- what it found, in the words of searches
abbrev pub found : {A B : Type 0} → (B → A) → Option B → Found A
found h None = none
found h (Some y) = some (h y)

-- each call leaves the callee as it was, and finds at k what is first at k
module _ {F A B : Type 0} {g : Mut F (ℕ × Unit {0}) (Option B)} (f : F) (h : B → A) (first : ℕ → Found A) (n : ℕ)
    (each : (k : ℕ) (o : Option B) (q : F) → Called g f (k, tt) o q → (q ≡ f) × (found h o ≡ first k)) where
  -- a run over these numbers has k at place k, and all of them where it is whole
  module _ (p : Run nat_range_steps) (e : p.from ≡ record { start = 0; end = n }) where
    place : (k : ℕ) → k < p.len → p.at k ≡ Some k
    place k l = go (p.at k) ((range_runs p p.seen).3 k l ∙ ap (λ (s : Range ℕ). Some (s.start + k)) e)
      where
        go : (o : Option ℕ) → option_map (λ y. y) o ≡ Some (0 + k) → o ≡ Some k
        go None q = cc
        go (Some x) q = q ∙ ap Some (zero-add k)

    within : p.len ≤ n
    within = omega (arith, (range_runs p p.seen).0, ap (λ (s : Range ℕ). s.end - s.start) e)

    whole : IsTrue p.whole → p.len ≡ n
    whole w = omega (arith, (range_runs p p.seen).1 w, ap (λ (s : Range ℕ). s.end - s.start) e)

    missed : (k : ℕ) → k < p.len → IfSome (p.at k) (λ x. Called g f (x, tt) None f) → first k ≡ none
    missed k l w = sym (each k None f (subst (λ o. IfSome o (λ x. Called g f (x, tt) None f)) (place k l) w)).1

    missed_before : (k : ℕ) → k < p.len → IsSomeAnd (p.at k) (λ x. Called g f (x, tt) None f) → first k ≡ none
    missed_before k l w = sym (each k None f (subst (λ o. IsSomeAnd o (λ x. Called g f (x, tt) None f)) (place k l) w)).1

    hit : (k : ℕ) (y : B) → k < p.len → IsSomeAnd (p.at k) (λ x. Called g f (x, tt) (Some y) f) → first k ≡ some (h y)
    hit k y l w = sym (each k (Some y) f (subst (λ o. IsSomeAnd o (λ x. Called g f (x, tt) (Some y) f)) (place k l) w)).1

  keeps : CallKeepsClosure g f
  keeps a o q w = (each a.0 o q w).0

  pub first_mapped : (r : Option B)
      → SomeRun nat_range_steps (record { start = 0; end = n })
      (λ p. MatchOption r (IsTrue p.whole × AllItemsGive p g f None) (λ y. (i : ℕ) × (i < p.len) × (p.len ≡ i + 1) × IsFirstToGive p g f (Some y) None i))
      → found h r ≡ first_below n first
  first_mapped None (p, e, (w, all)) =
      sym (first_nowhere n first (λ k l. missed p e k (omega (arith, whole p e w)) (all keeps k)))
  first_mapped (Some y) (p, e, (i, l, k, is)) =
      first_found first n i (h y) (omega (arith, within p e))
      (first_nowhere i first (λ j m. missed_before p e j (omega arith) ((is keeps).1 j m)))
      (hit p e i y l (is keeps).0)

-- an answer is accepted exactly where its number is 0
pub accepted_is : (r : Result (Unit {0}) Refusal) (n : ℕ) → answer_number r ≡ n → is_ok r ≡ eqb n accepted
accepted_is (Ok x) n e = rw (← e) refl
accepted_is (Err r) n e = sym (ne_eqb n accepted (λ z. refusal_not_zero r (e ∙ z)))

-- ---- the offer
module _ (s : State) (kind : ℕ) where
  -- of a state that breaks a rule
  pub offer_invalid : (r : Refusal) → refusal_number r ≡ state_refusal s → offer_refused (refusal_number r) ≡ offer s kind
  offer_invalid r e = ap offer_refused e ∙ offer_unmet s kind (refusal_broken s (λ z. refusal_not_zero r (e ∙ z)))

  -- of one that meets them, of an unknown kind
  pub offer_no_kind : rules s ≡ true → last_kind < kind → offer_refused unknown_kind ≡ offer s kind
  offer_no_kind met l =
      by_refused unknown_kind offer_refused (find_offer (tidy s) kind) (λ e. omega arith)
      ∙ ap (λ (n : ℕ). by_refusal n offer_refused (find_offer (tidy s) kind)) (refuse_yes (ltb last_kind kind) unknown_kind accepted (lt-ltb last_kind kind l))
      ∙ offer_met s kind met

  answered : (o : Option Operands) → offer_answer_of (ok_or o NoOffer) ≡ offer_of (triple_of o)
  unfolding offer_of
  answered None = refl
  answered (Some x) = refl

  -- and of a known one, by what a search found
  pub offer_found : rules s ≡ true → kind ≤ last_kind → (o : Option Operands)
      → triple_of o ≡ smallest_accepted (tidy s) kind (operand_bounds (tidy s).limits (kind_of kind)) → offer_answer_of (ok_or o NoOffer) ≡ offer s kind
  unfolding find_offer
  offer_found met l o e =
      answered o ∙ ap offer_of e
      ∙ by_accepted (refuse (ltb last_kind kind) unknown_kind accepted) offer_refused (find_offer (tidy s) kind)
      (refuse_none (ltb last_kind kind) unknown_kind accepted (le-ltb last_kind kind l) refl)
      ∙ offer_met s kind met
