-- What an offer says: the action offered is accepted and none smaller is, and 26 says that none at all is. Operands are any
-- numbers here; accepted ones are bytes. Assumes nothing.
--
--   Accepted s kind t                        the action of this kind with the operands t is accepted
--   Offered s kind t                         it is, none smaller is, and the operands that the kind does not use are 0
--   offer_numbers                            the numbers that an offer may give beside 0
--   Case s kind o                            the four cases of an answer o: a broken state, an unknown kind, no offer, an offer
--   offer_met, offer_unmet                   the answer of a state that meets the rules, and of one that does not
--   offer_case                               the answer is one of the four cases
--   offer_accepted                           what an accepted answer names is Offered
--   offer_broken, offer_unknown, offer_none  41 to 47, 2 and 26, each exactly where it belongs
--   offer_broken_is                          a state that breaks a rule gets its number, with zeros beside it
--   offer_zeros                              every refusal has zeros beside it
--   accepted_bytes                           accepted operands are bytes
--   offer_some                               where any action of the kind is accepted, one is offered
--   offer_listed                             an offer gives 0 or one of offer_numbers
--   offer_same                               equal states get equal offers
use Rattle.std.specs.Prelude.{ℕ, ◌+◌, ◌≤◌, ◌<◌, ◌≡◌, Bool, List, [], ◌∷◌, ◌++◌, ◌↔◌, ltb}
use Rattle.std.proofs.Math.Path.{refl, ap}
use Rattle.std.proofs.Common.{sym, ◌∙◌, ap₂, subst, arith}
use Rattle.std.proofs.Math.Bool.{true, false}
use Rattle.std.proofs.Math.Option.{Option, none, some}
use borrow.Author.Tests.{ltb-true, ltb-false, eqb-true, eq-eqb}
use Rattle.logic.specs.Tests.{every, every_at, true_false}
use Rattle.logic.specs.Refuse.{refuse, refuse_zero, first_refusal, first_yes, first_no, by_refusal, by_refused, listed, listed_within, listed_not}
use Rattle.logic.specs.Search.{Triple, triple, Before}
use Rattle.logic.proofs.SearchLaws.{first_triple_none, first_triple_some}
use Rattle.parts.specs.Refusal.{accepted, unknown_kind, no_offer}
use Rattle.cluster.specs.declared.State.{State}
use Rattle.cluster.specs.declared.Action.{Action}
use Rattle.cluster.specs.declared.Bounds.{Bounds}
use Rattle.cluster.specs.State.{replica_count_of, max_leader_epoch_of, Same, tidy}
use Rattle.cluster.specs.Rules.{rules, state_refusal, state_numbers}
use Rattle.cluster.specs.RuleLaws.{met_refusal, broken_refusal, broken_listed}
use Rattle.cluster.specs.Predicates.{rules_iff}
use Rattle.cluster.specs.Equality.{same_iff_tidy}
use Rattle.cluster.specs.Unused.{state_refusal_same, rules_tidy}
use Rattle.cluster.specs.Act.{last_kind, kind_of, action_of, uses, operand_bound, operand_bounds, operand_tests, operands_fit, action_refusal, act}
use Rattle.cluster.specs.ActLaws.{refusal_of_met, accepts}
use Rattle.cluster.specs.Accepted.{operand_iff, action_accepted}
use Rattle.actions.specs.Answers.{act_number}
use Rattle.questions.specs.Answer.{OfferAnswer}
use Rattle.questions.specs.Offer.{epoch_bound, is_accepted, smallest_accepted, offer_answer, offer_refused, offer_of, find_offer, offer_refusal, offer}

-- the action of a kind with these operands is accepted
abbrev pub Accepted : State → ℕ → Triple → Type 0
Accepted s kind t = (act s (action_of kind t.first t.second t.third)).refusal ≡ accepted

-- ---- what is offered is accepted, none before it is, and what the kind does not use is 0
pub record Offered (s : State) (kind : ℕ) (t : Triple) : Type 0 where
  pub itself : Accepted s kind t
  pub smallest : (u : Triple) → Before u t → Accepted s kind u → ⊥
  pub unused_a : (uses (kind_of kind)).a ≡ false → t.first ≡ 0
  pub unused_b : (uses (kind_of kind)).b ≡ false → t.second ≡ 0
  pub unused_e : (uses (kind_of kind)).e ≡ false → t.third ≡ 0

-- ---- operands
-- below its bound, each is a byte
operand_byte : (used : Bool) (bound n : ℕ) → bound ≤ 16 → n < operand_bound used bound → n < 256
unfolding operand_bound
operand_byte true bound n l h = omega arith
operand_byte false bound n l h = omega arith

-- ---- the search, for a state that meets the rules
module _ (s : State) (kind : ℕ) (met : rules s ≡ true) where
  abbrev bounds : Bounds
  bounds = operand_bounds (tidy s).limits (kind_of kind)

  -- the action of the kind with these operands
  abbrev action_by : Triple → Action
  action_by t = action_of kind t.first t.second t.third

  -- it is accepted exactly where its refusal on the tidy state is 0
  accepted_iff : (t : Triple) → Accepted s kind t ↔ action_refusal (tidy s) (action_by t) ≡ accepted
  accepted_iff t = (
    (λ a. (accepts s (action_by t) a).unrefused),
    (λ r. act_number s (action_by t) ∙ sym (refusal_of_met s (action_by t) met) ∙ r),
  )

  -- the operands of an accepted action are below their bounds
  operands_below : (t : Triple) → Accepted s kind t → (t.first < bounds.a) × (t.second < bounds.b) × (t.third < bounds.e)
  unfolding operands_fit
  operands_below t a =
      let p = every_at (operand_tests (tidy s).limits (action_by t)) (action_accepted (tidy s) (action_by t) ((accepted_iff t).0 a)).0 in
      (ltb-true _ _ (p 0), ltb-true _ _ (p 1), ltb-true _ _ (p 2))

  -- so they are bytes
  fitting_bytes : (t : Triple) → Accepted s kind t → (t.first < 256) × (t.second < 256) × (t.third < 256)
  unfolding operand_bounds
  fitting_bytes t a =
      let p = operands_below t a in
      let c = ((rules_iff (tidy s)).0 (rules_tidy s ∙ met)).s1.ranges in
      let five : replica_count_of (tidy s).limits ≤ 16 = omega (arith, c.replicas) in
      let sixteen : max_leader_epoch_of (tidy s).limits + 1 ≤ 16 = omega (arith, c.epochs) in
      (operand_byte _ _ _ five p.0, operand_byte _ _ _ five p.1, operand_byte _ _ _ sixteen p.2)

  -- every accepted action is tried
  not_missed : (t : Triple)
      → (t.first < bounds.a → t.second < bounds.b → t.third < bounds.e → is_accepted (tidy s) kind t.first t.second t.third ≡ false)
      → Accepted s kind t → ⊥
  unfolding is_accepted
  not_missed t f a =
      let p = operands_below t a in
      true_false (sym (eq-eqb _ _ ((accepted_iff t).0 a)) ∙ f p.0 p.1 p.2)

  -- where the search finds nothing, none is accepted
  none_accepted : smallest_accepted (tidy s) kind bounds ≡ none → (t : Triple) → Accepted s kind t → ⊥
  unfolding smallest_accepted
  none_accepted e t = not_missed t (first_triple_none _ _ (epoch_bound bounds) (is_accepted (tidy s) kind) e t.first t.second t.third)

  -- what it finds is the offer
  offered_by : (t : Triple) → smallest_accepted (tidy s) kind bounds ≡ some t → Offered s kind t
  unfolding smallest_accepted is_accepted operand_bounds
  offered_by t e =
      let f = first_triple_some _ _ (epoch_bound bounds) (is_accepted (tidy s) kind) t e in
      record {
        itself = (accepted_iff t).1 (eqb-true _ _ f.passes);
        smallest = λ u b. not_missed u (f.smallest u b);
        unused_a = ((operand_iff _ _ _).0 f.below.0).1;
        unused_b = ((operand_iff _ _ _).0 f.below.1).1;
        unused_e = ((operand_iff _ _ _).0 f.below.2).1;
      }

-- ---- statements that both hold, or both fail, are equivalent
both_hold : {A B : Type 0} → A → B → A ↔ B
both_hold a b = ((λ x. b), (λ y. a))

both_fail : {A B : Type 0} → (A → ⊥) → (B → ⊥) → A ↔ B
both_fail f g = ((λ a. absurd (f a)), (λ b. absurd (g b)))

-- ---- the offer
-- the numbers that it may give beside 0: 41 to 47, "then 2, then 26"
abbrev pub offer_numbers : List ℕ
offer_numbers = state_numbers ++ unknown_kind ∷ no_offer ∷ []

module _ (s : State) (kind : ℕ) where
  -- its four cases, each with its number and what holds then
  pub data Case : OfferAnswer → Type 0 where
    broken : rules s ≡ false → Case (offer_refused (state_refusal s))
    unknown : rules s ≡ true → last_kind < kind → Case (offer_refused unknown_kind)
    nothing : rules s ≡ true → kind ≤ last_kind → ((t : Triple) → Accepted s kind t → ⊥) → Case (offer_refused no_offer)
    found : rules s ≡ true → kind ≤ last_kind → (t : Triple) → Offered s kind t → Case (offer_answer accepted t.first t.second t.third)

  case_found : rules s ≡ true → kind ≤ last_kind → (o : Option Triple)
      → smallest_accepted (tidy s) kind (operand_bounds (tidy s).limits (kind_of kind)) ≡ o → Case (offer_of o)
  unfolding offer_of
  case_found met l none e = nothing met l (none_accepted s kind met e)
  case_found met l (some t) e = found met l t (offered_by s kind met t e)

  case_known : rules s ≡ true → (b : Bool) → ltb last_kind kind ≡ b
      → Case (by_refusal (refuse b unknown_kind accepted) offer_refused (find_offer (tidy s) kind))
  unfolding find_offer refuse by_refusal
  case_known met true e = unknown met (ltb-true last_kind kind e)
  case_known met false e = case_found met (ltb-false last_kind kind e) _ refl

  -- the answer of a state that meets the rules, and of one that does not
  pub offer_met : rules s ≡ true → by_refusal (refuse (ltb last_kind kind) unknown_kind accepted) offer_refused (find_offer (tidy s) kind) ≡ offer s kind
  unfolding offer offer_refusal
  offer_met h =
      ap (λ (n : ℕ). by_refusal n offer_refused (find_offer (tidy s) kind)) (first_no (state_refusal s) _ (met_refusal s h))

  pub offer_unmet : rules s ≡ false → offer_refused (state_refusal s) ≡ offer s kind
  unfolding offer offer_refusal
  offer_unmet h =
      by_refused (state_refusal s) offer_refused (find_offer (tidy s) kind) (broken_refusal s h)
      ∙ ap (λ (n : ℕ). by_refusal n offer_refused (find_offer (tidy s) kind)) (first_yes (state_refusal s) _ (broken_refusal s h))

  pub offer_case : Case (offer s kind)
  offer_case = go (rules s) refl
    where
      go : (b : Bool) → rules s ≡ b → Case (offer s kind)
      go true e = subst Case (offer_met e) (case_known e (ltb last_kind kind) refl)
      go false e = subst Case (offer_unmet e) (broken e)

  pub offer_accepted : (offer s kind).refusal ≡ accepted → Offered s kind (triple (offer s kind).a (offer s kind).b (offer s kind).e)
  offer_accepted = go (offer s kind) offer_case
    where
      go : (o : OfferAnswer) → Case o → o.refusal ≡ accepted → Offered s kind (triple o.a o.b o.e)
      go o (broken r) h = absurd (broken_refusal s r h)
      go o (unknown r l) h = absurd (omega arith)
      go o (nothing r l f) h = absurd (omega arith)
      go o (found r l t f) h = f

  met_or_not : rules s ≡ true → rules s ≡ false → ⊥
  met_or_not h k = true_false (sym h ∙ k)

  -- ---- the refusals, each exactly where it belongs, over all operands; zeros beside them
  pub offer_broken : listed state_numbers (offer s kind).refusal ≡ true ↔ rules s ≡ false
  unfolding listed
  offer_broken = go (offer s kind) offer_case
    where
      go : (o : OfferAnswer) → Case o → listed state_numbers o.refusal ≡ true ↔ rules s ≡ false
      go o (broken r) = both_hold (broken_listed s r) r
      go o (unknown r l) = both_fail (λ e. true_false (sym e)) (met_or_not r)
      go o (nothing r l f) = both_fail (λ e. true_false (sym e)) (met_or_not r)
      go o (found r l t f) = both_fail (λ e. true_false (sym e)) (met_or_not r)

  -- which is then the state's own number, and no other
  pub offer_broken_is : rules s ≡ false → offer s kind ≡ offer_refused (state_refusal s)
  offer_broken_is h = sym (offer_unmet h)

  not_of_state : (k : ℕ) → listed state_numbers k ≡ false → rules s ≡ false → state_refusal s ≡ k → ⊥
  not_of_state k unlisted r = listed_not state_numbers (state_refusal s) k (broken_listed s r) unlisted

  pub offer_unknown : (offer s kind).refusal ≡ unknown_kind ↔ (rules s ≡ true) × (last_kind < kind)
  unfolding listed
  offer_unknown = go (offer s kind) offer_case
    where
      go : (o : OfferAnswer) → Case o → o.refusal ≡ unknown_kind ↔ (rules s ≡ true) × (last_kind < kind)
      go o (broken r) = both_fail (not_of_state unknown_kind refl r) (λ h. met_or_not h.0 r)
      go o (unknown r l) = both_hold refl (r, l)
      go o (nothing r l f) = both_fail (omega arith) (λ h. omega arith)
      go o (found r l t f) = both_fail (omega arith) (λ h. omega arith)

  pub offer_none : (offer s kind).refusal ≡ no_offer ↔ (rules s ≡ true) × (kind ≤ last_kind) × ((t : Triple) → Accepted s kind t → ⊥)
  unfolding listed
  offer_none = go (offer s kind) offer_case
    where
      go : (o : OfferAnswer) → Case o → o.refusal ≡ no_offer ↔ (rules s ≡ true) × (kind ≤ last_kind) × ((t : Triple) → Accepted s kind t → ⊥)
      go o (broken r) = both_fail (not_of_state no_offer refl r) (λ h. met_or_not h.0 r)
      go o (unknown r l) = both_fail (omega arith) (λ h. omega arith)
      go o (nothing r l f) = both_hold refl (r, l, f)
      go o (found r l t f) = both_fail (omega arith) (λ h. h.2 t f.itself)

  pub offer_zeros : ((offer s kind).refusal ≡ accepted → ⊥) → offer s kind ≡ offer_refused (offer s kind).refusal
  offer_zeros = go (offer s kind) offer_case
    where
      go : (o : OfferAnswer) → Case o → (o.refusal ≡ accepted → ⊥) → o ≡ offer_refused o.refusal
      go o (broken r) h = refl
      go o (unknown r l) h = refl
      go o (nothing r l f) h = refl
      go o (found r l t f) h = absurd (h refl)

  -- an accepted action is of a known kind, on a state that meets the rules
  accepted_met : (t : Triple) → Accepted s kind t → (rules s ≡ true) × (kind ≤ last_kind)
  unfolding action_refusal
  accepted_met t a =
      let p = accepts s (action_of kind t.first t.second t.third) a in
      (p.met, ltb-false last_kind kind (refuse_zero _ _ _ p.unrefused).0)

  -- accepted operands are bytes, so where no bytes are accepted no operands are
  pub accepted_bytes : (t : Triple) → Accepted s kind t → (t.first < 256) × (t.second < 256) × (t.third < 256)
  accepted_bytes t a = fitting_bytes s kind (accepted_met t a).0 t a

  -- wherever any action of the kind is accepted, one is offered
  pub offer_some : (t : Triple) → Accepted s kind t → (offer s kind).refusal ≡ accepted
  offer_some t a = go (offer s kind) offer_case
    where
      go : (o : OfferAnswer) → Case o → o.refusal ≡ accepted
      go o (broken r) = absurd (met_or_not (accepted_met t a).0 r)
      go o (unknown r l) = absurd (omega (arith, (accepted_met t a).1))
      go o (nothing r l f) = absurd (f t a)
      go o (found r l u f) = refl

  pub offer_listed : listed (accepted ∷ offer_numbers) (offer s kind).refusal ≡ true
  unfolding listed every
  offer_listed = go (offer s kind) offer_case
    where
      go : (o : OfferAnswer) → Case o → listed (accepted ∷ offer_numbers) o.refusal ≡ true
      go o (broken r) = listed_within state_numbers (accepted ∷ offer_numbers) (state_refusal s) refl (broken_listed s r)
      go o (unknown r l) = refl
      go o (nothing r l f) = refl
      go o (found r l t f) = refl

-- ---- equal states get equal offers
pub offer_same : (s t : State) (kind : ℕ) → Same s t → offer s kind ≡ offer t kind
unfolding offer offer_refusal
offer_same s t kind m =
    ap₂ (λ (n : ℕ) (u : State). by_refusal (first_refusal n (refuse (ltb last_kind kind) unknown_kind accepted)) offer_refused (find_offer u kind))
    (state_refusal_same s t m) ((same_iff_tidy s t).0 m)
