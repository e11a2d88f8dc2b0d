-- What a verdict says of all states of a run whose configuration is accepted: when the published WeakIsr and StrongIsr first
-- fail, and the greatest hw of any presuming replica. Assumes nothing.
use Rattle.std.specs.Prelude.{ℕ, zero, suc, ◌≤◌, ◌<◌, ◌≡◌, refl, Bool, true, List, ◌∷◌, map, ◌↔◌, length, get_or}
use Rattle.std.proofs.Common.{sym, ap, ◌∙◌, arith}
use Rattle.std.proofs.lemmas.List.{length-map}
use Rattle.logic.specs.Tests.{true_false, every_at, first_failing, failing_zero, failing_at}
use Rattle.logic.specs.Greatest.{greatest_of, greatest_of_at, greatest_of_by}
use Rattle.logic.specs.Maps.{map_at}
use Rattle.parts.specs.Refusal.{accepted}
use Rattle.cluster.specs.declared.State.{State}
use Rattle.cluster.specs.State.{replica_count_of, replica_at, zero_state}
use Rattle.cluster.specs.Rules.{rules}
use Rattle.cluster.specs.Actions.{replica_presumes_leadership}
use Rattle.questions.specs.declared.Property.{Property}
use Rattle.questions.specs.declared.Property.TheVariants as asked
use Rattle.questions.specs.Isr.{ask_isr}
use Rattle.questions.specs.Exposed.{exposed, exposed_at, exposed_by}
use Rattle.published.specs.KafkaReplication.{Constants, ModelState, WeakIsr, StrongIsr}
use Rattle.published.specs.Meaning.{constants_of, meaning}
use Rattle.published.specs.Properties.{weak_is_published, strong_is_published}
use Rattle.published.proofs.Behaviours.{states_after}
use Rattle.runs.specs.Answer.{Verdict}
use Rattle.runs.specs.Run.{opening, weak_holds, strong_holds, judge}
use Rattle.runs.specs.Opening.{first_state, opening_holds, opened}
use Rattle.verdicts.specs.RunBehaviour.{accepted_actions, states_of, state_at, constants_in, states_are, states_within, state_kept}

-- of a run whose configuration is accepted
module _ (run : List ℕ) (ok : (opening run).refusal ≡ accepted) where
  -- ---- when a property first fails
  module _ (property : Property) where
    abbrev holds : State → Bool
    holds s = (ask_isr property s).holds

    -- what the states behind the first answer
    abbrev answers : List Bool
    answers = map holds (states_after (first_state run) (accepted_actions run))

    -- P is the published property
    module _ (P : Constants → ModelState → Type 0)
        (published : (s : State) → rules s ≡ true → holds s ≡ true ↔ P (constants_of s.limits) (meaning s)) where
      abbrev Holds : ℕ → Type 0
      Holds n = P (constants_in run) (meaning (state_at run n))

      answer_at : (n : ℕ) → n ≤ (judge run).tally.accepted → get_or (map holds (states_of run)) n true ≡ true ↔ Holds n
      answer_at n h =
          let kept = state_kept run ok n h in
          rw (map_at holds (states_of run) n zero_state true ((states_within run ok n).0 h), ← kept.limits) (published (state_at run n) kept.rules)

      -- it holds of the fresh state
      first_holds : Holds 0
      first_holds = (answer_at 0 (omega arith)).0 (opening_holds run ok property)

      -- and up to state k where the first k answers say so
      hold_up_to : (k : ℕ) → k ≤ (judge run).tally.accepted → ((i : ℕ) → i < k → get_or answers i true ≡ true) → (n : ℕ) → n ≤ k → Holds n
      hold_up_to k h f zero l = first_holds
      hold_up_to k h f (suc i) l = (answer_at (suc i) (omega arith)).0 (f i (omega arith))

      fails_at : (i : ℕ) → first_failing 1 answers ≡ suc i
          → (suc i ≤ (judge run).tally.accepted) × (Holds (suc i) → ⊥) × ((n : ℕ) → n ≤ i → Holds n)
      fails_at i e =
          let f = failing_at 0 i answers (omega arith) in
          let l : suc i ≤ (judge run).tally.accepted = (states_within run ok (suc i)).1 (omega (arith, f.0, length-map (states_of run) holds)) in
          (l, (λ p. true_false (sym ((answer_at (suc i) l).1 p) ∙ f.1)), hold_up_to i (omega arith) f.2)

      zero_where_all_hold : ((n : ℕ) → n ≤ (judge run).tally.accepted → Holds n) → (k : ℕ) → first_failing 1 answers ≡ k → k ≡ 0
      zero_where_all_hold f zero e = refl
      zero_where_all_hold f (suc i) e = let p = fails_at i e in absurd (p.1 (f (suc i) p.0))

      never_fails : first_failing 1 answers ≡ 0 ↔ ((n : ℕ) → n ≤ (judge run).tally.accepted → Holds n)
      never_fails = (
        (λ e. hold_up_to (judge run).tally.accepted (omega arith) (λ i l. every_at answers ((failing_zero 0 answers).0 e) i)),
        (λ f. zero_where_all_hold f (first_failing 1 answers) refl),
      )

  -- ---- weak ISR
  weak_number : (judge run).tally.weak ≡ first_failing 1 (answers asked.WeakIsr)
  weak_number =
      ap (λ (v : Verdict). v.tally.weak) (opened run ok)
      ∙ ap (λ (states : List State). first_failing 1 (map weak_holds states)) (states_are run ok)

  -- 0 exactly where the published WeakIsr holds of every state of the run
  pub weak_never : (judge run).tally.weak ≡ 0 ↔ ((n : ℕ) → n ≤ (judge run).tally.accepted → WeakIsr (constants_in run) (meaning (state_at run n)))
  weak_never = rw weak_number (never_fails asked.WeakIsr WeakIsr weak_is_published)

  -- otherwise the number of the first state that fails it
  pub weak_first : (i : ℕ) → (judge run).tally.weak ≡ suc i
      → (suc i ≤ (judge run).tally.accepted)
      × (WeakIsr (constants_in run) (meaning (state_at run (suc i))) → ⊥)
      × ((n : ℕ) → n ≤ i → WeakIsr (constants_in run) (meaning (state_at run n)))
  weak_first = rw weak_number (fails_at asked.WeakIsr WeakIsr weak_is_published)

  -- ---- strong ISR, likewise
  strong_number : (judge run).tally.strong ≡ first_failing 1 (answers asked.StrongIsr)
  strong_number =
      ap (λ (v : Verdict). v.tally.strong) (opened run ok)
      ∙ ap (λ (states : List State). first_failing 1 (map strong_holds states)) (states_are run ok)

  pub strong_never : (judge run).tally.strong ≡ 0 ↔ ((n : ℕ) → n ≤ (judge run).tally.accepted → StrongIsr (constants_in run) (meaning (state_at run n)))
  strong_never = rw strong_number (never_fails asked.StrongIsr StrongIsr strong_is_published)

  pub strong_first : (i : ℕ) → (judge run).tally.strong ≡ suc i
      → (suc i ≤ (judge run).tally.accepted)
      × (StrongIsr (constants_in run) (meaning (state_at run (suc i))) → ⊥)
      × ((n : ℕ) → n ≤ i → StrongIsr (constants_in run) (meaning (state_at run n)))
  strong_first = rw strong_number (fails_at asked.StrongIsr StrongIsr strong_is_published)

  -- ---- exposed
  exposed_number : (judge run).tally.exposed ≡ greatest_of (map exposed (states_of run))
  exposed_number =
      ap (λ (v : Verdict). v.tally.exposed) (opened run ok)
      ∙ ap (λ (states : List State). greatest_of (map exposed (first_state run ∷ states))) (states_are run ok)

  -- at least the hw of every presuming replica in every state of the run
  pub exposed_run_at : (n : ℕ) → n ≤ (judge run).tally.accepted → (r : ℕ) → r < replica_count_of (first_state run).limits
      → replica_presumes_leadership (state_at run n) r ≡ true → (replica_at (state_at run n) r).hw ≤ (judge run).tally.exposed
  exposed_run_at n h r l p =
      let b : n < length (map exposed (states_of run)) = rw length-map ((states_within run ok n).0 h) in
      omega (
        arith,
        exposed_at (state_at run n) r (rw (state_kept run ok n h).limits l) p,
        map_at exposed (states_of run) n zero_state 0 ((states_within run ok n).0 h),
        greatest_of_at (map exposed (states_of run)) n b,
        exposed_number,
      )

  -- and at most every number that none of these hws exceeds
  pub exposed_run_by : (k : ℕ)
      → ((n : ℕ) → n ≤ (judge run).tally.accepted → (r : ℕ) → r < replica_count_of (first_state run).limits
      → replica_presumes_leadership (state_at run n) r ≡ true → (replica_at (state_at run n) r).hw ≤ k)
      → (judge run).tally.exposed ≤ k
  exposed_run_by k f =
      rw exposed_number
      (greatest_of_by (map exposed (states_of run)) k
      (λ n b.
      let l : n < length (states_of run) = rw length-map at b in
      let h : n ≤ (judge run).tally.accepted = (states_within run ok n).1 l in
      rw (map_at exposed (states_of run) n zero_state 0 l)
      (exposed_by (state_at run n) k (λ r c. f n h r (rw (state_kept run ok n h).limits at c)))))
