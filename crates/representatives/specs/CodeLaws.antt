-- What the code of representatives works with: the replicas that a comparison reads, and what asking for a representative answers.
-- Assumes nothing.
use Rattle.std.specs.Prelude.{◌≡◌, refl, true, List, ◌∷◌, ℕ, ◌≤◌, ◌<◌}
use Rattle.std.proofs.Common.{ap, ◌∙◌, arith, le_refl}
use Rattle.logic.specs.Refuse.{by_accepted, by_refused, by_number, by_other, listed}
use Rattle.parts.specs.Refusal.{accepted}
use Rattle.cluster.specs.declared.State.{State}
use Rattle.cluster.specs.State.{replica_count_of, replica_in, tidy}
use Rattle.cluster.specs.Answer.{Outcome}
use Rattle.cluster.specs.Outcome.{answer, as_given}
use Rattle.cluster.specs.Rules.{rules, state_refusal, state_numbers}
use Rattle.cluster.specs.RuleLaws.{met_refusal, state_listed, rules_bounded, rules_logs_bounded}
use Rattle.renamings.specs.Names.{new_name, old_name, inverted, name_in}
use Rattle.renamings.specs.Rename.{rename_state, renamed, Renames}
use Rattle.renamings.specs.Renaming.{from_below}
use Rattle.renamings.specs.Rows.{renaming_of}
use Rattle.renamings.specs.CodeLaws.{renames_wide, back_old}
use Rattle.representatives.specs.Representative.{least_renaming, representative, represent}

pub represent_broken : (s : State) → (state_refusal s ≡ accepted → ⊥) → answer (state_refusal s) s ≡ represent s
unfolding represent
represent_broken s h = by_refused (state_refusal s) (as_given s) (answer accepted (representative s)) h

-- a state that meets the rules has its representative
pub represent_is : (s : State) → rules s ≡ true → answer accepted (representative s) ≡ represent s
unfolding represent
represent_is s h = by_accepted (state_refusal s) (as_given s) (answer accepted (representative s)) (met_refusal s h)

pub represent_met : (s t : State) (p : List ℕ) → rules s ≡ true → p ≡ least_renaming s → t ≡ rename_state (new_name p) (old_name p) (tidy s)
    → answer accepted t ≡ represent s
unfolding representative renamed
represent_met s t p h e q =
    ap (answer accepted) (q ∙ ap (λ (r : List ℕ). rename_state (new_name r) (old_name r) (tidy s)) e) ∙ represent_is s h

-- a refused representative gives back the given state
pub represent_given : (s : State) → ((represent s).refusal ≡ accepted → ⊥) → (represent s).state ≡ s
unfolding represent
represent_given s h =
    ap (λ (o : Outcome). o.state) (by_other (λ (o : Outcome). o.refusal) (state_refusal s) (as_given s) (answer accepted (representative s)) refl h)

-- its number is that of the state, so it is 0 or one of the state's
pub represent_number : (s : State) → (represent s).refusal ≡ state_refusal s
unfolding represent
represent_number s =
    by_number (λ (o : Outcome). o.refusal) (state_refusal s) (as_given s) (answer accepted (representative s)) (λ k. refl) refl

pub represent_listed : (s : State) → listed (accepted ∷ state_numbers) (represent s).refusal ≡ true
represent_listed s = ap (listed (accepted ∷ state_numbers)) (represent_number s) ∙ state_listed s

-- ---- the replica that is named j under a renaming, read by the inverse: its log is in its array
pub old_short : (s : State) → rules s ≡ true → (p back : List ℕ) → Renames s p → back ≡ inverted p
    → (j : ℕ) → j < replica_count_of s.limits → (replica_in s.replicas (name_in back j)).end ≤ 16
old_short s h p back f e j l =
    let n = replica_count_of s.limits in
    let few = (rules_bounded s h).replicas in
    rw (back_old p back (renames_wide s h p f) e j (omega (arith, few)))
    (rules_logs_bounded s h (old_name p j) (from_below (renaming_of n few p f) n (le_refl n) j l))
