-- What the search for the least image works with: the rows that it tries, and those that it passes over. Assumes nothing.
use Rattle.std.specs.Prelude.{ℕ, ◌+◌, ◌-◌, ◌≤◌, ◌<◌, ◌≡◌, refl, true, false, drop, None, Some}
use Rattle.std.proofs.Common.{sym, ◌∙◌, arith}
use Rattle.std.proofs.Math.Path.{ap}
use mathlib.Core.List.{List, [], ◌∷◌}
use Rattle.std.proofs.Math.Decide.{dec_lt}
use Rattle.logic.specs.Concat.{concat_below}
use Rattle.logic.specs.Order.{precedes, precedes_irreflexive}
use Rattle.logic.specs.Least.{better, least_from, least_turn, least_end, least_filtered, least_pass, better_not_before}
use Rattle.parts.specs.Leader.{Leader, leader_byte}
use Rattle.cluster.specs.declared.State.{State}
use Rattle.cluster.specs.State.{replica_count_of}
use Rattle.cluster.specs.Rules.{rules}
use Rattle.cluster.specs.RuleLaws.{rules_bounded}
use Rattle.renamings.specs.Names.{new_name, is_renaming, without_place, orders, rows, row}
use Rattle.renamings.specs.Rename.{rename_leader, Renames}
use Rattle.renamings.specs.Rows.{renaming_of, first-row}
use Rattle.renamings.specs.Fitting.{fitting_rows, factorial, fitting_row, behind_group, fitting_count, fitting_at, fitting_fits, fitting_first, fitting_one, behind_bounds, group_alike}
use Rattle.std.specs.declared.cmp.Ordering.TheVariants.{Greater}
use Rattle.representatives.specs.Comparison.{then_compare, is_less, numbers_greater}
use Rattle.representatives.specs.Fields.{compare_named, compare_under, precedes_under}
use Rattle.representatives.specs.Representative.{image_under, least_renaming}

-- the least of the best so far and of the rows from row k on that are renamings of the state's replicas
unfoldable pub least_behind : State → List ℕ → ℕ → List ℕ
least_behind s best k =
    least_from (is_renaming (replica_count_of s.limits)) (image_under s) best (drop k (fitting_rows (replica_count_of s.limits)))

-- ---- where the search starts
-- row 0, as the code has it
abbrev pub first_row : List ℕ
first_row = 0 ∷ 1 ∷ 2 ∷ 3 ∷ 4 ∷ []

first_is : first_row ≡ row 0
unfolding concat_below without_place orders rows
first_is = refl

module _ (s : State) (h : rules s ≡ true) where
  few : replica_count_of s.limits ≤ 5
  few = (rules_bounded s h).replicas

  abbrev count : ℕ
  count = factorial (replica_count_of s.limits)

  pub first_renames : Renames s first_row
  first_renames = ap (is_renaming (replica_count_of s.limits)) first_is ∙ first-row (replica_count_of s.limits) few

  pub least_start : least_renaming s ≡ least_behind s first_row 0
  unfolding least_renaming least_behind fitting_rows
  least_start =
      let n = replica_count_of s.limits in
      least_filtered (is_renaming n) (image_under s) (row 0) rows
      ∙ ap (λ (p : List ℕ). least_from (is_renaming n) (image_under s) p (fitting_rows n)) (sym first_is)

  -- ---- one turn: the row is tried
  pub row_renames : (k : ℕ) → k < count → Renames s (fitting_row (replica_count_of s.limits) k)
  row_renames k l = fitting_fits (replica_count_of s.limits) k few l

  pub least_tried : (best : List ℕ) (k : ℕ) → k < count
      → least_behind s best k
      ≡ least_behind s (better (is_renaming (replica_count_of s.limits)) (image_under s) best (fitting_row (replica_count_of s.limits) k)) (k + 1)
  unfolding least_behind
  least_tried best k l =
      let n = replica_count_of s.limits in
      least_turn (is_renaming n) (image_under s) best [] (fitting_rows n) k (omega (arith, fitting_count n few))
      ∙ ap (λ (p : List ℕ). least_from (is_renaming n) (image_under s) (better (is_renaming n) (image_under s) best p) (drop (k + 1) (fitting_rows n))) (fitting_at n k few l)

  -- row 0 is not better than itself, so the search may start with row 1
  pub least_second : least_renaming s ≡ least_behind s first_row 1
  least_second =
      let n = replica_count_of s.limits in
      let e : fitting_row n 0 ≡ first_row = fitting_first n few ∙ sym first_is in
      least_start
      ∙ least_tried first_row 0 (fitting_one n few)
      ∙ ap (λ (p : List ℕ). least_behind s p 1)
      (ap (better (is_renaming n) (image_under s) first_row) e ∙ better_not_before (is_renaming n) (image_under s) first_row first_row (precedes_irreflexive (image_under s first_row)))

  -- ---- the end
  pub least_done : (best : List ℕ) (k : ℕ) → count ≤ k → least_behind s best k ≡ best
  unfolding least_behind
  least_done best k l =
      let n = replica_count_of s.limits in least_end (is_renaming n) (image_under s) best (fitting_rows n) k (omega (arith, fitting_count n few))

-- ---- rows that are passed over: they give the quorum's leader a greater name than the best so far
-- the byte of the leader by its new name
abbrev pub leader_under : State → List ℕ → ℕ
leader_under s p = leader_byte (rename_leader (new_name p) s.quorum.leader)

leader_loses : (s : State) → rules s ≡ true → (p q : List ℕ) → Renames s p → Renames s q → leader_under s q < leader_under s p
    → precedes (image_under s p) (image_under s q) ≡ false
unfolding compare_under compare_named then_compare is_less
leader_loses s h p q f g l =
    let e : compare_under s p q ≡ Greater = rw (numbers_greater (leader_under s p) (leader_under s q) l) refl in
    precedes_under s h p q f g ∙ ap is_less e

-- two renamings that give the leader one name
leader_alike : (l : Leader) (p q : List ℕ) → new_name p (leader_byte l) ≡ new_name q (leader_byte l)
    → leader_byte (rename_leader (new_name p) l) ≡ leader_byte (rename_leader (new_name q) l)
unfolding rename_leader
leader_alike None p q e = refl
leader_alike (Some b) p q e = e

-- a leader that gets another name is a replica
leader_low : (n : ℕ) → n ≤ 5 → (l : Leader) (p q : List ℕ) → is_renaming n p ≡ true → is_renaming n q ≡ true
    → leader_byte (rename_leader (new_name q) l) < leader_byte (rename_leader (new_name p) l) → leader_byte l < n
unfolding rename_leader
leader_low n five None p q f g h = absurd (omega arith)
leader_low n five (Some b) p q f g h =
    elim (dec_lt b n) [
      | yes d ↦ d
      | no d ↦
          let e : new_name p b ≡ b = (renaming_of n five p f).keeps b (omega arith) in
          let k : new_name q b ≡ b = (renaming_of n five q g).keeps b (omega arith) in
          absurd (omega arith)
    ]

module _ (s : State) (h : rules s ≡ true) (best : List ℕ) (k : ℕ) (f : Renames s best) (l : k < factorial (replica_count_of s.limits))
    (loses : leader_under s best < leader_under s (fitting_row (replica_count_of s.limits) k))
  where
    pub loser_low : leader_byte s.quorum.leader < replica_count_of s.limits
    loser_low =
        let n = replica_count_of s.limits in
        leader_low n (few s h) s.quorum.leader (fitting_row n k) best (row_renames s h k l) f loses

    -- the rows up to the one behind the group change nothing
    pub least_passed : (to : ℕ) → k < to → to ≤ factorial (replica_count_of s.limits)
        → least_behind s best k ≡ least_behind s best (behind_group (replica_count_of s.limits) (leader_byte s.quorum.leader) k to)
    unfolding least_behind
    least_passed to low most =
        let n = replica_count_of s.limits in
        let five = few s h in
        let b = leader_byte s.quorum.leader in
        let at = behind_group n b k to in
        let bounds = behind_bounds n b k five loser_low l to low in
        let e : k + (at - k) ≡ at = omega (arith, bounds.0) in
        least_pass (is_renaming n) (image_under s) best [] (fitting_rows n) k (at - k) (omega (arith, bounds.1, fitting_count n five))
        (λ i a z.
        let row_i : i < factorial n = omega (arith, bounds.1) in
        rw (fitting_at n i five row_i)
        (leader_loses s h (fitting_row n i) best (row_renames s h i row_i) f
        (rw (leader_alike s.quorum.leader (fitting_row n i) (fitting_row n k) (group_alike n b k five loser_low l to i a (omega arith))) loses)))
        ∙ ap (λ (i : ℕ). least_from (is_renaming n) (image_under s) best (drop i (fitting_rows n))) e
