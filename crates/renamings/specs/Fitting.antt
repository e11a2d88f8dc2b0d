-- The rows of the table that are renamings of n replicas. There are n! of them, and in the table's order they are read off its first
-- n! rows: those rows leave the first 5 - n places, and their last n places, less 5 - n, are the orders of 0 to n - 1. One test
-- that is computed shows it. Assumes nothing.
--
--   fitting_rows n                          the rows of the table that are renamings of n replicas
--   factorial n                             n!, how many there are
--   last_place n held j                     place j of such a row, by what the places of a row of the table hold
--   last_cong                               it looks at five places of that row alone
--   held_by k x                             what place x of row k of the table holds
--   fitting_row n k                         number k of the fitting rows, read off row k of the table
--   fitting-rows .. fitting_at              the fitting rows are these, n! of them; what is read off is not below 5 - n
--   counts_are_factorials                   n! by the constant of the code
--   fitting_fits, fitting_all               each is a renaming of n replicas, and each renaming of n replicas is one of them
--   fitting_first, fitting_once             the first keeps every name; none stands twice
--   fitting_one, fitting_most, fitting_few  there is one at least, there are at most 120, and below five replicas at most 24
--   group_rest n b k                        how many rows from row k on agree with it up to place b
--   behind_group n b k to                   the row behind those, or `to` where that comes before
--   behind_bounds, group_alike              it is behind row k and not behind `to`; the rows before it name replica b as row k does
--   part_number first k, part_numbers first the 120 numbers of the 24 rows from row `first` on
--   part_at                                 what stands at a place of such a part
use Rattle.std.specs.Prelude.{ℕ, zero, suc, ◌+◌, ◌*◌, ◌-◌, ◌%◌, ◌≤◌, ◌<◌, ◌≡◌, refl, Bool, true, not, cond, List, [], ◌∷◌, eqb, ltb, length, get_or}
use Rattle.std.proofs.Common.{sym, ◌∙◌}
use Rattle.std.proofs.Math.Path.{ap}
use native.Mathlib.Omega.{arith}
use Rattle.std.proofs.Math.Decide.{dec_lt}
use borrow.Author.Tests.{lt-ltb, le-ltb, eqb-true, ltb-true, ltb-false, not-true}
use Rattle.logic.specs.Tests.{all_below, all_at, every, every_at, same_by, same-by}
use Rattle.logic.specs.Concat.{concat_below}
use Rattle.logic.specs.Table.{table, table_from, length_table, get_d_table}
use Rattle.logic.specs.Order.{precedes, none_twice}
use Rattle.logic.specs.Least.{filtered, filtered_fit, filtered_all}
use Rattle.renamings.specs.Names.{new_name, holder, old_name, in_place, is_new, is_renaming, without_place, orders, rows, row, table_numbers}
use Rattle.renamings.specs.Rows.{five, same_numbers, same-numbers, rows_count, row_number, distinct_of}
use Rattle.renamings.specs.Places.{renaming_five}
use Rattle.renamings.specs.CodeLaws.{numbers_at, renaming_wide}

-- the rows that are renamings of n replicas, in the table's order
unfoldable pub fitting_rows : ℕ → List (List ℕ)
fitting_rows n = filtered (is_renaming n) rows

-- n!
unfoldable pub factorial : ℕ → ℕ
factorial zero = 1
factorial (suc n) = suc n * factorial n

-- place j of a row of n replicas, by what the places of a row of the table hold
unfoldable pub last_place : ℕ → (ℕ → ℕ) → ℕ → ℕ
last_place n held j = cond (ltb j n) (held (5 - n + j) - (5 - n)) j

pub last_cong : (n : ℕ) (f g : ℕ → ℕ) → n ≤ 5 → ((x : ℕ) → x < 5 → f x ≡ g x) → (j : ℕ) → last_place n f j ≡ last_place n g j
unfolding last_place
last_cong n f g h e j =
    elim (dec_lt j n) [
      | yes l ↦ rw (lt-ltb j n l) (ap (λ (x : ℕ). x - (5 - n)) (e (5 - n + j) (omega arith)))
      | no l ↦ rw (le-ltb j n (omega arith)) refl
    ]

-- what place x of row k holds
abbrev pub held_by : ℕ → ℕ → ℕ
held_by k x = get_or (row k) x 0

-- row k of n replicas
unfoldable pub fitting_row : ℕ → ℕ → List ℕ
fitting_row n k = table 5 (last_place n (held_by k))

-- ---- the test
abbrev same_rows : List (List ℕ) → List (List ℕ) → Bool
same_rows = same_by same_numbers

-- what the last n places of row k hold is not below 5 - n
abbrev high_test : ℕ → ℕ → ℕ → Bool
high_test n k j = not (ltb (held_by k (5 - n + j)) (5 - n))

abbrev rows_test : ℕ → Bool
rows_test n = same_rows (fitting_rows n) (table (factorial n) (fitting_row n))

abbrev highs_test : ℕ → Bool
highs_test n = all_below (factorial n) (λ k. all_below n (high_test n k))

abbrev fitting_tests : List Bool
fitting_tests = all_below 6 rows_test ∷ all_below 6 highs_test ∷ []

fitting_right : every fitting_tests ≡ true
unfolding every all_below concat_below table table_from new_name holder old_name in_place is_new is_renaming without_place orders rows same_by filtered
    fitting_rows factorial last_place fitting_row
fitting_right = refl

-- ---- what it says
pub fitting-rows : (n : ℕ) → n ≤ 5 → fitting_rows n ≡ table (factorial n) (fitting_row n)
fitting-rows n h =
    same-by same_numbers same-numbers (fitting_rows n) (table (factorial n) (fitting_row n)) (all_at 6 rows_test (every_at fitting_tests fitting_right 0) n (omega arith))

pub last_high : (n k j : ℕ) → n ≤ 5 → k < factorial n → j < n → 5 - n ≤ held_by k (5 - n + j)
last_high n k j h l b =
    ltb-false (held_by k (5 - n + j)) (5 - n)
    (not-true _ (all_at n (high_test n k) (all_at (factorial n) (λ (k : ℕ). all_below n (high_test n k)) (all_at 6 highs_test (every_at fitting_tests fitting_right 1) n (omega arith)) k l) j b))

-- there are n! of them, and number k of them is fitting_row n k
pub fitting_count : (n : ℕ) → n ≤ 5 → length (fitting_rows n) ≡ factorial n
fitting_count n h = ap length (fitting-rows n h) ∙ length_table (factorial n) (fitting_row n)

pub fitting_at : (n k : ℕ) → n ≤ 5 → k < factorial n → get_or (fitting_rows n) k [] ≡ fitting_row n k
fitting_at n k h l = ap (λ (ps : List (List ℕ)). get_or ps k []) (fitting-rows n h) ∙ get_d_table (factorial n) (fitting_row n) k [] l

-- n! by the constant of the code
pub counts_are_factorials : (n : ℕ) → n ≤ 5 → get_or (1 ∷ 1 ∷ 2 ∷ 6 ∷ 24 ∷ 120 ∷ []) n 0 ≡ factorial n
unfolding all_below factorial
counts_are_factorials n h = eqb-true _ _ (all_at 6 (λ (n : ℕ). eqb (get_or (1 ∷ 1 ∷ 2 ∷ 6 ∷ 24 ∷ 120 ∷ []) n 0) (factorial n)) refl n (omega arith))

-- each is a renaming of n replicas
pub fitting_fits : (n k : ℕ) → n ≤ 5 → k < factorial n → is_renaming n (fitting_row n k) ≡ true
unfolding fitting_rows
fitting_fits n k h l =
    ap (is_renaming n) (sym (fitting_at n k h l)) ∙ filtered_fit (is_renaming n) [] rows k (omega (arith, fitting_count n h))

-- and so one of five places
pub fitting_wide : (n k : ℕ) → n ≤ 5 → k < factorial n → is_renaming 5 (fitting_row n k) ≡ true
fitting_wide n k h l = renaming_wide n (fitting_row n k) h (fitting_fits n k h l)

-- and each renaming of n replicas is one of them
pub fitting_all : (n : ℕ) → n ≤ 5 → (p : List ℕ) → is_renaming n p ≡ true → (k : ℕ) × (k < factorial n) × (fitting_row n k ≡ five p)
unfolding fitting_rows
fitting_all n h p f =
    let x = row_number n h p (distinct_of n p f) in
    let y = filtered_all (is_renaming n) [] rows x.0 (omega (arith, rows_count, x.1)) (ap (is_renaming n) x.2 ∙ renaming_five n p ∙ f) in
    let l : y.0 < factorial n = omega (arith, y.1, fitting_count n h) in
    (y.0, l, sym (fitting_at n y.0 h l) ∙ y.2 ∙ x.2)

-- the first one leaves every replica
abbrev first_test : ℕ → Bool
first_test n = same_numbers (fitting_row n 0) (row 0)

pub fitting_first : (n : ℕ) → n ≤ 5 → fitting_row n 0 ≡ row 0
unfolding all_below concat_below table table_from new_name without_place orders rows same_by last_place fitting_row
fitting_first n h = same-numbers (fitting_row n 0) (row 0) (all_at 6 first_test refl n (omega arith))

-- they rise, so none stands twice
abbrev rises_test : ℕ → ℕ → Bool
rises_test n k = precedes (fitting_row n k) (fitting_row n (suc k))

fitting_next : (n : ℕ) → n ≤ 5 → (k : ℕ) → suc k < factorial n → rises_test n k ≡ true
unfolding all_below concat_below table table_from new_name without_place orders rows precedes factorial last_place fitting_row
fitting_next n h k l =
    all_at (factorial n - 1) (rises_test n) (all_at 6 (λ (n : ℕ). all_below (factorial n - 1) (rises_test n)) refl n (omega arith)) k (omega arith)

pub fitting_once : (n : ℕ) → n ≤ 5 → (i j : ℕ) → i < j → j < factorial n → fitting_row n i ≡ fitting_row n j → ⊥
fitting_once n h = none_twice (factorial n) (fitting_row n) (fitting_next n h)

-- there is one at least, and no more than the table has
pub fitting_one : (n : ℕ) → n ≤ 5 → 0 < factorial n
unfolding all_below factorial
fitting_one n h = ltb-true 0 (factorial n) (all_at 6 (λ (n : ℕ). ltb 0 (factorial n)) refl n (omega arith))

pub fitting_most : (n : ℕ) → n ≤ 5 → factorial n ≤ 120
unfolding all_below factorial
fitting_most n h = let l = ltb-true (factorial n) 121 (all_at 6 (λ (n : ℕ). ltb (factorial n) 121) refl n (omega arith)) in omega arith

-- those of fewer than five replicas are all in the first part of 24 rows
pub fitting_few : (n : ℕ) → n < 5 → factorial n ≤ 24
unfolding all_below factorial
fitting_few n h = let l = ltb-true (factorial n) 25 (all_at 5 (λ (n : ℕ). ltb (factorial n) 25) refl n h) in omega arith

-- ---- groups of rows: the rows rise, so those that agree up to place b stand together, (n - 1 - b)! of them
-- how many rows of the group of row k are left from row k on
unfoldable pub group_rest : ℕ → ℕ → ℕ → ℕ
group_rest n b k = factorial (n - 1 - b) - k % factorial (n - 1 - b)

-- the row behind the group, or `to` where that comes before
unfoldable pub behind_group : ℕ → ℕ → ℕ → ℕ → ℕ
behind_group n b k to = cond (ltb (k + group_rest n b k) to) (k + group_rest n b k) to

-- the row that stands d behind row k names replica b as row k does
abbrev alike_test : ℕ → ℕ → ℕ → ℕ → Bool
alike_test n b k d = eqb (new_name (fitting_row n (k + d)) b) (new_name (fitting_row n k) b)

abbrev group_tests : ℕ → ℕ → ℕ → List Bool
group_tests n b k = all_below (group_rest n b k) (alike_test n b k) ∷ ltb 0 (group_rest n b k) ∷ []

abbrev group_test : ℕ → ℕ → ℕ → Bool
group_test n b k = every (group_tests n b k)

group_right : all_below 6 (λ n. all_below n (λ b. all_below (factorial n) (group_test n b))) ≡ true
unfolding every all_below concat_below table table_from new_name without_place orders rows factorial last_place fitting_row group_rest
group_right = refl

module _ (n b k : ℕ) (five : n ≤ 5) (low : b < n) (l : k < factorial n) where
  group_tests_pass : (i : ℕ) → get_or (group_tests n b k) i true ≡ true
  group_tests_pass =
      every_at (group_tests n b k)
      (all_at (factorial n) (group_test n b)
      (all_at n (λ (b : ℕ). all_below (factorial n) (group_test n b))
      (all_at 6 (λ (n : ℕ). all_below n (λ b. all_below (factorial n) (group_test n b))) group_right n (omega arith)) b low) k l)

  -- the row behind the group is behind row k, and not behind `to`
  pub behind_bounds : (to : ℕ) → k < to → (k < behind_group n b k to) × (behind_group n b k to ≤ to)
  unfolding behind_group
  behind_bounds to h =
      let some : 0 < group_rest n b k = ltb-true 0 (group_rest n b k) (group_tests_pass 1) in
      elim (dec_lt (k + group_rest n b k) to) [
        | yes q ↦ rw (lt-ltb (k + group_rest n b k) to q) (omega arith, omega arith)
        | no q ↦ rw (le-ltb (k + group_rest n b k) to (omega arith)) (h, omega arith)
      ]

  -- and the rows from row k up to it name replica b as row k does
  pub group_alike : (to i : ℕ) → k ≤ i → i < behind_group n b k to → new_name (fitting_row n i) b ≡ new_name (fitting_row n k) b
  unfolding behind_group
  group_alike to i h q =
      let e : k + (i - k) ≡ i = omega arith in
      ap (λ (r : ℕ). new_name (fitting_row n r) b) (sym e)
      ∙ eqb-true (new_name (fitting_row n (k + (i - k))) b) (new_name (fitting_row n k) b)
      (all_at (group_rest n b k) (alike_test n b k) (group_tests_pass 0) (i - k) (within (dec_lt (k + group_rest n b k) to)))
    where
      within : Dec (k + group_rest n b k < to) → i - k < group_rest n b k
      within (yes d) = let z : i < k + group_rest n b k = rw (lt-ltb (k + group_rest n b k) to d) at q in omega arith
      within (no d) = let z : i < to = rw (le-ltb (k + group_rest n b k) to (omega arith)) at q in omega arith

-- ---- a part of the table: the numbers of the 24 rows from row `first` on
abbrev pub part_number : ℕ → ℕ → ℕ
part_number first k = get_or table_numbers (5 * first + k) 0

unfoldable pub part_numbers : ℕ → List ℕ
part_numbers first = table 120 (part_number first)

pub part_at : (first i x : ℕ) → first + i < 120 → i < 24 → x < 5 → get_or (part_numbers first) (5 * i + x) 0 ≡ held_by (first + i) x
unfolding part_numbers
part_at first i x h l b =
    let e : 5 * first + (5 * i + x) ≡ 5 * (first + i) + x = omega arith in
    get_d_table 120 (part_number first) (5 * i + x) 0 (omega arith)
    ∙ ap (λ (k : ℕ). get_or table_numbers k 0) e
    ∙ numbers_at (first + i) x h b
