-- The 120 rows of the table: one test that is computed shows that each is a renaming of five places, that they rise, so that no
-- row stands twice, and that every renaming is a row. From it, each list of five places that passes the test of a renaming
-- of n replicas is a renaming: it has an inverse. Assumes nothing.
--
--   five p                        the first five numbers of a list
--   same_numbers xs ys            whether two lists are equal
--   rows_count                    the table has 120 rows
--   row_renaming                  each is a renaming of five places
--   rows_rise, no_row_twice       they rise, so no row stands twice
--   Distinct n p                  a place below n holds a number below n, any other its own, and no two hold the same
--   distinct_of, distinct_by      that is what the test of a renaming of n replicas says, each way
--   first-row                     row 0 is a renaming of any number of replicas
--   same-numbers                  lists that pass same_numbers are equal
--   new_past                      a number from five on keeps its name
--   new_name_five, old_name_five  only the first five numbers of a list count
--   row_number                    a renaming is a row of the table: its number, below 120
--   new_old, old_new              new and old names undo one another
--   new_name_keeps                numbers from n on keep their names
--   renaming_of n small p h       five places that pass the test, as a renaming with its inverse
use Rattle.std.specs.Prelude.{ℕ, suc, ◌+◌, ◌*◌, ◌-◌, ◌≤◌, ◌<◌, ◌≡◌, Bool, ◌&&◌, ◌||◌, List, [], ◌∷◌, ltb, length, get_or}
use Rattle.std.proofs.Math.Path.{refl, ap}
use Rattle.std.proofs.Common.{sym, ◌∙◌, subst, arith}
use Rattle.std.proofs.Math.Bool.{true, false, not, cond}
use Rattle.std.proofs.Math.Decide.{dec_lt}
use Rattle.std.proofs.Math.Dec.{eqb}
use Rattle.std.proofs.Math.ListN.{get_or-eq_default}
use borrow.Author.Tests.{eq-eqb, eqb-false, eqb-true, ltb-true, lt-ltb, le-ltb, ne_eqb, not-true}
use Rattle.logic.specs.Tests.{all_below, all_at, all_by, and_both, every, every_at, and_left, and_right, same_by, same-by}
use Rattle.logic.specs.Concat.{concat_below}
use Rattle.parts.specs.IsrLaws.{below_five}
use Rattle.renamings.specs.Names.{new_name, holder, old_name, in_place, other_than, is_new, place_fits, is_renaming, without_place, orders, rows, row}
use Rattle.logic.specs.Order.{precedes, all_rise, none_twice}
use Rattle.renamings.specs.Renaming.{Renaming}

-- ---- the test of the table
-- i comes back from its old name, and from its new name
abbrev comes_back : List ℕ → ℕ → Bool
comes_back p i = eqb (new_name p (old_name p i)) i && eqb (old_name p (new_name p i)) i

-- the first five numbers of a list, as a list of five
abbrev pub five : List ℕ → List ℕ
five p = get_or p 0 0 ∷ get_or p 1 0 ∷ get_or p 2 0 ∷ get_or p 3 0 ∷ get_or p 4 0 ∷ []

abbrev pub same_numbers : List ℕ → List ℕ → Bool
same_numbers = same_by eqb

-- row k is a renaming of five places, and has an inverse
abbrev row_tests : ℕ → List Bool
row_tests k = is_renaming 5 (row k) ∷ all_below 5 (comes_back (row k)) ∷ []

abbrev row_test : ℕ → Bool
row_test k = every (row_tests k)

-- row k comes before the next
abbrev rises : ℕ → Bool
rises k = precedes (row k) (row (suc k))

-- 1 where x is smaller than y, else 0
less : ℕ → ℕ → ℕ
less x y = cond (ltb x y) 1 0

-- the row of five different numbers, by the first four of them
rank : ℕ → ℕ → ℕ → ℕ → ℕ
rank a b c d = 24 * a + 6 * (b - less a b) + 2 * (c - (less a c + less b c)) + (d - (less a d + (less b d + less c d)))

-- any five different numbers below five are a row
every_order_is_row : Bool
every_order_is_row =
    all_below 5
    (λ a.
    all_below 5
    (λ b.
    eqb b a
    || all_below 5
    (λ c.
    eqb c a
    || eqb c b
    || all_below 5
    (λ d.
    eqb d a
    || eqb d b
    || eqb d c
    || all_below 5 (λ e. eqb e a || eqb e b || eqb e c || eqb e d || same_numbers (row (rank a b c d)) (a ∷ b ∷ c ∷ d ∷ e ∷ []))))))

abbrev table_tests : List Bool
table_tests =
    all_below 120 row_test
    ∷ all_below 119 rises
    ∷ every_order_is_row
    ∷ eqb (length rows) 120
    ∷ []

table_right : every table_tests ≡ true
unfolding every all_below concat_below new_name holder old_name in_place is_new is_renaming without_place orders rows precedes
    less rank same_by every_order_is_row
table_right = refl

table_test_passes : (k : ℕ) → get_or table_tests k true ≡ true
table_test_passes = every_at table_tests table_right

pub rows_count : length rows ≡ 120
rows_count = eqb-true (length rows) 120 (table_test_passes 3)

-- ---- each row is a renaming of five places
pub row_renaming : (k : ℕ) → k < 120 → is_renaming 5 (row k) ≡ true
row_renaming k h = every_at (row_tests k) (all_at 120 row_test (table_test_passes 0) k h) 0

-- ---- the rows rise, so no row stands twice
next_rises : (k : ℕ) → suc k < 120 → precedes (row k) (row (suc k)) ≡ true
next_rises k h = all_at 119 rises (table_test_passes 1) k (omega arith)

pub rows_rise : (i j : ℕ) → i < j → j < 120 → precedes (row i) (row j) ≡ true
rows_rise = all_rise 120 row next_rises

pub no_row_twice : (i j : ℕ) → i < j → j < 120 → row i ≡ row j → ⊥
no_row_twice = none_twice 120 row next_rises

-- ---- what the test of five places says, each way
pub record Distinct (n : ℕ) (p : List ℕ) : Type 0 where
  pub within : (i : ℕ) → i < n → i < 5 → new_name p i < n
  pub others : (i : ℕ) → n ≤ i → i < 5 → new_name p i ≡ i
  pub distinct : (i j : ℕ) → i < 5 → j < i → new_name p i ≡ new_name p j → ⊥

module _ (n : ℕ) (p : List ℕ) where
  pub distinct_of : is_renaming n p ≡ true → Distinct n p
  unfolding is_renaming in_place is_new
  distinct_of e =
      let h : (i : ℕ) → i < 5 → place_fits n p i ≡ true = all_at 5 (place_fits n p) e in
      let held : (i : ℕ) → i < 5 → in_place n p i ≡ true = λ i f. and_left (in_place n p i) (is_new p i) (h i f) in
      record {
        within = λ i b f. ltb-true (new_name p i) n (rw (lt-ltb i n b) at (held i f));
        others = λ i b f. eqb-true (new_name p i) i (rw (le-ltb i n b) at (held i f));
        distinct = λ i j f b. eqb-false (new_name p i) (new_name p j) (not-true _ (all_at i (other_than p i) (and_right (in_place n p i) (is_new p i) (h i f)) j b));
      }

  pub distinct_by : Distinct n p → is_renaming n p ≡ true
  unfolding is_renaming in_place is_new
  distinct_by d =
      all_by 5 (place_fits n p)
      (λ i h.
      and_both {a = in_place n p i} {b = is_new p i} (held i h (dec_lt i n))
      (all_by i (other_than p i) (λ j b. ap not (ne_eqb (new_name p i) (new_name p j) (d.distinct i j h b)))))
    where
      held : (i : ℕ) → i < 5 → Dec (i < n) → cond (ltb i n) (ltb (new_name p i) n) (eqb (new_name p i) i) ≡ true
      held i h (yes b) = rw (lt-ltb i n b) (lt-ltb (new_name p i) n (d.within i b h))
      held i h (no b) = rw (le-ltb i n (omega arith)) (eq-eqb (new_name p i) i (d.others i (omega arith) h))

-- ---- the first row leaves every place, so it is a renaming of any number of replicas
pub first-row : (n : ℕ) → n ≤ 5 → is_renaming n (row 0) ≡ true
unfolding all_below concat_below new_name in_place is_new is_renaming without_place orders rows
first-row n small = all_at 6 (λ (n : ℕ). is_renaming n (row 0)) refl n (omega arith)

-- ---- every renaming is a row
pub same-numbers : (xs ys : List ℕ) → same_numbers xs ys ≡ true → xs ≡ ys
same-numbers = same-by eqb eqb-true

is_row : (a b c d e : ℕ) → a < 5 → b < 5 → c < 5 → d < 5 → e < 5
    → eqb b a ≡ false → eqb c a ≡ false → eqb c b ≡ false
    → eqb d a ≡ false → eqb d b ≡ false → eqb d c ≡ false
    → eqb e a ≡ false → eqb e b ≡ false → eqb e c ≡ false → eqb e d ≡ false
    → row (rank a b c d) ≡ a ∷ b ∷ c ∷ d ∷ e ∷ []
unfolding every_order_is_row
is_row a b c d e ha hb hc hd he ba ca cb da db dc ea eb ec ed =
    same-numbers (row (rank a b c d)) (a ∷ b ∷ c ∷ d ∷ e ∷ [])
    (rw (ea, eb, ec, ed) at
    (all_at 5 _
    (rw (da, db, dc) at (all_at 5 _ (rw (ca, cb) at (all_at 5 _ (rw ba at (all_at 5 _ (all_at 5 _ (table_test_passes 2) a ha) b hb)) c hc)) d hd)) e he))

pub new_past : (p : List ℕ) (i : ℕ) → 5 ≤ i → new_name p i ≡ i
unfolding new_name
new_past p i h = rw (le-ltb i 5 h) refl

pub new_name_five : (p : List ℕ) (i : ℕ) → new_name (five p) i ≡ new_name p i
unfolding new_name
new_name_five p i =
    elim (dec_lt i 5) [
      | yes h ↦ below_five (λ (k : ℕ). new_name (five p) k ≡ new_name p k) refl refl refl refl refl i h
      | no h ↦ new_past (five p) i (omega arith) ∙ sym (new_past p i (omega arith))
    ]

pub old_name_five : (p : List ℕ) (j : ℕ) → old_name (five p) j ≡ old_name p j
unfolding old_name holder new_name
old_name_five p j = refl

module _ (n : ℕ) (small : n ≤ 5) (p : List ℕ) (r : Distinct n p) where
  new_name_below_five : (i : ℕ) → i < 5 → new_name p i < 5
  new_name_below_five i h =
      elim (dec_lt i n) [
        | yes b ↦ omega (arith, r.within i b h)
        | no b ↦ omega (arith, r.others i (omega arith) h)
      ]

  row_of : (k : ℕ) × (row k ≡ five p)
  unfolding new_name
  row_of =
      let w : (i : ℕ) → i < 5 → new_name p i < 5 = new_name_below_five in
      let z : (i j : ℕ) → i < 5 → j < i → eqb (new_name p i) (new_name p j) ≡ false = λ i j h l. ne_eqb _ _ (r.distinct i j h l) in (
        rank (get_or p 0 0) (get_or p 1 0) (get_or p 2 0) (get_or p 3 0),
        is_row (get_or p 0 0) (get_or p 1 0) (get_or p 2 0) (get_or p 3 0) (get_or p 4 0)
            (w 0 (omega arith)) (w 1 (omega arith)) (w 2 (omega arith)) (w 3 (omega arith)) (w 4 (omega arith))
            (z 1 0 (omega arith) (omega arith)) (z 2 0 (omega arith) (omega arith)) (z 2 1 (omega arith) (omega arith))
            (z 3 0 (omega arith) (omega arith)) (z 3 1 (omega arith) (omega arith)) (z 3 2 (omega arith) (omega arith))
            (z 4 0 (omega arith) (omega arith)) (z 4 1 (omega arith) (omega arith)) (z 4 2 (omega arith) (omega arith)) (z 4 3 (omega arith) (omega arith)),
      )

  -- the row of the table that the places are
  pub row_number : (k : ℕ) × (k < 120) × (row k ≡ five p)
  row_number = let x = row_of in (x.0, bound (dec_lt x.0 120) x.1, x.1)
    where
      bound : {k : ℕ} → Dec (k < 120) → row k ≡ five p → k < 120
      bound (yes h) e = h
      bound {k} (no h) e =
          let z : ◌≡◌ {A = ℕ} 5 0 = ap length (sym e ∙ get_or-eq_default rows [] (omega (arith, rows_count))) in
          absurd (omega arith)

  -- ---- old names undo new ones, since they do so for each row
  comes-back : (i : ℕ) → i < 5 → comes_back p i ≡ true
  comes-back i h =
      let x = row_number in
      let all : all_below 5 (comes_back (five p)) ≡ true =
      subst (λ (q : List ℕ). all_below 5 (comes_back q) ≡ true) x.2
      (every_at (row_tests x.0) (all_at 120 row_test (table_test_passes 0) x.0 x.1) 1) in
      rw (new_name_five p i, old_name_five p i, old_name_five p (new_name p i), new_name_five p (old_name p i)) at
      (all_at 5 (comes_back (five p)) all i h)

  old_past : (j : ℕ) → 5 ≤ j → old_name p j ≡ j
  unfolding old_name holder
  old_past j h =
      let past : (i : ℕ) → i < 5 → eqb (new_name p i) j ≡ false = λ i l. ne_eqb (new_name p i) j (λ e. omega (arith, new_name_below_five i l)) in
      rw (past 0 (omega arith), past 1 (omega arith), past 2 (omega arith), past 3 (omega arith), past 4 (omega arith)) refl

  pub new_old : (i : ℕ) → new_name p (old_name p i) ≡ i
  new_old i =
      elim (dec_lt i 5) [
        | yes h ↦
            eqb-true (new_name p (old_name p i)) i
            (and_left (eqb (new_name p (old_name p i)) i) (eqb (old_name p (new_name p i)) i) (comes-back i h))
        | no h ↦ ap (new_name p) (old_past i (omega arith)) ∙ new_past p i (omega arith)
      ]

  pub old_new : (i : ℕ) → old_name p (new_name p i) ≡ i
  old_new i =
      elim (dec_lt i 5) [
        | yes h ↦
            eqb-true (old_name p (new_name p i)) i
            (and_right (eqb (new_name p (old_name p i)) i) (eqb (old_name p (new_name p i)) i) (comes-back i h))
        | no h ↦ ap (old_name p) (new_past p i (omega arith)) ∙ old_past i (omega arith)
      ]

  pub new_name_keeps : (i : ℕ) → n ≤ i → new_name p i ≡ i
  new_name_keeps i b = elim (dec_lt i 5) [ yes h ↦ r.others i b h | no h ↦ new_past p i (omega arith) ]

-- five places that pass the test are a renaming
abbrev pub renaming_of : (n : ℕ) → n ≤ 5 → (p : List ℕ) → is_renaming n p ≡ true → Renaming n
renaming_of n small p h =
    record {
      to = new_name p;
      from = old_name p;
      to_from = new_old n small p (distinct_of n p h);
      from_to = old_new n small p (distinct_of n p h);
      keeps = new_name_keeps n small p (distinct_of n p h);
    }
