-- Renamings as five places. "A renaming is five places: the first R hold 0 to R-1 once each, the others their own number".
-- n is R, the number of replicas; p is the five places. Code has no other lists of places than five bytes; in the logic a place
-- that a list lacks reads 0, and what a list has behind five numbers is not looked at. Assumes nothing.
use Rattle.std.specs.Prelude.{ℕ, zero, suc, ◌<◌, Bool, not, ◌&&◌, cond, List, [], ◌∷◌, map, eqb, ltb, get_or}
use Rattle.logic.specs.Tests.{all_below}
use Rattle.logic.specs.Concat.{concat_below}
use Rattle.logic.specs.Table.{table}

-- ---- old names and new ones
-- p(i), the new name of replica i: what place i holds; a number that has no place stays
unfoldable pub new_name : List ℕ → ℕ → ℕ
new_name p i = cond (ltb i 5) (get_or p i 0) i

-- the place below k that holds j, and j where none does
unfoldable pub holder : ℕ → List ℕ → ℕ → ℕ
holder zero p j = j
holder (suc k) p j = cond (eqb (new_name p k) j) k (holder k p j)

-- the old name of the replica whose new name is j
unfoldable pub old_name : List ℕ → ℕ → ℕ
old_name p j = holder 5 p j

-- the five places of the inverse: they hold the old names
unfoldable pub inverted : List ℕ → List ℕ
inverted p = table 5 (old_name p)

-- the five places of first q, then p
unfoldable pub composed : List ℕ → List ℕ → List ℕ
composed p q = table 5 (λ i. new_name p (new_name q i))

-- what place j of five old names holds, and that each of them is below five
abbrev pub name_in : List ℕ → ℕ → ℕ
name_in back j = get_or back j 0

abbrev pub Inward : List ℕ → Type 0
Inward back = (j : ℕ) → j < 5 → name_in back j < 5

-- ---- the test of five places
-- a place below n holds a number below n, any other its own number
unfoldable pub in_place : ℕ → List ℕ → ℕ → Bool
in_place n p i = cond (ltb i n) (ltb (new_name p i) n) (eqb (new_name p i) i)

-- places i and j hold different numbers
abbrev pub other_than : List ℕ → ℕ → ℕ → Bool
other_than p i j = not (eqb (new_name p i) (new_name p j))

-- place i holds a number that no place before it holds
unfoldable pub is_new : List ℕ → ℕ → Bool
is_new p i = all_below i (other_than p i)

abbrev pub place_fits : ℕ → List ℕ → ℕ → Bool
place_fits n p i = in_place n p i && is_new p i

-- the five places are a renaming of n replicas
unfoldable pub is_renaming : ℕ → List ℕ → Bool
is_renaming n p = all_below 5 (place_fits n p)

-- ---- "All 120 renamings of five places stand as one readable table of 600 numbers, in rising order"
-- a list without its element at place i
unfoldable pub without_place : ℕ → List ℕ → List ℕ
without_place i [] = []
without_place zero (x ∷ xs) = xs
without_place (suc i) (x ∷ xs) = x ∷ without_place i xs

-- the orders of k numbers: those that begin with the first of them, then those that begin with the second, ..
unfoldable pub orders : ℕ → List ℕ → List (List ℕ)
orders zero numbers = [] ∷ []
orders (suc k) numbers =
    concat_below (suc k) (λ i. map (λ (rest : List ℕ). get_or numbers i 0 ∷ rest) (orders k (without_place i numbers)))

-- the rows of the table: the orders of 0 to 4
unfoldable pub rows : List (List ℕ)
rows = orders 5 (0 ∷ 1 ∷ 2 ∷ 3 ∷ 4 ∷ [])

-- row k
abbrev pub row : ℕ → List ℕ
row k = get_or rows k []

-- the 600 numbers of the table: the rows one after the other
unfoldable pub table_numbers : List ℕ
table_numbers = concat_below 120 row
