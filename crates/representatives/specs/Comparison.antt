-- Lists of numbers compared from the front, with three answers: less, equal, greater. Their parts are compared one after the
-- other: the first part that differs decides, and what stands behind it does not count. Assumes nothing.
--
--   compare_numbers x y                  two numbers compared
--   then_compare a b                     the answer a where it decides, else b
--   decides a                            whether the answer a is not equal
--   compare_bytes xs ys                  two lists compared from the front
--   decision_below n c                   the first of the answers c 0 to c (n - 1) that decides, or equal
--   ne_decides, lt_less, cmp_numbers     what the library's `is_ne`, `is_lt` and `cmp` answer, in these words
--   first_stands, next_stands            what then_compare is where code finds that the first answer decides, or does not
--   then_answers                         and where code goes on by `then_with`
--   then_both                            where two answers together are equal, each is
--   decision_none .. decision_passed     the turns of a loop that stops at the first answer that decides
--   by_turns, by_parts                   these laws together, as code goes by them
--   numbers_less .. equal_numbers        what compare_numbers says
--   Begin xs ys o                        lists that begin with xs and ys compare as o, or where o is equal as what is behind them
--   begin_whole                          xs and ys themselves compare as o
--   begin_same .. begin_two              equal lists, one number each, and two numbers each
--   begin_then, begin_concat             a part and the next, and n parts one after the other
--   is_less a                            whether the answer a is less
--   precedes_compare                     the answer is less exactly where the first list comes before the second
--   says_less, says_equal, says_greater  when the answer is less, equal and greater
use Rattle.std.specs.Prelude.{ℕ, zero, suc, ◌+◌, ◌≤◌, ◌<◌, ◌≡◌, refl, Bool, true, false, cond, ◌↔◌, ltb}
use Rattle.std.proofs.Common.{sym, ap₂, ◌∙◌, arith, add-one, lt-ltb, le-ltb}
use Rattle.std.proofs.Math.Path.{ap, subst}
use mathlib.Core.List.{List, [], ◌∷◌, ◌++◌, append-nil, append_assoc}
use Rattle.std.proofs.Math.Decide.{dec_lt, ℕ_discrete}
use Rattle.logic.specs.Concat.{concat_below}
use Rattle.logic.specs.Tests.{true_false}
use Rattle.logic.specs.Order.{precedes, first_less, first_greater, first_equal, not_before_antisymmetric}
use Rattle.std.specs.declared.cmp.Ordering.{Ordering}
use Rattle.std.specs.declared.cmp.Ordering.TheVariants.{Less, Equal, Greater}
use Rattle.std.specs.Ordering.{nat_cmp, is_ne, is_lt, MatchOrdering}
use Rattle.std.proofs.lemmas.Cmp.{ranked, by_ranked}

-- ---- the definitions
-- the three answers: the library's
abbrev pub Comparison : Type 0
Comparison = Ordering

-- two numbers
unfoldable pub compare_numbers : ℕ → ℕ → Comparison
compare_numbers x y = cond (ltb x y) Less (cond (ltb y x) Greater Equal)

-- the first answer where it decides, else the second
unfoldable pub then_compare : Comparison → Comparison → Comparison
then_compare Less o = Less
then_compare Equal o = o
then_compare Greater o = Greater

-- the answer decides: it is not equal
unfoldable pub decides : Comparison → Bool
decides Less = true
decides Equal = false
decides Greater = true

-- two lists: the first place where they differ decides, and there a list that has ended is less
unfoldable pub compare_bytes : List ℕ → List ℕ → Comparison
compare_bytes [] [] = Equal
compare_bytes [] (y ∷ ys) = Less
compare_bytes (x ∷ xs) [] = Greater
compare_bytes (x ∷ xs) (y ∷ ys) = then_compare (compare_numbers x y) (compare_bytes xs ys)

-- the first of n answers that decides; equal where none does
unfoldable pub decision_below : ℕ → (ℕ → Comparison) → Comparison
decision_below zero c = Equal
decision_below (suc n) c = then_compare (decision_below n c) (c n)

-- ---- laws of answers
then_equal : (a : Comparison) → then_compare a Equal ≡ a
unfolding then_compare
then_equal Less = refl
then_equal Equal = refl
then_equal Greater = refl

pub then_then : (a b c : Comparison) → then_compare (then_compare a b) c ≡ then_compare a (then_compare b c)
unfolding then_compare
then_then Less b c = refl
then_then Equal b c = refl
then_then Greater b c = refl

-- an answer that decides stands, whatever comes behind it; after one that does not, the next one stands
then_decided : (a b : Comparison) → decides a ≡ true → a ≡ then_compare a b
unfolding then_compare decides
then_decided Less b h = refl
then_decided Equal b h = absurd (true_false (sym h))
then_decided Greater b h = refl

then_next : (a b : Comparison) → decides a ≡ false → b ≡ then_compare a b
unfolding then_compare decides
then_next Less b h = absurd (true_false h)
then_next Equal b h = refl
then_next Greater b h = absurd (true_false h)

-- the library's `is_ne`
pub ne_decides : (a : Comparison) → is_ne a ≡ decides a
unfolding decides
ne_decides Less = refl
ne_decides Equal = refl
ne_decides Greater = refl

-- as code finds it: first is the answer a, and d whether it decides
pub first_stands : {first a : Comparison} {d : Bool} (b : Comparison) → first ≡ a → d ≡ decides first → d ≡ true → first ≡ then_compare a b
first_stands {first} {a} b e k h = e ∙ then_decided a b (ap decides (sym e) ∙ sym k ∙ h)

pub next_stands : {first a next b : Comparison} {d : Bool} → first ≡ a → d ≡ decides first → d ≡ false → next ≡ b → next ≡ then_compare a b
next_stands {first} {a} {next} {b} e k h q = q ∙ then_next a b (ap decides (sym e) ∙ sym k ∙ h)

-- and by the library's `then_with`: first is the answer a, and where it is equal the call that follows is known to answer b
then_cases : (first b r : Comparison) (Called : Type 0) → MatchOrdering first (r ≡ Less) Called (r ≡ Greater) → (Called → r ≡ b) → r ≡ then_compare first b
unfolding then_compare
then_cases Less b r Called m f = m
then_cases Equal b r Called m f = f m
then_cases Greater b r Called m f = m

pub then_answers : {first a b r : Comparison} (Called : Type 0) → first ≡ a → MatchOrdering first (r ≡ Less) Called (r ≡ Greater) → (Called → r ≡ b)
    → r ≡ then_compare a b
then_answers {first} {a} {b} {r} Called e m f = then_cases first b r Called m f ∙ ap (λ (o : Comparison). then_compare o b) e

-- an answer that does not decide is equal
undecided : (a : Comparison) → decides a ≡ false → a ≡ Equal
unfolding decides
undecided Less h = absurd (true_false h)
undecided Equal h = refl
undecided Greater h = absurd (true_false h)

-- where two answers together are equal, each is
pub then_both : (a b : Comparison) → then_compare a b ≡ Equal → (a ≡ Equal) × (b ≡ Equal)
unfolding then_compare decides
then_both Less b h = absurd (true_false (ap decides h))
then_both Equal b h = (refl, h)
then_both Greater b h = absurd (true_false (ap decides h))

-- ---- the turns of a loop that stops at the first answer that decides: its start, one turn, the way out, and its end
pub decision_none : (c : ℕ → Comparison) → decision_below 0 c ≡ Equal
unfolding decision_below
decision_none c = refl

decision_more : (n : ℕ) (c : ℕ → Comparison) → decision_below n c ≡ Equal → decides (c n) ≡ false → decision_below (n + 1) c ≡ Equal
unfolding decision_below then_compare
decision_more n c h k = rw (add-one n, h) (undecided (c n) k)

decision_here : (n i : ℕ) (c : ℕ → Comparison) → i < n → decision_below i c ≡ Equal → decides (c i) ≡ true → c i ≡ decision_below n c
unfolding decision_below then_compare
decision_here zero i c l h k = absurd (omega arith)
decision_here (suc n) i c l h k =
    elim (ℕ_discrete i n) [
      | yes e ↦ rw (sym e, h) refl
      | no e ↦
          let q = decision_here n i c (omega arith) h k in
          q ∙ then_decided (decision_below n c) (c n) (ap decides (sym q) ∙ k)
    ]

pub decision_end : (n i : ℕ) (c : ℕ → Comparison) → i ≤ n → n ≤ i → decision_below i c ≡ Equal → Equal ≡ decision_below n c
decision_end n i c l k h = let e : n ≡ i = omega arith in rw e (sym h)

-- and as code finds it: here is answer i, and d whether it decides
pub decision_found : (n i : ℕ) (c : ℕ → Comparison) {here : Comparison} {d : Bool} → i < n → decision_below i c ≡ Equal
    → here ≡ c i → d ≡ decides here → d ≡ true → here ≡ decision_below n c
decision_found n i c l h e k t = e ∙ decision_here n i c l h (ap decides (sym e) ∙ sym k ∙ t)

pub decision_passed : (i : ℕ) (c : ℕ → Comparison) {here : Comparison} {d : Bool} → decision_below i c ≡ Equal
    → here ≡ c i → d ≡ decides here → d ≡ false → decision_below (i + 1) c ≡ Equal
decision_passed i c h e k t = decision_more i c h (ap decides (sym e) ∙ sym k ∙ t)

-- what a loop goes by that stops at the first answer that decides, and what code goes by that asks one after the other
pub ruleset by_turns = (ne_decides, decision_none, decision_found, decision_passed, decision_end)

pub ruleset by_parts = (ne_decides, first_stands, next_stands)

-- ---- two numbers
pub numbers_less : (x y : ℕ) → x < y → compare_numbers x y ≡ Less
unfolding compare_numbers
numbers_less x y h = rw (lt-ltb x y h) refl

pub numbers_greater : (x y : ℕ) → y < x → compare_numbers x y ≡ Greater
unfolding compare_numbers
numbers_greater x y h = rw (le-ltb x y (omega arith), lt-ltb y x h) refl

pub numbers_equal : (x y : ℕ) → x ≡ y → compare_numbers x y ≡ Equal
unfolding compare_numbers
numbers_equal x y e = rw (le-ltb x y (omega arith), le-ltb y x (omega arith)) refl

numbers_cases : {C : Type 0} (x y : ℕ) → (x < y → C) → (x ≡ y → C) → (y < x → C) → C
numbers_cases x y f g h =
    elim (dec_lt x y) [
      | yes l ↦ f l
      | no l ↦ elim (ℕ_discrete x y) [ yes e ↦ g e | no e ↦ h (omega arith) ]
    ]

-- the library's `cmp`
pub cmp_numbers : (x y : ℕ) → nat_cmp x y ≡ compare_numbers x y
cmp_numbers x y =
    by_ranked (x < y) (x ≡ y) (y < x) (nat_cmp x y) (ranked x y (nat_cmp x y) refl)
    (λ e l. e ∙ sym (numbers_less x y l)) (λ e q. e ∙ sym (numbers_equal x y q)) (λ e l. e ∙ sym (numbers_greater x y l))

pub equal_numbers : (x y : ℕ) → compare_numbers x y ≡ Equal → x ≡ y
unfolding decides
equal_numbers x y e =
    numbers_cases x y (λ l. absurd (true_false (ap decides (sym (numbers_less x y l) ∙ e)))) (λ q. q)
    (λ l. absurd (true_false (ap decides (sym (numbers_greater x y l) ∙ e))))

-- ---- parts
-- xs and ys begin two lists with this answer: whatever comes behind them counts only where the answer is equal
pub record Begin (xs ys : List ℕ) (o : Comparison) : Type 0 where
  pub before : (us vs : List ℕ) → compare_bytes (xs ++ us) (ys ++ vs) ≡ then_compare o (compare_bytes us vs)

-- with nothing behind them it is the answer of the two
pub begin_whole : (xs ys : List ℕ) (o : Comparison) → Begin xs ys o → compare_bytes xs ys ≡ o
unfolding compare_bytes
begin_whole xs ys o b =
    ap₂ compare_bytes (sym (append-nil xs)) (sym (append-nil ys)) ∙ b.before [] [] ∙ then_equal o

begin_none : Begin [] [] Equal
unfolding then_compare
begin_none = record { before = λ us vs. refl }

begin_next : (x y : ℕ) (xs ys : List ℕ) (o : Comparison) → Begin xs ys o → Begin (x ∷ xs) (y ∷ ys) (then_compare (compare_numbers x y) o)
unfolding compare_bytes
begin_next x y xs ys o b =
    record {
      before = λ us vs. ap (then_compare (compare_numbers x y)) (b.before us vs) ∙ sym (then_then (compare_numbers x y) o (compare_bytes us vs));
    }

-- equal parts
pub begin_same : (xs : List ℕ) → Begin xs xs Equal
begin_same [] = begin_none
begin_same (x ∷ xs) =
    subst (Begin (x ∷ xs) (x ∷ xs)) (ap (λ (a : Comparison). then_compare a Equal) (numbers_equal x x refl) ∙ then_equal Equal)
    (begin_next x x xs xs Equal (begin_same xs))

-- one number, and two
pub begin_one : (x y : ℕ) → Begin (x ∷ []) (y ∷ []) (compare_numbers x y)
begin_one x y = subst (Begin (x ∷ []) (y ∷ [])) (then_equal (compare_numbers x y)) (begin_next x y [] [] Equal begin_none)

pub begin_two : (x y z w : ℕ) → Begin (x ∷ y ∷ []) (z ∷ w ∷ []) (then_compare (compare_numbers x z) (compare_numbers y w))
begin_two x y z w = begin_next x z (y ∷ []) (w ∷ []) (compare_numbers y w) (begin_one y w)

-- a part and the next; where the first decides, nothing need be known of the next, whose lengths may differ
then_behind : (a b o next : Comparison) → (a ≡ Equal → next ≡ then_compare b o) → then_compare a next ≡ then_compare (then_compare a b) o
unfolding then_compare
then_behind Less b o next h = refl
then_behind Equal b o next h = h refl
then_behind Greater b o next h = refl

pub begin_then : (xs ys us vs : List ℕ) (a b : Comparison) → Begin xs ys a → (a ≡ Equal → Begin us vs b) → Begin (xs ++ us) (ys ++ vs) (then_compare a b)
begin_then xs ys us vs a b p q =
    record {
      before =
          λ rs ts.
          ap₂ compare_bytes (append_assoc xs us rs) (append_assoc ys vs ts)
          ∙ p.before (us ++ rs) (vs ++ ts)
          ∙ then_behind a b (compare_bytes rs ts) (compare_bytes (us ++ rs) (vs ++ ts)) (λ e. (q e).before rs ts);
    }

-- parts one after the other
pub begin_concat : (n : ℕ) (f g : ℕ → List ℕ) (c : ℕ → Comparison) → ((i : ℕ) → i < n → Begin (f i) (g i) (c i))
    → Begin (concat_below n f) (concat_below n g) (decision_below n c)
unfolding concat_below decision_below
begin_concat zero f g c h = begin_none
begin_concat (suc n) f g c h =
    begin_then (concat_below n f) (concat_below n g) (f n) (g n) (decision_below n c) (c n)
    (begin_concat n f g c (λ i l. h i (omega arith))) (λ e. h n (omega arith))

-- ---- what the answers say
unfoldable pub is_less : Comparison → Bool
is_less Less = true
is_less Equal = false
is_less Greater = false

-- the library's `is_lt`
pub lt_less : (a : Comparison) → is_lt a ≡ is_less a
unfolding is_less
lt_less Less = refl
lt_less Equal = refl
lt_less Greater = refl

-- less exactly where the first comes before the second
pub precedes_compare : (xs ys : List ℕ) → precedes xs ys ≡ is_less (compare_bytes xs ys)
unfolding precedes compare_bytes is_less then_compare
precedes_compare [] [] = refl
precedes_compare [] (y ∷ ys) = refl
precedes_compare (x ∷ xs) [] = refl
precedes_compare (x ∷ xs) (y ∷ ys) =
    numbers_cases x y
    (λ l. first_less x y xs ys l ∙ ap (λ a. is_less (then_compare a (compare_bytes xs ys))) (sym (numbers_less x y l)))
    (λ e. first_equal x y xs ys e ∙ precedes_compare xs ys ∙ ap (λ a. is_less (then_compare a (compare_bytes xs ys))) (sym (numbers_equal x y e)))
    (λ l. first_greater x y xs ys l ∙ ap (λ a. is_less (then_compare a (compare_bytes xs ys))) (sym (numbers_greater x y l)))

-- the answer of the two the other way round
opposite : Comparison → Comparison
opposite Less = Greater
opposite Equal = Equal
opposite Greater = Less

opposite_then : (a b : Comparison) → opposite (then_compare a b) ≡ then_compare (opposite a) (opposite b)
unfolding opposite then_compare
opposite_then Less b = refl
opposite_then Equal b = refl
opposite_then Greater b = refl

opposite_numbers : (x y : ℕ) → compare_numbers y x ≡ opposite (compare_numbers x y)
unfolding opposite
opposite_numbers x y =
    numbers_cases x y (λ l. numbers_greater y x l ∙ ap opposite (sym (numbers_less x y l)))
    (λ e. numbers_equal y x (sym e) ∙ ap opposite (sym (numbers_equal x y e))) (λ l. numbers_less y x l ∙ ap opposite (sym (numbers_greater x y l)))

opposite_compare : (xs ys : List ℕ) → compare_bytes ys xs ≡ opposite (compare_bytes xs ys)
unfolding compare_bytes opposite
opposite_compare [] [] = refl
opposite_compare [] (y ∷ ys) = refl
opposite_compare (x ∷ xs) [] = refl
opposite_compare (x ∷ xs) (y ∷ ys) =
    ap₂ then_compare (opposite_numbers x y) (opposite_compare xs ys) ∙ sym (opposite_then (compare_numbers x y) (compare_bytes xs ys))

less_of : (o : Comparison) → is_less o ≡ true → o ≡ Less
unfolding is_less
less_of Less h = refl
less_of Equal h = absurd (true_false (sym h))
less_of Greater h = absurd (true_false (sym h))

module _ (xs ys : List ℕ) where
  pub says_less : compare_bytes xs ys ≡ Less ↔ precedes xs ys ≡ true
  unfolding is_less
  says_less = ((λ e. precedes_compare xs ys ∙ ap is_less e), (λ e. less_of (compare_bytes xs ys) (sym (precedes_compare xs ys) ∙ e)))

  pub says_equal : compare_bytes xs ys ≡ Equal ↔ xs ≡ ys
  unfolding is_less opposite
  says_equal = (
    (λ e.
        not_before_antisymmetric xs ys (precedes_compare ys xs ∙ ap is_less (opposite_compare xs ys ∙ ap opposite e)) (precedes_compare xs ys ∙ ap is_less e)),
    (λ e. subst (λ (zs : List ℕ). compare_bytes xs zs ≡ Equal) e (begin_whole xs xs Equal (begin_same xs))),
  )

module _ (xs ys : List ℕ) where
  pub says_greater : compare_bytes xs ys ≡ Greater ↔ precedes ys xs ≡ true
  unfolding opposite
  says_greater = (
    (λ e. (says_less ys xs).0 (opposite_compare xs ys ∙ ap opposite e)),
    (λ e. opposite_compare ys xs ∙ ap opposite ((says_less ys xs).1 e)),
  )
