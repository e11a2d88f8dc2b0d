-- The laws of searches in rising order: a law for every step of a loop that works one out, and laws of what is found and of what is
-- not. Assumes nothing.
--
--   first_none .. first_done       the turns of a loop that stops at the first
--   passing_yes, passing_no        a triple that passes is given, and one that does not is not
--   first_triple_none              where nothing is found, no triple below the bounds passes
--   FirstPassing n m bound test t  t is below the bounds and passes, and none before it that is below the bounds does
--   first_triple_some              the triple that is found is so
--   first_triple_found             the triple that three nested loops stop at is the one that the search finds
--   first_triple_cong              searches of the same bounds whose tests answer alike find the same
use Prim.Native.Nat.{ℕ, zero, suc, ◌+◌, ◌≤◌, ◌<◌}
use Rattle.std.specs.Prelude.{◌≡◌, Bool, true, false, cond}
use Rattle.std.proofs.Math.Path.{refl, subst}
use Rattle.std.proofs.Common.{sym, ◌∙◌, ap, ap₂, inl, inr, add-one, arith}
use Rattle.std.proofs.Math.Option.{Option, none, some, or_else, some-injective, some-ne-none}
use Rattle.std.proofs.Math.Decide.{ℕ_discrete}
use Rattle.logic.specs.Search.{Before, Triple, first_below, first_second, first_third, first_triple, passing, triple}

-- or_else gives nothing only where both give nothing
or_else_none : {A : Type 0} (o p : Option A) → or_else o p ≡ none → (o ≡ none) × (p ≡ none)
unfolding or_else
or_else_none none p h = (refl, h)
or_else_none (some a) p h = absurd (some-ne-none _ h)

-- the turns of a loop that stops at the first: its start, one that found nothing, one that found, and its end
module _ {A : Type 0} (f : ℕ → Option A) where
  pub first_none : first_below 0 f ≡ none
  unfolding first_below
  first_none = refl

  pub first_more : (n : ℕ) → first_below n f ≡ none → f n ≡ none → first_below (n + 1) f ≡ none
  unfolding first_below or_else
  first_more n p q = rw (add-one, p) q

  pub first_found : (n i : ℕ) (a : A) → i < n → first_below i f ≡ none → f i ≡ some a → some a ≡ first_below n f
  unfolding first_below or_else
  first_found zero i a l p q = absurd (omega arith)
  first_found (suc n) i a l p q =
      elim (ℕ_discrete i n) [
        | yes e ↦ let h : first_below n f ≡ none = (rw e at p) in let k : f n ≡ some a = (rw e at q) in rw (h, k)
        | no e ↦ rw (← first_found n i a (omega arith) p q)
      ]

  pub first_done : (n i : ℕ) → i ≤ n → n ≤ i → first_below i f ≡ none → none ≡ first_below n f
  first_done n i h k p = let e : i ≡ n = omega arith in sym (rw e at p)

  -- where nothing is found, each gives nothing
  first_none_at : (n : ℕ) → first_below n f ≡ none → (i : ℕ) → i < n → f i ≡ none
  unfolding first_below
  first_none_at zero h i l = absurd (omega arith)
  first_none_at (suc n) h i l =
      let p = or_else_none (first_below n f) (f n) h in
      elim (ℕ_discrete i n) [
        | yes e ↦ rw e p.1
        | no e ↦ first_none_at n p.0 i (omega arith)
      ]

  -- a is what the one at a place below n gives, and those before it give nothing
  record FirstGiving (n : ℕ) (a : A) : Type 0 where
    place : ℕ
    below : place < n
    gives : f place ≡ some a
    before : (j : ℕ) → j < place → f j ≡ none

  -- what the search finds is so
  first_some_at : (n : ℕ) (a : A) → first_below n f ≡ some a → FirstGiving n a
  unfolding first_below or_else
  first_some_at zero a h = absurd (some-ne-none _ (sym h))
  first_some_at (suc n) a h = go (first_some_at n a) (first_below n f) refl h
    where
      go : (first_below n f ≡ some a → FirstGiving n a) → (o : Option A) → first_below n f ≡ o → or_else o (f n) ≡ some a → FirstGiving (suc n) a
      go earlier none e k = record { place = n; below = omega arith; gives = k; before = first_none_at n e }
      go earlier (some b) e k =
          let g = earlier (e ∙ k) in
          record { place = g.place; below = omega (arith, g.below); gives = g.gives; before = g.before }

-- searches that give the same below n find the same
first_cong : {A : Type 0} (n : ℕ) (f g : ℕ → Option A) → ((i : ℕ) → i < n → f i ≡ g i) → first_below n f ≡ first_below n g
unfolding first_below
first_cong zero f g h = refl
first_cong (suc n) f g h = ap₂ or_else (first_cong n f g (λ i l. h i (omega arith))) (h n (omega arith))

-- a triple that passes, and one that does not
pub passing_yes : (test : ℕ → ℕ → ℕ → Bool) (i j k : ℕ) → test i j k ≡ true → passing test i j k ≡ some (triple i j k)
unfolding passing
passing_yes test i j k h = rw h

pub passing_no : (test : ℕ → ℕ → ℕ → Bool) (i j k : ℕ) → test i j k ≡ false → passing test i j k ≡ none
unfolding passing
passing_no test i j k h = rw h

-- a triple that is given passes, and one that is not does not
passing_none : (test : ℕ → ℕ → ℕ → Bool) (i j k : ℕ) → passing test i j k ≡ none → test i j k ≡ false
unfolding passing
passing_none test i j k = go (test i j k)
  where
    go : (b : Bool) → cond b (some (triple i j k)) none ≡ none → b ≡ false
    go true h = absurd (some-ne-none _ h)
    go false h = refl

passing_some : (test : ℕ → ℕ → ℕ → Bool) (i j k : ℕ) (t : Triple) → passing test i j k ≡ some t → (test i j k ≡ true) × (triple i j k ≡ t)
unfolding passing
passing_some test i j k t = go (test i j k)
  where
    go : (b : Bool) → cond b (some (triple i j k)) none ≡ some t → (b ≡ true) × (triple i j k ≡ t)
    go true h = (refl, some-injective _ _ h)
    go false h = absurd (some-ne-none _ (sym h))

-- ---- what the search of triples finds
module _ (n m : ℕ) (bound : ℕ → ℕ → ℕ) (test : ℕ → ℕ → ℕ → Bool) where
  third_none : (i j : ℕ) → first_third bound test i j ≡ none → (k : ℕ) → k < bound i j → test i j k ≡ false
  unfolding first_third
  third_none i j h k l = passing_none test i j k (first_none_at (passing test i j) (bound i j) h k l)

  second_none : (i : ℕ) → first_second m bound test i ≡ none → (j k : ℕ) → j < m → k < bound i j → test i j k ≡ false
  unfolding first_second
  second_none i h j k l = third_none i j (first_none_at (first_third bound test i) m h j l) k

  -- nothing found: no triple passes
  pub first_triple_none : first_triple n m bound test ≡ none → (i j k : ℕ) → i < n → j < m → k < bound i j → test i j k ≡ false
  unfolding first_triple
  first_triple_none h i j k l = second_none i (first_none_at (first_second m bound test) n h i l) j k

  -- the triple is below the bounds and passes, and none before it that is below the bounds does
  pub record FirstPassing (t : Triple) : Type 0 where
    pub below : (t.first < n) × (t.second < m) × (t.third < bound t.first t.second)
    pub passes : test t.first t.second t.third ≡ true
    pub smallest : (u : Triple) → Before u t → u.first < n → u.second < m → u.third < bound u.first u.second
        → test u.first u.second u.third ≡ false

  -- where nothing is given before i, then before j, then before k, no triple before them passes
  before_none : (i j k : ℕ) → ((a : ℕ) → a < i → first_second m bound test a ≡ none) → ((b : ℕ) → b < j → first_third bound test i b ≡ none)
      → ((c : ℕ) → c < k → passing test i j c ≡ none)
      → (a b c : ℕ) → Before (triple a b c) (triple i j k) → a < n → b < m → c < bound a b → test a b c ≡ false
  before_none i j k one two three a b c (inl l) u v w = second_none a (one a l) b c v w
  before_none i j k one two three a b c (inr (e, inl l)) u v w = rw e (third_none i b (two b l) c (rw e at w))
  before_none i j k one two three a b c (inr (e, inr (d, l))) u v w = rw (e, d) (passing_none test i j c (three c l))

  -- the triple that the search finds is so
  pub first_triple_some : (t : Triple) → first_triple n m bound test ≡ some t → FirstPassing t
  unfolding first_triple first_second first_third
  first_triple_some t h =
      let one = first_some_at (first_second m bound test) n t h in
      let i = one.place in
      let two = first_some_at (first_third bound test i) m t one.gives in
      let j = two.place in
      let three = first_some_at (passing test i j) (bound i j) t two.gives in
      let k = three.place in
      let own = passing_some test i j k t three.gives in
      subst FirstPassing own.1 (record {
        below = (one.below, two.below, three.below);
        passes = own.0;
        smallest = λ u. before_none i j k one.before two.before three.before u.first u.second u.third;
      })

  -- three nested loops have come to a triple that passes, and found none before it
  pub first_triple_found : (i j k : ℕ) → i < n → first_below i (first_second m bound test) ≡ none
      → j < m → first_below j (first_third bound test i) ≡ none
      → k < bound i j → first_below k (passing test i j) ≡ none
      → test i j k ≡ true → some (triple i j k) ≡ first_triple n m bound test
  unfolding first_triple first_second first_third
  first_triple_found i j k u one v two w three h =
      first_found (first_second m bound test) n i (triple i j k) u one
      (sym
      (first_found (first_third bound test i) m j (triple i j k) v two
      (sym (first_found (passing test i j) (bound i j) k (triple i j k) w three (passing_yes test i j k h)))))

-- searches of the same bounds whose tests answer alike below them find the same
pub first_triple_cong : (n m : ℕ) (b c : ℕ → ℕ → ℕ) (f g : ℕ → ℕ → ℕ → Bool)
    → ((i j : ℕ) → i < n → j < m → b i j ≡ c i j) → ((i j k : ℕ) → i < n → j < m → k < b i j → f i j k ≡ g i j k)
    → first_triple n m b f ≡ first_triple n m c g
unfolding first_triple first_second first_third passing
first_triple_cong n m b c f g p q =
    first_cong n (first_second m b f) (first_second m c g)
    (λ i u.
    first_cong m (first_third b f i) (first_third c g i)
    (λ j v.
    first_cong (b i j) (passing f i j) (passing g i j) (λ k w. ap (λ t. cond t (some (triple i j k)) none) (q i j k u v w))
    ∙ ap (λ (l : ℕ). first_below l (passing g i j)) (p i j u v)))
