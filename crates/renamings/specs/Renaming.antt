-- A renaming of n replicas as two functions that undo one another and leave every number from n on. Renamings have
-- inverses and compose; tests and maxima over the replicas are the same after a renaming. Assumes nothing.
use Rattle.std.specs.Prelude.{ℕ, ◌≤◌, ◌<◌, ◌≡◌, Bool, eqb, ltb}
use Rattle.std.proofs.Common.{sym, ap, ◌∙◌, subst, arith, le_antisymm, lt-ltb, eq-eqb, eqb-true, ltb-true}
use Rattle.std.proofs.Math.Decide.{dec_lt}
use Rattle.logic.specs.Tests.{bool_ext, all_below, all_at, all_by}
use Rattle.logic.specs.Greatest.{greatest_below, greatest_at, greatest_by}

pub record Renaming (n : ℕ) : Type 0 where
  pub to : ℕ → ℕ
  pub from : ℕ → ℕ
  pub to_from : (i : ℕ) → to (from i) ≡ i
  pub from_to : (i : ℕ) → from (to i) ≡ i
  pub keeps : (i : ℕ) → n ≤ i → to i ≡ i

abbrev pub inverse : {n : ℕ} → Renaming n → Renaming n
inverse p =
    record {
      to = p.from;
      from = p.to;
      to_from = p.from_to;
      from_to = p.to_from;
      keeps = λ i h. sym (ap p.from (p.keeps i h)) ∙ p.from_to i;
    }

-- first q, then p
abbrev pub compose : {n : ℕ} → Renaming n → Renaming n → Renaming n
compose p q =
    record {
      to = λ i. p.to (q.to i);
      from = λ i. q.from (p.from i);
      to_from = λ i. ap p.to (q.to_from (p.from i)) ∙ p.to_from i;
      from_to = λ i. ap q.from (p.from_to (q.to i)) ∙ q.from_to i;
      keeps = λ i h. ap p.to (q.keeps i h) ∙ p.keeps i h;
    }

module _ {n : ℕ} (p : Renaming n) where
  -- a number below a bound that no replica reaches stays below it
  pub to_below : (k : ℕ) → n ≤ k → (i : ℕ) → i < k → p.to i < k
  to_below k r i h = go (dec_lt (p.to i) k)
    where
      go : Dec (p.to i < k) → p.to i < k
      go (yes d) = d
      go (no d) =
          let e : p.to (p.to i) ≡ p.to i = p.keeps (p.to i) (omega arith) in
          let f : p.to i ≡ i = sym (p.from_to (p.to i)) ∙ ap p.from e ∙ p.from_to i in
          absurd (omega arith)

  pub eqb_to : (i j : ℕ) → eqb (p.to i) (p.to j) ≡ eqb i j
  eqb_to i j =
      bool_ext (eqb (p.to i) (p.to j)) (eqb i j)
      (λ e. eq-eqb i j (sym (p.from_to i) ∙ ap p.from (eqb-true (p.to i) (p.to j) e) ∙ p.from_to j))
      (λ e. eq-eqb (p.to i) (p.to j) (ap p.to (eqb-true i j e)))

module _ {n : ℕ} (p : Renaming n) where
  pub from_below : (k : ℕ) → n ≤ k → (i : ℕ) → i < k → p.from i < k
  from_below k r i h = to_below (inverse p) k r i h

  -- j is p(a) exactly where the old name of j is a
  pub eqb_from : (j a : ℕ) → eqb j (p.to a) ≡ eqb (p.from j) a
  eqb_from j a = ap (λ (k : ℕ). eqb k (p.to a)) (sym (p.to_from j)) ∙ eqb_to p (p.from j) a

  pub ltb_to : (k : ℕ) → n ≤ k → (i : ℕ) → ltb (p.to i) k ≡ ltb i k
  ltb_to k r i =
      bool_ext (ltb (p.to i) k) (ltb i k)
      (λ e. lt-ltb i k (subst (λ (m : ℕ). m < k) (p.from_to i) (from_below k r (p.to i) (ltb-true (p.to i) k e))))
      (λ e. lt-ltb (p.to i) k (to_below p k r i (ltb-true i k e)))

  -- a test of every number below k, renamed
  pub all_to : (k : ℕ) → n ≤ k → (f g : ℕ → Bool) → ((i : ℕ) → i < k → f (p.to i) ≡ g i) → all_below k f ≡ all_below k g
  all_to k r f g h =
      bool_ext (all_below k f) (all_below k g)
      (λ e. all_by k g (λ i b. sym (h i b) ∙ all_at k f e (p.to i) (to_below p k r i b)))
      (λ e.
      all_by k f
      (λ i b. ap f (sym (p.to_from i)) ∙ h (p.from i) (from_below k r i b) ∙ all_at k g e (p.from i) (from_below k r i b)))

  -- the greatest of the numbers below k, renamed
  pub greatest_to : (k : ℕ) → n ≤ k → (f g : ℕ → ℕ) → ((i : ℕ) → i < k → f (p.to i) ≡ g i) → greatest_below k f ≡ greatest_below k g
  greatest_to k r f g h =
      le_antisymm
      (greatest_by k f (greatest_below k g)
      (λ j b.
      subst (λ (m : ℕ). f m ≤ greatest_below k g) (p.to_from j)
      (subst (λ (m : ℕ). m ≤ greatest_below k g) (sym (h (p.from j) (from_below k r j b))) (greatest_at k g (p.from j) (from_below k r j b)))))
      (greatest_by k g (greatest_below k f)
      (λ i b. subst (λ (m : ℕ). m ≤ greatest_below k f) (h i b) (greatest_at k f (p.to i) (to_below p k r i b))))
