-- What the chains of the code work out, in the words of tests and tables: a test of each of the first elements of a list, and an
-- array made place by place. Assumes nothing.
--
--   all_taken                      `all` over the first n elements of a list is the test of every number below n
--   all_counted                    the same where the test has the place too
--   table_made                     an array of n elements, each made by a call with its place, is the table of them
use Prim.Native.Nat.{ℕ, zero, suc, ◌+◌, ◌≤◌, ◌<◌}
use Rattle.std.specs.Prelude.{◌≡◌, Bool, true, List, [], ◌∷◌, length, get_or, take}
use Rattle.std.specs.List.{list_all, enumerate_from}
use Rattle.std.specs.Fn.{Called}
use Rattle.std.proofs.Common.{sym, ap, ◌∙◌, subst, zero-add, arith}
use Rattle.std.proofs.lemmas.List.{take_all, get_or-take, length-take-le}
use Rattle.std.proofs.lemmas.List.FromFn.{length-enumerate_from, get_or-enumerate_from}
use Rattle.std.proofs.Math.Decide.{ℕ_discrete}
use Rattle.std.specs.Array.{IsFromFnResult, IsFromFnResultFrom}
use denote.Param.Members.{Mut}
use Rattle.std.proofs.Math.Path.{refl, ap₂}
use Rattle.logic.specs.Tests.{all_below, all_at, all_by, all_cong, bool_ext, and_left, and_right, and_both}
use Rattle.logic.specs.Table.{table, ext_table}

module _ {A : Type 0} (test : A → Bool) (d : A) where
  read_off : (n : ℕ) (l : List A) → list_all test (take n l) ≡ true → (i : ℕ) → i < n → i < length l → test (get_or l i d) ≡ true
  read_off n [] e i h k = absurd (omega arith)
  read_off zero (x ∷ xs) e i h k = absurd (omega arith)
  read_off (suc n) (x ∷ xs) e zero h k = and_left (test x) (list_all test (take n xs)) e
  read_off (suc n) (x ∷ xs) e (suc i) h k = read_off n xs (and_right (test x) (list_all test (take n xs)) e) i (omega arith) (omega arith)

  shown_from : (n : ℕ) (l : List A) → n ≤ length l → ((i : ℕ) → i < n → test (get_or l i d) ≡ true) → list_all test (take n l) ≡ true
  shown_from zero l h f = refl
  shown_from (suc n) [] h f = absurd (omega arith)
  shown_from (suc n) (x ∷ xs) h f = and_both (f 0 (omega arith)) (shown_from n xs (omega arith) (λ i b. f (suc i) (omega arith)))

  -- `all` over the first n elements of a list is the test of every number below n
  pub all_taken : (n : ℕ) (l : List A) → n ≤ length l → list_all test (take n l) ≡ all_below n (λ i. test (get_or l i d))
  all_taken n l h =
      bool_ext (list_all test (take n l)) (all_below n (λ i. test (get_or l i d)))
      (λ e. all_by n (λ i. test (get_or l i d)) (λ i b. read_off n l e i b (omega arith)))
      (λ e. shown_from n l h (λ i b. all_at n (λ j. test (get_or l j d)) e i b))

-- the same where the test has the place too
pub all_counted : {A : Type 0} (test : ℕ → A → Bool) (d : A) (n : ℕ) (l : List A) → n ≤ length l
    → list_all (λ p. test p.0 p.1) (enumerate_from 0 (take n l)) ≡ all_below n (λ i. test i (get_or l i d))
all_counted {A} test d n l h =
    let xs = take n l in
    let ps = enumerate_from 0 xs in
    let f : ℕ × A → Bool = λ p. test p.0 p.1 in
    let long : length xs ≡ n = length-take-le n l h in
    ap (list_all f) (sym (take_all n ps (omega (arith, length-enumerate_from 0 xs, long))))
    ∙ all_taken f (0, d) n ps (omega (arith, length-enumerate_from 0 xs, long))
    ∙ all_cong n (λ i. f (get_or ps i (0, d))) (λ i. test i (get_or l i d))
    (λ i b. ap f (get_or-enumerate_from 0 xs i (0, d) (omega (arith, long))) ∙ ap₂ test (zero-add i) (get_or-take n l i d b))

-- an array of n elements, each made by a call with its place that leaves the callee as it was, is the table of them
module _ {F A : Type 0} (g : Mut F (ℕ × Unit {0}) A) (f : F) (d : A) (made : ℕ → A) (total : ℕ) (each : (i : ℕ) (y : A) (q : F) → i < total → Called g f (i, tt) y q → (q ≡ f) × (y ≡ made i)) where
  made_from : (n i : ℕ) (l : List A) → i + n ≡ total → IsFromFnResultFrom g f l i n → (k : ℕ) → i ≤ k → k < total → get_or l k d ≡ made k
  made_from zero i l e r k h b = absurd (omega arith)
  made_from (suc n) i l e r k h b =
      elim (ℕ_discrete k i) [
        | yes q ↦ rw q ((r.2).1 d ∙ (each i r.1 r.0 (omega arith) r.3).1)
        | no q ↦
            made_from n (i + 1) l (omega arith)
            (subst (λ p. IsFromFnResultFrom g p l (i + 1) n) (each i r.1 r.0 (omega arith) r.3).0 r.4)
            k (omega arith) b
      ]

  pub table_made : (l : List A) → IsFromFnResult g f l total → l ≡ table total made
  table_made l r = ext_table d total made l r.long (λ k b. made_from total 0 l (zero-add total) r.each k (omega arith) b)
