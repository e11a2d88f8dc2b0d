-- Demand 3 of representatives, for states that meet the rules: a representative is the state under one of its renamings, the
-- image under every other renaming is equal or greater, and two representatives are equal exactly when some renaming turns
-- one state into the other. Assumes nothing.
use Rattle.std.specs.Prelude.{ℕ, ◌≤◌, ◌≡◌, refl, Bool, true, false, List, ◌↔◌, ◌⊎◌}
use Rattle.std.proofs.Common.{sym, ap, ◌∙◌, subst, inl, inr, arith}
use Rattle.std.proofs.Math.Path.{fun_ext}
use Rattle.logic.specs.Order.{precedes, not_before_antisymmetric}
use Rattle.logic.specs.Least.{least_from, least_at, least_is, same_representative}
use Rattle.cluster.specs.declared.State.{State}
use Rattle.cluster.specs.State.{replica_count_of, Same, tidy}
use Rattle.cluster.specs.Rules.{rules}
use Rattle.cluster.specs.Equality.{same_iff_tidy, tidy_same}
use Rattle.cluster.specs.RuleLaws.{rules_bounded}
use Rattle.images.specs.Image.{image}
use Rattle.images.specs.ImageTheorems.{image_iff}
use Rattle.renamings.specs.Names.{inverted, composed, is_renaming, rows, row}
use Rattle.renamings.specs.Rename.{renamed, Renames, Met}
use Rattle.renamings.specs.Rows.{rows_count, first-row, distinct_of, row_number}
use Rattle.renamings.specs.Places.{composed_renaming, inverted_renaming, renaming_five}
use Rattle.renamings.specs.TidyRenamed.{met_tidy, at_most_five}
use Rattle.renamings.specs.RenameTheorems.{renamed_same, renamed_five, renames_tidy, renames_renamed, renamed_meets_rules, renamed_is_tidy, renamed_twice, renamed_back}
use Rattle.representatives.specs.Representative.{image_under, least_renaming, representative}

module _ (s : State) (h : rules s ≡ true) where
  few : replica_count_of s.limits ≤ 5
  few = (rules_bounded s h).replicas

  least_fits : Renames s (least_renaming s)
  unfolding least_renaming
  least_fits =
      least_is (is_renaming (replica_count_of s.limits)) (image_under s) (Renames s) (row 0) rows (first-row (replica_count_of s.limits) few) (λ p f. f)

  -- the representative "is the state under one of its renamings"
  pub is_renamed : (p : List ℕ) × Renames s p × (representative s ≡ renamed p s)
  unfolding representative
  is_renamed = (least_renaming s, least_fits, refl)

  -- "with the least image": no image under a renaming comes before it
  pub has_least_image : (p : List ℕ) → Renames s p → precedes (image (renamed p s)) (image (representative s)) ≡ false
  unfolding representative least_renaming
  has_least_image p f =
      let n = replica_count_of s.limits in
      let x = row_number n few p (distinct_of n p f) in
      rw (← renamed_five s p, ← x.2)
      (least_at (is_renaming n) (image_under s) (row 0) _ rows x.0 (omega (arith, rows_count, x.1))
      (ap (is_renaming n) x.2 ∙ renaming_five n p ∙ f))

  -- "under every other renaming the image is equal or greater"
  pub equal_or_greater : (p : List ℕ) → Renames s p
      → (image (representative s) ≡ image (renamed p s)) ⊎ (precedes (image (representative s)) (image (renamed p s)) ≡ true)
  equal_or_greater p f = by_precedes (precedes (image (representative s)) (image (renamed p s))) refl
    where
      by_precedes : (b : Bool) → precedes (image (representative s)) (image (renamed p s)) ≡ b
          → (image (representative s) ≡ image (renamed p s)) ⊎ (precedes (image (representative s)) (image (renamed p s)) ≡ true)
      by_precedes true e = inr e
      by_precedes false e = inl (not_before_antisymmetric (image (representative s)) (image (renamed p s)) (has_least_image p f) e)

-- ---- equal representatives
-- tidy states that meet the rules and have one image are one state
image_one_to_one : (s t : State) → Met s → Met t → image s ≡ image t → s ≡ t
image_one_to_one s t m k e = sym m.tidy ∙ (same_iff_tidy s t).0 ((image_iff s t m.rules k.rules).0 e) ∙ k.tidy

renamed_is_met : (s : State) (p : List ℕ) → Met s → Renames s p → Met (renamed p s)
renamed_is_met s p m f = record { rules = renamed_meets_rules s m.rules p f; tidy = renamed_is_tidy s m.rules p f }

renamed_again : (s : State) (p q : List ℕ) → Met s → Renames s p → Renames (renamed p s) q
    → (r : List ℕ) × Renames s r × (renamed r s ≡ renamed q (renamed p s))
renamed_again s p q m f g =
    let k = (renames_renamed s p q).1 g in (
      composed q p,
      composed_renaming (replica_count_of s.limits) (at_most_five s m) q p k f,
      sym (renamed_twice s m.rules p f q k),
    )

renamed_undone : (s : State) (p : List ℕ) → Met s → Renames s p → (q : List ℕ) × Renames (renamed p s) q × (renamed q (renamed p s) ≡ s)
renamed_undone s p m f = (
  inverted p,
  (renames_renamed s p (inverted p)).0 (inverted_renaming (replica_count_of s.limits) (at_most_five s m) p f),
  renamed_back s m.rules p f ∙ m.tidy,
)

-- tidy states have one representative exactly when some renaming turns one into the other
tidy_representatives : (s t : State) → Met s → Met t
    → representative s ≡ representative t ↔ ((p : List ℕ) × Renames s p × (renamed p s ≡ t))
tidy_representatives =
    same_representative Met Renames renamed image representative renamed_is_met renamed_again renamed_undone image_one_to_one
    (λ s m. is_renamed s m.rules) (λ s p m f. has_least_image s m.rules p f)

-- the representative looks at no unused room
renamed_tidy : (s : State) (p : List ℕ) → renamed p (tidy s) ≡ renamed p s
renamed_tidy s p = renamed_same (tidy s) s p (tidy_same s)

least_tidy : (s : State) → least_renaming (tidy s) ≡ least_renaming s
unfolding least_renaming tidy
least_tidy s =
    ap (λ (key : List ℕ → List ℕ). least_from (is_renaming (replica_count_of s.limits)) key (row 0) rows) (fun_ext (λ p. ap image (renamed_tidy s p)))

pub representative_tidy : (s : State) → representative (tidy s) ≡ representative s
unfolding representative
representative_tidy s = ap (λ (p : List ℕ). renamed p (tidy s)) (least_tidy s) ∙ renamed_tidy s (least_renaming s)

-- equal states have the same representative
pub representative_same : (s t : State) → Same s t → representative s ≡ representative t
representative_same s t m = sym (representative_tidy s) ∙ ap representative ((same_iff_tidy s t).0 m) ∙ representative_tidy t

-- two representatives are equal exactly when some renaming turns one state into the other
pub representatives_equal : (s t : State) → rules s ≡ true → rules t ≡ true
    → representative s ≡ representative t ↔ ((p : List ℕ) × Renames s p × Same (renamed p s) t)
representatives_equal s t h k =
    let of = tidy_representatives (tidy s) (tidy t) (met_tidy s h) (met_tidy t k) in (
      (λ e.
          let x = of.0 (representative_tidy s ∙ e ∙ sym (representative_tidy t)) in
          (x.0, (renames_tidy s x.0).1 x.1, subst (λ (u : State). Same u t) (sym (sym (renamed_tidy s x.0) ∙ x.2)) (tidy_same t))),
      (λ x.
          sym (representative_tidy s)
          ∙ of.1 (
            x.0,
            (renames_tidy s x.0).0 x.1,
            renamed_tidy s x.0 ∙ sym (renamed_is_tidy s h x.0 x.1) ∙ (same_iff_tidy (renamed x.0 s) t).0 x.2,
          )
          ∙ representative_tidy t),
    )
