use Rattle.std.proofs.Common.{ℕ, List, ◌+◌, ◌*◌, ◌-◌, ◌≤◌, ◌<◌, ◌≡◌, get_or, ap, ◌∙◌, arith, rules, tests}
use Rattle.logic.specs.Chains.{table_made}
use Rattle.renamings.specs.Fitting.{factorial, part_numbers, held_by, last_place, fitting_row, fitting_most, fitting_wide, last_high, part_at, last_cong}
use Rattle.renamings.specs.CodeLaws.{served}
use Rattle.renamings.proofs.rows.fitting_row.Goals as goal

module _ (n k first : ℕ) (part : List ℕ) (is : part ≡ part_numbers first) (small : n ≤ 5) (from : first ≤ k)
    (in_part : k < first + 24) (in_rows : k < factorial n) where
  -- what the row holds
  held : (x : ℕ) → x < 5 → get_or part (5 * (k - first) + x) 0 ≡ held_by k x
  held x h =
      let most = fitting_most n small in
      let e : first + (k - first) ≡ k = omega arith in
      ap (λ (l : List ℕ). get_or l (5 * (k - first) + x) 0) is
      ∙ part_at first (k - first) x (omega arith) (omega arith) h
      ∙ ap (λ (m : ℕ). held_by m x) e

  -- what is read of it is not below 5 - n
  high : (j : ℕ) → j < n → 5 - n ≤ get_or part (5 * (k - first) + (5 - n + j)) 0
  high j h = rw (held (5 - n + j) (omega arith)) (last_high n k j small in_rows h)

  -- so its last places are those of the row
  named : (j : ℕ) → last_place n (λ x. get_or part (5 * (k - first) + x) 0) j ≡ last_place n (held_by k) j
  named = last_cong n (λ x. get_or part (5 * (k - first) + x) 0) (held_by k) small held

pub from_fn-requires : goal.from_fn-requires
from_fn-requires c = let a = c.args in
    let r = c.requires in (
      omega arith,
      served _ _ _ _ _ (λ x q v. search rules)
          (λ t x u st.
          let low : x < 5 = omega (arith, st.0, st.1) in
          let above = high a.n a.k a.first a.part.now r.part_value r.n_bound r.first_le_k r.k_bound r.k_bound_2 x in
          let here : a.k - a.first < 24 = omega (arith, r.k_bound) in
          search rules),
    )

pub new-requires : goal.new-requires
unfolding fitting_row
new-requires c = let a = c.args in
    let r = c.requires in
    rw (table_made _ _ 0 (last_place a.n (held_by a.k)) 5
    (λ j y q b k. let e = named a.n a.k a.first a.part.now r.part_value r.n_bound r.first_le_k r.k_bound r.k_bound_2 j in search (rules, tests))
    c.from_fn.result c.from_fn.ensures.items)
    (fitting_wide a.n a.k r.n_bound r.k_bound_2)

pub returns : goal.returns
unfolding fitting_row
returns c = let a = c.args in
    let r = c.requires in
    c.new.ensures
    ∙ table_made _ _ 0 (last_place a.n (held_by a.k)) 5
    (λ j y q b k. let e = named a.n a.k a.first a.part.now r.part_value r.n_bound r.first_le_k r.k_bound r.k_bound_2 j in search (rules, tests))
    c.from_fn.result c.from_fn.ensures.items
