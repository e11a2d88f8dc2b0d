-- The five places of a renaming, of one after another, and of the inverse: renamings as five places compose and have inverses.
-- Assumes nothing.
use Rattle.std.specs.Prelude.{ℕ, ◌≤◌, ◌<◌, ◌≡◌, true, List, ◌↔◌}
use Rattle.std.proofs.Common.{sym, ap₂, ◌∙◌, arith, le_refl, lt-ltb, le-ltb}
use Rattle.std.proofs.Math.Path.{ap, fun_ext}
use Rattle.std.proofs.Math.Decide.{dec_lt}
use Rattle.logic.specs.Tests.{all_below}
use Rattle.logic.specs.Table.{table, get_d_table}
use Rattle.cluster.specs.declared.State.{State}
use Rattle.renamings.specs.Names.{new_name, old_name, inverted, composed, in_place, is_new, is_renaming}
use Rattle.renamings.specs.Rename.{rename_state}
use Rattle.renamings.specs.Renaming.{Renaming, inverse, compose, to_below, from_below}
use Rattle.renamings.specs.Rows.{distinct_by, renaming_of, five, new_name_five, old_name_five}

-- ---- the five places that hold the new names
places_of : {n : ℕ} → Renaming n → List ℕ
places_of p = table 5 p.to

module _ {n : ℕ} (small : n ≤ 5) (p : Renaming n) where
  new_name_places : (i : ℕ) → new_name (places_of p) i ≡ p.to i
  unfolding new_name places_of
  new_name_places i =
      elim (dec_lt i 5) [
        | yes h ↦ rw (lt-ltb i 5 h) (get_d_table 5 p.to i 0 h)
        | no h ↦ rw (le-ltb i 5 (omega arith)) (sym (p.keeps i (omega arith)))
      ]

  places_renaming : is_renaming n (places_of p) ≡ true
  places_renaming =
      distinct_by n (places_of p)
      (record {
        within = λ i b h. rw (new_name_places i) (to_below p n (le_refl n) i b);
        others = λ i b h. new_name_places i ∙ p.keeps i b;
        distinct = λ i j h b e. to_distinct i j b (sym (new_name_places i) ∙ e ∙ new_name_places j);
      })
    where
      to_distinct : (i j : ℕ) → j < i → p.to i ≡ p.to j → ⊥
      to_distinct i j b e = let z : i ≡ j = sym (p.from_to i) ∙ ap p.from e ∙ p.from_to j in omega arith

  old_name_places : (j : ℕ) → old_name (places_of p) j ≡ p.from j
  old_name_places j =
      ap (old_name (places_of p)) (sym (new_name_places (p.from j) ∙ p.to_from j))
      ∙ (renaming_of n small (places_of p) places_renaming).from_to (p.from j)

  -- so the state under them is the state under the renaming
  state_places : (s : State) → rename_state (new_name (places_of p)) (old_name (places_of p)) s ≡ rename_state p.to p.from s
  state_places s = ap₂ (λ (t f : ℕ → ℕ). rename_state t f s) (fun_ext new_name_places) (fun_ext old_name_places)

-- only the first five numbers of a list count
pub renaming_five : (n : ℕ) (p : List ℕ) → is_renaming n (five p) ≡ is_renaming n p
unfolding is_renaming in_place is_new all_below
renaming_five n p = simp new_name_five

pub state_five : (p : List ℕ) (s : State) → rename_state (new_name (five p)) (old_name (five p)) s ≡ rename_state (new_name p) (old_name p) s
state_five p s = ap₂ (λ (t f : ℕ → ℕ). rename_state t f s) (fun_ext (new_name_five p)) (fun_ext (old_name_five p))

-- ---- one after the other
module _ (n : ℕ) (small : n ≤ 5) (p q : List ℕ) (f : is_renaming n p ≡ true) (g : is_renaming n q ≡ true) where
  abbrev p_after_q : Renaming n
  p_after_q = compose (renaming_of n small p f) (renaming_of n small q g)

  pub composed_renaming : is_renaming n (composed p q) ≡ true
  unfolding composed places_of
  composed_renaming = places_renaming small p_after_q

  pub composed_names : (i : ℕ) → new_name (composed p q) i ≡ new_name p (new_name q i)
  unfolding composed places_of
  composed_names = new_name_places small p_after_q

  pub composed_state : (s : State) → rename_state (new_name (composed p q)) (old_name (composed p q)) s ≡ rename_state p_after_q.to p_after_q.from s
  unfolding composed places_of
  composed_state = state_places small p_after_q

-- ---- the inverse
module _ (n : ℕ) (small : n ≤ 5) (p : List ℕ) (f : is_renaming n p ≡ true) where
  abbrev inverse_of_p : Renaming n
  inverse_of_p = inverse (renaming_of n small p f)

  pub inverted_renaming : is_renaming n (inverted p) ≡ true
  unfolding inverted places_of
  inverted_renaming = places_renaming small inverse_of_p

  pub inverted_names : (i : ℕ) → new_name (inverted p) (new_name p i) ≡ i
  unfolding inverted places_of
  inverted_names i = new_name_places small inverse_of_p (new_name p i) ∙ (renaming_of n small p f).from_to i

  pub names_inverted : (i : ℕ) → new_name p (new_name (inverted p) i) ≡ i
  unfolding inverted places_of
  names_inverted i = ap (new_name p) (new_name_places small inverse_of_p i) ∙ (renaming_of n small p f).to_from i

  pub inverted_state : (s : State) → rename_state (new_name (inverted p)) (old_name (inverted p)) s ≡ rename_state (old_name p) (new_name p) s
  unfolding inverted places_of
  inverted_state = state_places small inverse_of_p

-- ---- the words of the paper
-- "the first R hold 0 to R-1 once each, the others their own number"
pub record HoldsOnce (n : ℕ) (p : List ℕ) : Type 0 where
  pub below : (i : ℕ) → i < n → new_name p i < n
  pub held : (j : ℕ) → j < n → (i : ℕ) × (i < n) × (new_name p i ≡ j)
  pub once : (i j : ℕ) → i < n → j < n → new_name p i ≡ new_name p j → i ≡ j
  pub own : (i : ℕ) → n ≤ i → i < 5 → new_name p i ≡ i

pub renaming_iff : (n : ℕ) (p : List ℕ) → n ≤ 5 → is_renaming n p ≡ true ↔ HoldsOnce n p
renaming_iff n p small = (
  (λ h.
      let r : Renaming n = renaming_of n small p h in
      record {
        below = λ i l. to_below r n (le_refl n) i l;
        held = λ j l. (old_name p j, from_below r n (le_refl n) j l, r.to_from j);
        once = λ i j k l e. sym (r.from_to i) ∙ ap (old_name p) e ∙ r.from_to j;
        own = λ i k l. r.keeps i k;
      }),
  (λ r. distinct_by n p (record { within = λ i b h. r.below i b; others = r.own; distinct = λ i j h b e. names_distinct r i j h b e (dec_lt i n) (dec_lt j n) })),
)
  where
    names_distinct : HoldsOnce n p → (i j : ℕ) → i < 5 → j < i → new_name p i ≡ new_name p j → Dec (i < n) → Dec (j < n) → ⊥
    names_distinct r i j h b e (yes k) (yes l) = let z = r.once i j k l e in omega arith
    names_distinct r i j h b e (yes k) (no l) = omega arith
    names_distinct r i j h b e (no k) (yes l) = omega (arith, r.own i (omega arith) h, e, r.below j l)
    names_distinct r i j h b e (no k) (no l) = omega (arith, r.own i (omega arith) h, e, r.own j (omega arith) (omega arith))
