-- The laws of entries gone over once: the pass goes through exactly where entries of one id have one value, none of them 0.
-- Assumes nothing.
--
--   passed_new, passed_known       the pass over one entry, whose id was not met, or was
--   passing_start .. passing_end   the turns of a loop over lists of entries
--   agree_alike                    with no id met at its start, the pass over Storable entries goes through exactly where all are alike
--   in_concat, in_some             the lists put together have exactly the entries that are in one of them
use Rattle.std.specs.Prelude.{ℕ, zero, suc, ◌+◌, ◌-◌, ◌≤◌, ◌<◌, ◌≡◌, Bool, ◌||◌, cond, List, [], ◌∷◌, ◌++◌, ◌↔◌, ◌⊎◌, set, replicate}
use Rattle.std.proofs.Math.Path.{refl, sym, ap}
use Rattle.std.proofs.Common.{◌∙◌, subst, inl, inr, add-zero, arith}
use Rattle.std.proofs.Math.Bool.{true, false}
use Rattle.std.proofs.Math.Decide.{ℕ_discrete}
use Rattle.std.proofs.Math.Dec.{eqb}
use Rattle.std.proofs.Math.ListN.{length, get_or, length-set}
use Rattle.std.proofs.lemmas.List.{length-replicate, get_or-replicate}
use Rattle.std.proofs.Math.Seq.{get_or-set_same, get_or-set_other}
use borrow.Author.Tests.{eqb-true, eq-eqb, ne_eqb}
use Rattle.logic.specs.Tests.{and_both, and_left, and_right, and_yes, either, true_false}
use Rattle.logic.specs.Concat.{concat_below, concat_none, concat_more}
use Rattle.logic.specs.Entries.{Alike, Entry, In, InSome, Passed, Storable, agree_all, meets, note_all, noted, value_in}

-- ---- one entry: its id was not met, or it was
pub passed_new : (t : List ℕ) (e : Entry) → value_in t e ≡ 0 → Passed t (e ∷ []) true (set t e.id e.value)
unfolding meets noted agree_all note_all
passed_new t e h = let q = eq-eqb (value_in t e) 0 h in record { agree = rw q; table = rw q }

pub passed_known : (t : List ℕ) (e : Entry) → (value_in t e ≡ 0 → ⊥) → Passed t (e ∷ []) (eqb (value_in t e) e.value) t
unfolding meets noted agree_all note_all
passed_known t e h =
    let q = ne_eqb (value_in t e) 0 h in
    record { agree = rw (q, and_yes (eqb (value_in t e) e.value)); table = rw q (sym (same (eqb (value_in t e) e.value) t)) }
  where
    same : (b : Bool) (l : List ℕ) → cond b l l ≡ l
    same true l = refl
    same false l = refl

-- ---- one list after another
passed_none : (t : List ℕ) → Passed t [] true t
unfolding agree_all note_all
passed_none t = record { agree = refl; table = refl }

-- where the first entry meets the table, the pass is that over the others; where it does not, it ends there
passed_first : (t : List ℕ) (e : Entry) (es : List Entry) (b : Bool) (last : List ℕ) → meets t e ≡ true
    → Passed (noted t e) es b last ↔ Passed t (e ∷ es) b last
unfolding agree_all note_all
passed_first t e es b last m = (
  (λ w. record { agree = rw m w.agree; table = rw m w.table }),
  (λ w. record { agree = rw m at w.agree; table = rw m at w.table }),
)

passed_last : (t : List ℕ) (e : Entry) (es : List Entry) → meets t e ≡ false → Passed t (e ∷ es) false (noted t e)
unfolding agree_all note_all
passed_last t e es m = record { agree = rw m; table = rw m }

first_met : (t : List ℕ) (e : Entry) (es : List Entry) (last : List ℕ) → Passed t (e ∷ es) true last → meets t e ≡ true
unfolding agree_all
first_met t e es last w = and_left (meets t e) (agree_all (noted t e) es) (sym w.agree)

-- the pass goes on with the second list, or has ended in the first
passed_more : (t : List ℕ) (ds es : List Entry) (b : Bool) (now last : List ℕ)
    → Passed t ds true now → Passed now es b last → Passed t (ds ++ es) b last
unfolding note_all
passed_more t [] es b now last v w = subst (λ l. Passed l es b last) v.table w
passed_more t (d ∷ ds) es b now last v w =
    let m = first_met t d ds now v in
    (passed_first t d (ds ++ es) b last m).0 (passed_more (noted t d) ds es b now last ((passed_first t d ds true now m).1 v) w)

passed_ended : (t : List ℕ) (ds es : List Entry) (last : List ℕ) → Passed t ds false last → Passed t (ds ++ es) false last
unfolding agree_all note_all
passed_ended t [] es last w = absurd (true_false (sym w.agree))
passed_ended t (d ∷ ds) es last w = go (meets t d) refl (passed_ended (noted t d) ds es last)
  where
    go : (b : Bool) → meets t d ≡ b → (Passed (noted t d) ds false last → Passed (noted t d) (ds ++ es) false last)
        → Passed t (d ∷ (ds ++ es)) false last
    go true m rest = (passed_first t d (ds ++ es) false last m).0 (rest ((passed_first t d ds false last m).1 w))
    go false m rest =
        subst (Passed t (d ∷ (ds ++ es)) false) ((passed_last t d ds m).table ∙ sym w.table) (passed_last t d (ds ++ es) m)

-- ---- the turns of a loop over the lists f 0, f 1, .. f (n - 1): its start, one more, the one that ended it, and its end
module _ (f : ℕ → List Entry) (t : List ℕ) where
  pub passing_start : Passed t (concat_below 0 f) true t
  passing_start = rw (concat_none f) (passed_none t)

  passing_next : (i : ℕ) (b : Bool) (now last : List ℕ) → Passed t (concat_below i f) true now → Passed now (f i) b last
      → Passed t (concat_below (i + 1) f) b last
  passing_next i b now last v w = rw (concat_more i f) (passed_more t (concat_below i f) (f i) b now last v w)

  pub passing_more : (i : ℕ) (b : Bool) (now last : List ℕ) → Passed t (concat_below i f) true now → Passed now (f i) b last → b ≡ true
      → Passed t (concat_below (i + 1) f) true last
  passing_more i b now last v w e = rw e at (passing_next i b now last v w)

  passing_ended : (k i : ℕ) (last : List ℕ) → Passed t (concat_below i f) false last → Passed t (concat_below (i + k) f) false last
  passing_ended zero i last w = rw add-zero w
  passing_ended (suc k) i last w =
      let e : i + suc k ≡ (i + k) + 1 = omega arith in
      rw (e, concat_more (i + k) f) (passed_ended t (concat_below (i + k) f) (f (i + k)) last (passing_ended k i last w))

  pub passing_fails : (n i : ℕ) (b : Bool) (now last : List ℕ) → i < n → Passed t (concat_below i f) true now → Passed now (f i) b last
      → b ≡ false → Passed t (concat_below n f) false last
  passing_fails n i b now last h v w q =
      let e : i + 1 + (n - (i + 1)) ≡ n = omega arith in
      rw e at (passing_ended (n - (i + 1)) (i + 1) last (rw q at (passing_next i b now last v w)))

  pub passing_end : (n i : ℕ) (now : List ℕ) → i ≤ n → n ≤ i → Passed t (concat_below i f) true now → Passed t (concat_below n f) true now
  passing_end n i now h k w = let e : i ≡ n = omega arith in rw e at w

entry_path : (d e : Entry) → d.id ≡ e.id → d.value ≡ e.value → d ≡ e
entry_path d e a b = λ i. record { id = a i; value = b i }

-- the entries meet the table, and are like one another
record Fits (t : List ℕ) (es : List Entry) : Type 0 where
  each : (e : Entry) → In e es → meets t e ≡ true
  alike : (d e : Entry) → In d es → In e es → Alike d e

-- an entry that met the table is in it then; for no other id has the table changed
module _ (t : List ℕ) (e : Entry) (m : meets t e ≡ true) (h : Storable (length t) e) where
  noted_own : value_in (noted t e) e ≡ e.value
  unfolding meets noted
  noted_own = go (eqb (value_in t e) 0) refl
    where
      go : (b : Bool) → eqb (value_in t e) 0 ≡ b → value_in (cond b (set t e.id e.value) t) e ≡ e.value
      go true q = get_or-set_same t e.id e.value 0 h.place
      go false q = eqb-true (value_in t e) e.value (either (eqb (value_in t e) 0) (eqb (value_in t e) e.value) m q)

  noted_other : (d : Entry) → (d.id ≡ e.id → ⊥) → value_in (noted t e) d ≡ value_in t d
  unfolding noted
  noted_other d n = go (eqb (value_in t e) 0)
    where
      go : (b : Bool) → value_in (cond b (set t e.id e.value) t) d ≡ value_in t d
      go true = get_or-set_other t e.id d.id e.value 0 n
      go false = refl

  noted_length : length (noted t e) ≡ length t
  unfolding noted
  noted_length = go (eqb (value_in t e) 0)
    where
      go : (b : Bool) → length (cond b (set t e.id e.value) t) ≡ length t
      go true = length-set t e.id e.value
      go false = refl

  -- so a later entry meets the table exactly where it met it before and is like this one
  own_met : meets (noted t e) e ≡ true
  unfolding meets
  own_met = or_second (eqb (value_in (noted t e) e) 0) (eqb (value_in (noted t e) e) e.value) (eq-eqb (value_in (noted t e) e) e.value noted_own)
    where
      or_second : (a b : Bool) → b ≡ true → a || b ≡ true
      or_second true b k = refl
      or_second false b k = k

  own_value : (d : Entry) → d.id ≡ e.id → meets (noted t e) d ≡ true → d.value ≡ e.value
  unfolding meets
  own_value d q k =
      let found : value_in (noted t e) d ≡ e.value = ap (λ (i : ℕ). get_or (noted t e) i 0) q ∙ noted_own in
      let new : eqb (value_in (noted t e) d) 0 ≡ false = ne_eqb (value_in (noted t e) d) 0 (λ z. h.some (sym found ∙ z)) in
      sym (eqb-true (value_in (noted t e) d) d.value (either (eqb (value_in (noted t e) d) 0) (eqb (value_in (noted t e) d) d.value) k new)) ∙ found

  other_met : (d : Entry) → (d.id ≡ e.id → ⊥) → meets (noted t e) d ≡ meets t d
  unfolding meets
  other_met d n = ap (λ (v : ℕ). eqb v 0 || eqb v d.value) (noted_other d n)

  noted_iff : (d : Entry) → meets (noted t e) d ≡ true ↔ (meets t d ≡ true) × Alike d e
  noted_iff d =
      elim (ℕ_discrete d.id e.id) [
        | yes q ↦ (
          (λ k. let p = own_value d q k in (ap (meets t) (entry_path d e q p) ∙ m, λ z. p)),
          (λ k. ap (meets (noted t e)) (entry_path d e q (k.1 q)) ∙ own_met),
        )
        | no q ↦ ((λ k. (sym (other_met d q) ∙ k, λ z. absurd (q z))), (λ k. other_met d q ∙ k.0))
      ]

  fits_iff : (xs : List Entry) → Fits (noted t e) xs ↔ Fits t (e ∷ xs)
  fits_iff xs = (
    (λ w. record { each = each w; alike = alike w }),
    (λ w. record {
      each = λ d i. (noted_iff d).1 (w.each d (inr i), w.alike d e (inr i) (inl refl));
      alike = λ c d i j. w.alike c d (inr i) (inr j);
    }),
  )
    where
      each : Fits (noted t e) xs → (d : Entry) → In d (e ∷ xs) → meets t d ≡ true
      each w d (inl p) = ap (meets t) p ∙ m
      each w d (inr i) = ((noted_iff d).0 (w.each d i)).0

      alike : Fits (noted t e) xs → (c d : Entry) → In c (e ∷ xs) → In d (e ∷ xs) → Alike c d
      alike w c d (inl p) (inl q) z = ap (λ (v : Entry). v.value) (p ∙ sym q)
      alike w c d (inl p) (inr j) z = ap (λ (v : Entry). v.value) p ∙ sym (((noted_iff d).0 (w.each d j)).1 (sym z ∙ ap (λ (v : Entry). v.id) p))
      alike w c d (inr i) (inl q) z = ((noted_iff c).0 (w.each c i)).1 (z ∙ ap (λ (v : Entry). v.id) q) ∙ sym (ap (λ (v : Entry). v.value) q)
      alike w c d (inr i) (inr j) z = w.alike c d i j z

-- the pass goes through exactly where the entries fit the table at its start
agree_iff : (t : List ℕ) (es : List Entry) → ((e : Entry) → In e es → Storable (length t) e) → agree_all t es ≡ true ↔ Fits t es
unfolding agree_all
agree_iff t [] h = ((λ k. record { each = λ e i. absurd i; alike = λ d e i. absurd i }), (λ w. refl))
agree_iff t (x ∷ xs) h = (
  (λ k.
      let m = and_left (meets t x) (agree_all (noted t x) xs) k in
      (fits_iff t x m (h x (inl refl)) xs).0 ((agree_iff (noted t x) xs (later m)).0 (and_right (meets t x) (agree_all (noted t x) xs) k))),
  (λ w. let m = w.each x (inl refl) in and_both m ((agree_iff (noted t x) xs (later m)).1 ((fits_iff t x m (h x (inl refl)) xs).1 w))),
)
  where
    later : meets t x ≡ true → (e : Entry) → In e xs → Storable (length (noted t x)) e
    later m e i = rw (noted_length t x m (h x (inl refl))) (h e (inr i))

met_new : (t : List ℕ) (e : Entry) → value_in t e ≡ 0 → meets t e ≡ true
unfolding meets
met_new t e h = rw (eq-eqb (value_in t e) 0 h)

-- with a table in which no id was met: exactly where they are like one another
pub agree_alike : (n : ℕ) (es : List Entry) → ((e : Entry) → In e es → Storable n e)
    → agree_all (replicate n 0) es ≡ true ↔ ((d e : Entry) → In d es → In e es → Alike d e)
agree_alike n es h = (
  (λ k. (whole.0 k).alike),
  (λ f. whole.1 (record { each = λ e i. met_new (replicate n 0) e (get_or-replicate {A = ℕ} n e.id 0 0 (h e i).place); alike = f })),
)
  where
    whole : agree_all (replicate n 0) es ≡ true ↔ Fits (replicate n 0) es
    whole = agree_iff (replicate n 0) es (λ e i. rw (length-replicate {A = ℕ} n 0) (h e i))

-- ---- what is in lists one after the other
in_left : (e : Entry) (ds es : List Entry) → In e ds → In e (ds ++ es)
in_left e [] es i = elim i [ ]
in_left e (d ∷ ds) es (inl p) = inl p
in_left e (d ∷ ds) es (inr i) = inr (in_left e ds es i)

in_right : (e : Entry) (ds es : List Entry) → In e es → In e (ds ++ es)
in_right e [] es i = i
in_right e (d ∷ ds) es i = inr (in_right e ds es i)

in_append : (e : Entry) (ds es : List Entry) → In e (ds ++ es) → In e ds ⊎ In e es
in_append e [] es i = inr i
in_append e (d ∷ ds) es (inl p) = inl (inl p)
in_append e (d ∷ ds) es (inr i) = elim (in_append e ds es i) [ inl j ↦ inl (inr j) | inr j ↦ inr j ]

pub in_concat : (f : ℕ → List Entry) (n : ℕ) (e : Entry) → In e (concat_below n f) → InSome f n e
unfolding concat_below
in_concat f zero e i = elim i [ ]
in_concat f (suc n) e i =
    elim (in_append e (concat_below n f) (f n) i) [
      | inl j ↦ let w = in_concat f n e j in record { place = w.place; below = omega (arith, w.below); there = w.there }
      | inr j ↦ record { place = n; below = omega arith; there = j }
    ]

pub in_some : (f : ℕ → List Entry) (n k : ℕ) (e : Entry) → k < n → In e (f k) → In e (concat_below n f)
unfolding concat_below
in_some f zero k e l i = absurd (omega arith)
in_some f (suc n) k e l i =
    elim (ℕ_discrete k n) [
      | yes q ↦ in_right e (concat_below n f) (f n) (subst (λ (j : ℕ). In e (f j)) q i)
      | no q ↦ in_left e (concat_below n f) (f n) (in_some f n k e (omega arith) i)
    ]
