-- Parts one after the other, there and back: what is written of each is read back into the array, and the bytes that parts are read
-- from are those that are written of them. One induction each way, for records, requests and replicas alike. Assumes nothing.
use Prim.Native.Nat.{ℕ, zero, suc, ◌≤◌, ◌<◌}
use Rattle.std.proofs.Math.Path.{◌≡◌, refl, sym, ap}
use Rattle.std.proofs.Common.{◌∙◌, arith, get_or-set_other}
use Rattle.std.specs.Prelude.{Bool, ltb, drop, replicate}
use Rattle.std.proofs.Math.Bool.{true, false, cond}
use mathlib.Core.List.{List, ◌++◌, append_assoc}
use Rattle.std.proofs.Math.Numerals.{add-one}
use Rattle.std.proofs.Math.Dec.{leb}
use Rattle.std.proofs.Math.ListN.{length, get_or, set, length-set}
use Rattle.std.proofs.lemmas.List.{length-replicate, get_or-replicate}
use Rattle.std.proofs.Math.Seq.{get_or-set_same}
use borrow.Author.Tests.{leb-true, le-ltb}
use Rattle.logic.specs.Table.{table, ext_table, cond_false, splice, splice_turn}
use Rattle.logic.specs.Concat.{concat_below, concat_cong}
use Rattle.parts.specs.Bytes.{Bytes, bytes_behind}
use Rattle.images.specs.Read.{Parsed, missing, parsed, and_then, part, fill}
use Rattle.images.specs.ReadLaws.{then_parsed, then_from, parsed_value, parsed_rest}

-- ---- a part of n bytes
module _ {A : Type 0} (n : ℕ) (value : List ℕ → A) where
  pub record PartRead (bs rest : List ℕ) (x : A) : Type 0 where
    pub long : n ≤ length bs
    pub said : value bs ≡ x
    pub left : drop n bs ≡ rest

  pub part_read_back : (bs rest : List ℕ) (x : A) → part n value bs ≡ parsed x rest → PartRead bs rest x
  unfolding part
  part_read_back bs rest x = go (leb n (length bs)) refl
    where
      go : (t : Bool) → leb n (length bs) ≡ t → cond t (parsed (value bs) (drop n bs)) missing ≡ parsed x rest → PartRead bs rest x
      go true e h =
          record {
            long = leb-true n (length bs) e;
            said = parsed_value (value bs) x (drop n bs) rest h;
            left = parsed_rest (value bs) x (drop n bs) rest h;
          }
      go false e h = absurd (let z : ◌≡◌ {A = ℕ} 0 1 = cc in omega arith)

-- ---- written, and read back
module _ {A : Type 0} (read : List ℕ → Parsed A) (write : ℕ → List ℕ) (value : ℕ → A) (z : A) (size : ℕ) where
  zeros_splice : replicate size z ≡ splice size 0 value (λ i. z)
  zeros_splice =
      ext_table z size (λ i. cond (ltb i 0) (value i) z) (replicate size z) (length-replicate size z)
      (λ i b. get_or-replicate size i z z b ∙ sym (cond_false (ltb i 0) (value i) z (le-ltb i 0 (omega arith))))

  -- the first n places hold the values, the others zeros
  pub fill_back : (n : ℕ) → n ≤ size → ((i : ℕ) → i < n → (rest : List ℕ) → read (write i ++ rest) ≡ parsed (value i) rest)
      → (rest : List ℕ) → fill read n (replicate size z) (concat_below n write ++ rest) ≡ parsed (table size (λ i. cond (ltb i n) (value i) z)) rest
  unfolding fill concat_below
  fill_back zero h one rest = ap (λ (l : List A). parsed l rest) zeros_splice
  fill_back (suc n) h one rest =
      let before = fill_back n (omega arith) (λ i l. one i (omega arith)) (write n ++ rest) in
      let turn : set (splice size n value (λ i. z)) n (value n) ≡ splice size (suc n) value (λ i. z) =
      rw add-one at (splice_turn size n value (λ i. z) (omega arith)) in
      ap (λ (bs : List ℕ). fill read (suc n) (replicate size z) bs) (append_assoc (concat_below n write) (write n) rest)
      ∙ then_parsed (fill read n (replicate size z) (concat_below n write ++ (write n ++ rest)))
      (λ l rest. and_then (read rest) (λ x left. parsed (set l n x) left)) (splice size n value (λ i. z)) (write n ++ rest) before
      ∙ then_parsed (read (write n ++ rest)) (λ x left. parsed (set (splice size n value (λ i. z)) n x) left) (value n) rest (one n (omega arith) rest)
      ∙ ap (λ (l : List A). parsed l rest) turn

-- ---- read, and written again
-- the bytes that a part was read from are those that are written of it
abbrev pub Faithful : {A : Type 0} → (List ℕ → Parsed A) → (A → List ℕ) → Type 0
Faithful {A} read write = (bs rest : List ℕ) (x : A) → Bytes bs → read bs ≡ parsed x rest → bs ≡ write x ++ rest

module _ {A : Type 0} (read : List ℕ → Parsed A) (write : A → List ℕ) (d : A) (one : Faithful read write) where
  pub record FillRead (n : ℕ) (array : List A) (bs rest : List ℕ) (l : List A) : Type 0 where
    pub room : length l ≡ length array
    pub bytes : bs ≡ concat_below n (λ i. write (get_or l i d)) ++ rest

  pub fill_read_back : (n : ℕ) (array : List A) (bs rest : List ℕ) (l : List A) → n ≤ length array → Bytes bs
      → fill read n array bs ≡ parsed l rest → FillRead n array bs rest l
  unfolding fill concat_below
  fill_read_back zero array bs rest l h b e =
      record { room = ap length (sym (parsed_value array l bs rest e)); bytes = parsed_rest array l bs rest e }
  fill_read_back (suc n) array bs rest l h b e =
      let f = then_from (fill read n array bs) (λ l rest. and_then (read rest) (λ x left. parsed (set l n x) left)) l rest e in
      let g = then_from (read f.1) (λ x left. parsed (set f.0 n x) left) l rest f.3 in
      let before = fill_read_back n array bs f.1 f.0 (omega arith) b f.2 in
      let last : f.1 ≡ write g.0 ++ g.1 =
      one f.1 g.1 g.0 (bytes_behind (concat_below n (λ i. write (get_or f.0 i d))) f.1 (rw before.bytes at b)) g.2 in
      let put : set f.0 n g.0 ≡ l = parsed_value (set f.0 n g.0) l g.1 rest g.3 in
      let tail : g.1 ≡ rest = parsed_rest (set f.0 n g.0) l g.1 rest g.3 in
      let own : get_or l n d ≡ g.0 = ap (λ (m : List A). get_or m n d) (sym put) ∙ get_or-set_same f.0 n g.0 d (omega (arith, before.room)) in
      let same : concat_below n (λ i. write (get_or f.0 i d)) ≡ concat_below n (λ i. write (get_or l i d)) =
      concat_cong n (λ i. write (get_or f.0 i d)) (λ i. write (get_or l i d))
      (λ i k. ap write (sym (get_or-set_other f.0 n i g.0 d (omega arith)) ∙ ap (λ (m : List A). get_or m i d) put)) in
      record {
        room = ap length (sym put) ∙ length-set f.0 n g.0 ∙ before.room;
        bytes =
            before.bytes
            ∙ ap (λ (m : List ℕ). m ++ f.1) same
            ∙ ap (λ (m : List ℕ). concat_below n (λ i. write (get_or l i d)) ++ m) (last ∙ ap (λ (v : A). write v ++ g.1) (sym own) ∙ ap (λ (m : List ℕ). write (get_or l n d) ++ m) tail)
            ∙ sym (append_assoc (concat_below n (λ i. write (get_or l i d))) (write (get_or l n d)) rest);
      }
