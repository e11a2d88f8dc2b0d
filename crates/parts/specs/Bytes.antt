-- Lists whose numbers are bytes, and what stands at a place of a list of bytes. Assumes nothing.
use Rattle.std.specs.Prelude.{ℕ, zero, suc, ◌+◌, ◌≤◌, ◌<◌, ◌≡◌, length, take, drop, get_or, set}
use Rattle.std.proofs.Common.{sym, ◌∙◌, ap, add-zero, arith, take-append-drop, length-take-le, get_or-take, get_or-drop, get_or-append-add}
use mathlib.Core.List.{List, [], ◌∷◌, ◌++◌, map, flatten}
use Rattle.logic.specs.Table.{table, ext_table}
use Rattle.logic.specs.Concat.{concat_below}
use Rattle.parts.specs.Mark.{byte_at}

-- every number of the list is a byte; those of a `&[u8]` are (images/proofs/read_image/Answers.antt)
pub record Bytes (bs : List ℕ) : Type 0 where
  pub byte : (i : ℕ) → byte_at bs i < 256

pub bytes_behind : (vs bs : List ℕ) → Bytes (vs ++ bs) → Bytes bs
bytes_behind vs bs h = record { byte = λ i. rw (get_or-append-add vs bs i 0) at (h.byte (length vs + i)) }

pub bytes_none : Bytes []
bytes_none = record { byte = λ i. omega arith }

pub bytes_more : (b : ℕ) (bs : List ℕ) → b < 256 → Bytes bs → Bytes (b ∷ bs)
bytes_more b bs h k = record { byte = each_byte }
  where
    each_byte : (i : ℕ) → byte_at (b ∷ bs) i < 256
    each_byte zero = h
    each_byte (suc i) = k.byte i

pub bytes_append : (vs bs : List ℕ) → Bytes vs → Bytes bs → Bytes (vs ++ bs)
bytes_append [] bs h k = k
bytes_append (v ∷ vs) bs h k = bytes_more v (vs ++ bs) (h.byte 0) (bytes_append vs bs (bytes_behind (v ∷ []) vs h) k)

pub bytes_concat : (n : ℕ) (f : ℕ → List ℕ) → ((i : ℕ) → i < n → Bytes (f i)) → Bytes (concat_below n f)
unfolding concat_below
bytes_concat zero f h = bytes_none
bytes_concat (suc n) f h = bytes_append (concat_below n f) (f n) (bytes_concat n f (λ i l. h i (omega arith))) (h n (omega arith))

-- bytes with one put anew, and the front and the rest of bytes, are bytes
pub bytes_set : (bs : List ℕ) (i v : ℕ) → v < 256 → Bytes bs → Bytes (set bs i v)
bytes_set [] i v l h = bytes_none
bytes_set (b ∷ bs) zero v l h = bytes_more v bs l (bytes_behind (b ∷ []) bs h)
bytes_set (b ∷ bs) (suc i) v l h = bytes_more b (set bs i v) (h.byte 0) (bytes_set bs i v l (bytes_behind (b ∷ []) bs h))

pub bytes_take : (n : ℕ) (bs : List ℕ) → Bytes bs → Bytes (take n bs)
bytes_take zero bs h = bytes_none
bytes_take (suc n) [] h = bytes_none
bytes_take (suc n) (b ∷ bs) h = bytes_more b (take n bs) (h.byte 0) (bytes_take n bs (bytes_behind (b ∷ []) bs h))

pub bytes_drop : (n : ℕ) (bs : List ℕ) → Bytes bs → Bytes (drop n bs)
bytes_drop n bs h = record { byte = λ i. rw (get_or-drop n bs i 0) (h.byte (n + i)) }

-- and so are changed pieces put together, where each is bytes
pub bytes_flatten : (f : List ℕ → List ℕ) (l : List (List ℕ)) → ((k : ℕ) → Bytes (f (get_or l k []))) → Bytes (flatten (map f l))
unfolding flatten
bytes_flatten f [] h = bytes_none
bytes_flatten f (piece ∷ l) h = bytes_append (f piece) (flatten (map f l)) (h 0) (bytes_flatten f l (λ k. h (suc k)))

-- ---- bytes at a place
pub byte-at : (bs : List ℕ) (at k : ℕ) → byte_at (drop at bs) k ≡ get_or bs (at + k) 0
byte-at bs at k = get_or-drop at bs k 0

pub first_byte : (bs : List ℕ) (at : ℕ) → byte_at (drop at bs) 0 ≡ get_or bs at 0
first_byte bs at = byte-at bs at 0 ∙ ap (λ (k : ℕ). get_or bs k 0) (add-zero at)

-- the first n bytes by number
pub front_bytes : (n : ℕ) (bs : List ℕ) → n ≤ length bs → table n (byte_at bs) ≡ take n bs
front_bytes n bs h = sym (ext_table 0 n (byte_at bs) (take n bs) (length-take-le n bs h) (λ i l. get_or-take n bs i 0 l))

-- the first n bytes, and those behind them
pub front_and_rest : (n : ℕ) (bs : List ℕ) → n ≤ length bs → bs ≡ table n (byte_at bs) ++ drop n bs
front_and_rest n bs h = sym (take-append-drop n bs) ∙ ap (λ (l : List ℕ). l ++ drop n bs) (sym (front_bytes n bs h))
