-- Calls that put the bytes of each item of a list into a lent buffer. Assumes nothing.
use Rattle.std.specs.Prelude.{ℕ, ◌+◌, ◌≤◌, ◌<◌, ◌≡◌, List, length, get_or}
use Rattle.std.specs.Fn.{Shared}
use denote.Ref.{MutBor}
use Rattle.logic.specs.Stores.{Stored}

-- where a buffer has room for the bytes of item i, f may be called at it, and stores them: g is what the bound of f says
pub record Puts {F T : Type 0} (g : Shared F (MutBor (List ℕ) × (ℕ × (T × Unit {0}))) (ℕ × (MutBor (List ℕ) × Unit {0}))) (f : F)
    (xs : List T) (bytes : ℕ → List ℕ) : Type 0 where
  pub may : (i : ℕ) (x : T) → i < length xs → x ≡ get_or xs i x → (o : MutBor (List ℕ)) (at : ℕ)
      → at + length (bytes i) ≤ length o.now → g.pre f (o, (at, (x, tt)))
  pub does : (i : ℕ) (x : T) → i < length xs → x ≡ get_or xs i x → (o : MutBor (List ℕ)) (at r : ℕ) (o' : MutBor (List ℕ))
      → at + length (bytes i) ≤ length o.now
      → g.post f (o, (at, (x, tt))) (r, (o', tt)) → Stored o.now at (bytes i) o'.now r
