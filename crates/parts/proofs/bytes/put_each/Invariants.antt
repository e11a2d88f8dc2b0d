use Rattle.std.proofs.Common.{ℕ, List, ◌+◌, ◌≤◌, length}
use Rattle.logic.specs.Concat.{concat_below}
use Rattle.logic.specs.Stores.{Stored}
use Rattle.parts.specs.Puts.{Puts}
use Rattle.parts.proofs.bytes.put_each.Given as goal

abbrev pub invariant-loop-item : goal.invariant-loop-item
invariant-loop-item g l =
    (bytes : ℕ → List ℕ) → Puts g.F.Fn l.fn.put l.fn.items bytes
    → l.fn.at + length (concat_below (length l.fn.items) bytes) ≤ length l.initial.out
    → Stored l.initial.out l.fn.at (concat_below l.item-index bytes) l.out l.pos
