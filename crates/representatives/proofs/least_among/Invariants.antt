use Prim.Native.Nat.{◌-◌, ◌≤◌}
use mathlib.Core.Path.{◌≡◌}
use Rattle.renamings.specs.Rename.{Renames}
use Rattle.representatives.specs.Search.{least_behind}
use Rattle.representatives.proofs.least_among.Given as goal

abbrev pub invariant-loop-k : goal.invariant-loop-k
invariant-loop-k l = (l.from ≤ l.k) × (l.k ≤ l.to) × Renames l.s.state l.least.names × (least_behind l.s.state l.least.names l.k ≡ least_behind l.s.state l.initial.least.names l.from)

abbrev pub decreases-loop-k : goal.decreases-loop-k
decreases-loop-k l = l.to - l.k
