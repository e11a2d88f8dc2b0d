use Rattle.std.specs.Prelude.{◌≡◌, ◌*◌}
use Rattle.renamings.specs.Rename.{Renames}
use Rattle.representatives.specs.Search.{least_behind}
use Rattle.representatives.specs.Representative.{least_renaming}
use Rattle.representatives.proofs.least_of_five.Given as goal

abbrev pub invariant-loop-turn : goal.invariant-loop-turn
invariant-loop-turn l = Renames l.s.state l.best.names × (least_behind l.s.state l.best.names (24 * l.turn) ≡ least_renaming l.s.state)
