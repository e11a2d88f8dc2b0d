use Rattle.std.proofs.Common.{◌≡◌}
use Rattle.logic.specs.Table.{table}
use Rattle.renamings.specs.Names.{holder}
use Rattle.renamings.proofs.places.inverse.Given as goal

abbrev pub invariant-loop-i : goal.invariant-loop-i
invariant-loop-i l = l.back ≡ table 5 (holder l.i l.p)
