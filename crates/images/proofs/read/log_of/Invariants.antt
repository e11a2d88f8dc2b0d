use Rattle.std.proofs.Common.{◌≡◌, drop}
use Rattle.images.specs.Layout.{log_records_of}
use Rattle.images.proofs.read.log_of.Given as goal

abbrev pub invariant-loop-x : goal.invariant-loop-x
invariant-loop-x l = l.log ≡ log_records_of l.x (drop l.at l.bytes)
