use Rattle.std.specs.Prelude.{◌≡◌}
use Rattle.std.specs.declared.cmp.Ordering.TheVariants.{Equal}
use Rattle.representatives.specs.Comparison.{decision_below}
use Rattle.representatives.specs.Fields.{compare_records_at}
use Rattle.representatives.proofs.compare.compare_logs.Given as goal

abbrev pub invariant-loop-x : goal.invariant-loop-x
invariant-loop-x l = decision_below l.x (compare_records_at l.a l.b) ≡ Equal
