use Rattle.std.specs.Prelude.{◌≡◌}
use Rattle.std.specs.declared.cmp.Ordering.TheVariants.{Equal}
use Rattle.representatives.specs.Comparison.{decision_below}
use Rattle.representatives.specs.Fields.{compare_replicas_at}
use Rattle.representatives.proofs.compare.compare_all_replicas.Given as goal

abbrev pub invariant-loop-j : goal.invariant-loop-j
invariant-loop-j l = decision_below l.j (compare_replicas_at l.p.names l.q.names l.s.state.replicas) ≡ Equal
