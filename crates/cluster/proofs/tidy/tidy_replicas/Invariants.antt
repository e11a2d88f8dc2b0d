use Rattle.std.proofs.Common.{◌≡◌}
use Rattle.logic.specs.Table.{splice}
use Rattle.cluster.specs.State.{replica_at, with_replicas, tidy_replica_at}
use Rattle.cluster.proofs.tidy.tidy_replicas.Given as goal

abbrev pub invariant-loop-i : goal.invariant-loop-i
invariant-loop-i l = l.t ≡ with_replicas l.s (splice 5 l.i (tidy_replica_at l.s) (replica_at l.s))
