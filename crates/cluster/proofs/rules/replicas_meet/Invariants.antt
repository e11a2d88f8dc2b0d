use mathlib.Core.Bool.{true}
use mathlib.Core.Path.{◌≡◌}
use lib.ListN.{replicate}
use Rattle.logic.specs.Tests.{all_below}
use Rattle.logic.specs.Concat.{concat_below}
use Rattle.logic.specs.Entries.{Passed}
use Rattle.cluster.specs.State.{next_leader_epoch_of, next_record_id_of}
use Rattle.cluster.specs.Rules.{replica_in_range_at, replica_meets_s5_at, log_in_use_at}
use Rattle.cluster.specs.Entries.{entries_at}
use Rattle.cluster.proofs.rules.replicas_meet.Given as goal

-- the first i replicas meet S2, S5 and S6, and the pass has gone through their records
abbrev pub invariant-loop-i : goal.invariant-loop-i
invariant-loop-i l = (all_below l.i (replica_in_range_at l.s.state.limits l.s.state.replicas) ≡ true)
    × (all_below l.i (replica_meets_s5_at (next_leader_epoch_of l.s.state) l.s.state.requests l.s.state.replicas) ≡ true)
    × (all_below l.i (log_in_use_at (next_record_id_of l.s.state) (next_leader_epoch_of l.s.state) l.s.state.replicas) ≡ true)
    × Passed (replicate 256 0) (concat_below l.i (entries_at l.s.state.replicas)) true l.seen
