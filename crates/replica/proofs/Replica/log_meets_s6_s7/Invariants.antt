use Rattle.std.specs.Prelude.{◌≡◌, true}
use Rattle.logic.specs.Tests.{all_below}
use Rattle.logic.specs.Concat.{concat_below}
use Rattle.logic.specs.Entries.{Passed}
use Rattle.replica.specs.Log.{record_in_use_at}
use Rattle.replica.specs.Entries.{entry_at}
use Rattle.replica.proofs.Replica.log_meets_s6_s7.Given as goal

abbrev pub invariant-loop-x : goal.invariant-loop-x
invariant-loop-x l = (all_below l.x (record_in_use_at l.next_id l.next_epoch l.self) ≡ true) × Passed l.initial.seen (concat_below l.x (entry_at l.self)) true l.seen
