use Rattle.std.proofs.Common.{◌≡◌, ◌≤◌, ◌+◌, ◌*◌, length, drop}
use Rattle.std.specs.Iterator.Adapters.{enumerate_source, enumerate_count}
use Rattle.std.specs.Slice.Iter.{chunks_rest, chunks_size}
use Rattle.cluster.specs.State.{tidy}
use Rattle.runs.specs.Answer.{counts_of}
use Rattle.runs.specs.Run.{configuration_width, run_record_width, run_records_of, trace_from, verdict_from}
use Rattle.runs.specs.Judging.{KnownOfState, from_here}
use Rattle.runs.proofs.judge_actions.Given as goal

-- what is left of the run starts behind the run records that were accepted; the state is tidy, what is known of it, and the verdict of
-- the run is that from here
abbrev pub invariant-loop-i : goal.invariant-loop-i
invariant-loop-i l =
    let items = l.i-iterator in
    let at = configuration_width + run_record_width * enumerate_count items in
    let s = l.valid.state in
    let first = l.fn.fresh.state in
    (goal.iterator-loop-i).can_next items × (goal.iterator-loop-i).is_finite items
    × (chunks_size (enumerate_source items) ≡ run_record_width) × (chunks_rest (enumerate_source items) ≡ drop at l.fn.run)
    × (at ≤ length l.fn.run) × (l.tally.accepted ≡ enumerate_count items)
    × (tidy s ≡ s) × KnownOfState (counts_of l.tally) s
    × (verdict_from first (trace_from first configuration_width (run_records_of l.fn.run)) ≡ from_here (counts_of l.tally) s at l.fn.run)
