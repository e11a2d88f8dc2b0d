use mathlib.Core.Path.{sym, ◌∙◌}
use native.Mathlib.Omega.{arith}
use Rattle.logic.specs.Tests.{all_none, all_more, all_done, all_fails}
use Rattle.logic.proofs.EntriesLaws.{passing_start, passing_more, passing_fails, passing_end}
use Rattle.replica.specs.Log.{record_in_use_at, log_in_use}
use Rattle.replica.specs.Entries.{entry_at, log_entries}
use Rattle.replica.specs.EntryLaws.{log_unused, log_unlike, log_met}
use Rattle.replica.proofs.Replica.log_meets_s6_s7.Goals as goal

pub loop-x-init : goal.loop-x-init
loop-x-init c = (all_none _, passing_start _ _)

pub returns-then-not-is_in_use : goal.returns-then-not-is_in_use
unfolding log_in_use
returns-then-not-is_in_use c = let a = c.args in
    log_unused a.next_id a.next_epoch a.self _ _
    (all_fails _ c.loop-x.x (record_in_use_at a.next_id a.next_epoch a.self) (omega arith)
    (sym c.is_in_use.ensures ∙ c.if-not-is_in_use.true))

pub returns-then-not-meet : goal.returns-then-not-meet
unfolding log_entries
returns-then-not-meet c = let a = c.args in
    let l = c.loop-x in
    log_unlike a.next_id a.next_epoch a.self _ _
    (passing_fails (entry_at a.self) _ _ l.x _ l.seen _ (omega arith) l.invariant.1
    (rw c.offset_and_epoch.ensures at c.meet.ensures) (c.if-not-meet.true))

pub loop-x-preserved : goal.loop-x-preserved
loop-x-preserved c = let a = c.args in
    let l = c.loop-x in (
      all_more _ _ l.invariant.0 (sym c.is_in_use.ensures ∙ c.if-not-is_in_use.false),
      passing_more (entry_at a.self) _ l.x _ l.seen _ l.invariant.1
          (rw c.offset_and_epoch.ensures at c.meet.ensures) (c.if-not-meet.false),
    )

pub returns : goal.returns
unfolding log_in_use log_entries
returns c = let a = c.args in
    let l = c.loop-x in
    log_met a.next_id a.next_epoch a.self _ _ (all_done _ _ _ (omega arith) (omega arith) l.invariant.0)
    (passing_end (entry_at a.self) _ _ l.x _ (omega arith) (omega arith) l.invariant.1)
