use mathlib.Core.Bool.{true}
use mathlib.Core.Path.{refl, sym, ◌∙◌}
use native.Mathlib.Omega.{arith}
use lib.ListN.{replicate}
use Rattle.logic.specs.Tests.{all_none, all_more, all_done, all_fails, every_no, every_and, every_none, every_fails}
use Rattle.logic.proofs.EntriesLaws.{passing_start, passing_more, passing_end}
use Rattle.replica.specs.EntryLaws.{log_passes}
use Rattle.cluster.specs.State.{next_leader_epoch_of, next_record_id_of, replica_in}
use Rattle.cluster.specs.Rules.{replica_in_range_at, replica_meets_s5_at, rule5, rule6}
use Rattle.cluster.specs.RuleLaws.{end_in_range}
use Rattle.cluster.specs.Entries.{entries_at}
use Rattle.cluster.specs.OnePass.{pass_tests, log_fails}
use Rattle.cluster.proofs.rules.replicas_meet.Goals as goal

pub loop-i-init : goal.loop-i-init
loop-i-init c = (all_none _, all_none _, all_none _, passing_start (entries_at c.args.s.state.replicas) (replicate 256 0))

pub returns-then-not-replica_in_range : goal.returns-then-not-replica_in_range
returns-then-not-replica_in_range c = let s = c.args.s.state in
    every_no _ _
    (sym (all_fails _ c.loop-i.i (replica_in_range_at s.limits s.replicas) (omega arith) (sym c.replica_in_range.ensures ∙ c.if-not-replica_in_range.true)))

pub returns-then-not-replica_meets_s5 : goal.returns-then-not-replica_meets_s5
unfolding rule5
returns-then-not-replica_meets_s5 c = let s = c.args.s.state in
    every_fails (pass_tests s) 1
    (sym (all_fails _ c.loop-i.i (replica_meets_s5_at (next_leader_epoch_of s) s.requests s.replicas) (omega arith) (sym c.replica_meets_s5.ensures ∙ c.if-not-replica_meets_s5.true)))

pub log_meets_s6_s7-requires : goal.log_meets_s6_s7-requires
log_meets_s6_s7-requires c = let s = c.args.s.state in
    let e = end_in_range s.limits (replica_in s.replicas c.loop-i.i) (sym c.replica_in_range.ensures ∙ c.if-not-replica_in_range.false) in
    omega (arith, e, c.args.s.short_logs)

pub returns-then-not-log_meets_s6_s7 : goal.returns-then-not-log_meets_s6_s7
returns-then-not-log_meets_s6_s7 c = let s = c.args.s.state in
    let l = c.loop-i in
    log_fails s l.i l.seen _ (omega arith) l.invariant.3 (rw (c.if-not-log_meets_s6_s7.true) at c.log_meets_s6_s7.ensures)

pub loop-i-preserved : goal.loop-i-preserved
loop-i-preserved c = let s = c.args.s.state in
    let l = c.loop-i in
    let w = log_passes (next_record_id_of s) (next_leader_epoch_of s) (replica_in s.replicas l.i) l.seen _ (rw (c.if-not-log_meets_s6_s7.false) at c.log_meets_s6_s7.ensures) in (
      all_more _ _ l.invariant.0 (sym c.replica_in_range.ensures ∙ c.if-not-replica_in_range.false),
      all_more _ _ l.invariant.1 (sym c.replica_meets_s5.ensures ∙ c.if-not-replica_meets_s5.false),
      all_more _ _ l.invariant.2 w.0,
      passing_more (entries_at s.replicas) (replicate 256 0) l.i true l.seen _ l.invariant.3 w.1 refl,
    )

pub returns : goal.returns
unfolding rule5 rule6
returns c = let s = c.args.s.state in
    let l = c.loop-i in
    sym (every_and _ _ (sym (all_done _ _ _ (omega arith) (omega arith) l.invariant.0)) (every_and _ _ (sym (all_done _ _ _ (omega arith) (omega arith) l.invariant.1))
    (every_and _ _ (sym (all_done _ _ _ (omega arith) (omega arith) l.invariant.2))
    (every_and _ _ (sym (passing_end (entries_at s.replicas) (replicate 256 0) _ l.i l.seen (omega arith) (omega arith) l.invariant.3).agree) every_none))))
