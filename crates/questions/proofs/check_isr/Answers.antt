use Rattle.std.specs.Prelude.{◌≡◌, not}
use Rattle.std.proofs.Common.{ap, sym, ◌∙◌, arith}
use Rattle.logic.specs.Search.{first_second, first_triple}
use Rattle.logic.proofs.SearchLaws.{first_done, first_more, first_triple_found}
use Rattle.replica.specs.Log.{hold_same_record}
use Rattle.cluster.specs.Predicates.{rules_iff}
use Rattle.questions.specs.Isr.{check_isr, differ_at, isr_answer_of, smallest_failure}
use Rattle.questions.specs.IsrLaws.{below_cond, compared_asked, offsets_done, members_done}
use Rattle.questions.proofs.check_isr.Goals as goal

pub loop-member-preserved : goal.loop-member-preserved
loop-member-preserved c =
    let s = c.args.s.state in
    let r = c.leaders.leader in
    let turn = c.loop-offset.invariant in
    let hw = (((rules_iff s).0 c.args.s.meets_rules).s5 r c.leaders-test.true).hw in
    let done : c.loop-offset.offset ≡ c.offsets_asked-offset-end.result = omega arith in
    let presuming = (below_cond _ _ _ (rw c.where_presuming-member-end.ensures at c.loop-member-test.true)).0 in (
      first_more _ _ c.loop-member.invariant.0
          (offsets_done _ s r _ c.isr_asked-isr.ensures _ _ presuming hw (done ∙ c.offsets_asked-offset-end.ensures) turn.0),
      turn.1,
    )

pub leaders-preserved : goal.leaders-preserved
unfolding first_second
leaders-preserved c =
    let turn = c.loop-member.invariant in
    let done : c.loop-member.member ≡ c.where_presuming-member-end.result = omega arith in (
      first_more _ _ c.leaders.invariant.0
          (members_done _ _ _ _ c.isr_asked-isr.ensures _ _ (done ∙ c.where_presuming-member-end.ensures) turn.0),
      turn.1,
    )

pub returns-after-leaders : goal.returns-after-leaders
unfolding check_isr smallest_failure isr_answer_of first_triple
returns-after-leaders c = let turn = c.leaders.invariant in rw turn.1 (ap isr_answer_of (first_done _ _ _ (omega arith) (omega arith) turn.0))

pub returns-then-not-same_below_ends : goal.returns-then-not-same_below_ends
unfolding check_isr smallest_failure isr_answer_of differ_at hold_same_record
returns-then-not-same_below_ends c =
    let s = c.args.s.state in
    let asked = below_cond _ _ _ (rw c.where_presuming-member-end.ensures at c.loop-member-test.true) in
    ap isr_answer_of
    (first_triple_found _ _ _ _ c.leaders.leader c.loop-member.member c.loop-offset.offset c.leaders-test.true c.leaders.invariant.0
    asked.1 c.loop-member.invariant.0
    (compared_asked _ s _ _ c.isr_asked-isr.ensures _ _ asked.0 (rw c.offsets_asked-offset-end.ensures at c.loop-offset-test.true)) c.loop-offset.invariant.0
    (ap not (sym c.same_below_ends.ensures ∙ c.if-not-same_below_ends.true)))
