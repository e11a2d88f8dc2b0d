use Rattle.std.proofs.Common.{◌≡◌, sym, arith, rules}
use Rattle.logic.specs.Refuse.{by_refusal}
use Rattle.cluster.specs.declared.State.{State}
use Rattle.cluster.specs.Answer.{member_number}
use Rattle.cluster.specs.Act.{action_of, act}
use Rattle.questions.specs.IsrLaws.{refusal_not_zero}
use Rattle.replay.specs.Interface.{action_reply, state_reply, replay_act}
use Rattle.replay.specs.InterfaceLaws.{replies_err, on_state_refused, member_replies, member_refused}
use Rattle.replay.proofs.replay_act.Goals as goal

pub returns-in-Err : goal.returns-in-Err
unfolding replay_act
returns-in-Err c = let x = c.args in
    let h = c.in-Err.ensures.number in
    rw c.number.ensures (
      member_refused x.state.now x.kind x.a x.b x.e x.out.now _ h (refusal_not_zero _),
      (on_state_refused x.state.now (λ (s : State). action_reply (act s (action_of x.kind x.a x.b x.e))) _ _ h (refusal_not_zero _)).1,
    )

pub returns-in-Ok : goal.returns-in-Ok
unfolding state_reply by_refusal
returns-in-Ok c = let x = c.args in
    let m =
    member_replies x.state.now x.kind x.a x.b x.e _ _ _ _ (sym c.in_default.ensures.number) (rw c.state_of.ensures at c.in-Ok.ensures.answer) c.give_state.ensures in
    (omega (arith, m.0, c.number-in-Ok.ensures), m.1)

pub returns-in-Err-act : goal.returns-in-Err-act
unfolding state_reply
returns-in-Err-act c = let x = c.args in
    let member : c.unwrap_or.result ≡ member_number c.in-Err-act.r.member = search rules in
    rw (c.number-in-Err-act.ensures, member)
    (member_replies x.state.now x.kind x.a x.b x.e _ _ _ _ (sym c.in_default.ensures.number) (rw c.state_of.ensures at c.in-Err-act.ensures.answer) (replies_err _ _ _))
