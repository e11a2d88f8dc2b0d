use Rattle.std.proofs.Common.{sym}
use Rattle.logic.specs.Refuse.{by_refusal}
use Rattle.questions.specs.IsrLaws.{refusal_not_zero}
use Rattle.replay.specs.Interface.{state_reply, replay_read_image}
use Rattle.replay.specs.InterfaceLaws.{replies_err, replies_exit, read_refuses, read_replies}
use Rattle.replay.proofs.reply.read_image.Goals as goal

pub returns-in_err-check_layout : goal.returns-in_err-check_layout
unfolding replay_read_image
returns-in_err-check_layout c =
    replies_exit _ _ c.from_residual.ensures.1 _ _ (read_refuses _ _ _ c.in_err-check_layout.ensures (refusal_not_zero _))

pub returns-in_err-valid : goal.returns-in_err-valid
unfolding replay_read_image state_reply
returns-in_err-valid c =
    replies_exit _ _ c.from_residual-in_err-valid.ensures.1 _ _
    (read_replies _ _ _ _ _ _ (sym c.in_ok-check_layout.ensures) c.state_of.ensures c.in_err-valid.ensures.number (replies_err _ _ _))

pub returns : goal.returns
unfolding replay_read_image state_reply by_refusal
returns c =
    read_replies _ _ _ _ _ _ (sym c.in_ok-check_layout.ensures) c.state_of.ensures c.in_ok-valid.ensures.number
    (rw c.in_ok-valid.ensures.state at c.give_state.ensures)
