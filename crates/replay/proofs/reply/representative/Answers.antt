use Rattle.replay.specs.Interface.{replay_representative}
use Rattle.replay.specs.InterfaceLaws.{width_exit}
use Rattle.replay.proofs.reply.representative.Goals as goal

pub returns-in_err-check_width : goal.returns-in_err-check_width
unfolding replay_representative
returns-in_err-check_width c = width_exit _ _ c.from_residual.ensures.1 _ _ _ c.in_err-check_width.ensures.number
