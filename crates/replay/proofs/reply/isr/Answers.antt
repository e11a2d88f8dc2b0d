use Rattle.replay.specs.InterfaceLaws.{width_exit}
use Rattle.replay.proofs.reply.isr.Goals as goal

pub returns-in_err-check_width : goal.returns-in_err-check_width
returns-in_err-check_width c = width_exit _ _ c.from_residual.ensures.1 _ _ _ c.in_err-check_width.ensures.number
