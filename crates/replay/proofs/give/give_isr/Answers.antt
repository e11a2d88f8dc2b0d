use Rattle.replay.specs.Interface.{isr_reply}
use Rattle.replay.specs.InterfaceLaws.{replies_err}
use Rattle.replay.proofs.give.give_isr.Goals as goal

pub returns-in-Err : goal.returns-in-Err
unfolding isr_reply
returns-in-Err c = rw c.in-Err.is (replies_err _ _ _)
