use Rattle.replay.specs.Interface.{state_reply}
use Rattle.replay.specs.InterfaceLaws.{replies_err}
use Rattle.replay.proofs.give.give_outcome.Goals as goal

pub returns-in-Err : goal.returns-in-Err
unfolding state_reply
returns-in-Err c = rw c.in-Err.is (replies_err _ _ _)
