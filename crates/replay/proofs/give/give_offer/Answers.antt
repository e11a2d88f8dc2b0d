use Rattle.replay.specs.Interface.{offer_reply}
use Rattle.replay.specs.InterfaceLaws.{replies_err}
use Rattle.replay.proofs.give.give_offer.Goals as goal

pub returns-in-Err : goal.returns-in-Err
unfolding offer_reply
returns-in-Err c = rw c.in-Err.is (replies_err _ _ _)
