use Rattle.replay.specs.InterfaceLaws.{replies_short, replies_given}
use Rattle.replay.proofs.give.give_bytes.Goals as goal

pub returns-then-out-bytes : goal.returns-then-out-bytes
returns-then-out-bytes c = replies_short _ _ c.if-out-bytes.true

pub returns : goal.returns
returns c = replies_given _ _ _ _ c.put_bytes.ensures c.if-out-bytes.false
