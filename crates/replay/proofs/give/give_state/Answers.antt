use Rattle.std.proofs.Common.{arith}
use Rattle.flat.specs.FlatLaws.{flat-width}
use Rattle.replay.specs.InterfaceLaws.{replies_short, replies_given}
use Rattle.replay.proofs.give.give_state.Goals as goal

pub returns-then-out-lt-WIDTH : goal.returns-then-out-lt-WIDTH
returns-then-out-lt-WIDTH c = replies_short _ _ (omega (arith, c.if-out-lt-WIDTH.true, flat-width c.args.s.now))

pub returns : goal.returns
returns c = replies_given _ _ _ _ c.put_state.ensures (omega (arith, c.if-out-lt-WIDTH.false, flat-width c.args.s.now))
