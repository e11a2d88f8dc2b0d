use Rattle.parts.specs.EpochLaws.{last_zero, last_suc}
use Rattle.parts.proofs.last_epoch.Goals as goal

pub returns-then-next-eq0 : goal.returns-then-next-eq0
returns-then-next-eq0 c = last_zero c.args.next c.if-next-eq0.true

pub returns : goal.returns
returns c = last_suc c.args.next c.if-next-eq0.false c.requires
