use Rattle.parts.specs.Isr.{isr_below}
use Rattle.parts.specs.IsrLaws.{shifted}
use Rattle.parts.proofs.isr_below.Goals as goal

pub returns : goal.returns
unfolding isr_below
returns c = rw (shifted c.args.n c.requires)
