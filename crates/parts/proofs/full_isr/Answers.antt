use Rattle.parts.specs.Isr.{full_isr}
use Rattle.parts.specs.IsrLaws.{shifted, power_positive}
use Rattle.parts.proofs.full_isr.Goals as goal

pub overflow_sub-result : goal.overflow_sub-result
overflow_sub-result c = rw (shifted c.args.n c.requires) (power_positive c.args.n c.requires)

pub returns : goal.returns
unfolding full_isr
returns c = rw (shifted c.args.n c.requires)
