use native.Mathlib.Omega.{arith}
use Rattle.parts.specs.IsrLaws.{shifted, alone_is}
use Rattle.parts.proofs.is_alone.Goals as goal

pub returns : goal.returns
returns c = rw (shifted c.args.a (omega (arith, c.requires.a_bound))) (alone_is c.args.isr c.args.a c.requires.isr_bound c.requires.a_bound)
