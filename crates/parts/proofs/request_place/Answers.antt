use native.Mathlib.Omega.{arith}
use mir.Val.{to_z, of_z}
use mir.Syntax.{w8}
use Rattle.parts.specs.EpochLaws.{negative, Counted, counted}
use Rattle.parts.proofs.request_place.Goals as goal

number : (c : goal.Else-e-lt0) → Counted c.args.e (to_z w8 (of_z w8 c.args.e))
number c = counted c.args.e c.ranges.e c.if-e-lt0.false

pub returns-then-e-lt0 : goal.returns-then-e-lt0
returns-then-e-lt0 c = (negative c.args.e c.ranges.e c.if-e-lt0.true).place

pub overflow_cast-result : goal.overflow_cast-result
overflow_cast-result c = let k = number c in (k.sign, record { fits = omega (arith, k.small) })

pub returns : goal.returns
returns c = (number c).place
