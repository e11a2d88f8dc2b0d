use mathlib.Core.Path.{◌≡◌, sym, ◌∙◌}
use mathlib.Core.Bool.{true}
use native.Mathlib.Omega.{arith}
use Rattle.parts.specs.Isr.{member}
use Rattle.parts.specs.IsrLaws.{shifted, member_below, without_fits, without_present, without_absent}
use Rattle.parts.proofs.without_member.Goals as goal

present : (z : goal.Then-is_member) → let x = z.args in member x.isr x.a ≡ true
present z = sym z.is_member.ensures ∙ z.if-is_member.true

pub overflow_shl-result : goal.overflow_shl-result
overflow_shl-result c = omega (arith, member_below _ _ (present c))

pub overflow_sub-result : goal.overflow_sub-result
overflow_sub-result c = rw (shifted c.args.a (omega (arith, member_below _ _ (present c)))) (without_fits _ _ c.requires (present c))

pub returns-then-is_member : goal.returns-then-is_member
returns-then-is_member c = rw (shifted c.args.a (omega (arith, member_below _ _ (present c)))) (without_present _ _ c.requires (present c))

pub returns : goal.returns
returns c = without_absent _ _ c.requires (sym c.is_member.ensures ∙ c.if-is_member.false)
