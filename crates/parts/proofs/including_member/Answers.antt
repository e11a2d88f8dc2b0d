use mathlib.Core.Bool.{false}
use mathlib.Core.Path.{◌≡◌, sym, ◌∙◌}
use native.Mathlib.Omega.{arith}
use Rattle.parts.specs.Isr.{member}
use Rattle.parts.specs.IsrLaws.{shifted, including_present, including_fits, including_absent}
use Rattle.parts.proofs.including_member.Goals as goal

absent : (z : goal.Else-is_member) → let x = z.args in member x.isr x.a ≡ false
absent z = sym z.is_member.ensures ∙ z.if-is_member.false

pub returns-then-is_member : goal.returns-then-is_member
returns-then-is_member c = including_present _ _ c.requires.isr_bound (sym c.is_member.ensures ∙ c.if-is_member.true)

pub overflow_add-result : goal.overflow_add-result
overflow_add-result c = rw (shifted c.args.a (omega (arith, c.requires.a_bound)))
    (record { fits = including_fits _ _ c.requires.isr_bound c.requires.a_bound (absent c) })

pub returns : goal.returns
returns c = rw (shifted c.args.a (omega (arith, c.requires.a_bound)))
    (including_absent _ _ c.requires.isr_bound c.requires.a_bound (absent c))
