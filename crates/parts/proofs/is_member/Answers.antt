use Rattle.std.proofs.Common.{sym, ◌∙◌, arith, le-ltb}
use Rattle.parts.specs.IsrLaws.{member_past, member_low}
use Rattle.parts.proofs.is_member.Goals as goal

pub returns-then-i-lt5 : goal.returns-then-i-lt5
returns-then-i-lt5 c = sym (member_low c.args.isr c.args.i (omega (arith, c.if-i-lt5.true)))

pub returns-else-i-lt5 : goal.returns-else-i-lt5
returns-else-i-lt5 c = le-ltb c.args.i 5 (omega (arith, c.if-i-lt5.false)) ∙ sym (member_past c.args.isr c.args.i (omega (arith, c.if-i-lt5.false)))
