use borrow.Author.Tests.{eq-eqb, ne_eqb}
use Rattle.parts.specs.Mark.{marked}
use Rattle.parts.proofs.mark.is_marked.Goals as goal

pub returns-then-bytes-eq-FIRST : goal.returns-then-bytes-eq-FIRST
unfolding marked
returns-then-bytes-eq-FIRST c = rw (eq-eqb _ _ c.if-bytes-eq-FIRST.true)

pub returns : goal.returns
unfolding marked
returns c = rw (ne_eqb _ _ c.if-bytes-eq-FIRST.false)
