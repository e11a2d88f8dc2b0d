use mathlib.Core.Path.{◌≡◌}
use Rattle.logic.specs.Greatest.{greatest_below}
use Rattle.questions.specs.Exposed.{presuming_hw}
use Rattle.questions.proofs.exposed.Given as goal

abbrev pub invariant-loop-r : goal.invariant-loop-r
invariant-loop-r l = l.most ≡ greatest_below l.r (presuming_hw l.s.state)
