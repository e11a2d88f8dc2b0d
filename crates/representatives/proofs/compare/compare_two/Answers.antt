use Rattle.std.proofs.Common.{rules}
use Rattle.representatives.specs.Comparison.{then_answers}
use Rattle.representatives.proofs.compare.compare_two.Goals as goal

pub returns : goal.returns
returns c = then_answers _ c.compare_numbers.ensures c.then_with.ensures (λ r. search rules)
