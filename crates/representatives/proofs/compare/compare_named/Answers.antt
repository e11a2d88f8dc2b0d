use Rattle.std.proofs.Common.{rules, ap₂, ◌∙◌}
use Rattle.representatives.specs.Comparison.{compare_numbers, then_answers}
use Rattle.representatives.specs.Fields.{compare_named}
use Rattle.representatives.proofs.compare.compare_named.Goals as goal

pub returns : goal.returns
unfolding compare_named
returns c = then_answers _ (c.compare_numbers.ensures ∙ ap₂ compare_numbers c.leader_byte.ensures c.leader_byte-2.ensures) c.then_with.ensures (λ r. search rules)
