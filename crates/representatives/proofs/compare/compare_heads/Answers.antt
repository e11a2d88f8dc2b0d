use Rattle.std.proofs.Common.{rules, ◌∙◌, ◌≡◌}
use Rattle.parts.specs.Epoch.{epoch_byte}
use Rattle.representatives.specs.Comparison.{compare_numbers, then_answers, then_then}
use Rattle.representatives.specs.Fields.{compare_two, compare_named, compare_heads}
use Rattle.representatives.proofs.compare.compare_heads.Goals as goal

pub returns : goal.returns
unfolding compare_heads
returns c = let a = c.args.a in
    let b = c.args.b in
    let began : c.compare_two.result ≡ compare_two a.hw (epoch_byte a.epoch) b.hw (epoch_byte b.epoch) = search rules in
    then_answers _ (then_answers _ began c.then_with.ensures (λ r. search rules)) c.then_with-2.ensures (λ r. search rules)
    ∙ then_then _ (compare_named c.args.p.names c.args.q.names a.leader a.isr b.leader b.isr) (compare_numbers a.end b.end)
