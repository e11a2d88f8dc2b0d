use Rattle.std.proofs.Common.{rules, sym}
use Rattle.cluster.specs.RuleLaws.{refusal_met}
use Rattle.cluster.specs.ActLaws.{act_by_step, named_by_step}
use Rattle.cluster.proofs.State.act.Goals as goal

pub returns-in-Ok-clause-answer : goal.returns-in-Ok-clause-answer
returns-in-Ok-clause-answer c =
    let met = refusal_met c.args.self (sym c.in-Ok.ensures) in
    act_by_step c.args.self c.args.action met c.step.result c.map_err.result (search rules) _ c.map_err.ensures.cases (λ e q k. search rules)

pub returns-in-Ok-clause-named : goal.returns-in-Ok-clause-named
returns-in-Ok-clause-named c =
    named_by_step c.step.result c.map_err.result c.step.ensures.named c.args.self _ c.map_err.ensures.cases (λ e q k. search rules)
