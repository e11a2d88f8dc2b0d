use Rattle.std.proofs.Common.{◌∙◌, sym, ap}
use Rattle.parts.specs.Refusal.{accepted}
use Rattle.cluster.specs.Outcome.{answer}
use Rattle.cluster.specs.FreshLaws.{fresh_tidied, fresh_in}
use Rattle.cluster.proofs.State.fresh.Goals as goal

pub returns : goal.returns
returns c =
    ap (answer accepted) (rw (c.zero-2.ensures, c.zero-3.ensures, c.full_isr.ensures) at c.tidy_replicas.ensures ∙ fresh_tidied c.args.limits)
    ∙ sym (fresh_in c.args.limits (sym c.limits_in_range.ensures ∙ c.if-not-limits_in_range.false))
