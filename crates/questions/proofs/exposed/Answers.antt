use Rattle.std.specs.Prelude.{max}
use Rattle.std.proofs.Common.{ap₂, ◌∙◌}
use Rattle.std.proofs.Math.Nat.{max_comm}
use Rattle.logic.specs.Greatest.{greatest_more}
use Rattle.cluster.specs.Actions.{replica_presumes_leadership}
use Rattle.questions.specs.Exposed.{presuming_hw}
use Rattle.questions.proofs.exposed.Goals as goal

pub loop-r-preserved : goal.loop-r-preserved
unfolding replica_presumes_leadership
loop-r-preserved c =
    let f = presuming_hw c.args.s.state in
    c.max-most.ensures ∙ ap₂ max c.loop-r.invariant c.where_presuming.ensures ∙ max_comm _ (f c.loop-r.r) ∙ greatest_more c.loop-r.r f
