use Rattle.std.proofs.Common.{sym, ◌∙◌}
use Rattle.cluster.specs.declared.Kind.TheVariants.{ControllerShrinkIsr, ControllerElectLeader, BecomeLeader, BecomeFollower, LeaderWrite, FollowerReplicate}
use Rattle.cluster.specs.Act.{table_refusal}
use Rattle.cluster.specs.ActLaws.{accepted_table}
use Rattle.cluster.proofs.valid.ValidState.effect.Goals as goal

pub controller_shrink_isr-requires : goal.controller_shrink_isr-requires
unfolding table_refusal
controller_shrink_isr-requires c = accepted_table c.args.self.state c.args.action ControllerShrinkIsr c.requires (sym c.in-ControllerShrinkIsr.is ∙ c.from.ensures)

pub controller_elect_leader-requires : goal.controller_elect_leader-requires
unfolding table_refusal
controller_elect_leader-requires c = accepted_table c.args.self.state c.args.action ControllerElectLeader c.requires (sym c.in-ControllerElectLeader.is ∙ c.from.ensures)

pub become_leader-requires : goal.become_leader-requires
unfolding table_refusal
become_leader-requires c = accepted_table c.args.self.state c.args.action BecomeLeader c.requires (sym c.in-BecomeLeader.is ∙ c.from.ensures)

pub become_follower_and_truncate_to_hw-requires-clause-is_accepted : goal.become_follower_and_truncate_to_hw-requires-clause-is_accepted
unfolding table_refusal
become_follower_and_truncate_to_hw-requires-clause-is_accepted c = accepted_table c.args.self.state c.args.action BecomeFollower c.requires (sym c.in-BecomeFollower.is ∙ c.from.ensures)

pub leader_write-requires-clause-is_accepted : goal.leader_write-requires-clause-is_accepted
unfolding table_refusal
leader_write-requires-clause-is_accepted c = accepted_table c.args.self.state c.args.action LeaderWrite c.requires (sym c.in-LeaderWrite.is ∙ c.from.ensures)

pub follower_replicate-requires-clause-is_accepted : goal.follower_replicate-requires-clause-is_accepted
unfolding table_refusal
follower_replicate-requires-clause-is_accepted c = accepted_table c.args.self.state c.args.action FollowerReplicate c.requires (sym c.in-FollowerReplicate.is ∙ c.from.ensures)
