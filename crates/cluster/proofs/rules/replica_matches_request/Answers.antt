use Rattle.std.proofs.Common.{rules, ◌≡◌, sym, ◌∙◌, ap, negsuc, ne_eqb, to_z, to_z-of_z, w8, arith}
use Rattle.parts.specs.EpochLaws.{same_bits}
use Rattle.cluster.specs.Rules.{replica_matches_request}
use Rattle.cluster.specs.RuleLaws.{matches_used, matches_other}
use Rattle.cluster.proofs.rules.replica_matches_request.Goals as goal

pub returns-then-epoch-eqminus1 : goal.returns-then-epoch-eqminus1
unfolding replica_matches_request
returns-then-epoch-eqminus1 c = let e : c.args.epoch ≡ negsuc 0 = sym (to_z-of_z c.ranges.epoch) ∙ ap (to_z w8) c.if-epoch-eqminus1.true in rw e c.no_leader_with_isr.ensures

pub returns-then-epoch_used : goal.returns-then-epoch_used
returns-then-epoch_used c =
    let a = c.args in
    rw (← (matches_used a.next a.requests a.leader a.isr a.epoch (rw (to_z-of_z c.ranges.epoch) at (sym c.epoch_used.ensures) ∙ c.if-epoch_used.true)))
    (search rules)

pub returns-else-epoch_used : goal.returns-else-epoch_used
returns-else-epoch_used c =
    let a = c.args in
    c.if-epoch_used.false
    ∙ matches_other a.next a.requests a.leader a.isr a.epoch
    (sym (same_bits _ (negsuc 0) c.ranges.epoch.sfits (omega arith)) ∙ ne_eqb _ _ c.if-epoch-eqminus1.false)
    (rw (to_z-of_z c.ranges.epoch) at (sym c.epoch_used.ensures) ∙ c.if-epoch_used.false)
