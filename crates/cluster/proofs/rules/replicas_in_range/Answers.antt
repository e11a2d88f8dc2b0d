use Rattle.std.specs.Prelude.{take}
use Rattle.std.proofs.Common.{rules, tests, ◌∙◌, arith}
use Rattle.std.proofs.lemmas.Iterator.{YieldsList-from_slice}
use Rattle.std.proofs.lemmas.Iterator.Search.{all_from_yields_List}
use Rattle.logic.specs.Chains.{all_taken}
use Rattle.replica.specs.Replica.{no_replica}
use Rattle.cluster.specs.State.{replica_count_of}
use Rattle.cluster.specs.Rules.{replica_in_range}
use Rattle.cluster.proofs.Owned.{shaped_of}
use Rattle.cluster.proofs.rules.replicas_in_range.Goals as goal

pub returns : goal.returns
returns c = let s = c.args.s.state in
    let n = replica_count_of s.limits in
    let test = replica_in_range s.limits in
    all_from_yields_List test _ _ c.all.result c.all.ensures.ran (YieldsList-from_slice (take n s.replicas) cc) (λ x b q k. search (rules, tests))
    ∙ all_taken test no_replica n s.replicas (omega (arith, c.args.s.bounded.replicas, (shaped_of s _ c.well_formed.0.1.1.0).replicas))
