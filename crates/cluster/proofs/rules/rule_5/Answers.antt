use Rattle.std.specs.Prelude.{ℕ, Bool, take}
use Rattle.std.proofs.Common.{rules, tests, ◌∙◌, arith}
use Rattle.std.proofs.lemmas.Iterator.{YieldsList-from_slice}
use Rattle.std.proofs.lemmas.Iterator.Consumers.{YieldsList-from_enumerate}
use Rattle.std.proofs.lemmas.Iterator.Search.{all_from_yields_List}
use Rattle.logic.specs.Chains.{all_counted}
use Rattle.replica.specs.declared.Replica.{Replica}
use Rattle.replica.specs.Replica.{no_replica}
use Rattle.cluster.specs.State.{replica_count_of, next_leader_epoch_of}
use Rattle.cluster.specs.Rules.{replica_meets_s5, rule5}
use Rattle.cluster.proofs.Owned.{shaped_of}
use Rattle.cluster.proofs.rules.rule_5.Goals as goal

pub returns : goal.returns
unfolding rule5
returns c = let s = c.args.s.state in
    let n = replica_count_of s.limits in
    let test : ℕ → Replica → Bool = λ i p. replica_meets_s5 (next_leader_epoch_of s) s.requests p i in
    all_from_yields_List (λ p. test p.0 p.1) _ _ c.all.result c.all.ensures.ran (YieldsList-from_enumerate (YieldsList-from_slice (take n s.replicas) cc) cc) (λ x b q k. search (rules, tests))
    ∙ all_counted test no_replica n s.replicas (omega (arith, c.args.s.bounded.replicas, (shaped_of s _ c.well_formed.0.1.1.0).replicas))
