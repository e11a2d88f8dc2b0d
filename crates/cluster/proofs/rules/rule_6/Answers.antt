use Prim.Native.Nat.{◌≤◌, ◌<◌}
use Rattle.std.specs.Prelude.{◌≡◌, take}
use Rattle.std.proofs.Common.{rules, tests, ◌∙◌, arith}
use Rattle.std.proofs.lemmas.List.{get_or-take, get_or_default}
use Rattle.std.proofs.lemmas.Iterator.{YieldsList-from_slice}
use Rattle.std.proofs.lemmas.Iterator.Adapters.{serves_from_places}
use Rattle.std.proofs.lemmas.Iterator.Search.{all_from_yields_List}
use Rattle.logic.specs.Chains.{all_taken}
use Rattle.replica.specs.Replica.{no_replica}
use Rattle.replica.specs.Log.{log_in_use}
use Rattle.cluster.specs.State.{replica_at, replica_count_of, next_leader_epoch_of, next_record_id_of}
use Rattle.cluster.specs.Rules.{rule6}
use Rattle.cluster.proofs.Owned.{shaped_of}
use Rattle.cluster.proofs.rules.rule_6.Goals as goal

pub all-requires-clause-callable : goal.all-requires-clause-callable
all-requires-clause-callable c = let s = c.args.s.state in
    let n = replica_count_of s.limits in
    let long = (shaped_of s _ c.well_formed.0.1.1.0).replicas in
    serves_from_places (YieldsList-from_slice (take n s.replicas) cc) (λ x q r. search rules)
    (λ x k b e.
    let below : k < n = omega (arith, b, c.args.s.bounded.replicas, long) in
    let found : x.now ≡ replica_at s k = e ∙ get_or-take n s.replicas k x.now below ∙ get_or_default s.replicas k x.now no_replica (omega (arith, c.args.s.bounded.replicas, long)) in
    let within : x.now.end ≤ 16 = rw found (c.requires k below) in
    search within)

pub returns : goal.returns
unfolding rule6
returns c = let s = c.args.s.state in
    let n = replica_count_of s.limits in
    let test = log_in_use (next_record_id_of s) (next_leader_epoch_of s) in
    all_from_yields_List test _ _ c.all.result c.all.ensures.ran (YieldsList-from_slice (take n s.replicas) cc) (λ x b q k. search (rules, tests))
    ∙ all_taken test no_replica n s.replicas (omega (arith, c.args.s.bounded.replicas, (shaped_of s _ c.well_formed.0.1.1.0).replicas))
