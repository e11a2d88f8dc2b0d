use Rattle.std.proofs.Common.{rules, tests}
use Rattle.logic.specs.Chains.{table_made}
use Rattle.replica.specs.Replica.{zero_replica}
use Rattle.flat.specs.Flat.{replica_of_flat_at}
use Rattle.flat.proofs.read.replicas_of.Goals as goal

pub returns : goal.returns
returns c =
    table_made _ _ zero_replica (replica_of_flat_at c.args.bytes.now) 5 (λ i y q b k. search (rules, tests)) c.from_fn.result c.from_fn.ensures.items
