use Rattle.std.proofs.Common.{rules, tests}
use Rattle.logic.specs.Chains.{table_made}
use Rattle.cluster.specs.State.{zero_request}
use Rattle.flat.specs.Flat.{request_of_flat_at}
use Rattle.flat.proofs.read.requests_of.Goals as goal

pub returns : goal.returns
returns c =
    table_made _ _ zero_request (request_of_flat_at c.args.bytes.now) 16 (λ i y q b k. search (rules, tests)) c.from_fn.result c.from_fn.ensures.items
