use Rattle.std.proofs.Common.{rules, tests, ap}
use Rattle.logic.specs.Chains.{table_made}
use Rattle.cluster.specs.State.{zero_request, with_requests, tidy_request_at}
use Rattle.cluster.proofs.tidy.tidy_requests.Goals as goal

pub returns : goal.returns
returns c = let s = c.args.s in
    ap (with_requests s) (table_made _ _ zero_request (tidy_request_at s) 16 (λ e y q b k. search (rules, tests)) c.from_fn.result c.from_fn.ensures.items)
