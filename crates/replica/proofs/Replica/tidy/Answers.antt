use Rattle.std.proofs.Common.{rules, tests, ap}
use Rattle.logic.specs.Chains.{table_made}
use Rattle.replica.specs.Replica.{zero_record, with_log, tidy_record, tidy_replica}
use Rattle.replica.proofs.Replica.tidy.Goals as goal

pub returns : goal.returns
unfolding tidy_replica
returns c = let p = c.args.self in
    ap (with_log p) (table_made _ _ zero_record (tidy_record p) 16 (λ x y q b k. search (rules, tests)) c.from_fn-p.result c.from_fn-p.ensures.items)
