use Rattle.std.proofs.Common.{rules, tests, drop}
use Rattle.logic.specs.Chains.{table_made}
use Rattle.replica.specs.Replica.{zero_record}
use Rattle.flat.specs.Flat.{record_of_flat}
use Rattle.flat.specs.FlatLaws.{record-at}
use Rattle.flat.proofs.read.log_of.Goals as goal

pub returns : goal.returns
returns c = let a = c.args in
    let bs = drop a.at a.bytes.now in
    table_made _ _ zero_record (record_of_flat bs) 16 (λ i y q b k. rw (← record-at a.bytes.now a.at i) (search (rules, tests))) c.from_fn.result c.from_fn.ensures.items
