use Rattle.std.proofs.Common.{rules, tests}
use Rattle.logic.specs.Chains.{table_made}
use Rattle.cluster.specs.State.{zero_request}
use Rattle.renamings.specs.Names.{new_name, old_name}
use Rattle.renamings.specs.Rename.{renamed_request_at}
use Rattle.renamings.proofs.state.Renamer.requests.Goals as goal

pub returns : goal.returns
returns c = let p = c.args.self.now.to.names in
    table_made _ _ zero_request (renamed_request_at (new_name p) (old_name p) c.args.requests) 16 (λ i y q b k. search (rules, tests)) c.from_fn.result c.from_fn.ensures.items
