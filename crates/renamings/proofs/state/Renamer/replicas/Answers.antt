use Rattle.std.proofs.Common.{rules, tests}
use Rattle.logic.specs.Chains.{table_made}
use Rattle.replica.specs.Replica.{no_replica}
use Rattle.renamings.specs.Names.{new_name, old_name}
use Rattle.renamings.specs.Rename.{renamed_replica_at, rename_replicas}
use Rattle.renamings.specs.CodeLaws.{back_old}
use Rattle.renamings.proofs.state.Renamer.replicas.Goals as goal

pub returns : goal.returns
unfolding rename_replicas
returns c = let s = c.args.self.now in
    let p = s.to.names in
    table_made _ _ no_replica (renamed_replica_at (new_name p) (old_name p) c.args.replicas) 5
    (λ j y q b k. let old = back_old p s.from.names s.to.of_five s.old_names j b in search (rules, tests))
    c.from_fn.result c.from_fn.ensures.items
