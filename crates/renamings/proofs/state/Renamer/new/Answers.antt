use Rattle.std.proofs.Common.{rules, tests}
use Rattle.logic.specs.Chains.{table_made}
use Rattle.renamings.specs.Names.{old_name}
use Rattle.renamings.specs.Rename.{rename_isr}
use Rattle.renamings.proofs.state.Renamer.new.Goals as goal

pub invariant_of-result : goal.invariant_of-result
invariant_of-result c = record {
  old_names = c.inverse.ensures;
  renamed_isrs = table_made _ _ 0 (rename_isr (old_name c.args.p.names)) 32 (λ i y q b k. search (rules, tests)) c.from_fn.result c.from_fn.ensures.items;
}
