use Rattle.std.proofs.Common.{sym}
use Rattle.renamings.specs.CodeLaws.{isr_by_names, isr-by-names}
use Rattle.renamings.proofs.places.Renaming.rename_isr.Goals as goal

pub returns : goal.returns
returns c = let p = c.args.self in
    rw (sym (isr-by-names p.names p.of_five c.args.isr))
    (unfold isr_by_names in cc)
