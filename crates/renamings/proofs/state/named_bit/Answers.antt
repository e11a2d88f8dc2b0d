use Rattle.renamings.specs.CodeLaws.{named-bit}
use Rattle.renamings.proofs.state.named_bit.Goals as goal

pub returns : goal.returns
returns c = let n = named-bit c.args.isr c.args.i c.args.name c.requires.i_bound c.requires.name_bound in
    (n.0, rw n.0 n.1)
