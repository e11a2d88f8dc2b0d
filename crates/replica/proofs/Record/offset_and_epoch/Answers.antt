use mathlib.Core.Path.{◌≡◌, ◌∙◌, ap}
use native.Mathlib.Omega.{arith}
use mir.Val.{to_z, of_z}
use mir.Syntax.{w8}
use borrow.Author.Rules.{rules}
use Rattle.parts.specs.Epoch.{epoch_byte}
use Rattle.replica.specs.Entries.{offset_and_epoch}
use Rattle.replica.proofs.Record.offset_and_epoch.Goals as goal

pub returns : goal.returns
unfolding offset_and_epoch
returns c = let a = c.args in
    let z : to_z w8 (of_z w8 a.self.epoch) ≡ a.self.epoch = search rules in
    let e = c.epoch_byte-epoch.ensures ∙ ap epoch_byte z in
    omega (arith, e)
