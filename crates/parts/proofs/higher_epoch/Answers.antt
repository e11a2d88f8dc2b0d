use mathlib.Core.Path.{◌≡◌, ◌∙◌, ap₂}
use lib.Signed.{lt_z}
use mir.Val.{of_z, to_z}
use mir.Syntax.{w8}
use borrow.Author.Rules.{rules}
use Rattle.parts.specs.EpochLaws.{higher_is}
use Rattle.parts.proofs.higher_epoch.Goals as goal

pub returns : goal.returns
returns c = let e : to_z w8 (of_z w8 c.args.e) ≡ c.args.e = search rules in
    let f : to_z w8 (of_z w8 c.args.f) ≡ c.args.f = search rules in
    ap₂ lt_z f e ∙ higher_is c.args.e c.args.f
