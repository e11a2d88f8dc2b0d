use Rattle.std.proofs.Common.{ℕ, Bool, rules, tests, arith, ◌∙◌, ap, eqb}
use Rattle.std.proofs.Math.Bool.{not}
use Rattle.std.proofs.lemmas.Iterator.{YieldsList-from_range}
use Rattle.std.proofs.lemmas.Iterator.Search.{all_from_yields_List}
use Rattle.logic.specs.Tests.{all_below}
use Rattle.renamings.specs.Names.{new_name, is_new}
use Rattle.renamings.specs.CodeLaws.{all_ranged}
use Rattle.renamings.proofs.places.is_new.Goals as goal

pub returns : goal.returns
unfolding is_new
returns c = let a = c.args in
    let other : ℕ → ℕ → Bool = λ name j. not (eqb name (new_name a.p j)) in
    all_from_yields_List (other c.new_name-name.result) _ _ c.all.result c.all.ensures.ran (YieldsList-from_range 0 a.i a.i (cc) (omega arith)) (λ x b q k. search (rules, tests))
    ∙ all_ranged a.i (other c.new_name-name.result)
    ∙ ap (λ (name : ℕ). all_below a.i (other name)) c.new_name-name.ensures
