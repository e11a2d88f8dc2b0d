use Rattle.std.proofs.Common.{rules, tests, arith, ◌∙◌}
use Rattle.std.proofs.lemmas.Iterator.{YieldsList-from_range}
use Rattle.std.proofs.lemmas.Iterator.Search.{all_from_yields_List}
use Rattle.renamings.specs.Names.{place_fits, is_renaming}
use Rattle.renamings.specs.CodeLaws.{all_ranged}
use Rattle.renamings.proofs.places.is_renaming.Goals as goal

pub returns : goal.returns
unfolding is_renaming
returns c = let a = c.args in
    all_from_yields_List (place_fits a.n a.p) _ _ c.all.result c.all.ensures.ran (YieldsList-from_range 0 5 5 (cc) (omega arith)) (λ x b q k. search (rules, tests))
    ∙ all_ranged 5 (place_fits a.n a.p)
