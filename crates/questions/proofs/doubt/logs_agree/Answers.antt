use Rattle.std.proofs.Common.{rules, tests, refl, ◌∙◌, arith}
use Rattle.std.proofs.lemmas.Iterator.{YieldsList-from_range}
use Rattle.std.proofs.lemmas.Iterator.Search.{all_from_yields_List}
use Rattle.replica.specs.Log.{hold_same_record}
use Rattle.questions.specs.DoubtCode.{from_none, agree_on}
use Rattle.questions.proofs.doubt.logs_agree.Goals as goal

pub returns : goal.returns
unfolding hold_same_record
returns c =
    all_from_yields_List (hold_same_record c.args.p c.args.q) _ _ c.all.result c.all.ensures.ran (YieldsList-from_range c.args.from c.args.to _ refl refl) (λ y b q k. search (rules, tests))
    ∙ agree_on c.args.from c.args.p c.args.q c.args.to _ c.args.from (omega arith) refl (from_none c.args.from c.args.p c.args.q)
