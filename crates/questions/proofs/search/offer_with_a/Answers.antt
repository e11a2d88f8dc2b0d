use Rattle.std.proofs.Common.{rules}
use Rattle.logic.specs.Search.{triple, first_third, first_second}
use Rattle.questions.specs.declared.Operands.{Operands}
use Rattle.questions.specs.Offer.{epoch_bound, is_accepted}
use Rattle.questions.specs.OfferLaws.{first_mapped}
use Rattle.questions.proofs.search.offer_with_a.Goals as goal

pub returns : goal.returns
unfolding first_second
returns c =
    first_mapped _ (λ (o : Operands). triple o.a o.b o.e)
    (first_third (epoch_bound c.args.bounds) (is_accepted c.args.s.state c.args.kind) c.args.a) c.args.bounds.b
    (λ k o q w. search rules) _ c.find_map.ensures.runs
