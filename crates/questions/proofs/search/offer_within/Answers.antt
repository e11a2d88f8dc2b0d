use Rattle.std.proofs.Common.{rules}
use Rattle.logic.specs.Search.{triple, first_second, first_triple}
use Rattle.questions.specs.declared.Operands.{Operands}
use Rattle.questions.specs.Offer.{epoch_bound, is_accepted, smallest_accepted}
use Rattle.questions.specs.OfferLaws.{first_mapped}
use Rattle.questions.proofs.search.offer_within.Goals as goal

pub returns : goal.returns
unfolding smallest_accepted first_triple
returns c =
    first_mapped _ (λ (o : Operands). triple o.a o.b o.e)
    (first_second c.args.bounds.b (epoch_bound c.args.bounds) (is_accepted c.args.s.state c.args.kind)) c.args.bounds.a
    (λ k o q w. search rules) _ c.find_map.ensures.runs
