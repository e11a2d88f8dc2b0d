use Rattle.std.proofs.Common.{rules}
use Rattle.logic.specs.Search.{triple, passing, first_third}
use Rattle.questions.specs.declared.Operands.{Operands}
use Rattle.questions.specs.Offer.{is_accepted}
use Rattle.questions.specs.OfferLaws.{first_mapped, accepted_is}
use Rattle.questions.proofs.search.offer_with_a_and_b.Goals as goal

pub returns : goal.returns
unfolding first_third passing is_accepted
returns c =
    first_mapped _ (λ (o : Operands). triple o.a o.b o.e) (passing (is_accepted c.args.s.state c.args.kind) c.args.a c.args.b) c.args.bounds.e
    (λ k o q w. search (rules, accepted_is)) _ c.find_map.ensures.runs
