use Rattle.std.specs.Prelude.{◌≡◌, Bool, length, take}
use Rattle.std.proofs.Common.{rules, tests, ◌∙◌, arith}
use Rattle.std.proofs.lemmas.Iterator.{YieldsList-from_slice}
use Rattle.std.proofs.lemmas.Iterator.Search.{all_from_yields_List}
use Rattle.logic.specs.Chains.{all_taken}
use Rattle.logic.specs.Table.{length_mapped}
use Rattle.parts.specs.Leader.{leader_none_or_in_isr}
use Rattle.cluster.specs.declared.Request.{Request}
use Rattle.cluster.specs.State.{zero_request}
use Rattle.cluster.proofs.rules.request_leaders_in_isr.Goals as goal

pub returns : goal.returns
returns c = let a = c.args in
    let test : Request → Bool = λ q. leader_none_or_in_isr q.isr q.leader in
    let h : length a.requests ≡ 16 = search (rules, length_mapped) in
    all_from_yields_List test _ _ c.all.result c.all.ensures.ran (YieldsList-from_slice (take a.next a.requests) cc) (λ x b q k. search (rules, tests))
    ∙ all_taken test zero_request a.next a.requests (omega (arith, h, c.requires))
