use Rattle.std.specs.Prelude.{◌≡◌, length, take}
use Rattle.std.proofs.Common.{rules, tests, ◌∙◌, arith}
use Rattle.std.proofs.lemmas.Iterator.{YieldsList-from_slice}
use Rattle.std.proofs.lemmas.Iterator.Search.{all_from_yields_List}
use Rattle.logic.specs.Chains.{all_taken}
use Rattle.logic.specs.Table.{length_mapped}
use Rattle.replica.specs.Replica.{zero_record}
use Rattle.replica.specs.Log.{record_in_use, log_in_use}
use Rattle.replica.proofs.Replica.log_is_in_use.Goals as goal

pub returns : goal.returns
unfolding log_in_use
returns c = let a = c.args in
    let p = a.self in
    let test = record_in_use a.next_id a.next_epoch in
    let h : length p.log ≡ 16 = search (rules, length_mapped) in
    all_from_yields_List test _ _ c.all.result c.all.ensures.ran (YieldsList-from_slice (take p.end p.log) cc) (λ x b q k. search (rules, tests))
    ∙ all_taken test zero_record p.end p.log (omega (arith, h, c.requires))
