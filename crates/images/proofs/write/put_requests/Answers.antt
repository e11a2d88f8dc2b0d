use Rattle.std.proofs.Common.{rules, arith, ◌≡◌, ◌∙◌}
use Rattle.std.proofs.lemmas.List.{get_or-take, get_or_default, length-take}
use Rattle.cluster.specs.State.{zero_request, request_in}
use Rattle.images.specs.WriteLaws.{request_bytes_in}
use Rattle.images.proofs.write.put_requests.Goals as goal

pub put_each-requires : goal.put_each-requires
put_each-requires c = let a = c.args in
    let e = length-take a.count a.requests in (
      request_bytes_in a.requests,
      record {
        may = λ i x h is o at room. let k = h in
            let same : x ≡ request_in a.requests i = is ∙ get_or-take a.count a.requests i x (omega (arith, e)) ∙ get_or_default a.requests i x zero_request (omega (arith, e)) in
            search rules;
        does = λ i x h is o at r o' room p.
            let same : x ≡ request_in a.requests i = is ∙ get_or-take a.count a.requests i x (omega (arith, e)) ∙ get_or_default a.requests i x zero_request (omega (arith, e)) in
            search rules;
      },
      search rules,
    )
