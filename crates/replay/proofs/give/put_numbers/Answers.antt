use Rattle.std.proofs.Common.{rules, arith, get_or, ◌≡◌, ◌∙◌}
use Rattle.std.proofs.lemmas.List.{get_or_default}
use Rattle.replay.specs.InterfaceLaws.{number_bytes_at, numbers-width}
use Rattle.replay.proofs.give.put_numbers.Goals as goal

pub put_each-requires : goal.put_each-requires
put_each-requires c = let numbers = c.args.numbers.now in (
  number_bytes_at numbers,
  record {
    may = λ i x h is o at room. let same : x ≡ get_or numbers i 0 = is ∙ get_or_default numbers i x 0 h in search rules;
    does = λ i x h is o at r o' room p. let same : x ≡ get_or numbers i 0 = is ∙ get_or_default numbers i x 0 h in search rules;
  },
  omega (arith, numbers-width numbers),
)

pub returns : goal.returns
returns c = let numbers = c.args.numbers.now in
    c.put_each.ensures (number_bytes_at numbers) (record {
      may = λ i x h is o at room. let same : x ≡ get_or numbers i 0 = is ∙ get_or_default numbers i x 0 h in search rules;
      does = λ i x h is o at r o' room p. let same : x ≡ get_or numbers i 0 = is ∙ get_or_default numbers i x 0 h in search rules;
    }) (omega (arith, numbers-width numbers))
