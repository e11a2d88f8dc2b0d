use Rattle.std.proofs.Common.{rules, ◌≡◌, ◌≤◌, ◌∙◌, ap, arith, length}
use Rattle.logic.specs.Stores.{stored_front}
use Rattle.parts.specs.declared.refusal.Refusal.{Refusal}
use Rattle.parts.specs.Refusal.{accepted, refusal_number}
use Rattle.images.specs.Answer.{written_of}
use Rattle.images.specs.Image.{image, written}
use Rattle.images.specs.WriteLaws.{writes_refusal, writes_short, writes_all}
use Rattle.images.proofs.write_image.Goals as goal

pub returns-in_err-valid : goal.returns-in_err-valid
returns-in_err-valid c = let a = c.args in
    let r : Refusal = c.in_err-valid.field-0.0 in
    let same : written_of c.from_residual.result ≡ written (refusal_number r) 0 = search rules in
    let w = writes_refusal a.s a.out.now r c.in_err-valid.ensures.number in
    (same ∙ w.0, w.1)

pub returns-then-out-image_length : goal.returns-then-out-image_length
returns-then-out-image_length c = let v = c.in_ok-valid.valid in
    rw (← c.in_ok-valid.ensures.state)
    (writes_short v.state c.args.out.now v.meets_rules (omega (arith, c.image_length.ensures, c.if-out-image_length.true)))

pub returns : goal.returns
returns c = let v = c.in_ok-valid.valid in
    let b = c.args.out.now in
    let room : length (image v.state) ≤ length b = omega (arith, c.image_length.ensures, c.if-out-image_length.false) in
    let w = c.put_image.ensures in
    let n : c.put_image.result ≡ length (image v.state) = omega (arith, w.place) in
    let all = writes_all v.state b v.meets_rules room in
    rw (← c.in_ok-valid.ensures.state) (ap (written accepted) n ∙ all.0, stored_front w room ∙ all.1)
