use Rattle.std.proofs.Common.{ap, arith}
use Rattle.images.specs.Answer.{Written}
use Rattle.questions.specs.IsrLaws.{refusal_not_zero}
use Rattle.replay.specs.Interface.{image_reply, replay_write_image}
use Rattle.replay.specs.InterfaceLaws.{on_state_refused, on_state_alone, image_replies, written_replies}
use Rattle.replay.proofs.replay_write_image.Goals as goal

pub returns-in-Err : goal.returns-in-Err
unfolding replay_write_image
returns-in-Err c = let h = c.in-Err.ensures.number in
    rw c.number.ensures (on_state_alone _ image_reply _ _ h (refusal_not_zero _), (on_state_refused _ image_reply _ _ h (refusal_not_zero _)).1)

pub overflow_cast-result-in-Ok : goal.overflow_cast-result-in-Ok
overflow_cast-result-in-Ok c =
    let i = image_replies c.state_of.result c.args.out.now in
    omega (arith, i.length_at_most, ap (λ (v : Written). v.length) c.in-Ok.ensures.0)

pub overflow_mul-result : goal.overflow_mul-result
overflow_mul-result c =
    let i = image_replies c.state_of.result c.args.out.now in
    omega (arith, i.length_at_most, ap (λ (v : Written). v.length) c.in-Ok.ensures.0)

pub returns-in-Ok : goal.returns-in-Ok
returns-in-Ok c =
    let w = c.in-Ok.ensures in
    let m = written_replies _ _ _ _ _ c.in_default.ensures.number c.state_of.ensures w.0 w.1 in
    (omega (arith, m.0), m.1)

pub returns-in-Err-write_image : goal.returns-in-Err-write_image
returns-in-Err-write_image c =
    let w = c.in-Err-write_image.ensures in
    let m = written_replies _ _ _ _ _ c.in_default.ensures.number c.state_of.ensures w.0 w.1 in
    (omega (arith, m.0, c.number-in-Err-write_image.ensures), m.1)
