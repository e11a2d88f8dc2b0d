use Rattle.std.proofs.Common.{◌≡◌, arith, rules}
use Rattle.logic.specs.Concat.{concat_below}
use Rattle.logic.specs.Stores.{stored_length, stored_more}
use Rattle.runs.specs.Answer.{failure_number, refused_number, verdict_of}
use Rattle.flat.specs.FlatLaws.{flat-width}
use Rattle.replay.specs.Interface.{number_bytes, verdict_bytes}
use Rattle.replay.specs.InterfaceLaws.{replies_short, replies_given, verdict-width}
use Rattle.replay.proofs.give.give_verdict.Goals as goal

pub returns-then-out-lt-VERDICT_WIDTH : goal.returns-then-out-lt-VERDICT_WIDTH
returns-then-out-lt-VERDICT_WIDTH c = replies_short _ _ (omega (arith, c.if-out-lt-VERDICT_WIDTH.true, verdict-width (verdict_of c.args.v.now)))

pub put_state-requires : goal.put_state-requires
unfolding concat_below number_bytes
put_state-requires c = let w = c.put_numbers-state.ensures in
    omega (arith, w.place, stored_length w)

pub returns : goal.returns
unfolding verdict_bytes concat_below number_bytes
returns c =
    let v = c.args.v.now in
    let refusal : refused_number v.refusal ≡ c.map_or.result = search rules in
    let weak : failure_number v.tally.weak ≡ c.unwrap_or.result = search rules in
    let strong : failure_number v.tally.strong ≡ c.unwrap_or-2.result = search rules in
    rw (refusal, weak, strong)
    (replies_given _ _ _ _ (stored_more c.put_numbers-state.ensures c.put_state.ensures) (omega (arith, c.if-out-lt-VERDICT_WIDTH.false, flat-width v.state)))
