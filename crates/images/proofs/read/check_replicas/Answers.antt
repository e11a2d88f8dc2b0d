use Rattle.std.proofs.Common.{rules, ◌≡◌, sym, ◌∙◌, arith, drop, get_or, set, ◌+◌, ◌*◌}
use Rattle.parts.specs.declared.refusal.Refusal.{Refusal}
use Rattle.parts.specs.Refusal.{refusal_number, answer_number}
use Rattle.parts.specs.Bytes.{byte-at}
use Rattle.parts.specs.Mark.{byte_at}
use Rattle.images.specs.Answer.{refuses_not_zero}
use Rattle.images.specs.Layout.{replica_length, replica_with_log}
use Rattle.images.specs.ReadLaws.{filling_start, filling_more, filling_refused, replica_fits, replica_whole}
use Rattle.images.proofs.read.check_replicas.Goals as goal

pub loop-init : goal.loop-init
loop-init c = (_, filling_start _ _ _ _ _ c.requires.at_in_bounds)

pub returns-in_err-check_replica : goal.returns-in_err-check_replica
returns-in_err-check_replica c = let l = c.loop in
    let r : Refusal = c.in_err-check_replica.field-0.0 in
    let same : answer_number c.from_residual.result ≡ refusal_number r = search rules in
    same ∙ filling_refused _ _ _ _ _ l.counter l.pos _ _ c.loop-test.true l.invariant.1 c.in_err-check_replica.ensures (refuses_not_zero r)

pub loop-preserved : goal.loop-preserved
loop-preserved c = let bs = c.args.bytes.now in
    let l = c.loop in
    let f = replica_fits (byte_at bs 3) bs l.pos l.invariant.1.within (sym c.in_ok-check_replica.ensures) in
    let next : l.pos + (5 + 2 * get_or bs (l.pos + 4) 0) ≡ l.pos + replica_length (drop l.pos bs) = omega (arith, byte-at bs l.pos 4) in (
      set l.invariant.0 l.counter (replica_with_log (drop l.pos bs)),
      rw next
          (filling_more _ _ _ _ _ l.counter l.pos _ _ _ c.loop-test.true l.invariant.1 f.room (replica_whole _ _ _ f.room f.end)),
    )
