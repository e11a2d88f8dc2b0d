use Rattle.std.proofs.Common.{◌≡◌, ap, ◌+◌, ◌*◌, ◌<◌, arith, drop, replicate}
use Rattle.std.proofs.lemmas.List.{set-append_left, take-append-drop, length-take}
use Rattle.parts.specs.Mark.{byte_at}
use Rattle.replica.specs.declared.Replica.{Replica}
use Rattle.replica.specs.Replica.{zero_replica}
use Rattle.images.specs.Layout.{replica_length, replica_with_log}
use Rattle.images.specs.ReadLaws.{filling_start, filling_more, filling_next, filling_whole, replica_fits, replica_whole}
use Rattle.images.proofs.read.replicas_of.Goals as goal

pub loop-p-init : goal.loop-p-init
loop-p-init c = let a = c.args in
    let n = byte_at a.bytes.now 2 in
    rw (c.zero-replicas.ensures, take-append-drop n (replicate 5 zero_replica)) (filling_start _ _ _ _ _ c.requires.at_in_bounds)

pub replica_of-requires : goal.replica_of-requires
replica_of-requires c = let a = c.args in
    let bs = a.bytes.now in
    let l = c.loop-p in
    let n = byte_at bs 2 in
    let f = replica_fits (byte_at bs 3) bs l.pos l.invariant.within
    (filling_next _ _ _ _ _ c.requires.at_value l.p-index l.pos _
    (omega (arith, length-take n (replicate 5 c.zero-replicas.result))) l.invariant) in
    record { bytes_bound = omega (arith, f.end, c.requires.bytes_bound_2); bytes_in_bounds = f.room }

pub loop-p-preserved : goal.loop-p-preserved
loop-p-preserved c = let a = c.args in
    let bs = a.bytes.now in
    let l = c.loop-p in
    let n = byte_at bs 2 in
    let below : l.p-index < n = omega (arith, length-take n (replicate 5 c.zero-replicas.result)) in
    let f = replica_fits (byte_at bs 3) bs l.pos l.invariant.within
    (filling_next _ _ _ _ _ c.requires.at_value l.p-index l.pos _ below l.invariant) in
    let p = replica_with_log (drop l.pos bs) in
    let end : c.replica_of.result.end ≡ byte_at (drop l.pos bs) 4 = ap (λ (p : Replica). p.end) c.replica_of.ensures in
    let next : l.pos + (5 + 2 * c.replica_of.result.end) ≡ l.pos + replica_length (drop l.pos bs) = omega (arith, end) in
    rw (next, c.replica_of.ensures, ← set-append_left l.p-items (drop n (replicate 5 zero_replica)) l.p-index p (omega arith))
    (filling_more _ _ _ _ _ l.p-index l.pos _ _ p below l.invariant f.room (replica_whole _ _ _ f.room f.end))

pub returns : goal.returns
returns c = let a = c.args in
    let bs = a.bytes.now in
    let l = c.loop-p in
    let n = byte_at bs 2 in
    rw c.zero-replicas.ensures
    (filling_whole _ _ _ _ _ c.requires.at_value l.p-index l.pos _
    (omega (arith, c.requires.bytes_bound, length-take n (replicate 5 c.zero-replicas.result))) l.invariant)
