use Rattle.std.proofs.Common.{◌≡◌, refl, sym, ◌∙◌, ap, drop, replicate, ◌*◌}
use Rattle.std.proofs.Math.Seq.{drop-drop}
use Rattle.replica.specs.Replica.{zero_record}
use Rattle.replica.specs.ReplicaBytes.{log_record_width, record_of}
use Rattle.images.specs.Layout.{part_at, stored_below}
use Rattle.images.specs.ReadLaws.{stored_below_more}
use Rattle.images.proofs.read.log_of.Goals as goal

pub loop-x-init : goal.loop-x-init
unfolding stored_below
loop-x-init c = refl

pub loop-x-preserved : goal.loop-x-preserved
loop-x-preserved c = let a = c.args in
    let l = c.loop-x in
    let bs = drop a.at a.bytes.now in
    let r : c.record_of.result ≡ part_at log_record_width record_of bs l.x =
    c.record_of.ensures ∙ ap record_of (sym (drop-drop (log_record_width * l.x) a.at a.bytes.now)) in
    rw (l.invariant, r) (stored_below_more l.x (part_at log_record_width record_of bs) (replicate 16 zero_record))
