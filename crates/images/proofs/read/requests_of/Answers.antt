use Rattle.std.proofs.Common.{◌≡◌, refl, sym, ◌∙◌, ap, drop, replicate, ◌*◌}
use Rattle.std.proofs.Math.Seq.{drop-drop}
use Rattle.cluster.specs.State.{zero_request}
use Rattle.images.specs.Image.{header_width, request_width}
use Rattle.images.specs.Read.{request_of}
use Rattle.images.specs.Layout.{part_at, stored_below}
use Rattle.images.specs.ReadLaws.{stored_below_more}
use Rattle.images.proofs.read.requests_of.Goals as goal

pub loop-e-init : goal.loop-e-init
unfolding stored_below
loop-e-init c = refl

pub loop-e-preserved : goal.loop-e-preserved
loop-e-preserved c = let bs = c.args.bytes.now in
    let l = c.loop-e in
    let r : c.request_of.result ≡ part_at request_width request_of (drop header_width bs) l.e =
    c.request_of.ensures ∙ ap request_of (sym (drop-drop (request_width * l.e) header_width bs)) in
    rw (l.invariant, r) (stored_below_more l.e (part_at request_width request_of (drop header_width bs)) (replicate 16 zero_request))
