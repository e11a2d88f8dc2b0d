use Rattle.std.proofs.Common.{◌≡◌, ◌≤◌, ℕ, List, length, sym, ap, arith}
use Rattle.std.proofs.lemmas.List.{length-take-le}
use Rattle.cluster.specs.declared.State.{State}
use Rattle.images.specs.Answer.{Written}
use Rattle.images.specs.Image.{write_image, buffer_after}
use Rattle.images.specs.WriteLaws.{written_fits}
use Rattle.runcheck.proofs.print.image.Goals as goal

-- the image is within the array
fits : (s : State) (out after : List ℕ) (written : Written) → written ≡ write_image s out → after ≡ buffer_after s out → written.length ≤ length after
fits s out after written w b =
    let f = written_fits s out in
    omega (arith, f.0, f.1, ap (λ (v : Written). v.length) w, ap length b)

pub slice_bounds-space-end : goal.slice_bounds-space-end
slice_bounds-space-end g c = fits _ _ _ _ c.in-Ok.ensures.0 c.in-Ok.ensures.1

pub slice_bounds-hex-end : goal.slice_bounds-hex-end
slice_bounds-hex-end g c = sym (length-take-le _ _ (fits _ _ _ _ c.in-Ok.ensures.0 c.in-Ok.ensures.1))
