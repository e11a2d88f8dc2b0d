use Rattle.std.proofs.Common.{◌≡◌, drop}
use Rattle.images.specs.Image.{header_width}
use Rattle.images.specs.Layout.{requests_of}
use Rattle.images.proofs.read.requests_of.Given as goal

abbrev pub invariant-loop-e : goal.invariant-loop-e
invariant-loop-e l = l.requests ≡ requests_of l.e (drop header_width l.bytes)
