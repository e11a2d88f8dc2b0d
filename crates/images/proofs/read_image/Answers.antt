use Rattle.parts.specs.Bytes.{Bytes}
use Rattle.images.proofs.read_image.Lts as place

-- the numbers of a slice are bytes, so the theorems on bytes that are read speak of every slice that this function takes
pub slice-bytes : (claims : place.Claims) (pre : place.Pre-type) (post : place.Post-type) (clauses : place.the-Clauses claims pre post)
    (c : place.After-shared_slice_known claims pre post clauses)
    → Bytes c.args.bytes.now
slice-bytes claims pre post clauses c = record { byte = λ i. (c.shared_slice_known-1.given i).fits }
