use Rattle.logic.specs.Stores.{stored_more}
use Rattle.images.specs.Image.{image, requests_bytes}
use Rattle.images.proofs.write.put_image.Goals as goal

pub returns : goal.returns
unfolding image requests_bytes
returns c = stored_more c.put_header-requests.ensures (stored_more c.put_requests-replicas.ensures c.put_replicas.ensures)
