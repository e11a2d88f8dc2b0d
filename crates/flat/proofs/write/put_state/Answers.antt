use Rattle.logic.specs.Stores.{stored_more}
use Rattle.flat.specs.Flat.{flat}
use Rattle.flat.proofs.write.put_state.Goals as goal

pub returns : goal.returns
unfolding flat
returns c = stored_more c.put_header-requests.ensures
    (stored_more c.put_requests-replicas.ensures c.put_replicas.ensures)
