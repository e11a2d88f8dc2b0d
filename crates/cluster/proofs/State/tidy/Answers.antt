use Rattle.cluster.specs.State.{tidy}
use Rattle.cluster.proofs.State.tidy.Goals as goal

pub returns : goal.returns
unfolding tidy
returns c = rw c.tidy_requests.ensures at c.tidy_replicas.ensures
