-- The arrays of a state have the lengths that its type says. Every State value that code holds is so (proofs/Owned.antt);
-- a list of the logic could have any length. Assumes nothing.
use Rattle.std.specs.Prelude.{ℕ, ◌<◌, ◌≡◌, length}
use Rattle.cluster.specs.declared.State.{State}
use Rattle.cluster.specs.State.{replica_at}

pub record Shaped (s : State) : Type 0 where
  pub requests : length s.requests ≡ 16
  pub replicas : length s.replicas ≡ 5
  pub logs : (i : ℕ) → i < 5 → length (replica_at s i).log ≡ 16
