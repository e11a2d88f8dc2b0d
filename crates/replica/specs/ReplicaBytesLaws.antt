-- What the bytes of a replica rely on: its epochs and its leader fit in a byte each. Assumes nothing.
use Rattle.std.specs.Prelude.{ℕ, ◌≤◌, ◌<◌, ◌≡◌, refl, ℤ, pos, negsuc}
use Rattle.std.proofs.Common.{arith}
use Rattle.parts.specs.ByteLaws.{SmallEpoch, SmallLeader}
use Rattle.replica.specs.declared.Record.{Record}
use Rattle.replica.specs.declared.Replica.{Replica}
use Rattle.replica.specs.Replica.{record_at}
use Rattle.replica.specs.LogLaws.{InUse}

-- the epoch and the leader of a replica, and the epochs of the first n records of its log, fit
pub record SmallReplica (n : ℕ) (p : Replica) : Type 0 where
  pub epoch : SmallEpoch p.epoch
  pub leader : SmallLeader p.leader
  pub log : (x : ℕ) → x < n → SmallEpoch (record_at p x).epoch

-- the epoch of a record in use fits, where the next epoch is at most 16
pub in_use_small : (next_id next : ℕ) (r : Record) → next ≤ 16 → InUse next_id next r → SmallEpoch r.epoch
in_use_small next_id next r h u = go r.epoch refl
  where
    go : (z : ℤ) → r.epoch ≡ z → SmallEpoch z
    go (pos e) q = omega (arith, u.epoch e q)
    go (negsuc k) q = absurd (u.signed k q)
