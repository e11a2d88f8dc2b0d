-- The image that the paper prints: that of the last state of its first run. Assumes nothing.
use Rattle.std.specs.Prelude.{ℕ, ◌≡◌, refl, [], ◌∷◌, pos, replicate, set, Some}
use Rattle.logic.specs.Concat.{concat_below}
use Rattle.parts.specs.Epoch.{epoch_byte}
use Rattle.replica.specs.declared.Replica.{Replica}
use Rattle.replica.specs.Replica.{replica_of, zero_record, zero_replica}
use Rattle.cluster.specs.declared.State.{State}
use Rattle.cluster.specs.State.{state_of, zero_request}
use Rattle.images.specs.Image.{log_bytes, requests_bytes, replica_bytes, replicas_bytes, image}

-- a replica of that state, of epoch 0 and under leader 0
unfoldable pub paper_replica : ℕ → Replica
paper_replica end = replica_of 0 (pos 0) (Some 0) 7 end (replicate 16 zero_record)

-- the last state of example 1
unfoldable pub paper_state : State
paper_state =
    state_of (record { replica_count = 3; log_size = 4; max_records = 4; max_leader_epoch = 3 }) 1 1
    (record { epoch = pos 0; leader = Some 0; isr = 7 })
    (set (replicate 16 zero_request) 0 (record { leader = Some 0; isr = 7 }))
    (paper_replica 1 ∷ paper_replica 1 ∷ paper_replica 0 ∷ zero_replica ∷ zero_replica ∷ [])

-- "4B530304040301010007000700000007010000000000070100000000000700"
pub paper_image : image paper_state
    ≡ 75 ∷ 83 ∷ 3 ∷ 4 ∷ 4 ∷ 3 ∷ 1 ∷ 1 ∷ 0 ∷ 7 ∷ 0 ∷ 7 ∷ 0 ∷ 0 ∷ 0 ∷ 7 ∷ 1 ∷ 0 ∷ 0 ∷ 0 ∷ 0 ∷ 0 ∷ 7 ∷ 1 ∷ 0 ∷ 0 ∷ 0 ∷ 0 ∷ 0 ∷ 7 ∷ 0 ∷ []
unfolding paper_replica paper_state concat_below log_bytes requests_bytes replica_bytes replicas_bytes image epoch_byte
paper_image = refl
