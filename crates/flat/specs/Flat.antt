-- The flat form of a state, in which it crosses the C interface: 226 bytes, laid out as interface/replay.h says. First R, L, M, X,
-- next epoch, next id, quorum epoch, quorum leader and quorum ISR; then 16 requests, each a leader and an ISR; then 5 replicas, each
-- hw, epoch, leader, ISR, end and 16 records of id and epoch. The epochs of the quorum, the replicas and the records are two's
-- complement bytes, and the next epoch is unsigned. A leader is 0 for none and i + 1 for replica i. Unused room is part of it.
-- Assumes nothing.
use Rattle.parts.specs.Leader.{Leader}
use Rattle.std.specs.Prelude.{ℕ, zero, suc, ◌+◌, ◌*◌, cond, List, [], ◌∷◌, ◌++◌, ltb, drop, None, Some}
use Rattle.logic.specs.Table.{table}
use Rattle.logic.specs.Concat.{concat_below}
use Rattle.parts.specs.Epoch.{epoch_byte, epoch_of_byte}
use Rattle.parts.specs.Mark.{byte_at}
use Rattle.replica.specs.declared.Record.{Record}
use Rattle.replica.specs.declared.Replica.{Replica}
use Rattle.replica.specs.Replica.{replica_of}
use Rattle.replica.specs.ReplicaBytes.{head_width, log_record_width, record_bytes_at, replica_head_by, record_of, end_place}
use Rattle.cluster.specs.declared.Quorum.{Quorum}
use Rattle.cluster.specs.declared.Request.{Request}
use Rattle.cluster.specs.declared.State.{State}
use Rattle.cluster.specs.State.{limits_at, replica_count_of, log_size_of, max_records_of, max_leader_epoch_of, next_leader_epoch_of, next_record_id_of, request_at, replica_at, state_of}

-- ---- how many bytes the state, its first part, a request, and a replica have
abbrev pub flat_width : ℕ
flat_width = 226

abbrev pub flat_header_width : ℕ
flat_header_width = 9

abbrev pub request_width : ℕ
request_width = 2

abbrev pub replica_width : ℕ
replica_width = 37

-- where the replicas start: behind the first part and 16 requests
abbrev pub flat_replicas_place : ℕ
flat_replicas_place = 41

-- where in the first part these stand
abbrev pub flat_limits_place : ℕ
flat_limits_place = 0

abbrev pub flat_next_epoch_place : ℕ
flat_next_epoch_place = 4

abbrev pub flat_next_id_place : ℕ
flat_next_id_place = 5

abbrev pub flat_quorum_epoch_place : ℕ
flat_quorum_epoch_place = 6

abbrev pub flat_quorum_leader_place : ℕ
flat_quorum_leader_place = 7

abbrev pub flat_quorum_isr_place : ℕ
flat_quorum_isr_place = 8

-- ---- leaders
-- the byte of a leader: 0 for none, and i + 1 for replica i. Replica 255 has no byte, and no state that is read or answered names
-- it; it is written as none.
unfoldable pub flat_leader : Leader → ℕ
flat_leader None = 0
flat_leader (Some i) = cond (ltb i 255) (i + 1) 0

-- the leader of a byte: none for 0, and replica b - 1 for any other byte b
unfoldable pub leader_of_flat : ℕ → Leader
leader_of_flat zero = None
leader_of_flat (suc i) = Some i

-- ---- the bytes of a state
-- a request: leader, ISR
abbrev pub flat_request : Request → List ℕ
flat_request q = flat_leader q.leader ∷ q.isr ∷ []

-- the request of epoch e
abbrev pub flat_request_at : State → ℕ → List ℕ
flat_request_at s e = flat_request (request_at s e)

-- a replica: hw, epoch, leader, ISR, end, and id and epoch of all 16 records
abbrev pub flat_replica : Replica → List ℕ
flat_replica p = replica_head_by p (flat_leader p.leader) ++ concat_below 16 (record_bytes_at p)

-- the replica named i
abbrev pub flat_replica_at : State → ℕ → List ℕ
flat_replica_at s i = flat_replica (replica_at s i)

-- the first part: R, L, M, X, next epoch, next id, quorum epoch, quorum leader, quorum ISR
abbrev pub flat_header : State → List ℕ
flat_header s =
    replica_count_of s.limits
    ∷ log_size_of s.limits
    ∷ max_records_of s.limits
    ∷ max_leader_epoch_of s.limits
    ∷ next_leader_epoch_of s
    ∷ next_record_id_of s
    ∷ epoch_byte s.quorum.epoch
    ∷ flat_leader s.quorum.leader
    ∷ s.quorum.isr
    ∷ []

unfoldable pub flat : State → List ℕ
flat s = flat_header s ++ (concat_below 16 (flat_request_at s) ++ concat_below 5 (flat_replica_at s))

-- ---- the state of such bytes
abbrev pub request_of_flat : List ℕ → Request
request_of_flat bs = record { leader = leader_of_flat (byte_at bs 0); isr = byte_at bs 1 }

-- the record at offset x, behind the replica's first five bytes
abbrev pub record_of_flat : List ℕ → ℕ → Record
record_of_flat bs x = record_of (drop (head_width + log_record_width * x) bs)

abbrev pub replica_of_flat : List ℕ → Replica
replica_of_flat bs =
    replica_of (byte_at bs 0) (epoch_of_byte (byte_at bs 1)) (leader_of_flat (byte_at bs 2)) (byte_at bs 3) (byte_at bs end_place)
    (table 16 (record_of_flat bs))

abbrev pub quorum_of_flat : List ℕ → Quorum
quorum_of_flat bs =
    record {
      epoch = epoch_of_byte (byte_at bs flat_quorum_epoch_place);
      leader = leader_of_flat (byte_at bs flat_quorum_leader_place);
      isr = byte_at bs flat_quorum_isr_place;
    }

-- the request of epoch e, and the replica named i
abbrev pub request_of_flat_at : List ℕ → ℕ → Request
request_of_flat_at bs e = request_of_flat (drop (flat_header_width + request_width * e) bs)

abbrev pub replica_of_flat_at : List ℕ → ℕ → Replica
replica_of_flat_at bs i = replica_of_flat (drop (flat_replicas_place + replica_width * i) bs)

unfoldable pub state_of_flat : List ℕ → State
state_of_flat bs =
    state_of (limits_at flat_limits_place bs) (byte_at bs flat_next_epoch_place) (byte_at bs flat_next_id_place) (quorum_of_flat bs) (table 16 (request_of_flat_at bs)) (table 5 (replica_of_flat_at bs))
