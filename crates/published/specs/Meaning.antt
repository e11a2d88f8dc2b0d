-- The meaning of a state in the published model, with the same Replicas, LogSize, MaxRecords and MaxLeaderEpoch.
-- Assumes nothing.
use Rattle.parts.specs.Leader.{Leader}
use Rattle.std.specs.Prelude.{ℕ, ◌<◌, ◌≡◌, ℤ, pos, None, Some}
use Rattle.std.proofs.Math.Option.{Option, none, some}
use Rattle.parts.specs.Isr.{member}
use Rattle.replica.specs.declared.Record.{Record}
use Rattle.replica.specs.declared.Replica.{Replica}
use Rattle.replica.specs.Replica.{record_at}
use Rattle.cluster.specs.declared.Limits.{Limits}
use Rattle.cluster.specs.declared.Quorum.{Quorum}
use Rattle.cluster.specs.declared.Request.{Request}
use Rattle.cluster.specs.declared.State.{State}
use Rattle.cluster.specs.State.{replica_count_of, log_size_of, max_records_of, max_leader_epoch_of, next_leader_epoch_of, next_record_id_of, request_at, replica_at}
use Rattle.published.specs.KafkaReplication.{Constants, LogRecord, Log, LeaderAndIsr, LocalState, ModelState, SameModelState}

-- the constants of a configuration
abbrev pub constants_of : Limits → Constants
constants_of c =
    record { replica_count = replica_count_of c; LogSize = log_size_of c; MaxRecords = max_records_of c; MaxLeaderEpoch = max_leader_epoch_of c }

-- a leader; None of the source is `none`
abbrev pub leader_of : Leader → Option ℕ
leader_of None = none
leader_of (Some b) = some b

abbrev pub record_meaning : Record → LogRecord
record_meaning r = record { id = r.id; epoch = r.epoch }

-- a replica's log: what stands past its end is no part of it
abbrev pub log_of : Replica → Log
log_of p = record { end = p.end; entry = λ offset. record_meaning (record_at p offset) }

-- a replica's local state; an ISR is the set of its members
abbrev pub local_state_of : Replica → LocalState
local_state_of p = record { hw = p.hw; leaderEpoch = p.epoch; leader = leader_of p.leader; isr = member p.isr }

-- an epoch, a leader and an ISR, as the quorum's or a request's
abbrev pub leader_and_isr_of : ℤ → Leader → ℕ → LeaderAndIsr
leader_and_isr_of epoch leader isr = record { leaderEpoch = epoch; leader = leader_of leader; isr = member isr }

abbrev pub quorum_of : Quorum → LeaderAndIsr
quorum_of q = leader_and_isr_of q.epoch q.leader q.isr

abbrev pub request_meaning : ℕ → Request → LeaderAndIsr
request_meaning e q = leader_and_isr_of (pos e) q.leader q.isr

-- the request of epoch e
abbrev pub request_sent : State → ℕ → LeaderAndIsr
request_sent s e = request_meaning e (request_at s e)

-- the meaning of a state; its requests are those of the epochs used
unfoldable pub meaning : State → ModelState
meaning s =
    record {
      replicaLog = λ replica. log_of (replica_at s replica);
      replicaState = λ replica. local_state_of (replica_at s replica);
      nextRecordId = next_record_id_of s;
      nextLeaderEpoch = next_leader_epoch_of s;
      leaderAndIsrRequests = λ request. (e : ℕ) × (e < next_leader_epoch_of s) × (request ≡ request_sent s e);
      quorumState = quorum_of s.quorum;
    }

-- the model's state u is the meaning of s, in a model with the constants of c
abbrev pub Means : Limits → ModelState → State → Type 0
Means c u s = SameModelState (constants_of c) u (meaning s)
