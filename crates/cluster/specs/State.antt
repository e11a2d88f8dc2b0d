-- The state of one partition, its equality, and its tidy form.
-- "Unused room (past a log's end, past R, requests not sent) is no part of a state: equality ignores it, and every state
-- that is worked out or read has zeros there (a zeroed leader is none)." Assumes nothing.
--
--   replica_count_of c, log_size_of c     R and L of a configuration
--   max_records_of c, max_leader_epoch_of c  M and X
--   limits_at at bs, limits_of bs         R, L, M and X as four bytes: from a place on, and behind a mark
--   next_leader_epoch_of s, next_record_id_of s  the next epoch and the next record id
--   zero_request                          a request of zeros: what stands where none was sent
--   request_in requests e, request_at s e the request of epoch e, in an array and in a state
--   replica_in replicas i, replica_at s i the replica named i, in an array and in a state
--   state_of                              the state of its six fields
--   with_requests s l, with_replicas s l  the state with another array
--   with_replica s i p                    the state with p as replica i
--   with_quorum_isr s isr                 the state with another ISR of the quorum
--   with_next_record_id s n               the state with another next record id
--   controller_update_isr s leader isr    the state with a new quorum at the next epoch, its request, and the next epoch raised by 1
--   Same s t                              the two states are equal: unused room does not count
--   tidy_request_at s e, tidy_replica_at s i  a request and a replica of the tidy state
--   tidy s                                the state with zeros in its unused room
--   zero_limits, zero_quorum, zero_state  all zeros
use Rattle.parts.specs.Leader.{Leader}
use Rattle.std.specs.Prelude.{ℕ, ◌+◌, ◌<◌, ◌≡◌, cond, List, ltb, pos, get_or, set, replicate, None}
use Rattle.logic.specs.Table.{table}
use Rattle.parts.specs.Mark.{byte_at, mark_width}
use Rattle.replica.specs.declared.Replica.{Replica}
use Rattle.replica.specs.Replica.{zero_replica, no_replica, tidy_replica, SameReplica}
use Rattle.cluster.specs.declared.Limits.{Limits}
use Rattle.cluster.specs.declared.Quorum.{Quorum}
use Rattle.cluster.specs.declared.Request.{Request}
use Rattle.cluster.specs.declared.State.{State}

-- ---- the fields, by the source's names
-- R: replicas are named 0 to R-1 (Replicas)
abbrev pub replica_count_of : Limits → ℕ
replica_count_of c = c.replica_count

-- L: offsets are 0 to L-1 (LogSize)
abbrev pub log_size_of : Limits → ℕ
log_size_of c = c.log_size

-- M: record ids are 0 to M-1 (MaxRecords)
abbrev pub max_records_of : Limits → ℕ
max_records_of c = c.max_records

-- X: leader epochs are 0 to X (MaxLeaderEpoch)
abbrev pub max_leader_epoch_of : Limits → ℕ
max_leader_epoch_of c = c.max_leader_epoch

-- R, L, M and X: the four bytes from a place on
abbrev pub limits_at : ℕ → List ℕ → Limits
limits_at at bs =
    record {
      replica_count = byte_at bs at;
      log_size = byte_at bs (at + 1);
      max_records = byte_at bs (at + 2);
      max_leader_epoch = byte_at bs (at + 3);
    }

-- those of a configuration or an image stand behind its mark
abbrev pub limits_of : List ℕ → Limits
limits_of bs = limits_at mark_width bs

-- the next epoch: so many epochs are used, and so many requests sent
abbrev pub next_leader_epoch_of : State → ℕ
next_leader_epoch_of s = s.next_leader_epoch

-- the next record id
abbrev pub next_record_id_of : State → ℕ
next_record_id_of s = s.next_record_id

-- ---- what stands in a place of an array
abbrev pub zero_request : Request
zero_request = record { leader = None; isr = 0 }

abbrev pub request_in : List Request → ℕ → Request
request_in requests e = get_or requests e zero_request

abbrev pub replica_in : List Replica → ℕ → Replica
replica_in replicas i = get_or replicas i no_replica

-- the request of epoch e
abbrev pub request_at : State → ℕ → Request
request_at s e = request_in s.requests e

-- the replica named i
abbrev pub replica_at : State → ℕ → Replica
replica_at s i = replica_in s.replicas i

-- ---- the state of these fields, and the state with another array of requests, or of replicas
abbrev pub state_of : Limits → ℕ → ℕ → Quorum → List Request → List Replica → State
state_of limits next_epoch next_id quorum requests replicas =
    record {
      limits = limits;
      next_leader_epoch = next_epoch;
      next_record_id = next_id;
      quorum = quorum;
      requests = requests;
      replicas = replicas;
    }

abbrev pub with_requests : State → List Request → State
with_requests s l = state_of s.limits (next_leader_epoch_of s) (next_record_id_of s) s.quorum l s.replicas

abbrev pub with_replicas : State → List Replica → State
with_replicas s l = state_of s.limits (next_leader_epoch_of s) (next_record_id_of s) s.quorum s.requests l

-- ---- the state with one part put anew; an action's effect is made of these alone
unfoldable pub with_replica : State → ℕ → Replica → State
with_replica s i p = with_replicas s (set s.replicas i p)

unfoldable pub with_quorum_isr : State → ℕ → State
with_quorum_isr s isr =
    state_of s.limits (next_leader_epoch_of s) (next_record_id_of s)
    (record { epoch = s.quorum.epoch; leader = s.quorum.leader; isr = isr })
    s.requests s.replicas

unfoldable pub with_next_record_id : State → ℕ → State
with_next_record_id s n = state_of s.limits (next_leader_epoch_of s) n s.quorum s.requests s.replicas

-- ControllerUpdateIsr(newLeader, newIsr): "Kinds 0 and 1 set the quorum epoch to next epoch, raise it, and store the new
-- quorum as that epoch's request."
unfoldable pub controller_update_isr : State → Leader → ℕ → State
controller_update_isr s newLeader newIsr =
    state_of s.limits (next_leader_epoch_of s + 1) (next_record_id_of s)
    (record { epoch = pos (next_leader_epoch_of s); leader = newLeader; isr = newIsr })
    (set s.requests (next_leader_epoch_of s) (record { leader = newLeader; isr = newIsr }))
    s.replicas

-- ---- equality of states
-- two states are equal: all that they hold is, and nothing in unused room counts. There are 16 places for requests and 5
-- for replicas; a place past them is no part of a state, whatever next epoch or R a broken state claims.
pub record Same (s t : State) : Type 0 where
  pub limits : s.limits ≡ t.limits
  pub next_epoch : next_leader_epoch_of s ≡ next_leader_epoch_of t
  pub next_id : next_record_id_of s ≡ next_record_id_of t
  pub quorum : s.quorum ≡ t.quorum
  pub requests : (e : ℕ) → e < 16 → e < next_leader_epoch_of s → request_at s e ≡ request_at t e
  pub replicas : (i : ℕ) → i < 5 → i < replica_count_of s.limits → SameReplica (replica_at s i) (replica_at t i)

-- ---- tidy
-- the request of epoch e, or zeros where it was not sent
abbrev pub tidy_request_at : State → ℕ → Request
tidy_request_at s e = cond (ltb e (next_leader_epoch_of s)) (request_at s e) zero_request

-- the replica named i with zeros past the end of its log, or zeros where no replica is named i
abbrev pub tidy_replica_at : State → ℕ → Replica
tidy_replica_at s i = cond (ltb i (replica_count_of s.limits)) (tidy_replica (replica_at s i)) zero_replica

-- the state with zeros in its unused room
unfoldable pub tidy : State → State
tidy s = with_replicas (with_requests s (table 16 (tidy_request_at s))) (table 5 (tidy_replica_at s))

-- ---- the all-zero state: R is 0 and the quorum epoch 0
abbrev pub zero_limits : Limits
zero_limits = record { replica_count = 0; log_size = 0; max_records = 0; max_leader_epoch = 0 }

abbrev pub zero_quorum : Quorum
zero_quorum = record { epoch = pos 0; leader = None; isr = 0 }

abbrev pub zero_state : State
zero_state = state_of zero_limits 0 0 zero_quorum (replicate 16 zero_request) (replicate 5 zero_replica)
