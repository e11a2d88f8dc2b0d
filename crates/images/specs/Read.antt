-- What reading an image answers. "Reading: under ten bytes 21; mark 20; R, L, M, X out of range 22; next epoch or next id out
-- of range" 41; "then front to back, a missing part 21 and an end above L" 42 "as met; bytes left over 23; other state rules"
-- 42 to 47. Of document 02 "41 to 47 stand for S1 to S7 in place of 1, in its place in every order". Assumes nothing.
use Rattle.std.specs.Prelude.{ℕ, zero, suc, not, cond, List, [], ◌∷◌, ltb, leb, length, drop, set, replicate}
use Rattle.logic.specs.Refuse.{refuse, by_refusal}
use Rattle.parts.specs.Refusal.{accepted, wrong_mark, too_short, bad_configuration, left_over, breaks_s1, breaks_s2}
use Rattle.parts.specs.Epoch.{epoch_of_byte, last_epoch}
use Rattle.parts.specs.Leader.{leader_of_byte}
use Rattle.parts.specs.Mark.{byte_at, marked}
use Rattle.replica.specs.declared.Record.{Record}
use Rattle.replica.specs.declared.Replica.{Replica}
use Rattle.replica.specs.Replica.{replica_of, zero_record, zero_replica, with_log}
use Rattle.replica.specs.ReplicaBytes.{head_width, log_record_width, record_of}
use Rattle.cluster.specs.declared.Request.{Request}
use Rattle.cluster.specs.declared.State.{State}
use Rattle.cluster.specs.Answer.{Outcome}
use Rattle.cluster.specs.State.{limits_of, replica_count_of, log_size_of, next_leader_epoch_of, zero_request, state_of, with_requests, with_replicas}
use Rattle.cluster.specs.Outcome.{answer, with_zeros}
use Rattle.cluster.specs.Rules.{in_range, rule1, state_refusal}
use Rattle.images.specs.Image.{mark_second, header_width, request_width, next_epoch_place, next_id_place, quorum_leader_place, quorum_isr_place}

-- ---- a part of an image, read off the front of the bytes
-- what a part gives: a value and the bytes behind it; or it is missing, or has an end above L
pub data Parsed (A : Type 0) : Type 0 where
  missing : Parsed A
  end_above : Parsed A
  parsed : A → List ℕ → Parsed A

-- the number of each: "a missing part 21 and an end above L" 42, that of S2
unfoldable pub refusal_of : {A : Type 0} → Parsed A → ℕ
refusal_of missing = too_short
refusal_of end_above = breaks_s2
refusal_of (parsed x rest) = accepted

-- one part, and then what follows it: "as met"
unfoldable pub and_then : {A B : Type 0} → Parsed A → (A → List ℕ → Parsed B) → Parsed B
and_then missing next = missing
and_then end_above next = end_above
and_then (parsed x rest) next = next x rest

-- a part of n bytes, with what they say
unfoldable pub part : {A : Type 0} → ℕ → (List ℕ → A) → List ℕ → Parsed A
part n value bs = cond (leb n (length bs)) (parsed (value bs) (drop n bs)) missing

-- n parts one after the other, stored in an array from its front on
unfoldable pub fill : {A : Type 0} → (List ℕ → Parsed A) → ℕ → List A → List ℕ → Parsed (List A)
fill read zero array bs = parsed array bs
fill read (suc n) array bs =
    and_then (fill read n array bs) (λ l rest. and_then (read rest) (λ x left. parsed (set l n x) left))

-- the same, with the array put where it belongs
unfoldable pub fill_in : {A B : Type 0} → (List A → B) → (List ℕ → Parsed A) → ℕ → List A → List ℕ → Parsed B
fill_in put read n array bs = and_then (fill read n array bs) (λ l rest. parsed (put l) rest)

-- ---- the parts of an image, each as it is written
-- "(id, epoch) per record"
abbrev pub read_record : List ℕ → Parsed Record
read_record bs = part log_record_width record_of bs

-- "per request leader, ISR"
abbrev pub request_of : List ℕ → Request
request_of bs = record { leader = leader_of_byte (byte_at bs 0); isr = byte_at bs 1 }

abbrev pub read_request : List ℕ → Parsed Request
read_request bs = part request_width request_of bs

-- "per replica hw, epoch, leader, ISR, end", with zeros in its log as yet
abbrev pub replica_of_head : List ℕ → Replica
replica_of_head bs =
    replica_of (byte_at bs 0) (epoch_of_byte (byte_at bs 1)) (leader_of_byte (byte_at bs 2)) (byte_at bs 3) (byte_at bs 4) (replicate 16 zero_record)

-- the records up to the replica's end
unfoldable pub read_log : Replica → List ℕ → Parsed Replica
read_log p bs = fill_in (with_log p) read_record p.end p.log bs

-- the same, where that end is at most L
unfoldable pub read_log_within : ℕ → Replica → List ℕ → Parsed Replica
read_log_within l p bs = cond (leb p.end l) (read_log p bs) end_above

unfoldable pub read_replica : ℕ → List ℕ → Parsed Replica
read_replica l bs = and_then (part head_width replica_of_head bs) (read_log_within l)

-- the requests, one for each epoch below the next one
unfoldable pub read_requests : State → List ℕ → Parsed State
read_requests s bs = fill_in (with_requests s) read_request (next_leader_epoch_of s) s.requests bs

-- the replicas 0 to R-1
unfoldable pub read_replicas : State → List ℕ → Parsed State
read_replicas s bs = fill_in (with_replicas s) (read_replica (log_size_of s.limits)) (replica_count_of s.limits) s.replicas bs

-- ---- the first ten bytes: mark, R, L, M, X, next epoch, next id, quorum leader, quorum ISR
-- the state that they give, with zeros for requests and replicas; its quorum epoch is next epoch minus 1
unfoldable pub header_state : List ℕ → State
header_state bs =
    state_of (limits_of bs) (byte_at bs next_epoch_place) (byte_at bs next_id_place)
    (record { epoch = last_epoch (byte_at bs next_epoch_place); leader = leader_of_byte (byte_at bs quorum_leader_place); isr = byte_at bs quorum_isr_place })
    (replicate 16 zero_request) (replicate 5 zero_replica)

-- "under ten bytes 21; mark 20; R, L, M, X out of range 22; next epoch or next id out of range" 41: with R, L, M, X in range
-- that is S1
unfoldable pub header_refusal : List ℕ → ℕ
header_refusal bs =
    refuse (ltb (length bs) header_width) too_short
    (refuse (not (marked mark_second bs)) wrong_mark
    (refuse (not (in_range (limits_of bs))) bad_configuration
    (refuse (not (rule1 (limits_of bs) (byte_at bs next_epoch_place) (byte_at bs next_id_place))) breaks_s1
    accepted)))

-- ---- the whole
-- "bytes left over 23; other state rules" by the first that is broken, 42 to 47: the first ten bytes have met S1
unfoldable pub finished : Parsed State → Outcome
finished missing = with_zeros (refusal_of {A = State} missing)
finished end_above = with_zeros (refusal_of {A = State} end_above)
finished (parsed s (b ∷ bs)) = with_zeros left_over
finished (parsed s []) = by_refusal (state_refusal s) with_zeros (answer accepted s)

-- what follows the first ten bytes, front to back: the requests and the replicas
abbrev pub body_of : List ℕ → Parsed State
body_of bs = and_then (read_requests (header_state bs) (drop header_width bs)) read_replicas

unfoldable pub read_body : List ℕ → Outcome
read_body bs = finished (body_of bs)

-- "a refused read .. gives an all-zero state"
unfoldable pub read_image : List ℕ → Outcome
read_image bs = by_refusal (header_refusal bs) with_zeros (read_body bs)
