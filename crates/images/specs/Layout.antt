-- An image is read in two steps: whether all its parts are there and nothing is left over, and then the state of parts that are
-- known to be there. Here is what the functions of each step answer; body_of is passed on from Read. Assumes nothing.
use Rattle.std.specs.Prelude.{ℕ, zero, suc, ◌+◌, ◌*◌, List, [], ◌∷◌, drop, set, replicate}
use Rattle.logic.specs.Refuse.{first_refusal}
use Rattle.parts.specs.Refusal.{accepted, left_over}
use Rattle.parts.specs.Mark.{byte_at}
use Rattle.replica.specs.declared.Record.{Record}
use Rattle.replica.specs.declared.Replica.{Replica}
use Rattle.replica.specs.Replica.{zero_record, zero_replica, with_log}
use Rattle.replica.specs.ReplicaBytes.{head_width, log_record_width, record_of, end_place}
use Rattle.cluster.specs.declared.Request.{Request}
use Rattle.cluster.specs.State.{limits_of, replica_count_of, log_size_of, zero_request}
use Rattle.images.specs.Image.{header_width, request_width, next_epoch_place}
use Rattle.images.specs.Read.{Parsed, missing, end_above, parsed, refusal_of, fill, request_of, replica_of_head, read_replica, header_refusal}
pub use Rattle.images.specs.Read.{body_of}

-- ---- the first step: whether the parts are there
-- "a missing part 21 and an end above L" 42 "as met; bytes left over 23"
unfoldable pub whole_refusal : {A : Type 0} → Parsed A → ℕ
whole_refusal {A} missing = refusal_of {A = A} missing
whole_refusal {A} end_above = refusal_of {A = A} end_above
whole_refusal (parsed x (b ∷ bs)) = left_over
whole_refusal (parsed x []) = accepted

-- the replicas, from a place of the image on
abbrev pub replicas_at : List ℕ → ℕ → Parsed (List Replica)
replicas_at bs at = fill (read_replica (log_size_of (limits_of bs))) (replica_count_of (limits_of bs)) (replicate 5 zero_replica) (drop at bs)

-- the refusal by the first ten bytes, and then by the parts behind them
unfoldable pub layout_refusal : List ℕ → ℕ
layout_refusal bs = first_refusal (header_refusal bs) (whole_refusal (body_of bs))

-- ---- the second step: what the parts say
-- part x of parts of w bytes
abbrev pub part_at : {A : Type 0} → ℕ → (List ℕ → A) → List ℕ → ℕ → A
part_at w value bs x = value (drop (w * x) bs)

-- an array with f 0, f 1, .. in its first n places, and behind them what it held
unfoldable pub stored_below : {A : Type 0} → ℕ → (ℕ → A) → List A → List A
stored_below zero f array = array
stored_below (suc n) f array = set (stored_below n f array) n (f n)

-- the first n records, and the first n requests
abbrev pub log_records_of : ℕ → List ℕ → List Record
log_records_of n bs = stored_below n (part_at log_record_width record_of bs) (replicate 16 zero_record)

abbrev pub requests_of : ℕ → List ℕ → List Request
requests_of n bs = stored_below n (part_at request_width request_of bs) (replicate 16 zero_request)

-- a replica has as many bytes as its end says
abbrev pub replica_length : List ℕ → ℕ
replica_length bs = head_width + log_record_width * byte_at bs end_place

-- the replica that these bytes say, with its log
abbrev pub replica_with_log : List ℕ → Replica
replica_with_log bs = with_log (replica_of_head bs) (log_records_of (byte_at bs end_place) (drop head_width bs))

-- where the replicas start
abbrev pub replicas_place : List ℕ → ℕ
replicas_place bs = header_width + request_width * byte_at bs next_epoch_place
