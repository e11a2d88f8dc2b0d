-- The image of a state, and what writing it answers. "State image: mark 4B 53, then R, L, M, X, next epoch, next id, quorum
-- leader, quorum ISR; per request leader, ISR; per replica hw, epoch, leader, ISR, end, then (id, epoch) per record. One byte
-- each; an ISR has bit i for replica i; none and -1 are 255." Assumes nothing.
use Rattle.std.specs.Prelude.{ℕ, List, [], ◌∷◌, ◌++◌, ltb, length, drop}
use Rattle.logic.specs.Refuse.{refuse, first_refusal, by_refusal}
use Rattle.logic.specs.Concat.{concat_below}
use Rattle.parts.specs.Refusal.{accepted, buffer_short}
use Rattle.parts.specs.Leader.{leader_byte}
use Rattle.parts.specs.Mark.{mark_first}
use Rattle.replica.specs.declared.Replica.{Replica}
use Rattle.replica.specs.ReplicaBytes.{record_bytes_at, replica_head_by}
use Rattle.cluster.specs.declared.Request.{Request}
use Rattle.cluster.specs.declared.State.{State}
use Rattle.cluster.specs.State.{replica_count_of, log_size_of, max_records_of, max_leader_epoch_of, next_leader_epoch_of, next_record_id_of, request_at, replica_at}
use Rattle.cluster.specs.Rules.{state_refusal}
use Rattle.images.specs.Answer.{Written}

-- ---- the second byte of the mark, 4B 53
abbrev pub mark_second : ℕ
mark_second = 83

-- ---- how many bytes the first part and a request have
abbrev pub header_width : ℕ
header_width = 10

abbrev pub request_width : ℕ
request_width = 2

-- ---- where in the first part these stand; R, L, M and X stand behind the mark
abbrev pub next_epoch_place : ℕ
next_epoch_place = 6

abbrev pub next_id_place : ℕ
next_id_place = 7

abbrev pub quorum_leader_place : ℕ
quorum_leader_place = 8

abbrev pub quorum_isr_place : ℕ
quorum_isr_place = 9

-- ---- the parts
-- "(id, epoch) per record": the records of a log, up to its end
unfoldable pub log_bytes : Replica → List ℕ
log_bytes p = concat_below p.end (record_bytes_at p)

-- "per request leader, ISR"
abbrev pub request_bytes : Request → List ℕ
request_bytes q = leader_byte q.leader ∷ q.isr ∷ []

-- the request of epoch e
abbrev pub request_bytes_at : State → ℕ → List ℕ
request_bytes_at s e = request_bytes (request_at s e)

unfoldable pub requests_bytes : State → List ℕ
requests_bytes s = concat_below (next_leader_epoch_of s) (request_bytes_at s)

-- "per replica hw, epoch, leader, ISR, end"; then its log
abbrev pub replica_head : Replica → List ℕ
replica_head p = replica_head_by p (leader_byte p.leader)

unfoldable pub replica_bytes : Replica → List ℕ
replica_bytes p = replica_head p ++ log_bytes p

-- the replica named i
abbrev pub replica_bytes_at : State → ℕ → List ℕ
replica_bytes_at s i = replica_bytes (replica_at s i)

unfoldable pub replicas_bytes : State → List ℕ
replicas_bytes s = concat_below (replica_count_of s.limits) (replica_bytes_at s)

-- "mark 4B 53, then R, L, M, X, next epoch, next id, quorum leader, quorum ISR"
abbrev pub header_bytes : State → List ℕ
header_bytes s =
    mark_first
    ∷ mark_second
    ∷ replica_count_of s.limits
    ∷ log_size_of s.limits
    ∷ max_records_of s.limits
    ∷ max_leader_epoch_of s.limits
    ∷ next_leader_epoch_of s
    ∷ next_record_id_of s
    ∷ leader_byte s.quorum.leader
    ∷ s.quorum.isr
    ∷ []

-- ---- the image
unfoldable pub image : State → List ℕ
image s = header_bytes s ++ (requests_bytes s ++ replicas_bytes s)

-- ---- writing into a lent buffer
-- "Writing: bad state" 41 to 47, "in place of 1", "then buffer shorter than the image 24"
unfoldable pub write_refusal : State → List ℕ → ℕ
write_refusal s buffer =
    first_refusal (state_refusal s)
    (refuse (ltb (length buffer) (length (image s))) buffer_short
    accepted)

-- an answer: a number and a length
abbrev pub written : ℕ → ℕ → Written
written number n = record { refusal = number; length = n }

-- "It answers the image's length, 0 when refused."
unfoldable pub write_image : State → List ℕ → Written
write_image s buffer = by_refusal (write_refusal s buffer) (λ n. written n 0) (written accepted (length (image s)))

-- the buffer afterwards: the image at its front, and "bytes beyond the image stay"; "No refusal writes a lent buffer."
unfoldable pub buffer_after : State → List ℕ → List ℕ
buffer_after s buffer = by_refusal (write_refusal s buffer) (λ n. buffer) (image s ++ drop (length (image s)) buffer)
