-- A state that meets the rules has one image: reading it back gives the state, and no other bytes do. Assumes nothing.
--
--   record_back .. replica_back         a record, a request and a replica: what is written of each is read back
--   Writable l p                        what this takes from the rules: an end that fits, epochs and leaders that fit in a byte
--   image_bytes                         the image of a state that meets the rules is a list of bytes
--   with_zero_arrays s                  the state that the first ten bytes give: s with zeros for its requests and replicas
--   header_back .. body_back            the first ten bytes, the requests and the replicas of a state are read back
--   read_back                           the image of a state that meets the rules is read as that state, tidy
--   record_faithful .. header_faithful  the bytes that a part is read from are those that are written of it
--   Accepted bs s                       what an accepted reading of bs as s went through
--   read_meets_rules                    what is read meets the rules
--   read_is_image                       bytes that are read are the image of what is read
use Rattle.std.specs.Prelude.{ℕ, ◌^◌, ◌≤◌, ◌<◌, ◌≡◌, refl, Bool, true, false, not, cond, List, [], ◌∷◌, ◌++◌, eqb, leb, ltb, ℤ, pos, negsuc, length, drop, replicate, None, Some}
use Rattle.std.proofs.Common.{sym, ◌∙◌, ap, subst, append-nil, arith, leb-true, le-leb, le-ltb, eqb-true}
use Rattle.logic.specs.Tests.{every_at, and_left, and_right}
use Rattle.logic.specs.Refuse.{refuse_none, by_accepted, by_zero}
use Rattle.logic.specs.Table.{table, table_from, cond_true}
use Rattle.logic.specs.Concat.{concat_below}
use Rattle.parts.specs.Refusal.{accepted, wrong_mark, too_short, bad_configuration, left_over, breaks_s1, breaks_s2}
use Rattle.parts.specs.IsrLaws.{below_32}
use Rattle.parts.specs.Epoch.{epoch_byte, epoch_of_byte, last_epoch}
use Rattle.parts.specs.Leader.{Leader, leader_byte, leader_of_byte}
use Rattle.parts.specs.ByteLaws.{SmallEpoch, SmallLeader, epoch_back, epoch_byte_back, leader_back, leader_byte_back}
use Rattle.parts.specs.Bytes.{Bytes, bytes_none, bytes_more, bytes_append, bytes_concat, bytes_behind, front_and_rest}
use Rattle.parts.specs.Mark.{byte_at, mark_first, marked}
use Rattle.replica.specs.declared.Record.{Record}
use Rattle.replica.specs.declared.Replica.{Replica}
use Rattle.replica.specs.Replica.{replica_of, zero_record, zero_replica, no_replica, record_at, with_log, tidy_record, tidy_replica}
use Rattle.replica.specs.ReplicaBytes.{head_width, log_record_width, record_bytes, record_bytes_at, record_of}
use Rattle.replica.specs.ReplicaBytesLaws.{SmallReplica}
use Rattle.cluster.specs.declared.Request.{Request}
use Rattle.cluster.specs.declared.State.{State}
use Rattle.cluster.specs.Answer.{Outcome}
use Rattle.cluster.specs.State.{replica_count_of, log_size_of, next_leader_epoch_of, next_record_id_of, zero_request, request_at, replica_at, state_of, with_requests, with_replicas, tidy_request_at, tidy_replica_at, tidy}
use Rattle.cluster.specs.Rules.{in_range, rule1_tests, rule1, rule_tests, rules, state_refusal}
use Rattle.cluster.specs.RuleLaws.{rules_bounded, refusal_met, met_refusal}
use Rattle.cluster.specs.Predicates.{Named, rules_iff}
use Rattle.cluster.specs.StateBytes.{named_small, replica_small}
use Rattle.cluster.specs.Unused.{rules_tidy}
use Rattle.cluster.specs.Outcome.{answer, with_zeros}
use Rattle.images.specs.Image.{mark_second, log_bytes, request_bytes, request_bytes_at, requests_bytes, replica_head, replica_bytes, replica_bytes_at, replicas_bytes, header_bytes, image, header_width, request_width}
use Rattle.images.specs.ImageLaws.{image_length}
use Rattle.images.specs.Read.{Parsed, missing, end_above, parsed, and_then, part, fill, fill_in, read_record, request_of, read_request, replica_of_head, read_log, read_log_within, read_replica, read_requests, read_replicas, header_state, header_refusal, finished, body_of, read_body, read_image, refusal_of}
use Rattle.images.specs.ReadLaws.{part_back, then_parsed, then_from, filled_from, HeaderInRange, header_in_range, header_sizes}
use Rattle.images.specs.PartLaws.{part_read_back, fill_back, Faithful, fill_read_back}

-- ---- written, and read back
record_back : (r : Record) (rest : List ℕ) → SmallEpoch r.epoch → read_record (record_bytes r ++ rest) ≡ parsed r rest
record_back r rest h =
    part_back log_record_width record_of (record_bytes r ++ rest) (omega arith)
    ∙ ap (λ (z : ℤ). parsed (record { id = r.id; epoch = z }) rest) (epoch_back r.epoch h)

request_back : (q : Request) (rest : List ℕ) → SmallLeader q.leader → read_request (request_bytes q ++ rest) ≡ parsed q rest
request_back q rest h =
    part_back request_width request_of (request_bytes q ++ rest) (omega arith)
    ∙ ap (λ (l : Leader). parsed (record { leader = l; isr = q.isr }) rest) (leader_back q.leader h)

-- what the rules say of a replica that its bytes rely on
record Writable (l : ℕ) (p : Replica) : Type 0 where
  room : l ≤ 16
  end : p.end ≤ l
  small : SmallReplica p.end p

-- its log is read into an array of zeros
log_back : (l : ℕ) (p : Replica) (rest : List ℕ) → Writable l p
    → read_log (with_log p (replicate 16 zero_record)) (log_bytes p ++ rest) ≡ parsed (tidy_replica p) rest
unfolding read_log fill_in log_bytes tidy_replica
log_back l p rest w =
    then_parsed (fill read_record p.end (replicate 16 zero_record) (concat_below p.end (record_bytes_at p) ++ rest)) (λ l left. parsed (with_log p l) left)
    (table 16 (tidy_record p)) rest
    (fill_back read_record (record_bytes_at p) (record_at p) zero_record 16 p.end (omega (arith, w.end, w.room))
    (λ x k left. record_back (record_at p x) left (w.small.log x k)) rest)

head_back : (p : Replica) (rest : List ℕ) → SmallEpoch p.epoch → SmallLeader p.leader
    → part head_width replica_of_head (replica_head p ++ rest) ≡ parsed (with_log p (replicate 16 zero_record)) rest
head_back p rest h k =
    part_back head_width replica_of_head (replica_head p ++ rest) (omega arith)
    ∙ ap (λ (z : ℤ). parsed (replica_of p.hw z (leader_of_byte (leader_byte p.leader)) p.isr p.end (replicate 16 zero_record)) rest) (epoch_back p.epoch h)
    ∙ ap (λ (l : Leader). parsed (replica_of p.hw p.epoch l p.isr p.end (replicate 16 zero_record)) rest) (leader_back p.leader k)

replica_back : (l : ℕ) (p : Replica) (rest : List ℕ) → Writable l p → read_replica l (replica_bytes p ++ rest) ≡ parsed (tidy_replica p) rest
unfolding read_replica read_log_within replica_bytes
replica_back l p rest w =
    then_parsed (part head_width replica_of_head (replica_head p ++ (log_bytes p ++ rest))) (read_log_within l) (with_log p (replicate 16 zero_record)) (log_bytes p ++ rest)
    (head_back p (log_bytes p ++ rest) w.small.epoch w.small.leader)
    ∙ cond_true (leb p.end l) (read_log (with_log p (replicate 16 zero_record)) (log_bytes p ++ rest)) end_above (le-leb p.end l w.end)
    ∙ log_back l p rest w

-- ---- a state that meets the rules
writable : (s : State) → rules s ≡ true → (i : ℕ) → i < replica_count_of s.limits → Writable (log_size_of s.limits) (replica_at s i)
writable s h i k =
    let r = (rules_iff s).0 h in
    record { room = r.s1.ranges.log; end = r.s2.ends i k; small = replica_small s h i k }

-- ---- its image is bytes
epoch_byte_small : (z : ℤ) → SmallEpoch z → epoch_byte z < 256
unfolding epoch_byte
epoch_byte_small (pos e) h = omega arith
epoch_byte_small (negsuc k) h = omega arith

leader_byte_small : (l : Leader) → SmallLeader l → leader_byte l < 256
leader_byte_small None h = omega arith
leader_byte_small (Some b) h = omega (arith, h b refl)

isr_byte_small : (n isr : ℕ) → n ≤ 5 → isr < 2 ^ n → isr < 256
isr_byte_small n isr h k = omega (arith, below_32 n isr h k)

replica-bytes : (s : State) → rules s ≡ true → (i : ℕ) → i < replica_count_of s.limits → Bytes (replica_bytes_at s i)
unfolding replica_bytes log_bytes
replica-bytes s h i k =
    let r = (rules_iff s).0 h in
    let w = writable s h i k in
    let p = replica_at s i in
    let m = r.s2.replicas i k in
    bytes_append (replica_head p) (log_bytes p)
    (bytes_more _ _ (omega (arith, (r.s5 i k).hw, w.end, w.room))
    (bytes_more _ _ (epoch_byte_small p.epoch w.small.epoch)
    (bytes_more _ _ (leader_byte_small p.leader w.small.leader)
    (bytes_more _ _ (isr_byte_small (replica_count_of s.limits) p.isr r.s1.ranges.replicas m.within)
    (bytes_more _ _ (omega (arith, w.end, w.room)) bytes_none)))))
    (bytes_concat p.end (record_bytes_at p)
    (λ x l.
    bytes_more _ _ (omega (arith, (r.s6 i x (record { replica = k; offset = l })).id, r.s1.ids, r.s1.ranges.records))
    (bytes_more _ _ (epoch_byte_small (record_at p x).epoch (w.small.log x l)) bytes_none)))

pub image_bytes : (s : State) → rules s ≡ true → Bytes (image s)
unfolding image requests_bytes replicas_bytes
image_bytes s h =
    let r = (rules_iff s).0 h in
    let b = rules_bounded s h in
    let leader : (l : Leader) (isr : ℕ) → Named (replica_count_of s.limits) l isr → leader_byte l < 256 =
    (λ l isr m. leader_byte_small l (named_small (replica_count_of s.limits) l isr b.replicas m)) in
    let isr : (l : Leader) (isr : ℕ) → Named (replica_count_of s.limits) l isr → isr < 256 =
    (λ l isr m. isr_byte_small (replica_count_of s.limits) isr b.replicas m.within) in
    bytes_append (header_bytes s) (requests_bytes s ++ replicas_bytes s)
    (bytes_more _ _ (omega arith)
    (bytes_more _ _ (omega arith)
    (bytes_more _ _ (omega (arith, b.replicas))
    (bytes_more _ _ (omega (arith, r.s1.ranges.log))
    (bytes_more _ _ (omega (arith, r.s1.ranges.records))
    (bytes_more _ _ (omega (arith, r.s1.ranges.epochs))
    (bytes_more _ _ (omega (arith, b.requests))
    (bytes_more _ _ (omega (arith, r.s1.ids, r.s1.ranges.records))
    (bytes_more _ _ (leader s.quorum.leader s.quorum.isr r.s2.quorum)
    (bytes_more _ _ (isr s.quorum.leader s.quorum.isr r.s2.quorum) bytes_none))))))))))
    (bytes_append (requests_bytes s) (replicas_bytes s)
    (bytes_concat (next_leader_epoch_of s) (request_bytes_at s)
    (λ e l.
    bytes_more _ _ (leader (request_at s e).leader (request_at s e).isr (r.s2.requests e l))
    (bytes_more _ _ (isr (request_at s e).leader (request_at s e).isr (r.s2.requests e l)) bytes_none)))
    (bytes_concat (replica_count_of s.limits) (replica_bytes_at s) (replica-bytes s h)))

-- ---- what its first ten bytes give
-- the state with zeros for its requests and replicas
with_zero_arrays : State → State
with_zero_arrays s = state_of s.limits (next_leader_epoch_of s) (next_record_id_of s) s.quorum (replicate 16 zero_request) (replicate 5 zero_replica)

header_back : (s : State) → rules s ≡ true → header_state (image s) ≡ with_zero_arrays s
unfolding header_state image with_zero_arrays
header_back s h =
    let r = (rules_iff s).0 h in
    ap (λ (l : Leader). state_of s.limits (next_leader_epoch_of s) (next_record_id_of s) (record { epoch = last_epoch (next_leader_epoch_of s); leader = l; isr = s.quorum.isr }) (replicate 16 zero_request) (replicate 5 zero_replica))
    (leader_back s.quorum.leader (named_small (replica_count_of s.limits) s.quorum.leader s.quorum.isr r.s1.ranges.replicas r.s2.quorum))
    ∙ ap (λ (z : ℤ). state_of s.limits (next_leader_epoch_of s) (next_record_id_of s) (record { epoch = z; leader = s.quorum.leader; isr = s.quorum.isr }) (replicate 16 zero_request) (replicate 5 zero_replica))
    (sym r.s3.epoch)

-- and they are not refused
header_accepted : (s : State) → rules s ≡ true → header_refusal (image s) ≡ accepted
unfolding header_refusal image marked rules rule1
header_accepted s h =
    let tests = every_at (rule_tests s) h in
    let range : in_range s.limits ≡ true = every_at (rule1_tests s.limits (next_leader_epoch_of s) (next_record_id_of s)) (tests 0) 0 in
    refuse_none (ltb (length (image s)) header_width) too_short _ (le-ltb (length (image s)) header_width (omega (arith, image_length s)))
    (refuse_none (not (marked mark_second (image s))) wrong_mark _ refl
    (refuse_none (not (in_range s.limits)) bad_configuration _ (ap not range)
    (refuse_none (not (rule1 s.limits (next_leader_epoch_of s) (next_record_id_of s))) breaks_s1 accepted (ap not (tests 0)) refl)))

requests_back : (s : State) (rest : List ℕ) → rules s ≡ true
    → read_requests (with_zero_arrays s) (requests_bytes s ++ rest) ≡ parsed (with_requests (with_zero_arrays s) (table 16 (tidy_request_at s))) rest
unfolding read_requests fill_in requests_bytes with_zero_arrays
requests_back s rest h =
    let r = (rules_iff s).0 h in
    then_parsed (fill read_request (next_leader_epoch_of s) (replicate 16 zero_request) (concat_below (next_leader_epoch_of s) (request_bytes_at s) ++ rest)) (λ l left. parsed (with_requests (with_zero_arrays s) l) left)
    (table 16 (tidy_request_at s)) rest
    (fill_back read_request (request_bytes_at s) (request_at s) zero_request 16 (next_leader_epoch_of s) (rules_bounded s h).requests
    (λ e k left. request_back (request_at s e) left (named_small (replica_count_of s.limits) (request_at s e).leader (request_at s e).isr r.s1.ranges.replicas (r.s2.requests e k))) rest)

replicas_back : (s : State) (l : List Request) (rest : List ℕ) → rules s ≡ true
    → read_replicas (with_requests (with_zero_arrays s) l) (replicas_bytes s ++ rest) ≡ parsed (with_replicas (with_requests (with_zero_arrays s) l) (table 5 (tidy_replica_at s))) rest
unfolding read_replicas fill_in replicas_bytes with_zero_arrays
replicas_back s l rest h =
    then_parsed (fill (read_replica (log_size_of s.limits)) (replica_count_of s.limits) (replicate 5 zero_replica) (concat_below (replica_count_of s.limits) (replica_bytes_at s) ++ rest))
    (λ ps left. parsed (with_replicas (with_requests (with_zero_arrays s) l) ps) left) (table 5 (tidy_replica_at s)) rest
    (fill_back (read_replica (log_size_of s.limits)) (replica_bytes_at s) (λ i. tidy_replica (replica_at s i)) zero_replica 5 (replica_count_of s.limits) (rules_bounded s h).replicas
    (λ i k left. replica_back (log_size_of s.limits) (replica_at s i) left (writable s h i k)) rest)

body_back : (s : State) → rules s ≡ true → and_then (read_requests (with_zero_arrays s) (requests_bytes s ++ replicas_bytes s)) read_replicas ≡ parsed (tidy s) []
unfolding tidy with_zero_arrays
body_back s h =
    then_parsed (read_requests (with_zero_arrays s) (requests_bytes s ++ replicas_bytes s)) read_replicas (with_requests (with_zero_arrays s) (table 16 (tidy_request_at s))) (replicas_bytes s)
    (requests_back s (replicas_bytes s) h)
    ∙ ap (λ (bs : List ℕ). read_replicas (with_requests (with_zero_arrays s) (table 16 (tidy_request_at s))) bs) (sym (append-nil (replicas_bytes s)))
    ∙ replicas_back s (table 16 (tidy_request_at s)) [] h

-- reading the image of a state that meets the rules gives the state, with zeros in its unused room
pub read_back : (s : State) → rules s ≡ true → read_image (image s) ≡ answer accepted (tidy s)
unfolding read_image read_body finished image
read_back s h =
    sym (by_accepted (header_refusal (image s)) with_zeros (read_body (image s)) (header_accepted s h))
    ∙ ap (λ (t : State). finished (and_then (read_requests t (requests_bytes s ++ replicas_bytes s)) read_replicas)) (header_back s h)
    ∙ ap finished (body_back s h)
    ∙ sym (by_accepted (state_refusal (tidy s)) with_zeros (answer accepted (tidy s)) (met_refusal (tidy s) (rules_tidy s ∙ h)))

-- ---- read, and written again
record_faithful : Faithful read_record record_bytes
unfolding table table_from
record_faithful bs rest x b h =
    let p = part_read_back log_record_width record_of bs rest x h in
    front_and_rest log_record_width bs p.long
    ∙ ap (λ (e : ℕ). byte_at bs 0 ∷ e ∷ drop log_record_width bs) (sym (epoch_byte_back (byte_at bs 1) (b.byte 1)))
    ∙ ap (λ (r : Record). record_bytes r ++ drop log_record_width bs) p.said
    ∙ ap (λ (l : List ℕ). record_bytes x ++ l) p.left

request_faithful : Faithful read_request request_bytes
unfolding table table_from
request_faithful bs rest x b h =
    let p = part_read_back request_width request_of bs rest x h in
    front_and_rest request_width bs p.long
    ∙ ap (λ (l : ℕ). l ∷ byte_at bs 1 ∷ drop request_width bs) (sym (leader_byte_back (byte_at bs 0)))
    ∙ ap (λ (q : Request). request_bytes q ++ drop request_width bs) p.said
    ∙ ap (λ (l : List ℕ). request_bytes x ++ l) p.left

head_faithful : Faithful (part head_width replica_of_head) replica_head
unfolding table table_from
head_faithful bs rest x b h =
    let p = part_read_back head_width replica_of_head bs rest x h in
    front_and_rest head_width bs p.long
    ∙ ap (λ (e : ℕ). byte_at bs 0 ∷ e ∷ byte_at bs 2 ∷ byte_at bs 3 ∷ byte_at bs 4 ∷ drop head_width bs) (sym (epoch_byte_back (byte_at bs 1) (b.byte 1)))
    ∙ ap (λ (l : ℕ). byte_at bs 0 ∷ epoch_byte (epoch_of_byte (byte_at bs 1)) ∷ l ∷ byte_at bs 3 ∷ byte_at bs 4 ∷ drop head_width bs) (sym (leader_byte_back (byte_at bs 2)))
    ∙ ap (λ (p : Replica). replica_head p ++ drop head_width bs) p.said
    ∙ ap (λ (l : List ℕ). replica_head x ++ l) p.left

-- the log of a replica whose array has 16 places
log_faithful : (p x : Replica) (bs rest : List ℕ) → p.end ≤ 16 → length p.log ≡ 16 → Bytes bs → read_log p bs ≡ parsed x rest
    → (replica_head x ≡ replica_head p) × (bs ≡ log_bytes x ++ rest)
unfolding read_log log_bytes
log_faithful p x bs rest h k b e =
    let f = filled_from (with_log p) read_record p.end p.log bs x rest e in
    let r = fill_read_back read_record record_bytes zero_record record_faithful p.end p.log bs rest f.0 (omega arith) b f.1 in
    (ap replica_head (sym f.2), r.bytes ∙ ap (λ (q : Replica). log_bytes q ++ rest) f.2)

within_faithful : (l : ℕ) (p x : Replica) (bs rest : List ℕ) → l ≤ 16 → length p.log ≡ 16 → Bytes bs → read_log_within l p bs ≡ parsed x rest
    → (replica_head x ≡ replica_head p) × (bs ≡ log_bytes x ++ rest)
unfolding read_log_within
within_faithful l p x bs rest h k b = go (leb p.end l) refl
  where
    go : (t : Bool) → leb p.end l ≡ t → cond t (read_log p bs) end_above ≡ parsed x rest → (replica_head x ≡ replica_head p) × (bs ≡ log_bytes x ++ rest)
    go true e q = log_faithful p x bs rest (omega (arith, leb-true p.end l e)) k b q
    go false e q = absurd (let z : ◌≡◌ {A = ℕ} 0 1 = cc in omega arith)

replica_faithful : (l : ℕ) → l ≤ 16 → Faithful (read_replica l) replica_bytes
unfolding read_replica replica_bytes
replica_faithful l h bs rest x b e =
    let f = then_from (part head_width replica_of_head bs) (read_log_within l) x rest e in
    let p = part_read_back head_width replica_of_head bs f.1 f.0 f.2 in
    let first : bs ≡ replica_head f.0 ++ f.1 = head_faithful bs f.1 f.0 b f.2 in
    let room : length f.0.log ≡ 16 = ap (λ (q : Replica). length q.log) (sym p.said) in
    let w = within_faithful l f.0 x f.1 rest h room (bytes_behind (replica_head f.0) f.1 (rw first at b)) f.3 in
    first
    ∙ ap (λ (m : List ℕ). m ++ f.1) (sym w.0)
    ∙ ap (λ (m : List ℕ). replica_head x ++ m) w.1

-- the requests, and then the replicas, of the state that was read
requests_faithful : (s t : State) (bs rest : List ℕ) → next_leader_epoch_of s ≤ 16 → length s.requests ≡ 16 → Bytes bs → read_requests s bs ≡ parsed t rest
    → (with_requests s t.requests ≡ t) × (bs ≡ requests_bytes t ++ rest)
unfolding read_requests requests_bytes
requests_faithful s t bs rest h k b e =
    let f = filled_from (with_requests s) read_request (next_leader_epoch_of s) s.requests bs t rest e in
    let r = fill_read_back read_request request_bytes zero_request request_faithful (next_leader_epoch_of s) s.requests bs rest f.0 (omega arith) b f.1 in
    (ap (λ (u : State). with_requests s u.requests) (sym f.2) ∙ f.2, r.bytes ∙ ap (λ (u : State). requests_bytes u ++ rest) f.2)

replicas_faithful : (s t : State) (bs rest : List ℕ) → replica_count_of s.limits ≤ 5 → log_size_of s.limits ≤ 16 → length s.replicas ≡ 5 → Bytes bs → read_replicas s bs ≡ parsed t rest
    → (with_replicas s t.replicas ≡ t) × (bs ≡ replicas_bytes t ++ rest)
unfolding read_replicas replicas_bytes
replicas_faithful s t bs rest h m k b e =
    let f = filled_from (with_replicas s) (read_replica (log_size_of s.limits)) (replica_count_of s.limits) s.replicas bs t rest e in
    let r =
    fill_read_back (read_replica (log_size_of s.limits)) replica_bytes no_replica (replica_faithful (log_size_of s.limits) m) (replica_count_of s.limits) s.replicas bs rest f.0 (omega arith) b f.1 in
    (ap (λ (u : State). with_replicas s u.replicas) (sym f.2) ∙ f.2, r.bytes ∙ ap (λ (u : State). replicas_bytes u ++ rest) f.2)

-- the first ten bytes
header_faithful : (bs : List ℕ) → HeaderInRange bs → bs ≡ header_bytes (header_state bs) ++ drop header_width bs
unfolding header_state marked table table_from
header_faithful bs h =
    let m0 : byte_at bs 0 ≡ mark_first = eqb-true (byte_at bs 0) mark_first (and_left (eqb (byte_at bs 0) mark_first) (eqb (byte_at bs 1) mark_second) h.mark) in
    let m1 : byte_at bs 1 ≡ mark_second = eqb-true (byte_at bs 1) mark_second (and_right (eqb (byte_at bs 0) mark_first) (eqb (byte_at bs 1) mark_second) h.mark) in
    front_and_rest header_width bs h.long
    ∙ ap (λ (m : ℕ). m ∷ byte_at bs 1 ∷ byte_at bs 2 ∷ byte_at bs 3 ∷ byte_at bs 4 ∷ byte_at bs 5 ∷ byte_at bs 6 ∷ byte_at bs 7 ∷ byte_at bs 8 ∷ byte_at bs 9 ∷ drop header_width bs) m0
    ∙ ap (λ (m : ℕ). mark_first ∷ m ∷ byte_at bs 2 ∷ byte_at bs 3 ∷ byte_at bs 4 ∷ byte_at bs 5 ∷ byte_at bs 6 ∷ byte_at bs 7 ∷ byte_at bs 8 ∷ byte_at bs 9 ∷ drop header_width bs) m1
    ∙ ap (λ (l : ℕ). mark_first ∷ mark_second ∷ byte_at bs 2 ∷ byte_at bs 3 ∷ byte_at bs 4 ∷ byte_at bs 5 ∷ byte_at bs 6 ∷ byte_at bs 7 ∷ l ∷ byte_at bs 9 ∷ drop header_width bs)
    (sym (leader_byte_back (byte_at bs 8)))

-- what was read whole is a state that meets the rules, with nothing left over
finished_accepted : (m : Parsed State) (s : State) → finished m ≡ answer accepted s → (m ≡ parsed s []) × (rules s ≡ true)
unfolding finished refusal_of
finished_accepted missing s h = absurd (let z : too_short ≡ accepted = ap (λ (o : Outcome). o.refusal) h in omega arith)
finished_accepted end_above s h = absurd (let z : breaks_s2 ≡ accepted = ap (λ (o : Outcome). o.refusal) h in omega arith)
finished_accepted (parsed t (b ∷ bs)) s h = absurd (let z : left_over ≡ accepted = ap (λ (o : Outcome). o.refusal) h in omega arith)
finished_accepted (parsed t []) s h =
    let p = by_zero (λ (o : Outcome). o.refusal) (state_refusal t) with_zeros (answer accepted t) (λ k. refl) (ap (λ (o : Outcome). o.refusal) h) in
    let own : t ≡ s = ap (λ (o : Outcome). o.state) (sym p.1 ∙ h) in
    (ap (λ (u : State). parsed u []) own, ap rules (sym own) ∙ refusal_met t p.0)

-- an accepted reading went through the whole
record Accepted (bs : List ℕ) (s : State) : Type 0 where
  header : HeaderInRange bs
  body : body_of bs ≡ parsed s []
  meets : rules s ≡ true

accepted_reading : (bs : List ℕ) (s : State) → read_image bs ≡ answer accepted s → Accepted bs s
unfolding read_image read_body
accepted_reading bs s h =
    let p = by_zero (λ (o : Outcome). o.refusal) (header_refusal bs) with_zeros (read_body bs) (λ k. refl) (ap (λ (o : Outcome). o.refusal) h) in
    let f = finished_accepted (body_of bs) s (sym p.1 ∙ h) in
    record { header = header_in_range bs p.0; body = f.0; meets = f.1 }

same_requests : (t s : State) → with_replicas t s.replicas ≡ s → requests_bytes t ≡ requests_bytes s
unfolding requests_bytes
same_requests t s e = ap (λ (u : State). requests_bytes u) e

-- ---- the theorems
-- what is read meets the rules
pub read_meets_rules : (bs : List ℕ) (s : State) → read_image bs ≡ answer accepted s → rules s ≡ true
read_meets_rules bs s h = (accepted_reading bs s h).meets

-- bytes that are read are the image of what is read
pub read_is_image : (bs : List ℕ) (s : State) → Bytes bs → read_image bs ≡ answer accepted s → bs ≡ image s
unfolding image header_state
read_is_image bs s b h =
    let a = accepted_reading bs s h in
    let z = header_sizes bs a.header in
    let f = then_from (read_requests (header_state bs) (drop header_width bs)) read_replicas s [] a.body in
    let first : bs ≡ header_bytes (header_state bs) ++ drop header_width bs = header_faithful bs a.header in
    let behind : Bytes (drop header_width bs) = bytes_behind (header_bytes (header_state bs)) (drop header_width bs) (rw first at b) in
    let q = requests_faithful (header_state bs) f.0 (drop header_width bs) f.1 (omega (arith, z.epochs, z.ranges.epochs)) refl behind f.2 in
    let r : (with_replicas f.0 s.replicas ≡ s) × (f.1 ≡ replicas_bytes s ++ []) =
    replicas_faithful f.0 s f.1 [] (subst (λ (u : State). replica_count_of u.limits ≤ 5) q.0 z.ranges.replicas) (subst (λ (u : State). log_size_of u.limits ≤ 16) q.0 z.ranges.log)
    (ap (λ (u : State). length u.replicas) (sym q.0)) (bytes_behind (requests_bytes f.0) f.1 (rw q.1 at behind)) f.3 in
    let whole : with_replicas (with_requests (header_state bs) f.0.requests) s.replicas ≡ s = ap (λ (u : State). with_replicas u s.replicas) q.0 ∙ r.0 in
    let requests : requests_bytes f.0 ≡ requests_bytes s = same_requests f.0 s r.0 in
    first
    ∙ ap (λ (u : State). header_bytes u ++ drop header_width bs) whole
    ∙ ap (λ (l : List ℕ). header_bytes s ++ l) (q.1 ∙ ap (λ (l : List ℕ). l ++ f.1) requests ∙ ap (λ (l : List ℕ). requests_bytes s ++ l) (r.1 ∙ append-nil (replicas_bytes s)))
