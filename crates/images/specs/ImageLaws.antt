-- How long an image is: the first part, its requests, and its replicas with their records, each by its width. Assumes nothing.
use Rattle.std.specs.Prelude.{ℕ, ◌+◌, ◌*◌, ◌≤◌, ◌≡◌, refl, true, length}
use Rattle.std.proofs.Common.{sym, ap, arith, length-append}
use Rattle.logic.specs.Concat.{concat_below, concat_none, concat_more, concat_width, concat_most}
use Rattle.replica.specs.declared.Replica.{Replica}
use Rattle.replica.specs.ReplicaBytes.{head_width, log_record_width, record_bytes_at}
use Rattle.cluster.specs.declared.State.{State}
use Rattle.cluster.specs.State.{replica_count_of, next_leader_epoch_of, replica_at}
use Rattle.cluster.specs.Rules.{rules, LogsBounded}
use Rattle.cluster.specs.RuleLaws.{rules_bounded, rules_logs_bounded}
use Rattle.images.specs.Image.{log_bytes, request_bytes_at, requests_bytes, replica_bytes, replica_bytes_at, replicas_bytes, image, header_width, request_width}

-- ---- lengths
log-length : (p : Replica) → length (log_bytes p) ≡ p.end * log_record_width
unfolding log_bytes
log-length p = concat_width log_record_width p.end (record_bytes_at p) (λ x l. refl)

pub replica-length : (p : Replica) → length (replica_bytes p) ≡ head_width + log_record_width * p.end
unfolding replica_bytes
replica-length p = let e = log-length p in omega arith

pub requests-length : (s : State) → length (requests_bytes s) ≡ request_width * next_leader_epoch_of s
unfolding requests_bytes
requests-length s = let e = concat_width request_width (next_leader_epoch_of s) (request_bytes_at s) (λ e l. refl) in omega arith

pub image_length : (s : State) → length (image s) ≡ header_width + request_width * next_leader_epoch_of s + length (replicas_bytes s)
unfolding image
image_length s = let e = requests-length s in let k = length-append (requests_bytes s) (replicas_bytes s) in omega arith

-- how many bytes the first i replicas have: none at the start, and those of replica i with each turn
pub replicas_start : (s : State) → 0 ≡ length (concat_below 0 (replica_bytes_at s))
replicas_start s = ap length (sym (concat_none (replica_bytes_at s)))

pub replicas_more : (s : State) (i sum : ℕ) → sum ≡ length (concat_below i (replica_bytes_at s))
    → sum + head_width + log_record_width * (replica_at s i).end ≡ length (concat_below (i + 1) (replica_bytes_at s))
replicas_more s i sum h =
    let e = replica-length (replica_at s i) in
    let k = length-append (concat_below i (replica_bytes_at s)) (replica_bytes_at s i) in
    let m = ap length (concat_more i (replica_bytes_at s)) in
    omega arith

-- the first i replicas take at most 37 bytes each
pub replicas_most : (s : State) → LogsBounded s → (i : ℕ) → i ≤ replica_count_of s.limits → length (concat_below i (replica_bytes_at s)) ≤ i * 37
replicas_most s b i h =
    concat_most 37 i (replica_bytes_at s)
    (λ j l. let e = replica-length (replica_at s j) in let k = b j (omega arith) in omega arith)

-- "The longest is 227 bytes."
pub image_most : (s : State) → rules s ≡ true → length (image s) ≤ 227
unfolding replicas_bytes
image_most s h =
    let b = rules_bounded s h in
    let l = replicas_most s (rules_logs_bounded s h) (replica_count_of s.limits) (omega arith) in
    let e = image_length s in
    omega (arith, b.replicas, b.requests)
