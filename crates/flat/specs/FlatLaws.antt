-- Laws of the flat form, for the functions that read and write it. Assumes nothing.
use Rattle.std.specs.Prelude.{ℕ, zero, suc, ◌+◌, ◌-◌, ◌*◌, ◌≡◌, refl, List, length, drop, Some}
use Rattle.std.proofs.Common.{sym, ◌∙◌, ap, arith, length-append, drop-drop}
use Rattle.logic.specs.Concat.{concat_below, concat_width}
use Rattle.replica.specs.declared.Replica.{Replica}
use Rattle.replica.specs.ReplicaBytes.{head_width, log_record_width, record_bytes_at, record_of}
use Rattle.cluster.specs.declared.State.{State}
use Rattle.cluster.specs.State.{replica_at}
use Rattle.flat.specs.Flat.{leader_of_flat, flat_request_at, flat_replica, flat_replica_at, record_of_flat, flat}

-- ---- reading
pub leader_of_some : (b : ℕ) → (b ≡ 0 → ⊥) → Some (b - 1) ≡ leader_of_flat b
unfolding leader_of_flat
leader_of_some zero h = absurd (h refl)
leader_of_some (suc b) h = ap Some (omega arith)

-- the record at offset x of the replica that starts at a place
pub record-at : (bs : List ℕ) (at x : ℕ) → record_of (drop (at + head_width + log_record_width * x) bs) ≡ record_of_flat (drop at bs) x
record-at bs at x =
    let e : at + (head_width + log_record_width * x) ≡ at + head_width + log_record_width * x = omega arith in
    ap record_of (sym (drop-drop (head_width + log_record_width * x) at bs ∙ ap (λ (k : ℕ). drop k bs) e))

-- ---- lengths
pub replica-width : (p : Replica) → length (flat_replica p) ≡ 37
replica-width p = let e = concat_width 2 16 (record_bytes_at p) (λ x l. refl) in omega arith

pub requests_width : (s : State) → length (concat_below 16 (flat_request_at s)) ≡ 32
requests_width s = concat_width 2 16 (flat_request_at s) (λ e l. refl)

pub replicas_width : (s : State) → length (concat_below 5 (flat_replica_at s)) ≡ 185
replicas_width s = concat_width 37 5 (flat_replica_at s) (λ i l. replica-width (replica_at s i))

pub flat-width : (s : State) → length (flat s) ≡ 226
unfolding flat
flat-width s =
    let e = requests_width s in
    let k = replicas_width s in
    let m = length-append (concat_below 16 (flat_request_at s)) (concat_below 5 (flat_replica_at s)) in
    omega arith
