-- Equality of states and their tidy form: tidy is equal to the state, tidy twice is tidy once, and two states are equal
-- exactly when their tidy forms are the same. Assumes nothing.
use Rattle.std.specs.Prelude.{ℕ, ◌<◌, ◌≡◌, refl, List, ◌↔◌, ltb}
use Rattle.std.proofs.Common.{sym, ◌∙◌, lt-ltb}
use Rattle.logic.specs.Table.{table, get_d_table, used_cong, cond_true}
use Rattle.replica.specs.declared.Replica.{Replica}
use Rattle.replica.specs.Replica.{zero_replica, no_replica, tidy_replica}
use Rattle.replica.specs.ReplicaLaws.{same_replica_refl, same_replica_sym, same_replica_trans, same_replica_tidy, tidy_replica_same}
use Rattle.cluster.specs.declared.Limits.{Limits}
use Rattle.cluster.specs.declared.Quorum.{Quorum}
use Rattle.cluster.specs.declared.Request.{Request}
use Rattle.cluster.specs.declared.State.{State}
use Rattle.cluster.specs.State.{replica_count_of, next_leader_epoch_of, zero_request, state_of, request_at, replica_at, Same, tidy_request_at, tidy_replica_at, tidy}

-- ---- Same is an equivalence
pub same_refl : (s : State) → Same s s
same_refl s =
    record {
      limits = refl;
      next_epoch = refl;
      next_id = refl;
      quorum = refl;
      requests = λ e h l. refl;
      replicas = λ i h l. same_replica_refl (replica_at s i);
    }

pub same_sym : (s t : State) → Same s t → Same t s
same_sym s t m =
    record {
      limits = sym m.limits;
      next_epoch = sym m.next_epoch;
      next_id = sym m.next_id;
      quorum = sym m.quorum;
      requests = λ e h l. sym (m.requests e h (rw m.next_epoch l));
      replicas = λ i h l. same_replica_sym (replica_at s i) (replica_at t i) (m.replicas i h (rw m.limits l));
    }

pub same_trans : (s t u : State) → Same s t → Same t u → Same s u
same_trans s t u m n =
    record {
      limits = m.limits ∙ n.limits;
      next_epoch = m.next_epoch ∙ n.next_epoch;
      next_id = m.next_id ∙ n.next_id;
      quorum = m.quorum ∙ n.quorum;
      requests = λ e h l. m.requests e h l ∙ n.requests e h (rw m.next_epoch at l);
      replicas = λ i h l. same_replica_trans (replica_at s i) (replica_at t i) (replica_at u i) (m.replicas i h l) (n.replicas i h (rw m.limits at l));
    }

-- ---- what is in use stands in the tidy state as it does in the state
pub tidy_request : (s : State) (e : ℕ) → e < 16 → e < next_leader_epoch_of s → request_at (tidy s) e ≡ request_at s e
unfolding tidy
tidy_request s e h l =
    get_d_table 16 (tidy_request_at s) e zero_request h
    ∙ cond_true (ltb e (next_leader_epoch_of s)) (request_at s e) zero_request (lt-ltb e (next_leader_epoch_of s) l)

pub tidy-replica : (s : State) (i : ℕ) → i < 5 → i < replica_count_of s.limits → replica_at (tidy s) i ≡ tidy_replica (replica_at s i)
unfolding tidy
tidy-replica s i h l =
    get_d_table 5 (tidy_replica_at s) i no_replica h
    ∙ cond_true (ltb i (replica_count_of s.limits)) (tidy_replica (replica_at s i)) zero_replica (lt-ltb i (replica_count_of s.limits) l)

-- ---- the three theorems
-- the tidy state is equal to the state
pub tidy_same : (s : State) → Same (tidy s) s
unfolding tidy
tidy_same s =
    record {
      limits = refl;
      next_epoch = refl;
      next_id = refl;
      quorum = refl;
      requests = tidy_request s;
      replicas = λ i h l. rw (tidy-replica s i h l) (tidy_replica_same (replica_at s i));
    }

-- states of equal fields are equal
pub state_path : {c c' : Limits} {n n' i i' : ℕ} {q q' : Quorum} {rs rs' : List Request} {ps ps' : List Replica}
    → c ≡ c' → n ≡ n' → i ≡ i' → q ≡ q' → rs ≡ rs' → ps ≡ ps' → state_of c n i q rs ps ≡ state_of c' n' i' q' rs' ps'
state_path a b c d e f = cc

same_tidy : (s t : State) → Same s t → tidy s ≡ tidy t
unfolding tidy
same_tidy s t m =
    let requests : table 16 (tidy_request_at s) ≡ table 16 (tidy_request_at t) =
    rw (← m.next_epoch) (used_cong 16 (next_leader_epoch_of s) (request_at s) (request_at t) zero_request m.requests) in
    let replicas : table 5 (tidy_replica_at s) ≡ table 5 (tidy_replica_at t) =
    rw (← m.limits)
    (used_cong 5 (replica_count_of s.limits) (λ i. tidy_replica (replica_at s i)) (λ i. tidy_replica (replica_at t i)) zero_replica
    (λ i h l. same_replica_tidy (replica_at s i) (replica_at t i) (m.replicas i h l))) in
    state_path m.limits m.next_epoch m.next_id m.quorum requests replicas

-- two states are equal exactly when their tidy forms are the same
pub same_iff_tidy : (s t : State) → Same s t ↔ tidy s ≡ tidy t
same_iff_tidy s t = (
  same_tidy s t,
  (λ e. same_trans s (tidy s) t (same_sym (tidy s) s (tidy_same s)) (rw e (tidy_same t))),
)

-- tidy twice is tidy once
pub tidy_twice : (s : State) → tidy (tidy s) ≡ tidy s
tidy_twice s = same_tidy (tidy s) s (tidy_same s)
