-- What a tidy state is, place by place: each of its arrays has zeros behind the places in use. Assumes nothing.
use Rattle.std.specs.Prelude.{ℕ, ◌≡◌, refl, List, ◌↔◌}
use Rattle.std.proofs.Common.{ap}
use Rattle.replica.specs.declared.Record.{Record}
use Rattle.replica.specs.declared.Replica.{Replica}
use Rattle.replica.specs.Replica.{zero_record, zero_replica, no_replica, with_log, tidy_replica}
use Rattle.cluster.specs.declared.Request.{Request}
use Rattle.cluster.specs.declared.State.{State}
use Rattle.cluster.specs.State.{replica_count_of, next_leader_epoch_of, zero_request, tidy}
use Rattle.cluster.specs.Equality.{state_path}
use Rattle.logic.specs.Lists.{TidyList, tidy_list_iff}

-- a log of this end
abbrev pub TidyLog : ℕ → List Record → Type 0
TidyLog end log = TidyList (λ r. r) zero_record zero_record 16 end log

-- the requests below the next epoch
abbrev pub TidyRequests : ℕ → List Request → Type 0
TidyRequests next_epoch requests = TidyList (λ q. q) zero_request zero_request 16 next_epoch requests

-- n replicas
abbrev pub TidyReplicas : ℕ → List Replica → Type 0
TidyReplicas n replicas = TidyList tidy_replica zero_replica no_replica 5 n replicas

pub record Tidy (s : State) : Type 0 where
  pub requests : TidyRequests (next_leader_epoch_of s) s.requests
  pub replicas : TidyReplicas (replica_count_of s.limits) s.replicas

pub tidy_replica_iff : (p : Replica) → tidy_replica p ≡ p ↔ TidyLog p.end p.log
unfolding tidy_replica
tidy_replica_iff p =
    let log = tidy_list_iff (λ r. r) zero_record zero_record 16 p.end p.log in
    ((λ h. log.0 (ap (λ (q : Replica). q.log) h)), (λ t. ap (with_log p) (log.1 t)))

pub tidy_iff : (s : State) → tidy s ≡ s ↔ Tidy s
unfolding tidy
tidy_iff s =
    let requests = tidy_list_iff (λ q. q) zero_request zero_request 16 (next_leader_epoch_of s) s.requests in
    let replicas = tidy_list_iff tidy_replica zero_replica no_replica 5 (replica_count_of s.limits) s.replicas in (
      (λ h. record {
        requests = requests.0 (ap (λ (t : State). t.requests) h);
        replicas = replicas.0 (ap (λ (t : State). t.replicas) h);
      }),
      (λ t. state_path refl refl refl refl (requests.1 t.requests) (replicas.1 t.replicas)),
    )
