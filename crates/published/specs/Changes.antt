-- What an action's change to a state means: a replica replaced, and with it the next id and the quorum; or a quorum at the next
-- epoch, and its request. Assumes nothing.
--
--   except_same, except_other       a function changed at a: its value at a, and elsewhere
--   Becomes u a p logs states       these logs and local states are those of u but at a, where they are those of the replica p
--   with_changes u logs states n q  u with these logs and local states, the next id n and the quorum q
--   put_iff                         v is u so changed exactly where it is the meaning of s with replica a, the next id and the
--                                   quorum replaced
--   put_only_iff                    the same where the next id and the quorum stay
--   controller_iff                  the same of a new quorum at the next epoch, added to the requests
use Rattle.parts.specs.Leader.{Leader}
use Rattle.std.specs.Prelude.{ℕ, ◌+◌, ◌<◌, ◌≡◌, refl, ◌↔◌, eqb, pos, set}
use Rattle.std.proofs.Math.Path.{sym, ap}
use Rattle.std.proofs.Common.{◌∙◌}
use Rattle.std.proofs.Math.Logic.{inl, inr}
use native.Mathlib.Omega.{arith}
use Rattle.std.proofs.Math.Decide.{ℕ_discrete}
use Rattle.std.proofs.Math.ListN.{length}
use borrow.Author.Tests.{ltb-true, eq-eqb, ne_eqb}
use Rattle.logic.specs.Lists.{each_set}
use Rattle.logic.specs.Table.{cond_true, cond_false}
use Rattle.replica.specs.declared.Replica.{Replica}
use Rattle.replica.specs.Replica.{no_replica}
use Rattle.cluster.specs.declared.Limits.{Limits}
use Rattle.cluster.specs.declared.Quorum.{Quorum}
use Rattle.cluster.specs.declared.State.{State}
use Rattle.cluster.specs.State.{replica_count_of, next_leader_epoch_of, next_record_id_of, state_of, with_replica, controller_update_isr}
use Rattle.cluster.specs.Accepted.{EpochLeft}
use Rattle.actions.specs.Sound.{Sound}
use Rattle.actions.specs.Request.{request_old, request_new}
use Rattle.published.specs.KafkaReplication.{except, Log, LocalState, LeaderAndIsr, requests_plus, ModelState, SameLog, SameModelState}
use Rattle.published.specs.Meaning.{constants_of, log_of, local_state_of, leader_and_isr_of, quorum_of, request_meaning, request_sent, meaning, Means}
use Rattle.published.specs.Reading.{state-at, log_at}
use Rattle.published.specs.Equality.{same_model_trans, same_model_sym}

-- ---- a function with another value at a
pub except_same : {A : Type 0} (f : ℕ → A) (a : ℕ) (x : A) → except f a x a ≡ x
unfolding except
except_same f a x = cond_true (eqb a a) x (f a) (eq-eqb a a refl)

pub except_other : {A : Type 0} (f : ℕ → A) (a : ℕ) (x : A) (r : ℕ) → (r ≡ a → ⊥) → except f a x r ≡ f r
unfolding except
except_other f a x r h = cond_false (eqb r a) x (f r) (ne_eqb r a h)

-- the state of the model in which the six variables have these values
abbrev model_of : (ℕ → Log) → (ℕ → LocalState) → ℕ → ℕ → (LeaderAndIsr → Type 0) → LeaderAndIsr → ModelState
model_of logs states next_id next_epoch requests quorum =
    record {
      replicaLog = logs;
      replicaState = states;
      nextRecordId = next_id;
      nextLeaderEpoch = next_epoch;
      leaderAndIsrRequests = requests;
      quorumState = quorum;
    }

-- where n is the meaning of t, v is equal to n exactly where v is the meaning of t too
means_iff : (c : Limits) (v n : ModelState) (t : State) → Means c n t → SameModelState (constants_of c) v n ↔ Means c v t
means_iff c v n t h = (
  (λ e. same_model_trans (constants_of c) v n (meaning t) e h),
  (λ e. same_model_trans (constants_of c) v (meaning t) n e (same_model_sym (constants_of c) n (meaning t) h)),
)

-- replica a becomes p: logs and local states are those of u but at a, where they are those of p
pub record Becomes (u : ModelState) (a : ℕ) (p : Replica) (logs : ℕ → Log) (states : ℕ → LocalState) : Type 0 where
  pub own_log : SameLog (logs a) (log_of p)
  pub other_logs : (r : ℕ) → (r ≡ a → ⊥) → logs r ≡ u.replicaLog r
  pub own_state : states a ≡ local_state_of p
  pub other_states : (r : ℕ) → (r ≡ a → ⊥) → states r ≡ u.replicaState r

-- u with these logs, local states, next id and quorum
abbrev pub with_changes : ModelState → (ℕ → Log) → (ℕ → LocalState) → ℕ → LeaderAndIsr → ModelState
with_changes u logs states next_id quorum = model_of logs states next_id u.nextLeaderEpoch u.leaderAndIsrRequests quorum

module _ (s : State) (d : Sound s.limits s) (u : ModelState) (m : Means s.limits u s) where
  -- ---- replica a becomes p
  module _ (a : ℕ) (p : Replica) (logs : ℕ → Log) (states : ℕ → LocalState) where
    -- with another next id and quorum
    abbrev put : ℕ → Quorum → State
    put next_id quorum = state_of s.limits (next_leader_epoch_of s) next_id quorum s.requests (set s.replicas a p)

    pub put_iff : (n next_id : ℕ) (q : LeaderAndIsr) (quorum : Quorum) → n ≡ next_id
        → q ≡ quorum_of quorum → Becomes u a p logs states → (v : ModelState)
        → SameModelState (constants_of s.limits) v (with_changes u logs states n q) ↔ Means s.limits v (put next_id quorum)
    unfolding meaning
    put_iff n next_id q quorum id-is quorum-is b v =
        means_iff s.limits v (with_changes u logs states n q) (put next_id quorum)
        (record {
          replicaLog = λ r h.
              let l : r < replica_count_of s.limits = ltb-true r _ h in
              each_set (λ q i. SameLog (logs i) (log_of q)) s.replicas a p no_replica b.own_log r (room r l)
              (λ n. rw (b.other_logs r n) (log_at s u m r l));
          replicaState = λ r h.
              let l : r < replica_count_of s.limits = ltb-true r _ h in
              each_set (λ q i. states i ≡ local_state_of q) s.replicas a p no_replica b.own_state r (room r l)
              (λ n. b.other_states r n ∙ state-at s u m r l);
          nextRecordId = id-is;
          nextLeaderEpoch = m.nextLeaderEpoch;
          leaderAndIsrRequests = m.leaderAndIsrRequests;
          quorumState = quorum-is;
        })
      where
        room : (r : ℕ) → r < replica_count_of s.limits → r < length s.replicas
        room r l = omega (arith, d.tidy.replicas.room, d.rules.s1.ranges.replicas)

    -- with the next id and the quorum as they were
    pub put_only_iff : Becomes u a p logs states → (v : ModelState)
        → SameModelState (constants_of s.limits) v (with_changes u logs states u.nextRecordId u.quorumState) ↔ Means s.limits v (with_replica s a p)
    unfolding meaning with_replica
    put_only_iff = put_iff u.nextRecordId (next_record_id_of s) u.quorumState s.quorum m.nextRecordId m.quorumState

  -- ---- a quorum at the next epoch, and its request
  module _ (leader : Leader) (isr : ℕ) (left : EpochLeft s) where
    abbrev next : State
    next = controller_update_isr s leader isr

    abbrev new : LeaderAndIsr
    new = leader_and_isr_of (pos (next_leader_epoch_of s)) leader isr

    old_is : (e : ℕ) → e < next_leader_epoch_of s → request_sent next e ≡ request_sent s e
    old_is e l = ap (request_meaning e) (request_old s.limits s d leader isr left e l)

    new_is : request_sent next (next_leader_epoch_of s) ≡ new
    new_is = ap (request_meaning (next_leader_epoch_of s)) (request_new s.limits s d leader isr left)

    -- the requests are those before and the new one
    requests_iff : (request : LeaderAndIsr)
        → requests_plus u.leaderAndIsrRequests new request
        ↔ ((e : ℕ) × (e < next_leader_epoch_of s + 1) × (request ≡ request_sent next e))
    unfolding meaning
    requests_iff request = (
      (λ t. elim t [
        | inl h ↦
            let o = (m.leaderAndIsrRequests request).0 h in
            (o.0, omega (arith, o.1), o.2 ∙ sym (old_is o.0 o.1))
        | inr q ↦ (next_leader_epoch_of s, omega arith, q ∙ sym new_is)
      ]),
      (λ o. elim (ℕ_discrete o.0 (next_leader_epoch_of s)) [
        | yes q ↦ inr (o.2 ∙ ap (request_sent next) q ∙ new_is)
        | no q ↦
            let l : o.0 < next_leader_epoch_of s = omega (arith, o.1) in
            inl ((m.leaderAndIsrRequests request).1 (o.0, l, o.2 ∙ old_is o.0 l))
      ]),
    )

    abbrev changed : ModelState
    changed =
        model_of u.replicaLog u.replicaState u.nextRecordId (u.nextLeaderEpoch + 1)
        (requests_plus u.leaderAndIsrRequests new) new

    controller_means : Means s.limits changed next
    unfolding meaning controller_update_isr
    controller_means =
        record {
          replicaLog = m.replicaLog;
          replicaState = m.replicaState;
          nextRecordId = m.nextRecordId;
          nextLeaderEpoch = ap (λ n. n + 1) m.nextLeaderEpoch;
          leaderAndIsrRequests = requests_iff;
          quorumState = refl;
        }

    pub controller_iff : (v : ModelState) → SameModelState (constants_of s.limits) v changed ↔ Means s.limits v next
    controller_iff v = means_iff s.limits v changed next controller_means
