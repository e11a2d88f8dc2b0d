-- What TypeOk says of the meaning of a state, in the words of the state rules, and that S1 to S7 give it. Assumes nothing.
--
--   leader_opt_iff              ReplicaOpt holds of a leader exactly where it is none or below R
--   Ranged c epoch leader isr   an epoch from -1 to X, a leader that is none or below R, an ISR with all members below R
--   TypeOkSays s                what TypeOk says of the state s, field by field
--   type_ok_iff                 where M is at least 1, TypeOk holds of the meaning of a state exactly where TypeOkSays does
--   rules_type_ok               TypeOk holds of the meaning of every state that meets S1 to S7
--   log_record_ok               each record of a log of such a state is one of LogRecords
--   type_ok_same                TypeOk holds of a state of the model where it holds of an equal one
use Rattle.parts.specs.Leader.{Leader}
use Rattle.std.specs.Prelude.{ℕ, ◌+◌, ◌≤◌, ◌<◌, ◌≡◌, refl, true, ◌↔◌, ◌⊎◌, ℤ, pos, negsuc, None, Some}
use Rattle.std.proofs.Common.{sym, ◌∙◌, ap, inl, inr, arith}
use Rattle.std.proofs.Math.Path.{subst}
use Rattle.std.proofs.Math.Option
use Rattle.std.proofs.Math.Option.{none-ne-some}
use Rattle.std.proofs.Math.Decide.{dec_lt}
use borrow.Author.Tests.{lt-ltb, ltb-true}
use Rattle.parts.specs.Isr.{member}
use Rattle.parts.specs.IsrLaws.{member_within}
use Rattle.parts.specs.EpochLaws.{pos_injective, negsuc_injective, pos_negsuc, last_used, last_low}
use Rattle.parts.specs.LeaderLaws.{none_some, some-injective}
use Rattle.replica.specs.declared.Record.{Record}
use Rattle.replica.specs.declared.Replica.{Replica}
use Rattle.replica.specs.Replica.{record_at}
use Rattle.replica.specs.LogLaws.{InUse}
use Rattle.cluster.specs.declared.Limits.{Limits}
use Rattle.cluster.specs.declared.State.{State}
use Rattle.cluster.specs.State.{replica_count_of, log_size_of, max_records_of, max_leader_epoch_of, next_leader_epoch_of, next_record_id_of, request_at, replica_at}
use Rattle.cluster.specs.Rules.{rules}
use Rattle.cluster.specs.Predicates.{Named, Has, Rules, rules_iff}
use Rattle.published.specs.KafkaReplication.{Constants, Log, ModelState, SameLog, SameModelState, LogType, LogRecords, LeaderEpochSeq·IdSet, LeaderEpochOpt, ReplicaOpt, QuorumState, ReplicaState, TypeOk}
use Rattle.published.specs.Meaning.{constants_of, leader_of, record_meaning, local_state_of, leader_and_isr_of, request_sent, meaning}

-- ---- leaders, epochs and records, each way
module _ (c : Limits) where
  abbrev k : Constants
  k = constants_of c

  -- a leader is None, or a replica, exactly where it is none or below R
  pub leader_opt_iff : (leader : Leader) → ReplicaOpt k (leader_of leader) ↔ ((b : ℕ) → leader ≡ Some b → b < replica_count_of c)
  leader_opt_iff None = ((λ t b q. absurd (none_some b q)), (λ f. inl refl))
  leader_opt_iff (Some a) = (
    (λ t b q. elim t [
      | inl n ↦ absurd (none-ne-some a (sym n))
      | inr o ↦
          let l : o.0 < replica_count_of c = ltb-true o.0 (replica_count_of c) o.2 in
          omega (arith, l, Option.some-injective a o.0 o.1, some-injective a b q)
    ]),
    (λ f. inr (a, refl, lt-ltb a (replica_count_of c) (f a refl))),
  )

  -- an epoch is of IdSet exactly where it is from 0 to X
  epoch_id_iff : (epoch : ℤ) → ((e : ℕ) × (epoch ≡ pos e) × LeaderEpochSeq·IdSet k e)
      ↔ ((e : ℕ) → epoch ≡ pos e → e < max_leader_epoch_of c + 1) × ((n : ℕ) → epoch ≡ negsuc n → ⊥)
  epoch_id_iff (pos a) = (
    (λ t. ((λ e q. omega (arith, t.2, pos_injective a t.0 t.1, pos_injective a e q)), (λ n q. pos_negsuc a n q))),
    (λ f. (a, refl, (let l = f.0 a refl in omega (arith, l)))),
  )
  epoch_id_iff (negsuc n) = ((λ t. absurd (pos_negsuc t.0 n (sym t.1))), (λ f. absurd (f.1 n refl)))

  -- it is Nil or of IdSet exactly where it is from -1 to X
  epoch_opt_iff : (epoch : ℤ)
      → LeaderEpochOpt k epoch ↔ ((e : ℕ) → epoch ≡ pos e → e < max_leader_epoch_of c + 1) × ((n : ℕ) → epoch ≡ negsuc n → n ≡ 0)
  epoch_opt_iff (pos a) = (
    (λ t. elim t [
      | inl z ↦ absurd (pos_negsuc a 0 z)
      | inr o ↦ (((epoch_id_iff (pos a)).0 o).0, (λ n q. absurd (pos_negsuc a n q)))
    ]),
    (λ f. inr ((epoch_id_iff (pos a)).1 (f.0, λ n q. pos_negsuc a n q))),
  )
  epoch_opt_iff (negsuc a) = (
    (λ t. elim t [
      | inl z ↦ ((λ e q. absurd (pos_negsuc e a (sym q))), (λ n q. negsuc_injective n 0 (sym q ∙ z)))
      | inr o ↦ absurd (pos_negsuc o.0 a (sym o.1))
    ]),
    (λ f. inl (ap negsuc (f.1 a refl))),
  )

  -- a record is of LogRecords exactly where its id is below M and its epoch from 0 to X
  record_iff : (r : Record) → 1 ≤ max_records_of c → LogRecords k (record_meaning r) ↔ InUse (max_records_of c) (max_leader_epoch_of c + 1) r
  record_iff r some_id = (
    (λ t.
        let e = (epoch_id_iff r.epoch).0 t.epoch in
        record { id = omega (arith, t.id, some_id); epoch = e.0; signed = e.1 }),
    (λ t. record { id = omega (arith, t.id); epoch = (epoch_id_iff r.epoch).1 (t.epoch, t.signed) }),
  )

  -- ---- an epoch, a leader and an ISR: the epoch is from -1 to X, the leader none or below R, each member below R
  pub record Ranged (epoch : ℤ) (leader : Leader) (isr : ℕ) : Type 0 where
    pub used : (e : ℕ) → epoch ≡ pos e → e < max_leader_epoch_of c + 1
    pub low : (n : ℕ) → epoch ≡ negsuc n → n ≡ 0
    pub below : (b : ℕ) → leader ≡ Some b → b < replica_count_of c
    pub members : (r : ℕ) → member isr r ≡ true → r < replica_count_of c

  quorum_iff : (epoch : ℤ) (leader : Leader) (isr : ℕ) → QuorumState k (leader_and_isr_of epoch leader isr) ↔ Ranged epoch leader isr
  quorum_iff epoch leader isr = (
    (λ t.
        let e = (epoch_opt_iff epoch).0 t.leaderEpoch in
        record {
          used = e.0;
          low = e.1;
          below = (leader_opt_iff leader).0 t.leader;
          members = λ r i. ltb-true r (replica_count_of c) (t.isr r i);
        }),
    (λ t. record {
      leaderEpoch = (epoch_opt_iff epoch).1 (t.used, t.low);
      leader = (leader_opt_iff leader).1 t.below;
      isr = λ r i. lt-ltb r (replica_count_of c) (t.members r i);
    }),
  )

  -- hw is one of the offsets or LogSize: at most LogSize
  hw_iff : (hw : ℕ) → (hw < log_size_of c) ⊎ (hw ≡ log_size_of c) ↔ hw ≤ log_size_of c
  hw_iff hw = (
    (λ t. elim t [ inl l ↦ omega (arith, l) | inr q ↦ omega (arith, q) ]),
    (λ l. elim (dec_lt hw (log_size_of c)) [ yes y ↦ inl y | no n ↦ inr (omega arith) ]),
  )

  replica_iff : (p : Replica) → ReplicaState k (local_state_of p) ↔ (p.hw ≤ log_size_of c) × Ranged p.epoch p.leader p.isr
  replica_iff p =
      let q = quorum_iff p.epoch p.leader p.isr in (
        (λ t. ((hw_iff p.hw).0 t.hw, q.0 (record { leaderEpoch = t.leaderEpoch; leader = t.leader; isr = t.isr }))),
        (λ t.
            let w = q.1 t.1 in
            record { hw = (hw_iff p.hw).1 t.0; leaderEpoch = w.leaderEpoch; leader = w.leader; isr = w.isr }),
      )

-- ---- what TypeOk says of a state: S1, and S2 with ISRs as sets, but for the ranges of R, L, M and X; epochs at most X; hw at most L;
-- ids of records below M, epochs of records from 0 to X
pub record TypeOkSays (s : State) : Type 0 where
  pub epochs : next_leader_epoch_of s ≤ max_leader_epoch_of s.limits + 1
  pub ids : next_record_id_of s ≤ max_records_of s.limits
  pub ends : (i : ℕ) → i < replica_count_of s.limits → (replica_at s i).end ≤ log_size_of s.limits
  pub records : (i x : ℕ) → Has s i x → InUse (max_records_of s.limits) (max_leader_epoch_of s.limits + 1) (record_at (replica_at s i) x)
  pub hws : (i : ℕ) → i < replica_count_of s.limits → (replica_at s i).hw ≤ log_size_of s.limits
  pub replicas : (i : ℕ) → i < replica_count_of s.limits → Ranged s.limits (replica_at s i).epoch (replica_at s i).leader (replica_at s i).isr
  pub quorum : Ranged s.limits s.quorum.epoch s.quorum.leader s.quorum.isr
  pub requests : (e : ℕ) → e < next_leader_epoch_of s → Ranged s.limits (pos e) (request_at s e).leader (request_at s e).isr

module _ (s : State) where
  abbrev c : Limits
  c = s.limits

  abbrev R : ℕ
  R = replica_count_of s.limits

  pub type_ok_iff : 1 ≤ max_records_of s.limits → TypeOk (constants_of s.limits) (meaning s) ↔ TypeOkSays s
  unfolding meaning
  type_ok_iff some_id = (
    (λ t. record {
      epochs = t.leader_epoch_seq;
      ids = omega (arith, t.record_seq, some_id);
      ends = λ i l. (t.replicaLog i (lt-ltb i R l)).end;
      records = λ i x h. (record_iff c (record_at (replica_at s i) x) some_id).0 ((t.replicaLog i (lt-ltb i R h.replica)).entry x h.offset);
      hws = λ i l. ((replica_iff c (replica_at s i)).0 (t.replicaState i (lt-ltb i R l))).0;
      replicas = λ i l. ((replica_iff c (replica_at s i)).0 (t.replicaState i (lt-ltb i R l))).1;
      quorum = (quorum_iff c s.quorum.epoch s.quorum.leader s.quorum.isr).0 t.quorumState;
      requests = λ e l. (quorum_iff c (pos e) (request_at s e).leader (request_at s e).isr).0 (t.leaderAndIsrRequests (request_sent s e) (e, l, refl));
    }),
    (λ t. record {
      leader_epoch_seq = t.epochs;
      record_seq = omega (arith, t.ids, some_id);
      replicaLog = λ i h.
          let l = ltb-true i R h in
          record {
            end = t.ends i l;
            entry = λ x o. (record_iff c (record_at (replica_at s i) x) some_id).1 (t.records i x (record { replica = l; offset = o }));
          };
      replicaState = λ i h. let l = ltb-true i R h in (replica_iff c (replica_at s i)).1 (t.hws i l, t.replicas i l);
      quorumState = (quorum_iff c s.quorum.epoch s.quorum.leader s.quorum.isr).1 t.quorum;
      leaderAndIsrRequests = λ request m.
          subst (QuorumState (constants_of c)) (sym m.2)
          ((quorum_iff c (pos m.0) (request_at s m.0).leader (request_at s m.0).isr).1 (t.requests m.0 m.1));
    }),
  )

  -- ---- the rules give it
  module _ (h : rules s ≡ true) where
    met : Rules s
    met = (rules_iff s).0 h

    -- an epoch below the next one or -1, with a leader and an ISR within the replicas, is in range
    ranged : (epoch : ℤ) (leader : Leader) (isr : ℕ) → ((e : ℕ) → epoch ≡ pos e → e < next_leader_epoch_of s)
        → ((n : ℕ) → epoch ≡ negsuc n → n ≡ 0) → Named R leader isr → Ranged c epoch leader isr
    ranged epoch leader isr used low named =
        record {
          used = λ e q. let l = used e q in omega (arith, l, met.s1.epochs);
          low = low;
          below = named.below;
          members = member_within R isr met.s1.ranges.replicas named.within;
        }

    rules_say : TypeOkSays s
    rules_say =
        record {
          epochs = met.s1.epochs;
          ids = met.s1.ids;
          ends = met.s2.ends;
          records = λ i x o.
              let u = met.s6 i x o in
              record {
                id = omega (arith, u.id, met.s1.ids);
                epoch = λ e q. let l = u.epoch e q in omega (arith, l, met.s1.epochs);
                signed = u.signed;
              };
          hws = λ i l. omega (arith, (met.s5 i l).hw, met.s2.ends i l);
          replicas = λ i l.
              let p = (met.s5 i l).request in
              ranged (replica_at s i).epoch (replica_at s i).leader (replica_at s i).isr (λ e q. (p.used e q).0) p.low (met.s2.replicas i l);
          quorum =
              ranged s.quorum.epoch s.quorum.leader s.quorum.isr
              (λ e q. last_used (next_leader_epoch_of s) e (sym met.s3.epoch ∙ q))
              (λ n q. last_low (next_leader_epoch_of s) n (sym met.s3.epoch ∙ q)) met.s2.quorum;
          requests = λ e l.
              ranged (pos e) (request_at s e).leader (request_at s e).isr (λ i q. rw (pos_injective e i q) at l) (λ n q. absurd (pos_negsuc e n q))
              (met.s2.requests e l);
        }

    pub rules_type_ok : TypeOk (constants_of s.limits) (meaning s)
    rules_type_ok = (type_ok_iff met.s1.ranges.records_low).1 rules_say

    -- each record of a log is one of LogRecords
    pub log_record_ok : (r offset : ℕ) → r < R → offset < (replica_at s r).end → LogRecords (constants_of s.limits) (record_meaning (record_at (replica_at s r) offset))
    log_record_ok r offset l o =
        (record_iff c (record_at (replica_at s r) offset) met.s1.ranges.records_low).1
        (rules_say.records r offset (record { replica = l; offset = o }))

-- ---- of two equal states of the model, TypeOk holds of both or of neither
log_type_same : (k : Constants) (x y : Log) → SameLog x y → LogType k y → LogType k x
log_type_same k x y m t =
    record {
      end = rw m.end t.end;
      entry = λ offset l. rw (m.entry offset l) (t.entry offset (rw m.end at l));
    }

pub type_ok_same : (k : Constants) (u v : ModelState) → SameModelState k u v → TypeOk k v → TypeOk k u
type_ok_same k u v m t =
    record {
      leader_epoch_seq = rw m.nextLeaderEpoch t.leader_epoch_seq;
      record_seq = rw m.nextRecordId t.record_seq;
      replicaLog = λ r i. log_type_same k (u.replicaLog r) (v.replicaLog r) (m.replicaLog r i) (t.replicaLog r i);
      replicaState = λ r i. rw (m.replicaState r i) (t.replicaState r i);
      quorumState = rw m.quorumState t.quorumState;
      leaderAndIsrRequests = λ request h. t.leaderAndIsrRequests request ((m.leaderAndIsrRequests request).0 h);
    }
