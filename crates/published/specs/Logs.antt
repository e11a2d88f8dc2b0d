-- Kinds 4 and 8, LeaderWrite and FollowerReplicate: the source's action with replica a, and in kind 8 also b, as its choices is
-- the engine's. Assumes nothing.
--
--   appended x offset r   the log x of the model with the record r added at its end, `offset`
--   append_log            it is the log of the replica with that record added
--   logs_with r offset    the model's logs with the record r added at the end of a's
--   write_iff             LeaderWrite of a holds exactly where the engine accepts kind 4 and v is the meaning of its next state
--   replicate_iff         the same of FollowerReplicate, with follower a and leader b, and kind 8
use Prim.Native.Nat.{ℕ, ◌+◌, ◌<◌, min}
use Rattle.std.specs.Prelude.{◌≡◌, ◌↔◌, length}
use Rattle.std.proofs.Math.Path.{refl, sym, ap}
use Rattle.std.proofs.Common.{◌∙◌, arith, lt-ltb, ltb-true}
use Rattle.logic.specs.Lists.{each_set}
use Rattle.parts.specs.Refusal.{accepted}
use Rattle.replica.specs.declared.Record.{Record}
use Rattle.replica.specs.declared.Replica.{Replica}
use Rattle.replica.specs.Replica.{zero_record, record_at}
use Rattle.replica.specs.Change.{with_hw, append}
use Rattle.cluster.specs.declared.State.{State}
use Rattle.cluster.specs.State.{replica_count_of, log_size_of, next_record_id_of, replica_at, with_replica, with_next_record_id}
use Rattle.cluster.specs.Actions.{leader_write_refusal, next_record, leader_write, follower_replicate_refusal, follower_replicate}
use Rattle.cluster.specs.Accepted.{write_accepted, replicate_accepted}
use Rattle.actions.specs.Tidy.{tidy_replica_iff}
use Rattle.actions.specs.Sound.{Sound}
use Rattle.published.specs.KafkaReplication.{Constants, ◌is_in◌, Replicas, except, except_hw, LogRecord, Log, LocalState, ModelState, SameLog, SameModelState, followerHw, RecordSeq·IdSet, ReplicaLog·Offsets, LeaderWriteWith, FollowerReplicateWith}
use Rattle.published.specs.Meaning.{constants_of, record_meaning, log_of, local_state_of, meaning, Means}
use Rattle.published.specs.Reading.{state-at, log_at, following_iff, presumes_iff}
use Rattle.published.specs.Changes.{except_same, except_other, with_changes, Becomes, put_iff, put_only_iff}

-- a log with a record more at its end
abbrev appended : Log → ℕ → LogRecord → Log
appended x offset r = record { end = offset + 1; entry = except x.entry offset r }

-- a record more at the end of a log of the model is a record more at the end of the replica's
append_log : (x : Log) (p : Replica) (offset : ℕ) (r : Record) → SameLog x (log_of p) → offset ≡ p.end → p.end < length p.log
    → SameLog (appended x offset (record_meaning r)) (log_of (append p r))
unfolding append
append_log x p offset r m q room =
    record {
      end = ap (λ n. n + 1) q;
      entry = λ y h.
          each_set (λ w i. except x.entry offset (record_meaning r) i ≡ record_meaning w) p.log p.end r zero_record own y (omega (arith, room, q))
          (λ n. except_other x.entry offset (record_meaning r) y (λ i. n (i ∙ q)) ∙ m.entry y (omega (arith, m.end, q)));
    }
  where
    own : except x.entry offset (record_meaning r) p.end ≡ record_meaning r
    own = ap (except x.entry offset (record_meaning r)) (sym q) ∙ except_same x.entry offset (record_meaning r)

module _ (s : State) (d : Sound s.limits s) (u : ModelState) (m : Means s.limits u s) (v : ModelState) (a : ℕ) where
  abbrev k : Constants
  k = constants_of s.limits

  abbrev R : ℕ
  R = replica_count_of s.limits

  abbrev own : Replica
  own = replica_at s a

  -- the logs with a record more at the end of a's
  abbrev logs_with : LogRecord → ℕ → ℕ → Log
  logs_with r offset = except u.replicaLog a (appended (u.replicaLog a) offset r)

  own_log : (r : Record) (offset : ℕ) → a < R → offset ≡ own.end → own.end < log_size_of s.limits
      → SameLog (logs_with (record_meaning r) offset a) (log_of (append own r))
  own_log r offset l q room =
      let log = (tidy_replica_iff own).0 (d.tidy.replicas.used a (omega (arith, d.rules.s1.ranges.replicas)) l) in
      rw (except_same u.replicaLog a (appended (u.replicaLog a) offset (record_meaning r)))
      (append_log (u.replicaLog a) own offset r (log_at s u m a l) q (omega (arith, room, log.room, d.rules.s1.ranges.log)))

  -- ---- kind 4
  module _ (l : a < R) where
    abbrev written : ℕ → LogRecord
    written id = record { id = id; epoch = (u.replicaState a).leaderEpoch }

    written_is : (id : ℕ) → id ≡ next_record_id_of s → written id ≡ record_meaning (next_record s a)
    written_is id q = λ i. record { id = q i; epoch = (state-at s u m a l i).leaderEpoch }

    writes : (id offset : ℕ) → id ≡ next_record_id_of s → offset ≡ own.end → own.end < log_size_of s.limits
        → Becomes u a (append own (next_record s a)) (logs_with (written id) offset) u.replicaState
    unfolding append
    writes id offset q o room =
        record {
          own_log = rw (written_is id q) (own_log (next_record s a) offset l o room);
          other_logs = except_other u.replicaLog a _;
          own_state = state-at s u m a l;
          other_states = λ r n. refl;
        }

    -- v is u with these changes exactly where it is the meaning of the engine's next state
    written_iff : (id offset : ℕ) → id ≡ next_record_id_of s → offset ≡ own.end → own.end < log_size_of s.limits
        → SameModelState k v (with_changes u (logs_with (written id) offset) u.replicaState (u.nextRecordId + 1) u.quorumState)
        ↔ Means s.limits v (leader_write s a)
    unfolding leader_write with_next_record_id with_replica meaning
    written_iff id offset q o room =
        put_iff s d u m a (append own (next_record s a)) (logs_with (written id) offset) u.replicaState
        (u.nextRecordId + 1) (next_record_id_of s + 1) u.quorumState s.quorum (ap (λ n. n + 1) m.nextRecordId) m.quorumState
        (writes id offset q o room) v

    write_to : (id offset : ℕ) → LeaderWriteWith k u v a id offset
        → (leader_write_refusal s a ≡ accepted) × Means s.limits v (leader_write s a)
    unfolding meaning
    write_to id offset t =
        let q : id ≡ next_record_id_of s = t.1.0 ∙ m.nextRecordId in
        let o : offset ≡ own.end = t.2.1 ∙ (log_at s u m a l).end in
        let room : own.end < log_size_of s.limits = omega (arith, t.2.0, o) in (
          (write_accepted s a).1
              (record {
                presumes = (presumes_iff s u m a l).0 t.0;
                id = omega (arith, q, t.1.1, d.rules.s1.ranges.records_low);
                room = room;
              }),
          (written_iff id offset q o room).0
              (record {
                replicaLog = t.2.2;
                replicaState = t.3;
                nextRecordId = t.1.2;
                nextLeaderEpoch = t.4;
                leaderAndIsrRequests = t.6;
                quorumState = t.5;
              }),
        )

    write_from : leader_write_refusal s a ≡ accepted → Means s.limits v (leader_write s a)
        → RecordSeq·IdSet k (next_record_id_of s) × ReplicaLog·Offsets k own.end × LeaderWriteWith k u v a (next_record_id_of s) own.end
    unfolding meaning
    write_from h t =
        let f = (write_accepted s a).0 h in
        let n = (written_iff (next_record_id_of s) own.end refl refl f.room).1 t in (
          omega (arith, f.id),
          f.room,
          (
            (presumes_iff s u m a l).1 f.presumes,
            (sym m.nextRecordId, omega (arith, f.id), n.nextRecordId),
            (f.room, sym (log_at s u m a l).end, n.replicaLog),
            n.replicaState,
            n.nextLeaderEpoch,
            n.quorumState,
            n.leaderAndIsrRequests,
          ),
        )

  -- LeaderWrite of replica a
  pub write_iff : ((id offset : ℕ)
      × a is_in Replicas k
      × RecordSeq·IdSet k id
      × ReplicaLog·Offsets k offset
      × LeaderWriteWith k u v a id offset)
      ↔ (a < R) × (leader_write_refusal s a ≡ accepted) × Means s.limits v (leader_write s a)
  write_iff = (
    (λ t. let l = ltb-true a R t.2 in let n = write_to l t.0 t.1 t.5 in (l, n.0, n.1)),
    (λ t.
        let n = write_from t.0 t.1 t.2 in
        (next_record_id_of s, own.end, lt-ltb a R t.0, n.0, n.1, n.2)),
  )

  -- ---- kind 8, with b as the leader
  module _ (b : ℕ) (l : a < R) (lb : b < R) where
    abbrev leading : Replica
    leading = replica_at s b

    abbrev copied : Record
    copied = record_at leading own.end

    abbrev replicated : Replica
    replicated = with_hw (append own copied) (min leading.hw (own.end + 1))

    -- the local states, the follower's with its new high watermark
    abbrev states_with : ℕ → LocalState
    states_with = except_hw u.replicaState a (followerHw u a b)

    own_state : states_with a ≡ local_state_of replicated
    unfolding with_hw append
    own_state =
        except_same u.replicaState a _
        ∙ (λ i. record {
          hw = min (state-at s u m b lb i).hw ((log_at s u m a l).end i + 1);
          leaderEpoch = (state-at s u m a l i).leaderEpoch;
          leader = (state-at s u m a l i).leader;
          isr = (state-at s u m a l i).isr;
        })

    replicates : (r : LogRecord) (offset : ℕ) → r ≡ record_meaning copied → offset ≡ own.end → own.end < log_size_of s.limits
        → Becomes u a replicated (logs_with r offset) states_with
    unfolding with_hw
    replicates r offset q o room =
        record {
          own_log = rw q (own_log copied offset l o room);
          other_logs = except_other u.replicaLog a _;
          own_state = own_state;
          other_states = except_other u.replicaState a _;
        }

    replicate_to : FollowerReplicateWith k u v a b → (follower_replicate_refusal s a b ≡ accepted) × Means s.limits v (follower_replicate s a b)
    unfolding follower_replicate
    replicate_to t =
        let r = t.2.0 in
        let offset = t.2.1 in
        let entry = t.2.2 in
        let add = t.2.3 in
        let log = log_at s u m b lb in
        let o : offset ≡ own.end = add.1 ∙ (log_at s u m a l).end in
        let q : r ≡ record_meaning copied = sym entry.1 ∙ log.entry offset entry.0 ∙ ap (λ x. record_meaning (record_at leading x)) o in (
          (replicate_accepted s a b).1
              (record {
                presumes = (presumes_iff s u m b lb).0 t.0;
                follows = (following_iff s u m a b l).0 t.1;
                behind = omega (arith, entry.0, log.end, o);
              }),
          (put_only_iff s d u m a replicated (logs_with r offset) states_with (replicates r offset q o (omega (arith, add.0, o))) v).0
              (record {
                replicaLog = add.2;
                replicaState = t.3;
                nextRecordId = t.4;
                quorumState = t.5;
                nextLeaderEpoch = t.6;
                leaderAndIsrRequests = t.7;
              }),
        )

    replicate-from : follower_replicate_refusal s a b ≡ accepted → Means s.limits v (follower_replicate s a b) → FollowerReplicateWith k u v a b
    unfolding follower_replicate
    replicate-from h t =
        let f = (replicate_accepted s a b).0 h in
        let room : own.end < log_size_of s.limits = omega (arith, f.behind, d.rules.s2.ends b lb) in
        let log = log_at s u m b lb in
        let below : own.end < (u.replicaLog b).end = omega (arith, log.end, f.behind) in
        let n =
        (put_only_iff s d u m a replicated (logs_with (record_meaning copied) own.end) states_with
        (replicates (record_meaning copied) own.end refl refl room) v).1 t in (
          (presumes_iff s u m b lb).1 f.presumes,
          (following_iff s u m a b l).1 f.follows,
          (
            record_meaning copied,
            own.end,
            (below, log.entry own.end below),
            (room, sym (log_at s u m a l).end, n.replicaLog),
          ),
          n.replicaState,
          n.nextRecordId,
          n.quorumState,
          n.nextLeaderEpoch,
          n.leaderAndIsrRequests,
        )

  -- FollowerReplicate of follower a from leader b
  pub replicate_iff : (b : ℕ) → a is_in Replicas k × b is_in Replicas k × FollowerReplicateWith k u v a b
      ↔ (a < R) × (b < R) × (follower_replicate_refusal s a b ≡ accepted) × Means s.limits v (follower_replicate s a b)
  replicate_iff b = (
    (λ t.
        let l = ltb-true a R t.0 in
        let lb = ltb-true b R t.1 in
        let n = replicate_to b l lb t.2 in
        (l, lb, n.0, n.1)),
    (λ t. (lt-ltb a R t.0, lt-ltb b R t.1, replicate-from b t.0 t.1 t.2 t.3)),
  )
