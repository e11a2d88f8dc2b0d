-- The meaning of a state that meets S1 to S7 is that of no other: two such states of one configuration have the same
-- meaning exactly when they are equal; so a state and its tidy form mean the same. Assumes nothing.
--
--   same_means            equal states mean the same
--   leader_of_injective   leaders that mean the same are equal
--   record_of_injective   records that mean the same are equal
--   one_to_one            two states of one configuration that meet S1 to S7 mean the same exactly when they are equal
--   means_tidy            a state of the model is the meaning of s exactly where it is that of the tidy form of s
use Rattle.parts.specs.Leader.{Leader}
use Rattle.std.specs.Prelude.{ℕ, ◌<◌, ◌≡◌, refl, true, ◌↔◌, ℤ, pos, None, Some}
use Rattle.std.proofs.Common.{sym, ◌∙◌, arith}
use Rattle.std.proofs.Math.Path.{ap}
use Rattle.std.proofs.Math.Option.{none-ne-some, some-injective}
use borrow.Author.Tests.{lt-ltb, ltb-true}
use Rattle.parts.specs.IsrLaws.{below_32}
use Rattle.parts.specs.EpochLaws.{pos_injective}
use Rattle.replica.specs.declared.Record.{Record}
use Rattle.replica.specs.declared.Replica.{Replica}
use Rattle.replica.specs.Replica.{record_at, SameReplica}
use Rattle.cluster.specs.declared.Quorum.{Quorum}
use Rattle.cluster.specs.declared.Request.{Request}
use Rattle.cluster.specs.declared.State.{State}
use Rattle.cluster.specs.State.{replica_count_of, next_leader_epoch_of, request_at, replica_at, Same, tidy}
use Rattle.cluster.specs.Rules.{rules}
use Rattle.cluster.specs.Predicates.{rules_iff}
use Rattle.cluster.specs.Equality.{same_sym, tidy_same}
use Rattle.cluster.specs.Unused.{rules_same}
use Rattle.cluster.specs.ActLaws.{replica_five, end_small, isr_small, quorum_isr_small, request_small}
use Rattle.published.specs.KafkaReplication.{Constants, LeaderAndIsr, LocalState, ModelState, SameLog, SameModelState}
use Rattle.published.specs.Meaning.{constants_of, leader_of, record_meaning, log_of, local_state_of, leader_and_isr_of, quorum_of, request_meaning, request_sent, meaning, Means}
use Rattle.published.specs.Equality.{same_model_sym, same_model_trans}
use Rattle.published.specs.Sets.{members_injective}

-- ---- equal states mean the same
same_local : (p q : Replica) → SameReplica p q → local_state_of p ≡ local_state_of q
same_local p q m = cc (m.hw, m.epoch, m.leader, m.isr)

module _ (s t : State) (h : rules s ≡ true) (m : Same s t) where
  request_over : (request : LeaderAndIsr) → (meaning s).leaderAndIsrRequests request → (meaning t).leaderAndIsrRequests request
  unfolding meaning
  request_over request q =
      let e = q.0 in
      let l = q.1 in
      (e, rw m.next_epoch at l, q.2 ∙ ap (request_meaning e) (m.requests e (request_small s h e l) l))

  same_at : (r : ℕ) → r < replica_count_of s.limits → SameReplica (replica_at s r) (replica_at t r)
  same_at r l = m.replicas r (replica_five s h r l) l

  log_over : (r : ℕ) → r < replica_count_of s.limits → SameLog (log_of (replica_at s r)) (log_of (replica_at t r))
  log_over r l =
      record {
        end = (same_at r l).end;
        entry = λ offset o. ap record_meaning ((same_at r l).log offset (omega (arith, end_small s h r l)) o);
      }

pub same_means : (s t : State) → rules s ≡ true → Same s t → Means s.limits (meaning s) t
unfolding meaning
same_means s t h m =
    record {
      replicaLog = λ r i. log_over s t h m r (ltb-true r (replica_count_of s.limits) i);
      replicaState = λ r i. same_local (replica_at s r) (replica_at t r) (same_at s t h m r (ltb-true r (replica_count_of s.limits) i));
      nextRecordId = m.next_id;
      nextLeaderEpoch = m.next_epoch;
      leaderAndIsrRequests = λ request. (
        request_over s t h m request,
        request_over t s (sym (rules_same s t m) ∙ h) (same_sym s t m) request,
      );
      quorumState = ap quorum_of m.quorum;
    }

-- ---- states that mean the same are equal
pub leader_of_injective : (l m : Leader) → leader_of l ≡ leader_of m → l ≡ m
leader_of_injective None None e = refl
leader_of_injective None (Some b) e = absurd (none-ne-some b e)
leader_of_injective (Some a) None e = absurd (none-ne-some a (sym e))
leader_of_injective (Some a) (Some b) e = ap Some (some-injective a b e)

pub record_of_injective : (r q : Record) → record_meaning r ≡ record_meaning q → r ≡ q
record_of_injective r q e = λ i. record { id = (e i).id; epoch = (e i).epoch }

quorum_path : (q p : Quorum) → q.epoch ≡ p.epoch → q.leader ≡ p.leader → q.isr ≡ p.isr → q ≡ p
quorum_path q p a b c = λ i. record { epoch = a i; leader = b i; isr = c i }

request_path : (q p : Request) → q.leader ≡ p.leader → q.isr ≡ p.isr → q ≡ p
request_path q p a b = λ i. record { leader = a i; isr = b i }

-- an epoch, a leader and an ISR of five replicas are known by what they mean
leader_and_isr_injective : (y z : ℤ) (l m : Leader) (isr other : ℕ) → isr < 32 → other < 32
    → leader_and_isr_of y l isr ≡ leader_and_isr_of z m other → (y ≡ z) × (l ≡ m) × (isr ≡ other)
leader_and_isr_injective y z l m isr other h k e = (
  ap (λ (q : LeaderAndIsr). q.leaderEpoch) e,
  leader_of_injective l m (ap (λ (q : LeaderAndIsr). q.leader) e),
  members_injective isr other h k (ap (λ (q : LeaderAndIsr). q.isr) e),
)

-- so is a replica, by its log and its local state
replica_injective : (p q : Replica) → p.isr < 32 → q.isr < 32 → SameLog (log_of p) (log_of q) → local_state_of p ≡ local_state_of q → SameReplica p q
replica_injective p q h k m e =
    let known = leader_and_isr_injective p.epoch q.epoch p.leader q.leader p.isr q.isr h k
    (ap (λ (v : LocalState). record { leaderEpoch = v.leaderEpoch; leader = v.leader; isr = v.isr }) e) in
    record {
      hw = ap (λ (v : LocalState). v.hw) e;
      epoch = known.0;
      leader = known.1;
      isr = known.2;
      end = m.end;
      log = λ x small l. record_of_injective (record_at p x) (record_at q x) (m.entry x l);
    }

request_isr_small : (s : State) → rules s ≡ true → (e : ℕ) → e < next_leader_epoch_of s → (request_at s e).isr < 32
request_isr_small s h e l = let met = (rules_iff s).0 h in below_32 _ _ met.s1.ranges.replicas (met.s2.requests e l).within

module _ (s t : State) (h : rules s ≡ true) (k : rules t ≡ true)
    (m : SameModelState (constants_of s.limits) (meaning s) (meaning t)) where
  same_quorum : s.quorum ≡ t.quorum
  unfolding meaning
  same_quorum =
      let q = s.quorum in
      let p = t.quorum in
      let known = leader_and_isr_injective q.epoch p.epoch q.leader p.leader q.isr p.isr
      (quorum_isr_small s h) (quorum_isr_small t k) m.quorumState in
      quorum_path q p known.0 known.1 known.2

  -- the request of an epoch is the one that means the same, for that one has the same epoch
  same_request : (e : ℕ) → e < next_leader_epoch_of s → request_at s e ≡ request_at t e
  unfolding meaning
  same_request e l =
      let other = (m.leaderAndIsrRequests (request_sent s e)).0 (e, l, refl) in
      let f = other.0 in
      let q = request_at s e in
      let p = request_at t f in
      let known = leader_and_isr_injective (pos e) (pos f) q.leader p.leader q.isr p.isr
      (request_isr_small s h e l) (request_isr_small t k f other.1) other.2 in
      request_path q p known.1 known.2 ∙ ap (request_at t) (sym (pos_injective e f known.0))

  same-replica : s.limits ≡ t.limits → (i : ℕ) → i < replica_count_of s.limits → SameReplica (replica_at s i) (replica_at t i)
  unfolding meaning
  same-replica one i l =
      let named = lt-ltb i (replica_count_of s.limits) l in
      replica_injective (replica_at s i) (replica_at t i) (isr_small s h i l) (isr_small t k i (rw one at l))
      (m.replicaLog i named) (m.replicaState i named)

  means_same : s.limits ≡ t.limits → Same s t
  unfolding meaning
  means_same one =
      record {
        limits = one;
        next_epoch = m.nextLeaderEpoch;
        next_id = m.nextRecordId;
        quorum = same_quorum;
        requests = λ e small. same_request e;
        replicas = λ i small. same-replica one i;
      }

pub one_to_one : (s t : State) → rules s ≡ true → rules t ≡ true → s.limits ≡ t.limits
    → SameModelState (constants_of s.limits) (meaning s) (meaning t) ↔ Same s t
one_to_one s t h k one = ((λ m. means_same s t h k m one), same_means s t h)

-- ---- a state means what its tidy form means
pub means_tidy : (s : State) → rules s ≡ true → (u : ModelState) → Means s.limits u s ↔ Means s.limits u (tidy s)
means_tidy s h u = (
  (λ m. same_model_trans k u (meaning s) (meaning (tidy s)) m tidied),
  (λ m. same_model_trans k u (meaning (tidy s)) (meaning s) m (same_model_sym k (meaning s) (meaning (tidy s)) tidied)),
)
  where
    k : Constants
    k = constants_of s.limits

    tidied : Means s.limits (meaning s) (tidy s)
    tidied = same_means s (tidy s) h (same_sym (tidy s) s (tidy_same s))
