-- The fresh state of an accepted configuration is the one state by Init; LeaderInIsr fails there, for there is no leader yet.
-- In every state that meets S1 to S7 the leader of the quorum and of each request is none or in the ISR there. Assumes nothing.
use Rattle.parts.specs.Leader.{Leader}
use Rattle.std.specs.Prelude.{ℕ, ◌<◌, ◌≡◌, refl, true, ◌↔◌, ◌⊎◌, ℤ, pos, None, Some}
use Rattle.std.proofs.Common.{sym, ◌∙◌, subst, inl, inr, arith, ltb-true}
use Rattle.std.proofs.Math.Path.{ap}
use Rattle.std.proofs.Math.Option.{none, some, none-ne-some}
use Rattle.std.proofs.Math.Logic.Iff
use Rattle.parts.specs.Refusal.{accepted}
use Rattle.parts.specs.Isr.{member}
use Rattle.replica.specs.declared.Replica.{Replica}
use Rattle.cluster.specs.declared.Limits.{Limits}
use Rattle.cluster.specs.declared.State.{State}
use Rattle.cluster.specs.State.{replica_count_of, request_at, replica_at}
use Rattle.cluster.specs.Rules.{in_range, rules}
use Rattle.cluster.specs.RuleLaws.{Ranges, ranges_of}
use Rattle.cluster.specs.Predicates.{Rules, rules_iff}
use Rattle.cluster.specs.Fresh.{fresh_replica, fresh_state, fresh}
use Rattle.cluster.specs.FreshLaws.{fresh-replica, fresh_accepted}
use Rattle.published.specs.KafkaReplication.{Constants, ReplicaSet, ◌is_in◌, Replicas, Nil, LeaderAndIsr, Log, ModelState, SameLog, SameModelState, Init, LeaderInIsr}
use Rattle.published.specs.Meaning.{constants_of, leader_of, local_state_of, leader_and_isr_of, meaning, Means}
use Rattle.published.specs.OneToOne.{leader_of_injective}
use Rattle.published.specs.Sets.{members_none, members_full}

-- ---- the fresh state
module _ (c : Limits) (ok : in_range c ≡ true) where
  ranges : Ranges c
  ranges = ranges_of c ok

  fresh_at : (r : ℕ) → r is_in Replicas (constants_of c) → replica_at (fresh_state c) r ≡ fresh_replica
  fresh_at r i = let l : r < replica_count_of c = ltb-true r (replica_count_of c) i in fresh-replica c r (omega (arith, ranges.replicas)) l

  fresh_state_init : Init (constants_of c) (meaning (fresh_state c))
  unfolding meaning fresh_state
  fresh_state_init =
      record {
        leader_epoch_seq = refl;
        record_seq = refl;
        replicaLog = λ r i. ap (λ (p : Replica). p.end) (fresh_at r i);
        replicaState = λ r i.
            ap local_state_of (fresh_at r i)
            ∙ ap (λ (set : ReplicaSet). record { hw = 0; leaderEpoch = Nil; leader = none; isr = set }) members_none;
        quorumState =
            ap (λ (set : ReplicaSet). record { leaderEpoch = Nil; leader = none; isr = set }) (members_full (replica_count_of c) ranges.replicas);
        leaderAndIsrRequests = λ request. ((λ m. let l = m.1 in absurd (omega arith)), (λ b. absurd b));
      }

pub fresh_init : (c : Limits) → (fresh c).refusal ≡ accepted → Init (constants_of c) (meaning (fresh c).state)
fresh_init c h = let p = fresh_accepted c h in rw p.1 (fresh_state_init c p.0)

-- ---- there is one state by Init
empty_same : (x y : Log) → x.end ≡ 0 → y.end ≡ 0 → SameLog x y
empty_same x y p q = record { end = p ∙ sym q; entry = λ offset l. absurd (omega arith) }

init_same : (k : Constants) (u v : ModelState) → Init k u → Init k v → SameModelState k u v
init_same k u v i j =
    record {
      replicaLog = λ r m. empty_same (u.replicaLog r) (v.replicaLog r) (i.replicaLog r m) (j.replicaLog r m);
      replicaState = λ r m. i.replicaState r m ∙ sym (j.replicaState r m);
      nextRecordId = i.record_seq ∙ sym j.record_seq;
      nextLeaderEpoch = i.leader_epoch_seq ∙ sym j.leader_epoch_seq;
      leaderAndIsrRequests = λ request. Iff.trans (i.leaderAndIsrRequests request) (Iff.symm (j.leaderAndIsrRequests request));
      quorumState = i.quorumState ∙ sym j.quorumState;
    }

pub init_is_fresh : (c : Limits) → (fresh c).refusal ≡ accepted → (u : ModelState) → Init (constants_of c) u → Means c u (fresh c).state
init_is_fresh c h u i = init_same (constants_of c) u (meaning (fresh c).state) i (fresh_init c h)

-- ---- LeaderInIsr
-- by Init there is no leader, so it is in no ISR
pub fresh_leader_in_no_isr : (c : Limits) → (fresh c).refusal ≡ accepted → ¬ (LeaderInIsr (meaning (fresh c).state))
fresh_leader_in_no_isr c h m =
    none-ne-some m.0 (sym (ap (λ (q : LeaderAndIsr). q.leader) (fresh_init c h).quorumState) ∙ m.1)

-- of a state it says that there is a leader, which is in the quorum's ISR
pub leader_in_isr_iff : (s : State) → LeaderInIsr (meaning s) ↔ (b : ℕ) × (s.quorum.leader ≡ Some b) × (member s.quorum.isr b ≡ true)
unfolding meaning
leader_in_isr_iff s = (
  (λ t. (t.0, leader_of_injective s.quorum.leader (Some t.0) t.1, t.2)),
  (λ t. (t.0, ap leader_of t.1, t.2)),
)

-- S4, of the quorum or of a request: LeaderInIsr, or no leader
abbrev pub NoneOrInIsr : LeaderAndIsr → Type 0
NoneOrInIsr q = (q.leader ≡ none) ⊎ ((leader : ℕ) × (q.leader ≡ some leader) × leader is_in q.isr)

none_or_in_isr : (epoch : ℤ) (leader : Leader) (isr : ℕ) → ((b : ℕ) → leader ≡ Some b → member isr b ≡ true)
    → NoneOrInIsr (leader_and_isr_of epoch leader isr)
none_or_in_isr epoch None isr f = inl refl
none_or_in_isr epoch (Some b) isr f = inr (b, refl, f b refl)

pub leader-none-or-in-isr : (s : State) → rules s ≡ true
    → (((meaning s).quorumState.leader ≡ none) ⊎ LeaderInIsr (meaning s)) × ((request : LeaderAndIsr) → (meaning s).leaderAndIsrRequests request → NoneOrInIsr request)
unfolding meaning
leader-none-or-in-isr s h = (
  none_or_in_isr s.quorum.epoch s.quorum.leader s.quorum.isr met.s4.quorum,
  (λ request m.
      let e = m.0 in
      subst (λ (q : LeaderAndIsr). NoneOrInIsr q) (sym m.2)
      (none_or_in_isr (pos e) (request_at s e).leader (request_at s e).isr (met.s4.requests e m.1))),
)
  where
    met : Rules s
    met = (rules_iff s).0 h
