-- The answers on weak and strong ISR are the published properties WeakIsr and StrongIsr, of every state that meets S1 to S7.
-- Assumes nothing.
use Rattle.std.specs.Prelude.{ℕ, ◌^◌, ◌<◌, ◌≡◌, refl, Bool, ◌↔◌, ◌⊎◌, Some}
use Rattle.std.proofs.Common.{sym, ◌∙◌, ap, arith, lt-ltb, ltb-true}
use Rattle.std.proofs.Math.Bool.{true, false}
use Rattle.std.proofs.Math.Logic.{inl, inr}
use Rattle.std.proofs.Math.Logic.Iff
use Rattle.logic.specs.Tests.{refuted_iff}
use Rattle.parts.specs.Isr.{member}
use Rattle.parts.specs.Leader.{names}
use Rattle.parts.specs.LeaderLaws.{names_iff}
use Rattle.parts.specs.IsrLaws.{member_within}
use Rattle.replica.specs.Replica.{record_at}
use Rattle.cluster.specs.declared.State.{State}
use Rattle.cluster.specs.State.{replica_count_of, replica_at}
use Rattle.cluster.specs.Rules.{rules}
use Rattle.cluster.specs.Predicates.{rules_iff}
use Rattle.questions.specs.Isr.{weak_isr, strong_isr}
use Rattle.questions.specs.IsrTheorems.{HoldSameRecord, weak-holds, strong-holds}
use Rattle.published.specs.KafkaReplication.{◌is_in◌, Replicas, ReplicaPresumesLeadership, HaveOneEntry, WeakIsr, StrongIsr}
use Rattle.published.specs.Meaning.{constants_of, leader_of, record_meaning, meaning}
use Rattle.published.specs.Types.{log_record_ok}
use Rattle.published.specs.OneToOne.{record_of_injective}
use Rattle.published.specs.Reading.{leader_names_iff}

-- ---- r and m hold the same record exactly where they have one entry, and it is one of LogRecords
entry_of : (s : State) → rules s ≡ true → (r m offset : ℕ)
    → HoldSameRecord s r m offset → HaveOneEntry (constants_of s.limits) (meaning s) r m offset
unfolding meaning
entry_of s h r m offset a = (
  record_meaning (record_at (replica_at s r) offset),
  log_record_ok s h r offset a.leader.replica a.leader.offset,
  (a.leader.offset, refl),
  (a.member.offset, ap record_meaning (sym a.record_same)),
)

same_of : (s : State) (r m offset : ℕ) → r < replica_count_of s.limits → m < replica_count_of s.limits
    → HaveOneEntry (constants_of s.limits) (meaning s) r m offset → HoldSameRecord s r m offset
unfolding meaning
same_of s r m offset l k a =
    record {
      leader = record { replica = l; offset = a.2.0 };
      member = record { replica = k; offset = a.3.0 };
      record_same = record_of_injective (record_at (replica_at s r) offset) (record_at (replica_at s m) offset) (a.2.1 ∙ sym a.3.1);
    }

-- ---- both properties at once, over the ISR that each asks about
module _ (s : State) (isr : ℕ → ℕ) where
  -- the published property of replica r, with its three cases
  abbrev Published : ℕ → Type 0
  Published r =
      ¬ (ReplicaPresumesLeadership (meaning s) r)
      ⊎ (((meaning s).replicaState r).hw ≡ 0)
      ⊎ ((m offset : ℕ) → m is_in member (isr r) → offset < ((meaning s).replicaState r).hw
      → HaveOneEntry (constants_of s.limits) (meaning s) r m offset)

  -- what the answer says of it
  abbrev Answered : ℕ → Type 0
  Answered r = (m offset : ℕ) → (replica_at s r).leader ≡ Some r → member (isr r) m ≡ true → offset < (replica_at s r).hw
      → HoldSameRecord s r m offset

  module _ (h : rules s ≡ true) where
    published_by : (r : ℕ) (b : Bool) → names (replica_at s r).leader r ≡ b → Answered r → Published r
    unfolding meaning
    published_by r true e f =
        inr (inr (λ m offset i o. entry_of s h r m offset (f m offset ((names_iff (replica_at s r).leader r).0 e) i o)))
    published_by r false e f =
        inl ((refuted_iff (names (replica_at s r).leader r) (leader_names_iff (replica_at s r).leader r)).1 e)

    module _ (within : (r : ℕ) → r < replica_count_of s.limits → isr r < 2 ^ replica_count_of s.limits) where
      answered_by : (r : ℕ) → r < replica_count_of s.limits → Published r → Answered r
      unfolding meaning
      answered_by r l (inl n) m offset e i o = absurd (n (ap leader_of e))
      answered_by r l (inr (inl z)) m offset e i o = absurd (omega arith)
      answered_by r l (inr (inr f)) m offset e i o =
          let five = ((rules_iff s).0 h).s1.ranges.replicas in
          let k = member_within (replica_count_of s.limits) (isr r) five (within r l) m i in
          same_of s r m offset l k (f m offset i o)

      property_iff : ((r m offset : ℕ) → r < replica_count_of s.limits → (replica_at s r).leader ≡ Some r → member (isr r) m ≡ true
          → offset < (replica_at s r).hw → HoldSameRecord s r m offset)
          ↔ ((r : ℕ) → r is_in Replicas (constants_of s.limits) → Published r)
      property_iff = (
        (λ f r i. published_by r (names (replica_at s r).leader r) refl (λ m offset. f r m offset (ltb-true r (replica_count_of s.limits) i))),
        (λ f r m offset l. answered_by r l (f r (lt-ltb r (replica_count_of s.limits) l)) m offset),
      )

-- ---- the two properties
pub weak_is_published : (s : State) → rules s ≡ true → (weak_isr s).holds ≡ true ↔ WeakIsr (constants_of s.limits) (meaning s)
unfolding meaning
weak_is_published s h =
    Iff.trans (weak-holds s h) (property_iff s (λ r. (replica_at s r).isr) h (λ r l. (((rules_iff s).0 h).s2.replicas r l).within))

pub strong_is_published : (s : State) → rules s ≡ true → (strong_isr s).holds ≡ true ↔ StrongIsr (constants_of s.limits) (meaning s)
unfolding meaning
strong_is_published s h =
    Iff.trans (strong-holds s h) (property_iff s (λ r. s.quorum.isr) h (λ r l. ((rules_iff s).0 h).s2.quorum.within))
