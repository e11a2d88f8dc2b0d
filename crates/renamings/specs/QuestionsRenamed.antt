-- The questions under a renaming: weak and strong ISR hold or fail alike, and the greatest hw of a presuming replica is the
-- same. Which triple fails first is not claimed: it goes by the names. Assumes nothing.
use Rattle.std.specs.Prelude.{ℕ, ◌≡◌, refl}
use Rattle.std.proofs.Math.Path.{ap}
use Rattle.std.proofs.Common.{◌∙◌, subst, le_refl}
use Rattle.logic.specs.Tests.{bool_ext}
use Rattle.parts.specs.Isr.{member}
use Rattle.replica.specs.declared.Replica.{Replica}
use Rattle.cluster.specs.declared.State.{State}
use Rattle.cluster.specs.State.{replica_count_of, replica_at}
use Rattle.questions.specs.declared.Property.{Property}
use Rattle.questions.specs.declared.Property.TheVariants.{WeakIsr, StrongIsr}
use Rattle.questions.specs.Isr.{isr_asked, ask_isr}
use Rattle.questions.specs.IsrTheorems.{Asked, HoldSameRecord, Holds, isr_says}
use Rattle.questions.specs.Exposed.{presuming_hw, exposed}
use Rattle.renamings.specs.Renaming.{Renaming, inverse, to_below, greatest_to}
use Rattle.renamings.specs.Rename.{rename_leader, rename_replica, rename_state, Met}
use Rattle.renamings.specs.PartsRenamed.{member_renamed, replica_renamed}
use Rattle.renamings.specs.TidyRenamed.{at_most_five, fits, met_renamed}
use Rattle.renamings.specs.Group.{rename_back}
use Rattle.renamings.specs.ActionsRenamed.{presumes_renamed}

module _ (s : State) (p : Renaming (replica_count_of s.limits)) (m : Met s) where
  abbrev n : ℕ
  n = replica_count_of s.limits

  abbrev t : State
  t = rename_state p.to p.from s

  replica-at : (i : ℕ) → replica_at t (p.to i) ≡ rename_replica p.to p.from (replica_at s i)
  replica-at i = replica_renamed p (at_most_five s m) s i (fits s m).five

  member_asked : (property : Property) (r i : ℕ) → member (isr_asked property t (p.to r)) (p.to i) ≡ member (isr_asked property s r) i
  unfolding isr_asked
  member_asked WeakIsr r i =
      ap (λ (q : Replica). member q.isr (p.to i)) (replica-at r) ∙ member_renamed p (at_most_five s m) (replica_at s r).isr i
  member_asked StrongIsr r i = member_renamed p (at_most_five s m) s.quorum.isr i

  -- what is asked about replicas of the one state is asked about the renamed ones of the other
  asked_to : (property : Property) (r i x : ℕ) → Asked property s r i x → Asked property t (p.to r) (p.to i) x
  asked_to property r i x a =
      record {
        replica = to_below p n (le_refl n) r a.replica;
        presumes = rw (replica-at r, a.presumes) (unfold rename_leader in refl);
        member = member_asked property r i ∙ a.member;
        offset = rw (replica-at r) a.offset;
      }

  held_to : (r i x : ℕ) → HoldSameRecord s r i x → HoldSameRecord t (p.to r) (p.to i) x
  held_to r i x h =
      record {
        leader = record { replica = to_below p n (le_refl n) r h.leader.replica; offset = rw (replica-at r) h.leader.offset };
        member = record { replica = to_below p n (le_refl n) i h.member.replica; offset = rw (replica-at i) h.member.offset };
        record_same = rw (replica-at r, replica-at i) h.record_same;
      }

module _ (s : State) (p : Renaming (replica_count_of s.limits)) (m : Met s) where
  abbrev u : State
  u = rename_state p.to p.from s

  state_back : rename_state p.from p.to u ≡ s
  state_back = rename_back p (at_most_five s m) s (fits s m)

  holds_to : (property : Property) → Holds property s → Holds property u
  holds_to property h r i x a =
      let b : Asked property s (p.from r) (p.from i) x =
      subst (λ (v : State). Asked property v (p.from r) (p.from i) x) state_back (asked_to u (inverse p) (met_renamed s m p) property r i x a) in
      rw (p.to_from r, p.to_from i) at (held_to s p m (p.from r) (p.from i) x (h (p.from r) (p.from i) x b))

module _ (s : State) (p : Renaming (replica_count_of s.limits)) (m : Met s) where
  -- the property holds of both states or of neither
  pub holds_renamed : (property : Property) → (ask_isr property (rename_state p.to p.from s)).holds ≡ (ask_isr property s).holds
  holds_renamed property =
      let v : State = rename_state p.to p.from s in
      let r = met_renamed s m p in
      let one = (isr_says property s m.rules).holds in
      let other = (isr_says property v r.rules).holds in
      bool_ext (ask_isr property v).holds (ask_isr property s).holds
      (λ e.
      one.1
      (subst (λ (w : State). Holds property w) (rename_back p (at_most_five s m) s (fits s m))
      (holds_to v (inverse p) r property (other.0 e))))
      (λ e. other.1 (holds_to s p m property (one.0 e)))

  pub exposed_renamed : exposed (rename_state p.to p.from s) ≡ exposed s
  unfolding exposed
  exposed_renamed =
      greatest_to p (replica_count_of s.limits) (le_refl (replica_count_of s.limits))
      (presuming_hw (rename_state p.to p.from s)) (presuming_hw s)
      (λ r h. rw (presumes_renamed s p (at_most_five s m) (fits s m).five r, replica_renamed p (at_most_five s m) s r (fits s m).five) refl)
