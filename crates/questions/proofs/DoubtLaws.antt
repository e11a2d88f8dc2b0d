-- The law of what an accepted action can change, replica by replica and kind by kind, once for weak and strong ISR: where either may
-- fail after it held, and who may expose more. Assumes nothing.
--
--   member_all, member_only                    each of the five replicas is in the set of all five, and a in the set of a alone
--   Stays p q x                                where p has offset x, q has it too, with the same record
--   NoMoreExposed p q i                        where q presumes so did p, its high watermark is no higher, and its log stays
--   Asks property quorum p r m x               p, named r, presumes; m is in the ISR asked about; x is below the hw of p
--   OnlyInDoubt property d before after p q i  what q asks about that p did not, and where its log is not the same, is in doubt
--   same_log                                   a log stays as it is
--   follower_in_doubt                          OnlyInDoubt of every replica after kind 3, whatever offset the log is cut to
--   kind_in_doubt                              OnlyInDoubt of every replica after an accepted action of any kind
--   request_kept, hw_raised                    what is read after kinds 2 and 7 is there: request e, and a high watermark above 0
--   cut_exposed                                NoMoreExposed of every replica after kind 3, whatever the offset
--   kind_exposed                               NoMoreExposed of every replica after an accepted action of any kind but 2 and 7
use Rattle.std.specs.Prelude.{ℕ, ◌+◌, ◌-◌, ◌≤◌, ◌<◌, min, ◌≡◌, Bool, not, ◌&&◌, ◌||◌, cond, ◌⊎◌, ℤ, pos, length, set, None, Some}
use Rattle.std.proofs.Math.Path.{refl}
use Rattle.std.proofs.Common.{sym, ◌∙◌, ap, get_or-set_same, get_or-set_other, eqb-true, eq-eqb, lt-ltb}
use Rattle.std.proofs.Math.Bool.{true, false}
use Rattle.std.proofs.Math.Logic.{inl, inr}
use native.Mathlib.Omega.{arith}
use Rattle.std.proofs.Math.Decide.{dec_lt}
use Rattle.std.proofs.Math.Dec.{eqb}
use Rattle.logic.specs.Tests.{and_left, and_no, or_yes, true_false}
use Rattle.logic.specs.Lists.{each_set}
use Rattle.parts.specs.Refusal.{accepted}
use Rattle.parts.specs.Isr.{member, full_isr, without, including, is_alone}
use Rattle.parts.specs.IsrLaws.{member_none, member_full, member_below, member_without, member_including, stays_including}
use Rattle.parts.specs.Leader.{Leader, names}
use Rattle.parts.specs.LeaderLaws.{names_iff, some-injective}
use Rattle.replica.specs.declared.Record.{Record}
use Rattle.replica.specs.declared.Replica.{Replica}
use Rattle.replica.specs.Replica.{zero_record, no_replica, record_at, tidy_replica}
use Rattle.replica.specs.ReplicaLaws.{tidy_replica_same}
use Rattle.replica.specs.Change.{with_hw, with_isr, with_end, with_request, append, truncate_to, truncate_under, become_follower_and_truncate_to}
use Rattle.cluster.specs.declared.Limits.{Limits}
use Rattle.cluster.specs.declared.State.{State}
use Rattle.cluster.specs.declared.Kind.{Kind}
use Rattle.cluster.specs.declared.Kind.TheVariants.{ControllerShrinkIsr, ControllerElectLeader, BecomeLeader, BecomeFollower, LeaderWrite, LeaderShrinkIsr, LeaderExpandIsr, LeaderIncHighWatermark, FollowerReplicate, Unknown}
use Rattle.cluster.specs.State.{replica_count_of, next_leader_epoch_of, request_at, replica_in, replica_at, with_replica, with_quorum_isr, with_next_record_id, controller_update_isr}
use Rattle.cluster.specs.Predicates.{Rules}
use Rattle.cluster.specs.Actions.{replica_is_following, shrink_by, controller_shrink_isr, controller_elect_leader, lead_by, become_leader, become_follower_at, become_follower_and_truncate_to_hw, leader_write, quorum_update_leader_and_isr, leader_shrink_isr, leader_expand_isr, leader_inc_high_watermark, follower_replicate_refusal, follower_replicate}
use Rattle.cluster.specs.Act.{uses, table_refusal, table_effect}
use Rattle.cluster.specs.Accepted.{Operands, become_leader_accepted, become_follower_accepted, replicate_accepted}
use Rattle.actions.specs.Sound.{Sound}
use Rattle.questions.specs.declared.Property.{Property}
use Rattle.questions.specs.declared.Property.TheVariants.{WeakIsr, StrongIsr}
use Rattle.questions.specs.declared.doubt.Doubt.{Doubt}
use Rattle.questions.specs.IsrLaws.{isr_by_property}
use Rattle.questions.specs.Doubt.{doubt_of, InDoubt, all_five, only, no_doubt, gained_doubt, led_doubt, cut_doubt, shrink_doubt, expand_doubt, raised_doubt, doubt_after, exposing}

-- ---- the members of all five, of one alone, and of a set that lost one
pub member_all : (i : ℕ) → i < 5 → member all_five i ≡ true
unfolding full_isr
member_all i l = member_full 5 i (omega arith) ∙ lt-ltb i 5 l

pub member_only : (a : ℕ) → a < 5 → member (only a) a ≡ true
member_only a l = member_including 0 a a l ∙ ap (λ b. member 0 a || b) (eq-eqb a a refl) ∙ or_yes (member 0 a)

member_removed : (isr a : ℕ) → member (without isr a) a ≡ false
member_removed isr a = member_without isr a a ∙ ap (λ b. member isr a && not b) (eq-eqb a a refl) ∙ and_no (member isr a)

-- ---- one replica, p before an action and q after it
-- where p has offset x, so has q, with the same record
abbrev pub Stays : Replica → Replica → ℕ → Type 0
Stays p q x = x < p.end → (x < q.end) × (record_at q x ≡ record_at p x)

-- q exposes nothing that p did not: where q presumes, p did, its high watermark is no higher, and its log stays
pub record NoMoreExposed (p q : Replica) (i : ℕ) : Type 0 where
  pub leads : q.leader ≡ Some i → p.leader ≡ Some i
  pub hw : q.leader ≡ Some i → q.hw ≤ p.hw
  pub log : q.leader ≡ Some i → (x : ℕ) → Stays p q x

-- replica p, named r, asks about member m at offset x; the quorum has this ISR
pub record Asks (property : Property) (quorum : ℕ) (p : Replica) (r m x : ℕ) : Type 0 where
  pub presumes : p.leader ≡ Some r
  pub member : member (isr_by_property property p.isr quorum) m ≡ true
  pub offset : x < p.hw

-- only what is in doubt is new. As a leader: what q asks about is in doubt, or p asked about it and the log is the same there. As a
-- member: at each offset every leader is in doubt about q, or q's log is the same there.
pub record OnlyInDoubt (property : Property) (d : Doubt) (before after : ℕ) (p q : Replica) (i : ℕ) : Type 0 where
  pub asks : (m x : ℕ) → Asks property after q i m x → InDoubt d i m x ⊎ Asks property before p i m x × Stays p q x
  pub log : (x : ℕ) → ((r : ℕ) → r < 5 → InDoubt d r i x) ⊎ Stays p q x

-- a log that is the same, and one with a record more
pub same_log : (p : Replica) (x : ℕ) → Stays p p x
same_log p x l = (l, refl)

longer_log : (p : Replica) (w : Record) (x : ℕ) → Stays p (append p w) x
unfolding append
longer_log p w x l = (omega arith, get_or-set_other p.log p.end x w zero_record (omega arith))

same_exposed : (p : Replica) (i : ℕ) → NoMoreExposed p p i
same_exposed p i = record { leads = λ q. q; hw = λ q. omega arith; log = λ q. same_log p }

-- a replica that does not presume exposes nothing
follower_exposed : (p q : Replica) (i : ℕ) → (q.leader ≡ Some i → ⊥) → NoMoreExposed p q i
follower_exposed p q i other = record { leads = λ e. absurd (other e); hw = λ e. absurd (other e); log = λ e. absurd (other e) }

module _ (property : Property) (d : Doubt) (before after : ℕ) where
  -- each member asked about after is in doubt, or was asked about before
  abbrev GainsInDoubt : Replica → Replica → ℕ → Type 0
  GainsInDoubt p q i = (m x : ℕ) → member (isr_by_property property q.isr after) m ≡ true
      → InDoubt d i m x ⊎ member (isr_by_property property p.isr before) m ≡ true

  in_doubt_by : (p q : Replica) (i : ℕ) → NoMoreExposed p q i → GainsInDoubt p q i → ((x : ℕ) → ((r : ℕ) → r < 5 → InDoubt d r i x) ⊎ Stays p q x)
      → OnlyInDoubt property d before after p q i
  in_doubt_by p q i no_more gains log = record { asks = λ m x a. go m x a (gains m x a.member); log = log }
    where
      go : (m x : ℕ) → Asks property after q i m x → InDoubt d i m x ⊎ member (isr_by_property property p.isr before) m ≡ true
          → InDoubt d i m x ⊎ Asks property before p i m x × Stays p q x
      go m x a (inl h) = inl h
      go m x a (inr h) =
          inr (
            record { presumes = no_more.leads a.presumes; member = h; offset = omega (arith, no_more.hw a.presumes, a.offset) },
            no_more.log a.presumes x,
          )

  -- where q does not presume, only its log can bring something new
  follower_in_doubt_by : (p q : Replica) (i : ℕ) → (q.leader ≡ Some i → ⊥) → ((x : ℕ) → ((r : ℕ) → r < 5 → InDoubt d r i x) ⊎ Stays p q x)
      → OnlyInDoubt property d before after p q i
  follower_in_doubt_by p q i other log = record { asks = λ m x a. absurd (other a.presumes); log = log }

  same_in_doubt : (p : Replica) (i : ℕ) → GainsInDoubt p p i → OnlyInDoubt property d before after p p i
  same_in_doubt p i gains = in_doubt_by p p i (same_exposed p i) gains (λ x. inr (same_log p x))

-- where the quorum's ISR gains no member, none is newly asked about
no_member_gained : (property : Property) (d : Doubt) (before after : ℕ) → ((m : ℕ) → member after m ≡ true → member before m ≡ true)
    → (p : Replica) (i : ℕ) → GainsInDoubt property d before after p p i
unfolding isr_by_property
no_member_gained WeakIsr d before after f p i m x h = inr h
no_member_gained StrongIsr d before after f p i m x h = inr (f m h)

-- a replica that stays, under the same quorum's ISR
unchanged_in_doubt : (property : Property) (d : Doubt) (quorum : ℕ) (p : Replica) (i : ℕ) → OnlyInDoubt property d quorum quorum p p i
unchanged_in_doubt property d quorum p i = same_in_doubt property d quorum quorum p i (λ m x h. inr h)

-- a member is one that the quorum's ISR gained, and every leader is in doubt about it, or one that it had before
gained_or_had : (before m i x : ℕ) → i < 5 → InDoubt (gained_doubt before) i m x ⊎ member before m ≡ true
gained_or_had before m i x l = go (member before m) refl
  where
    go : (b : Bool) → member before m ≡ b → InDoubt (gained_doubt before) i m x ⊎ member before m ≡ true
    go true e = inr e
    go false e = inl (record { leader = member_all i l; unknown = e; from = omega arith })

-- as kind 5 asks: none where the quorum's ISR only lost b
gained_unless : (before now b m i x : ℕ) → i < 5 → member now m ≡ true
    → InDoubt (cond (eqb (including now b) before) no_doubt (gained_doubt before)) i m x ⊎ member before m ≡ true
gained_unless before now b m i x l h = go (eqb (including now b) before) refl
  where
    go : (t : Bool) → eqb (including now b) before ≡ t → InDoubt (cond t no_doubt (gained_doubt before)) i m x ⊎ member before m ≡ true
    go true e = inr (rw (eqb-true (including now b) before e) at (stays_including now b m h))
    go false e = gained_or_had before m i x l

-- ---- a state that meets the rules, with one replica replaced
module _ (c : Limits) (s : State) (sound : Sound c s) where
  met : Rules s
  met = sound.rules

  abbrev R : ℕ
  R = replica_count_of s.limits

  abbrev quorum_isr : ℕ
  quorum_isr = s.quorum.isr

  below_five : (i : ℕ) → i < R → i < 5
  below_five i l = omega (arith, met.s1.ranges.replicas)

  room : (i : ℕ) → i < R → i < length s.replicas
  room i l = omega (arith, sound.tidy.replicas.room, below_five i l)

  -- what holds of the replaced replica, and of each other as it is, holds of every replica
  put_each : (P : Replica → Replica → ℕ → Type 0) (a : ℕ) (p : Replica) → P (replica_at s a) p a
      → ((i : ℕ) → i < R → P (replica_at s i) (replica_at s i) i)
      → (i : ℕ) → i < R → P (replica_at s i) (replica_in (set s.replicas a p) i) i
  put_each P a p own others i l = each_set (λ q j. P (replica_at s j) q j) s.replicas a p no_replica own i (room i l) (λ q. others i l)

  -- the new replica is read back
  put_read : (a : ℕ) (p : Replica) → a < R → replica_in (set s.replicas a p) a ≡ p
  put_read a p l = get_or-set_same s.replicas a p no_replica (room a l)

  -- ---- kinds 0 and 1: the quorum's ISR stays, or loses a member
  removed : (a m : ℕ) → member (without quorum_isr a) m ≡ true → member quorum_isr m ≡ true
  removed a m h = and_left (member quorum_isr m) (not (eqb m a)) (sym (member_without quorum_isr a m) ∙ h)

  shrink_in_doubt : (property : Property) (a : ℕ) (leads alone : Bool) (p : Replica) (i : ℕ)
      → OnlyInDoubt property no_doubt quorum_isr (shrink_by leads alone s a).quorum.isr p p i
  unfolding shrink_by controller_update_isr
  shrink_in_doubt property a true true p i = unchanged_in_doubt property no_doubt quorum_isr p i
  shrink_in_doubt property a true false p i = same_in_doubt property no_doubt quorum_isr (without quorum_isr a) p i (no_member_gained property no_doubt quorum_isr (without quorum_isr a) (removed a) p i)
  shrink_in_doubt property a false alone p i = same_in_doubt property no_doubt quorum_isr (without quorum_isr a) p i (no_member_gained property no_doubt quorum_isr (without quorum_isr a) (removed a) p i)

  shrink_replicas : (a : ℕ) (leads alone : Bool) → (shrink_by leads alone s a).replicas ≡ s.replicas
  unfolding shrink_by controller_update_isr
  shrink_replicas a true true = refl
  shrink_replicas a true false = refl
  shrink_replicas a false alone = refl

  -- ---- kind 2: all that the new leader asks about is in doubt
  lead_in_doubt : (property : Property) (e : ℕ) (leader : Leader) → (request_at s e).leader ≡ leader → ((b : ℕ) → leader ≡ Some b → b < R)
      → (i : ℕ) → i < R
      → OnlyInDoubt property (led_doubt (request_at (lead_by s e leader) e).leader) quorum_isr (lead_by s e leader).quorum.isr (replica_at s i) (replica_at (lead_by s e leader) i) i
  unfolding lead_by with_replica led_doubt with_request
  lead_in_doubt property e None q low i l = unchanged_in_doubt property _ quorum_isr (replica_at s i) i
  lead_in_doubt property e (Some b) q low i l =
      put_each (OnlyInDoubt property (led_doubt (request_at s e).leader) quorum_isr quorum_isr) b _ (rw q own) (λ j k. unchanged_in_doubt property _ quorum_isr (replica_at s j) j) i l
    where
      own : OnlyInDoubt property (led_doubt (Some b)) quorum_isr quorum_isr (replica_at s b) (with_request (replica_at s b) (pos e) (Some b) (request_at s e).isr) b
      own =
          record {
            asks = λ m x a. inl (record { leader = member_only b (below_five b (low b refl)); unknown = member_none m; from = omega arith });
            log = λ x. inr (same_log (replica_at s b) x);
          }

  -- ---- kind 3: a does not presume, and its log is cut, whatever the offset
  follows_other : (a e offset : ℕ) → names (request_at s e).leader a ≡ false
      → (become_follower_and_truncate_to (replica_at s a) (pos e) (request_at s e).leader (request_at s e).isr offset).leader ≡ Some a → ⊥
  unfolding become_follower_and_truncate_to with_request
  follows_other a e offset other q = true_false (sym ((names_iff (request_at s e).leader a).1 q) ∙ other)

  follower_log : (p : Replica) (epoch : ℤ) (leader : Leader) (isr offset : ℕ) → p.end ≤ 16 → (x : ℕ)
      → (become_follower_and_truncate_to p epoch leader isr offset).end ≤ x ⊎ Stays p (become_follower_and_truncate_to p epoch leader isr offset) x
  unfolding become_follower_and_truncate_to truncate_under truncate_to with_request with_hw with_end tidy_replica
  follower_log p epoch None isr offset small x = inr (same_log p x)
  follower_log p epoch (Some b) isr offset small x =
      elim (dec_lt x (min offset p.end)) [
        | yes l ↦ inr (λ k. (l, (tidy_replica_same (with_end p (min offset p.end))).log x (omega arith) l))
        | no l ↦ inl (omega arith)
      ]

  pub follower_in_doubt : (property : Property) (a e offset : ℕ) → a < R → names (request_at s e).leader a ≡ false → (i : ℕ) → i < R
      → OnlyInDoubt property (cut_doubt (become_follower_at s a e offset) a) quorum_isr (become_follower_at s a e offset).quorum.isr (replica_at s i) (replica_at (become_follower_at s a e offset) i) i
  unfolding become_follower_at with_replica
  follower_in_doubt property a e offset l other =
      put_each (OnlyInDoubt property d quorum_isr quorum_isr) a q
      (follower_in_doubt_by property d quorum_isr quorum_isr (replica_at s a) q a (follows_other a e offset other) (λ x. cut_from x (follower_log (replica_at s a) _ _ _ offset small x)))
      (λ j k. unchanged_in_doubt property d quorum_isr (replica_at s j) j)
    where
      q : Replica
      q = become_follower_and_truncate_to (replica_at s a) (pos e) (request_at s e).leader (request_at s e).isr offset

      d : Doubt
      d = doubt_of all_five (without all_five a) (replica_in (set s.replicas a q) a).end

      small : (replica_at s a).end ≤ 16
      small = omega (arith, met.s2.ends a l, met.s1.ranges.log)

      cut_from : (x : ℕ) → q.end ≤ x ⊎ Stays (replica_at s a) q x → ((j : ℕ) → j < 5 → InDoubt d j a x) ⊎ Stays (replica_at s a) q x
      cut_from x (inl h) =
          inl (λ j k. record { leader = member_all j k; unknown = member_removed all_five a; from = rw (put_read a q l) h })
      cut_from x (inr h) = inr h

  -- ---- kind 4: a log with a record more
  write_exposed : (a : ℕ) (w : Record) → NoMoreExposed (replica_at s a) (append (replica_at s a) w) a
  unfolding append
  write_exposed a w = record { leads = λ q. q; hw = λ q. omega arith; log = λ q. longer_log (replica_at s a) w }

  -- ---- kinds 5 and 6: another ISR in a and in the quorum
  isr_exposed : (a isr : ℕ) → NoMoreExposed (replica_at s a) (with_isr (replica_at s a) isr) a
  unfolding with_isr
  isr_exposed a isr = record { leads = λ q. q; hw = λ q. omega arith; log = λ q. same_log (replica_at s a) }

  isr_in_doubt : (property : Property) (d : Doubt) (a isr : ℕ) → GainsInDoubt property d quorum_isr isr (replica_at s a) (with_isr (replica_at s a) isr) a
      → ((i : ℕ) → i < R → GainsInDoubt property d quorum_isr isr (replica_at s i) (replica_at s i) i) → (i : ℕ) → i < R
      → OnlyInDoubt property d quorum_isr (quorum_update_leader_and_isr s a isr).quorum.isr (replica_at s i) (replica_at (quorum_update_leader_and_isr s a isr) i) i
  unfolding quorum_update_leader_and_isr with_quorum_isr with_replica with_isr
  isr_in_doubt property d a isr own others =
      put_each (OnlyInDoubt property d quorum_isr isr) a (with_isr (replica_at s a) isr)
      (in_doubt_by property d quorum_isr isr _ _ a (isr_exposed a isr) own (λ x. inr (stays x)))
      (λ i l. same_in_doubt property d quorum_isr isr (replica_at s i) i (others i l))
    where
      stays : (x : ℕ) → Stays (replica_at s a) (with_isr (replica_at s a) isr) x
      stays = same_log (replica_at s a)

  leave_own : (property : Property) (a b : ℕ) → a < R
      → let isr = without (replica_at s a).isr b in GainsInDoubt property (shrink_doubt property quorum_isr isr b) quorum_isr isr (replica_at s a) (with_isr (replica_at s a) isr) a
  unfolding isr_by_property shrink_doubt with_isr
  leave_own WeakIsr a b l m x h =
      inr (and_left (member (replica_at s a).isr m) (not (eqb m b)) (sym (member_without (replica_at s a).isr b m) ∙ h))
  leave_own StrongIsr a b l m x h = gained_unless quorum_isr _ b m a x (below_five a l) h

  leave_others : (property : Property) (b isr i : ℕ) → i < R → GainsInDoubt property (shrink_doubt property quorum_isr isr b) quorum_isr isr (replica_at s i) (replica_at s i) i
  unfolding isr_by_property shrink_doubt
  leave_others WeakIsr b isr i l m x h = inr h
  leave_others StrongIsr b isr i l m x h = gained_unless quorum_isr isr b m i x (below_five i l) h

  join_own : (property : Property) (a b : ℕ) → a < R
      → let isr = including (replica_at s a).isr b in GainsInDoubt property (expand_doubt property quorum_isr a b) quorum_isr isr (replica_at s a) (with_isr (replica_at s a) isr) a
  unfolding isr_by_property expand_doubt with_isr
  join_own WeakIsr a b l m x h = go (member (replica_at s a).isr m) refl (sym (member_including (replica_at s a).isr b m (member_below _ m h)) ∙ h)
    where
      go : (t : Bool) → member (replica_at s a).isr m ≡ t → t || eqb m b ≡ true
          → InDoubt (doubt_of (only a) (without all_five b) 0) a m x ⊎ member (replica_at s a).isr m ≡ true
      go true e k = inr e
      go false e k = inl (record { leader = member_only a (below_five a l); unknown = rw (eqb-true m b k) (member_removed all_five b); from = omega arith })
  join_own StrongIsr a b l m x h = gained_or_had quorum_isr m a x (below_five a l)

  join_others : (property : Property) (a b isr i : ℕ) → i < R → GainsInDoubt property (expand_doubt property quorum_isr a b) quorum_isr isr (replica_at s i) (replica_at s i) i
  unfolding isr_by_property expand_doubt
  join_others WeakIsr a b isr i l m x h = inr h
  join_others StrongIsr a b isr i l m x h = gained_or_had quorum_isr m i x (below_five i l)

  -- ---- kind 7: a asks about one offset more
  raise_in_doubt : (property : Property) (a : ℕ) → a < R → (i : ℕ) → i < R
      → OnlyInDoubt property (raised_doubt (leader_inc_high_watermark s a) a) quorum_isr (leader_inc_high_watermark s a).quorum.isr (replica_at s i) (replica_at (leader_inc_high_watermark s a) i) i
  unfolding leader_inc_high_watermark with_replica with_hw
  raise_in_doubt property a l = put_each (OnlyInDoubt property d quorum_isr quorum_isr) a q own (λ j k. unchanged_in_doubt property d quorum_isr (replica_at s j) j)
    where
      q : Replica
      q = with_hw (replica_at s a) ((replica_at s a).hw + 1)

      d : Doubt
      d = doubt_of (only a) 0 ((replica_in (set s.replicas a q) a).hw - 1)

      from : (x : ℕ) → (replica_at s a).hw ≤ x → d.from ≤ x
      from x h = rw (put_read a q l) (omega arith)

      own : OnlyInDoubt property d quorum_isr quorum_isr (replica_at s a) q a
      own =
          record {
            asks = λ m x k. elim (dec_lt x (replica_at s a).hw) [
              | yes h ↦ inr (record { presumes = k.presumes; member = k.member; offset = h }, same_log (replica_at s a) x)
              | no h ↦ inl (record { leader = member_only a (below_five a l); unknown = member_none m; from = from x (omega arith) })
            ];
            log = λ x. inr (same_log (replica_at s a) x);
          }

  -- ---- kind 8: a follows b, and its log has a record more
  replicates_other : (a b : ℕ) → follower_replicate_refusal s a b ≡ accepted → (replica_at s a).leader ≡ Some a → ⊥
  unfolding replica_is_following
  replicates_other a b h q =
      let f = (replicate_accepted s a b).0 h in
      let same : b ≡ a = some-injective b a (sym ((names_iff (replica_at s a).leader b).0 f.follows) ∙ q) in
      let behind : (replica_at s b).end < (replica_at s b).end = rw (← same) at f.behind in
      omega arith

  -- ---- the nine together: what is in doubt
  pub kind_in_doubt : (kind : Kind) (a b e : ℕ) → Operands s.limits kind a b → table_refusal kind s a b e ≡ accepted → (property : Property) → (i : ℕ) → i < R
      → let t = table_effect kind s a b e in
      OnlyInDoubt property (doubt_after kind property quorum_isr t a b e) quorum_isr t.quorum.isr (replica_at s i) (replica_at t i) i
  unfolding table_refusal table_effect uses doubt_after controller_shrink_isr controller_elect_leader controller_update_isr become_leader become_follower_and_truncate_to_hw
      leader_write with_next_record_id with_replica leader_shrink_isr leader_expand_isr quorum_update_leader_and_isr with_quorum_isr follower_replicate with_hw append
  kind_in_doubt ControllerShrinkIsr a b e o h property i l =
      rw (shrink_replicas a (names s.quorum.leader a) (is_alone quorum_isr a))
      (shrink_in_doubt property a (names s.quorum.leader a) (is_alone quorum_isr a) (replica_at s i) i)
  kind_in_doubt ControllerElectLeader a b e o h property i l = unchanged_in_doubt property no_doubt quorum_isr (replica_at s i) i
  kind_in_doubt BecomeLeader a b e o h property i l =
      lead_in_doubt property e (request_at s e).leader refl (met.s2.requests e ((become_leader_accepted s e).0 h).0).below i l
  kind_in_doubt BecomeFollower a b e o h property i l =
      follower_in_doubt property a e (replica_at s a).hw (o.a_below refl) ((become_follower_accepted s a e).0 h).1 i l
  kind_in_doubt LeaderWrite a b e o h property i l =
      put_each (OnlyInDoubt property no_doubt quorum_isr quorum_isr) a _
      (in_doubt_by property no_doubt quorum_isr quorum_isr _ _ a (write_exposed a _) (λ m x k. inr k) (λ x. inr (longer_log (replica_at s a) _ x)))
      (λ j k. unchanged_in_doubt property no_doubt quorum_isr (replica_at s j) j) i l
  kind_in_doubt LeaderShrinkIsr a b e o h property i l =
      isr_in_doubt property (shrink_doubt property quorum_isr _ b) a _ (leave_own property a b (o.a_below refl)) (leave_others property b _) i l
  kind_in_doubt LeaderExpandIsr a b e o h property i l =
      isr_in_doubt property (expand_doubt property quorum_isr a b) a _ (join_own property a b (o.a_below refl)) (join_others property a b _) i l
  kind_in_doubt LeaderIncHighWatermark a b e o h property i l = raise_in_doubt property a (o.a_below refl) i l
  kind_in_doubt FollowerReplicate a b e o h property i l =
      put_each (OnlyInDoubt property no_doubt quorum_isr quorum_isr) a _
      (follower_in_doubt_by property no_doubt quorum_isr quorum_isr _ _ a (replicates_other a b h) (λ x. inr (longer_log (replica_at s a) _ x)))
      (λ j k. unchanged_in_doubt property no_doubt quorum_isr (replica_at s j) j) i l
  kind_in_doubt Unknown a b e o h property i l = unchanged_in_doubt property no_doubt quorum_isr (replica_at s i) i

  -- ---- what is read of the next state is there
  lead_epochs : (e : ℕ) (leader : Leader) → next_leader_epoch_of (lead_by s e leader) ≡ next_leader_epoch_of s
  unfolding lead_by with_replica
  lead_epochs e None = refl
  lead_epochs e (Some b) = refl

  pub request_kept : (kind : Kind) → kind ≡ BecomeLeader → (a b e : ℕ) → table_refusal kind s a b e ≡ accepted → e < next_leader_epoch_of (table_effect kind s a b e)
  unfolding table_refusal table_effect become_leader
  request_kept kind k a b e h =
      rw (k, lead_epochs e (request_at s e).leader) ((become_leader_accepted s e).0 (rw k at h)).0

  pub hw_raised : (kind : Kind) → kind ≡ LeaderIncHighWatermark → (a b e : ℕ) → Operands s.limits kind a b → 1 ≤ (replica_at (table_effect kind s a b e) a).hw
  unfolding table_effect uses leader_inc_high_watermark with_replica with_hw
  hw_raised kind k a b e o =
      let l : a < R = o.a_below (ap (λ (j : Kind). (uses j).a) k) in
      rw (k, put_read a (with_hw (replica_at s a) ((replica_at s a).hw + 1)) l) (omega arith)

  -- ---- and what is exposed: nothing more by kind 3, whatever the offset
  pub cut_exposed : (a e offset : ℕ) → names (request_at s e).leader a ≡ false → (i : ℕ) → i < R
      → NoMoreExposed (replica_at s i) (replica_at (become_follower_at s a e offset) i) i
  unfolding become_follower_at with_replica
  cut_exposed a e offset other =
      put_each NoMoreExposed a _ (follower_exposed _ _ a (follows_other a e offset other)) (λ j k. same_exposed (replica_at s j) j)

  -- nor by any kind but 2 and 7
  pub kind_exposed : (kind : Kind) (a b e : ℕ) → table_refusal kind s a b e ≡ accepted → exposing kind ≡ false → (i : ℕ) → i < R
      → NoMoreExposed (replica_at s i) (replica_at (table_effect kind s a b e) i) i
  unfolding table_refusal table_effect exposing controller_shrink_isr controller_elect_leader controller_update_isr become_follower_and_truncate_to_hw become_follower_at
      leader_write with_next_record_id with_replica leader_shrink_isr leader_expand_isr quorum_update_leader_and_isr with_quorum_isr follower_replicate with_hw append
  kind_exposed ControllerShrinkIsr a b e h more i l =
      rw (shrink_replicas a (names s.quorum.leader a) (is_alone quorum_isr a)) (same_exposed (replica_at s i) i)
  kind_exposed ControllerElectLeader a b e h more i l = same_exposed (replica_at s i) i
  kind_exposed BecomeLeader a b e h more i l = absurd (true_false more)
  kind_exposed BecomeFollower a b e h more i l = cut_exposed a e (replica_at s a).hw ((become_follower_accepted s a e).0 h).1 i l
  kind_exposed LeaderWrite a b e h more i l = put_each NoMoreExposed a _ (write_exposed a _) (λ j k. same_exposed (replica_at s j) j) i l
  kind_exposed LeaderShrinkIsr a b e h more i l = put_each NoMoreExposed a _ (isr_exposed a _) (λ j k. same_exposed (replica_at s j) j) i l
  kind_exposed LeaderExpandIsr a b e h more i l = put_each NoMoreExposed a _ (isr_exposed a _) (λ j k. same_exposed (replica_at s j) j) i l
  kind_exposed LeaderIncHighWatermark a b e h more i l = absurd (true_false more)
  kind_exposed FollowerReplicate a b e h more i l = put_each NoMoreExposed a _ (follower_exposed _ _ a (replicates_other a b h)) (λ j k. same_exposed (replica_at s j) j) i l
  kind_exposed Unknown a b e h more i l = same_exposed (replica_at s i) i
