-- Kinds 5, 6 and 7, LeaderShrinkIsr, LeaderExpandIsr and LeaderIncHighWatermark: the source's action with replica a, and in kinds
-- 5 and 6 also b, as its choices is the engine's. Assumes nothing.
--
--   states_with isr         the model's local states, a's with this ISR
--   update_iff              QuorumUpdateLeaderAndIsr by a, with all else unchanged, holds exactly where a is the true leader and
--                           v is the meaning of the engine's updated state
--   leader_shrink_iff       LeaderShrinkIsr of a and b holds exactly where the engine accepts kind 5 and v is the meaning of its
--                           next state
--   leader_expand_iff       the same of LeaderExpandIsr and kind 6
--   AllHave offset          what LeaderIncHighWatermark asks of the members of a's ISR
--   all_have_iff            of a's high watermark it holds exactly where every member passes both of the engine's tests
--   hw_below_size           where the engine accepts kind 7, a's high watermark is below LogSize, so it is one of Offsets
--   inc_iff                 LeaderIncHighWatermark of a holds exactly where the engine accepts kind 7 and v is the meaning of its
--                           next state
--   IncEnabled k u a        LeaderIncHighWatermark of a is enabled: it leads from u to some state of the model
--   inc_not_following_iff   kind 7 gives 48 exactly where a presumes and some member of its ISR does not follow it
--   inc_lacks_offset_iff    it gives 49 exactly where a presumes, all members follow it and some member lacks the offset
--   inc_enabled_iff         LeaderIncHighWatermark of a is enabled exactly where the engine accepts kind 7
--   inc_refused_iff         kind 7 gives 48 or 49 exactly where a presumes and LeaderIncHighWatermark of a is not enabled
use Rattle.std.specs.Prelude.{ℕ, ◌+◌, ◌<◌, ◌≡◌, refl, Bool, true, false, not, ◌↔◌, ◌⊎◌, eqb}
use Rattle.std.proofs.Math.Path.{sym, ap}
use Rattle.std.proofs.Common.{◌∙◌, inl, inr, arith}
use Rattle.std.proofs.Math.Logic.Iff
use borrow.Author.Tests.{lt-ltb, ltb-true, eqb-false, ne_eqb, not-true}
use Rattle.logic.specs.Tests.{refuted_iff, and_left, and_right, and_both}
use Rattle.parts.specs.Refusal.{accepted, member_not_following, member_lacks_offset}
use Rattle.parts.specs.Isr.{member, without, including}
use Rattle.replica.specs.declared.Replica.{Replica}
use Rattle.replica.specs.Change.{with_hw, with_isr}
use Rattle.cluster.specs.declared.Quorum.{Quorum}
use Rattle.cluster.specs.declared.State.{State}
use Rattle.cluster.specs.declared.MemberTest.TheVariants.{IsFollowing, HasOffset}
use Rattle.cluster.specs.Rules.{rules}
use Rattle.cluster.specs.Predicates.{rules_iff}
use Rattle.cluster.specs.State.{replica_count_of, log_size_of, next_record_id_of, replica_at, with_replica, with_quorum_isr}
use Rattle.cluster.specs.Actions.{replica_presumes_leadership, is_true_leader, is_follower_caught_up, quorum_update_leader_and_isr, leader_shrink_isr_refusal, leader_shrink_isr, leader_expand_isr_refusal, leader_expand_isr, members_pass, leader_inc_high_watermark_refusal, leader_inc_high_watermark}
use Rattle.cluster.specs.Accepted.{leader_shrink_accepted, leader_expand_accepted, advance_accepted, own_hw}
use Rattle.actions.specs.Sound.{Sound}
use Rattle.actions.specs.MemberNamed.{not_following_iff, lacks_offset_iff}
use Rattle.published.specs.KafkaReplication.{Constants, ◌is_in◌, Replicas, minus, plus, except_hw, except_isr, LocalState, LeaderAndIsr, ModelState, ReplicaLog·Offsets, ReplicaLog·HasOffset, ReplicaPresumesLeadership, ReplicaIsFollowing, IsFollowerCaughtUp, UnchangedNextRecordId, UnchangedReplicaLog, UnchangedNextLeaderEpoch, UnchangedRequests, QuorumUpdateLeaderAndIsr, LeaderShrinkIsrWith, LeaderExpandIsrWith, LeaderIncHighWatermarkWith}
use Rattle.published.specs.Meaning.{constants_of, meaning, Means}
use Rattle.published.specs.Equality.{same_model_refl}
use Rattle.published.specs.Sets.{members_without, members_including}
use Rattle.published.specs.Reading.{state-at, hw_at, isr_at, log_at, quorum_at, presumes_iff, true_leader_iff, caught_up_iff, member_below, members_pass_iff, member_fails_iff}
use Rattle.published.specs.Changes.{except_same, except_other, Becomes, put_iff, put_only_iff}

module _ (s : State) (d : Sound s.limits s) (u : ModelState) (m : Means s.limits u s) (v : ModelState) (a : ℕ) (l : a < replica_count_of s.limits) where
  abbrev k : Constants
  k = constants_of s.limits

  abbrev R : ℕ
  R = replica_count_of s.limits

  abbrev own : Replica
  own = replica_at s a

  met : rules s ≡ true
  met = (rules_iff s).1 d.rules

  -- ---- QuorumUpdateLeaderAndIsr, with all else unchanged
  abbrev RestUnchanged : Type 0
  RestUnchanged = UnchangedNextRecordId k u v × UnchangedReplicaLog k u v × UnchangedNextLeaderEpoch k u v × UnchangedRequests k u v

  abbrev states_with : ℕ → ℕ → LocalState
  states_with isr = except_isr u.replicaState a (member isr)

  isr_changes : (isr : ℕ) → Becomes u a (with_isr own isr) u.replicaLog (states_with isr)
  unfolding with_isr
  isr_changes isr =
      record {
        own_log = log_at s u m a l;
        other_logs = λ r n. refl;
        own_state =
            except_same u.replicaState a _
            ∙ ap (λ (p : LocalState). record { hw = p.hw; leaderEpoch = p.leaderEpoch; leader = p.leader; isr = member isr }) (state-at s u m a l);
        other_states = except_other u.replicaState a _;
      }

  abbrev with-isr : ℕ → LeaderAndIsr → LeaderAndIsr
  with-isr isr q = record { leaderEpoch = q.leaderEpoch; leader = q.leader; isr = member isr }

  abbrev quorum_with : ℕ → Quorum
  quorum_with isr = record { epoch = s.quorum.epoch; leader = s.quorum.leader; isr = isr }

  update_iff : (isr : ℕ) → QuorumUpdateLeaderAndIsr k u v a (member isr) × RestUnchanged
      ↔ (is_true_leader s a ≡ true) × Means s.limits v (quorum_update_leader_and_isr s a isr)
  unfolding quorum_update_leader_and_isr with_quorum_isr with_replica meaning
  update_iff isr =
      let leads = true_leader_iff s u m a l in
      let put =
      put_iff s d u m a (with_isr own isr) u.replicaLog (states_with isr) u.nextRecordId (next_record_id_of s)
      (with-isr isr u.quorumState) (quorum_with isr) m.nextRecordId (ap (with-isr isr) (quorum_at s u m)) (isr_changes isr) v in (
        (λ t. (
          leads.0 t.0.0,
          put.0
              (record {
                replicaLog = t.1.1;
                replicaState = t.0.3;
                nextRecordId = t.1.0;
                nextLeaderEpoch = t.1.2;
                leaderAndIsrRequests = t.1.3;
                quorumState = t.0.2;
              }),
        )),
        (λ t.
            let n = put.1 t.1 in
            let e = leads.1 t.0 in
            ((e, e.0, n.quorumState, n.replicaState), (n.nextRecordId, n.replicaLog, n.nextLeaderEpoch, n.leaderAndIsrRequests))),
      )

  module _ (b : ℕ) where
    -- ---- kind 5
    -- the members of a's ISR without a
    minus_iff : b is_in minus (member own.isr) a ↔ (member own.isr b ≡ true) × (a ≡ b → ⊥)
    minus_iff = (
      (λ h. (
        and_left (member own.isr b) (not (eqb b a)) h,
        (λ q. eqb-false b a (not-true _ (and_right (member own.isr b) (not (eqb b a)) h)) (sym q)),
      )),
      (λ h. and_both h.0 (ap not (ne_eqb b a (λ q. h.1 (sym q))))),
    )

    behind_iff : b < R → (¬ (IsFollowerCaughtUp k u a b (u.replicaLog a).end)) ↔ is_follower_caught_up s a b own.end ≡ false
    behind_iff lb = refuted_iff _ (caught_up_iff s u m met a b l lb (u.replicaLog a).end own.end (log_at s u m a l).end (omega arith))

    pub leader_shrink_iff : b is_in minus (u.replicaState a).isr a × LeaderShrinkIsrWith k u v a b
        ↔ (b < R) × (leader_shrink_isr_refusal s a b ≡ accepted) × Means s.limits v (leader_shrink_isr s a b)
    unfolding leader_shrink_isr
    leader_shrink_iff =
        rw (isr_at s u m a l, ← (members_without own.isr b)) (
          (λ t.
              let i = minus_iff.0 t.0 in
              let lb = member_below s u m d.rules a l b i.0 in
              let n = (update_iff (without own.isr b)).0 (t.1.1, (t.1.2, t.1.3, t.1.4, t.1.5)) in
              (lb, (leader_shrink_accepted s a b).1 (record { other = i.1; leads = n.0; inside = i.0; behind = (behind_iff lb).0 t.1.0 }), n.1)),
          (λ t.
              let f = (leader_shrink_accepted s a b).0 t.1 in
              let n = (update_iff (without own.isr b)).1 (f.leads, t.2) in (
                minus_iff.1 (f.inside, f.other),
                ((behind_iff t.0).1 f.behind, n.0, n.1.0, n.1.1, n.1.2, n.1.3),
              )),
        )

    -- ---- kind 6
    caught_iff : b < R → IsFollowerCaughtUp k u a b (u.replicaState a).hw ↔ is_follower_caught_up s a b own.hw ≡ true
    caught_iff lb = caught_up_iff s u m met a b l lb (u.replicaState a).hw own.hw (hw_at s u m a l) (d.rules.s5 a l).hw

    outside_iff : (¬ (b is_in member own.isr)) ↔ member own.isr b ≡ false
    outside_iff = refuted_iff (member own.isr b) Iff.rfl

    pub leader_expand_iff : b is_in Replicas k × ¬ (b is_in (u.replicaState a).isr) × LeaderExpandIsrWith k u v a b
        ↔ (b < R) × (leader_expand_isr_refusal s a b ≡ accepted) × Means s.limits v (leader_expand_isr s a b)
    unfolding leader_expand_isr
    leader_expand_iff =
        rw (isr_at s u m a l) (
          (λ t.
              let lb : b < R = ltb-true b R t.0 in
              let n = (update_iff (including own.isr b)).0 (rw (joined lb) t.2.1, (t.2.2, t.2.3, t.2.4, t.2.5)) in
              (lb, (leader_expand_accepted s a b).1 (record { leads = n.0; outside = outside_iff.0 t.1; caught = (caught_iff lb).0 t.2.0 }), n.1)),
          (λ t.
              let f = (leader_expand_accepted s a b).0 t.1 in
              let n = (update_iff (including own.isr b)).1 (f.leads, t.2) in (
                lt-ltb b R t.0,
                outside_iff.1 f.outside,
                ((caught_iff t.0).1 f.caught, rw (← (joined t.0)) n.0, n.1.0, n.1.1, n.1.2, n.1.3),
              )),
        )
      where
        joined : b < R → member (including own.isr b) ≡ plus (member own.isr) b
        joined lb = members_including own.isr b (omega (arith, d.rules.s1.ranges.replicas))

  -- ---- kind 7
  abbrev states_raised : ℕ → LocalState
  states_raised = except_hw u.replicaState a ((u.replicaState a).hw + 1)

  hw_rises : Becomes u a (with_hw own (own.hw + 1)) u.replicaLog states_raised
  unfolding with_hw
  hw_rises =
      record {
        own_log = log_at s u m a l;
        other_logs = λ r n. refl;
        own_state =
            except_same u.replicaState a _
            ∙ ap (λ (p : LocalState). record { hw = p.hw + 1; leaderEpoch = p.leaderEpoch; leader = p.leader; isr = p.isr }) (state-at s u m a l);
        other_states = except_other u.replicaState a _;
      }

  -- what the source asks of the members of a's ISR: each follows a and has the offset. The engine tries the two one after the other
  abbrev AllHave : ℕ → Type 0
  AllHave offset =
      (follower : ℕ) → follower is_in (u.replicaState a).isr → ReplicaIsFollowing u follower a × ReplicaLog·HasOffset u follower offset

  all_have_iff : (offset : ℕ) → offset ≡ (u.replicaState a).hw
      → AllHave offset ↔ (members_pass IsFollowing s a ≡ true) × (members_pass HasOffset s a ≡ true)
  all_have_iff offset q =
      let all_pass = members_pass_iff s u m d.rules a l in
      rw q (
        (λ f. ((all_pass IsFollowing).0 (λ b h. (f b h).0), (all_pass HasOffset).0 (λ b h. (f b h).1))),
        (λ t b h. ((all_pass IsFollowing).1 t.0 b h, (all_pass HasOffset).1 t.1 b h)),
      )

  -- a leads itself, so it is in its own ISR and has the offset of its high watermark: that offset is below LogSize
  hw_below_size : leader_inc_high_watermark_refusal s a ≡ accepted → own.hw < log_size_of s.limits
  hw_below_size h = omega (arith, own_hw s a l (d.rules.s5 a l).own h, d.rules.s2.ends a l)

  pub inc_iff : ((offset : ℕ) × ReplicaLog·Offsets k offset × LeaderIncHighWatermarkWith k u v offset a)
      ↔ (leader_inc_high_watermark_refusal s a ≡ accepted) × Means s.limits v (leader_inc_high_watermark s a)
  unfolding leader_inc_high_watermark
  inc_iff =
      let put = put_only_iff s d u m a (with_hw own (own.hw + 1)) u.replicaLog states_raised hw_rises v in
      let presumes = presumes_iff s u m a l in (
        (λ t.
            let b = t.2 in (
              (let f = (all_have_iff t.0 b.1).0 b.2 in (advance_accepted s a).1 (presumes.0 b.0, f.0, f.1)),
              put.0
                  (record {
                    replicaLog = b.5;
                    replicaState = b.3;
                    nextRecordId = b.4;
                    quorumState = b.6;
                    nextLeaderEpoch = b.7;
                    leaderAndIsrRequests = b.8;
                  }),
            )),
        (λ t.
            let f = (advance_accepted s a).0 t.0 in
            let n = put.1 t.1 in (
              own.hw,
              hw_below_size t.0,
              (
                presumes.1 f.0,
                sym (hw_at s u m a l),
                (all_have_iff own.hw (sym (hw_at s u m a l))).1 (f.1, f.2),
                n.replicaState,
                n.nextRecordId,
                n.replicaLog,
                n.quorumState,
                n.nextLeaderEpoch,
                n.leaderAndIsrRequests,
              ),
            )),
      )

-- ---- kind 7 where it is refused
-- LeaderIncHighWatermark of a is enabled: with some offset it leads to some state of the model
abbrev pub IncEnabled : Constants → ModelState → ℕ → Type 1
IncEnabled k u a = (v : ModelState) × (offset : ℕ) × ReplicaLog·Offsets k offset × LeaderIncHighWatermarkWith k u v offset a

module _ (s : State) (d : Sound s.limits s) (u : ModelState) (m : Means s.limits u s) (a : ℕ) (l : a < replica_count_of s.limits) where
  presumed_iff : ReplicaPresumesLeadership u a ↔ replica_presumes_leadership s a ≡ true
  presumed_iff = presumes_iff s u m a l

  -- which of the source's two conditions on members fails
  pub inc_not_following_iff : leader_inc_high_watermark_refusal s a ≡ member_not_following
      ↔ ReplicaPresumesLeadership u a
      × ((follower : ℕ) × follower is_in (u.replicaState a).isr × ¬ (ReplicaIsFollowing u follower a))
  inc_not_following_iff =
      let fails = member_fails_iff s u m d.rules a l IsFollowing in (
        (λ h. let t = (not_following_iff s a).0 h in (presumed_iff.1 t.0, fails.1 t.1)),
        (λ t. (not_following_iff s a).1 (presumed_iff.0 t.0, fails.0 t.1)),
      )

  pub inc_lacks_offset_iff : leader_inc_high_watermark_refusal s a ≡ member_lacks_offset
      ↔ ReplicaPresumesLeadership u a
      × ((follower : ℕ) → follower is_in (u.replicaState a).isr → ReplicaIsFollowing u follower a)
      × ((follower : ℕ) × follower is_in (u.replicaState a).isr × ¬ (ReplicaLog·HasOffset u follower (u.replicaState a).hw))
  inc_lacks_offset_iff =
      let follow = members_pass_iff s u m d.rules a l IsFollowing in
      let fails = member_fails_iff s u m d.rules a l HasOffset in (
        (λ h. let t = (lacks_offset_iff s a).0 h in (presumed_iff.1 t.0, follow.1 t.1, fails.1 t.2)),
        (λ t. (lacks_offset_iff s a).1 (presumed_iff.0 t.0, follow.0 t.1, fails.0 t.2)),
      )

  -- where neither fails, the action of a is enabled
  pub inc_enabled_iff : IncEnabled (constants_of s.limits) u a ↔ leader_inc_high_watermark_refusal s a ≡ accepted
  inc_enabled_iff = (
    (λ t. ((inc_iff s d u m t.0 a l).0 (t.1, t.2, t.3)).0),
    (λ h.
        let v = meaning (leader_inc_high_watermark s a) in
        let t = (inc_iff s d u m v a l).1 (h, same_model_refl (constants_of s.limits) v) in
        (v, t.0, t.1, t.2)),
  )

  -- 48 or 49 is given
  abbrev RefusedByMember : Type 0
  RefusedByMember = (leader_inc_high_watermark_refusal s a ≡ member_not_following) ⊎ (leader_inc_high_watermark_refusal s a ≡ member_lacks_offset)

  one_fails : replica_presumes_leadership s a ≡ true → (leader_inc_high_watermark_refusal s a ≡ accepted → ⊥) → RefusedByMember
  one_fails p n = go (members_pass IsFollowing s a) refl (members_pass HasOffset s a) refl
    where
      go : (b : Bool) → members_pass IsFollowing s a ≡ b → (c : Bool) → members_pass HasOffset s a ≡ c → RefusedByMember
      go false e c f = inl ((not_following_iff s a).1 (p, e))
      go true e false f = inr ((lacks_offset_iff s a).1 (p, e, f))
      go true e true f = absurd (n ((advance_accepted s a).1 (p, e, f)))

  pub inc_refused_iff : RefusedByMember ↔ ReplicaPresumesLeadership u a × ¬ (IncEnabled (constants_of s.limits) u a)
  inc_refused_iff = (
    (λ h.
        elim h [
          | inl e ↦ ((inc_not_following_iff.0 e).0, λ t. omega (arith, e, inc_enabled_iff.0 t))
          | inr e ↦ ((inc_lacks_offset_iff.0 e).0, λ t. omega (arith, e, inc_enabled_iff.0 t))
        ]),
    (λ t. one_fails (presumed_iff.0 t.0) (λ h. t.1 (inc_enabled_iff.1 h))),
  )
