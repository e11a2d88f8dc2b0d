-- Kinds 0 and 1, ControllerShrinkIsr and ControllerElectLeader: the source's action with the replica a as its choice is the
-- engine's. Assumes nothing.
--
--   Updated leader isr      ControllerUpdateIsr leads from u to v with this leader and ISR, and all else is unchanged
--   updated_iff             Updated holds exactly where an epoch is left and v is the meaning of the engine's updated state
--   ShrinkStep a            the engine accepts kind 0 of a, and v is the meaning of its next state
--   controller_shrink_iff   ControllerShrinkIsr of a holds exactly where ShrinkStep does
--   ElectStep a             the engine accepts kind 1 of a, and v is the meaning of its next state
--   elect_iff               ControllerElectLeader of a holds exactly where ElectStep does
use Rattle.std.specs.Prelude.{ℕ, ◌≡◌, refl, Bool, ◌↔◌, None, Some}
use Rattle.std.proofs.Common.{sym, ◌∙◌, inl, inr, arith}
use Rattle.std.proofs.Math.Bool.{true, false}
use Rattle.std.proofs.Math.Option.{some}
use Rattle.logic.specs.Tests.{refuted_iff}
use Rattle.parts.specs.Refusal.{accepted}
use Rattle.parts.specs.Isr.{member, without, is_alone}
use Rattle.parts.specs.Leader.{Leader, names}
use Rattle.parts.specs.LeaderLaws.{names_iff}
use Rattle.cluster.specs.declared.State.{State}
use Rattle.cluster.specs.State.{next_leader_epoch_of, controller_update_isr}
use Rattle.cluster.specs.Actions.{controller_shrink_isr_refusal, shrink_by, controller_shrink_isr, controller_elect_leader_refusal, controller_elect_leader}
use Rattle.cluster.specs.Accepted.{EpochLeft, controller_shrink_accepted, elect_accepted}
use Rattle.actions.specs.Sound.{Sound}
use Rattle.published.specs.KafkaReplication.{Constants, ModelState, ◌is_in◌, singleton, UnchangedNextRecordId, UnchangedReplicaLog, UnchangedReplicaState, ControllerUpdateIsr, ControllerShrinkIsrWith, ControllerElectLeaderWith}
use Rattle.published.specs.Meaning.{constants_of, leader_of, meaning, Means}
use Rattle.published.specs.Sets.{members_without, members_alone}
use Rattle.published.specs.Reading.{leader_names_iff, quorum_at}
use Rattle.published.specs.Changes.{controller_iff}

module _ (s : State) (d : Sound s.limits s) (u : ModelState) (m : Means s.limits u s) (v : ModelState) where
  abbrev k : Constants
  k = constants_of s.limits

  -- ---- ControllerUpdateIsr, with all else unchanged
  abbrev RestUnchanged : Type 0
  RestUnchanged = UnchangedNextRecordId k u v × UnchangedReplicaLog k u v × UnchangedReplicaState k u v

  abbrev Updated : Leader → ℕ → Type 0
  Updated leader isr = ControllerUpdateIsr k u v (leader_of leader) (member isr) × RestUnchanged

  updated_iff : (leader : Leader) (isr : ℕ) → Updated leader isr ↔ EpochLeft s × Means s.limits v (controller_update_isr s leader isr)
  unfolding meaning
  updated_iff leader isr = (
    (λ t.
        let epoch : t.0.0 ≡ next_leader_epoch_of s = t.0.2.0 ∙ m.nextLeaderEpoch in
        let left : EpochLeft s = omega (arith, epoch, t.0.1) in (
          left,
          (controller_iff s d u m leader isr left v).0
              (record {
                replicaLog = t.1.1;
                replicaState = t.1.2;
                nextRecordId = t.1.0;
                nextLeaderEpoch = t.0.2.2;
                leaderAndIsrRequests = rw epoch at t.0.4;
                quorumState = rw epoch at t.0.3;
              }),
        )),
    (λ t.
        let n = (controller_iff s d u m leader isr t.0 v).1 t.1 in (
          (
            next_leader_epoch_of s,
            omega (arith, t.0),
            (sym m.nextLeaderEpoch, omega (arith, t.0), n.nextLeaderEpoch),
            n.quorumState,
            n.leaderAndIsrRequests,
          ),
          (n.nextRecordId, n.replicaLog, n.replicaState),
        )),
  )

  -- ---- kind 0
  -- the engine accepts, and v is the meaning of its next state
  abbrev ShrinkStep : ℕ → Type 0
  ShrinkStep a = (controller_shrink_isr_refusal s a ≡ accepted) × Means s.limits v (controller_shrink_isr s a)

  -- where the engine's effect on a member a is this update, the source's update is the engine's step
  shrink_case : (a : ℕ) (leader : Leader) (isr : ℕ) → member s.quorum.isr a ≡ true → controller_shrink_isr s a ≡ controller_update_isr s leader isr
      → Updated leader isr ↔ ShrinkStep a
  shrink_case a leader isr h e =
      rw e (
        (λ t. let n = (updated_iff leader isr).0 t in ((controller_shrink_accepted s a d.rules.s1).1 (h, n.0), n.1)),
        (λ t. (updated_iff leader isr).1 (((controller_shrink_accepted s a d.rules.s1).0 t.0).1, t.1)),
      )

  -- the effect, by whether a leads and whether it is alone
  effect_by : (a : ℕ) (leads alone : Bool) → names s.quorum.leader a ≡ leads → is_alone s.quorum.isr a ≡ alone
      → controller_shrink_isr s a ≡ shrink_by leads alone s a
  unfolding controller_shrink_isr
  effect_by a leads alone n h = rw (n, h)

  leader_member : (a : ℕ) → names s.quorum.leader a ≡ true → member s.quorum.isr a ≡ true
  leader_member a n = d.rules.s4.quorum a ((names_iff s.quorum.leader a).0 n)

  leads_alone : (a : ℕ) → names s.quorum.leader a ≡ true → is_alone s.quorum.isr a ≡ true → Updated None s.quorum.isr ↔ ShrinkStep a
  unfolding shrink_by
  leads_alone a n h = shrink_case a None s.quorum.isr (leader_member a n) (effect_by a true true n h)

  leads_others : (a : ℕ) → names s.quorum.leader a ≡ true → is_alone s.quorum.isr a ≡ false
      → Updated None (without s.quorum.isr a) ↔ ShrinkStep a
  unfolding shrink_by
  leads_others a n h = shrink_case a None (without s.quorum.isr a) (leader_member a n) (effect_by a true false n h)

  leads_not : (a : ℕ) → names s.quorum.leader a ≡ false → member s.quorum.isr a ≡ true
      → Updated s.quorum.leader (without s.quorum.isr a) ↔ ShrinkStep a
  unfolding shrink_by
  leads_not a n h = shrink_case a s.quorum.leader (without s.quorum.isr a) h (effect_by a false _ n refl)

  module _ (a : ℕ) where
    leads : leader_of s.quorum.leader ≡ some a ↔ names s.quorum.leader a ≡ true
    leads = leader_names_iff s.quorum.leader a

    alone : member s.quorum.isr ≡ singleton a ↔ is_alone s.quorum.isr a ≡ true
    alone = members_alone s.quorum.isr a

    -- the three cases of the source
    shrink_to : ControllerShrinkIsrWith k u v a → ShrinkStep a
    shrink_to t =
        let c = rw (quorum_at s u m) at t in
        let rest : RestUnchanged = (t.1, t.2, t.3) in
        elim c.0 [
          | inl x ↦ (leads_alone a (leads.0 x.0) (alone.0 x.1)).0 (x.2, rest)
          | inr (inl x) ↦
              (leads_others a (leads.0 x.0) ((refuted_iff _ alone).0 x.1)).0 (rw (members_without s.quorum.isr a) x.2, rest)
          | inr (inr x) ↦
              (leads_not a ((refuted_iff _ leads).0 x.0) x.1).0 (rw (members_without s.quorum.isr a) x.2, rest)
        ]

    shrink_from : ShrinkStep a → ControllerShrinkIsrWith k u v a
    shrink_from t = go (names s.quorum.leader a) (is_alone s.quorum.isr a) refl refl
      where
        go : (x y : Bool) → names s.quorum.leader a ≡ x → is_alone s.quorum.isr a ≡ y → ControllerShrinkIsrWith k u v a
        go true true n h =
            let w = (leads_alone a n h).1 t in
            rw (quorum_at s u m) (inl (leads.1 n, alone.1 h, w.0), w.1.0, w.1.1, w.1.2)
        go true false n h =
            let w = (leads_others a n h).1 t in
            rw (quorum_at s u m, ← (members_without s.quorum.isr a))
            (inr (inl (leads.1 n, (refuted_iff _ alone).1 h, w.0)), w.1.0, w.1.1, w.1.2)
        go false y n h =
            let i = ((controller_shrink_accepted s a d.rules.s1).0 t.0).0 in
            let w = (leads_not a n i).1 t in
            rw (quorum_at s u m, ← (members_without s.quorum.isr a))
            (inr (inr ((refuted_iff _ leads).1 n, i, w.0)), w.1.0, w.1.1, w.1.2)

    pub controller_shrink_iff : ControllerShrinkIsrWith k u v a ↔ ShrinkStep a
    controller_shrink_iff = (shrink_to, shrink_from)

  -- ---- kind 1
  abbrev ElectStep : ℕ → Type 0
  ElectStep a = (controller_elect_leader_refusal s a ≡ accepted) × Means s.limits v (controller_elect_leader s a)

  pub elect_iff : (a : ℕ) → a is_in u.quorumState.isr × ControllerElectLeaderWith k u v a ↔ ElectStep a
  unfolding controller_elect_leader
  elect_iff a =
      rw (quorum_at s u m) (
        (λ t.
            let n = (updated_iff (Some a) s.quorum.isr).0 (t.1.1, (t.1.2, t.1.3, t.1.4)) in
            ((elect_accepted s a d.rules.s1).1 (t.0, (refuted_iff _ (leads a)).0 t.1.0, n.0), n.1)),
        (λ t.
            let f = (elect_accepted s a d.rules.s1).0 t.0 in
            let n = (updated_iff (Some a) s.quorum.isr).1 (f.2, t.1) in
            (f.0, ((refuted_iff _ (leads a)).1 f.1, n.0, n.1.0, n.1.1, n.1.2))),
      )
