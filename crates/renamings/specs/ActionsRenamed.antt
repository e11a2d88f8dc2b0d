-- The nine actions under a renaming: the renamed action on the renamed state gets the same number, and its effect is the
-- renamed effect. Assumes nothing.
--
--   ren t, ren_replica q                       a state and a replica under the renaming p
--   presumes_renamed .. passes_renamed         the tests that the actions share: of p(a) in the renamed state as of a in the state
--   refusal_renamed                            the table refuses the renamed action on the renamed state with the same number
--   update_renamed .. isr_renamed              the changes that the effects are made of
--   effect_renamed                             the effect of the renamed action on the renamed state is the effect, renamed
use Rattle.std.specs.Prelude.{ℕ, ◌+◌, ◌≤◌, min, ◌≡◌, Bool, ◌||◌, ℤ, pos, length, None, Some}
use Rattle.std.proofs.Math.Path.{refl, sym, ap₂}
use Rattle.std.proofs.Common.{ap, ◌∙◌, le_refl}
use Rattle.std.proofs.Math.Bool.{true, false, not}
use Rattle.logic.specs.Tests.{every_cong}
use Rattle.logic.specs.Maps.{map_set}
use Rattle.parts.specs.Isr.{member, without, including, is_alone}
use Rattle.parts.specs.Leader.{Leader, names}
use Rattle.replica.specs.declared.Replica.{Replica}
use Rattle.replica.specs.Replica.{record_at, tidy_replica}
use Rattle.replica.specs.Change.{with_hw, with_isr, with_end, with_request, append, truncate_to, truncate_under, become_follower_and_truncate_to}
use Rattle.cluster.specs.declared.State.{State}
use Rattle.cluster.specs.declared.MemberTest.{MemberTest}
use Rattle.cluster.specs.declared.MemberTest.TheVariants.{IsFollowing, HasOffset}
use Rattle.cluster.specs.declared.Kind.{Kind}
use Rattle.cluster.specs.declared.Kind.TheVariants.{ControllerShrinkIsr, ControllerElectLeader, BecomeLeader, BecomeFollower, LeaderWrite, LeaderShrinkIsr, LeaderExpandIsr, LeaderIncHighWatermark, FollowerReplicate, Unknown}
use Rattle.cluster.specs.State.{replica_count_of, next_leader_epoch_of, next_record_id_of, request_at, replica_at, with_replica, with_quorum_isr, with_next_record_id, controller_update_isr}
use Rattle.cluster.specs.Actions.{replica_presumes_leadership, replica_is_following, is_true_leader, is_follower_caught_up, epochs_used_up, request_missing, epoch_not_above, controller_shrink_isr_refusal, shrink_by, controller_shrink_isr, controller_elect_leader_refusal, controller_elect_leader, leader_refusal, become_leader_refusal, lead_by, become_leader, become_follower_refusal, become_follower_at, become_follower_and_truncate_to_hw, leader_write_refusal, next_record, leader_write, quorum_update_leader_and_isr, leader_shrink_isr_refusal, leader_shrink_isr, leader_expand_isr_refusal, leader_expand_isr, passes_test, member_passes, members_pass, leader_inc_high_watermark_refusal, leader_inc_high_watermark, follower_replicate_refusal, follower_replicate}
use Rattle.cluster.specs.Act.{table_refusal, table_effect}
use Rattle.renamings.specs.Renaming.{Renaming, eqb_to, all_to}
use Rattle.renamings.specs.Rename.{rename_leader, rename_isr, rename_request, rename_replica, rename_state}
use Rattle.renamings.specs.PartsRenamed.{member_renamed, without_renamed, including_renamed, alone_renamed, names_renamed, replica_renamed, request_renamed, with_replica_renamed}

module _ (s : State) (p : Renaming (replica_count_of s.limits)) (five : replica_count_of s.limits ≤ 5) (l : length s.replicas ≡ 5) where
  abbrev ren : State → State
  ren = rename_state p.to p.from

  abbrev ren_replica : Replica → Replica
  ren_replica = rename_replica p.to p.from

  replica-at : (i : ℕ) → replica_at (ren s) (p.to i) ≡ ren_replica (replica_at s i)
  replica-at i = replica_renamed p five s i l

  -- ---- the tests that the actions share
  pub presumes_renamed : (a : ℕ) → replica_presumes_leadership (ren s) (p.to a) ≡ replica_presumes_leadership s a
  unfolding replica_presumes_leadership
  presumes_renamed a = rw (replica-at a) (names_renamed p five (replica_at s a).leader a)

  following_renamed : (a b : ℕ) → replica_is_following (ren s) (p.to a) (p.to b) ≡ replica_is_following s a b
  unfolding replica_is_following
  following_renamed a b = rw (replica-at a) (names_renamed p five (replica_at s a).leader b)

  true_leader_renamed : (a : ℕ) → is_true_leader (ren s) (p.to a) ≡ is_true_leader s a
  unfolding is_true_leader
  true_leader_renamed a =
      every_cong _ _ _ _ (presumes_renamed a) (every_cong _ _ _ _ (names_renamed p five s.quorum.leader a) (rw (replica-at a) refl))

  caught_up_renamed : (a b n : ℕ) → is_follower_caught_up (ren s) (p.to a) (p.to b) n ≡ is_follower_caught_up s a b n
  unfolding is_follower_caught_up
  caught_up_renamed a b n = rw (following_renamed b a, replica-at b) refl

  not_above_renamed : (a e : ℕ) → epoch_not_above (ren s) (p.to a) e ≡ epoch_not_above s a e
  unfolding epoch_not_above
  not_above_renamed a e = rw (replica-at a) refl

  pub isr_member_renamed : (a m : ℕ) → member (replica_at (ren s) (p.to a)).isr (p.to m) ≡ member (replica_at s a).isr m
  isr_member_renamed a m = rw (replica-at a) (member_renamed p five (replica_at s a).isr m)

  pub passes_test_renamed : (test : MemberTest) (a m : ℕ) → passes_test test (ren s) (p.to a) (p.to m) ≡ passes_test test s a m
  unfolding passes_test
  passes_test_renamed IsFollowing a m = following_renamed m a
  passes_test_renamed HasOffset a m = rw (replica-at a, replica-at m) refl

  passes_renamed : (test : MemberTest) (a : ℕ) → members_pass test (ren s) (p.to a) ≡ members_pass test s a
  unfolding member_passes
  passes_renamed test a =
      all_to p (replica_count_of s.limits) (le_refl (replica_count_of s.limits)) (member_passes test (ren s) (p.to a)) (member_passes test s a)
      (λ m h. ap₂ (λ b c. not b || c) (isr_member_renamed a m) (passes_test_renamed test a m))

  -- ---- the refusals
  leader_refusal_renamed : (e : ℕ) (leader : Leader) → leader_refusal (ren s) e (rename_leader p.to leader) ≡ leader_refusal s e leader
  unfolding leader_refusal rename_leader
  leader_refusal_renamed e None = refl
  leader_refusal_renamed e (Some b) = rw (not_above_renamed b e) refl

  -- the table refuses with the same number
  pub refusal_renamed : (kind : Kind) (a b e : ℕ) → table_refusal kind (ren s) (p.to a) (p.to b) e ≡ table_refusal kind s a b e
  unfolding table_refusal controller_shrink_isr_refusal controller_elect_leader_refusal become_leader_refusal become_follower_refusal leader_write_refusal
      leader_shrink_isr_refusal leader_expand_isr_refusal leader_inc_high_watermark_refusal follower_replicate_refusal epochs_used_up request_missing
  refusal_renamed ControllerShrinkIsr a b e = rw (member_renamed p five s.quorum.isr a) refl
  refusal_renamed ControllerElectLeader a b e = rw (member_renamed p five s.quorum.isr a, names_renamed p five s.quorum.leader a) refl
  refusal_renamed BecomeLeader a b e = rw (request_renamed p five s e, leader_refusal_renamed e (request_at s e).leader) refl
  refusal_renamed BecomeFollower a b e = rw (request_renamed p five s e, names_renamed p five (request_at s e).leader a, not_above_renamed a e) refl
  refusal_renamed LeaderWrite a b e = rw (presumes_renamed a, replica-at a) refl
  refusal_renamed LeaderShrinkIsr a b e =
      rw (eqb_to p a b, true_leader_renamed a, replica-at a, member_renamed p five (replica_at s a).isr b, caught_up_renamed a b (replica_at s a).end) refl
  refusal_renamed LeaderExpandIsr a b e =
      rw (true_leader_renamed a, replica-at a, member_renamed p five (replica_at s a).isr b, caught_up_renamed a b (replica_at s a).hw) refl
  refusal_renamed LeaderIncHighWatermark a b e = rw (presumes_renamed a, passes_renamed IsFollowing a, passes_renamed HasOffset a) refl
  refusal_renamed FollowerReplicate a b e = rw (presumes_renamed b, following_renamed a b, replica-at a, replica-at b) refl
  refusal_renamed Unknown a b e = refl

  -- ---- the effects
  update_renamed : (leader : Leader) (isr : ℕ)
      → ren (controller_update_isr s leader isr) ≡ controller_update_isr (ren s) (rename_leader p.to leader) (rename_isr p.from isr)
  unfolding controller_update_isr
  update_renamed leader isr =
      rw (map_set (rename_request p.to p.from) s.requests (next_leader_epoch_of s) (record { leader = leader; isr = isr })) refl

  put_renamed : (i : ℕ) (r : Replica) → ren (with_replica s i r) ≡ with_replica (ren s) (p.to i) (ren_replica r)
  put_renamed i r = with_replica_renamed p five s i r l

  shrink_renamed : (leads alone : Bool) (a : ℕ) → shrink_by leads alone (ren s) (p.to a) ≡ ren (shrink_by leads alone s a)
  unfolding shrink_by rename_leader
  shrink_renamed true true a = sym (update_renamed None s.quorum.isr)
  shrink_renamed true false a = rw (← without_renamed p five s.quorum.isr a) (sym (update_renamed None (without s.quorum.isr a)))
  shrink_renamed false alone a =
      rw (← without_renamed p five s.quorum.isr a) (sym (update_renamed s.quorum.leader (without s.quorum.isr a)))

  follower_renamed : (q : Replica) (epoch : ℤ) (leader : Leader) (isr offset : ℕ)
      → ren_replica (become_follower_and_truncate_to q epoch leader isr offset)
      ≡ become_follower_and_truncate_to (ren_replica q) epoch (rename_leader p.to leader) (rename_isr p.from isr) offset
  unfolding become_follower_and_truncate_to with_request with_hw truncate_under truncate_to tidy_replica with_end rename_leader
  follower_renamed q epoch None isr offset = refl
  follower_renamed q epoch (Some b) isr offset = refl

  lead_renamed : (e : ℕ) (leader : Leader) → lead_by (ren s) e (rename_leader p.to leader) ≡ ren (lead_by s e leader)
  unfolding lead_by rename_leader with_request
  lead_renamed e None = refl
  lead_renamed e (Some b) =
      rw (replica-at b, request_renamed p five s e) (sym (put_renamed b (with_request (replica_at s b) (pos e) (Some b) (request_at s e).isr)))

  isr_renamed : (a isr : ℕ) → quorum_update_leader_and_isr (ren s) (p.to a) (rename_isr p.from isr) ≡ ren (quorum_update_leader_and_isr s a isr)
  unfolding quorum_update_leader_and_isr with_quorum_isr with_isr
  isr_renamed a isr =
      rw (replica-at a) (ap (λ (t : State). with_quorum_isr t (rename_isr p.from isr)) (sym (put_renamed a (with_isr (replica_at s a) isr))))

  -- the effect is the renamed effect
  pub effect_renamed : (kind : Kind) (a b e : ℕ) → table_effect kind (ren s) (p.to a) (p.to b) e ≡ ren (table_effect kind s a b e)
  unfolding table_effect controller_shrink_isr controller_elect_leader become_leader become_follower_and_truncate_to_hw become_follower_at leader_write
      leader_shrink_isr leader_expand_isr leader_inc_high_watermark follower_replicate rename_leader with_next_record_id append with_hw
  effect_renamed ControllerShrinkIsr a b e =
      rw (names_renamed p five s.quorum.leader a, alone_renamed p five s.quorum.isr a)
      (shrink_renamed (names s.quorum.leader a) (is_alone s.quorum.isr a) a)
  effect_renamed ControllerElectLeader a b e = sym (update_renamed (Some a) s.quorum.isr)
  effect_renamed BecomeLeader a b e = rw (request_renamed p five s e) (lead_renamed e (request_at s e).leader)
  effect_renamed BecomeFollower a b e =
      rw (replica-at a, request_renamed p five s e)
      (ap (with_replica (ren s) (p.to a)) (sym (follower_renamed (replica_at s a) (pos e) (request_at s e).leader (request_at s e).isr (replica_at s a).hw))
      ∙ sym
      (put_renamed a
      (become_follower_and_truncate_to (replica_at s a) (pos e) (request_at s e).leader (request_at s e).isr (replica_at s a).hw)))
  effect_renamed LeaderWrite a b e =
      rw (replica-at a) (ap (λ (t : State). with_next_record_id t (next_record_id_of s + 1)) (sym (put_renamed a (append (replica_at s a) (next_record s a)))))
  effect_renamed LeaderShrinkIsr a b e =
      rw (replica-at a, ← without_renamed p five (replica_at s a).isr b) (isr_renamed a (without (replica_at s a).isr b))
  effect_renamed LeaderExpandIsr a b e =
      rw (replica-at a, ← including_renamed p five (replica_at s a).isr b) (isr_renamed a (including (replica_at s a).isr b))
  effect_renamed LeaderIncHighWatermark a b e = rw (replica-at a) (sym (put_renamed a (with_hw (replica_at s a) ((replica_at s a).hw + 1))))
  effect_renamed FollowerReplicate a b e =
      rw (replica-at a, replica-at b)
      (sym
      (put_renamed a
      (with_hw (append (replica_at s a) (record_at (replica_at s b) (replica_at s a).end)) (min (replica_at s b).hw ((replica_at s a).end + 1)))))
  effect_renamed Unknown a b e = refl
