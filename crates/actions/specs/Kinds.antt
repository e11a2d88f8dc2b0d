-- Each of the nine kinds of action, where it is accepted, leads from a sound state to a sound state of the same configuration.
-- Assumes nothing.
--
--   controller_shrink_sound     kind 0
--   elect_sound                 kind 1
--   become_leader_sound         kind 2
--   become_follower_at_sound    a replica takes a request that was sent, as follower, and cuts its log to any offset
--   become_follower_sound       kind 3: the offset is its high watermark
--   write_sound                 kind 4
--   update_sound                the true leader's ISR put anew, in it and in the quorum, which kinds 5 and 6 share
--   leader_shrink_sound         kind 5
--   leader_expand_sound         kind 6
--   advance_sound               kind 7
--   replicate_sound             kind 8
--   kind_sound                  the nine together: the kind's effect, where its operands fit and the table does not refuse it
use Rattle.std.specs.Prelude.{ℕ, ◌+◌, ◌^◌, ◌<◌, ◌≡◌, Bool, pos, None, Some}
use Rattle.std.proofs.Math.Path.{refl}
use Rattle.std.proofs.Common.{sym, ◌∙◌, arith}
use Rattle.std.proofs.Math.Bool.{true, false}
use Rattle.logic.specs.Tests.{true_false}
use Rattle.parts.specs.Refusal.{accepted}
use Rattle.parts.specs.Isr.{member, without, including, is_alone}
use Rattle.parts.specs.IsrLaws.{without_below, including_below, stays_without, stays_including}
use Rattle.parts.specs.Leader.{Leader, names}
use Rattle.parts.specs.LeaderLaws.{none_some, some-injective, names_iff}
use Rattle.replica.specs.LogLaws.{InUse}
use Rattle.replica.specs.Change.{with_hw, with_isr, with_request, append}
use Rattle.cluster.specs.declared.Limits.{Limits}
use Rattle.cluster.specs.declared.State.{State}
use Rattle.cluster.specs.State.{replica_count_of, next_leader_epoch_of, next_record_id_of, request_at, replica_at, with_replica, controller_update_isr}
use Rattle.cluster.specs.Predicates.{Rules}
use Rattle.cluster.specs.Actions.{controller_shrink_isr_refusal, shrink_by, controller_shrink_isr, controller_elect_leader_refusal, controller_elect_leader, leader_refusal, become_leader_refusal, lead_by, become_leader, become_follower_refusal, become_follower_at, become_follower_and_truncate_to_hw, leader_write_refusal, next_record, leader_write, quorum_update_leader_and_isr, leader_shrink_isr_refusal, leader_shrink_isr, leader_expand_isr_refusal, leader_expand_isr, leader_inc_high_watermark_refusal, leader_inc_high_watermark, follower_replicate_refusal, follower_replicate}
use Rattle.cluster.specs.declared.Kind.{Kind}
use Rattle.cluster.specs.declared.Kind.TheVariants.{ControllerShrinkIsr, ControllerElectLeader, BecomeLeader, BecomeFollower, LeaderWrite, LeaderShrinkIsr, LeaderExpandIsr, LeaderIncHighWatermark, FollowerReplicate, Unknown}
use Rattle.cluster.specs.Act.{uses, table_refusal, table_effect}
use Rattle.cluster.specs.Accepted.{Operands, EpochLeft, TrueLeader, presumes_itself, true_leader, controller_shrink_accepted, elect_accepted, become_leader_accepted, become_follower_accepted, write_accepted, leader_shrink_accepted, leader_expand_accepted, own_hw, replicate_accepted}
use Rattle.actions.specs.Records.{old, written}
use Rattle.actions.specs.Sound.{Sound}
use Rattle.actions.specs.Put.{replica_fits, put_sound, put_only_sound}
use Rattle.actions.specs.Quorum.{quorum_sound}
use Rattle.actions.specs.Request.{request_sound}
use Rattle.actions.specs.Changes.{request_fits, isr_fits, append_fits, follower_fits}

module _ (c : Limits) (s : State) (d : Sound c s) where
  r : Rules s
  r = d.rules

  abbrev R : ℕ
  R = replica_count_of s.limits

  -- ---- kinds 0 and 1
  -- an ISR within the replicas, with no leader
  no_leader_sound : (isr : ℕ) → isr < 2 ^ R → EpochLeft s → Sound c (controller_update_isr s None isr)
  no_leader_sound isr within left =
      request_sound c s d None isr left (record { below = λ b q. absurd (none_some b q); within = within }) (λ b q. absurd (none_some b q))

  without_within : (a : ℕ) → without s.quorum.isr a < 2 ^ R
  without_within a = without_below R s.quorum.isr a r.s1.ranges.replicas r.s2.quorum.within

  shrink_by_sound : (a : ℕ) → EpochLeft s → (leads alone : Bool) → names s.quorum.leader a ≡ leads → Sound c (shrink_by leads alone s a)
  unfolding shrink_by
  shrink_by_sound a left true true e = no_leader_sound s.quorum.isr r.s2.quorum.within left
  shrink_by_sound a left true false e = no_leader_sound (without s.quorum.isr a) (without_within a) left
  shrink_by_sound a left false alone e =
      request_sound c s d s.quorum.leader (without s.quorum.isr a) left
      (record { below = r.s2.quorum.below; within = without_within a })
      (λ b q.
      stays_without s.quorum.isr a b (r.s4.quorum b q)
      (λ same. true_false (sym ((names_iff s.quorum.leader a).1 (rw same at q)) ∙ e)))

  controller_shrink_sound : (a : ℕ) → controller_shrink_isr_refusal s a ≡ accepted → Sound c (controller_shrink_isr s a)
  unfolding controller_shrink_isr
  controller_shrink_sound a h =
      shrink_by_sound a ((controller_shrink_accepted s a r.s1).0 h).1 (names s.quorum.leader a) (is_alone s.quorum.isr a) refl

  elect_sound : (a : ℕ) → a < R → controller_elect_leader_refusal s a ≡ accepted → Sound c (controller_elect_leader s a)
  unfolding controller_elect_leader
  elect_sound a l h =
      let f = (elect_accepted s a r.s1).0 h in
      request_sound c s d (Some a) s.quorum.isr f.2
      (record { below = λ b q. rw (some-injective a b q) at l; within = r.s2.quorum.within })
      (λ b q. rw (some-injective a b q) at f.0)

  -- ---- kinds 2 and 3
  lead_by_sound : (e : ℕ) → e < next_leader_epoch_of s → (leader : Leader) → (request_at s e).leader ≡ leader → leader_refusal s e leader ≡ accepted
      → Sound c (lead_by s e leader)
  unfolding leader_refusal lead_by with_request
  lead_by_sound e l None q h = absurd (omega arith)
  lead_by_sound e l (Some b) q h =
      let low = (r.s2.requests e l).below b q in
      let f = replica_fits c s d b low (next_record_id_of s) in
      put_only_sound c s d b low (with_request (replica_at s b) (pos e) (Some b) (request_at s e).isr)
      (record { request = rw q at (request_fits s r b e l); log = f.log; hw = f.hw })

  become_leader_sound : (e : ℕ) → become_leader_refusal s e ≡ accepted → Sound c (become_leader s e)
  unfolding become_leader
  become_leader_sound e h =
      let f = (become_leader_accepted s e).0 h in
      lead_by_sound e f.0 (request_at s e).leader refl f.1

  -- with any truncation offset
  pub become_follower_at_sound : (a e offset : ℕ) → a < R → e < next_leader_epoch_of s → Sound c (become_follower_at s a e offset)
  unfolding become_follower_at
  become_follower_at_sound a e offset l sent =
      put_only_sound c s d a l _
      (follower_fits s r a (next_record_id_of s) (replica_at s a) (pos e) (request_at s e).leader (request_at s e).isr offset
      (request_fits s r a e sent) (replica_fits c s d a l (next_record_id_of s)))

  become_follower_sound : (a e : ℕ) → a < R → become_follower_refusal s a e ≡ accepted → Sound c (become_follower_and_truncate_to_hw s a e)
  unfolding become_follower_and_truncate_to_hw
  become_follower_sound a e l h = become_follower_at_sound a e (replica_at s a).hw l ((become_follower_accepted s a e).0 h).0

  -- ---- kind 4
  -- the record that a presuming replica writes is in use
  next_in_use : (a : ℕ) → a < R → (replica_at s a).leader ≡ Some a → InUse (next_record_id_of s + 1) (next_leader_epoch_of s) (next_record s a)
  next_in_use a l led =
      let m = (r.s5 a l).request in
      record {
        id = omega arith;
        epoch = λ e q. (m.used e q).0;
        signed = λ k q.
            let none : k ≡ 0 = m.low k q in
            none_some a (sym (m.none (rw none at q)).0 ∙ led);
      }

  write_sound : (a : ℕ) → a < R → leader_write_refusal s a ≡ accepted → Sound c (leader_write s a)
  unfolding leader_write append
  write_sound a l h =
      let w = (write_accepted s a).0 h in
      let f = replica_fits c s d a l (next_record_id_of s + 1) in
      put_sound c s d a l (append (replica_at s a) (next_record s a)) (next_record_id_of s + 1) (omega arith) (omega (arith, w.id))
      (record {
        request = f.request;
        log =
            append_fits s r a (next_record_id_of s + 1) (replica_at s a).end (replica_at s a).log (next_record s a) w.room
            (written (next_in_use a l (presumes_itself s a w.presumes)) refl refl) f.log;
        hw = omega (arith, f.hw);
      })

  -- ---- kinds 5 and 6
  -- the true leader's ISR put anew, in it and in the quorum, with the leader in it
  update_sound : (a isr : ℕ) → a < R → TrueLeader s a → isr < 2 ^ R → member isr a ≡ true → Sound c (quorum_update_leader_and_isr s a isr)
  unfolding quorum_update_leader_and_isr with_replica with_isr
  update_sound a isr l t within own =
      let f = replica_fits c s d a l (next_record_id_of s) in
      quorum_sound c (with_replica s a (with_isr (replica_at s a) isr))
      (put_only_sound c s d a l (with_isr (replica_at s a) isr)
      (record {
        request = isr_fits s r a (replica_at s a).epoch (replica_at s a).leader (replica_at s a).isr isr t.itself within own f.request;
        log = f.log;
        hw = f.hw;
      }))
      isr
      (λ none. none_some a (sym (r.s3.start none).0 ∙ t.quorum))
      within
      (λ b q. rw (some-injective a b (sym t.quorum ∙ q)) at own)

  -- a true leader is in its own ISR, which is within the replicas
  leader_shrink_sound : (a b : ℕ) → a < R → leader_shrink_isr_refusal s a b ≡ accepted → Sound c (leader_shrink_isr s a b)
  unfolding leader_shrink_isr
  leader_shrink_sound a b l h =
      let f = (leader_shrink_accepted s a b).0 h in
      let t = true_leader s a f.leads in
      update_sound a (without (replica_at s a).isr b) l t
      (without_below R (replica_at s a).isr b r.s1.ranges.replicas (r.s2.replicas a l).within)
      (stays_without (replica_at s a).isr b a ((r.s5 a l).own t.itself) f.other)

  leader_expand_sound : (a b : ℕ) → a < R → b < R → leader_expand_isr_refusal s a b ≡ accepted → Sound c (leader_expand_isr s a b)
  unfolding leader_expand_isr
  leader_expand_sound a b l m h =
      let t = true_leader s a ((leader_expand_accepted s a b).0 h).leads in
      update_sound a (including (replica_at s a).isr b) l t
      (including_below R (replica_at s a).isr b r.s1.ranges.replicas (r.s2.replicas a l).within m)
      (stays_including (replica_at s a).isr b a ((r.s5 a l).own t.itself))

  -- ---- kind 7
  -- a presuming replica is in its own ISR, so it has the offset of its high watermark
  advance_sound : (a : ℕ) → a < R → leader_inc_high_watermark_refusal s a ≡ accepted → Sound c (leader_inc_high_watermark s a)
  unfolding leader_inc_high_watermark with_hw
  advance_sound a l h =
      let f = replica_fits c s d a l (next_record_id_of s) in
      put_only_sound c s d a l (with_hw (replica_at s a) ((replica_at s a).hw + 1))
      (record { request = f.request; log = f.log; hw = omega (arith, own_hw s a l f.request.own h) })

  -- ---- kind 8
  -- b has the record that a adds, at the same offset
  replicate_sound : (a b : ℕ) → a < R → b < R → follower_replicate_refusal s a b ≡ accepted → Sound c (follower_replicate s a b)
  unfolding follower_replicate with_hw append
  replicate_sound a b l m h =
      let f = replica_fits c s d a l (next_record_id_of s) in
      let behind = ((replicate_accepted s a b).0 h).behind in
      put_only_sound c s d a l _
      (record {
        request = f.request;
        log =
            append_fits s r a (next_record_id_of s) (replica_at s a).end (replica_at s a).log _ (omega (arith, behind, r.s2.ends b m))
            (old b (record { replica = m; offset = behind }) refl) f.log;
        hw = omega arith;
      })

  -- ---- the nine together
  pub kind_sound : (kind : Kind) (a b e : ℕ) → Operands s.limits kind a b → table_refusal kind s a b e ≡ accepted
      → Sound c (table_effect kind s a b e)
  unfolding table_refusal table_effect uses
  kind_sound ControllerShrinkIsr a b e o h = controller_shrink_sound a h
  kind_sound ControllerElectLeader a b e o h = elect_sound a (o.a_below refl) h
  kind_sound BecomeLeader a b e o h = become_leader_sound e h
  kind_sound BecomeFollower a b e o h = become_follower_sound a e (o.a_below refl) h
  kind_sound LeaderWrite a b e o h = write_sound a (o.a_below refl) h
  kind_sound LeaderShrinkIsr a b e o h = leader_shrink_sound a b (o.a_below refl) h
  kind_sound LeaderExpandIsr a b e o h = leader_expand_sound a b (o.a_below refl) (o.b_below refl) h
  kind_sound LeaderIncHighWatermark a b e o h = advance_sound a (o.a_below refl) h
  kind_sound FollowerReplicate a b e o h = replicate_sound a b (o.a_below refl) (o.b_below refl) h
  kind_sound Unknown a b e o h = absurd (omega arith)
