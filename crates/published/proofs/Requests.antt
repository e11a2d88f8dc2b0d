-- Kinds 2 and 3, BecomeLeader and BecomeFollowerAndTruncateTo: the source's action with the request of epoch e as its choice,
-- and replica a as the follower, is the engine's. Assumes nothing.
--
--   Sent request e        epoch e was used in s, and `request` is its request
--   LeadStep e            the engine accepts kind 2 with e, and v is the meaning of its next state
--   become_leader_iff     BecomeLeader with the request of epoch e holds exactly where LeadStep does
--   Fits leader           where this leader of the request is not none, the truncation offset is at most a's end
--   FollowStep            the engine accepts kind 3 with a and e, the offset fits, and v is the meaning of its next state
--   follow_iff            BecomeFollowerAndTruncateTo with any truncation offset holds exactly where FollowStep does
--   become_follower_iff   with a's high watermark as the offset, it holds exactly where the engine accepts kind 3 and v is the
--                         meaning of its next state
use Rattle.std.specs.Prelude.{ℕ, ◌≤◌, ◌<◌, min, ◌≡◌, true, ◌↔◌, ◌≢◌, ◌⊎◌, pos, None, Some}
use Rattle.std.proofs.Math.Path.{refl, sym, ap}
use Rattle.std.proofs.Common.{◌∙◌, subst, inl, inr, arith}
use Rattle.std.proofs.Math.Option.{Option, none, some, none-ne-some, some-injective}
use Rattle.std.proofs.Math.Logic.Iff
use borrow.Author.Tests.{lt-ltb, ltb-true}
use Rattle.logic.specs.Tests.{refuted_iff}
use Rattle.logic.specs.Refuse.{refuse_zero, refuse_none}
use Rattle.parts.specs.Refusal.{accepted}
use Rattle.parts.specs.Isr.{member}
use Rattle.parts.specs.EpochLaws.{pos_injective}
use Rattle.parts.specs.LeaderLaws.{none_some}
use Rattle.replica.specs.declared.Replica.{Replica}
use Rattle.replica.specs.Replica.{tidy_replica}
use Rattle.replica.specs.ReplicaLaws.{tidy_replica_same}
use Rattle.replica.specs.Change.{with_hw, with_end, with_request, truncate_to, truncate_under, become_follower_and_truncate_to}
use Rattle.parts.specs.Leader.{Leader, names}
use Rattle.cluster.specs.declared.State.{State}
use Rattle.cluster.specs.State.{replica_count_of, next_leader_epoch_of, request_at, replica_at}
use Rattle.cluster.specs.Actions.{leader_refusal, become_leader_refusal, lead_by, become_leader, become_follower_refusal, become_follower_at, become_follower_and_truncate_to_hw}
use Rattle.cluster.specs.Accepted.{become_leader_accepted, become_follower_accepted}
use Rattle.actions.specs.Sound.{Sound}
use Rattle.published.specs.KafkaReplication.{Constants, ◌is_in◌, Replicas, ReplicaOpt, except, Log, LocalState, LeaderAndIsr, ModelState, SameLog, SameLogs, ReplicaLog·TruncateTo, Min, UnchangedReplicaLog, BecomeLeaderWith, BecomeFollowerAndTruncateToWith}
use Rattle.published.specs.Meaning.{constants_of, leader_of, record_meaning, log_of, request_sent, meaning, Means}
use Rattle.published.specs.Types.{leader_opt_iff}
use Rattle.published.specs.Reading.{leader_names_iff, state-at, hw_at, log_at, epoch_above_iff}
use Rattle.published.specs.Changes.{except_same, except_other, Becomes, put_only_iff}

module _ (s : State) (d : Sound s.limits s) (u : ModelState) (m : Means s.limits u s) (v : ModelState) where
  abbrev k : Constants
  k = constants_of s.limits

  abbrev R : ℕ
  R = replica_count_of s.limits

  -- ---- the request of epoch e
  record Sent (request : LeaderAndIsr) (e : ℕ) : Type 0 where
    used : e < next_leader_epoch_of s
    is : request ≡ request_sent s e

  -- a request of the model with this epoch is that of s
  sent_of : (request : LeaderAndIsr) (e : ℕ) → u.leaderAndIsrRequests request → request.leaderEpoch ≡ pos e → Sent request e
  unfolding meaning
  sent_of request e h q =
      let o = (m.leaderAndIsrRequests request).0 h in
      let i : o.0 ≡ e = pos_injective o.0 e (sym (ap (λ (r : LeaderAndIsr). r.leaderEpoch) o.2) ∙ q) in
      record { used = rw i at o.1; is = o.2 ∙ ap (request_sent s) i }

  -- and that of s is one of the model
  sent_in : (e : ℕ) → e < next_leader_epoch_of s → u.leaderAndIsrRequests (request_sent s e)
  unfolding meaning
  sent_in e l = (m.leaderAndIsrRequests (request_sent s e)).1 (e, l, refl)

  -- ---- kind 2
  -- the local state that a leader takes from request e
  abbrev led : ℕ → LeaderAndIsr → LocalState → LocalState
  led b request p = record { hw = p.hw; leaderEpoch = request.leaderEpoch; leader = some b; isr = request.isr }

  abbrev leader_after : ℕ → ℕ → Replica
  leader_after b e = with_request (replica_at s b) (pos e) (Some b) (request_at s e).isr

  abbrev states_led : ℕ → ℕ → ℕ → LocalState
  states_led b e = except u.replicaState b (led b (request_sent s e) (u.replicaState b))

  leads : (b e : ℕ) → b < R → Becomes u b (leader_after b e) u.replicaLog (states_led b e)
  unfolding with_request
  leads b e l =
      record {
        own_log = log_at s u m b l;
        other_logs = λ r n. refl;
        own_state = except_same u.replicaState b _ ∙ ap (led b (request_sent s e)) (state-at s u m b l);
        other_states = except_other u.replicaState b _;
      }

  -- BecomeLeader with request e, by the leader that the request names
  lead_iff : (e : ℕ) → e < next_leader_epoch_of s → (leader : Leader) → (request_at s e).leader ≡ leader
      → BecomeLeaderWith k u v (request_sent s e) ↔ (leader_refusal s e leader ≡ accepted) × Means s.limits v (lead_by s e leader)
  unfolding leader_refusal lead_by
  lead_iff e l None q = (
    (λ t. absurd (none-ne-some t.0 (sym (ap leader_of q) ∙ t.1))),
    (λ t. absurd (omega (arith, t.0))),
  )
  lead_iff e l (Some b) q =
      let low = (d.rules.s2.requests e l).below b q in
      let above = epoch_above_iff s u m b e low in
      let put = put_only_iff s d u m b (leader_after b e) u.replicaLog (states_led b e) (leads b e low) v in (
        (λ t.
            let i : t.0 ≡ b = sym (some-injective b t.0 (sym (ap leader_of q) ∙ t.1)) in (
              refuse_none _ _ _ (above.0 (rw i at t.2)) refl,
              put.0
                  (record {
                    replicaLog = t.5;
                    replicaState = rw i at t.3;
                    nextRecordId = t.4;
                    nextLeaderEpoch = t.7;
                    leaderAndIsrRequests = t.8;
                    quorumState = t.6;
                  }),
            )),
        (λ t.
            let n = put.1 t.1 in (
              b,
              ap leader_of q,
              above.1 (refuse_zero _ _ _ t.0).0,
              n.replicaState,
              n.nextRecordId,
              n.replicaLog,
              n.quorumState,
              n.nextLeaderEpoch,
              n.leaderAndIsrRequests,
            )),
      )

  -- the engine accepts kind 2 with e, and v is the meaning of its next state
  abbrev LeadStep : ℕ → Type 0
  LeadStep e = (become_leader_refusal s e ≡ accepted) × Means s.limits v (become_leader s e)

  -- BecomeLeader with the request of epoch e
  pub become_leader_iff : (e : ℕ)
      → ((request : LeaderAndIsr) × u.leaderAndIsrRequests request × (request.leaderEpoch ≡ pos e) × BecomeLeaderWith k u v request) ↔ LeadStep e
  unfolding become_leader
  become_leader_iff e = (
    (λ t.
        let h = sent_of t.0 e t.1 t.2 in
        let n = (lead_iff e h.used (request_at s e).leader refl).0 (rw h.is at t.3) in
        ((become_leader_accepted s e).1 (h.used, n.0), n.1)),
    (λ t.
        let f = (become_leader_accepted s e).0 t.0 in
        (request_sent s e, sent_in e f.0, refl, (lead_iff e f.0 (request_at s e).leader refl).1 (f.1, t.1))),
  )

  -- ---- kind 3, with any truncation offset
  module _ (a e truncationOffset : ℕ) (l : a < R) (used : e < next_leader_epoch_of s) where
    abbrev own : Replica
    own = replica_at s a

    -- the local state that a follower takes from request e
    abbrev followed : LocalState → LocalState
    followed p =
        record {
          hw = Min truncationOffset p.hw;
          leaderEpoch = pos e;
          leader = leader_of (request_at s e).leader;
          isr = member (request_at s e).isr;
        }

    abbrev follower_after : Replica
    follower_after = become_follower_and_truncate_to own (pos e) (request_at s e).leader (request_at s e).isr truncationOffset

    abbrev states_followed : ℕ → LocalState
    states_followed = except u.replicaState a (followed (u.replicaState a))

    -- a's log cut to the offset, and the logs after the action, by the leader of the request
    abbrev cut : Log
    cut = record { end = truncationOffset; entry = (u.replicaLog a).entry }

    abbrev logs_under : Leader → ℕ → Log
    logs_under None = u.replicaLog
    logs_under (Some b) = except u.replicaLog a cut

    -- a log of the model that is cut is that of the replica cut there
    cut_log : truncationOffset ≤ own.end → SameLog cut (log_of (truncate_to own truncationOffset))
    unfolding truncate_to with_end tidy_replica
    cut_log fits =
        record {
          end = omega (arith, fits);
          entry = λ offset h.
              (log_at s u m a l).entry offset (omega (arith, (log_at s u m a l).end, h, fits))
              ∙ ap record_meaning
              (sym
              ((tidy_replica_same (with_end own (min truncationOffset own.end))).log offset
              (omega (arith, h, fits, d.rules.s2.ends a l, d.rules.s1.ranges.log))
              (omega (arith, h, fits))));
        }

    -- where the request names a leader, the offset is at most a's end
    abbrev Fits : Leader → Type 0
    Fits leader = (b : ℕ) → leader ≡ Some b → truncationOffset ≤ own.end

    follower_log : (leader : Leader) → Fits leader → SameLog (logs_under leader a) (log_of (truncate_under leader own truncationOffset))
    unfolding truncate_under
    follower_log None fits = log_at s u m a l
    follower_log (Some b) fits = rw (except_same u.replicaLog a cut) (cut_log (fits b refl))

    other_log : (leader : Leader) (r : ℕ) → (r ≡ a → ⊥) → logs_under leader r ≡ u.replicaLog r
    other_log None r n = refl
    other_log (Some b) r n = except_other u.replicaLog a cut r n

    follows : Fits (request_at s e).leader → Becomes u a follower_after (logs_under (request_at s e).leader) states_followed
    unfolding become_follower_and_truncate_to with_request with_hw
    follows fits =
        record {
          own_log = follower_log (request_at s e).leader fits;
          other_logs = other_log (request_at s e).leader;
          own_state = except_same u.replicaState a _ ∙ ap followed (state-at s u m a l);
          other_states = except_other u.replicaState a _;
        }

    -- the source's two cases of the log, by the leader of the request
    abbrev LogCases : Leader → Type 0
    LogCases leader =
        ((leader_of leader ≡ none) × UnchangedReplicaLog k u v)
        ⊎ ((leader_of leader ≢ none) × ReplicaLog·TruncateTo k u v a truncationOffset)

    log_cases_iff : (leader : Leader) → LogCases leader ↔ Fits leader × SameLogs k v.replicaLog (logs_under leader)
    log_cases_iff None = (
      (λ t. elim t [ inl h ↦ ((λ b q. absurd (none_some b q)), h.1) | inr h ↦ absurd (h.0 refl) ]),
      (λ h. inl (refl, h.1)),
    )
    log_cases_iff (Some b) = (
      (λ t. elim t [
        | inl h ↦ absurd (none-ne-some b (sym h.0))
        | inr h ↦ ((λ c q. omega (arith, (log_at s u m a l).end, h.1.0)), h.1.1)
      ]),
      (λ h. inr ((λ q. none-ne-some b (sym q)), (omega (arith, (log_at s u m a l).end, h.0 b refl), h.1))),
    )

    request_names : leader_of (request_at s e).leader ≡ some a ↔ names (request_at s e).leader a ≡ true
    request_names = leader_names_iff (request_at s e).leader a

    -- the engine accepts kind 3, the offset fits, and v is the meaning of its next state
    abbrev FollowStep : Type 0
    FollowStep =
        (become_follower_refusal s a e ≡ accepted)
        × Fits (request_at s e).leader
        × Means s.limits v (become_follower_at s a e truncationOffset)

    pub follow_iff : BecomeFollowerAndTruncateToWith k u v (leader_of (request_at s e).leader) a truncationOffset (request_sent s e) ↔ FollowStep
    unfolding become_follower_at
    follow_iff =
        let above = epoch_above_iff s u m a e l in
        let put = put_only_iff s d u m a follower_after (logs_under (request_at s e).leader) states_followed in (
          (λ t.
              let log = (log_cases_iff (request_at s e).leader).0 t.3 in (
                (become_follower_accepted s a e).1 (used, (refuted_iff _ request_names).0 t.0, above.0 t.2),
                log.0,
                (put (follows log.0) v).0
                    (record {
                      replicaLog = log.1;
                      replicaState = t.4;
                      nextRecordId = t.5;
                      quorumState = t.6;
                      nextLeaderEpoch = t.7;
                      leaderAndIsrRequests = t.8;
                    }),
              )),
          (λ t.
              let f = (become_follower_accepted s a e).0 t.0 in
              let n = (put (follows t.1) v).1 t.2 in (
                (refuted_iff _ request_names).1 f.1,
                refl,
                above.1 f.2,
                (log_cases_iff (request_at s e).leader).1 (t.1, n.replicaLog),
                n.replicaState,
                n.nextRecordId,
                n.quorumState,
                n.nextLeaderEpoch,
                n.leaderAndIsrRequests,
              )),
        )

  -- the offset is a's own high watermark, in the model and in s
  hw_offset : (a : ℕ) (leader : Option ℕ) (request : LeaderAndIsr) → a < R
      → BecomeFollowerAndTruncateToWith k u v leader a (u.replicaState a).hw request
      ↔ BecomeFollowerAndTruncateToWith k u v leader a (replica_at s a).hw request
  hw_offset a leader request l =
      subst
      (λ n. BecomeFollowerAndTruncateToWith k u v leader a (u.replicaState a).hw request ↔ BecomeFollowerAndTruncateToWith k u v leader a n request)
      (hw_at s u m a l) Iff.rfl

  -- BecomeFollowerAndTruncateTo of replica a with the request of epoch e
  pub become_follower_iff : (a e : ℕ)
      → ((leader : Option ℕ)
      × ReplicaOpt k leader
      × a is_in Replicas k
      × (request : LeaderAndIsr)
      × u.leaderAndIsrRequests request
      × (request.leaderEpoch ≡ pos e)
      × BecomeFollowerAndTruncateToWith k u v leader a (u.replicaState a).hw request)
      ↔ (a < R) × (become_follower_refusal s a e ≡ accepted) × Means s.limits v (become_follower_and_truncate_to_hw s a e)
  unfolding become_follower_and_truncate_to_hw
  become_follower_iff a e = (
    (λ t.
        let low : a < R = ltb-true a R t.2 in
        let h = sent_of t.3 e t.4 t.5 in
        let body = rw (sym t.6.1, h.is) at ((hw_offset a t.0 t.3 low).0 t.6) in
        let n = (follow_iff a e (replica_at s a).hw low h.used).0 body in
        (low, n.0, n.2)),
    (λ t.
        let used = ((become_follower_accepted s a e).0 t.1).0 in (
          leader_of (request_at s e).leader,
          (leader_opt_iff s.limits (request_at s e).leader).1 (d.rules.s2.requests e used).below,
          lt-ltb a R t.0,
          request_sent s e,
          sent_in e used,
          refl,
          (hw_offset a _ _ t.0).1
              ((follow_iff a e (replica_at s a).hw t.0 used).1 (t.1, (λ b q. (d.rules.s5 a t.0).hw), t.2)),
        )),
  )
