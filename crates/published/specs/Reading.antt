-- The source's tests, of a state of the model that is the meaning of a state s, are the engine's tests of s.
-- Assumes nothing.
--
--   leader_names_iff          the meaning of a leader is replica b exactly where it names b
--   state-at, hw_at, isr_at   the local state of a replica, its high watermark and its ISR
--   log_at, quorum_at         the log of a replica; the quorum
--   following_iff             ReplicaIsFollowing holds exactly where the engine's test does
--   presumes_iff              the same of ReplicaPresumesLeadership
--   true_leader_iff           of IsTrueLeader
--   epoch_above_iff           of an epoch that is above a replica's
--   caught_up_iff             of IsFollowerCaughtUp, to an offset that is at most the leader's end
--   member_below              a member of a's ISR is a replica
--   PassesTest test u a b     ReplicaIsFollowing or HasOffset, as LeaderIncHighWatermark of a asks it of the member b
--   passes_iff                it holds exactly where the engine's test does
--   members_pass_iff          of every member of a's ISR it holds exactly where the engine's members_pass does
--   member_fails_iff          of some member it does not hold exactly where members_pass does not
use Rattle.std.specs.Prelude.{ℕ, ◌-◌, ◌≤◌, ◌<◌, ◌≡◌, refl, Bool, false, ◌↔◌, T, pos, ◌<ℤ◌, Some}
use Rattle.std.proofs.Common.{sym, ◌∙◌, subst}
use Rattle.std.proofs.Math.Path.{ap}
use Rattle.std.proofs.Math.Bool.{true, not}
use Rattle.std.proofs.Math.Option.{some}
use Rattle.std.proofs.Math.Logic.{inl, inr}
use native.Mathlib.Omega.{arith}
use Rattle.std.proofs.Math.Decide.{ℕ_discrete}
use borrow.Author.Tests.{lt-ltb, ltb-true, le-leb, leb-true, not-false}
use Rattle.logic.specs.Tests.{every_at, every_and, every_none, and_left, and_right, and_both, true_false, implied, implies, refuted_iff, all_at, all_by}
use Rattle.parts.specs.Isr.{member}
use Rattle.parts.specs.IsrLaws.{member_within}
use Rattle.parts.specs.EpochLaws.{higher_is, same_epoch_true, same_epoch_by}
use Rattle.parts.specs.Leader.{Leader, names}
use Rattle.parts.specs.LeaderLaws.{names_iff}
use Rattle.cluster.specs.declared.State.{State}
use Rattle.cluster.specs.declared.MemberTest.{MemberTest}
use Rattle.cluster.specs.declared.MemberTest.TheVariants.{IsFollowing, HasOffset}
use Rattle.cluster.specs.Rules.{rules}
use Rattle.cluster.specs.Predicates.{Rules}
use Rattle.cluster.specs.State.{replica_count_of, replica_at}
use Rattle.cluster.specs.Actions.{replica_presumes_leadership, replica_is_following, is_true_leader_tests, is_true_leader, is_follower_caught_up, epoch_not_above, passes_test, member_passes, members_pass, first_not_passing}
use Rattle.actions.specs.MemberNamed.{smallest_member}
use Rattle.published.specs.KafkaReplication.{Constants, ◌is_in◌, LocalState, ModelState, SameLog, LogRecords, ReplicaLog·HasOffset, ReplicaPresumesLeadership, ReplicaIsFollowing, IsTrueLeader, IsFollowerCaughtUp}
use Rattle.published.specs.Meaning.{constants_of, leader_of, log_of, local_state_of, quorum_of, meaning, Means}
use Rattle.published.specs.Types.{log_record_ok}
use Rattle.published.specs.OneToOne.{leader_of_injective}

-- ---- leaders and epochs
pub leader_names_iff : (l : Leader) (b : ℕ) → leader_of l ≡ some b ↔ names l b ≡ true
leader_names_iff l b =
    let n = names_iff l b in
    ((λ e. n.1 (leader_of_injective l (Some b) e)), (λ e. ap leader_of (n.0 e)))

true_T : (b : Bool) → T b ↔ b ≡ true
true_T true = ((λ t. refl), (λ e. tt))
true_T false = ((λ t. absurd t), (λ e. absurd (true_false (sym e))))

-- ---- what LeaderIncHighWatermark of a asks of a member b of a's ISR: that it follows a, and that it has the offset of a's hw
abbrev pub PassesTest : MemberTest → ModelState → ℕ → ℕ → Type 0
PassesTest IsFollowing u a b = ReplicaIsFollowing u b a
PassesTest HasOffset u a b = ReplicaLog·HasOffset u b (u.replicaState a).hw

module _ (s : State) (u : ModelState) (m : Means s.limits u s) where
  abbrev k : Constants
  k = constants_of s.limits

  abbrev R : ℕ
  R = replica_count_of s.limits

  -- ---- the local state and the log of a replica, and the quorum
  pub state-at : (r : ℕ) → r < R → u.replicaState r ≡ local_state_of (replica_at s r)
  unfolding meaning
  state-at r l = m.replicaState r (lt-ltb r R l)

  pub hw_at : (r : ℕ) → r < R → (u.replicaState r).hw ≡ (replica_at s r).hw
  hw_at r l = ap (λ (p : LocalState). p.hw) (state-at r l)

  pub isr_at : (r : ℕ) → r < R → (u.replicaState r).isr ≡ member (replica_at s r).isr
  isr_at r l = ap (λ (p : LocalState). p.isr) (state-at r l)

  pub log_at : (r : ℕ) → r < R → SameLog (u.replicaLog r) (log_of (replica_at s r))
  unfolding meaning
  log_at r l = m.replicaLog r (lt-ltb r R l)

  pub quorum_at : u.quorumState ≡ quorum_of s.quorum
  unfolding meaning
  quorum_at = m.quorumState

  -- ---- the tests
  pub following_iff : (follower leader : ℕ) → follower < R → ReplicaIsFollowing u follower leader ↔ replica_is_following s follower leader ≡ true
  unfolding replica_is_following
  following_iff follower leader l =
      rw (state-at follower l) (leader_names_iff (replica_at s follower).leader leader)

  pub presumes_iff : (r : ℕ) → r < R → ReplicaPresumesLeadership u r ↔ replica_presumes_leadership s r ≡ true
  unfolding replica_presumes_leadership replica_is_following
  presumes_iff r l = following_iff r r l

  pub true_leader_iff : (r : ℕ) → r < R → IsTrueLeader u r ↔ is_true_leader s r ≡ true
  unfolding is_true_leader replica_presumes_leadership
  true_leader_iff r l =
      rw (quorum_at, state-at r l) (
        (λ t.
            every_and _ _ (presumes.0 t.1)
            (every_and _ _ (quorum.0 t.0)
            (every_and _ _ (same_epoch_by (replica_at s r).epoch s.quorum.epoch t.2) every_none))),
        (λ h.
            let t = every_at (is_true_leader_tests s r) h in
            (quorum.1 (t 1), presumes.1 (t 0), same_epoch_true (replica_at s r).epoch s.quorum.epoch (t 2))),
      )
    where
      quorum : leader_of s.quorum.leader ≡ some r ↔ names s.quorum.leader r ≡ true
      quorum = leader_names_iff s.quorum.leader r

      presumes : leader_of (replica_at s r).leader ≡ some r ↔ replica_presumes_leadership s r ≡ true
      presumes = leader_names_iff (replica_at s r).leader r

  pub epoch_above_iff : (r e : ℕ) → r < R → (u.replicaState r).leaderEpoch <ℤ pos e ↔ epoch_not_above s r e ≡ false
  unfolding epoch_not_above
  epoch_above_iff r e l =
      rw (state-at r l) (
        (λ h. ap not (sym (higher_is (pos e) (replica_at s r).epoch) ∙ (true_T _).0 h.lt)),
        (λ h. record { lt = (true_T _).1 (higher_is (pos e) (replica_at s r).epoch ∙ not-false _ h) }),
      )

  -- ---- IsFollowerCaughtUp, to an offset that is at most the leader's end: the leader has a record there, so what is left to
  -- ask is the follower's end
  module _ (h : rules s ≡ true) (leader follower : ℕ) (l : leader < R) (lf : follower < R) where
    leader_entry : (offset : ℕ) → offset < (replica_at s leader).end → LogRecords k ((u.replicaLog leader).entry offset)
    leader_entry offset o =
        rw ((log_at leader l).entry offset (omega (arith, (log_at leader l).end))) (log_record_ok s h leader offset l o)

    caught_up_to : (n : ℕ) → IsFollowerCaughtUp k u leader follower n → n ≤ (replica_at s follower).end
    caught_up_to n t =
        elim t.1 [
          | inl z ↦ omega (arith, z)
          | inr w ↦ omega (arith, w.0, w.4, (log_at follower lf).end)
        ]

    caught_up_at : (n : ℕ) → n ≤ (replica_at s leader).end → IsFollowerCaughtUp k u leader follower n ↔ is_follower_caught_up s leader follower n ≡ true
    unfolding is_follower_caught_up
    caught_up_at n low = (
      (λ t.
          and_both ((following_iff follower leader lf).0 t.0) (le-leb n (replica_at s follower).end (caught_up_to n t))),
      (λ t.
          let e = leb-true n _ (and_right (replica_is_following s follower leader) _ t) in (
            (following_iff follower leader lf).1 (and_left (replica_is_following s follower leader) _ t),
            elim (ℕ_discrete n 0) [
              | yes z ↦ inl z
              | no z ↦
                  inr (
                    omega arith,
                    (u.replicaLog leader).entry (n - 1),
                    leader_entry (n - 1) (omega arith),
                    (omega (arith, (log_at leader l).end), refl),
                    omega (arith, (log_at follower lf).end),
                  )
            ],
          )),
    )

    pub caught_up_iff : (n offset : ℕ) → n ≡ offset → offset ≤ (replica_at s leader).end
        → IsFollowerCaughtUp k u leader follower n ↔ is_follower_caught_up s leader follower offset ≡ true
    caught_up_iff n offset q low =
        subst (λ x. IsFollowerCaughtUp k u leader follower n ↔ is_follower_caught_up s leader follower x ≡ true) q (caught_up_at n (omega (arith, q, low)))

  -- ---- the members of a's ISR
  module _ (met : Rules s) (a : ℕ) (l : a < R) where
    -- they are replicas
    pub member_below : (b : ℕ) → member (replica_at s a).isr b ≡ true → b < R
    member_below = member_within R (replica_at s a).isr met.s1.ranges.replicas (met.s2.replicas a l).within

    passes_iff : (test : MemberTest) (b : ℕ) → b < R → PassesTest test u a b ↔ passes_test test s a b ≡ true
    unfolding passes_test
    passes_iff IsFollowing b lb = following_iff b a lb
    passes_iff HasOffset b lb =
        rw (hw_at a l, (log_at b lb).end) (lt-ltb (replica_at s a).hw (replica_at s b).end, ltb-true (replica_at s a).hw (replica_at s b).end)

    -- each passes a test
    pub members_pass_iff : (test : MemberTest)
        → ((b : ℕ) → b is_in (u.replicaState a).isr → PassesTest test u a b) ↔ members_pass test s a ≡ true
    unfolding member_passes
    members_pass_iff test =
        rw (isr_at a l) (
          (λ f. all_by R (member_passes test s a) (λ b lb. implies (member (replica_at s a).isr b) _ (λ h. (passes_iff test b lb).0 (f b h)))),
          (λ e b h.
              let lb = member_below b h in
              (passes_iff test b lb).1 (implied (member (replica_at s a).isr b) _ (all_at R (member_passes test s a) e b lb) h)),
        )

    -- some member does not
    pub member_fails_iff : (test : MemberTest)
        → ((b : ℕ) × b is_in (u.replicaState a).isr × ¬ (PassesTest test u a b)) ↔ members_pass test s a ≡ false
    member_fails_iff test = (
      (λ t. (refuted_iff (members_pass test s a) (members_pass_iff test)).0 (λ f. t.2 (f t.0 t.1))),
      (λ h.
          let f = smallest_member test s a h in
          let b = first_not_passing test s a in
          (b, rw (isr_at a l) f.in_isr, (refuted_iff (passes_test test s a b) (passes_iff test b f.below)).1 f.fault)),
    )
