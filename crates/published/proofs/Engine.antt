-- The engine is the published model: from the meaning of a state that meets S1 to S7 to a state v of the model, the source's
-- action with the choices that the operands name holds exactly where the engine accepts the action and v is the meaning of
-- its next state. Assumes nothing.
--
--   KindAccepts kind a b e   the replicas that the kind uses are below R, the table does not refuse, and v is the meaning of the
--                            next state
--   kind_iff                 on a tidy state, the source's action of a kind with these choices holds exactly where KindAccepts does
--   action_iff               on a tidy state, Choice of an action holds exactly where the engine accepts it and v is the meaning of
--                            its next state
--   engine_is_model          the same on any state that meets S1 to S7, from any state of the model that is its meaning
--   action_is_published      the same from the meaning of the state itself
use Rattle.std.specs.Prelude.{ℕ, ◌+◌, ◌<◌, ◌≡◌, Bool, ◌↔◌}
use Rattle.std.proofs.Math.Path.{refl}
use Rattle.std.proofs.Common.{sym, ◌∙◌, ap, arith}
use Rattle.std.proofs.Math.Bool.{true, false, not}
use Rattle.std.proofs.Math.Dec.{ltb}
use borrow.Author.Tests.{lt-ltb, ltb-true}
use Rattle.logic.specs.Tests.{every_at, every_and, every_none, true_false}
use Rattle.logic.specs.Refuse.{refuse_none}
use Rattle.parts.specs.Refusal.{accepted}
use Rattle.parts.specs.IsrLaws.{member_within}
use Rattle.cluster.specs.declared.Kind.{Kind}
use Rattle.cluster.specs.declared.Kind.TheVariants.{ControllerShrinkIsr, ControllerElectLeader, BecomeLeader, BecomeFollower, LeaderWrite, LeaderShrinkIsr, LeaderExpandIsr, LeaderIncHighWatermark, FollowerReplicate, Unknown}
use Rattle.cluster.specs.declared.Action.{Action}
use Rattle.cluster.specs.declared.State.{State}
use Rattle.cluster.specs.State.{replica_count_of, max_leader_epoch_of, tidy}
use Rattle.cluster.specs.Rules.{rules}
use Rattle.cluster.specs.Unused.{rules_tidy}
use Rattle.cluster.specs.Equality.{tidy_twice}
use Rattle.cluster.specs.Act.{last_kind, kind_of, uses, operand_bounds, operand_tests, operands_fit, table_refusal, table_effect, action_refusal, effect, refusal, act}
use Rattle.cluster.specs.Accepted.{Operands, operand_iff, operands_of, action_accepted, elect_accepted, become_leader_accepted, become_follower_accepted}
use Rattle.cluster.specs.ActLaws.{kind_past, refusal_of_met}
use Rattle.actions.specs.Sound.{Sound, sound_of}
use Rattle.actions.specs.Answers.{act_number, act_accepted}
use Rattle.published.specs.KafkaReplication.{Constants, ModelState}
use Rattle.published.specs.Meaning.{constants_of, meaning, Means}
use Rattle.published.specs.Equality.{same_model_refl}
use Rattle.published.specs.Choices.{SourceActionWith, UnusedZero, Choice}
use Rattle.published.specs.OneToOne.{means_tidy}
use Rattle.published.specs.Controller.{controller_shrink_iff, elect_iff}
use Rattle.published.proofs.Requests.{become_leader_iff, become_follower_iff}
use Rattle.published.specs.Logs.{write_iff, replicate_iff}
use Rattle.published.specs.Leading.{leader_shrink_iff, leader_expand_iff, inc_iff}

-- of an operand that is not used there is no bound to show
unused_bound : {A : Type 0} → false ≡ true → A
unused_bound q = absurd (true_false (sym q))

-- ---- a kind with its operands, on a tidy state
module _ (s : State) (d : Sound s.limits s) (u : ModelState) (m : Means s.limits u s) (v : ModelState) where
  abbrev k : Constants
  k = constants_of s.limits

  abbrev R : ℕ
  R = replica_count_of s.limits

  -- the replicas that the kind uses are below R, the table does not refuse, and v is the meaning of the next state
  record KindAccepts (kind : Kind) (a b e : ℕ) : Type 0 where
    operands : Operands s.limits kind a b
    none_refuses : table_refusal kind s a b e ≡ accepted
    next : Means s.limits v (table_effect kind s a b e)

  kind_iff : (kind : Kind) (a b e : ℕ) → SourceActionWith kind a b e k u v ↔ KindAccepts kind a b e
  unfolding uses table_refusal table_effect
  kind_iff ControllerShrinkIsr a b e = (
    (λ t.
        let n = (controller_shrink_iff s d u m v a).0 t.1 in
        record { operands = record { a_below = λ q. ltb-true a R t.0; b_below = unused_bound }; none_refuses = n.0; next = n.1 }),
    (λ t. (lt-ltb a R (t.operands.a_below refl), (controller_shrink_iff s d u m v a).1 (t.none_refuses, t.next))),
  )
  kind_iff ControllerElectLeader a b e = (
    (λ t.
        let n = (elect_iff s d u m v a).0 t in
        let i = ((elect_accepted s a d.rules.s1).0 n.0).0 in
        let l = member_within R s.quorum.isr d.rules.s1.ranges.replicas d.rules.s2.quorum.within a i in
        record { operands = record { a_below = λ q. l; b_below = unused_bound }; none_refuses = n.0; next = n.1 }),
    (λ t. (elect_iff s d u m v a).1 (t.none_refuses, t.next)),
  )
  kind_iff BecomeLeader a b e = (
    (λ t.
        let n = (become_leader_iff s d u m v e).0 t in
        record { operands = record { a_below = unused_bound; b_below = unused_bound }; none_refuses = n.0; next = n.1 }),
    (λ t. (become_leader_iff s d u m v e).1 (t.none_refuses, t.next)),
  )
  kind_iff BecomeFollower a b e = (
    (λ t.
        let n = (become_follower_iff s d u m v a e).0 t in
        record { operands = record { a_below = λ q. n.0; b_below = unused_bound }; none_refuses = n.1; next = n.2 }),
    (λ t. (become_follower_iff s d u m v a e).1 (t.operands.a_below refl, t.none_refuses, t.next)),
  )
  kind_iff LeaderWrite a b e = (
    (λ t.
        let n = (write_iff s d u m v a).0 t in
        record { operands = record { a_below = λ q. n.0; b_below = unused_bound }; none_refuses = n.1; next = n.2 }),
    (λ t. (write_iff s d u m v a).1 (t.operands.a_below refl, t.none_refuses, t.next)),
  )
  kind_iff LeaderShrinkIsr a b e = (
    (λ t.
        let l = ltb-true a R t.0 in
        let n = (leader_shrink_iff s d u m v a l b).0 (t.1, t.2) in
        record { operands = record { a_below = λ q. l; b_below = λ q. n.0 }; none_refuses = n.1; next = n.2 }),
    (λ t.
        let l = t.operands.a_below refl in
        let n = (leader_shrink_iff s d u m v a l b).1 (t.operands.b_below refl, t.none_refuses, t.next) in
        (lt-ltb a R l, n.0, n.1)),
  )
  kind_iff LeaderExpandIsr a b e = (
    (λ t.
        let l = ltb-true a R t.0 in
        let n = (leader_expand_iff s d u m v a l b).0 (t.1, t.2, t.3) in
        record { operands = record { a_below = λ q. l; b_below = λ q. n.0 }; none_refuses = n.1; next = n.2 }),
    (λ t.
        let l = t.operands.a_below refl in
        let n = (leader_expand_iff s d u m v a l b).1 (t.operands.b_below refl, t.none_refuses, t.next) in
        (lt-ltb a R l, n.0, n.1, n.2)),
  )
  kind_iff LeaderIncHighWatermark a b e = (
    (λ t.
        let l = ltb-true a R t.2 in
        let n = (inc_iff s d u m v a l).0 (t.0, t.1, t.3) in
        record { operands = record { a_below = λ q. l; b_below = unused_bound }; none_refuses = n.0; next = n.1 }),
    (λ t.
        let l = t.operands.a_below refl in
        let n = (inc_iff s d u m v a l).1 (t.none_refuses, t.next) in
        (n.0, n.1, lt-ltb a R l, n.2)),
  )
  kind_iff FollowerReplicate a b e = (
    (λ t.
        let n = (replicate_iff s d u m v a b).0 t in
        record { operands = record { a_below = λ q. n.0; b_below = λ q. n.1 }; none_refuses = n.2; next = n.3 }),
    (λ t. (replicate_iff s d u m v a b).1 (t.operands.a_below refl, t.operands.b_below refl, t.none_refuses, t.next)),
  )
  kind_iff Unknown a b e = ((λ t. absurd t), (λ t. absurd (let z = t.none_refuses in omega (arith, z))))

  -- ---- an action on a tidy state
  -- the epoch of a request that was sent is at most X
  epoch_below : (kind : Kind) (a b e : ℕ) → table_refusal kind s a b e ≡ accepted → (uses kind).e ≡ true → e < max_leader_epoch_of s.limits + 1
  unfolding uses table_refusal
  epoch_below BecomeLeader a b e h q = omega (arith, ((become_leader_accepted s e).0 h).0, d.rules.s1.epochs)
  epoch_below BecomeFollower a b e h q = omega (arith, ((become_follower_accepted s a e).0 h).0, d.rules.s1.epochs)
  epoch_below ControllerShrinkIsr a b e h q = unused_bound q
  epoch_below ControllerElectLeader a b e h q = unused_bound q
  epoch_below LeaderWrite a b e h q = unused_bound q
  epoch_below LeaderShrinkIsr a b e h q = unused_bound q
  epoch_below LeaderExpandIsr a b e h q = unused_bound q
  epoch_below LeaderIncHighWatermark a b e h q = unused_bound q
  epoch_below FollowerReplicate a b e h q = unused_bound q
  epoch_below Unknown a b e h q = unused_bound q

  module _ (action : Action) where
    abbrev kind : Kind
    kind = kind_of action.kind

    -- operands fit where those that are used are in range and the others are 0
    fits_by : KindAccepts kind action.a action.b action.e → UnusedZero kind action.a action.b action.e → operands_fit s.limits action ≡ true
    unfolding operands_fit operand_bounds
    fits_by t z =
        let o = t.operands in
        every_and _ _ (lt-ltb action.a _ ((operand_iff (uses kind).a R action.a).1 (o.a_below, z.a_zero)))
        (every_and _ _ (lt-ltb action.b _ ((operand_iff (uses kind).b R action.b).1 (o.b_below, z.b_zero)))
        (every_and _ _
        (lt-ltb action.e _
        ((operand_iff (uses kind).e (max_leader_epoch_of s.limits + 1) action.e).1
        (epoch_below kind action.a action.b action.e t.none_refuses, z.e_zero)))
        every_none))

    unused_by : operands_fit s.limits action ≡ true → UnusedZero kind action.a action.b action.e
    unfolding operands_fit operand_bounds
    unused_by h =
        let t = every_at (operand_tests s.limits action) h in
        record {
          a_zero = ((operand_iff (uses kind).a R action.a).0 (ltb-true action.a _ (t 0))).1;
          b_zero = ((operand_iff (uses kind).b R action.b).0 (ltb-true action.b _ (t 1))).1;
          e_zero = ((operand_iff (uses kind).e (max_leader_epoch_of s.limits + 1) action.e).0 (ltb-true action.e _ (t 2))).1;
        }

    -- a kind that the table does not refuse is one of the nine
    kind_known : table_refusal kind s action.a action.b action.e ≡ accepted → ltb last_kind action.kind ≡ false
    unfolding table_refusal
    kind_known h = go (ltb last_kind action.kind) refl
      where
        go : (b : Bool) → ltb last_kind action.kind ≡ b → b ≡ false
        go true q = absurd (let z = rw (kind_past action.kind (ltb-true last_kind action.kind q)) at h in omega (arith, z))
        go false q = refl

    action_iff : Choice k action u v ↔ (action_refusal s action ≡ accepted) × Means s.limits v (effect s action)
    unfolding action_refusal effect
    action_iff = (
      (λ t.
          let n = (kind_iff kind action.a action.b action.e).0 t.holds in (
            refuse_none _ _ _ (kind_known n.none_refuses) (refuse_none _ _ _ (ap not (fits_by n t.unused)) n.none_refuses),
            n.next,
          )),
      (λ t.
          let p = action_accepted s action t.0 in
          record {
            unused = unused_by p.0;
            holds = (kind_iff kind action.a action.b action.e).1
                (record { operands = operands_of s.limits action p.0 kind refl; none_refuses = p.1; next = t.1 });
          }),
    )

-- ---- an action on any state that meets the rules
pub engine_is_model : (s : State) → rules s ≡ true → (u : ModelState) → Means s.limits u s → (action : Action) (v : ModelState)
    → Choice (constants_of s.limits) action u v ↔ ((act s action).refusal ≡ accepted) × Means s.limits v (act s action).state
unfolding tidy
engine_is_model s h u m action v =
    let i = action_iff (tidy s) (sound_of (tidy s) (rules_tidy s ∙ h) (tidy_twice s)) u ((means_tidy s h u).0 m) v action in (
      (λ t.
          let n = i.0 t in
          let ok : refusal s action ≡ accepted = sym (refusal_of_met s action h) ∙ n.0 in
          (act_number s action ∙ ok, rw (act_accepted s action ok) n.1)),
      (λ t.
          let ok : refusal s action ≡ accepted = sym (act_number s action) ∙ t.0 in
          i.1 (refusal_of_met s action h ∙ ok, rw (act_accepted s action ok) at t.1)),
    )

-- from the meaning of the state itself
pub action_is_published : (s : State) → rules s ≡ true → (action : Action) (v : ModelState)
    → Choice (constants_of s.limits) action (meaning s) v ↔ ((act s action).refusal ≡ accepted) × Means s.limits v (act s action).state
action_is_published s h = engine_is_model s h (meaning s) (same_model_refl (constants_of s.limits) (meaning s))
