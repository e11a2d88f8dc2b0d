-- The source's `\E` over the choices of an action comes to naming them by operands. So Next is the choice of some action, and
-- a kind has an accepted action exactly where the source's action is enabled. Assumes nothing.
--
--   kind_number kind           a number of the kind
--   kind_of_number             the kind of that number is the given one
--   RequestsHaveEpochs u       every request of u has an epoch that an operand can name
--   means_epochs               it holds of every state of the model that is the meaning of a state
--   source_action_is_choices   the source's action of a kind is that action with the choices that some operands name
--   next_is_source_action      Next is the source's action of some kind
--   source_action_is_choice    the source's action of the kind of a number is the Choice of some action with that number
--   next_is_choice             Next is the Choice of some action
--   enabled_iff                some action with a number is accepted exactly where the source's action of its kind is enabled
use Rattle.std.specs.Prelude.{ℕ, ◌≡◌, refl, Bool, true, false, ◌↔◌, pos}
use Rattle.std.proofs.Common.{ap, inl, inr}
use Rattle.logic.specs.Tests.{true_false}
use Rattle.parts.specs.Refusal.{accepted}
use Rattle.cluster.specs.declared.Limits.{Limits}
use Rattle.cluster.specs.declared.State.{State}
use Rattle.cluster.specs.declared.Action.{Action}
use Rattle.cluster.specs.declared.Kind.{Kind}
use Rattle.cluster.specs.declared.Kind.TheVariants as Kinds
use Rattle.cluster.specs.Rules.{rules}
use Rattle.cluster.specs.Act.{kind_of, action_of, uses, act}
use Rattle.published.specs.KafkaReplication.{Constants, LeaderAndIsr, ModelState, Next}
use Rattle.published.specs.Meaning.{constants_of, meaning, Means}
use Rattle.published.specs.Choices.{SourceAction, SourceActionWith, UnusedZero, Choice}
use Rattle.published.specs.Equality.{same_model_refl}
use Rattle.published.proofs.Engine.{action_is_published}

-- ---- a number of each kind; 9 is one of the numbers that are of no kind
unfoldable pub kind_number : Kind → ℕ
kind_number Kinds.ControllerShrinkIsr = 0
kind_number Kinds.ControllerElectLeader = 1
kind_number Kinds.BecomeLeader = 2
kind_number Kinds.BecomeFollower = 3
kind_number Kinds.LeaderWrite = 4
kind_number Kinds.LeaderShrinkIsr = 5
kind_number Kinds.LeaderExpandIsr = 6
kind_number Kinds.LeaderIncHighWatermark = 7
kind_number Kinds.FollowerReplicate = 8
kind_number Kinds.Unknown = 9

pub kind_of_number : (kind : Kind) → kind_of (kind_number kind) ≡ kind
unfolding kind_of kind_number
kind_of_number Kinds.ControllerShrinkIsr = refl
kind_of_number Kinds.ControllerElectLeader = refl
kind_of_number Kinds.BecomeLeader = refl
kind_of_number Kinds.BecomeFollower = refl
kind_of_number Kinds.LeaderWrite = refl
kind_of_number Kinds.LeaderShrinkIsr = refl
kind_of_number Kinds.LeaderExpandIsr = refl
kind_of_number Kinds.LeaderIncHighWatermark = refl
kind_of_number Kinds.FollowerReplicate = refl
kind_of_number Kinds.Unknown = refl

-- ---- operands of a kind
-- the operand where it is used, else 0
abbrev operand : Bool → ℕ → ℕ
operand true n = n
operand false n = 0

unused_is_zero : (used : Bool) (n : ℕ) → used ≡ false → operand used n ≡ 0
unused_is_zero true n h = absurd (true_false h)
unused_is_zero false n h = refl

operands_unused_zero : (kind : Kind) (a b e : ℕ)
    → UnusedZero kind (operand (uses kind).a a) (operand (uses kind).b b) (operand (uses kind).e e)
operands_unused_zero kind a b e =
    record {
      a_zero = unused_is_zero (uses kind).a a;
      b_zero = unused_is_zero (uses kind).b b;
      e_zero = unused_is_zero (uses kind).e e;
    }

-- ---- the choices that operands name
-- every request has an epoch that an operand can name
abbrev pub RequestsHaveEpochs : ModelState → Type 0
RequestsHaveEpochs u = (request : LeaderAndIsr) → u.leaderAndIsrRequests request → (e : ℕ) × (request.leaderEpoch ≡ pos e)

pub means_epochs : (c : Limits) (u : ModelState) (s : State) → Means c u s → RequestsHaveEpochs u
unfolding meaning
means_epochs c u s m request h =
    let q = (m.leaderAndIsrRequests request).0 h in
    (q.0, ap (λ (r : LeaderAndIsr). r.leaderEpoch) q.2)

module _ (k : Constants) (u v : ModelState) where
  -- an operand names each replica that the source chooses, and a request by its epoch; other choices stay
  source_action_choices : RequestsHaveEpochs u → (kind : Kind) → SourceAction kind k u v
      → (a b e : ℕ) × UnusedZero kind a b e × SourceActionWith kind a b e k u v
  unfolding uses
  source_action_choices epochs Kinds.ControllerShrinkIsr h =
      (h.0, 0, 0, operands_unused_zero Kinds.ControllerShrinkIsr h.0 0 0, (h.1, h.2))
  source_action_choices epochs Kinds.ControllerElectLeader h =
      (h.0, 0, 0, operands_unused_zero Kinds.ControllerElectLeader h.0 0 0, (h.1, h.2))
  source_action_choices epochs Kinds.BecomeLeader h =
      let e = epochs h.0 h.1 in
      (0, 0, e.0, operands_unused_zero Kinds.BecomeLeader 0 0 e.0, (h.0, h.1, e.1, h.2))
  source_action_choices epochs Kinds.BecomeFollower h =
      let q = h.4 in
      let e = epochs q.0 q.1 in
      (h.2, 0, e.0, operands_unused_zero Kinds.BecomeFollower h.2 0 e.0, (h.0, h.1, h.3, q.0, q.1, e.1, q.2))
  source_action_choices epochs Kinds.LeaderWrite h =
      (h.0, 0, 0, operands_unused_zero Kinds.LeaderWrite h.0 0 0, (h.1, h.2, h.3, h.4, h.5, h.6))
  source_action_choices epochs Kinds.LeaderShrinkIsr h =
      (h.0, h.2, 0, operands_unused_zero Kinds.LeaderShrinkIsr h.0 h.2 0, (h.1, h.3, h.4))
  source_action_choices epochs Kinds.LeaderExpandIsr h =
      (h.0, h.2, 0, operands_unused_zero Kinds.LeaderExpandIsr h.0 h.2 0, (h.1, h.3, h.4, h.5))
  source_action_choices epochs Kinds.LeaderIncHighWatermark h =
      (h.1, 0, 0, operands_unused_zero Kinds.LeaderIncHighWatermark h.1 0 0, (h.0, h.2, h.3, h.4))
  source_action_choices epochs Kinds.FollowerReplicate h =
      (h.0, h.1, 0, operands_unused_zero Kinds.FollowerReplicate h.0 h.1 0, (h.2, h.3, h.4))
  source_action_choices epochs Kinds.Unknown h = absurd h

  -- the other way round, the names are forgotten
  forget_choices : (kind : Kind) (a b e : ℕ) → SourceActionWith kind a b e k u v → SourceAction kind k u v
  forget_choices Kinds.ControllerShrinkIsr a b e h = (a, h.0, h.1)
  forget_choices Kinds.ControllerElectLeader a b e h = (a, h.0, h.1)
  forget_choices Kinds.BecomeLeader a b e h = (h.0, h.1, h.3)
  forget_choices Kinds.BecomeFollower a b e h = (h.0, h.1, a, h.2, (h.3, h.4, h.6))
  forget_choices Kinds.LeaderWrite a b e h = (a, h.0, h.1, h.2, h.3, h.4, h.5)
  forget_choices Kinds.LeaderShrinkIsr a b e h = (a, h.0, b, h.1, h.2)
  forget_choices Kinds.LeaderExpandIsr a b e h = (a, h.0, b, h.1, h.2, h.3)
  forget_choices Kinds.LeaderIncHighWatermark a b e h = (h.0, a, h.1, h.2, h.3)
  forget_choices Kinds.FollowerReplicate a b e h = (a, b, h.0, h.1, h.2)
  forget_choices Kinds.Unknown a b e h = h

  pub source_action_is_choices : RequestsHaveEpochs u → (kind : Kind)
      → SourceAction kind k u v ↔ (a b e : ℕ) × UnusedZero kind a b e × SourceActionWith kind a b e k u v
  source_action_is_choices epochs kind =
      (source_action_choices epochs kind, λ h. forget_choices kind h.0 h.1 h.2 h.4)

  -- ---- Next is the action of some kind
  kind_of_next : Next k u v → (kind : Kind) × SourceAction kind k u v
  kind_of_next (inl h) = (Kinds.ControllerShrinkIsr, h)
  kind_of_next (inr (inl h)) = (Kinds.ControllerElectLeader, h)
  kind_of_next (inr (inr (inl h))) = (Kinds.BecomeLeader, h)
  kind_of_next (inr (inr (inr (inl h)))) = (Kinds.LeaderWrite, h)
  kind_of_next (inr (inr (inr (inr (inl h))))) = (Kinds.LeaderShrinkIsr, h)
  kind_of_next (inr (inr (inr (inr (inr (inl h)))))) = (Kinds.LeaderExpandIsr, h)
  kind_of_next (inr (inr (inr (inr (inr (inr (inl h))))))) = (Kinds.LeaderIncHighWatermark, h)
  kind_of_next (inr (inr (inr (inr (inr (inr (inr (inl h)))))))) = (Kinds.BecomeFollower, h)
  kind_of_next (inr (inr (inr (inr (inr (inr (inr (inr h)))))))) = (Kinds.FollowerReplicate, h)

  next_of_kind : (kind : Kind) → SourceAction kind k u v → Next k u v
  next_of_kind Kinds.ControllerShrinkIsr h = inl h
  next_of_kind Kinds.ControllerElectLeader h = inr (inl h)
  next_of_kind Kinds.BecomeLeader h = inr (inr (inl h))
  next_of_kind Kinds.LeaderWrite h = inr (inr (inr (inl h)))
  next_of_kind Kinds.LeaderShrinkIsr h = inr (inr (inr (inr (inl h))))
  next_of_kind Kinds.LeaderExpandIsr h = inr (inr (inr (inr (inr (inl h)))))
  next_of_kind Kinds.LeaderIncHighWatermark h = inr (inr (inr (inr (inr (inr (inl h))))))
  next_of_kind Kinds.BecomeFollower h = inr (inr (inr (inr (inr (inr (inr (inl h)))))))
  next_of_kind Kinds.FollowerReplicate h = inr (inr (inr (inr (inr (inr (inr (inr h)))))))
  next_of_kind Kinds.Unknown h = absurd h

  pub next_is_source_action : Next k u v ↔ (kind : Kind) × SourceAction kind k u v
  next_is_source_action = (kind_of_next, λ h. next_of_kind h.0 h.1)

  -- ---- so it is the choice of an action
  -- the source's action of a number's kind is the choice of some action with that number
  pub source_action_is_choice : RequestsHaveEpochs u → (n : ℕ)
      → SourceAction (kind_of n) k u v ↔ (a b e : ℕ) × Choice k (action_of n a b e) u v
  source_action_is_choice epochs n = (
    (λ h.
        let w = (source_action_is_choices epochs (kind_of n)).0 h in
        (w.0, w.1, w.2, record { unused = w.3; holds = w.4 })),
    (λ h. (source_action_is_choices epochs (kind_of n)).1 (h.0, h.1, h.2, h.3.unused, h.3.holds)),
  )

  pub next_is_choice : RequestsHaveEpochs u → Next k u v ↔ (action : Action) × Choice k action u v
  next_is_choice epochs = (
    (λ h.
        let p = next_is_source_action.0 h in
        let w = (source_action_is_choice epochs (kind_number p.0)).0 (rw (kind_of_number p.0) p.1) in
        (action_of (kind_number p.0) w.0 w.1 w.2, w.3)),
    (λ h.
        let n = h.0.kind in
        next_is_source_action.1 (kind_of n, (source_action_is_choice epochs n).1 (h.0.a, h.0.b, h.0.e, h.1))),
  )

-- ---- a kind has an accepted action exactly where the source's action is enabled
pub enabled_iff : (s : State) → rules s ≡ true → (n : ℕ)
    → ((a b e : ℕ) × ((act s (action_of n a b e)).refusal ≡ accepted))
    ↔ ((v : ModelState) × SourceAction (kind_of n) (constants_of s.limits) (meaning s) v)
enabled_iff s met n =
    let k = constants_of s.limits in
    let engine = action_is_published s met in
    let epochs = means_epochs s.limits (meaning s) s (same_model_refl k (meaning s)) in (
      (λ h.
          let action = action_of n h.0 h.1 h.2 in
          let v = meaning (act s action).state in
          let choice = (engine action v).1 (h.3, same_model_refl k v) in
          (v, (source_action_is_choice k (meaning s) v epochs n).1 (h.0, h.1, h.2, choice))),
      (λ h.
          let w = (source_action_is_choice k (meaning s) h.0 epochs n).0 h.1 in
          (w.0, w.1, w.2, ((engine (action_of n w.0 w.1 w.2) h.0).0 w.3).0)),
    )
