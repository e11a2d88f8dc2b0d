-- The finite behaviours of the published model are the sequences of accepted actions from a fresh state, and each of their
-- states is the meaning of one that meets S1 to S7, so TypeOk holds of it. Assumes nothing.
--
--   AllAccepted s actions     the actions are accepted one after another, from s
--   states_after s actions    the states that they hand back
--   MeanAll c us states       the model's states us are the meanings of these states, one by one
--   MeetsRules c u            u is the meaning of a state of the configuration c that meets S1 to S7
--   next_is_accepted          the steps of the model are the accepted actions
--   actions_are_steps         accepted actions are steps of the model
--   steps_are_actions         steps of the model are accepted actions
--   sequence_is_behaviour     from the fresh state, the states of accepted actions are a finite behaviour
--   behaviour_is_sequence     every finite behaviour is, state by state, the meaning of such states
--   behaviour_meets_rules     each of its states is the meaning of one that meets S1 to S7
--   behaviour_type_ok         so TypeOk holds of each
use Rattle.std.specs.Prelude.{◌≡◌, true, List, [], ◌∷◌, map, ◌↔◌}
use Rattle.std.proofs.Common.{◌∙◌}
use Rattle.std.proofs.Math.Path.{ap}
use Rattle.logic.specs.Each.{Each, each_by}
use Rattle.parts.specs.Refusal.{accepted}
use Rattle.cluster.specs.declared.Limits.{Limits}
use Rattle.cluster.specs.declared.State.{State}
use Rattle.cluster.specs.declared.Action.{Action}
use Rattle.cluster.specs.Rules.{rules}
use Rattle.cluster.specs.Fresh.{fresh_state, fresh}
use Rattle.cluster.specs.FreshLaws.{fresh_accepted, fresh_answer_rules}
use Rattle.cluster.specs.Act.{act}
use Rattle.actions.specs.Kept.{act_kept}
use Rattle.published.specs.KafkaReplication.{TypeOk, ModelState, Next, Steps, FiniteBehaviour}
use Rattle.published.specs.Meaning.{constants_of, meaning, Means}
use Rattle.published.specs.Choices.{Choice}
use Rattle.published.specs.Equality.{same_model_refl}
use Rattle.published.proofs.Engine.{engine_is_model}
use Rattle.published.specs.Types.{type_ok_same, rules_type_ok}
use Rattle.published.specs.Start.{fresh_init, init_is_fresh}
use Rattle.published.proofs.Enabled.{means_epochs, next_is_choice}

-- ---- sequences of actions
-- actions accepted one after another, from s
abbrev pub AllAccepted : State → List Action → Type 0
AllAccepted s [] = Unit {0}
AllAccepted s (x ∷ xs) = ((act s x).refusal ≡ accepted) × AllAccepted (act s x).state xs

-- the states that they hand back
unfoldable pub states_after : State → List Action → List State
states_after s [] = []
states_after s (x ∷ xs) = (act s x).state ∷ states_after (act s x).state xs

-- the model's states are the meanings of these states, one by one
abbrev pub MeanAll : Limits → List ModelState → List State → Type 0
MeanAll c [] [] = Unit {0}
MeanAll c [] (s ∷ ss) = ⊥
MeanAll c (u ∷ us) [] = ⊥
MeanAll c (u ∷ us) (s ∷ ss) = Means c u s × MeanAll c us ss

-- u is the meaning of a state of this configuration that meets S1 to S7
abbrev pub MeetsRules : Limits → ModelState → Type 0
MeetsRules c u = (s : State) × (rules s ≡ true) × (s.limits ≡ c) × Means c u s

-- ---- one step
module _ (c : Limits) (s : State) (met : rules s ≡ true) (same : s.limits ≡ c) where
  -- what the engine does, said with c for the configuration of s
  engine_at : (u : ModelState) → Means c u s → (action : Action) (v : ModelState)
      → Choice (constants_of c) action u v ↔ ((act s action).refusal ≡ accepted) × Means c v (act s action).state
  engine_at = rw (← same) (engine_is_model s met)

  -- the steps of the model are the accepted actions
  pub next_is_accepted : (u : ModelState) → Means c u s → (v : ModelState)
      → Next (constants_of c) u v ↔ (action : Action) × ((act s action).refusal ≡ accepted) × Means c v (act s action).state
  next_is_accepted u m v =
      let chosen = next_is_choice (constants_of c) u v (means_epochs c u s m) in (
        (λ h.
            let p = chosen.0 h in
            let q = (engine_at u m p.0 v).0 p.1 in
            (p.0, q.0, q.1)),
        (λ h. chosen.1 (h.0, (engine_at u m h.0 v).1 (h.1, h.2))),
      )

  accepted_is_next : (action : Action) → (act s action).refusal ≡ accepted
      → Next (constants_of c) (meaning s) (meaning (act s action).state)
  accepted_is_next action ok =
      (next_is_accepted (meaning s) (same_model_refl (constants_of c) (meaning s)) (meaning (act s action).state)).1
      (action, ok, same_model_refl (constants_of c) (meaning (act s action).state))

-- ---- from any state that meets the rules; c stays while the state changes
-- accepted actions are steps of the model
pub actions_are_steps : (c : Limits) (s : State) → rules s ≡ true → s.limits ≡ c → (actions : List Action) → AllAccepted s actions
    → Steps (constants_of c) (meaning s) (map meaning (states_after s actions))
unfolding states_after
actions_are_steps c s met same [] h = tt
actions_are_steps c s met same (x ∷ xs) h =
    let kept = act_kept s x h.0 in (
      accepted_is_next c s met same x h.0,
      actions_are_steps c (act s x).state kept.rules (kept.limits ∙ same) xs h.1,
    )

-- steps of the model, from a state that means s, are accepted actions
pub steps_are_actions : (c : Limits) (s : State) → rules s ≡ true → s.limits ≡ c → (u : ModelState) → Means c u s
    → (vs : List ModelState) → Steps (constants_of c) u vs
    → (actions : List Action) × AllAccepted s actions × MeanAll c vs (states_after s actions)
unfolding states_after
steps_are_actions c s met same u m [] h = ([], tt, tt)
steps_are_actions c s met same u m (v ∷ vs) h =
    let p = (next_is_accepted c s met same u m v).0 h.0 in
    let kept = act_kept s p.0 p.1 in
    let r = steps_are_actions c (act s p.0).state kept.rules (kept.limits ∙ same) v p.2 vs h.1 in
    (p.0 ∷ r.0, (p.1, r.1), (p.2, r.2))

-- what accepted actions hand back meets the rules
handed_back_meets_rules : (c : Limits) (s : State) → s.limits ≡ c → (actions : List Action) → AllAccepted s actions
    → (us : List ModelState) → MeanAll c us (states_after s actions) → Each (MeetsRules c) us
unfolding states_after
handed_back_meets_rules c s same [] h [] m = tt
handed_back_meets_rules c s same [] h (u ∷ us) m = absurd m
handed_back_meets_rules c s same (x ∷ xs) h [] m = absurd m
handed_back_meets_rules c s same (x ∷ xs) h (u ∷ us) m =
    let kept = act_kept s x h.0 in (
      ((act s x).state, kept.rules, kept.limits ∙ same, m.0),
      handed_back_meets_rules c (act s x).state (kept.limits ∙ same) xs h.1 us m.1,
    )

-- ---- from the fresh state of an accepted configuration
module _ (c : Limits) (ok : (fresh c).refusal ≡ accepted) where
  fresh_limits : (fresh c).state.limits ≡ c
  unfolding fresh_state
  fresh_limits = ap (λ (s : State). s.limits) (fresh_accepted c ok).1

  -- a sequence of accepted actions is a behaviour
  pub sequence_is_behaviour : (actions : List Action) → AllAccepted (fresh c).state actions
      → FiniteBehaviour (constants_of c) (map meaning ((fresh c).state ∷ states_after (fresh c).state actions))
  sequence_is_behaviour actions h =
      (fresh_init c ok, actions_are_steps c (fresh c).state (fresh_answer_rules c ok) fresh_limits actions h)

  -- every behaviour is one, state by state
  pub behaviour_is_sequence : (us : List ModelState) → FiniteBehaviour (constants_of c) us
      → (actions : List Action)
      × AllAccepted (fresh c).state actions
      × MeanAll c us ((fresh c).state ∷ states_after (fresh c).state actions)
  behaviour_is_sequence [] h = absurd h
  behaviour_is_sequence (u ∷ us) h =
      let m = init_is_fresh c ok u h.0 in
      let r = steps_are_actions c (fresh c).state (fresh_answer_rules c ok) fresh_limits u m us h.1 in
      (r.0, r.1, (m, r.2))

  -- so each of its states is the meaning of one that meets the rules
  pub behaviour_meets_rules : (us : List ModelState) → FiniteBehaviour (constants_of c) us → Each (MeetsRules c) us
  behaviour_meets_rules [] h = absurd h
  behaviour_meets_rules (u ∷ us) h =
      let p = behaviour_is_sequence (u ∷ us) h in (
        ((fresh c).state, fresh_answer_rules c ok, fresh_limits, p.2.0),
        handed_back_meets_rules c (fresh c).state fresh_limits p.0 p.1 us p.2.1,
      )

  -- and has the types of the model
  pub behaviour_type_ok : (us : List ModelState) → FiniteBehaviour (constants_of c) us → Each (TypeOk (constants_of c)) us
  behaviour_type_ok us h =
      each_by (MeetsRules c) (TypeOk (constants_of c))
      (λ u p.
      type_ok_same (constants_of c) u (meaning p.0) p.3
      (rw (← p.2) (rules_type_ok p.0 p.1)))
      us (behaviour_meets_rules us h)
