-- Which numbers an action may give beside 0: each is in the list, of an action on a state that meets the rules, and on any state.
-- Assumes nothing.
use Rattle.std.specs.Prelude.{ℕ, ◌≡◌, true, List, ◌∷◌, ◌++◌, map}
use Rattle.std.proofs.Math.Path.{refl, sym}
use Rattle.std.proofs.Common.{◌∙◌, ap}
use Rattle.logic.specs.Tests.{every}
use Rattle.logic.specs.Refuse.{listed, listed_refuse, listed_first, listed_within}
use Rattle.parts.specs.Refusal.{accepted}
use Rattle.cluster.specs.declared.State.{State}
use Rattle.cluster.specs.declared.Action.{Action}
use Rattle.cluster.specs.declared.Kind.{Kind}
use Rattle.cluster.specs.declared.Kind.TheVariants.{ControllerShrinkIsr, ControllerElectLeader, BecomeLeader, BecomeFollower, LeaderWrite, LeaderShrinkIsr, LeaderExpandIsr, LeaderIncHighWatermark, FollowerReplicate, Unknown}
use Rattle.cluster.specs.State.{tidy}
use Rattle.cluster.specs.Rules.{rules, state_refusal, state_numbers}
use Rattle.cluster.specs.RuleLaws.{state_listed}
use Rattle.cluster.specs.Act.{kind_of, table_refusal, action_refusal, refusal}
use Rattle.cluster.specs.ActLaws.{refusal_of_met}
use Rattle.actions.specs.Answers.{action_numbers, row_numbers, table_listed}

-- each row is within the list of all
row_within : (kind : Kind) → every (map (listed (accepted ∷ action_numbers)) (accepted ∷ row_numbers kind)) ≡ true
unfolding listed every row_numbers
row_within ControllerShrinkIsr = refl
row_within ControllerElectLeader = refl
row_within BecomeLeader = refl
row_within BecomeFollower = refl
row_within LeaderWrite = refl
row_within LeaderShrinkIsr = refl
row_within LeaderExpandIsr = refl
row_within LeaderIncHighWatermark = refl
row_within FollowerReplicate = refl
row_within Unknown = refl

-- of an action on a state that meets the rules and is tidy
action_listed : (s : State) (action : Action) → listed (accepted ∷ action_numbers) (action_refusal s action) ≡ true
unfolding action_refusal listed
action_listed s action =
    let kind = kind_of action.kind in
    let listed_by = listed_refuse (accepted ∷ action_numbers) in
    listed_by _ _ _ refl
    (listed_by _ _ _ refl
    (listed_within (accepted ∷ row_numbers kind) (accepted ∷ action_numbers) (table_refusal kind s action.a action.b action.e) (row_within kind)
    (table_listed s kind action.a action.b action.e)))

-- of one on a state that meets the rules
pub met_listed : (s : State) (action : Action) → rules s ≡ true → listed (accepted ∷ action_numbers) (refusal s action) ≡ true
met_listed s action h = ap (listed (accepted ∷ action_numbers)) (sym (refusal_of_met s action h)) ∙ action_listed (tidy s) action

-- and of one on any state
pub refusal_listed : (s : State) (action : Action) → listed (accepted ∷ state_numbers ++ action_numbers) (refusal s action) ≡ true
unfolding refusal listed every
refusal_listed s action =
    let all : List ℕ = accepted ∷ state_numbers ++ action_numbers in
    listed_first all (state_refusal s) (action_refusal (tidy s) action)
    (listed_within (accepted ∷ state_numbers) all (state_refusal s) refl (state_listed s))
    (listed_within (accepted ∷ action_numbers) all (action_refusal (tidy s) action) refl (action_listed (tidy s) action))
