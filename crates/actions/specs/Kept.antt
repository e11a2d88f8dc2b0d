-- Every accepted action hands back a state that meets S1 to S7, is tidy, and has the same R, L, M and X.
-- Assumes nothing.
use Rattle.std.specs.Prelude.{ℕ, zero, suc, ◌≡◌, refl, true}
use Rattle.std.proofs.Common.{sym, ◌∙◌, ap}
use Rattle.logic.specs.Refuse.{by_refusal}
use Rattle.parts.specs.Refusal.{accepted}
use Rattle.cluster.specs.declared.State.{State}
use Rattle.cluster.specs.declared.Action.{Action}
use Rattle.cluster.specs.State.{tidy}
use Rattle.cluster.specs.Rules.{rules}
use Rattle.cluster.specs.Predicates.{rules_iff}
use Rattle.cluster.specs.Equality.{tidy_same, tidy_twice}
use Rattle.cluster.specs.Unused.{rules_tidy}
use Rattle.cluster.specs.Actions.{member_named}
use Rattle.cluster.specs.Act.{kind_of, action_refusal, effect, answer_by, step, act}
use Rattle.cluster.specs.ActLaws.{act_met, accepts}
use Rattle.cluster.specs.Accepted.{operands_of, action_accepted}
use Rattle.actions.specs.Tidy.{tidy_iff}
use Rattle.actions.specs.Sound.{sound_of}
use Rattle.actions.specs.Kinds.{kind_sound}

-- what an accepted action keeps of the state s in the next state t
pub record Kept (s t : State) : Type 0 where
  pub rules : rules t ≡ true
  pub tidy : tidy t ≡ t
  pub limits : t.limits ≡ s.limits

-- a tidy state that meets the rules keeps all of it of itself, and what each of two steps keeps both together keep
pub kept_same : (s : State) → rules s ≡ true → tidy s ≡ s → Kept s s
kept_same s h t = record { rules = h; tidy = t; limits = refl }

pub kept_after : (s t u : State) → Kept s t → Kept t u → Kept s u
kept_after s t u k l = record { rules = l.rules; tidy = l.tidy; limits = l.limits ∙ k.limits }

-- an accepted action on a state that meets the rules and is tidy
pub effect_kept : (s : State) (action : Action) → rules s ≡ true → tidy s ≡ s → action_refusal s action ≡ accepted → Kept s (effect s action)
unfolding effect
effect_kept s action h t ok =
    let p = action_accepted s action ok in
    let k =
    kind_sound s.limits s (sound_of s h t) (kind_of action.kind) action.a action.b action.e
    (operands_of s.limits action p.0 (kind_of action.kind) refl) p.1 in
    record { rules = (rules_iff _).1 k.rules; tidy = (tidy_iff _).1 k.tidy; limits = k.limits }

-- on any state: it starts from the tidy form, which meets the rules where the state does
pub act_kept : (s : State) (action : Action) → (act s action).refusal ≡ accepted → Kept s (act s action).state
act_kept s action ok =
    let a = accepts s action ok in
    let k = effect_kept (tidy s) action (rules_tidy s ∙ a.met) (tidy_twice s) a.unrefused in
    rw a.next (record { rules = k.rules; tidy = k.tidy; limits = k.limits ∙ (tidy_same s).limits })

-- so a step from a tidy state that meets the rules leads to one, whatever it answers
pub step_kept : (s : State) (action : Action) → rules s ≡ true → tidy s ≡ s → Kept s (step s action).state
unfolding step answer_by by_refusal
step_kept s action h t = go (action_refusal s action) refl
  where
    go : (n : ℕ) → action_refusal s action ≡ n → Kept s (answer_by n (member_named n s action.a) s (effect s action)).state
    go zero e = effect_kept s action h t e
    go (suc n) e = kept_same s h t

-- where the state meets the rules and is tidy, a step, which tests neither, answers what the action does
pub step_is_act : (s : State) (action : Action) → rules s ≡ true → tidy s ≡ s → step s action ≡ act s action
unfolding step
step_is_act s action h t =
    ap (λ (u : State). answer_by (action_refusal u action) (member_named (action_refusal u action) u action.a) s (effect u action)) (sym t)
    ∙ act_met s action h
