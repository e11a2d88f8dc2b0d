-- An action of any four bytes on a tidy state that meets the rules: the renamed action on the renamed state gets the same
-- number, and the state handed back is the first one's, renamed; the member named is left out. Assumes nothing.
use Prim.Native.Nat.{ℕ}
use Rattle.std.specs.Prelude.{◌≡◌, Bool, not}
use Rattle.std.proofs.Math.Path.{refl, sym, ap, ap₂}
use Rattle.std.proofs.Common.{◌∙◌, arith, le_refl, lt-ltb, le-ltb}
use Rattle.std.proofs.Math.Bool.{true, false}
use Rattle.std.proofs.Math.Decide.{dec_lt}
use Rattle.std.proofs.Math.Dec.{ltb}
use Rattle.logic.specs.Tests.{every_cong}
use Rattle.logic.specs.Refuse.{refuse, by_map}
use Rattle.parts.specs.Refusal.{unknown_kind, bad_operand}
use Rattle.cluster.specs.declared.State.{State}
use Rattle.cluster.specs.declared.Action.{Action}
use Rattle.cluster.specs.Answer.{ActionAnswer}
use Rattle.cluster.specs.declared.Kind.{Kind}
use Rattle.cluster.specs.declared.Kind.TheVariants.{ControllerShrinkIsr, ControllerElectLeader, BecomeLeader, BecomeFollower, LeaderWrite, LeaderShrinkIsr, LeaderExpandIsr, LeaderIncHighWatermark, FollowerReplicate, Unknown}
use Rattle.cluster.specs.State.{replica_count_of}
use Rattle.cluster.specs.Act.{last_kind, kind_of, uses, operand_bound, operand_bounds, operands_fit, table_refusal, table_effect, action_refusal, effect, action_answer, accepted_with, without_member, refused_on, answer_by, step, act}
use Rattle.actions.specs.Kept.{step_is_act}
use Rattle.renamings.specs.Renaming.{Renaming, ltb_to}
use Rattle.renamings.specs.Rename.{rename_state, rename_operand, rename_action, Met}
use Rattle.renamings.specs.ActionsRenamed.{refusal_renamed, effect_renamed}
use Rattle.renamings.specs.TidyRenamed.{at_most_five, fits, met_renamed}

-- ---- the table looks at the operands that a kind uses, and at no other
-- what the table has for a kind: the refusal and the effect
abbrev refusal_and_effect : State → Kind → ℕ → ℕ → ℕ → ℕ × State
refusal_and_effect s kind a b e = (table_refusal kind s a b e, table_effect kind s a b e)

module _ (s : State) (a b c d e : ℕ) where
  refusal_and_effect_use : (kind : Kind) → ((uses kind).a ≡ true → a ≡ c) → ((uses kind).b ≡ true → b ≡ d) → refusal_and_effect s kind a b e ≡ refusal_and_effect s kind c d e
  unfolding table_refusal table_effect uses
  refusal_and_effect_use ControllerShrinkIsr f g = rw (f refl) refl
  refusal_and_effect_use ControllerElectLeader f g = rw (f refl) refl
  refusal_and_effect_use BecomeLeader f g = refl
  refusal_and_effect_use BecomeFollower f g = rw (f refl) refl
  refusal_and_effect_use LeaderWrite f g = rw (f refl) refl
  refusal_and_effect_use LeaderShrinkIsr f g = rw (f refl, g refl) refl
  refusal_and_effect_use LeaderExpandIsr f g = rw (f refl, g refl) refl
  refusal_and_effect_use LeaderIncHighWatermark f g = rw (f refl) refl
  refusal_and_effect_use FollowerReplicate f g = rw (f refl, g refl) refl
  refusal_and_effect_use Unknown f g = refl

-- ---- operands
module _ {n : ℕ} (p : Renaming n) where
  -- a used operand is renamed, whether it is below n or not: from n on a renaming leaves it
  pub operand_used : (used : Bool) (a : ℕ) → used ≡ true → rename_operand n p.to used a ≡ p.to a
  unfolding rename_operand
  operand_used used a h =
      rw h
      (elim (dec_lt a n) [
        | yes l ↦ rw (lt-ltb a n l) refl
        | no l ↦ rw (le-ltb a n (omega arith)) (sym (p.keeps a (omega arith)))
      ])

  operand_fits : (used : Bool) (a : ℕ) → ltb (rename_operand n p.to used a) (operand_bound used n) ≡ ltb a (operand_bound used n)
  unfolding operand_bound
  operand_fits true a = ap (λ (i : ℕ). ltb i n) (operand_used true a refl) ∙ ltb_to p n (le_refl n) a
  operand_fits false a = unfold rename_operand in refl

module _ (s : State) (p : Renaming (replica_count_of s.limits)) (m : Met s) (action : Action) where
  abbrev n : ℕ
  n = replica_count_of s.limits

  abbrev kind : Kind
  kind = kind_of action.kind

  abbrev ren : State → State
  ren = rename_state p.to p.from

  operands_fit_renamed : operands_fit s.limits (rename_action n p.to action) ≡ operands_fit s.limits action
  unfolding operands_fit operand_bounds rename_action
  operands_fit_renamed =
      every_cong _ _ _ _ (operand_fits p (uses kind).a action.a)
      (every_cong _ _ _ _ (operand_fits p (uses kind).b action.b) refl)

  -- the row of the table under the renaming has the refusal of the row and its effect, renamed
  refusal_and_effect_renamed : refusal_and_effect (ren s) kind (rename_action n p.to action).a (rename_action n p.to action).b action.e
      ≡ (table_refusal kind s action.a action.b action.e, ren (table_effect kind s action.a action.b action.e))
  unfolding rename_action
  refusal_and_effect_renamed =
      refusal_and_effect_use (ren s) _ _ (p.to action.a) (p.to action.b) action.e kind
      (operand_used p (uses kind).a action.a) (operand_used p (uses kind).b action.b)
      ∙ ap₂ (λ (k : ℕ) (t : State). (k, t))
      (refusal_renamed s p (at_most_five s m) (fits s m).five kind action.a action.b action.e)
      (effect_renamed s p (at_most_five s m) (fits s m).five kind action.a action.b action.e)

  number_renamed : action_refusal (ren s) (rename_action n p.to action) ≡ action_refusal s action
  unfolding action_refusal rename_action
  number_renamed =
      ap₂ (λ (t : Bool) (r : ℕ × State). refuse (ltb last_kind action.kind) unknown_kind (refuse (not t) bad_operand r.0))
      operands_fit_renamed refusal_and_effect_renamed

  next_renamed : effect (ren s) (rename_action n p.to action) ≡ ren (effect s action)
  unfolding effect rename_action
  next_renamed = ap (λ (r : ℕ × State). r.1) refusal_and_effect_renamed

  -- an answer without its member, its state renamed
  abbrev ren_answer : ActionAnswer → ActionAnswer
  ren_answer o = action_answer o.refusal 0 (ren o.state)

  -- an answer under the renaming, the member named left out: the same number, and its state renamed
  step_renamed : without_member (step (ren s) (rename_action n p.to action)) ≡ ren_answer (step s action)
  unfolding step answer_by
  step_renamed =
      by_map without_member (action_refusal (ren s) (rename_action n p.to action)) (refused_on (ren s) _)
      (accepted_with (effect (ren s) (rename_action n p.to action)))
      ∙ ap₂ (λ (k : ℕ) (t : State). answer_by k 0 (ren s) t) number_renamed next_renamed
      ∙ sym (by_map ren_answer (action_refusal s action) (refused_on s _) (accepted_with (effect s action)))

  pub act_renamed : without_member (act (ren s) (rename_action n p.to action)) ≡ ren_answer (act s action)
  act_renamed =
      let r = met_renamed s m p in
      ap without_member (sym (step_is_act (ren s) (rename_action n p.to action) r.rules r.tidy))
      ∙ step_renamed
      ∙ ap ren_answer (step_is_act s action m.rules m.tidy)
