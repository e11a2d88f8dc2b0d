-- Kind 7 by what it answers, on any state that meets the rules: where 48 and 49 are given, by the published model. Assumes nothing.
--
--   advance a              the action of kind 7 of replica a
--   advance_number         its number is that of its row of the table, on the tidy form of the state
--   advance_not_following  it is 48 exactly where a presumes and some member of a's ISR does not follow it
--   advance_lacks_offset   it is 49 exactly where a presumes, all members follow it and some member lacks the offset
--   advance_refused        it is 48 or 49 exactly where a presumes and the model has no step of LeaderIncHighWatermark for it
use Rattle.std.specs.Prelude.{ℕ, ◌<◌, ◌≡◌, true, ◌↔◌, ◌⊎◌, ltb}
use Rattle.std.proofs.Math.Path.{refl}
use Rattle.std.proofs.Common.{sym, ◌∙◌, ap, subst, inl, inr, arith, lt-ltb}
use Rattle.std.proofs.Math.Bool.{not}
use Rattle.logic.specs.Tests.{every_and, every_none}
use Rattle.logic.specs.Refuse.{refuse_no}
use Rattle.parts.specs.Refusal.{accepted, unknown_kind, bad_operand, member_not_following, member_lacks_offset}
use Rattle.cluster.specs.declared.State.{State}
use Rattle.cluster.specs.declared.Action.{Action}
use Rattle.cluster.specs.State.{replica_count_of, tidy}
use Rattle.cluster.specs.Rules.{rules}
use Rattle.cluster.specs.Unused.{rules_tidy}
use Rattle.cluster.specs.Equality.{tidy_same, tidy_twice}
use Rattle.cluster.specs.Actions.{leader_inc_high_watermark_refusal}
use Rattle.cluster.specs.Act.{last_kind, kind_of, uses, operand_bound, operand_bounds, operands_fit, table_refusal, action_refusal, action_of, act}
use Rattle.cluster.specs.ActLaws.{refusal_of_met}
use Rattle.actions.specs.Sound.{Sound, sound_of}
use Rattle.actions.specs.Answers.{act_number}
use Rattle.published.specs.KafkaReplication.{ModelState, ◌is_in◌, ReplicaLog·HasOffset, ReplicaPresumesLeadership, ReplicaIsFollowing}
use Rattle.published.specs.Meaning.{constants_of, meaning, Means}
use Rattle.published.specs.Equality.{same_model_refl}
use Rattle.published.specs.Choices.{Choice}
use Rattle.published.specs.OneToOne.{means_tidy}
use Rattle.published.specs.Leading.{inc_not_following_iff, inc_lacks_offset_iff, inc_enabled_iff, inc_refused_iff}
use Rattle.published.proofs.Engine.{action_is_published}

-- the action of kind 7 of replica a
abbrev pub advance : ℕ → Action
advance a = action_of 7 a 0 0

module _ (s : State) (h : rules s ≡ true) (a : ℕ) (l : a < replica_count_of s.limits) where
  below : a < replica_count_of (tidy s).limits
  below = subst (λ c. a < replica_count_of c) (sym (tidy_same s).limits) l

  fits : operands_fit (tidy s).limits (advance a) ≡ true
  unfolding operands_fit operand_bounds operand_bound uses kind_of
  fits = every_and _ _ (lt-ltb a (replica_count_of (tidy s).limits) below) (every_and _ _ refl (every_and _ _ refl every_none))

  row_number : leader_inc_high_watermark_refusal (tidy s) a ≡ action_refusal (tidy s) (advance a)
  unfolding action_refusal table_refusal kind_of
  row_number = refuse_no (not (operands_fit (tidy s).limits (advance a))) bad_operand _ (ap not fits) ∙ refuse_no (ltb last_kind 7) unknown_kind _ refl

  advance_number : (act s (advance a)).refusal ≡ leader_inc_high_watermark_refusal (tidy s) a
  advance_number = act_number s (advance a) ∙ sym (row_number ∙ refusal_of_met s (advance a) h)

  sound : Sound (tidy s).limits (tidy s)
  sound = sound_of (tidy s) (rules_tidy s ∙ h) (tidy_twice s)

  means : Means (tidy s).limits (meaning s) (tidy s)
  unfolding tidy
  means = (means_tidy s h (meaning s)).0 (same_model_refl (constants_of s.limits) (meaning s))

  pub advance_not_following : (act s (advance a)).refusal ≡ member_not_following
      ↔ ReplicaPresumesLeadership (meaning s) a
      × ((follower : ℕ) × follower is_in ((meaning s).replicaState a).isr × ¬ (ReplicaIsFollowing (meaning s) follower a))
  advance_not_following =
      let i = inc_not_following_iff (tidy s) sound (meaning s) means a below in
      ((λ e. i.0 (sym advance_number ∙ e)), (λ t. advance_number ∙ i.1 t))

  pub advance_lacks_offset : (act s (advance a)).refusal ≡ member_lacks_offset
      ↔ ReplicaPresumesLeadership (meaning s) a
      × ((follower : ℕ) → follower is_in ((meaning s).replicaState a).isr → ReplicaIsFollowing (meaning s) follower a)
      × ((follower : ℕ) × follower is_in ((meaning s).replicaState a).isr × ¬ (ReplicaLog·HasOffset (meaning s) follower ((meaning s).replicaState a).hw))
  advance_lacks_offset =
      let i = inc_lacks_offset_iff (tidy s) sound (meaning s) means a below in
      ((λ e. i.0 (sym advance_number ∙ e)), (λ t. advance_number ∙ i.1 t))

  -- 48 or 49 is given
  abbrev RefusedByMember : Type 0
  RefusedByMember = ((act s (advance a)).refusal ≡ member_not_following) ⊎ ((act s (advance a)).refusal ≡ member_lacks_offset)

  pub advance_refused : RefusedByMember
      ↔ ReplicaPresumesLeadership (meaning s) a × ¬ ((v : ModelState) × Choice (constants_of s.limits) (advance a) (meaning s) v)
  advance_refused =
      let engine = action_is_published s h (advance a) in (
        (λ r.
            elim r [
              | inl e ↦ ((advance_not_following.0 e).0, λ c. omega (arith, e, ((engine c.0).0 c.1).0))
              | inr e ↦ ((advance_lacks_offset.0 e).0, λ c. omega (arith, e, ((engine c.0).0 c.1).0))
            ]),
        (λ t.
            let next = meaning (act s (advance a)).state in
            let refused : leader_inc_high_watermark_refusal (tidy s) a ≡ accepted → ⊥ =
            λ e. t.1 (next, (engine next).1 (advance_number ∙ e, same_model_refl (constants_of s.limits) next)) in
            elim ((inc_refused_iff (tidy s) sound (meaning s) means a below).1 (t.0, λ c. refused ((inc_enabled_iff (tidy s) sound (meaning s) means a below).0 c))) [
              | inl e ↦ inl (advance_number ∙ e)
              | inr e ↦ inr (advance_number ∙ e)
            ]),
      )
