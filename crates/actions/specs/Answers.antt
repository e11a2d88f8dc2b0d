-- What an action answers, whatever the state and the four bytes: the numbers that it may give; refused, the state as given;
-- accepted, the model's next state; and equal states get equal answers. Assumes nothing.
use Rattle.parts.specs.Leader.{Leader}
use Rattle.std.specs.Prelude.{ℕ, zero, suc, ◌≡◌, Bool, true, false, List, [], ◌∷◌, None, Some}
use Rattle.std.proofs.Math.Path.{refl, sym, ap₂}
use Rattle.std.proofs.Common.{◌∙◌, ap}
use Rattle.logic.specs.Refuse.{refuse, first_refusal, by_refusal, by_other, listed, listed_refuse}
use Rattle.parts.specs.Refusal.{accepted, unknown_kind, bad_operand, no_epoch_left, not_in_isr, already_so, no_request, wrong_leader, epoch_not_higher, not_presuming, no_id_left, log_full, not_true_leader, same_replica, caught_up, not_caught_up, not_following, nothing_to_replicate, member_not_following, member_lacks_offset}
use Rattle.cluster.specs.declared.State.{State}
use Rattle.cluster.specs.declared.Action.{Action}
use Rattle.cluster.specs.Answer.{ActionAnswer}
use Rattle.cluster.specs.declared.Kind.{Kind}
use Rattle.cluster.specs.declared.Kind.TheVariants.{ControllerShrinkIsr, ControllerElectLeader, BecomeLeader, BecomeFollower, LeaderWrite, LeaderShrinkIsr, LeaderExpandIsr, LeaderIncHighWatermark, FollowerReplicate, Unknown}
use Rattle.cluster.specs.State.{request_at, Same, tidy}
use Rattle.cluster.specs.Rules.{rules, state_refusal}
use Rattle.cluster.specs.RuleLaws.{broken_refusal}
use Rattle.cluster.specs.Equality.{same_refl, same_iff_tidy}
use Rattle.cluster.specs.Unused.{state_refusal_same}
use Rattle.cluster.specs.Actions.{controller_shrink_isr_refusal, controller_elect_leader_refusal, leader_refusal, become_leader_refusal, become_follower_refusal, leader_write_refusal, leader_shrink_isr_refusal, leader_expand_isr_refusal, leader_inc_high_watermark_refusal, member_named, follower_replicate_refusal}
use Rattle.cluster.specs.Act.{table_refusal, action_refusal, effect, action_answer, accepted_with, refused_on, answer_by, refusal, act}
use Rattle.cluster.specs.ActLaws.{answer_number, answer_zero, answer_other, act_broken}

-- ---- the number, and the state that goes with it
pub act_number : (s : State) (action : Action) → (act s action).refusal ≡ refusal s action
unfolding act
act_number s action = answer_number (refusal s action) _ s (effect (tidy s) action)

-- accepted where nothing refuses it, and then the next state is the effect on the tidy state
pub act_accepted : (s : State) (action : Action) → refusal s action ≡ accepted → act s action ≡ accepted_with (effect (tidy s) action)
unfolding act
act_accepted s action h = sym (answer_zero (refusal s action) _ s (effect (tidy s) action) h)

-- refused: the number, the member that it names, and the state as given
pub act_refused : (s : State) (action : Action) → (refusal s action ≡ accepted → ⊥)
    → act s action ≡ action_answer (refusal s action) (member_named (refusal s action) (tidy s) action.a) s
unfolding act
act_refused s action h = sym (answer_other (refusal s action) _ s (effect (tidy s) action) h)

-- so a refused action gives back the given state, and one on a state that breaks a rule has that state's number
pub act_given : (s : State) (action : Action) → ((act s action).refusal ≡ accepted → ⊥) → (act s action).state ≡ s
unfolding act answer_by
act_given s action h =
    ap (λ (a : ActionAnswer). a.state)
    (by_other (λ (a : ActionAnswer). a.refusal) (refusal s action) (refused_on s (member_named (refusal s action) (tidy s) action.a)) (accepted_with (effect (tidy s) action)) refl h)

pub act_unmet : (s : State) (action : Action) → rules s ≡ false → act s action ≡ refused_on s 0 (state_refusal s)
act_unmet s action h = sym (act_broken s action (broken_refusal s h))

-- ---- the numbers that it may give beside 0
-- on a state that meets the rules: 2, 3 and those of the table
abbrev pub action_numbers : List ℕ
action_numbers =
    unknown_kind
    ∷ bad_operand
    ∷ no_epoch_left
    ∷ not_in_isr
    ∷ already_so
    ∷ no_request
    ∷ wrong_leader
    ∷ epoch_not_higher
    ∷ not_presuming
    ∷ no_id_left
    ∷ log_full
    ∷ not_true_leader
    ∷ same_replica
    ∷ caught_up
    ∷ not_caught_up
    ∷ not_following
    ∷ nothing_to_replicate
    ∷ member_not_following
    ∷ member_lacks_offset
    ∷ []

-- by the table each kind gives those of its own row, column "refusals"
unfoldable pub row_numbers : Kind → List ℕ
row_numbers ControllerShrinkIsr = not_in_isr ∷ no_epoch_left ∷ []
row_numbers ControllerElectLeader = not_in_isr ∷ already_so ∷ no_epoch_left ∷ []
row_numbers BecomeLeader = no_request ∷ wrong_leader ∷ epoch_not_higher ∷ []
row_numbers BecomeFollower = no_request ∷ wrong_leader ∷ epoch_not_higher ∷ []
row_numbers LeaderWrite = not_presuming ∷ no_id_left ∷ log_full ∷ []
row_numbers LeaderShrinkIsr = same_replica ∷ not_true_leader ∷ not_in_isr ∷ caught_up ∷ []
row_numbers LeaderExpandIsr = not_true_leader ∷ already_so ∷ not_caught_up ∷ []
row_numbers LeaderIncHighWatermark = not_presuming ∷ member_not_following ∷ member_lacks_offset ∷ []
row_numbers FollowerReplicate = not_presuming ∷ not_following ∷ nothing_to_replicate ∷ []
row_numbers Unknown = unknown_kind ∷ []

-- 0 or a number of the kind's row; a chain of such numbers gives such a number
abbrev InRow : Kind → ℕ → Type 0
InRow kind n = listed (accepted ∷ row_numbers kind) n ≡ true

refuse_row : (kind : Kind) (test : Bool) (number rest : ℕ) → InRow kind number → InRow kind rest → InRow kind (refuse test number rest)
refuse_row kind = listed_refuse (accepted ∷ row_numbers kind)

module _ (s : State) where
  leader_in_row : (e : ℕ) (leader : Leader) → InRow BecomeLeader (leader_refusal s e leader)
  unfolding leader_refusal listed row_numbers
  leader_in_row e None = refl
  leader_in_row e (Some b) = refuse_row BecomeLeader _ _ _ refl refl

  pub table_listed : (kind : Kind) (a b e : ℕ) → InRow kind (table_refusal kind s a b e)
  unfolding table_refusal controller_shrink_isr_refusal controller_elect_leader_refusal become_leader_refusal become_follower_refusal leader_write_refusal
      leader_shrink_isr_refusal leader_expand_isr_refusal leader_inc_high_watermark_refusal follower_replicate_refusal listed row_numbers
  table_listed ControllerShrinkIsr a b e = let row = refuse_row ControllerShrinkIsr in row _ _ _ refl (row _ _ _ refl refl)
  table_listed ControllerElectLeader a b e =
      let row = refuse_row ControllerElectLeader in row _ _ _ refl (row _ _ _ refl (row _ _ _ refl refl))
  table_listed BecomeLeader a b e = refuse_row BecomeLeader _ _ _ refl (leader_in_row e (request_at s e).leader)
  table_listed BecomeFollower a b e = let row = refuse_row BecomeFollower in row _ _ _ refl (row _ _ _ refl (row _ _ _ refl refl))
  table_listed LeaderWrite a b e = let row = refuse_row LeaderWrite in row _ _ _ refl (row _ _ _ refl (row _ _ _ refl refl))
  table_listed LeaderShrinkIsr a b e =
      let row = refuse_row LeaderShrinkIsr in row _ _ _ refl (row _ _ _ refl (row _ _ _ refl (row _ _ _ refl refl)))
  table_listed LeaderExpandIsr a b e = let row = refuse_row LeaderExpandIsr in row _ _ _ refl (row _ _ _ refl (row _ _ _ refl refl))
  table_listed LeaderIncHighWatermark a b e =
      let row = refuse_row LeaderIncHighWatermark in row _ _ _ refl (row _ _ _ refl (row _ _ _ refl refl))
  table_listed FollowerReplicate a b e = let row = refuse_row FollowerReplicate in row _ _ _ refl (row _ _ _ refl (row _ _ _ refl refl))
  table_listed Unknown a b e = refl

-- ---- equal states get equal answers: no answer depends on unused room
answer_same : (n member : ℕ) (s t next : State) → Same s t → Same (answer_by n member s next).state (answer_by n member t next).state
unfolding answer_by by_refusal
answer_same zero member s t next m = same_refl next
answer_same (suc n) member s t next m = m

answer_member : (n member : ℕ) (s t next : State) → (answer_by n member s next).member ≡ (answer_by n member t next).member
unfolding answer_by by_refusal
answer_member zero member s t next = refl
answer_member (suc n) member s t next = refl

module _ (s t : State) (m : Same s t) (action : Action) where
  tidied : tidy s ≡ tidy t
  tidied = (same_iff_tidy s t).0 m

  pub refusal_same : refusal s action ≡ refusal t action
  unfolding refusal
  refusal_same = ap₂ (λ (n : ℕ) (u : State). first_refusal n (action_refusal u action)) (state_refusal_same s t m) tidied

  pub act_same : ((act s action).refusal ≡ (act t action).refusal)
      × ((act s action).member ≡ (act t action).member)
      × Same (act s action).state (act t action).state
  unfolding act
  act_same = (
    act_number s action ∙ refusal_same ∙ sym (act_number t action),
    rw (← refusal_same, ← tidied) (answer_member (refusal s action) _ s t (effect (tidy s) action)),
    rw (← refusal_same, ← tidied) (answer_same (refusal s action) _ s t (effect (tidy s) action) m),
  )
