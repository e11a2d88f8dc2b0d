-- What a run record answers, by its length and its mark, and what it keeps of the state before it. Assumes nothing.
use Rattle.std.specs.Prelude.{ℕ, ◌≤◌, ◌<◌, ◌≡◌, refl, true, false, List, ◌↔◌, length}
use Rattle.std.proofs.Math.Path.{sym, ap, subst}
use Rattle.std.proofs.Common.{ap₂, ◌∙◌, arith}
use Rattle.std.proofs.Math.Bool.{not}
use borrow.Author.Tests.{lt-ltb, le-ltb, ltb-false, not-false}
use Rattle.logic.specs.Refuse.{refuse_yes, refuse_no, refuse_zero, first_refusal, first_yes, first_zero, by_accepted, by_refused, by_either, by_first}
use Rattle.parts.specs.Refusal.{accepted, wrong_mark, too_short}
use Rattle.parts.specs.Mark.{marked}
use Rattle.cluster.specs.declared.State.{State}
use Rattle.cluster.specs.Answer.{ActionAnswer}
use Rattle.cluster.specs.State.{tidy}
use Rattle.cluster.specs.Rules.{rules}
use Rattle.cluster.specs.Act.{action_refusal, refused_on, without_member, effect, step, act}
use Rattle.cluster.specs.ActLaws.{answer_number, answer_zero}
use Rattle.actions.specs.Kept.{Kept, kept_same, step_kept, step_is_act}
use Rattle.runs.specs.Answer.{ActionRecord}
use Rattle.runs.specs.Run.{run_record_width, action_mark, mark_refusal, run_record_refusal, action_in, act_on}

-- ---- the number of a run record's mark, and that of its length and its mark
module _ (mark : ℕ) (bytes : List ℕ) where
  pub mark_wrong : marked mark bytes ≡ false → wrong_mark ≡ mark_refusal mark bytes
  unfolding mark_refusal
  mark_wrong m = refuse_yes _ wrong_mark accepted (ap not m)

  pub mark_right : marked mark bytes ≡ true → accepted ≡ mark_refusal mark bytes
  unfolding mark_refusal
  mark_right m = refuse_no _ wrong_mark accepted (ap not m)

  right_mark : mark_refusal mark bytes ≡ accepted → marked mark bytes ≡ true
  unfolding mark_refusal
  right_mark h = not-false _ (refuse_zero _ _ _ h).0

  module _ (width : ℕ) where
    -- too short; as long as it has to be
    pub run_record_short : length bytes < width → too_short ≡ run_record_refusal width mark bytes
    unfolding run_record_refusal
    run_record_short h = refuse_yes _ too_short (mark_refusal mark bytes) (lt-ltb (length bytes) width h)

    pub run_record_long : width ≤ length bytes → mark_refusal mark bytes ≡ run_record_refusal width mark bytes
    unfolding run_record_refusal
    run_record_long h = refuse_no _ too_short (mark_refusal mark bytes) (le-ltb (length bytes) width h)

    -- it is 0 exactly where the run record has its bytes and its mark
    pub run_record_whole : run_record_refusal width mark bytes ≡ accepted ↔ (width ≤ length bytes) × (marked mark bytes ≡ true)
    unfolding run_record_refusal
    run_record_whole = (
      (λ h.
          let p = refuse_zero _ _ _ h in
          (ltb-false (length bytes) width p.0, right_mark p.1)),
      (λ p. sym (run_record_long p.0) ∙ sym (mark_right p.1)),
    )

-- ---- the run record of an action
-- as it is read: the number of its mark, and the action
abbrev pub read_action : List ℕ → ActionRecord
read_action bytes = record { refusal = mark_refusal action_mark bytes; action = action_in bytes }

module _ (s : State) (bytes : List ℕ) where
  -- a whole one answers as its action does, without the member
  pub whole_acts : run_record_refusal run_record_width action_mark bytes ≡ accepted → act_on s bytes ≡ without_member (act s (action_in bytes))
  unfolding act_on
  whole_acts whole = sym (by_accepted _ (refused_on s 0) (without_member (act s (action_in bytes))) whole)

  -- any other by its own number, with the state before it
  pub unread : (run_record_refusal run_record_width action_mark bytes ≡ accepted → ⊥)
      → act_on s bytes ≡ refused_on s 0 (run_record_refusal run_record_width action_mark bytes)
  unfolding act_on
  unread torn = sym (by_refused _ (refused_on s 0) (without_member (act s (action_in bytes))) torn)

  -- neither names a member
  pub names_none : (act_on s bytes).member ≡ 0
  unfolding act_on
  names_none =
      by_either (λ (a : ActionAnswer). a.member ≡ 0) (run_record_refusal run_record_width action_mark bytes) (refused_on s 0)
      (without_member (act s (action_in bytes))) (λ e. refl) (λ e. refl)

  -- so the number is the run record's own, and then the action's
  pub run_record_number : first_refusal (run_record_refusal run_record_width action_mark bytes) (act s (action_in bytes)).refusal ≡ (act_on s bytes).refusal
  unfolding act_on
  run_record_number = by_first (λ (a : ActionAnswer). a.refusal) _ (refused_on s 0) (without_member (act s (action_in bytes))) (λ k. refl)

  -- it is 21 where the run record is too short
  pub short_number : length bytes < run_record_width → too_short ≡ (act_on s bytes).refusal
  short_number h =
      let e = run_record_short action_mark bytes run_record_width h in
      e ∙ first_yes _ _ (λ q. let w : too_short ≡ accepted = e ∙ q in omega arith) ∙ run_record_number

  -- an accepted one is whole
  pub accepted_whole : (act_on s bytes).refusal ≡ accepted → run_record_refusal run_record_width action_mark bytes ≡ accepted
  accepted_whole ok = (first_zero _ (act s (action_in bytes)).refusal (run_record_number ∙ ok)).0

  pub accepted_acts : (act_on s bytes).refusal ≡ accepted → act_on s bytes ≡ without_member (act s (action_in bytes))
  accepted_acts ok = whole_acts (accepted_whole ok)

-- ---- on a state that meets the rules and is tidy
module _ (s : State) (bytes : List ℕ) (h : rules s ≡ true) (t : tidy s ≡ s) where
  -- the action's number and its next state are those of its step
  act_number_is : (act s (action_in bytes)).refusal ≡ action_refusal s (action_in bytes)
  unfolding step
  act_number_is =
      ap (λ (a : ActionAnswer). a.refusal) (sym (step_is_act s (action_in bytes) h t)) ∙ answer_number _ _ s (effect s (action_in bytes))

  -- the number of a run record that has its bytes, from what is read of it
  pub read_number : run_record_width ≤ length bytes
      → first_refusal (read_action bytes).refusal (action_refusal s (read_action bytes).action) ≡ (act_on s bytes).refusal
  read_number long =
      ap₂ first_refusal (run_record_long action_mark bytes run_record_width long) (sym act_number_is) ∙ run_record_number s bytes

  -- an accepted one: its action is accepted, and the effect of that is the state that the run record hands back
  pub accepted_number : (act_on s bytes).refusal ≡ accepted → action_refusal s (action_in bytes) ≡ accepted
  accepted_number ok = sym act_number_is ∙ ap (λ (a : ActionAnswer). a.refusal) (sym (accepted_acts s bytes ok)) ∙ ok

  pub accepted_state : (act_on s bytes).refusal ≡ accepted → effect s (action_in bytes) ≡ (act_on s bytes).state
  unfolding step
  accepted_state ok =
      ap (λ (a : ActionAnswer). a.state) (answer_zero _ _ s (effect s (action_in bytes)) (accepted_number ok) ∙ step_is_act s (action_in bytes) h t)
      ∙ ap (λ (a : ActionAnswer). a.state) (sym (accepted_acts s bytes ok))

  -- the state that it hands back keeps what s has, whatever it answers
  pub act_on_kept : Kept s (act_on s bytes).state
  unfolding act_on
  act_on_kept =
      by_either (λ (a : ActionAnswer). Kept s a.state) (run_record_refusal run_record_width action_mark bytes) (refused_on s 0) (without_member (act s (action_in bytes)))
      (λ e. subst (λ (a : ActionAnswer). Kept s a.state) (step_is_act s (action_in bytes) h t) (step_kept s (action_in bytes) h t))
      (λ e. kept_same s h t)
