-- What the judge's code answers, by what it has seen of the run: the laws by which its functions are proved. Assumes nothing.
--
--   configure_refused, configure_read   what a configuration answers, by its mark
--   mark_number, action_number          the number of a run record, by its mark and its action
--   taken_whole .. taken_step           what a run record that is accepted gives of its action
--   first_failed known holds count      failed_at of the count that the code keeps: none where the property never failed
--   first_failed_number                 by numbers it is failed_at
--   first_failed_later                  and it is not 0 again
--   judge_too_long .. judge_configured  the verdict, by the length and the configuration of the run
--   configured_rules .. configured_holds   what holds of the fresh state of its configuration
--   verdict_laws                        these last laws together
use Rattle.std.specs.Prelude.{ℕ, zero, suc, ◌≤◌, ◌<◌, ◌≡◌, ◌≢◌, Bool, true, false, Option, None, Some, Err, List, length}
use Rattle.std.proofs.Common.{refl, sym, ap, ap₂, ◌∙◌, arith}
use Rattle.logic.specs.Refuse.{first_yes, first_no, by_accepted, by_refused}
use Rattle.parts.specs.declared.refusal.Refusal.{Refusal}
use Rattle.parts.specs.Refusal.{accepted, refusal_number, too_short, run_too_long}
use Rattle.cluster.specs.declared.State.{State}
use Rattle.cluster.specs.declared.Action.{Action}
use Rattle.cluster.specs.declared.Refused.{Refused}
use Rattle.cluster.specs.Answer.{Outcome, outcome_of}
use Rattle.cluster.specs.State.{limits_of, zero_state, tidy}
use Rattle.cluster.specs.Rules.{rules}
use Rattle.cluster.specs.Outcome.{answer, with_zeros}
use Rattle.cluster.specs.Fresh.{fresh}
use Rattle.cluster.specs.Act.{action_refusal, effect}
use Rattle.questions.specs.declared.Property.{Property}
use Rattle.questions.specs.Isr.{ask_isr}
use Rattle.questions.specs.IsrLaws.{refusal_not_zero}
use Rattle.runs.specs.Answer.{failure_number}
use Rattle.runs.specs.Run.{configuration_width, run_record_width, longest_run, configuration_mark, action_mark, mark_refusal, configure, action_in, act_on, configuration_of, run_records_of, opening, step_on, trace_from, verdict_from, unopened, judge}
use Rattle.runs.specs.RunRecordLaws.{run_record_long, run_record_whole, read_action, accepted_whole, read_number, accepted_number, accepted_state, act_on_kept}
use Rattle.runs.specs.Opening.{first_state, opening_too_long, opening_configures, opening_too_short, judge_unopened, opening_rules, opening_tidy, opening_holds, opened}
use Rattle.runs.specs.Judging.{failed_at, accepted_step, step_accepted}

-- ---- a configuration that has its bytes
module _ (bytes : List ℕ) (long : configuration_width ≤ length bytes) where
  -- with another mark; with its own
  pub configure_refused : (r : Refusal) → refusal_number r ≡ mark_refusal configuration_mark bytes
      → answer (refusal_number r) zero_state ≡ configure bytes
  unfolding configure
  configure_refused r e =
      let number = e ∙ run_record_long configuration_mark bytes configuration_width long in
      ap with_zeros number ∙ by_refused _ with_zeros (fresh (limits_of bytes)) (λ q. refusal_not_zero r (number ∙ q))

  pub configure_read : accepted ≡ mark_refusal configuration_mark bytes → fresh (limits_of bytes) ≡ configure bytes
  unfolding configure
  configure_read e =
      by_accepted _ with_zeros (fresh (limits_of bytes)) (sym (e ∙ run_record_long configuration_mark bytes configuration_width long))

-- ---- a run record that has its bytes, on a state that meets the rules and is tidy
module _ (s : State) (bytes : List ℕ) (h : rules s ≡ true) (t : tidy s ≡ s) (long : run_record_width ≤ length bytes) where
  -- where its mark refuses, its number is that of the mark; where the mark is accepted, it is that of the action
  pub mark_number : (r : Refusal) → refusal_number r ≡ (read_action bytes).refusal → refusal_number r ≡ (act_on s bytes).refusal
  mark_number r e =
      e
      ∙ first_yes (read_action bytes).refusal (action_refusal s (read_action bytes).action) (λ q. refusal_not_zero r (e ∙ q))
      ∙ read_number s bytes h t long

  pub action_number : accepted ≡ (read_action bytes).refusal → action_refusal s (action_in bytes) ≡ (act_on s bytes).refusal
  action_number e =
      first_no (read_action bytes).refusal (action_refusal s (read_action bytes).action) (sym e) ∙ read_number s bytes h t long

-- ---- a run record that the state accepts, as the code has read it
module _ (s : State) (bytes : List ℕ) (action : Action) (h : rules s ≡ true) (t : tidy s ≡ s) (ok : accepted ≡ (act_on s bytes).refusal) (read : action ≡ action_in bytes) where
  pub taken_whole : run_record_width ≤ length bytes
  taken_whole = ((run_record_whole action_mark bytes run_record_width).0 (accepted_whole s bytes (sym ok))).0

  -- the action is accepted
  pub taken_accepted : action_refusal s action ≡ accepted
  taken_accepted = ap (action_refusal s) read ∙ accepted_number s bytes h t (sym ok)

  -- its effect is the state that the run record hands back, which meets the rules and is tidy
  pub taken_state : effect s action ≡ (act_on s bytes).state
  taken_state = ap (effect s) read ∙ accepted_state s bytes h t (sym ok)

  pub taken_rules : rules (effect s action) ≡ true
  taken_rules = rw taken_state (act_on_kept s bytes h t).rules

  pub taken_tidy : tidy (effect s action) ≡ effect s action
  taken_tidy = rw taken_state (act_on_kept s bytes h t).tidy

  -- and its step is that of the run record
  pub taken_step : accepted_step action (effect s action) ≡ step_on s bytes
  taken_step = ap₂ accepted_step read taken_state ∙ step_accepted s bytes (sym ok)

-- ---- the same of the count that the code keeps: none where the property never failed
-- the count that is known; otherwise this one, where the property does not hold
unfoldable pub first_failed : (known : Option ℕ) (holds : Bool) (count : ℕ) → Option ℕ
first_failed None true count = None
first_failed None false count = Some count
first_failed (Some known) holds count = Some known

-- by numbers it is failed_at, since a count is that of some accepted action, and so not 0; and it is not 0 again
pub first_failed_number : (known : Option ℕ) (holds : Bool) (count : ℕ) → known ≢ Some 0
    → failure_number (first_failed known holds count) ≡ failed_at (failure_number known) holds count
unfolding first_failed failed_at
first_failed_number None true count later = refl
first_failed_number None false count later = refl
first_failed_number (Some zero) holds count later = absurd (later refl)
first_failed_number (Some (suc known)) holds count later = refl

pub first_failed_later : (known : Option ℕ) (holds : Bool) (count : ℕ) → known ≢ Some 0 → 0 < count → first_failed known holds count ≢ Some 0
unfolding first_failed
first_failed_later None true count later above e = cc
first_failed_later None false count later above e = let none : count ≡ 0 = cc in omega arith
first_failed_later (Some known) holds count later above e = later e

-- ---- what the verdict is, by what the code has seen of the run
-- refused by its length, or by its configuration
refused_so : (run : List ℕ) (o : Outcome) → opening run ≡ o → (o.refusal ≡ accepted → ⊥) → unopened o.refusal ≡ judge run
refused_so run o e h =
    ap (λ (x : Outcome). unopened x.refusal) (sym e) ∙ sym (judge_unopened run (λ q. h (ap (λ (x : Outcome). x.refusal) (sym e) ∙ q)))

pub judge_too_long : (run : List ℕ) → longest_run < length run → unopened run_too_long ≡ judge run
judge_too_long run h = refused_so run _ (opening_too_long run h) (λ e. omega arith)

pub judge_too_short : (run : List ℕ) → length run < configuration_width → unopened too_short ≡ judge run
judge_too_short run h = refused_so run _ (opening_too_short run h) (λ e. omega arith)

pub judge_unconfigured : (run : List ℕ) (r : Refused) → length run ≤ longest_run → outcome_of (Err r) ≡ configure (configuration_of run)
    → unopened (refusal_number r.refusal) ≡ judge run
judge_unconfigured run r short e = refused_so run _ (opening_configures run short ∙ sym e) (refusal_not_zero r.refusal)

-- opened with this state
module _ (run : List ℕ) (s : State) (short : length run ≤ longest_run) (configured : answer accepted s ≡ configure (configuration_of run)) where
  opens : opening run ≡ answer accepted s
  opens = opening_configures run short ∙ sym configured

  opens_accepted : (opening run).refusal ≡ accepted
  opens_accepted = ap (λ (o : Outcome). o.refusal) opens

  opens_state : first_state run ≡ s
  opens_state = ap (λ (o : Outcome). o.state) opens

  pub configured_rules : rules s ≡ true
  configured_rules = rw opens_state at (opening_rules run opens_accepted)

  pub configured_tidy : tidy s ≡ s
  configured_tidy = rw opens_state at (opening_tidy run opens_accepted)

  pub configured_holds : (property : Property) → (ask_isr property s).holds ≡ true
  configured_holds property = rw opens_state at (opening_holds run opens_accepted property)

  pub judge_configured : verdict_from s (trace_from s configuration_width (run_records_of run)) ≡ judge run
  judge_configured =
      ap (λ (o : Outcome). verdict_from o.state (trace_from o.state configuration_width (run_records_of run))) (sym opens)
      ∙ sym (opened run opens_accepted)

-- these laws together
pub ruleset verdict_laws = (judge_too_long, judge_too_short, judge_unconfigured, judge_configured, configured_rules, configured_tidy, configured_holds)
