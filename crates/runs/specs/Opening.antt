-- What the length and the configuration of a run answer, and the verdict by that answer. Assumes nothing.
use Rattle.std.specs.Prelude.{ℕ, ◌≤◌, ◌<◌, ◌≡◌, refl, true, List, length}
use Rattle.std.proofs.Math.Path.{sym, ap}
use Rattle.std.proofs.Common.{◌∙◌, arith}
use Rattle.std.proofs.Math.ListN.{length-take}
use borrow.Author.Tests.{lt-ltb, le-ltb, ltb-false}
use Rattle.logic.specs.Refuse.{refuse_yes, refuse_no, refuse_zero, first_refusal, first_zero, by_accepted, by_refused, by_first}
use Rattle.parts.specs.Refusal.{accepted, too_short, run_too_long}
use Rattle.cluster.specs.declared.Limits.{Limits}
use Rattle.cluster.specs.declared.State.{State}
use Rattle.cluster.specs.Answer.{Outcome}
use Rattle.cluster.specs.State.{limits_of, tidy}
use Rattle.cluster.specs.Rules.{in_range, rules}
use Rattle.cluster.specs.Outcome.{with_zeros}
use Rattle.cluster.specs.Fresh.{fresh_state, fresh}
use Rattle.cluster.specs.FreshLaws.{fresh_tidy, fresh_rules, fresh_accepted}
use Rattle.questions.specs.declared.Property.{Property}
use Rattle.questions.specs.Answer.{IsrAnswer}
use Rattle.questions.specs.Isr.{ask_isr}
use Rattle.questions.specs.IsrTheorems.{fresh_holds}
use Rattle.runs.specs.Run.{configuration_width, longest_run, configuration_mark, run_record_refusal, configure, configuration_of, run_records_of, length_refusal, opening, Trace, trace_from, verdict_from, unopened, judge_by, judge}
use Rattle.runs.specs.RunRecordLaws.{run_record_short, run_record_whole}

-- R, L, M and X as a run's configuration has them
abbrev pub limits_in : List ℕ → Limits
limits_in run = limits_of (configuration_of run)

-- the number of the configuration's length and mark
abbrev pub configuration_refusal : List ℕ → ℕ
configuration_refusal run = run_record_refusal configuration_width configuration_mark (configuration_of run)

-- the state that a run opens with, and how far it goes from there
abbrev pub first_state : List ℕ → State
first_state run = (opening run).state

abbrev pub trace_of : List ℕ → Trace
trace_of run = trace_from (first_state run) configuration_width (run_records_of run)

module _ (run : List ℕ) where
  -- ---- where the length or the configuration refuses
  -- the run is too long, or not; then its configuration answers
  pub opening_too_long : longest_run < length run → opening run ≡ with_zeros run_too_long
  unfolding opening length_refusal
  opening_too_long h =
      let e = refuse_yes _ run_too_long accepted (lt-ltb longest_run (length run) h) in
      sym (by_refused _ with_zeros (configure (configuration_of run)) (λ q. let w : run_too_long ≡ accepted = e ∙ q in omega arith)) ∙ ap with_zeros (sym e)

  pub opening_configures : length run ≤ longest_run → opening run ≡ configure (configuration_of run)
  unfolding opening length_refusal
  opening_configures h =
      sym (by_accepted _ with_zeros (configure (configuration_of run)) (sym (refuse_no _ run_too_long accepted (le-ltb longest_run (length run) h))))

  -- the run is too short for its configuration
  pub opening_too_short : length run < configuration_width → opening run ≡ with_zeros too_short
  unfolding configure
  opening_too_short h =
      let e = run_record_short configuration_mark (configuration_of run) configuration_width (rw length-take (omega arith)) in
      opening_configures (omega arith)
      ∙ sym (by_refused _ with_zeros (fresh (limits_in run)) (λ q. let w : too_short ≡ accepted = e ∙ q in omega arith))
      ∙ ap with_zeros (sym e)

  -- the verdict: the refusal, and nothing else
  pub judge_unopened : ((opening run).refusal ≡ accepted → ⊥) → judge run ≡ unopened (opening run).refusal
  unfolding judge judge_by
  judge_unopened h = sym (by_refused _ unopened (verdict_from (first_state run) (trace_of run)) h)

  -- ---- the number: that of the length, then that of the configuration's length and mark, then that of the fresh state
  pub opening_number : first_refusal (length_refusal run) (first_refusal (configuration_refusal run) (fresh (limits_in run)).refusal) ≡ (opening run).refusal
  unfolding opening configure
  opening_number =
      ap (first_refusal (length_refusal run)) (by_first (λ (o : Outcome). o.refusal) (configuration_refusal run) with_zeros (fresh (limits_in run)) (λ k. refl))
      ∙ by_first (λ (o : Outcome). o.refusal) (length_refusal run) with_zeros (configure (configuration_of run)) (λ k. refl)

  -- ---- where both are accepted
  module _ (ok : (opening run).refusal ≡ accepted) where
    -- none of the three refuses
    length_accepted : length_refusal run ≡ accepted
    length_accepted = (first_zero _ _ (opening_number ∙ ok)).0

    configuration_accepted : (configuration_refusal run ≡ accepted) × ((fresh (limits_in run)).refusal ≡ accepted)
    configuration_accepted = first_zero _ _ (first_zero (length_refusal run) _ (opening_number ∙ ok)).1

    -- the run is not too long, and has the bytes of its configuration
    pub opening_short : length run ≤ longest_run
    unfolding length_refusal
    opening_short = ltb-false longest_run (length run) (refuse_zero _ _ _ length_accepted).0

    pub opening_long : configuration_width ≤ length run
    opening_long =
        omega (
          arith,
          ((run_record_whole configuration_mark (configuration_of run) configuration_width).0 configuration_accepted.0).0,
          length-take configuration_width run,
        )

    pub configuration_length : length (configuration_of run) ≡ configuration_width
    configuration_length = omega (arith, opening_long, length-take configuration_width run)

    -- it opens with the fresh state of its configuration, which is in range; the state meets S1 to S7 and is tidy
    pub fresh_opened : (fresh (limits_in run)).refusal ≡ accepted
    fresh_opened = configuration_accepted.1

    pub opening_fresh : opening run ≡ fresh (limits_in run)
    unfolding opening configure
    opening_fresh =
        sym (by_accepted _ with_zeros (configure (configuration_of run)) length_accepted)
        ∙ sym (by_accepted _ with_zeros (fresh (limits_in run)) configuration_accepted.0)

    pub opening_in_range : in_range (limits_in run) ≡ true
    opening_in_range = (fresh_accepted (limits_in run) fresh_opened).0

    pub opening_state : first_state run ≡ fresh_state (limits_in run)
    opening_state = ap (λ (o : Outcome). o.state) opening_fresh ∙ (fresh_accepted (limits_in run) fresh_opened).1

    pub opening_limits : (first_state run).limits ≡ limits_in run
    unfolding fresh_state
    opening_limits = ap (λ (s : State). s.limits) opening_state

    pub opening_rules : rules (first_state run) ≡ true
    opening_rules = ap rules opening_state ∙ fresh_rules (limits_in run) opening_in_range

    pub opening_tidy : tidy (first_state run) ≡ first_state run
    opening_tidy = ap tidy opening_state ∙ fresh_tidy (limits_in run) ∙ sym opening_state

    -- and fails neither weak ISR nor strong ISR
    pub opening_holds : (property : Property) → (ask_isr property (first_state run)).holds ≡ true
    opening_holds property =
        ap (λ (o : Outcome). (ask_isr property o.state).holds) opening_fresh
        ∙ ap (λ (a : IsrAnswer). a.holds) (fresh_holds property (limits_in run) fresh_opened)

    -- its verdict is that of its trace
    pub opened : judge run ≡ verdict_from (first_state run) (trace_of run)
    unfolding judge judge_by
    opened = sym (by_accepted _ unopened (verdict_from (first_state run) (trace_of run)) ok)
