-- Runs and their verdicts. "A run is records of six bytes. First the configuration: 4B 43, R, L, M, X. Then actions: 4B 41, kind,
-- a, b, e. Checks: over 65,532 bytes 25; then per record: fewer than six bytes 21 (also for an empty run), mark 20, configuration
-- 22, then the action's number. Each record is judged on its own part of the input. .. It stops at the first refusal. The first
-- action takes the configuration's fresh state, each later one the state that the one before handed back". Assumes nothing.
--
--   configuration_width, run_record_width  how many bytes the configuration and the run record of an action have: six each
--   longest_run                          65,532, the most bytes that a run may have
--   configuration_mark, action_mark      the second byte of each mark
--   mark_refusal mark bytes              20 where the bytes have another mark, else 0
--   run_record_refusal width mark bytes  21 where there are fewer bytes than `width`, then mark_refusal
--   configure bytes                      what a configuration answers: its fresh state, or a refusal and zeros
--   action_in bytes                      the action of a run record
--   act_on s bytes                       what the run record of an action answers on the state s
--   configuration_of run                 the bytes of the run's configuration
--   run_records_of run                   the run records behind it
--   opening run                          what the length and the configuration of the run answer
--   Step, step_on s bytes                a run record on the state s: its action and its answer
--   states_in steps                      the states that steps hand back
--   Trace, trace_from s at records       the accepted steps from s on, the refusal or 0, and the byte where the run stops
--   tally_of first steps                 what is counted over steps from a first state on
--   last_of s states                     the last of s and the states behind it
--   verdict_from first trace             the verdict of a trace from a first state on
--   unopened number                      the verdict of a run that its length or its configuration refuses
--   judge run                            the verdict of a run of bytes
use Rattle.std.specs.Prelude.{ℕ, ◌+◌, Bool, not, List, [], ◌∷◌, map, ltb, length, take, drop}
use Rattle.logic.specs.Tests.{first_failing}
use Rattle.logic.specs.Refuse.{refuse, by_refusal}
use Rattle.logic.specs.Greatest.{greatest_of}
use Rattle.logic.specs.Pieces.{pieces}
use Rattle.parts.specs.Refusal.{accepted, wrong_mark, too_short, run_too_long}
use Rattle.parts.specs.Mark.{byte_at, marked}
use Rattle.cluster.specs.declared.State.{State}
use Rattle.cluster.specs.declared.Action.{Action}
use Rattle.cluster.specs.Answer.{ActionAnswer}
use Rattle.cluster.specs.Answer.{Outcome}
use Rattle.cluster.specs.State.{limits_of, zero_state}
use Rattle.cluster.specs.Outcome.{with_zeros}
use Rattle.cluster.specs.Fresh.{fresh}
use Rattle.cluster.specs.Act.{action_of, refused_on, without_member, act}
use Rattle.questions.specs.Isr.{weak_isr, strong_isr}
use Rattle.questions.specs.Exposed.{exposed}
use Rattle.runs.specs.Answer.{Tally, Verdict}

-- "records of six bytes": the configuration, and each run record of an action
abbrev pub configuration_width : ℕ
configuration_width = 6

abbrev pub run_record_width : ℕ
run_record_width = 6

-- "over 65,532 bytes"
abbrev pub longest_run : ℕ
longest_run = 65532

-- the second byte of a mark: 4B 43 of the configuration, 4B 41 of an action
abbrev pub configuration_mark : ℕ
configuration_mark = 67

abbrev pub action_mark : ℕ
action_mark = 65

-- ---- a run record
-- "mark 20"
unfoldable pub mark_refusal : (mark : ℕ) → List ℕ → ℕ
mark_refusal mark bytes = refuse (not (marked mark bytes)) wrong_mark accepted

-- "fewer than six bytes 21 .., mark 20", by the width and the mark that the run record has
unfoldable pub run_record_refusal : (width mark : ℕ) → List ℕ → ℕ
run_record_refusal width mark bytes = refuse (ltb (length bytes) width) too_short (mark_refusal mark bytes)

-- "4B 43, R, L, M, X": the fresh state, or 21, 20 or 22 and zeros
unfoldable pub configure : List ℕ → Outcome
configure bytes = by_refusal (run_record_refusal configuration_width configuration_mark bytes) with_zeros (fresh (limits_of bytes))

-- "4B 41, kind, a, b, e"
abbrev pub action_in : List ℕ → Action
action_in bytes = action_of (byte_at bytes 2) (byte_at bytes 3) (byte_at bytes 4) (byte_at bytes 5)

-- the action's answer on the state before it, without the member that it names ("no verdict carries it"), or 21 or 20 and that state
unfoldable pub act_on : State → List ℕ → ActionAnswer
act_on s bytes = by_refusal (run_record_refusal run_record_width action_mark bytes) (refused_on s 0) (without_member (act s (action_in bytes)))

-- ---- a run
-- the part of it that holds its configuration
abbrev pub configuration_of : List ℕ → List ℕ
configuration_of run = take configuration_width run

-- its run records behind the configuration; the last may have fewer than six bytes
abbrev pub run_records_of : List ℕ → List (List ℕ)
run_records_of run = pieces run_record_width (drop configuration_width run)

-- "over 65,532 bytes 25"
unfoldable pub length_refusal : List ℕ → ℕ
length_refusal run = refuse (ltb longest_run (length run)) run_too_long accepted

-- what its length and its configuration answer: 0 and the fresh state, or 25, 21, 20 or 22 and zeros
unfoldable pub opening : List ℕ → Outcome
opening run = by_refusal (length_refusal run) with_zeros (configure (configuration_of run))

-- ---- how far a run goes
-- a run record on a state: its action, and what it answers there
pub record Step : Type 0 where
  pub action : Action
  pub answer : ActionAnswer

-- what a run record makes of a state
abbrev pub step_on : State → List ℕ → Step
step_on s bytes = record { action = action_in bytes; answer = act_on s bytes }

-- the state that a step hands back, and those of steps, in order
abbrev pub handed_back : Step → State
handed_back step = step.answer.state

abbrev pub states_in : List Step → List State
states_in steps = map handed_back steps

-- the accepted run records, in order; the refusal, or 0; the byte where the refused run record starts, or where the run ends
pub record Trace : Type 0 where
  pub steps : List Step
  pub refusal : ℕ
  pub at : ℕ

-- no step more: at this byte, by this number
abbrev pub stopped : (at number : ℕ) → Trace
stopped at number = record { steps = []; refusal = number; at = at }

-- a step, and then the rest
abbrev pub step_then : Step → Trace → Trace
step_then step rest = record { steps = step ∷ rest.steps; refusal = rest.refusal; at = rest.at }

-- by the answer of the run record at byte `at`: accepted, its step and then the rest; refused, the end
unfoldable pub trace_by : ℕ → Step → Trace → Trace
trace_by at step rest = by_refusal step.answer.refusal (stopped at) (step_then step rest)

-- from the state s on, with the next run record at byte `at`
unfoldable pub trace_from : State → ℕ → List (List ℕ) → Trace
trace_from s at [] = stopped at accepted
trace_from s at (bytes ∷ records) =
    let rest : Trace = trace_from (handed_back (step_on s bytes)) (at + length bytes) records in
    trace_by at (step_on s bytes) rest

-- ---- the verdict
-- weak ISR, and strong ISR, hold of a state
abbrev pub weak_holds : State → Bool
weak_holds s = (weak_isr s).holds

abbrev pub strong_holds : State → Bool
strong_holds s = (strong_isr s).holds

-- what is counted over the steps from a first state on: "actions accepted"; "accepted actions when weak, then strong, first failed
-- (0 if never; a fresh state fails neither)"; "exposed, the greatest hw of any presuming replica in any state of the run"
abbrev pub tally_of : State → List Step → Tally
tally_of first steps =
    record {
      accepted = length steps;
      weak = first_failing 1 (map weak_holds (states_in steps));
      strong = first_failing 1 (map strong_holds (states_in steps));
      exposed = greatest_of (map exposed (first ∷ states_in steps));
    }

-- nothing is counted
abbrev pub no_tally : Tally
no_tally = record { accepted = 0; weak = 0; strong = 0; exposed = 0 }

-- the last state: of a first one and those behind it
unfoldable pub last_of : State → List State → State
last_of s [] = s
last_of s (t ∷ ts) = last_of t ts

-- from a first state on: what is counted; "refusal or 0; byte where the refused record starts (input length if accepted ..)"; "the
-- last state"
abbrev pub verdict_from : State → Trace → Verdict
verdict_from first trace =
    record {
      tally = tally_of first trace.steps;
      refusal = trace.refusal;
      at = trace.at;
      state = last_of first (states_in trace.steps);
    }

-- refused by its length or its configuration: nothing is counted, the byte is 0, "all-zero if there is none"
abbrev pub unopened : ℕ → Verdict
unopened number = record { tally = no_tally; refusal = number; at = 0; state = zero_state }

-- by what the length and the configuration answer
unfoldable pub judge_by : Outcome → List (List ℕ) → Verdict
judge_by o records =
    by_refusal o.refusal unopened (verdict_from o.state (trace_from o.state configuration_width records))

-- the verdict of a run of bytes
unfoldable pub judge : List ℕ → Verdict
judge run = judge_by (opening run) (run_records_of run)
