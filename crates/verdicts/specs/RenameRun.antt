-- A run and a verdict under a renaming. "In a run whose configuration is accepted, with its R, each whole six-byte record with the
-- action mark is renamed so, after a refused record too, and no other byte; any other run stays as it is." Assumes nothing.
use Rattle.std.specs.Prelude.{ℕ, ◌≤◌, ◌≡◌, true, set}
use mathlib.Core.List.{List, ◌++◌, map, flatten}
use Rattle.logic.specs.Refuse.{by_refusal}
use Rattle.parts.specs.Refusal.{accepted}
use Rattle.cluster.specs.declared.Action.{Action}
use Rattle.cluster.specs.Answer.{ActionAnswer}
use Rattle.cluster.specs.State.{replica_count_of}
use Rattle.cluster.specs.Act.{action_answer}
use Rattle.runs.specs.Answer.{Verdict}
use Rattle.runs.specs.Run.{run_record_width, action_mark, run_record_refusal, action_in, configuration_of, run_records_of, opening, Step, Trace}
use Rattle.renamings.specs.Names.{new_name, is_renaming}
use Rattle.renamings.specs.Rename.{rename_action, renamed}

-- ---- a run record
-- the bytes of the run record of an action, with the operands a and b of another action, which are bytes 3 and 4
abbrev pub with_operands : List ℕ → Action → List ℕ
with_operands bytes action = set (set bytes 3 action.a) 4 action.b

-- a run record of n replicas: where it is whole, used replica operands below n are renamed; any other stays
unfoldable pub rename_run_record : ℕ → (ℕ → ℕ) → List ℕ → List ℕ
rename_run_record n to bytes =
    by_refusal (run_record_refusal run_record_width action_mark bytes) (λ number. bytes) (with_operands bytes (rename_action n to (action_in bytes)))

-- ---- a run
-- the R of the run's configuration
abbrev pub replicas_of : List ℕ → ℕ
replicas_of run = replica_count_of (opening run).state.limits

-- its run records, renamed
abbrev pub renamed_run_records : List ℕ → List ℕ → List (List ℕ)
renamed_run_records p run = map (rename_run_record (replicas_of run) (new_name p)) (run_records_of run)

-- the run under the five places p: the configuration stays, and behind it are the run records, renamed; where the configuration is
-- not accepted, the run stays
unfoldable pub rename_run : List ℕ → List ℕ → List ℕ
rename_run p run = by_refusal (opening run).refusal (λ number. run) (configuration_of run ++ flatten (renamed_run_records p run))

-- p is a renaming of the run's R; where no configuration is accepted, of any R from 1 to 5
pub record RenamesRun (run p : List ℕ) : Type 0 where
  pub count : ℕ
  pub some : 1 ≤ count
  pub few : count ≤ 5
  pub own : (opening run).refusal ≡ accepted → replicas_of run ≡ count
  pub renaming : is_renaming count p ≡ true

-- ---- a trace of n replicas: each action and each answer is renamed; the numbers stay
-- an answer, which names no member in a run: its number stays, and its state is renamed
abbrev pub rename_answer : List ℕ → ActionAnswer → ActionAnswer
rename_answer p a = action_answer a.refusal 0 (renamed p a.state)

abbrev pub rename_step : ℕ → List ℕ → Step → Step
rename_step n p step = record { action = rename_action n (new_name p) step.action; answer = rename_answer p step.answer }

abbrev pub rename_trace : ℕ → List ℕ → Trace → Trace
rename_trace n p trace = record { steps = map (rename_step n p) trace.steps; refusal = trace.refusal; at = trace.at }

-- ---- a verdict: every number stays, and the last state is renamed
abbrev pub rename_verdict : List ℕ → Verdict → Verdict
rename_verdict p v = record { tally = v.tally; refusal = v.refusal; at = v.at; state = renamed p v.state }
