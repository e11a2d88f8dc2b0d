-- Where the first state of a trace meets the rules and is tidy, every state of it meets them, is tidy and has the same limits.
-- Assumes nothing.
use Rattle.std.specs.Prelude.{ℕ, ◌+◌, ◌≡◌, List, [], ◌∷◌, length}
use Rattle.std.proofs.Math.Path.{sym}
use Rattle.logic.specs.Each.{Each}
use Rattle.logic.specs.Refuse.{by_accepted, by_refused, by_either}
use Rattle.parts.specs.Refusal.{accepted}
use Rattle.cluster.specs.declared.State.{State}
use Rattle.actions.specs.Kept.{Kept, kept_after}
use Rattle.runs.specs.Run.{act_on, Step, step_on, handed_back, states_in, Trace, stopped, step_then, trace_by, trace_from, last_of}
use Rattle.runs.specs.RunRecordLaws.{act_on_kept}

-- ---- by the answer of the first run record
module _ (at : ℕ) (step : Step) (rest : Trace) where
  pub trace_accepted : step.answer.refusal ≡ accepted → trace_by at step rest ≡ step_then step rest
  unfolding trace_by
  trace_accepted h = sym (by_accepted _ (stopped at) (step_then step rest) h)

  pub trace_refused : (step.answer.refusal ≡ accepted → ⊥) → trace_by at step rest ≡ stopped at step.answer.refusal
  unfolding trace_by
  trace_refused h = sym (by_refused _ (stopped at) (step_then step rest) h)

  -- what holds of the trace in both cases
  pub trace_cases : (P : Trace → Type 0) → (step.answer.refusal ≡ accepted → P (step_then step rest))
      → ((step.answer.refusal ≡ accepted → ⊥) → P (stopped at step.answer.refusal)) → P (trace_by at step rest)
  unfolding trace_by
  trace_cases P = by_either P step.answer.refusal (stopped at) (step_then step rest)

-- ---- what a trace keeps
-- a run record hands back a state that keeps what s has, where the state before it does
pub kept_on : (s t : State) (bytes : List ℕ) → Kept s t → Kept s (act_on t bytes).state
kept_on s t bytes k = kept_after s t (act_on t bytes).state k (act_on_kept t bytes k.rules k.tidy)

-- so every state of a trace does
pub trace_kept : (s : State) (records : List (List ℕ)) (t : State) (at : ℕ) → Kept s t
    → Each (Kept s) (states_in (trace_from t at records).steps)
unfolding trace_from
trace_kept s [] t at k = tt
trace_kept s (bytes ∷ records) t at k =
    let next : State = handed_back (step_on t bytes) in
    let kept = kept_on s t bytes k in
    trace_cases at (step_on t bytes) (trace_from next (at + length bytes) records) (λ (trace : Trace). Each (Kept s) (states_in trace.steps))
    (λ e. (kept, trace_kept s records next (at + length bytes) kept))
    (λ e. tt)

-- the last one too
pub last_each : (P : State → Type 0) (s : State) (states : List State) → P s → Each P states → P (last_of s states)
unfolding last_of
last_each P s [] h all = h
last_each P s (t ∷ ts) h all = last_each P t ts all.0 all.1
