-- Run records under a renaming, and the verdict from a tidy state that meets the rules on: the renamed run records on the renamed
-- state are accepted and refused as the others on the state are, and every state on the way is the renamed one. Assumes nothing.
--
--   operands_length .. operands_action   a run record with other operands: its length, its other bytes, its refusal, its action
--   whole_renamed, other_stays           a whole run record renamed has other operands; any other stays
--   run_record_length                    a renamed run record is as long
--   act_on_renamed                       on a renamed state, of one that meets the rules, it gets the renamed answer
--   action_renamed                       the action of a renamed whole run record is the renamed action
--   trace_renamed                        from a tidy state that meets the rules on, renamed run records on the renamed state have
--                                        the renamed trace
--   verdict_renamed                      and the renamed verdict
use Rattle.std.specs.Prelude.{ℕ, ◌+◌, ◌≤◌, ◌≡◌, true, ◌≢◌, set}
use Rattle.std.proofs.Math.Path.{refl, sym}
use Rattle.std.proofs.Common.{ap, ap₂, ◌∙◌, arith, length-set, get_or-set_same, get_or-set_other}
use mathlib.Core.List.{List, [], ◌∷◌, map}
use Rattle.std.proofs.Math.Decide.{ℕ_discrete}
use Rattle.std.proofs.Math.ListN.{length}
use Rattle.std.proofs.lemmas.List.{length-map}
use Rattle.logic.specs.Each.{Each, map_unseen}
use Rattle.logic.specs.Refuse.{by_accepted, by_refused, by_either}
use Rattle.parts.specs.Refusal.{accepted}
use Rattle.parts.specs.Mark.{byte_at, marked}
use Rattle.cluster.specs.declared.Limits.{Limits}
use Rattle.cluster.specs.declared.State.{State}
use Rattle.cluster.specs.declared.Action.{Action}
use Rattle.cluster.specs.Answer.{ActionAnswer}
use Rattle.cluster.specs.State.{replica_count_of, tidy}
use Rattle.cluster.specs.Rules.{rules}
use Rattle.cluster.specs.Act.{action_of, without_member, act}
use Rattle.actions.specs.Kept.{Kept, kept_same}
use Rattle.questions.specs.declared.Property.TheVariants.{WeakIsr, StrongIsr}
use Rattle.questions.specs.Exposed.{exposed}
use Rattle.runs.specs.Run.{run_record_width, action_mark, mark_refusal, run_record_refusal, action_in, act_on, Step, step_on, handed_back, states_in, Trace, stopped, step_then, trace_by, trace_from, weak_holds, strong_holds, last_of, verdict_from}
use Rattle.runs.specs.RunRecordLaws.{run_record_whole, whole_acts, unread, accepted_whole}
use Rattle.runs.specs.TraceLaws.{trace_accepted, trace_refused, kept_on, trace_kept}
use Rattle.renamings.specs.Names.{new_name, is_renaming}
use Rattle.renamings.specs.Rename.{rename_action, renamed, Renames}
use Rattle.renamings.specs.RenameTheorems.{renamed_act, renamed_holds, renamed_exposed}
use Rattle.verdicts.specs.RenameRun.{with_operands, rename_run_record, rename_answer, rename_step, rename_trace, rename_verdict}

-- ---- a run record
module _ (bytes : List ℕ) (action : Action) where
  -- with other operands it is as long, and its other bytes stay
  operands_length : length (with_operands bytes action) ≡ length bytes
  operands_length = length-set (set bytes 3 action.a) 4 action.b ∙ length-set bytes 3 action.a

  other_byte : (k : ℕ) → k ≢ 3 → k ≢ 4 → byte_at (with_operands bytes action) k ≡ byte_at bytes k
  other_byte k h g = get_or-set_other (set bytes 3 action.a) 4 k action.b 0 g ∙ get_or-set_other bytes 3 k action.a 0 h

  -- so its length and its mark are refused as before
  operands_refusal : run_record_refusal run_record_width action_mark (with_operands bytes action) ≡ run_record_refusal run_record_width action_mark bytes
  unfolding run_record_refusal mark_refusal marked
  operands_refusal = rw (operands_length, other_byte 0 (omega arith) (omega arith), other_byte 1 (omega arith) (omega arith))

  -- and its action has the new operands
  operands_action : run_record_width ≤ length bytes
      → action_in (with_operands bytes action) ≡ action_of (byte_at bytes 2) action.a action.b (byte_at bytes 5)
  operands_action h =
      rw (
        other_byte 2 (omega arith) (omega arith),
        get_or-set_other (set bytes 3 action.a) 4 3 action.b 0 (omega arith),
        get_or-set_same bytes 3 action.a 0 (omega arith),
        get_or-set_same (set bytes 3 action.a) 4 action.b 0 (omega (arith, length-set bytes 3 action.a)),
        other_byte 5 (omega arith) (omega arith),
      )

module _ (n : ℕ) (to : ℕ → ℕ) (bytes : List ℕ) where
  -- a renamed run record: of a whole one, and of any other
  pub whole_renamed : run_record_refusal run_record_width action_mark bytes ≡ accepted
      → rename_run_record n to bytes ≡ with_operands bytes (rename_action n to (action_in bytes))
  unfolding rename_run_record
  whole_renamed whole = sym (by_accepted _ (λ number. bytes) (with_operands bytes (rename_action n to (action_in bytes))) whole)

  other_stays : (run_record_refusal run_record_width action_mark bytes ≡ accepted → ⊥) → rename_run_record n to bytes ≡ bytes
  unfolding rename_run_record
  other_stays torn = sym (by_refused _ (λ number. bytes) (with_operands bytes (rename_action n to (action_in bytes))) torn)

  -- it is as long
  pub run_record_length : length (rename_run_record n to bytes) ≡ length bytes
  unfolding rename_run_record
  run_record_length =
      by_either (λ (l : List ℕ). length l ≡ length bytes) (run_record_refusal run_record_width action_mark bytes) (λ number. bytes)
      (with_operands bytes (rename_action n to (action_in bytes)))
      (λ e. operands_length bytes (rename_action n to (action_in bytes))) (λ e. refl)

-- a renamed run record on the renamed state: the renamed answer
act_on_renamed : (s : State) → rules s ≡ true → (p : List ℕ) → Renames s p → (bytes : List ℕ)
    → act_on (renamed p s) (rename_run_record (replica_count_of s.limits) (new_name p) bytes) ≡ rename_answer p (act_on s bytes)
unfolding rename_action
act_on_renamed s h p f bytes =
    let n : ℕ = replica_count_of s.limits in
    let new : Action = rename_action n (new_name p) (action_in bytes) in
    elim (ℕ_discrete (run_record_refusal run_record_width action_mark bytes) accepted) [
      | yes e ↦ ap (act_on (renamed p s)) (whole_renamed n (new_name p) bytes e)
          ∙ whole_acts (renamed p s) (with_operands bytes new) (operands_refusal bytes new ∙ e)
          ∙ ap (λ (action : Action). without_member (act (renamed p s) action)) (operands_action bytes new ((run_record_whole action_mark bytes run_record_width).0 e).0)
          ∙ renamed_act s h p f (action_in bytes)
          ∙ ap (rename_answer p) (sym (whole_acts s bytes e))
      | no e ↦ ap (act_on (renamed p s)) (other_stays n (new_name p) bytes e)
          ∙ unread (renamed p s) bytes e
          ∙ ap (rename_answer p) (sym (unread s bytes e))
    ]

-- the action of a renamed whole run record is the renamed action
action_renamed : (n : ℕ) (to : ℕ → ℕ) (bytes : List ℕ) → run_record_refusal run_record_width action_mark bytes ≡ accepted
    → action_in (rename_run_record n to bytes) ≡ rename_action n to (action_in bytes)
unfolding rename_action
action_renamed n to bytes whole =
    ap action_in (whole_renamed n to bytes whole)
    ∙ operands_action bytes (rename_action n to (action_in bytes)) ((run_record_whole action_mark bytes run_record_width).0 whole).0

-- ---- a trace
-- the last of renamed states is the last state, renamed
last_renamed : (p : List ℕ) (s : State) (states : List State) → last_of (renamed p s) (map (renamed p) states) ≡ renamed p (last_of s states)
unfolding last_of
last_renamed p s [] = refl
last_renamed p s (t ∷ ts) = last_renamed p t ts

-- renamed steps hand back renamed states
states_renamed : (n : ℕ) (p : List ℕ) (steps : List Step) → states_in (map (rename_step n p) steps) ≡ map (renamed p) (states_in steps)
states_renamed n p [] = refl
states_renamed n p (step ∷ steps) = ap (λ (l : List State). renamed p (handed_back step) ∷ l) (states_renamed n p steps)

-- a renamed step before a renamed trace makes the renamed trace; of a refused step the number is enough
trace_by_renamed : (n : ℕ) (p : List ℕ) (at : ℕ) (step other : Step) (rest more : Trace)
    → other.answer.refusal ≡ step.answer.refusal → (step.answer.refusal ≡ accepted → other ≡ rename_step n p step)
    → more ≡ rename_trace n p rest → trace_by at other more ≡ rename_trace n p (trace_by at step rest)
trace_by_renamed n p at step other rest more same one all =
    elim (ℕ_discrete step.answer.refusal accepted) [
      | yes ok ↦ trace_accepted at other more (same ∙ ok)
          ∙ ap₂ step_then (one ok) all
          ∙ ap (rename_trace n p) (sym (trace_accepted at step rest ok))
      | no h ↦ trace_refused at other more (λ q. h (sym same ∙ q))
          ∙ ap (stopped at) same
          ∙ ap (rename_trace n p) (sym (trace_refused at step rest h))
    ]

-- ---- the trace and the verdict from a state s on, under a renaming of its replicas
module _ (s : State) (p : List ℕ) (f : Renames s p) where
  abbrev n : ℕ
  n = replica_count_of s.limits

  abbrev rename : List ℕ → List ℕ
  rename = rename_run_record n (new_name p)

  -- of a state t that keeps what s has: p is a renaming of its replicas too
  renames_on : (t : State) → Kept s t → Renames t p
  renames_on t k = ap (λ (c : Limits). is_renaming (replica_count_of c) p) k.limits ∙ f

  -- a renamed run record on the renamed state gets the renamed answer
  renamed_on : (t : State) (bytes : List ℕ) → Kept s t → act_on (renamed p t) (rename bytes) ≡ rename_answer p (act_on t bytes)
  renamed_on t bytes k =
      ap (λ (c : Limits). act_on (renamed p t) (rename_run_record (replica_count_of c) (new_name p) bytes)) (sym k.limits)
      ∙ act_on_renamed t k.rules p (renames_on t k) bytes

  -- and where it is accepted, its step is the renamed one
  step_renamed : (t : State) (bytes : List ℕ) → Kept s t → (act_on t bytes).refusal ≡ accepted
      → step_on (renamed p t) (rename bytes) ≡ rename_step n p (step_on t bytes)
  step_renamed t bytes k ok =
      ap₂ {C = Step} (λ (action : Action) (a : ActionAnswer). record { action = action; answer = a })
      (action_renamed n (new_name p) bytes (accepted_whole t bytes ok)) (renamed_on t bytes k)

  -- the renamed run records on the renamed state have the renamed trace
  pub trace_renamed : (records : List (List ℕ)) (t : State) (at : ℕ) → Kept s t
      → trace_from (renamed p t) at (map rename records) ≡ rename_trace n p (trace_from t at records)
  unfolding trace_from
  trace_renamed [] t at k = refl
  trace_renamed (bytes ∷ records) t at k =
      let next : State = handed_back (step_on t bytes) in
      let e = renamed_on t bytes k in
      trace_by_renamed n p at (step_on t bytes) (step_on (renamed p t) (rename bytes)) (trace_from next (at + length bytes) records) _
      (ap (λ (a : ActionAnswer). a.refusal) e) (step_renamed t bytes k)
      (ap₂ (λ (a : ActionAnswer) (width : ℕ). trace_from a.state (at + width) (map rename records)) e (run_record_length n (new_name p) bytes)
      ∙ trace_renamed records next (at + length bytes) (kept_on s t bytes k))

  -- a renamed trace has the renamed verdict
  verdict_from_renamed : (trace : Trace) → Each (Kept s) (s ∷ states_in trace.steps)
      → verdict_from (renamed p s) (rename_trace n p trace) ≡ rename_verdict p (verdict_from s trace)
  verdict_from_renamed trace all =
      let states : List State = states_in trace.steps in
      rw (
        length-map trace.steps (rename_step n p),
        states_renamed n p trace.steps,
        map_unseen (Kept s) (renamed p) weak_holds (λ t k. renamed_holds t k.rules p (renames_on t k) WeakIsr) states all.1,
        map_unseen (Kept s) (renamed p) strong_holds (λ t k. renamed_holds t k.rules p (renames_on t k) StrongIsr) states all.1,
        map_unseen (Kept s) (renamed p) exposed (λ t k. renamed_exposed t k.rules p (renames_on t k)) (s ∷ states) all,
        last_renamed p s states,
      )

  -- so the renamed run records on the renamed state have the renamed verdict
  pub verdict_renamed : rules s ≡ true → tidy s ≡ s → (at : ℕ) (records : List (List ℕ))
      → verdict_from (renamed p s) (trace_from (renamed p s) at (map rename records)) ≡ rename_verdict p (verdict_from s (trace_from s at records))
  verdict_renamed h t at records =
      let kept = kept_same s h t in
      ap (verdict_from (renamed p s)) (trace_renamed records s at kept)
      ∙ verdict_from_renamed (trace_from s at records) (kept, trace_kept s records s at kept)
