-- What is counted as the run records of a run are judged one by one, and the laws that it becomes the verdict of the whole run.
-- Assumes nothing.
--
--   failed_at known holds count         when a property first failed: `known`; where that is 0, `count` if it fails now, else 0
--   tally_after tally step              what is counted after one accepted step more
--   accepted_step action next           the step of an accepted action that hands back the state `next`
--   tally_more                          tally_after gives the tally of the steps with one step more
--   KnownOfState tally s                what the tally says of the state s that the run has reached
--   Narrowed tally quorum next action   what it says of the next state: there the narrow test decides what has not failed
--   known_begun, narrowed               KnownOfState holds of a first state of which both properties hold, and gives Narrowed of
--                                       the next one
--   known_after                         and it holds of the state that a step hands back
--   verdict_at tally number at last     the verdict where the run stops
--   resumed tally s trace               the verdict where it goes on from s with a trace
--   run_record_here run at              the run record that starts at a byte of the run
--   trace_here s at run                 the trace from the state s and that byte on
--   from_here tally s at run            the verdict from there on, with what is counted so far
--   here_begun, here_end                from_here at the first run record, and at the run's end
--   here_refused, here_on               from_here at a run record that is refused, and at one that is accepted
use Prim.Native.Nat.{ℕ, zero, suc, ◌+◌, ◌≤◌, ◌<◌, max}
use Rattle.std.specs.Prelude.{◌≡◌, Bool, true, false, take, drop}
use Rattle.std.proofs.Math.Path.{refl, ap, ap₂}
use Rattle.std.proofs.Common.{sym, ◌∙◌, arith, length-append, drop-drop}
use mathlib.Core.List.{List, [], ◌∷◌, ◌++◌, map, map-append, foldl, append-nil}
use Rattle.std.proofs.Math.ListN.{length, length-drop}
use Rattle.std.proofs.lemmas.List.{length-map}
use Rattle.std.proofs.Math.Seq.{length-take-le, append_snoc}
use Rattle.logic.specs.Tests.{first_failing}
use Rattle.logic.specs.Greatest.{greatest_of}
use Rattle.logic.specs.Pieces.{pieces, pieces_none, pieces_more}
use Rattle.parts.specs.Refusal.{accepted}
use Rattle.cluster.specs.declared.State.{State}
use Rattle.cluster.specs.declared.Action.{Action}
use Rattle.cluster.specs.State.{tidy}
use Rattle.cluster.specs.Rules.{rules}
use Rattle.cluster.specs.Act.{action_refusal, action_answer, accepted_with, effect}
use Rattle.questions.specs.declared.Property.TheVariants.{WeakIsr, StrongIsr}
use Rattle.questions.specs.Exposed.{exposed}
use Rattle.questions.specs.Doubt.{ReadsWithin, holds_after_action, exposes_more}
use Rattle.questions.proofs.DoubtTheorems.{reads_within, holds_after, exposes_no_more}
use Rattle.runs.specs.RunRecordLaws.{names_none}
use Rattle.runs.specs.Answer.{Tally, Verdict}
use Rattle.runs.specs.Run.{configuration_width, run_record_width, action_in, act_on, run_records_of, Step, step_on, handed_back, states_in, Trace, trace_by, trace_from, weak_holds, strong_holds, tally_of, last_of, verdict_from}
use Rattle.runs.specs.TraceLaws.{trace_accepted, trace_refused}

-- ---- one accepted step more
-- the count at which a property first failed: the one that is known; otherwise this one, where the property does not hold
unfoldable pub failed_at : (known : ℕ) (holds : Bool) (count : ℕ) → ℕ
failed_at zero true count = 0
failed_at zero false count = count
failed_at (suc known) holds count = suc known

-- what one step more makes of what is counted
abbrev pub tally_after : Tally → Step → Tally
tally_after tally step =
    let next : State = handed_back step in
    let count : ℕ = tally.accepted + 1 in
    record {
      accepted = count;
      weak = failed_at tally.weak (weak_holds next) count;
      strong = failed_at tally.strong (strong_holds next) count;
      exposed = max tally.exposed (exposed next);
    }

-- the step of an accepted action that hands back a state
abbrev pub accepted_step : Action → State → Step
accepted_step action next = record { action = action; answer = accepted_with next }

pub step_accepted : (s : State) (bytes : List ℕ) → (act_on s bytes).refusal ≡ accepted
    → accepted_step (action_in bytes) (act_on s bytes).state ≡ step_on s bytes
step_accepted s bytes ok =
    ap₂ (λ (n member : ℕ). record { action = action_in bytes; answer = action_answer n member (act_on s bytes).state })
    (sym ok) (sym (names_none s bytes))

-- ---- it is the tally of the steps so far
-- what one step more makes of the first failure, and of the greatest
failing_more : (k : ℕ) (bs : List Bool) (b : Bool)
    → first_failing (suc k) (bs ++ b ∷ []) ≡ failed_at (first_failing (suc k) bs) b (suc k + length bs)
unfolding first_failing failed_at
failing_more k [] true = refl
failing_more k [] false = omega arith
failing_more k (true ∷ bs) b = failing_more (suc k) bs b ∙ ap (failed_at (first_failing (suc (suc k)) bs) b) (omega arith)
failing_more k (false ∷ bs) b = refl

pub greatest_one : (n : ℕ) → greatest_of (n ∷ []) ≡ n
unfolding greatest_of
greatest_one n = omega arith

greatest_more : (l : List ℕ) (n : ℕ) → greatest_of (l ++ n ∷ []) ≡ max (greatest_of l) n
unfolding greatest_of
greatest_more [] n = omega arith
greatest_more (k ∷ l) n = omega (arith, greatest_more l n)

-- what a function gives of the states, with one step more
map_more : {B : Type 0} (f : State → B) (steps : List Step) (step : Step)
    → map f (states_in (steps ++ step ∷ [])) ≡ map f (states_in steps) ++ f (handed_back step) ∷ []
map_more f steps step = ap (map f) (map-append handed_back steps (step ∷ [])) ∙ map-append f (states_in steps) (handed_back step ∷ [])

-- the count at which a property first failed, with one step more
module _ (holds : State → Bool) (steps : List Step) (step : Step) where
  failed_more : first_failing 1 (map holds (states_in (steps ++ step ∷ [])))
      ≡ failed_at (first_failing 1 (map holds (states_in steps))) (holds (handed_back step)) (length steps + 1)
  failed_more =
      ap (first_failing 1) (map_more holds steps step)
      ∙ failing_more 0 (map holds (states_in steps)) (holds (handed_back step))
      ∙ ap (failed_at (first_failing 1 (map holds (states_in steps))) (holds (handed_back step)))
      (omega (arith, length-map (states_in steps) holds, length-map steps handed_back))

-- so one step more is counted by `tally_after`
pub tally_more : (first : State) (steps : List Step) (step : Step) → tally_of first (steps ++ step ∷ []) ≡ tally_after (tally_of first steps) step
tally_more first steps step =
    rw (
      length-append steps (step ∷ []),
      failed_more weak_holds steps step,
      failed_more strong_holds steps step,
      map_more exposed steps step,
      greatest_more (map exposed (first ∷ states_in steps)) (exposed (handed_back step)),
    )

-- ---- what the loop knows of its state, so that after an action it asks only about what that leaves in doubt
-- weak = 0 means that weak ISR holds of the state, the same for strong ISR; and the state exposes no more than was seen
pub record KnownOfState (tally : Tally) (s : State) : Type 0 where
  pub weak : tally.weak ≡ 0 → weak_holds s ≡ true
  pub strong : tally.strong ≡ 0 → strong_holds s ≡ true
  pub exposed : exposed s ≤ tally.exposed

-- of the state `next` that an action led to, by the quorum's ISR before the action: what the narrow test reads is there, it
-- decides weak and strong ISR where they have not failed, and after a kind that cannot expose more the state exposes no more
pub record Narrowed (tally : Tally) (quorum_before : ℕ) (next : State) (action : Action) : Type 0 where
  pub within : ReadsWithin next action
  pub weak : tally.weak ≡ 0 → weak_holds next ≡ holds_after_action WeakIsr quorum_before next action
  pub strong : tally.strong ≡ 0 → strong_holds next ≡ holds_after_action StrongIsr quorum_before next action
  pub exposed : exposes_more action.kind ≡ false → exposed next ≤ tally.exposed

-- it is known of a first state of which weak and strong ISR hold
pub known_begun : (s : State) → weak_holds s ≡ true → strong_holds s ≡ true → KnownOfState (tally_of s []) s
unfolding greatest_of
known_begun s weak strong = record { weak = λ e. weak; strong = λ e. strong; exposed = omega arith }

-- what is known of a state gives that of the state that an accepted action leads to
pub narrowed : (tally : Tally) (s : State) (action : Action) → KnownOfState tally s → rules s ≡ true → tidy s ≡ s
    → action_refusal s action ≡ accepted → Narrowed tally s.quorum.isr (effect s action) action
narrowed tally s action k h t ok =
    record {
      within = reads_within s action h t ok;
      weak = λ e. holds_after s action h t ok WeakIsr (k.weak e);
      strong = λ e. holds_after s action h t ok StrongIsr (k.strong e);
      exposed = λ less. omega (arith, k.exposed, exposes_no_more s action h t ok less);
    }

-- a property that has not failed holds
failed_not : (before : ℕ) (holds : Bool) (count : ℕ) → failed_at before holds (count + 1) ≡ 0 → holds ≡ true
unfolding failed_at
failed_not zero true count h = refl
failed_not zero false count h = absurd (omega arith)
failed_not (suc before) holds count h = absurd (omega arith)

-- so what is counted after a step gives what is known of the state that it hands back
pub known_after : (tally : Tally) (step : Step) → KnownOfState (tally_after tally step) (handed_back step)
known_after tally step =
    record {
      weak = failed_not tally.weak (weak_holds (handed_back step)) tally.accepted;
      strong = failed_not tally.strong (strong_holds (handed_back step)) tally.accepted;
      exposed = omega arith;
    }

-- a failure that is known stays; where none is, the state decides
module _ (known : ℕ) (holds : Bool) (count : ℕ) where
  pub failed_before : (known ≡ 0 → ⊥) → known ≡ failed_at known holds count
  unfolding failed_at
  failed_before h = go known h
    where
      go : (k : ℕ) → (k ≡ 0 → ⊥) → k ≡ failed_at k holds count
      go zero f = absurd (f refl)
      go (suc k) f = refl

  pub failed_never : known ≡ 0 → holds ≡ true → 0 ≡ failed_at known holds count
  unfolding failed_at
  failed_never h e = rw (h, e)

  pub failed_now : known ≡ 0 → holds ≡ false → count ≡ failed_at known holds count
  unfolding failed_at
  failed_now h e = rw (h, e)

-- ---- the verdict from here: of what is counted so far, the state, the byte where the next run record starts, and what follows
-- where the run stops
abbrev pub verdict_at : (tally : Tally) (number at : ℕ) (last : State) → Verdict
verdict_at tally number at last = record { tally = tally; refusal = number; at = at; state = last }

-- where it goes on with a trace
abbrev pub resumed : Tally → State → Trace → Verdict
resumed tally s trace =
    verdict_at (foldl tally_after tally trace.steps) trace.refusal trace.at (last_of s (states_in trace.steps))

-- the tally of steps done and steps that follow: that of the steps done, and then each step that follows is counted
tally_steps : (first : State) (rest done : List Step) → tally_of first (done ++ rest) ≡ foldl tally_after (tally_of first done) rest
tally_steps first [] done = ap (tally_of first) (append-nil done)
tally_steps first (step ∷ rest) done =
    ap (tally_of first) (sym (append_snoc done step rest))
    ∙ tally_steps first rest (done ++ step ∷ [])
    ∙ ap (λ (tally : Tally). foldl tally_after tally rest) (tally_more first done step)

-- the run record at a place of the run, and the trace from there on
abbrev pub run_record_here : List ℕ → ℕ → List ℕ
run_record_here run at = take run_record_width (drop at run)

abbrev pub trace_here : State → ℕ → List ℕ → Trace
trace_here s at run = trace_from s at (pieces run_record_width (drop at run))

abbrev pub from_here : Tally → State → ℕ → List ℕ → Verdict
from_here tally s at run = resumed tally s (trace_here s at run)

-- at the first run record it is the verdict of the run
pub here_begun : (s : State) (run : List ℕ)
    → verdict_from s (trace_from s configuration_width (run_records_of run)) ≡ from_here (tally_of s []) s configuration_width run
here_begun s run =
    let trace : Trace = trace_here s configuration_width run in
    ap (λ (tally : Tally). verdict_at tally trace.refusal trace.at (last_of s (states_in trace.steps))) (tally_steps s trace.steps [])

module _ (tally : Tally) (s : State) (at : ℕ) (run : List ℕ) where
  -- at the run's end nothing is refused
  pub here_end : length run ≤ at → verdict_at tally accepted at s ≡ from_here tally s at run
  unfolding trace_from last_of
  here_end h =
      let none : length (drop at run) ≤ 0 = rw length-drop (omega arith) in
      ap (λ (l : List (List ℕ)). resumed tally s (trace_from s at l)) (sym (pieces_none run_record_width (drop at run) none))

  -- where bytes are left: the next run record, and then the rest
  trace_more : at < length run
      → trace_here s at run
      ≡ trace_by at (step_on s (run_record_here run at))
      (trace_from (act_on s (run_record_here run at)).state (at + length (run_record_here run at)) (pieces run_record_width (drop run_record_width (drop at run))))
  unfolding trace_from
  trace_more h = ap (trace_from s at) (pieces_more 5 (drop at run) (rw length-drop (omega arith)))

  -- a run record that is refused
  pub here_refused : at < length run → ((act_on s (run_record_here run at)).refusal ≡ accepted → ⊥)
      → verdict_at tally (act_on s (run_record_here run at)).refusal at s ≡ from_here tally s at run
  unfolding last_of
  here_refused h refused = ap (resumed tally s) (sym (trace_more h ∙ trace_refused at (step_on s (run_record_here run at)) _ refused))

  -- one that is accepted, with all its bytes
  pub here_on : at + run_record_width ≤ length run → (act_on s (run_record_here run at)).refusal ≡ accepted
      → from_here tally s at run
      ≡ from_here (tally_after tally (step_on s (run_record_here run at))) (act_on s (run_record_here run at)).state (at + run_record_width) run
  unfolding last_of
  here_on h ok =
      let step : Step = step_on s (run_record_here run at) in
      let next : State = handed_back step in
      let six : length (run_record_here run at) ≡ run_record_width = length-take-le run_record_width (drop at run) (rw length-drop (omega arith)) in
      ap (resumed tally s) (trace_more (omega arith) ∙ trace_accepted at step _ ok)
      ∙ ap₂ (λ (k : ℕ) (l : List ℕ). resumed (tally_after tally step) next (trace_from next (at + k) (pieces run_record_width l)))
      six (drop-drop run_record_width at run)
