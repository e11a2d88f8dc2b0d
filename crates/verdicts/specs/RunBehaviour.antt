-- What a run is: by which number its length and its configuration refuse it; where they do not, its accepted run records, from the
-- first on, are accepted actions from the fresh state, so its states are a finite behaviour of the published model, and each run
-- record's own action joins two of them; it ends with its last run record, or at a run record that is refused; where that has six
-- bytes and the mark, the model does not allow its action. From steps_are on it is of runs whose configuration is accepted. Assumes
-- nothing.
--
--   Whole bytes                   these are a run record of an action, with its six bytes and the mark
--   steps_after s actions         the steps of actions one after another, from s on
--   opening_is                    by which number a run does not open, on its own bytes
--   opens_fresh, opens_with       it opens with the fresh state of R, L, M and X, which are its bytes 2 to 5
--   run_record_at run k           run record k behind the configuration, the first with number 0
--   accepted_actions run          the actions of its accepted run records
--   next_run_record run           the run record behind the accepted ones
--   states_of run, state_at run n its states, the first one with number 0; the state of number n
--   constants_in run              the published constants, as its configuration has them
--   Joins run k                   run record k is six bytes of the run with the action mark, its action joins states k and k + 1
--   steps_are, states_are         its steps and its states are those of its accepted actions
--   state_kept, last_kept         each of its states meets S1 to S7, is tidy, and has the limits of the first
--   run_is_behaviour              its states are a finite behaviour of the published model
--   run_record_joins              Joins holds of every accepted run record
--   last_state, reached           the verdict's state is the last of its states
--   at_behind                     it stops behind the bytes of its accepted run records
--   all_accepted, next_refused    not refused, it has accepted every run record; refused, its next run record answers the refusal
--   refused_not_allowed           the model does not allow the action of a refused run record that has six bytes and the mark
use Rattle.std.specs.Prelude.{ℕ, zero, suc, ◌+◌, ◌*◌, ◌≤◌, ◌<◌, ◌≡◌, refl, Bool, true, false, not, ◌↔◌, ltb, length, take, drop, get_or}
use Rattle.std.proofs.Math.Path.{sym}
use Rattle.std.proofs.Common.{ap, ap₂, ◌∙◌, arith, length-append, length-take, length-take-le, get_or-take, drop-drop, lt-ltb, ltb-true}
use mathlib.Core.List.{List, [], ◌∷◌, map, flatten}
use Rattle.std.proofs.lemmas.List.{length-map}
use Rattle.std.proofs.Math.ListN.{get_or-map}
use Rattle.logic.specs.Each.{Each, each_at}
use Rattle.logic.specs.Pieces.{piece_at}
use Rattle.logic.specs.Tests.{bool_ext}
use Rattle.logic.specs.Refuse.{refuse, first_refusal, by_number}
use Rattle.parts.specs.Refusal.{accepted, wrong_mark, too_short, bad_configuration, run_too_long}
use Rattle.parts.specs.Mark.{byte_at, marked}
use Rattle.cluster.specs.declared.Limits.{Limits}
use Rattle.cluster.specs.declared.State.{State}
use Rattle.cluster.specs.declared.Action.{Action}
use Rattle.cluster.specs.Answer.{ActionAnswer}
use Rattle.cluster.specs.Answer.{Outcome}
use Rattle.cluster.specs.State.{replica_count_of, log_size_of, max_records_of, max_leader_epoch_of, limits_of, zero_state}
use Rattle.cluster.specs.Rules.{in_range}
use Rattle.cluster.specs.Outcome.{answer, with_zeros}
use Rattle.cluster.specs.Fresh.{fresh_state, limits_refusal, fresh}
use Rattle.cluster.specs.Act.{without_member, act}
use Rattle.actions.specs.Kept.{Kept, kept_same}
use Rattle.published.specs.KafkaReplication.{Constants, ModelState, FiniteBehaviour}
use Rattle.published.specs.Meaning.{constants_of, meaning}
use Rattle.published.specs.Equality.{same_model_refl}
use Rattle.published.specs.Choices.{Choice}
use Rattle.published.proofs.Engine.{action_is_published}
use Rattle.published.proofs.Behaviours.{AllAccepted, states_after, sequence_is_behaviour}
use Rattle.runs.specs.Answer.{Verdict}
use Rattle.runs.specs.Run.{configuration_width, run_record_width, longest_run, configuration_mark, action_mark, mark_refusal, run_record_refusal, action_in, act_on, configuration_of, run_records_of, length_refusal, opening, Step, step_on, handed_back, states_in, Trace, trace_by, trace_from, last_of, judge}
use Rattle.runs.specs.RunRecordLaws.{run_record_whole, whole_acts, accepted_whole, accepted_acts}
use Rattle.runs.specs.TraceLaws.{trace_cases, trace_kept, last_each}
use Rattle.runs.specs.Opening.{limits_in, first_state, trace_of, opening_number, opening_fresh, fresh_opened, opening_state, opening_limits, opening_rules, opening_tidy, opened}

-- ---- how far a list of run records goes
-- the actions of the first n run records
abbrev actions_of : ℕ → List (List ℕ) → List Action
actions_of n records = map action_in (take n records)

-- the run record is one of an action, with its six bytes and the mark
abbrev pub Whole : List ℕ → Type 0
Whole bytes = run_record_refusal run_record_width action_mark bytes ≡ accepted

-- actions one after another from s on: each with what it answers
unfoldable pub steps_after : State → List Action → List Step
steps_after s [] = []
steps_after s (x ∷ xs) = record { action = x; answer = without_member (act s x) } ∷ steps_after (act s x).state xs

steps_states : (s : State) (actions : List Action) → states_in (steps_after s actions) ≡ states_after s actions
unfolding steps_after states_after
steps_states s [] = refl
steps_states s (x ∷ xs) = ap (λ (l : List State). (act s x).state ∷ l) (steps_states (act s x).state xs)

-- what holds of the trace t of the run records from s on, the first at byte `from`
record Traced (s : State) (from : ℕ) (records : List (List ℕ)) (t : Trace) : Type 0 where
  few : length t.steps ≤ length records
  whole_each : Each Whole (take (length t.steps) records)
  actions : AllAccepted s (actions_of (length t.steps) records)
  steps : t.steps ≡ steps_after s (actions_of (length t.steps) records)
  at : t.at ≡ from + length (flatten (take (length t.steps) records))
  all_taken : t.refusal ≡ accepted → length t.steps ≡ length records
  refused : (t.refusal ≡ accepted → ⊥)
      → (length t.steps < length records)
      × ((act_on (last_of s (states_in t.steps)) (get_or records (length t.steps) [])).refusal ≡ t.refusal)

-- a run record first, and t behind it
traced_by : (s : State) (from : ℕ) (bytes : List ℕ) (records : List (List ℕ)) (t : Trace)
    → Traced (act_on s bytes).state (from + length bytes) records t
    → Traced s from (bytes ∷ records) (trace_by from (step_on s bytes) t)
unfolding steps_after flatten last_of
traced_by s from bytes records t r =
    trace_cases from (step_on s bytes) t (Traced s from (bytes ∷ records))
    (λ ok.
    let acts : act_on s bytes ≡ without_member (act s (action_in bytes)) = accepted_acts s bytes ok in
    let next : (act_on s bytes).state ≡ (act s (action_in bytes)).state = ap (λ (a : ActionAnswer). a.state) acts in
    record {
      few = omega (arith, r.few);
      whole_each = (accepted_whole s bytes ok, r.whole_each);
      actions = (ap (λ (a : ActionAnswer). a.refusal) (sym acts) ∙ ok, rw (← next) r.actions);
      steps = ap₂ (λ (a : ActionAnswer) (l : List Step). record { action = action_in bytes; answer = a } ∷ l) acts (rw (← next) r.steps);
      at = rw length-append (omega (arith, r.at));
      all_taken = λ h. ap suc (r.all_taken h);
      refused = λ h. let p = r.refused h in (omega (arith, p.0), p.1);
    })
    (λ e.
    record {
      few = omega arith;
      whole_each = tt;
      actions = tt;
      steps = refl;
      at = omega arith;
      all_taken = λ h. absurd (e h);
      refused = λ h. (omega arith, refl);
    })

-- so it holds of the trace of any run records
traced : (s : State) (from : ℕ) (records : List (List ℕ)) → Traced s from records (trace_from s from records)
unfolding trace_from steps_after flatten
traced s from [] =
    record {
      few = omega arith;
      whole_each = tt;
      actions = tt;
      steps = refl;
      at = omega arith;
      all_taken = λ h. refl;
      refused = λ h. absurd (h refl);
    }
traced s from (bytes ∷ records) =
    let next : State = (act_on s bytes).state in
    traced_by s from bytes records (trace_from next (from + length bytes) records) (traced next (from + length bytes) records)

-- actions accepted one after another: each is accepted on the state of its number, and hands back the next one
accepted_state_at : (s : State) (actions : List Action) → AllAccepted s actions → (k : ℕ) (d : Action) → k < length actions
    → let t = get_or (s ∷ states_after s actions) k zero_state in
    let answer = act t (get_or actions k d) in
    (answer.refusal ≡ accepted) × (get_or (s ∷ states_after s actions) (suc k) zero_state ≡ answer.state)
unfolding states_after
accepted_state_at s [] all k d h = absurd (omega arith)
accepted_state_at s (x ∷ xs) all zero d h = (all.0, refl)
accepted_state_at s (x ∷ xs) all (suc k) d h = accepted_state_at (act s x).state xs all.1 k d (omega arith)

-- they hand back as many states
states_length : (s : State) (actions : List Action) → length (states_after s actions) ≡ length actions
unfolding states_after
states_length s [] = refl
states_length s (x ∷ xs) = ap suc (states_length (act s x).state xs)

-- the last state is the one behind all others
last_at : (s : State) (states : List State) (d : State) → last_of s states ≡ get_or (s ∷ states) (length states) d
unfolding last_of
last_at s [] d = refl
last_at s (t ∷ ts) d = last_at t ts d

-- ---- how a run opens
-- the refusals of its length, of its configuration's length and mark, and what follows, as one chain
opening_chain : (long short unmarked : Bool) (rest : ℕ)
    → first_refusal (refuse long run_too_long accepted) (first_refusal (refuse short too_short (refuse unmarked wrong_mark accepted)) rest)
    ≡ refuse long run_too_long (refuse short too_short (refuse unmarked wrong_mark rest))
unfolding first_refusal refuse
opening_chain true short unmarked rest = refl
opening_chain false true unmarked rest = refl
opening_chain false false true rest = refl
opening_chain false false false rest = refl

fresh_number : (c : Limits) → (fresh c).refusal ≡ limits_refusal c
unfolding fresh
fresh_number c = by_number (λ (o : Outcome). o.refusal) (limits_refusal c) with_zeros (answer accepted (fresh_state c)) (λ k. refl) refl

module _ (run : List ℕ) where
  -- its configuration has the first bytes of the run
  byte_in : (k : ℕ) → k < configuration_width → byte_at (configuration_of run) k ≡ byte_at run k
  byte_in k h = get_or-take configuration_width run k 0 h

  short_in : ltb (length (configuration_of run)) configuration_width ≡ ltb (length run) configuration_width
  short_in =
      let short : List ℕ → Bool = λ l. ltb (length l) configuration_width in
      let e = length-take configuration_width run in
      bool_ext (short (configuration_of run)) (short run)
      (λ h. lt-ltb (length run) configuration_width (omega (arith, ltb-true (length (configuration_of run)) configuration_width h, e)))
      (λ h. lt-ltb (length (configuration_of run)) configuration_width (omega (arith, ltb-true (length run) configuration_width h, e)))

  marked_in : marked configuration_mark (configuration_of run) ≡ marked configuration_mark run
  unfolding marked
  marked_in = rw (byte_in 0 (omega arith), byte_in 1 (omega arith))

  limits-in : limits_in run ≡ limits_of run
  limits-in = rw (byte_in 2 (omega arith), byte_in 3 (omega arith), byte_in 4 (omega arith), byte_in 5 (omega arith))

  -- by which number it does not open, in the order of the paper, on its own bytes: "over 65,532 bytes 25; .. fewer than six bytes
  -- 21 (also for an empty run), mark 20, configuration 22"; where none of these holds, it opens
  pub opening_is : (opening run).refusal
      ≡ refuse (ltb longest_run (length run)) run_too_long
      (refuse (ltb (length run) configuration_width) too_short
      (refuse (not (marked configuration_mark run)) wrong_mark
      (refuse (not (in_range (limits_of run))) bad_configuration
      accepted)))
  unfolding length_refusal run_record_refusal mark_refusal limits_refusal
  opening_is =
      sym (opening_number run)
      ∙ opening_chain (ltb longest_run (length run)) _ _ (fresh (limits_in run)).refusal
      ∙ rw (short_in, marked_in, limits-in, fresh_number (limits_of run))

  -- it opens with the fresh state of R, L, M and X, which are its bytes 2 to 5
  pub opens_fresh : (opening run).refusal ≡ accepted → first_state run ≡ fresh_state (limits_of run)
  opens_fresh ok = opening_state run ok ∙ ap fresh_state limits-in

  pub opens_with : (opening run).refusal ≡ accepted
      → let c = (first_state run).limits in
      (replica_count_of c ≡ byte_at run 2) × (log_size_of c ≡ byte_at run 3) × (max_records_of c ≡ byte_at run 4) × (max_leader_epoch_of c ≡ byte_at run 5)
  opens_with ok = rw (opening_limits run ok) (byte_in 2 (omega arith), byte_in 3 (omega arith), byte_in 4 (omega arith), byte_in 5 (omega arith))

-- ---- what a run does
-- run record k behind the configuration, the first with number 0
abbrev pub run_record_at : List ℕ → ℕ → List ℕ
run_record_at run k = get_or (run_records_of run) k []

-- the actions of its accepted run records: as many as the verdict says, from the first on
abbrev pub accepted_actions : List ℕ → List Action
accepted_actions run = map action_in (take (judge run).tally.accepted (run_records_of run))

-- the run record behind them
abbrev pub next_run_record : List ℕ → List ℕ
next_run_record run = run_record_at run (judge run).tally.accepted

-- its states: the first one, and those that its accepted actions hand back
abbrev pub states_of : List ℕ → List State
states_of run = first_state run ∷ states_after (first_state run) (accepted_actions run)

-- the state of number n: the first one has number 0, and that which action n hands back has number n
abbrev pub state_at : List ℕ → ℕ → State
state_at run n = get_or (states_of run) n zero_state

-- the published constants are those of its configuration
abbrev pub constants_in : List ℕ → Constants
constants_in run = constants_of (first_state run).limits

-- what run record k is and does: it is six bytes of the run, with the action mark, and its action joins the states k and k + 1
pub record Joins (run : List ℕ) (k : ℕ) : Type 0 where
  pub bytes : run_record_at run k ≡ take run_record_width (drop (configuration_width + run_record_width * k) run)
  pub six : length (run_record_at run k) ≡ run_record_width
  pub marked : marked action_mark (run_record_at run k) ≡ true
  pub joins : Choice (constants_in run) (action_in (run_record_at run k)) (meaning (state_at run k)) (meaning (state_at run (suc k)))

-- of a run whose configuration is accepted
module _ (run : List ℕ) (ok : (opening run).refusal ≡ accepted) where
  run_traced : Traced (first_state run) configuration_width (run_records_of run) (trace_of run)
  run_traced = traced (first_state run) configuration_width (run_records_of run)

  -- ---- its steps and its states
  -- no more actions are accepted than there are run records
  pub accepted_few : (judge run).tally.accepted ≤ length (run_records_of run)
  accepted_few = rw (opened run ok) run_traced.few

  pub as_many : length (accepted_actions run) ≡ (judge run).tally.accepted
  as_many = rw length-map (length-take-le (judge run).tally.accepted (run_records_of run) accepted_few)

  pub actions_accepted : AllAccepted (first_state run) (accepted_actions run)
  actions_accepted = rw (opened run ok) run_traced.actions

  -- its steps have the actions of its accepted run records, and what these answer one after another from the first state on
  pub steps_are : (trace_of run).steps ≡ steps_after (first_state run) (accepted_actions run)
  steps_are = rw (opened run ok) run_traced.steps

  -- behind the first state there is one for each accepted action: that which it hands back
  pub states_are : states_in (trace_of run).steps ≡ states_after (first_state run) (accepted_actions run)
  states_are = ap states_in steps_are ∙ steps_states (first_state run) (accepted_actions run)

  -- so they have the numbers up to that of the accepted actions
  pub states_within : (n : ℕ) → n ≤ (judge run).tally.accepted ↔ n < length (states_of run)
  states_within n =
      omega (
        arith,
        ap (λ (v : Verdict). v.tally.accepted) (opened run ok),
        ap length states_are,
        length-map (trace_of run).steps handed_back,
      )

  -- each meets S1 to S7, is tidy, and has the limits of the first
  kept_first : Kept (first_state run) (first_state run)
  kept_first = kept_same (first_state run) (opening_rules run ok) (opening_tidy run ok)

  kept_each : Each (Kept (first_state run)) (states_in (trace_of run).steps)
  kept_each = trace_kept (first_state run) (run_records_of run) (first_state run) configuration_width kept_first

  pub state_kept : (n : ℕ) → n ≤ (judge run).tally.accepted → Kept (first_state run) (state_at run n)
  state_kept n h =
      each_at (Kept (first_state run)) (states_of run) (kept_first, rw (← states_are) kept_each) n zero_state ((states_within n).0 h)

  -- they are a finite behaviour of the published model
  pub run_is_behaviour : FiniteBehaviour (constants_in run) (map meaning (states_of run))
  run_is_behaviour =
      let b = sequence_is_behaviour (limits_in run) (fresh_opened run ok) (accepted_actions run) in
      rw (opening_limits run ok) ((rw (← opening_fresh run ok) at b) actions_accepted)

  -- ---- each accepted run record: its own action joins two of them
  -- its action, by number
  action_at : (k : ℕ) → k < (judge run).tally.accepted → get_or (accepted_actions run) k (action_in []) ≡ action_in (run_record_at run k)
  action_at k h =
      get_or-map action_in (take (judge run).tally.accepted (run_records_of run)) k []
      ∙ ap action_in (get_or-take (judge run).tally.accepted (run_records_of run) k [] h)

  -- the run record is whole
  whole_at : (k : ℕ) → k < (judge run).tally.accepted → Whole (run_record_at run k)
  whole_at k h =
      let first : List (List ℕ) = take (judge run).tally.accepted (run_records_of run) in
      let all : Each Whole first = rw (opened run ok) run_traced.whole_each in
      rw (← get_or-take (judge run).tally.accepted (run_records_of run) k [] h)
      (each_at Whole first all k [] (omega (arith, length-take-le (judge run).tally.accepted (run_records_of run) accepted_few)))

  pub run_record_joins : (k : ℕ) → k < (judge run).tally.accepted → Joins run k
  run_record_joins k h =
      let s : State = state_at run k in
      let action : Action = action_in (run_record_at run k) in
      let kept = state_kept k (omega arith) in
      let p = (run_record_whole action_mark (run_record_at run k) run_record_width).0 (whole_at k h) in
      let b : run_record_at run k ≡ take run_record_width (drop (configuration_width + run_record_width * k) run) =
      piece_at 5 k (drop configuration_width run) ∙ ap (take run_record_width) (drop-drop (run_record_width * k) configuration_width run) in
      let a = rw (action_at k h) at (accepted_state_at (first_state run) (accepted_actions run) actions_accepted k (action_in []) (omega (arith, as_many))) in
      record {
        bytes = b;
        six = omega (arith, p.0, ap length b ∙ length-take run_record_width (drop (configuration_width + run_record_width * k) run));
        marked = p.1;
        joins = rw (← kept.limits, a.1)
            ((action_is_published s kept.rules action (meaning (act s action).state)).1
            (a.0, same_model_refl (constants_of s.limits) (meaning (act s action).state)));
      }

  -- ---- its end
  -- the last of its states is the verdict's; it meets S1 to S7, is tidy, and has the limits of the first
  pub last_state : (judge run).state ≡ last_of (first_state run) (states_after (first_state run) (accepted_actions run))
  last_state = ap (λ (v : Verdict). v.state) (opened run ok) ∙ ap (last_of (first_state run)) states_are

  -- so it has the number of the accepted actions
  pub reached : (judge run).state ≡ state_at run (judge run).tally.accepted
  reached =
      last_state
      ∙ last_at (first_state run) (states_after (first_state run) (accepted_actions run)) zero_state
      ∙ ap (state_at run) (states_length (first_state run) (accepted_actions run) ∙ as_many)

  pub last_kept : Kept (first_state run) (judge run).state
  last_kept = rw (opened run ok) (last_each (Kept (first_state run)) (first_state run) (states_in (trace_of run).steps) kept_first kept_each)

  -- the byte where it stops is behind those of the accepted run records
  pub at_behind : (judge run).at ≡ configuration_width + length (flatten (take (judge run).tally.accepted (run_records_of run)))
  at_behind = rw (opened run ok) run_traced.at

  -- not refused, it has accepted every run record
  pub all_accepted : (judge run).refusal ≡ accepted → (judge run).tally.accepted ≡ length (run_records_of run)
  all_accepted h = rw (opened run ok) (run_traced.all_taken (rw (opened run ok) at h))

  -- refused, there is a next run record, whose answer on the last state is the refusal
  pub next_refused : ((judge run).refusal ≡ accepted → ⊥)
      → ((judge run).tally.accepted < length (run_records_of run)) × ((act_on (judge run).state (next_run_record run)).refusal ≡ (judge run).refusal)
  next_refused h = rw (opened run ok) (run_traced.refused (rw (opened run ok) at h))

  -- and its action, where it has six bytes and the mark, is one that the model does not allow
  pub refused_not_allowed : ((judge run).refusal ≡ accepted → ⊥) → Whole (next_run_record run)
      → (v : ModelState) → Choice (constants_in run) (action_in (next_run_record run)) (meaning (judge run).state) v → ⊥
  refused_not_allowed h whole v choice =
      let s : State = (judge run).state in
      let a = (action_is_published s last_kept.rules (action_in (next_run_record run)) v).0 (rw last_kept.limits choice) in
      h (sym (next_refused h).1 ∙ ap (λ (o : ActionAnswer). o.refusal) (whole_acts s (next_run_record run) whole) ∙ a.0)
