-- The verdict of a run: where it stops, which numbers refuse it, and the bounds of what is counted. From at_within to refused_by
-- it is of runs whose configuration is accepted. Assumes nothing.
--
--   StopsAt run                        it stops at the run record behind the accepted ones, on its own part of the input
--   at_within                          it stops inside the run or at its end
--   refused_run_record                 StopsAt holds of a refused run
--   accepted_iff_all                   a run is not refused exactly where all its run records are accepted and it stops at its end
--   run_record_refused_by              the number of a run record on a state: 21, then 20, then its action's
--   accepted_fills                     a run is not refused exactly where its accepted run records fill it
--   refused_by                         a refused run has the number of its next run record on its last state
--   accepted_opened, accepted_at       a run that is not refused has an accepted configuration, and stops at its end
--   run_record_numbers, opening_numbers  the numbers of a run record's length and mark, and those before the first action
--   run_numbers                        all numbers that refuse a run: 2 to 16, 18 to 22, 25, 48 and 49
--   run_listed, run_breaks_none        no other number refuses a run, and none of a state rule
--   most_actions                       10,921, the most actions that a run can hold
--   Small v                            the bounds of the numbers of the verdict v
--   verdict_small                      Small holds of the verdict of every run
use Rattle.std.specs.Prelude.{ℕ, ◌+◌, ◌*◌, ◌-◌, ◌≤◌, ◌<◌, min, zero, suc, ◌≡◌, refl, Bool, true, false, not, List, [], ◌∷◌, ◌++◌, map, ◌↔◌, ltb, length, take, drop}
use Rattle.std.proofs.Common.{sym, ap, ◌∙◌, arith, lt_of_not-le, length-take, length-drop, drop-drop}
use Rattle.std.proofs.Math.Decide.{ℕ_discrete}
use Rattle.std.proofs.lemmas.List.{length-map}
use Rattle.logic.specs.Tests.{every, every_at, first_failing, failing_within}
use Rattle.logic.specs.Refuse.{listed, listed_refuse, listed_first, listed_within, listed_apart, refuse, first_refusal}
use Rattle.logic.specs.Pieces.{pieces_few, piece_at, front_pieces}
use Rattle.parts.specs.Refusal.{accepted, wrong_mark, too_short, run_too_long}
use Rattle.parts.specs.Mark.{marked}
use Rattle.cluster.specs.declared.State.{State}
use Rattle.cluster.specs.State.{replica_count_of}
use Rattle.cluster.specs.Rules.{rules, state_numbers}
use Rattle.cluster.specs.Predicates.{rules_iff}
use Rattle.cluster.specs.Fresh.{fresh}
use Rattle.cluster.specs.FreshLaws.{fresh_numbers, fresh_listed}
use Rattle.cluster.specs.Act.{refusal, act}
use Rattle.actions.specs.Answers.{act_number, action_numbers}
use Rattle.actions.proofs.ActionNumbers.{met_listed}
use Rattle.runs.specs.Answer.{Verdict}
use Rattle.runs.specs.Run.{configuration_width, run_record_width, longest_run, configuration_mark, action_mark, mark_refusal, run_record_refusal, action_in, act_on, configuration_of, run_records_of, length_refusal, opening, Step, handed_back, states_in, weak_holds, strong_holds, judge}
use Rattle.runs.specs.RunRecordLaws.{run_record_number}
use Rattle.runs.specs.Opening.{limits_in, trace_of, opening_number, opening_short, opening_long, opened, judge_unopened}
use Rattle.verdicts.specs.RunBehaviour.{next_run_record, state_at, accepted_few, state_kept, last_kept, at_behind, all_accepted, next_refused, run_record_joins}
use Rattle.verdicts.specs.RunProperties.{exposed_run_by}

-- ---- where a run stops
-- refused: at the run record behind the accepted ones, which starts inside the run and is judged on its own part of the input
pub record StopsAt (run : List ℕ) : Type 0 where
  pub more : (judge run).tally.accepted < length (run_records_of run)
  pub at : (judge run).at ≡ configuration_width + run_record_width * (judge run).tally.accepted
  pub within : (judge run).at < length run
  pub bytes : next_run_record run ≡ take run_record_width (drop (judge run).at run)
  pub answer : (act_on (judge run).state (next_run_record run)).refusal ≡ (judge run).refusal

module _ (run : List ℕ) (ok : (opening run).refusal ≡ accepted) where
  -- behind as many run records as are accepted, but not behind the last byte
  at_is : (judge run).at ≡ configuration_width + min (run_record_width * (judge run).tally.accepted) (length run - configuration_width)
  at_is =
      let n : ℕ = (judge run).tally.accepted in
      at_behind run ok
      ∙ ap (λ (k : ℕ). configuration_width + k)
      (ap length (front_pieces 5 n (drop configuration_width run))
      ∙ length-take (run_record_width * n) (drop configuration_width run)
      ∙ ap (min (run_record_width * n)) (length-drop configuration_width run))

  pub at_within : (judge run).at ≤ length run
  at_within = omega (arith, at_is, opening_long run ok)

  -- there are at most k run records exactly where k run records hold the bytes behind the configuration
  run_records_few : (k : ℕ) → length (run_records_of run) ≤ k ↔ length run - configuration_width ≤ run_record_width * k
  run_records_few k = rw (length-drop configuration_width run) at (pieces_few 5 k (drop configuration_width run))

  pub refused_run_record : ((judge run).refusal ≡ accepted → ⊥) → StopsAt run
  refused_run_record h =
      let n : ℕ = (judge run).tally.accepted in
      let next = next_refused run ok h in
      let left : run_record_width * n < length run - configuration_width = lt_of_not-le (λ l. omega (arith, next.0, (run_records_few n).1 l)) in
      let at : (judge run).at ≡ configuration_width + run_record_width * n = omega (arith, at_is, left) in
      record {
        more = next.0;
        at = at;
        within = omega (arith, at, left);
        bytes = piece_at 5 n (drop configuration_width run)
            ∙ ap (take run_record_width) (drop-drop (run_record_width * n) configuration_width run ∙ ap (λ (k : ℕ). drop k run) (sym at));
        answer = next.1;
      }

  -- not refused exactly where every run record is accepted, and then at the end of its bytes
  pub accepted_iff_all : (judge run).refusal ≡ accepted ↔ ((judge run).tally.accepted ≡ length (run_records_of run)) × ((judge run).at ≡ length run)
  accepted_iff_all = (
    (λ h.
        let all = all_accepted run ok h in
        (all, omega (arith, at_is, (run_records_few (judge run).tally.accepted).0 (omega (arith, all)), opening_long run ok))),
    (λ h. elim (ℕ_discrete (judge run).refusal accepted) [
      | yes e ↦ e
      | no e ↦ absurd (omega (arith, (next_refused run ok e).0, h.0))
    ]),
  )

-- ---- the same in bytes, and by the numbers of the paper
-- a chain of two tests, and then what follows
marked_chain : (short unmarked : Bool) (rest : ℕ)
    → first_refusal (refuse short too_short (refuse unmarked wrong_mark accepted)) rest ≡ refuse short too_short (refuse unmarked wrong_mark rest)
unfolding first_refusal refuse
marked_chain true unmarked rest = refl
marked_chain false true rest = refl
marked_chain false false rest = refl

-- a run record on a state: "fewer than six bytes 21 .., mark 20, .. then the action's number"
pub run_record_refused_by : (s : State) (bytes : List ℕ) → (act_on s bytes).refusal
    ≡ refuse (ltb (length bytes) run_record_width) too_short (refuse (not (marked action_mark bytes)) wrong_mark (act s (action_in bytes)).refusal)
unfolding run_record_refusal mark_refusal
run_record_refused_by s bytes =
    sym (run_record_number s bytes) ∙ marked_chain (ltb (length bytes) run_record_width) (not (marked action_mark bytes)) (act s (action_in bytes)).refusal

module _ (run : List ℕ) (ok : (opening run).refusal ≡ accepted) where
  -- the accepted run records are in the run
  run_records_within : (n : ℕ) → (judge run).tally.accepted ≡ n → configuration_width + run_record_width * n ≤ length run
  run_records_within zero e = omega (arith, opening_long run ok)
  run_records_within (suc k) e =
      let j = run_record_joins run ok k (omega (arith, e)) in
      omega (
        arith,
        j.six,
        ap length j.bytes,
        length-take run_record_width (drop (configuration_width + run_record_width * k) run),
        length-drop (configuration_width + run_record_width * k) run,
      )

  -- it is accepted exactly where they fill it
  pub accepted_fills : (judge run).refusal ≡ accepted ↔ length run ≡ configuration_width + run_record_width * (judge run).tally.accepted
  accepted_fills = (
    (λ h.
        let w = (accepted_iff_all run ok).0 h in
        let f = (pieces_few 5 (judge run).tally.accepted (drop configuration_width run)).0 (omega (arith, w.0)) in
        omega (arith, f, length-drop configuration_width run, run_records_within (judge run).tally.accepted refl)),
    (λ e.
        elim (ℕ_discrete (judge run).refusal accepted) [
          | yes h ↦ h
          | no h ↦ absurd (let s = refused_run_record run ok h in omega (arith, e, s.at, s.within))
        ]),
  )

  -- refused, it has the number of the next run record on the last state
  pub refused_by : ((judge run).refusal ≡ accepted → ⊥)
      → (judge run).refusal
      ≡ refuse (ltb (length (next_run_record run)) run_record_width) too_short
      (refuse (not (marked action_mark (next_run_record run))) wrong_mark
      (act (judge run).state (action_in (next_run_record run))).refusal)
  refused_by h = sym (refused_run_record run ok h).answer ∙ run_record_refused_by (judge run).state (next_run_record run)

-- one that is not refused has an accepted configuration, and stops at the end of its bytes
pub accepted_opened : (run : List ℕ) → (judge run).refusal ≡ accepted → (opening run).refusal ≡ accepted
accepted_opened run h =
    elim (ℕ_discrete (opening run).refusal accepted) [
      | yes ok ↦ ok
      | no e ↦ sym (ap (λ (v : Verdict). v.refusal) (judge_unopened run e)) ∙ h
    ]

pub accepted_at : (run : List ℕ) → (judge run).refusal ≡ accepted → (judge run).at ≡ length run
accepted_at run h = ((accepted_iff_all run (accepted_opened run h)).0 h).1

-- ---- which numbers refuse a run
-- those of a run record's length and mark, those before the first action, and all
abbrev pub run_record_numbers : List ℕ
run_record_numbers = wrong_mark ∷ too_short ∷ []

abbrev pub opening_numbers : List ℕ
opening_numbers = run_record_numbers ++ fresh_numbers ++ run_too_long ∷ []

abbrev pub run_numbers : List ℕ
run_numbers = action_numbers ++ opening_numbers

pub run-numbers : run_numbers
    ≡ 2 ∷ 3 ∷ 4 ∷ 5 ∷ 6 ∷ 7 ∷ 8 ∷ 9 ∷ 10 ∷ 11 ∷ 12 ∷ 13 ∷ 14 ∷ 15 ∷ 16 ∷ 18 ∷ 19 ∷ 48 ∷ 49 ∷ 20 ∷ 21 ∷ 22 ∷ 25 ∷ []
run-numbers = refl

-- the number of a run record's length and mark is one of them
run_record_listed : (l : List ℕ) (width mark : ℕ) (bytes : List ℕ) → every (map (listed l) (accepted ∷ run_record_numbers)) ≡ true
    → listed l (run_record_refusal width mark bytes) ≡ true
unfolding run_record_refusal mark_refusal
run_record_listed l width mark bytes all =
    let has = every_at (map (listed l) (accepted ∷ run_record_numbers)) all in
    listed_refuse l _ too_short _ (has 2) (listed_refuse l _ wrong_mark accepted (has 1) (has 0))

opening_listed : (run : List ℕ) → listed (accepted ∷ opening_numbers) (opening run).refusal ≡ true
unfolding length_refusal listed every
opening_listed run =
    let all : List ℕ = accepted ∷ opening_numbers in
    rw (← opening_number run)
    (listed_first all _ _ (listed_refuse all _ run_too_long accepted refl refl)
    (listed_first all _ _ (run_record_listed all configuration_width configuration_mark (configuration_of run) refl)
    (listed_within (accepted ∷ fresh_numbers) all (fresh (limits_in run)).refusal refl (fresh_listed (limits_in run)))))

-- that of a run record, on a state that meets the rules
act_on_listed : (s : State) → rules s ≡ true → (bytes : List ℕ) → listed (accepted ∷ run_numbers) (act_on s bytes).refusal ≡ true
unfolding listed every
act_on_listed s h bytes =
    let all : List ℕ = accepted ∷ run_numbers in
    rw (← run_record_number s bytes, act_number s (action_in bytes))
    (listed_first all _ _ (run_record_listed all run_record_width action_mark bytes refl)
    (listed_within (accepted ∷ action_numbers) all (refusal s (action_in bytes)) refl (met_listed s (action_in bytes) h)))

-- so no other number refuses a run
pub run_listed : (run : List ℕ) → listed (accepted ∷ run_numbers) (judge run).refusal ≡ true
unfolding listed every
run_listed run =
    let all : List ℕ = accepted ∷ run_numbers in
    elim (ℕ_discrete (opening run).refusal accepted) [
      | yes ok ↦ elim (ℕ_discrete (judge run).refusal accepted) [
        | yes e ↦ ap (listed all) e
        | no e ↦ rw (← (refused_run_record run ok e).answer) (act_on_listed (judge run).state (last_kept run ok).rules (next_run_record run))
      ]
      | no h ↦ rw (judge_unopened run h) (listed_within (accepted ∷ opening_numbers) all (opening run).refusal refl (opening_listed run))
    ]

-- nor one of a state rule: every state of a run meets them all
pub run_breaks_none : (run : List ℕ) → listed state_numbers (judge run).refusal ≡ false
unfolding listed every
run_breaks_none run = listed_apart (accepted ∷ run_numbers) state_numbers (judge run).refusal refl (run_listed run)

-- ---- how large the numbers of a verdict are
-- 65,532 bytes hold a configuration and so many actions
abbrev pub most_actions : ℕ
most_actions = 10921

pub record Small (v : Verdict) : Type 0 where
  pub refusal : listed (accepted ∷ run_numbers) v.refusal ≡ true
  pub accepted : v.tally.accepted ≤ most_actions
  pub at : v.at ≤ longest_run
  pub weak : v.tally.weak ≤ v.tally.accepted
  pub strong : v.tally.strong ≤ v.tally.accepted
  pub exposed : v.tally.exposed ≤ 16

-- in every state the hw of a replica is at most the end of its log, and that at most L
exposed_small : (run : List ℕ) (ok : (opening run).refusal ≡ accepted) → (judge run).tally.exposed ≤ 16
exposed_small run ok =
    exposed_run_by run ok 16
    (λ n h r l p.
    let kept = state_kept run ok n h in
    let met = (rules_iff (state_at run n)).0 kept.rules in
    let one : r < replica_count_of (state_at run n).limits = rw kept.limits l in
    omega (arith, (met.s5 r one).hw, met.s2.ends r one, met.s1.ranges.log))

-- the first step whose state fails a test has at most the number of the last
first_within : (test : State → Bool) (steps : List Step) → first_failing 1 (map test (states_in steps)) ≤ length steps
first_within test steps =
    omega (arith, failing_within 0 (map test (states_in steps)), length-map (states_in steps) test, length-map steps handed_back)

opened_small : (run : List ℕ) → (opening run).refusal ≡ accepted → Small (judge run)
opened_small run ok =
    record {
      accepted = omega (arith, accepted_few run ok, (run_records_few run ok most_actions).1 (omega (arith, opening_short run ok)));
      refusal = run_listed run;
      at = omega (arith, at_within run ok, opening_short run ok);
      weak = rw (opened run ok) (first_within weak_holds (trace_of run).steps);
      strong = rw (opened run ok) (first_within strong_holds (trace_of run).steps);
      exposed = exposed_small run ok;
    }

-- of every run
pub verdict_small : (run : List ℕ) → Small (judge run)
verdict_small run =
    elim (ℕ_discrete (opening run).refusal accepted) [
      | yes ok ↦ opened_small run ok
      | no h ↦ rw (judge_unopened run h)
          (record {
            accepted = omega arith;
            refusal = rw (judge_unopened run h) at (run_listed run);
            at = omega arith;
            weak = omega arith;
            strong = omega arith;
            exposed = omega arith;
          })
    ]
