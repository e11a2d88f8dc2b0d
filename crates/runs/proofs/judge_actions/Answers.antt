use Rattle.std.proofs.Common.{rules, ℕ, Some, ◌≡◌, ◌+◌, ◌*◌, ◌<◌, ◌≤◌, min, List, length, take, drop, refl, sym, ap, ap₂, ◌∙◌, arith, drop_at, drop-drop, take_all, length-drop}
use Rattle.std.proofs.Math.Seq.{take-append_seam}
use Rattle.std.proofs.lemmas.List.{take_min}
use Rattle.std.specs.Iterator.Adapters.{enumerate_source, enumerate_count}
use Rattle.std.specs.Slice.Iter.{chunks_rest, chunks_size, chunks_steps}
use Rattle.logic.specs.Tests.{first_failing}
use Rattle.parts.specs.Refusal.{accepted, refusal_number}
use Rattle.cluster.specs.declared.State.{State}
use Rattle.cluster.specs.Act.{effect}
use Rattle.questions.specs.IsrLaws.{refusal_not_zero}
use Rattle.runs.specs.Answer.{Tally, counts_of}
use Rattle.runs.specs.Run.{configuration_width, run_record_width, act_on, step_on}
use Rattle.runs.specs.Judging.{accepted_step, tally_after, known_begun, narrowed, known_after, verdict_at, run_record_here, here_begun, here_end, here_refused, here_on}
use Rattle.runs.specs.CodeLaws.{taken_whole, taken_accepted, taken_state, taken_tidy, taken_step}
use Rattle.runs.proofs.judge_actions.Goals as goal

-- what a turn takes from the run: the run record that starts here, as far as there is one; the rest stands behind it
module _ (run : List ℕ) (at : ℕ) (s t : _) (b : _) (steps : chunks_steps {A = ℕ} s (Some b) t) (size : chunks_size s ≡ run_record_width) (left : chunks_rest s ≡ drop at run) where
  starts_here : at < length run
  starts_here = omega (arith, steps.1.2, ap length left, length-drop at run)

  bytes_here : b.now ≡ run_record_here run at
  bytes_here =
      let long : length b.now ≡ min run_record_width (length (chunks_rest s)) = steps.1.1 ∙ ap (λ k. min k (length (chunks_rest s))) size in
      sym (ap (take run_record_width) (sym left)
      ∙ sym (take_min run_record_width (chunks_rest s))
      ∙ ap (λ n. take n (chunks_rest s)) (sym long)
      ∙ ap (take (length b.now)) steps.1.0
      ∙ take-append_seam b.now (chunks_rest t))

  module _ (whole : run_record_width ≤ length b.now) where
    fits_here : at + run_record_width ≤ length run
    fits_here = omega (arith, steps.1.1, size, ap length left, length-drop at run)

    rest_here : chunks_rest t ≡ drop (at + run_record_width) run
    rest_here =
        let six : length b.now ≡ run_record_width = omega (arith, steps.1.1, size) in
        sym (drop_at b.now (chunks_rest t) run_record_width six) ∙ ap (drop run_record_width) (sym steps.1.0 ∙ left) ∙ drop-drop run_record_width at run

pub loop-i-init : goal.loop-i-init
unfolding first_failing
loop-i-init c =
    let e = c.begun-tally.ensures in
    let begun : enumerate_count c.into_iter-i-iterator.result ≡ 0 = search rules in (
      search rules,
      tt,
      search rules,
      rw begun
          (ap (λ s. chunks_rest (enumerate_source s)) c.into_iter-i-iterator.ensures.into_iter_gives
          ∙ ap chunks_rest c.enumerate-i-items.ensures.source
          ∙ c.chunks-records.ensures.rest
          ∙ take_all _ (drop configuration_width c.args.run.now) (rw length-drop (omega arith))),
      omega (arith, begun),
      ap (λ (t : Tally). t.accepted) e ∙ sym begun,
      search rules,
      rw e (known_begun c.args.fresh.state c.requires.fresh_weak c.requires.fresh_strong),
      rw (e, begun) (here_begun c.args.fresh.state c.args.run.now),
    )

pub returns-in-Err : goal.returns-in-Err
returns-in-Err c =
    let l = c.loop-i in
    let s = l.valid.state in
    let run = c.args.run.now in
    let at = configuration_width + run_record_width * enumerate_count l.i-iterator in
    let source = enumerate_source l.i-iterator in
    let rest = enumerate_source c.next.new.self in
    let steps = c.in-Some.ensures.steps in
    let r = c.in-Err.refusal in
    let refused : refusal_number r ≡ (act_on s (run_record_here run at)).refusal =
    c.in-Err.ensures.number ∙ ap (λ (b : List ℕ). (act_on s b).refusal) (bytes_here run at source rest c.in-Some.bytes steps.0 l.invariant.2 l.invariant.3) in
    c.verdict.ensures
    ∙ ap₂ (λ (i n : ℕ). verdict_at (counts_of l.tally) n (configuration_width + run_record_width * i) s) steps.1 refused
    ∙ here_refused (counts_of l.tally) s at run (starts_here run at source rest c.in-Some.bytes steps.0 l.invariant.2 l.invariant.3) (λ q. refusal_not_zero r (refused ∙ q))
    ∙ sym l.invariant.8

pub after-tally-requires-clause-narrowed : goal.after-tally-requires-clause-narrowed
after-tally-requires-clause-narrowed c =
    let l = c.loop-i in
    let s = l.valid.state in
    let ok = taken_accepted s c.in-Some.bytes.now c.in-Ok.action l.valid.meets_rules l.invariant.6 c.in-Ok.ensures.number c.in-Ok.ensures.action in
    rw (c.new-valid.ensures, c.effect.ensures) (narrowed (counts_of l.tally) s c.in-Ok.action l.invariant.7 l.valid.meets_rules l.invariant.6 ok)

pub loop-i-preserved : goal.loop-i-preserved
loop-i-preserved c =
    let l = c.loop-i in
    let s = l.valid.state in
    let met = l.valid.meets_rules in
    let tidied = l.invariant.6 in
    let run = c.args.run.now in
    let at = configuration_width + run_record_width * enumerate_count l.i-iterator in
    let source = enumerate_source l.i-iterator in
    let rest = enumerate_source c.next.new.self in
    let bytes = c.in-Some.bytes in
    let steps = c.in-Some.ensures.steps in
    let action = c.in-Ok.action in
    let ok = c.in-Ok.ensures.number in
    let read = c.in-Ok.ensures.action in
    let six = taken_whole s bytes.now action met tidied ok read in
    let here = bytes_here run at source rest bytes steps.0 l.invariant.2 l.invariant.3 in
    let made : c.new-valid.result.state ≡ effect s action = c.new-valid.ensures ∙ c.effect.ensures in
    let next : c.new-valid.result.state ≡ (act_on s bytes.now).state = made ∙ taken_state s bytes.now action met tidied ok read in
    let counted : counts_of c.after-tally.result ≡ tally_after (counts_of l.tally) (step_on s bytes.now) =
    c.after-tally.ensures
    ∙ ap (λ (next : State). tally_after (counts_of l.tally) (accepted_step action next)) made
    ∙ ap (tally_after (counts_of l.tally)) (taken_step s bytes.now action met tidied ok read) in
    let on : configuration_width + run_record_width * enumerate_count c.next.new.self ≡ at + run_record_width = omega (arith, steps.2) in
    let fits = fits_here run at source rest bytes steps.0 l.invariant.2 l.invariant.3 six in (
      search rules,
      tt,
      steps.0.0 ∙ l.invariant.2,
      rw on (rest_here run at source rest bytes steps.0 l.invariant.2 l.invariant.3 six),
      rw on fits,
      ap (λ (t : Tally). t.accepted) counted ∙ omega (arith, steps.2, l.invariant.5),
      rw made (taken_tidy s bytes.now action met tidied ok read),
      rw (counted, next) (known_after (counts_of l.tally) (step_on s bytes.now)),
      l.invariant.8 ∙ here_on (counts_of l.tally) s at run fits (rw here at (sym ok)) ∙ rw (counted, next, on, here) refl,
    )

pub returns : goal.returns
returns c =
    let l = c.loop-i in
    let run = c.args.run.now in
    let at = configuration_width + run_record_width * enumerate_count l.i-iterator in
    let ends : length run ≡ at = omega (arith, c.in-None.ensures.steps.0.1.0, length-drop at run, ap length l.invariant.3, l.invariant.4) in
    c.verdict-2.ensures
    ∙ ap (λ (n : ℕ). verdict_at (counts_of l.tally) accepted n l.valid.state) ends
    ∙ here_end (counts_of l.tally) l.valid.state at run (omega (arith, ends))
    ∙ sym l.invariant.8
