-- Demand 3 of runs, for every run of bytes and every renaming of its replicas. "Broker numbers are only names." And a renamed run
-- of bytes is bytes. Assumes nothing.
--
--   run_behind, run_stays   the renamed run where the configuration is accepted; any other run stays
--   run_length              a renamed run is as long
--   configuration_renamed   where its configuration is accepted, it is the run's
--   run_records_renamed     and its run records are the run's, renamed
--   opening_renamed         its length and its configuration answer what the run's do
--   run_renamed             demand 3 of runs: the verdict of the renamed run is the renamed verdict
--   run_bytes               a renamed run of bytes is a run of bytes
use Rattle.std.specs.Prelude.{ℕ, ◌+◌, ◌*◌, ◌≤◌, ◌<◌, ◌≡◌, Bool, ◌&&◌, drop, get_or}
use Rattle.std.proofs.Math.Path.{refl, sym, ap}
use Rattle.std.proofs.Common.{ap₂, ◌∙◌, arith, take-append-drop, take_at, drop_at, ltb-true}
use Rattle.std.proofs.Math.Bool.{true, false, cond}
use mathlib.Core.List.{List, [], ◌++◌, flatten}
use Rattle.std.proofs.Math.Decide.{ℕ_discrete}
use Rattle.std.proofs.Math.Dec.{ltb}
use Rattle.std.proofs.Math.ListN.{length, length-append}
use Rattle.logic.specs.Tests.{and_right}
use Rattle.logic.specs.Refuse.{by_accepted, by_refused, by_either}
use Rattle.logic.specs.Pieces.{pieces, piece_at, changed_length, pieces_again}
use Rattle.parts.specs.Refusal.{accepted}
use Rattle.parts.specs.Mark.{byte_at}
use Rattle.parts.specs.Bytes.{Bytes, bytes_append, bytes_set, bytes_take, bytes_drop, bytes_flatten}
use Rattle.cluster.specs.declared.Limits.{Limits}
use Rattle.cluster.specs.declared.State.{State}
use Rattle.cluster.specs.Answer.{Outcome}
use Rattle.cluster.specs.State.{replica_count_of}
use Rattle.runs.specs.Run.{configuration_width, run_record_width, action_mark, run_record_refusal, configure, action_in, configuration_of, run_records_of, opening, trace_from, no_tally, verdict_from, judge}
use Rattle.runs.specs.Opening.{limits_in, first_state, opening_configures, opening_short, configuration_length, opening_in_range, opening_state, opening_limits, opening_rules, opening_tidy, opened, judge_unopened}
use Rattle.runs.specs.Judging.{verdict_at}
use Rattle.renamings.specs.Names.{new_name, is_renaming}
use Rattle.renamings.specs.Rename.{rename_operand, rename_action, renamed, Renames}
use Rattle.renamings.specs.Places.{renaming_iff}
use Rattle.renamings.specs.FreshRenamed.{zero_renamed, fresh_renamed}
use Rattle.verdicts.specs.RenameRun.{with_operands, rename_run_record, replicas_of, renamed_run_records, rename_run, RenamesRun, rename_verdict}
use Rattle.verdicts.proofs.TraceRenamed.{run_record_length, verdict_renamed}

-- ---- a renamed run
module _ (run p : List ℕ) where
  abbrev rename : List ℕ → List ℕ
  rename = rename_run_record (replicas_of run) (new_name p)

  -- where the configuration is accepted, that stays and each run record behind it is renamed; any other run stays
  run_behind : (opening run).refusal ≡ accepted → rename_run p run ≡ configuration_of run ++ flatten (renamed_run_records p run)
  unfolding rename_run
  run_behind ok = sym (by_accepted _ (λ number. run) (configuration_of run ++ flatten (renamed_run_records p run)) ok)

  run_stays : ((opening run).refusal ≡ accepted → ⊥) → rename_run p run ≡ run
  unfolding rename_run
  run_stays h = sym (by_refused _ (λ number. run) (configuration_of run ++ flatten (renamed_run_records p run)) h)

  -- its length stays
  pub run_length : length (rename_run p run) ≡ length run
  unfolding rename_run
  run_length =
      by_either (λ (l : List ℕ). length l ≡ length run) (opening run).refusal (λ number. run) (configuration_of run ++ flatten (renamed_run_records p run))
      (λ ok.
      length-append (configuration_of run) (flatten (renamed_run_records p run))
      ∙ ap (λ (k : ℕ). length (configuration_of run) + k)
      (changed_length 5 rename (run_record_length (replicas_of run) (new_name p)) (drop configuration_width run))
      ∙ sym (length-append (configuration_of run) (drop configuration_width run))
      ∙ ap length (take-append-drop configuration_width run))
      (λ h. refl)

  -- where it is accepted: its configuration and its run records
  module _ (ok : (opening run).refusal ≡ accepted) where
    configuration_renamed : configuration_of (rename_run p run) ≡ configuration_of run
    configuration_renamed =
        ap configuration_of (run_behind ok)
        ∙ take_at (configuration_of run) (flatten (renamed_run_records p run)) configuration_width (configuration_length run ok)

    run_records_renamed : run_records_of (rename_run p run) ≡ renamed_run_records p run
    run_records_renamed =
        ap run_records_of (run_behind ok)
        ∙ ap (pieces run_record_width)
        (drop_at (configuration_of run) (flatten (renamed_run_records p run)) configuration_width (configuration_length run ok))
        ∙ pieces_again 5 rename (run_record_length (replicas_of run) (new_name p)) (drop configuration_width run)

  -- its length and its configuration answer the same
  pub opening_renamed : opening (rename_run p run) ≡ opening run
  opening_renamed =
      elim (ℕ_discrete (opening run).refusal accepted) [
        | yes ok ↦ opening_configures (rename_run p run) (rw run_length (opening_short run ok))
            ∙ ap configure (configuration_renamed ok)
            ∙ sym (opening_configures run (opening_short run ok))
        | no h ↦ ap opening (run_stays h)
      ]

-- ---- its verdict
module _ (run p : List ℕ) (r : RenamesRun run p) where
  abbrev start : State
  start = first_state run

  -- where the configuration is accepted: from its fresh state on
  module _ (e : (opening run).refusal ≡ accepted) where
    renames_start : Renames start p
    renames_start = ap (λ (n : ℕ). is_renaming n p) (r.own e) ∙ r.renaming

    start_stays : renamed p start ≡ start
    start_stays =
        let e₀ = opening_state run e in
        ap (renamed p) e₀
        ∙ fresh_renamed (limits_in run) (opening_in_range run e) p
        (ap (λ (c : Limits). is_renaming (replica_count_of c) p) (sym (opening_limits run e)) ∙ renames_start)
        ∙ sym e₀

    opened_verdict : verdict_from start (trace_from start configuration_width (renamed_run_records p run))
        ≡ rename_verdict p (verdict_from start (trace_from start configuration_width (run_records_of run)))
    opened_verdict =
        ap (λ (s : State). verdict_from s (trace_from s configuration_width (renamed_run_records p run))) (sym start_stays)
        ∙ verdict_renamed start p renames_start (opening_rules run e) (opening_tidy run e) configuration_width (run_records_of run)

-- demand 3: "the run renamed throughout stops at the same byte. Every number of its verdict is the same, and its last state, if
-- there is one, is the other's, renamed."
pub run_renamed : (run p : List ℕ) → RenamesRun run p → judge (rename_run p run) ≡ rename_verdict p (judge run)
run_renamed run p r =
    let number : (opening (rename_run p run)).refusal ≡ (opening run).refusal = ap (λ (o : Outcome). o.refusal) (opening_renamed run p) in
    elim (ℕ_discrete (opening run).refusal accepted) [
      | yes ok ↦ opened (rename_run p run) (number ∙ ok)
          ∙ ap₂ (λ (o : Outcome) (records : List (List ℕ)). verdict_from o.state (trace_from o.state configuration_width records))
          (opening_renamed run p) (run_records_renamed run p ok)
          ∙ opened_verdict run p r ok
          ∙ ap (rename_verdict p) (sym (opened run ok))
      | no h ↦ judge_unopened (rename_run p run) (λ q. h (sym number ∙ q))
          ∙ ap₂ (λ (k : ℕ) (s : State). verdict_at no_tally k 0 s) number (sym (zero_renamed r.count r.few p r.renaming))
          ∙ ap (rename_verdict p) (sym (judge_unopened run h))
    ]

-- ---- its bytes
-- under a renaming of at most five replicas
module _ (n : ℕ) (p : List ℕ) (five : n ≤ 5) (r : is_renaming n p ≡ true) where
  -- an operand stays a byte: a new name is below five
  operand_byte : (used : Bool) (a : ℕ) → a < 256 → rename_operand n (new_name p) used a < 256
  unfolding rename_operand
  operand_byte used a h = go (used && ltb a n) refl
    where
      go : (b : Bool) → used && ltb a n ≡ b → cond b (new_name p a) a < 256
      go true e = omega (arith, ((renaming_iff n p five).0 r).below a (ltb-true a n (and_right used (ltb a n) e)))
      go false e = h

  run_record_bytes : (bytes : List ℕ) → Bytes bytes → Bytes (rename_run_record n (new_name p) bytes)
  unfolding rename_run_record rename_action
  run_record_bytes bytes h =
      by_either Bytes (run_record_refusal run_record_width action_mark bytes) (λ number. bytes) (with_operands bytes (rename_action n (new_name p) (action_in bytes)))
      (λ e.
      bytes_set _ 4 _ (operand_byte _ (byte_at bytes 4) (h.byte 4))
      (bytes_set bytes 3 _ (operand_byte _ (byte_at bytes 3) (h.byte 3)) h))
      (λ e. h)

-- a renamed run of bytes is a run of bytes
pub run_bytes : (run p : List ℕ) → RenamesRun run p → Bytes run → Bytes (rename_run p run)
unfolding rename_run
run_bytes run p r h =
    by_either Bytes (opening run).refusal (λ number. run) (configuration_of run ++ flatten (renamed_run_records p run))
    (λ e.
    bytes_append (configuration_of run) (flatten (renamed_run_records p run)) (bytes_take configuration_width run h)
    (rw (r.own e)
    (bytes_flatten (rename_run_record r.count (new_name p)) (run_records_of run)
    (λ k. run_record_bytes r.count p r.few r.renaming (get_or (run_records_of run) k []) (piece k)))))
    (λ e. h)
  where
    piece : (k : ℕ) → Bytes (get_or (run_records_of run) k [])
    piece k =
        rw (piece_at 5 k (drop configuration_width run))
        (bytes_take run_record_width _ (bytes_drop (run_record_width * k) (drop configuration_width run) (bytes_drop configuration_width run h)))
