-- The marked examples 1 to 9, each on the verdict of a run of bytes, computed from the definitions together. Assumes nothing.
--
--   configuration R L M X           the six bytes of a configuration
--   action kind a b e               the six bytes of the run record of an action
--   shrink a .. replicate_from a b  such run records of the kinds 0 to 4, 7 and 8
--   verdict records                 the verdict of the run that these run records make
--   numbers records                 its six numbers: accepted, refusal, at, weak, strong, exposed
--   paper_run                       the run of example 1
--   exchanged s                     s with the blocks of replicas 1 and 2 exchanged
--   MarkedExamples                  the marked examples 1 to 9, as one statement
--   marked_examples                 its proof, by computing
use Rattle.std.specs.Prelude.{ℕ, ◌≡◌, refl, None}
use mathlib.Core.List.{List, [], ◌∷◌, flatten}
use Rattle.std.proofs.Math.Option.{or_else}
use Rattle.logic.specs.Tests.{all_below, every, first_failing, first_fails}
use Rattle.logic.specs.Table.{table, table_from}
use Rattle.logic.specs.Refuse.{refuse, refuse_unless, first_refusal, by_refusal}
use Rattle.logic.specs.Greatest.{greatest_below, greatest_of}
use Rattle.logic.specs.Search.{first_below, passing, first_third, first_second, first_triple}
use Rattle.logic.specs.Pieces.{pieces_up_to, pieces}
use Rattle.parts.specs.Mark.{mark_first, marked}
use Rattle.parts.specs.Isr.{member, full_isr, isr_below, isr_of, without, no_other, is_alone}
use Rattle.parts.specs.Epoch.{same_epoch, higher_epoch, last_epoch, epoch_used}
use Rattle.replica.specs.Replica.{tidy_replica}
use Rattle.replica.specs.Change.{with_hw, with_end, with_request, append, truncate_to, truncate_under, become_follower_and_truncate_to}
use Rattle.replica.specs.Log.{record_in_use, log_in_use, records_agree, record_agrees, logs_agree, same_record, hold_same_record}
use Rattle.cluster.specs.declared.State.{State}
use Rattle.cluster.specs.State.{replica_at, with_replicas, with_replica, with_next_record_id, controller_update_isr, tidy}
use Rattle.cluster.specs.Rules.{between, in_range, rule1, leader_and_isr_in_range, replica_in_range, rule2, quorum_matches_request, rule3, rule4, replica_matches_request, replica_meets_s5, rule5, rule6, agrees_with_all, rule7, state_refusal}
use Rattle.cluster.specs.Fresh.{fresh_state, limits_refusal, fresh}
use Rattle.cluster.specs.Actions.{replica_presumes_leadership, replica_is_following, epochs_used_up, request_missing, epoch_not_above, controller_shrink_isr_refusal, shrink_by, controller_shrink_isr, controller_elect_leader_refusal, controller_elect_leader, leader_refusal, become_leader_refusal, lead_by, become_leader, become_follower_refusal, become_follower_at, become_follower_and_truncate_to_hw, leader_write_refusal, leader_write, passes_test, member_passes, member_named, leader_inc_high_watermark_refusal, leader_inc_high_watermark, follower_replicate_refusal, follower_replicate}
use Rattle.cluster.specs.Act.{kind_of, uses, operand_bound, operand_bounds, operands_fit, table_refusal, table_effect, action_refusal, effect, answer_by, refusal, act}
use Rattle.questions.specs.Isr.{isr_asked, offsets_asked, differ_at, smallest_failure, isr_answer_of, check_isr, ask_isr}
use Rattle.questions.specs.Exposed.{exposed}
use Rattle.images.specs.ImageExample.{paper_replica, paper_state}
use Rattle.representatives.specs.Representative.{representative}
use Rattle.representatives.specs.RepresentativeExample.{example_representative}
use Rattle.runs.specs.Answer.{Verdict}
use Rattle.runs.specs.Run.{configuration_mark, action_mark, mark_refusal, run_record_refusal, configure, act_on, length_refusal, opening, trace_by, trace_from, last_of, judge_by, judge}

-- ---- the run records of the examples, in their words
-- "4B 43, R, L, M, X"
abbrev pub configuration : ℕ → ℕ → ℕ → ℕ → List ℕ
configuration R L M X = mark_first ∷ configuration_mark ∷ R ∷ L ∷ M ∷ X ∷ []

-- "4B 41, kind, a, b, e"
abbrev pub action : ℕ → ℕ → ℕ → ℕ → List ℕ
action kind a b e = mark_first ∷ action_mark ∷ kind ∷ a ∷ b ∷ e ∷ []

abbrev pub shrink : ℕ → List ℕ
shrink a = action 0 a 0 0

abbrev pub elect : ℕ → List ℕ
elect a = action 1 a 0 0

abbrev pub leader : ℕ → List ℕ
leader e = action 2 0 0 e

-- follower a with e
abbrev pub follower : ℕ → ℕ → List ℕ
follower a e = action 3 a 0 e

abbrev pub write : ℕ → List ℕ
write a = action 4 a 0 0

abbrev pub advance : ℕ → List ℕ
advance a = action 7 a 0 0

-- replicate a from b
abbrev pub replicate_from : ℕ → ℕ → List ℕ
replicate_from a b = action 8 a b 0

-- ---- a run of such run records
-- the verdict of their bytes
abbrev pub verdict : List (List ℕ) → Verdict
verdict records = judge (flatten records)

-- the numbers of the verdict: accepted, refusal, at, weak, strong, exposed
abbrev pub numbers : List (List ℕ) → List ℕ
numbers records =
    let v : Verdict = verdict records in
    v.tally.accepted ∷ v.refusal ∷ v.at ∷ v.tally.weak ∷ v.tally.strong ∷ v.tally.exposed ∷ []

-- the run of example 1
abbrev pub paper_run : List (List ℕ)
paper_run = configuration 3 4 4 3 ∷ elect 0 ∷ leader 0 ∷ follower 1 0 ∷ follower 2 0 ∷ write 0 ∷ replicate_from 1 0 ∷ advance 0 ∷ []

-- the state with the blocks of replicas 1 and 2 exchanged, and nothing else changed
abbrev pub exchanged : State → State
exchanged s =
    with_replicas s (replica_at s 0 ∷ replica_at s 2 ∷ replica_at s 1 ∷ replica_at s 3 ∷ replica_at s 4 ∷ [])

-- ---- the examples
pub record MarkedExamples : Type 0 where
  -- 1. "4B4303040403 4B4101000000 4B4102000000 4B4103010000 4B4103020000 4B4104000000 4B4108010000 4B4107000000": "the run above is
  -- refused" "at 42"; "examples 1 and 8 now give 49"
  pub one_bytes : flatten paper_run
      ≡ 75 ∷ 67 ∷ 3 ∷ 4 ∷ 4 ∷ 3
      ∷ 75 ∷ 65 ∷ 1 ∷ 0 ∷ 0 ∷ 0
      ∷ 75 ∷ 65 ∷ 2 ∷ 0 ∷ 0 ∷ 0
      ∷ 75 ∷ 65 ∷ 3 ∷ 1 ∷ 0 ∷ 0
      ∷ 75 ∷ 65 ∷ 3 ∷ 2 ∷ 0 ∷ 0
      ∷ 75 ∷ 65 ∷ 4 ∷ 0 ∷ 0 ∷ 0
      ∷ 75 ∷ 65 ∷ 8 ∷ 1 ∷ 0 ∷ 0
      ∷ 75 ∷ 65 ∷ 7 ∷ 0 ∷ 0 ∷ 0
      ∷ []
  pub one : verdict paper_run
      ≡ record { tally = record { accepted = 6; weak = 0; strong = 0; exposed = 0 }; refusal = 49; at = 42; state = paper_state }
  -- 2. "its last state's representative has replicas 1 and 2 exchanged"
  pub two : representative (verdict paper_run).state ≡ exchanged (verdict paper_run).state
  -- 3. "insert 4B4108020000 before its last record: all 8 accepted, exposed 1"
  pub three : numbers
      (configuration 3 4 4 3 ∷ elect 0 ∷ leader 0 ∷ follower 1 0 ∷ follower 2 0 ∷ write 0 ∷ replicate_from 1 0 ∷ replicate_from 2 0 ∷ advance 0 ∷ [])
      ≡ 8 ∷ 0 ∷ 54 ∷ 0 ∷ 0 ∷ 1 ∷ []
  -- 4. "R=2, L=4, M=4, X=3: elect 0, leader 0, follower 1 with 0, write 0, replicate 1 from 0, advance 0, elect 1, elect 0,
  -- follower 1 with 2: all 9 accepted, weak 9, strong 9, exposed 1"
  pub four : numbers
      (configuration 2 4 4 3 ∷ elect 0 ∷ leader 0 ∷ follower 1 0 ∷ write 0 ∷ replicate_from 1 0 ∷ advance 0 ∷ elect 1 ∷ elect 0 ∷ follower 1 2 ∷ [])
      ≡ 9 ∷ 0 ∷ 60 ∷ 9 ∷ 9 ∷ 1 ∷ []
  -- 5. "the same run to action 3, then follower 1 with 0 again: refused 9"
  pub five : numbers (configuration 2 4 4 3 ∷ elect 0 ∷ leader 0 ∷ follower 1 0 ∷ follower 1 0 ∷ []) ≡ 3 ∷ 9 ∷ 24 ∷ 0 ∷ 0 ∷ 0 ∷ []
  -- 6. "R=1, L=4, M=4, X=3, fresh, shrink 0: accepted, ISR empty; then elect 0: 5"
  pub six : numbers (configuration 1 4 4 3 ∷ shrink 0 ∷ []) ≡ 1 ∷ 0 ∷ 12 ∷ 0 ∷ 0 ∷ 0 ∷ []
  pub six_isr : (verdict (configuration 1 4 4 3 ∷ shrink 0 ∷ [])).state.quorum.isr ≡ 0
  pub six_elect : numbers (configuration 1 4 4 3 ∷ shrink 0 ∷ elect 0 ∷ []) ≡ 1 ∷ 5 ∷ 12 ∷ 0 ∷ 0 ∷ 0 ∷ []
  -- 7. "configuration of 6, elect 0, shrink 0: no leader, ISR {0}"
  pub seven : numbers (configuration 1 4 4 3 ∷ elect 0 ∷ shrink 0 ∷ []) ≡ 2 ∷ 0 ∷ 18 ∷ 0 ∷ 0 ∷ 0 ∷ []
  pub seven_leader : (verdict (configuration 1 4 4 3 ∷ elect 0 ∷ shrink 0 ∷ [])).state.quorum.leader ≡ None
  pub seven_isr : (verdict (configuration 1 4 4 3 ∷ elect 0 ∷ shrink 0 ∷ [])).state.quorum.isr ≡ 1
  -- 8. "configuration of 6, elect 0, leader 0, then replicate 0 from 0: 19; in its place advance 0";
  -- "examples 1 and 8 now give 49"
  pub eight : numbers (configuration 1 4 4 3 ∷ elect 0 ∷ leader 0 ∷ replicate_from 0 0 ∷ []) ≡ 2 ∷ 19 ∷ 18 ∷ 0 ∷ 0 ∷ 0 ∷ []
  pub eight_advance : numbers (configuration 1 4 4 3 ∷ elect 0 ∷ leader 0 ∷ advance 0 ∷ []) ≡ 2 ∷ 49 ∷ 18 ∷ 0 ∷ 0 ∷ 0 ∷ []
  -- 9. "R=2, L=4, M=4, X=0, fresh, elect 0 accepted, shrink 0 then 4"
  pub nine : numbers (configuration 2 4 4 0 ∷ elect 0 ∷ shrink 0 ∷ []) ≡ 1 ∷ 4 ∷ 12 ∷ 0 ∷ 0 ∷ 0 ∷ []

pub marked_examples : MarkedExamples
unfolding judge judge_by last_of trace_from trace_by opening length_refusal act_on configure run_record_refusal mark_refusal paper_state
    paper_replica exposed ask_isr check_isr isr_answer_of smallest_failure differ_at offsets_asked isr_asked fresh limits_refusal
    fresh_state act refusal answer_by effect action_refusal table_effect table_refusal operands_fit operand_bounds operand_bound uses
    kind_of follower_replicate follower_replicate_refusal leader_inc_high_watermark leader_inc_high_watermark_refusal member_passes passes_test
    member_named first_fails
    leader_write leader_write_refusal become_follower_and_truncate_to_hw become_follower_at become_follower_refusal become_leader lead_by
    become_leader_refusal leader_refusal controller_elect_leader controller_elect_leader_refusal controller_shrink_isr shrink_by
    controller_shrink_isr_refusal epoch_not_above request_missing epochs_used_up replica_is_following replica_presumes_leadership
    state_refusal refuse_unless rule7 agrees_with_all rule6 rule5 replica_meets_s5 replica_matches_request rule4 rule3
    quorum_matches_request rule2 replica_in_range leader_and_isr_in_range rule1 in_range between tidy controller_update_isr
    with_next_record_id with_replica hold_same_record same_record logs_agree record_agrees records_agree log_in_use record_in_use
    become_follower_and_truncate_to truncate_under truncate_to append with_request with_end with_hw tidy_replica
    epoch_used last_epoch higher_epoch same_epoch is_alone no_other without isr_of isr_below full_isr member marked flatten
    pieces pieces_up_to first_triple first_second first_third passing first_below or_else greatest_of greatest_below refuse first_refusal
    by_refusal table table_from first_failing every all_below
marked_examples =
    record {
      one_bytes = refl;
      one = refl;
      two = example_representative;
      three = refl;
      four = refl;
      five = refl;
      six = refl;
      six_isr = refl;
      six_elect = refl;
      seven = refl;
      seven_leader = refl;
      seven_isr = refl;
      eight = refl;
      eight_advance = refl;
      nine = refl;
    }
