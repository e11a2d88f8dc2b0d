-- Kind 5 can break strong ISR, on a state that meets the rules: where the ISR of the true leader is not the quorum's. So the law, which
-- is for every state that meets them, has to ask what kind 5 can have added to the quorum's ISR. Assumes nothing.
use Rattle.std.specs.Prelude.{ℕ, ◌≡◌, refl, true, false, [], ◌∷◌, pos, replicate, set, Some}
use Rattle.std.proofs.Math.Option.{or_else}
use Rattle.logic.specs.Tests.{all_below, every}
use Rattle.logic.specs.Refuse.{refuse, refuse_unless, by_refusal}
use Rattle.logic.specs.Search.{first_below, passing, first_third, first_second, first_triple}
use Rattle.parts.specs.Refusal.{accepted}
use Rattle.parts.specs.Isr.{member, full_isr, isr_below, isr_of, without}
use Rattle.parts.specs.Epoch.{same_epoch, last_epoch, epoch_used}
use Rattle.replica.specs.declared.Replica.{Replica}
use Rattle.replica.specs.Replica.{replica_of, zero_record, zero_replica}
use Rattle.replica.specs.Change.{with_isr}
use Rattle.replica.specs.Log.{record_in_use, log_in_use, records_agree, record_agrees, logs_agree, same_record, hold_same_record}
use Rattle.cluster.specs.declared.State.{State}
use Rattle.cluster.specs.declared.Action.{Action}
use Rattle.cluster.specs.State.{state_of, zero_request, with_replica, with_quorum_isr}
use Rattle.cluster.specs.Rules.{between, in_range, rule1, leader_and_isr_in_range, replica_in_range, rule2, quorum_matches_request, rule3, rule4, replica_matches_request, replica_meets_s5, rule5, rule6, agrees_with_all, rule7, rules, state_refusal}
use Rattle.cluster.specs.Actions.{replica_presumes_leadership, replica_is_following, is_true_leader, is_follower_caught_up, quorum_update_leader_and_isr, leader_shrink_isr_refusal, leader_shrink_isr}
use Rattle.cluster.specs.Act.{kind_of, uses, operand_bound, operand_bounds, operands_fit, table_refusal, table_effect, action_refusal, effect}
use Rattle.questions.specs.Isr.{isr_asked, offsets_asked, differ_at, smallest_failure, isr_answer, isr_answer_of, check_isr, ask_isr, strong_isr}

-- a replica of this state: of epoch 0, under leader 0, with the ISR of all three
abbrev pub of_epoch_zero : ℕ → ℕ → Replica
of_epoch_zero hw end = replica_of hw (pos 0) (Some 0) 7 end (replicate 16 zero_record)

-- replica 0 leads with the ISR of all three, and alone has a record and exposes it; the quorum's ISR is 0 alone
unfoldable pub differing_isrs : State
differing_isrs =
    state_of (record { replica_count = 3; log_size = 1; max_records = 1; max_leader_epoch = 0 }) 1 1
    (record { epoch = pos 0; leader = Some 0; isr = 1 })
    (set (replicate 16 zero_request) 0 (record { leader = Some 0; isr = 7 }))
    (of_epoch_zero 1 1 ∷ of_epoch_zero 0 0 ∷ of_epoch_zero 0 0 ∷ zero_replica ∷ zero_replica ∷ [])

-- leader 0 takes replica 1 out of its ISR, and so writes replica 2 into the quorum's
abbrev pub shrink : Action
shrink = record { kind = 5; a = 0; b = 1; e = 0 }

pub record KindFiveBreaksStrong : Type 0 where
  pub meets : rules differing_isrs ≡ true
  pub accepts : action_refusal differing_isrs shrink ≡ accepted
  pub held : (strong_isr differing_isrs).holds ≡ true
  pub fails : strong_isr (effect differing_isrs shrink) ≡ isr_answer accepted false 0 2 0

pub kind_five_breaks_strong : KindFiveBreaksStrong
unfolding differing_isrs ask_isr check_isr isr_answer_of smallest_failure differ_at offsets_asked isr_asked effect action_refusal table_effect table_refusal
    operands_fit operand_bounds operand_bound uses kind_of leader_shrink_isr leader_shrink_isr_refusal quorum_update_leader_and_isr is_follower_caught_up
    is_true_leader replica_is_following replica_presumes_leadership rules rule7 agrees_with_all rule6 rule5 replica_meets_s5 replica_matches_request rule4
    rule3 quorum_matches_request rule2 replica_in_range leader_and_isr_in_range rule1 in_range between with_replica with_quorum_isr with_isr hold_same_record
    same_record logs_agree record_agrees records_agree log_in_use record_in_use epoch_used last_epoch same_epoch without
    isr_of isr_below full_isr member first_triple first_second first_third passing first_below or_else refuse by_refusal state_refusal refuse_unless every all_below
kind_five_breaks_strong = record { meets = refl; accepts = refl; held = refl; fails = refl }
