-- "The longest is 227 bytes": an image that has them. Assumes nothing.
use Rattle.std.specs.Prelude.{ℕ, ◌≡◌, refl, true, pos, length, replicate, Some}
use Rattle.logic.specs.Tests.{all_below, every}
use Rattle.logic.specs.Table.{table, table_from}
use Rattle.logic.specs.Concat.{concat_below}
use Rattle.parts.specs.Isr.{member, isr_below, full_isr}
use Rattle.parts.specs.Epoch.{same_epoch, last_epoch, epoch_used}
use Rattle.replica.specs.declared.Record.{Record}
use Rattle.replica.specs.declared.Replica.{Replica}
use Rattle.replica.specs.Replica.{replica_of}
use Rattle.replica.specs.Log.{record_in_use, log_in_use, records_agree, record_agrees, logs_agree}
use Rattle.cluster.specs.declared.Limits.{Limits}
use Rattle.cluster.specs.declared.Request.{Request}
use Rattle.cluster.specs.declared.State.{State}
use Rattle.cluster.specs.State.{state_of}
use Rattle.cluster.specs.Rules.{between, in_range, rule1, leader_and_isr_in_range, replica_in_range, rule2, quorum_matches_request, rule3, rule4, replica_matches_request, replica_meets_s5, rule5, rule6, agrees_with_all, rule7, rules}
use Rattle.images.specs.Image.{log_bytes, requests_bytes, replica_bytes, replicas_bytes, image}

-- R 5, L 16, M 64, X 15, all 16 requests sent, and all five logs full of the same 16 records
full_record : ℕ → Record
full_record x = record { id = x; epoch = pos 15 }

full_replica : Replica
full_replica = replica_of 16 (pos 15) (Some 0) 31 16 (table 16 full_record)

full_request : Request
full_request = record { leader = Some 0; isr = 31 }

full_limits : Limits
full_limits = record { replica_count = 5; log_size = 16; max_records = 64; max_leader_epoch = 15 }

pub full_state : State
full_state =
    state_of full_limits 16 16 (record { epoch = pos 15; leader = Some 0; isr = 31 }) (replicate 16 full_request) (replicate 5 full_replica)

pub full_meets_rules : rules full_state ≡ true
unfolding full_record full_replica full_request full_limits full_state table table_from all_below every member isr_below full_isr same_epoch last_epoch epoch_used record_in_use log_in_use records_agree record_agrees logs_agree between in_range rule1 leader_and_isr_in_range replica_in_range rule2 quorum_matches_request rule3 rule4 replica_matches_request replica_meets_s5 rule5 rule6 agrees_with_all rule7 rules
full_meets_rules = refl

pub full_length : length (image full_state) ≡ 227
unfolding full_record full_replica full_request full_limits full_state concat_below log_bytes requests_bytes replica_bytes replicas_bytes image
full_length = refl
