-- The fresh state of a configuration. "The fresh state: next epoch 0, next id 0, quorum epoch -1, no leader, ISR all
-- replicas; each replica hw 0, epoch -1, no leader, empty ISR, empty log." Assumes nothing.
use Rattle.std.specs.Prelude.{ℕ, not, cond, ltb, replicate, None}
use Rattle.logic.specs.Table.{table}
use Rattle.logic.specs.Refuse.{refuse, by_refusal}
use Rattle.parts.specs.Refusal.{accepted, bad_configuration}
use Rattle.parts.specs.Isr.{full_isr}
use Rattle.parts.specs.Epoch.{no_epoch}
use Rattle.replica.specs.declared.Replica.{Replica}
use Rattle.replica.specs.Replica.{zero_record, replica_of, zero_replica}
use Rattle.cluster.specs.declared.Limits.{Limits}
use Rattle.cluster.specs.declared.Quorum.{Quorum}
use Rattle.cluster.specs.declared.State.{State}
use Rattle.cluster.specs.Answer.{Outcome}
use Rattle.cluster.specs.State.{replica_count_of, zero_request, state_of}
use Rattle.cluster.specs.Outcome.{answer, with_zeros}
use Rattle.cluster.specs.Rules.{in_range}

abbrev pub fresh_quorum : Limits → Quorum
fresh_quorum c = record { epoch = no_epoch; leader = None; isr = full_isr (replica_count_of c) }

abbrev pub fresh_replica : Replica
fresh_replica = replica_of 0 no_epoch None 0 0 (replicate 16 zero_record)

-- the fresh replica named i, or zeros where no replica is named i
abbrev pub fresh_replica_at : Limits → ℕ → Replica
fresh_replica_at c i = cond (ltb i (replica_count_of c)) fresh_replica zero_replica

unfoldable pub fresh_state : Limits → State
fresh_state c = state_of c 0 0 (fresh_quorum c) (replicate 16 zero_request) (table 5 (fresh_replica_at c))

-- R, L, M or X is out of range: 22
unfoldable pub limits_refusal : Limits → ℕ
limits_refusal c = refuse (not (in_range c)) bad_configuration accepted

-- what starting from a configuration answers: its fresh state, or 22 and zeros
unfoldable pub fresh : Limits → Outcome
fresh c = by_refusal (limits_refusal c) with_zeros (answer accepted (fresh_state c))
