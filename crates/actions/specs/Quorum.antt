-- The quorum's ISR put anew, where an epoch is used and the leader is in that ISR: the state stays sound. Assumes nothing.
use Rattle.std.specs.Prelude.{ℕ, ◌^◌, ◌<◌, ◌≡◌, true, Some}
use Rattle.std.proofs.Common.{arith}
use Rattle.parts.specs.Isr.{member}
use Rattle.cluster.specs.declared.Limits.{Limits}
use Rattle.cluster.specs.declared.State.{State}
use Rattle.cluster.specs.State.{replica_count_of, next_leader_epoch_of, next_record_id_of, with_quorum_isr}
use Rattle.cluster.specs.Predicates.{Rules}
use Rattle.actions.specs.Records.{unwritten, s6_kept, s7_kept}
use Rattle.actions.specs.Sound.{Sound}

pub quorum_sound : (c : Limits) (s : State) → Sound c s → (isr : ℕ) → (next_leader_epoch_of s ≡ 0 → ⊥) → isr < 2 ^ replica_count_of s.limits
    → ((b : ℕ) → s.quorum.leader ≡ Some b → member isr b ≡ true) → Sound c (with_quorum_isr s isr)
unfolding with_quorum_isr
quorum_sound c s d isr later within led =
    record {
      limits = d.limits;
      rules =
          record {
            s1 = r.s1;
            s2 =
                record {
                  quorum = record { below = r.s2.quorum.below; within = within };
                  requests = r.s2.requests;
                  replicas = r.s2.replicas;
                  ends = r.s2.ends;
                };
            s3 = record { epoch = r.s3.epoch; start = λ e. absurd (later e); later = r.s3.later };
            s4 = record { quorum = led; requests = r.s4.requests };
            s5 = r.s5;
            s6 = s6_kept s (with_quorum_isr s isr) 0 r.s6 (unwritten s (next_record_id_of s) (next_leader_epoch_of s)) (omega arith) (omega arith);
            s7 = s7_kept s (with_quorum_isr s isr) 0 r.s6 (unwritten s (next_record_id_of s) (next_leader_epoch_of s)) r.s7;
          };
      tidy = record { requests = d.tidy.requests; replicas = d.tidy.replicas };
    }
  where
    r : Rules s
    r = d.rules
