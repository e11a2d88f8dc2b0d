-- Equality of states of the model is an equivalence. Assumes nothing.
use Rattle.std.specs.Prelude.{refl}
use Rattle.std.proofs.Common.{sym, ◌∙◌}
use Rattle.std.proofs.Math.Logic.Iff
use Rattle.published.specs.KafkaReplication.{Constants, Log, ModelState, SameLog, SameModelState}

same_log_refl : (x : Log) → SameLog x x
same_log_refl x = record { end = refl; entry = λ offset l. refl }

same_log_sym : (x y : Log) → SameLog x y → SameLog y x
same_log_sym x y m = record { end = sym m.end; entry = λ offset l. sym (m.entry offset (rw m.end l)) }

same_log_trans : (x y z : Log) → SameLog x y → SameLog y z → SameLog x z
same_log_trans x y z m n =
    record { end = m.end ∙ n.end; entry = λ offset l. m.entry offset l ∙ n.entry offset (rw m.end at l) }

module _ (k : Constants) where
  pub same_model_refl : (u : ModelState) → SameModelState k u u
  same_model_refl u =
      record {
        replicaLog = λ r l. same_log_refl (u.replicaLog r);
        replicaState = λ r l. refl;
        nextRecordId = refl;
        nextLeaderEpoch = refl;
        leaderAndIsrRequests = λ q. Iff.rfl;
        quorumState = refl;
      }

  pub same_model_sym : (u v : ModelState) → SameModelState k u v → SameModelState k v u
  same_model_sym u v m =
      record {
        replicaLog = λ r l. same_log_sym (u.replicaLog r) (v.replicaLog r) (m.replicaLog r l);
        replicaState = λ r l. sym (m.replicaState r l);
        nextRecordId = sym m.nextRecordId;
        nextLeaderEpoch = sym m.nextLeaderEpoch;
        leaderAndIsrRequests = λ q. Iff.symm (m.leaderAndIsrRequests q);
        quorumState = sym m.quorumState;
      }

  pub same_model_trans : (u v w : ModelState) → SameModelState k u v → SameModelState k v w → SameModelState k u w
  same_model_trans u v w m n =
      record {
        replicaLog = λ r l. same_log_trans (u.replicaLog r) (v.replicaLog r) (w.replicaLog r) (m.replicaLog r l) (n.replicaLog r l);
        replicaState = λ r l. m.replicaState r l ∙ n.replicaState r l;
        nextRecordId = m.nextRecordId ∙ n.nextRecordId;
        nextLeaderEpoch = m.nextLeaderEpoch ∙ n.nextLeaderEpoch;
        leaderAndIsrRequests = λ q. Iff.trans (m.leaderAndIsrRequests q) (n.leaderAndIsrRequests q);
        quorumState = m.quorumState ∙ n.quorumState;
      }
