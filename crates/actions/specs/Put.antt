-- One replica put anew: what must hold of it for the state to stay sound. Assumes nothing.
use Rattle.parts.specs.Leader.{Leader}
use Rattle.std.specs.Prelude.{ℕ, ◌≤◌, ◌<◌, ◌≡◌, true, List, ℤ, get_or, Some}
use Rattle.std.proofs.Common.{arith}
use Rattle.parts.specs.Isr.{member}
use Rattle.replica.specs.declared.Record.{Record}
use Rattle.replica.specs.declared.Replica.{Replica}
use Rattle.replica.specs.Replica.{zero_record, zero_replica, no_replica, record_at, tidy_replica}
use Rattle.cluster.specs.declared.Limits.{Limits}
use Rattle.cluster.specs.declared.State.{State}
use Rattle.cluster.specs.State.{replica_count_of, log_size_of, max_records_of, next_leader_epoch_of, next_record_id_of, replica_at, with_replica, with_next_record_id}
use Rattle.cluster.specs.Predicates.{Rules, Named, MatchesRequest, MeetsS5}
use Rattle.logic.specs.Lists.{each_set, put_tidy}
use Rattle.actions.specs.Tidy.{TidyLog, tidy_replica_iff}
use Rattle.actions.specs.Records.{From, from_itself, s6_kept, s7_kept}
use Rattle.actions.specs.Sound.{Sound}

-- an epoch, a leader and an ISR that replica a of s may have
pub record RequestFits (s : State) (a : ℕ) (epoch : ℤ) (leader : Leader) (isr : ℕ) : Type 0 where
  pub named : Named (replica_count_of s.limits) leader isr
  pub matches : MatchesRequest (next_leader_epoch_of s) s.requests epoch leader isr
  pub own : leader ≡ Some a → member isr a ≡ true

-- a log that it may have, with this next id
pub record LogFits (s : State) (a next_id end : ℕ) (log : List Record) : Type 0 where
  pub room : end ≤ log_size_of s.limits
  pub tidy : TidyLog end log
  pub records : (x : ℕ) → x < end → From s a next_id (next_leader_epoch_of s) (get_or log x zero_record) x

-- a replica that a may become
pub record Fits (s : State) (a next_id : ℕ) (p : Replica) : Type 0 where
  pub request : RequestFits s a p.epoch p.leader p.isr
  pub log : LogFits s a next_id p.end p.log
  pub hw : p.hw ≤ p.end

module _ (c : Limits) (s : State) (d : Sound c s) (a : ℕ) (l : a < replica_count_of s.limits) where
  -- a may stay as it is
  pub replica_fits : (next_id : ℕ) → Fits s a next_id (replica_at s a)
  replica_fits next_id =
      let five = d.rules.s5 a l in
      record {
        request = record { named = d.rules.s2.replicas a l; matches = five.request; own = five.own };
        log =
            record {
              room = d.rules.s2.ends a l;
              tidy = (tidy_replica_iff (replica_at s a)).0 (d.tidy.replicas.used a (omega (arith, d.rules.s1.ranges.replicas)) l);
              records = from_itself s a next_id (next_leader_epoch_of s) a l;
            };
        hw = five.hw;
      }

  module _ (p : Replica) where
    -- what holds of p, and of each other replica, holds of each
    each_replica : (P : Replica → ℕ → Type 0) → P p a → ((i : ℕ) → i < replica_count_of s.limits → P (replica_at s i) i)
        → (i : ℕ) → i < replica_count_of s.limits → P (replica_at (with_replica s a p) i) i
    unfolding with_replica
    each_replica P own others i m =
        each_set P s.replicas a p no_replica own i (omega (arith, d.tidy.replicas.room, d.rules.s1.ranges.replicas)) (λ q. others i m)

    pub put_sound : (next_id : ℕ) → next_record_id_of s ≤ next_id → next_id ≤ max_records_of s.limits → Fits s a next_id p
        → Sound c (with_next_record_id (with_replica s a p) next_id)
    unfolding with_replica with_next_record_id
    put_sound next_id low high f =
        record {
          limits = d.limits;
          rules =
              record {
                s1 = record { ranges = r.s1.ranges; epochs = r.s1.epochs; ids = high };
                s2 =
                    record {
                      quorum = r.s2.quorum;
                      requests = r.s2.requests;
                      replicas = each_replica (λ q i. Named (replica_count_of s.limits) q.leader q.isr) f.request.named r.s2.replicas;
                      ends = each_replica (λ q i. q.end ≤ log_size_of s.limits) f.log.room r.s2.ends;
                    };
                s3 = record { epoch = r.s3.epoch; start = r.s3.start; later = r.s3.later };
                s4 = record { quorum = r.s4.quorum; requests = r.s4.requests };
                s5 =
                    each_replica (λ q i. MeetsS5 (next_leader_epoch_of s) s.requests q i)
                    (record { request = f.request.matches; own = f.request.own; hw = f.hw })
                    r.s5;
                s6 = s6_kept s next a r.s6 from low (omega arith);
                s7 = s7_kept s next a r.s6 from r.s7;
              };
          tidy =
              record {
                requests = d.tidy.requests;
                replicas =
                    put_tidy tidy_replica zero_replica no_replica 5 (replica_count_of s.limits) s.replicas a p l
                    ((tidy_replica_iff p).1 f.log.tidy) d.tidy.replicas;
              };
        }
      where
        r : Rules s
        r = d.rules

        next : State
        next = with_next_record_id (with_replica s a p) next_id

        from : (i : ℕ) → i < replica_count_of s.limits → (x : ℕ) → x < (replica_at next i).end
            → From s a next_id (next_leader_epoch_of s) (record_at (replica_at next i) x) x
        from =
            each_replica (λ q i. (x : ℕ) → x < q.end → From s a next_id (next_leader_epoch_of s) (record_at q x) x)
            f.log.records (from_itself s a next_id (next_leader_epoch_of s))

    -- with the next id as it was
    pub put_only_sound : Fits s a (next_record_id_of s) p → Sound c (with_replica s a p)
    unfolding with_replica with_next_record_id
    put_only_sound f = put_sound (next_record_id_of s) (omega arith) d.rules.s1.ids f
