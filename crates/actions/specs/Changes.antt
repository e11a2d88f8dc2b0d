-- What the actions make of a replica may stand in its place: a request taken, another ISR, a record added, a log cut.
-- Assumes nothing.
use Rattle.parts.specs.Leader.{Leader}
use Rattle.std.specs.Prelude.{ℕ, ◌+◌, ◌^◌, ◌≤◌, ◌<◌, min, ◌≡◌, refl, true, List, ℤ, pos, set, None, Some}
use Rattle.std.proofs.Common.{sym, ◌∙◌, arith}
use Rattle.parts.specs.Isr.{member}
use Rattle.parts.specs.EpochLaws.{pos_injective, pos_negsuc}
use Rattle.parts.specs.LeaderLaws.{none_some}
use Rattle.replica.specs.declared.Record.{Record}
use Rattle.replica.specs.declared.Replica.{Replica}
use Rattle.replica.specs.Replica.{zero_record, tidy_replica}
use Rattle.replica.specs.ReplicaLaws.{tidy_replica_same, same_replica_tidy}
use Rattle.replica.specs.Change.{with_hw, with_end, with_request, truncate_to, truncate_under, become_follower_and_truncate_to}
use Rattle.cluster.specs.declared.State.{State}
use Rattle.cluster.specs.State.{replica_count_of, log_size_of, next_leader_epoch_of, request_at}
use Rattle.cluster.specs.Predicates.{Rules}
use Rattle.logic.specs.Lists.{each_set, more_tidy}
use Rattle.actions.specs.Tidy.{tidy_replica_iff}
use Rattle.actions.specs.Records.{From}
use Rattle.actions.specs.Put.{RequestFits, LogFits, Fits}

module _ (s : State) (r : Rules s) (a : ℕ) where
  -- the epoch, leader and ISR of a request that was sent
  pub request_fits : (e : ℕ) → e < next_leader_epoch_of s → RequestFits s a (pos e) (request_at s e).leader (request_at s e).isr
  request_fits e l =
      record {
        named = r.s2.requests e l;
        matches =
            record {
              none = λ q. absurd (pos_negsuc e 0 q);
              used = λ k q. rw (← (pos_injective e k q)) (l, refl);
              low = λ k q. absurd (pos_negsuc e k q);
            };
        own = r.s4.requests e l a;
      }

  -- another ISR with a in it, where a leads itself
  pub isr_fits : (epoch : ℤ) (leader : Leader) (old isr : ℕ) → leader ≡ Some a → isr < 2 ^ replica_count_of s.limits → member isr a ≡ true
      → RequestFits s a epoch leader old → RequestFits s a epoch leader isr
  isr_fits epoch leader old isr led within own f =
      record {
        named = record { below = f.named.below; within = within };
        matches =
            record {
              none = λ q. absurd (none_some a (sym (f.matches.none q).0 ∙ led));
              used = f.matches.used;
              low = f.matches.low;
            };
        own = λ q. own;
      }

  module _ (next_id : ℕ) where
    -- a record added at the end
    pub append_fits : (end : ℕ) (log : List Record) (w : Record) → end < log_size_of s.limits → From s a next_id (next_leader_epoch_of s) w end
        → LogFits s a next_id end log → LogFits s a next_id (end + 1) (set log end w)
    append_fits end log w h from f =
        record {
          room = omega (arith, h);
          tidy = more_tidy (λ v. v) zero_record zero_record 16 end log w refl f.tidy;
          records = λ x l.
              each_set (λ v y. From s a next_id (next_leader_epoch_of s) v y) log end w zero_record from x
              (omega (arith, h, f.tidy.room, r.s1.ranges.log)) (λ q. f.records x (omega arith));
        }

    -- a log with an end that is at most its own
    end_fits : (p : Replica) (end : ℕ) → end ≤ p.end → LogFits s a next_id p.end p.log
        → LogFits s a next_id end (tidy_replica (with_end p end)).log
    unfolding with_end tidy_replica
    end_fits p end h f =
        let cut = tidy_replica (with_end p end) in
        let same = tidy_replica_same (with_end p end) in
        record {
          room = omega (arith, f.room);
          tidy = (tidy_replica_iff cut).0 (same_replica_tidy cut (with_end p end) same);
          records = λ x l. rw (same.log x (omega (arith, f.room, r.s1.ranges.log)) l) (f.records x (omega arith));
        }

    -- a request taken as follower, whatever offset the log is cut to
    pub follower_fits : (p : Replica) (epoch : ℤ) (leader : Leader) (isr offset : ℕ) → RequestFits s a epoch leader isr
        → Fits s a next_id p → Fits s a next_id (become_follower_and_truncate_to p epoch leader isr offset)
    unfolding become_follower_and_truncate_to truncate_under truncate_to with_request with_hw with_end tidy_replica
    follower_fits p epoch None isr offset q f = record { request = q; log = f.log; hw = omega (arith, f.hw) }
    follower_fits p epoch (Some b) isr offset q f =
        record { request = q; log = end_fits p (min offset p.end) (omega arith) f.log; hw = omega (arith, f.hw) }
