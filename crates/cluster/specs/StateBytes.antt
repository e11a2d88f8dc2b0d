-- The epochs and the leaders of a state that meets the rules fit in a byte each. Assumes nothing.
use Rattle.parts.specs.Leader.{Leader}
use Rattle.std.specs.Prelude.{ℕ, ◌≤◌, ◌<◌, ◌≡◌, refl, true, List, ℤ, pos, negsuc}
use Rattle.std.proofs.Common.{arith}
use Rattle.parts.specs.ByteLaws.{SmallEpoch, SmallLeader}
use Rattle.replica.specs.Replica.{record_at}
use Rattle.replica.specs.ReplicaBytesLaws.{SmallReplica, in_use_small}
use Rattle.cluster.specs.declared.Request.{Request}
use Rattle.cluster.specs.declared.State.{State}
use Rattle.cluster.specs.State.{replica_count_of, next_leader_epoch_of, next_record_id_of, replica_at}
use Rattle.cluster.specs.Rules.{rules}
use Rattle.cluster.specs.RuleLaws.{rules_bounded}
use Rattle.cluster.specs.Predicates.{Named, MatchesRequest, rules_iff}

pub named_small : (n : ℕ) (l : Leader) (isr : ℕ) → n ≤ 5 → Named n l isr → SmallLeader l
named_small n l isr h m b e = omega (arith, m.below b e)

matched_small : (next : ℕ) (requests : List Request) (z : ℤ) (l : Leader) (isr : ℕ) → next ≤ 16 → MatchesRequest next requests z l isr → SmallEpoch z
matched_small next requests (pos e) l isr h m = omega (arith, (m.used e refl).0)
matched_small next requests (negsuc k) l isr h m = omega (arith, m.low k refl)

-- each replica, with its log up to its end
pub replica_small : (s : State) → rules s ≡ true → (i : ℕ) → i < replica_count_of s.limits → SmallReplica (replica_at s i).end (replica_at s i)
replica_small s h i k =
    let r = (rules_iff s).0 h in
    let b = rules_bounded s h in
    record {
      epoch = matched_small (next_leader_epoch_of s) s.requests (replica_at s i).epoch (replica_at s i).leader (replica_at s i).isr b.requests (r.s5 i k).request;
      leader = named_small (replica_count_of s.limits) (replica_at s i).leader (replica_at s i).isr b.replicas (r.s2.replicas i k);
      log = λ x l. in_use_small (next_record_id_of s) (next_leader_epoch_of s) (record_at (replica_at s i) x) b.requests (r.s6 i x (record { replica = k; offset = l }));
    }
