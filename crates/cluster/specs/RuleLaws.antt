-- What the tests of the rules say, case by case. Assumes nothing.
--
--   Ranges c, ranges_of                   the ranges of R, L, M and X, and that the test says so
--   Sizes c next_epoch next_id, sizes_of  what S1 says, and that the test says so
--   bounded_of                            where S1 holds, the counts are within the arrays
--   end_in_range, logs_bounded_of         where S2 holds too, so are the ends of logs
--   quorum_start, quorum_later            S3 at the start, and after a request
--   matches_none .. matches_other         S5 with no epoch, at an epoch used, and at any other
--   unrefused_iff .. broken_refusal       the refusal of a state is 0 exactly where it meets the rules
--   only_seventh                          where some rule is broken and S1 to S6 hold, it is that of S7
--   state_listed .. broken_listed_iff     it is one of state_numbers exactly where the state breaks a rule, else 0
--   broken_first                          it is the number of a rule exactly where that rule is the first that the state breaks
--   rules_bounded, rules_logs_bounded     counts and ends of a state that meets the rules are within the arrays
use Prim.Native.Nat.{ℕ, zero, suc, ◌+◌, ◌-◌, ◌≤◌, ◌<◌}
use Rattle.std.proofs.Math.Path.{ap, refl}
use Rattle.std.specs.Prelude.{◌≡◌, Bool, true, false, ◌&&◌, List, [], ◌∷◌, ◌↔◌, eqb, leb, ℤ, pos, negsuc, drop, length, get_or, None}
use Rattle.std.proofs.Common.{sym, ◌∙◌, leb-true}
use native.Mathlib.Omega.{arith}
use Rattle.std.proofs.Math.Dec.{eqb-suc-zero}
use Rattle.logic.specs.Refuse.{listed, listed_other, listed_not, distinct, FailsFirst, refuse_unless, unless_here, unless_later, unless_listed, unless_zero, unless_first}
use Rattle.logic.specs.Tests.{all_at, every_at, and_left, and_right, true_false, refuted_iff}
use Rattle.parts.specs.Refusal.{accepted, breaks_s7}
use Rattle.parts.specs.Isr.{full_isr}
use Rattle.parts.specs.Epoch.{no_epoch, same_epoch, epoch_used, request_place}
use Rattle.parts.specs.Leader.{Leader, same_leader}
use Rattle.replica.specs.declared.Replica.{Replica}
use Rattle.cluster.specs.declared.Limits.{Limits}
use Rattle.cluster.specs.declared.Quorum.{Quorum}
use Rattle.cluster.specs.declared.Request.{Request}
use Rattle.cluster.specs.declared.State.{State}
use Rattle.cluster.specs.State.{replica_count_of, log_size_of, max_records_of, max_leader_epoch_of, next_leader_epoch_of, next_record_id_of, request_in, replica_in}
use Rattle.cluster.specs.Rules.{between, limit_tests, in_range, rule1_tests, rule1, replica_in_range, replica_in_range_at, leader_and_isr_in_range, rule2_tests, rule2, quorum_matches_request, replica_matches_request, rule7, rule_tests, rules, state_refusal, state_numbers, Bounded, LogsBounded}

-- ---- S1
between_low : (low high n : ℕ) → between low high n ≡ true → low ≤ n
unfolding between
between_low low high n h = leb-true low n (and_left (leb low n) (leb n high) h)

between_high : (low high n : ℕ) → between low high n ≡ true → n ≤ high
unfolding between
between_high low high n h = leb-true n high (and_right (leb low n) (leb n high) h)

-- the ranges of a configuration
pub record Ranges (c : Limits) : Type 0 where
  pub replicas_low : 1 ≤ replica_count_of c
  pub replicas : replica_count_of c ≤ 5
  pub log_low : 1 ≤ log_size_of c
  pub log : log_size_of c ≤ 16
  pub records_low : 1 ≤ max_records_of c
  pub records : max_records_of c ≤ 64
  pub epochs : max_leader_epoch_of c ≤ 15

pub ranges_of : (c : Limits) → in_range c ≡ true → Ranges c
unfolding in_range
ranges_of c h =
    let p = every_at (limit_tests c) h in
    record {
      replicas_low = between_low 1 5 (replica_count_of c) (p 0);
      replicas = between_high 1 5 (replica_count_of c) (p 0);
      log_low = between_low 1 16 (log_size_of c) (p 1);
      log = between_high 1 16 (log_size_of c) (p 1);
      records_low = between_low 1 64 (max_records_of c) (p 2);
      records = between_high 1 64 (max_records_of c) (p 2);
      epochs = leb-true (max_leader_epoch_of c) 15 (p 3);
    }

-- what S1 says
pub record Sizes (c : Limits) (next_epoch next_id : ℕ) : Type 0 where
  pub ranges : Ranges c
  pub epochs : next_epoch ≤ max_leader_epoch_of c + 1
  pub ids : next_id ≤ max_records_of c

pub sizes_of : (c : Limits) (next_epoch next_id : ℕ) → rule1 c next_epoch next_id ≡ true → Sizes c next_epoch next_id
unfolding rule1
sizes_of c next_epoch next_id h =
    let p = every_at (rule1_tests c next_epoch next_id) h in
    record {
      ranges = ranges_of c (p 0);
      epochs = leb-true next_epoch (max_leader_epoch_of c + 1) (p 1);
      ids = leb-true next_id (max_records_of c) (p 2);
    }

pub bounded_of : (s : State) → rule1 s.limits (next_leader_epoch_of s) (next_record_id_of s) ≡ true → Bounded s
bounded_of s h =
    let z = sizes_of s.limits (next_leader_epoch_of s) (next_record_id_of s) h in
    record { replicas = z.ranges.replicas; requests = omega (arith, z.epochs, z.ranges.epochs) }

-- ---- S2
pub end_in_range : (c : Limits) (p : Replica) → replica_in_range c p ≡ true → p.end ≤ log_size_of c
unfolding replica_in_range
end_in_range c p h = leb-true p.end (log_size_of c) (and_left (leb p.end (log_size_of c)) (leader_and_isr_in_range (replica_count_of c) p.leader p.isr) h)

pub logs_bounded_of : (s : State)
    → rule1 s.limits (next_leader_epoch_of s) (next_record_id_of s) ≡ true
    → rule2 s.limits (next_leader_epoch_of s) s.quorum s.requests s.replicas ≡ true → LogsBounded s
unfolding rule2
logs_bounded_of s h k i l =
    let z = sizes_of s.limits (next_leader_epoch_of s) (next_record_id_of s) h in
    let p = every_at (rule2_tests s.limits (next_leader_epoch_of s) s.quorum s.requests s.replicas) k 2 in
    let e = end_in_range s.limits (replica_in s.replicas i) (all_at _ (replica_in_range_at s.limits s.replicas) p i l) in
    omega (arith, e, z.ranges.log)

-- ---- S3: at the start, and after a request
module _ (n : ℕ) (q : Quorum) (requests : List Request) where
  pub quorum_start : (next : ℕ) → next ≡ 0 → same_leader q.leader None && eqb q.isr (full_isr n) ≡ quorum_matches_request n q requests next
  unfolding quorum_matches_request
  quorum_start next h = rw h

  pub quorum_later : (next : ℕ) → (next ≡ 0 → ⊥) → same_leader q.leader (request_in requests (next - 1)).leader ≡ quorum_matches_request n q requests next
  unfolding quorum_matches_request
  quorum_later zero h = absurd (h refl)
  quorum_later (suc last) h = let e : suc last - 1 ≡ last = omega arith in rw e

-- ---- S5: with no epoch, at an epoch used, and at any other
module _ (next : ℕ) (requests : List Request) (leader : Leader) (isr : ℕ) where
  pub matches_none : (z : ℤ) → same_epoch z no_epoch ≡ true
      → same_leader leader None && eqb isr 0 ≡ replica_matches_request next requests z leader isr
  unfolding same_epoch replica_matches_request
  matches_none (pos e) h = absurd (true_false (sym h))
  matches_none (negsuc zero) h = refl
  matches_none (negsuc (suc k)) h = absurd (true_false (sym h ∙ eqb-suc-zero k))

  pub matches_used : (z : ℤ) → epoch_used next z ≡ true
      → same_leader leader (request_in requests (request_place z)).leader ≡ replica_matches_request next requests z leader isr
  unfolding epoch_used request_place replica_matches_request
  matches_used (pos e) h = ap (λ b. b && same_leader leader (request_in requests e).leader) (sym h)
  matches_used (negsuc k) h = absurd (true_false (sym h))

  pub matches_other : (z : ℤ) → same_epoch z no_epoch ≡ false → epoch_used next z ≡ false → false ≡ replica_matches_request next requests z leader isr
  unfolding same_epoch epoch_used replica_matches_request
  matches_other (pos e) h k = ap (λ b. b && same_leader leader (request_in requests e).leader) (sym k)
  matches_other (negsuc zero) h k = absurd (true_false h)
  matches_other (negsuc (suc n)) h k = refl

-- ---- the seven together
-- a state is refused exactly where it does not meet the rules
pub unrefused_iff : (s : State) → state_refusal s ≡ accepted ↔ rules s ≡ true
unfolding state_refusal rules listed
unrefused_iff s = unless_zero state_numbers (rule_tests s) refl refl

pub refusal_met : (s : State) → state_refusal s ≡ accepted → rules s ≡ true
refusal_met s = (unrefused_iff s).0

pub met_refusal : (s : State) → rules s ≡ true → state_refusal s ≡ accepted
met_refusal s = (unrefused_iff s).1

pub refusal_broken : (s : State) → (state_refusal s ≡ accepted → ⊥) → rules s ≡ false
refusal_broken s h = (refuted_iff (rules s) (unrefused_iff s)).0 h

pub broken_refusal : (s : State) → rules s ≡ false → state_refusal s ≡ accepted → ⊥
broken_refusal s h = (refuted_iff (rules s) (unrefused_iff s)).1 h

-- where some rule is broken and S1 to S6 hold, it is S7
pub only_seventh : (s : State) → rules s ≡ false → refuse_unless (drop 6 state_numbers) (drop 6 (rule_tests s)) ≡ state_refusal s
    → breaks_s7 ≡ state_refusal s
unfolding refuse_unless
only_seventh s unmet e = go (rule7 (replica_count_of s.limits) s.replicas) refl
  where
    go : (b : Bool) → rule7 (replica_count_of s.limits) s.replicas ≡ b → breaks_s7 ≡ state_refusal s
    go true h = absurd (broken_refusal s unmet (sym (unless_later breaks_s7 [] (rule7 (replica_count_of s.limits) s.replicas) [] h ∙ e)))
    go false h = unless_here breaks_s7 [] (rule7 (replica_count_of s.limits) s.replicas) [] h ∙ e

-- the number of a state is 0 or one of state_numbers
pub state_listed : (s : State) → listed (accepted ∷ state_numbers) (state_refusal s) ≡ true
unfolding state_refusal
state_listed s = unless_listed state_numbers (rule_tests s)

-- and one of the list where it breaks a rule
pub broken_listed : (s : State) → rules s ≡ false → listed state_numbers (state_refusal s) ≡ true
broken_listed s h = listed_other state_numbers accepted (state_refusal s) (state_listed s) (broken_refusal s h)

pub broken_listed_iff : (s : State) → rules s ≡ false ↔ listed state_numbers (state_refusal s) ≡ true
unfolding listed
broken_listed_iff s = (
  broken_listed s,
  (λ l. (refuted_iff (rules s) (unrefused_iff s)).0 (listed_not state_numbers (state_refusal s) accepted l refl)),
)

-- and the number at place k exactly where rule S(k+1) is the first that it breaks
pub broken_first : (s : State) (k : ℕ) → k < length state_numbers → state_refusal s ≡ get_or state_numbers k accepted ↔ FailsFirst (rule_tests s) k
unfolding state_refusal listed distinct
broken_first s k l = unless_first state_numbers (rule_tests s) k refl l refl refl

-- a state that meets the rules is read past the end of no array
pub rules_bounded : (s : State) → rules s ≡ true → Bounded s
unfolding rules
rules_bounded s h = bounded_of s (every_at (rule_tests s) h 0)

pub rules_logs_bounded : (s : State) → rules s ≡ true → LogsBounded s
unfolding rules
rules_logs_bounded s h = logs_bounded_of s (every_at (rule_tests s) h 0) (every_at (rule_tests s) h 1)
