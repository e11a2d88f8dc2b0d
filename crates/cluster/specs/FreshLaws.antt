-- The fresh state of every accepted configuration meets S1 to S7 and is tidy. Assumes nothing.
--
--   fresh-replica                 a replica of the fresh state is the fresh replica
--   tidy_fresh_replica            which is tidy
--   fresh_tidied                  made of a fresh replica in all five places by putting zeros past the count
--   fresh_tidy                    the fresh state is tidy
--   fresh_rules                   where the configuration is in range, it meets S1 to S7
--   zero_tidy                     the all-zero state is tidy
--   fresh_in, fresh_out           the answer: the fresh state of a configuration in range, and 22 with zeros for any other
--   fresh_numbers, fresh_listed   the numbers that it gives beside 0, and that it gives no other
--   fresh_accepted                where the answer is 0, the configuration is in range, and the state is its fresh state
--   fresh_refused_zero            where the answer is not 0, it is 22, and the state is all zeros
--   fresh_answer_tidy             the state that goes with the answer is tidy, for every configuration
--   fresh_answer_rules            where the answer is 0, that state meets S1 to S7
use Rattle.std.specs.Prelude.{ℕ, ◌+◌, ◌<◌, ◌≡◌, Bool, true, false, not, List, [], ◌∷◌, replicate, ltb}
use Rattle.std.proofs.Math.Path.{refl}
use Rattle.std.proofs.Common.{sym, ◌∙◌, ap, arith}
use borrow.Author.Tests.{le-leb, lt-ltb, eq-eqb}
use Rattle.logic.specs.Tests.{all_below, all_by, all_none, every, every_none, every_and, and_both}
use Rattle.logic.specs.Table.{table, table_from, get_d_table, used_cong, cond_true}
use Rattle.logic.specs.Refuse.{refuse_yes, refuse_no, by_refusal, by_accepted, listed}
use Rattle.parts.specs.Refusal.{accepted, bad_configuration}
use Rattle.parts.specs.Isr.{full_isr}
use Rattle.parts.specs.IsrLaws.{none_below, full_below}
use Rattle.parts.specs.Epoch.{same_epoch, last_epoch}
use Rattle.replica.specs.declared.Replica.{Replica}
use Rattle.replica.specs.Replica.{zero_replica, no_replica, tidy_replica}
use Rattle.replica.specs.Log.{log_in_use, logs_agree}
use Rattle.cluster.specs.declared.Limits.{Limits}
use Rattle.cluster.specs.Answer.{Outcome}
use Rattle.cluster.specs.State.{replica_count_of, log_size_of, max_records_of, max_leader_epoch_of, zero_request, replica_at, state_of, with_replicas, tidy_replica_at, tidy, zero_state}
use Rattle.cluster.specs.Rules.{in_range, rule1, leader_and_isr_in_range, replica_in_range, rule2, quorum_matches_request, rule3, rule4, replica_matches_request, replica_meets_s5, rule5, rule6, agrees_with_all, rule7, rules}
use Rattle.cluster.specs.RuleLaws.{Ranges, ranges_of}
use Rattle.cluster.specs.Outcome.{answer, with_zeros}
use Rattle.cluster.specs.Fresh.{fresh_replica, fresh_replica_at, fresh_quorum, fresh_state, limits_refusal, fresh}

-- a replica of the fresh state is fresh
pub fresh-replica : (c : Limits) (i : ℕ) → i < 5 → i < replica_count_of c → replica_at (fresh_state c) i ≡ fresh_replica
unfolding fresh_state
fresh-replica c i h l =
    get_d_table 5 (fresh_replica_at c) i no_replica h ∙ cond_true (ltb i (replica_count_of c)) fresh_replica zero_replica (lt-ltb i (replica_count_of c) l)

pub tidy_fresh_replica : tidy_replica fresh_replica ≡ fresh_replica
unfolding tidy_replica table table_from
tidy_fresh_replica = refl

-- the fresh state is made of a fresh replica in all five places, with zeros put past the count
pub fresh_tidied : (c : Limits)
    → let s = state_of c 0 0 (fresh_quorum c) (replicate 16 zero_request) (replicate 5 fresh_replica) in
    with_replicas s (table 5 (tidy_replica_at s)) ≡ fresh_state c
unfolding fresh_state table table_from tidy_replica
fresh_tidied c = refl

-- the fresh state has zeros in its unused room
pub fresh_tidy : (c : Limits) → tidy (fresh_state c) ≡ fresh_state c
unfolding tidy fresh_state table table_from
fresh_tidy c =
    ap (with_replicas (fresh_state c))
    (used_cong 5 (replica_count_of c) (λ i. tidy_replica (replica_at (fresh_state c) i)) (λ i. fresh_replica) zero_replica
    (λ i h l. ap tidy_replica (fresh-replica c i h l) ∙ tidy_fresh_replica))

module _ (c : Limits) (ok : in_range c ≡ true) where
  ranges : Ranges c
  ranges = ranges_of c ok

  -- what holds of the fresh replica holds of each replica of the fresh state
  each_fresh : (test : Replica → ℕ → Bool) → ((i : ℕ) → test fresh_replica i ≡ true)
      → all_below (replica_count_of c) (λ i. test (replica_at (fresh_state c) i) i) ≡ true
  each_fresh test h =
      all_by (replica_count_of c) (λ i. test (replica_at (fresh_state c) i) i)
      (λ i l. rw (fresh-replica c i (omega (arith, ranges.replicas)) l) (h i))

  fresh1 : rule1 c 0 0 ≡ true
  unfolding rule1
  fresh1 =
      every_and _ _ ok
      (every_and _ _ (le-leb 0 (max_leader_epoch_of c + 1) (omega arith))
      (every_and _ _ (le-leb 0 (max_records_of c) (omega arith)) every_none))

  fresh_replica_in_range : (i : ℕ) → replica_in_range c fresh_replica ≡ true
  unfolding replica_in_range leader_and_isr_in_range
  fresh_replica_in_range i = and_both (le-leb 0 (log_size_of c) (omega arith)) (none_below (replica_count_of c) ranges.replicas)

  fresh2 : rule2 c 0 (fresh_quorum c) (fresh_state c).requests (fresh_state c).replicas ≡ true
  unfolding rule2 leader_and_isr_in_range
  fresh2 =
      every_and _ _ (full_below (replica_count_of c) ranges.replicas)
      (every_and _ _ (all_none _)
      (every_and _ _ (each_fresh (λ p i. replica_in_range c p) fresh_replica_in_range) every_none))

  fresh3 : rule3 (replica_count_of c) 0 (fresh_quorum c) (fresh_state c).requests ≡ true
  unfolding rule3 same_epoch last_epoch quorum_matches_request
  fresh3 = eq-eqb (full_isr (replica_count_of c)) (full_isr (replica_count_of c)) refl

  fresh4 : rule4 0 (fresh_quorum c) (fresh_state c).requests ≡ true
  unfolding rule4 all_below
  fresh4 = refl

  fresh_replica_meets_s5 : (i : ℕ) → replica_meets_s5 0 (fresh_state c).requests fresh_replica i ≡ true
  unfolding replica_meets_s5 replica_matches_request every
  fresh_replica_meets_s5 i = refl

  fresh5 : rule5 (replica_count_of c) 0 (fresh_state c).requests (fresh_state c).replicas ≡ true
  unfolding rule5
  fresh5 = each_fresh (replica_meets_s5 0 (fresh_state c).requests) fresh_replica_meets_s5

  fresh6 : rule6 (replica_count_of c) 0 0 (fresh_state c).replicas ≡ true
  unfolding rule6 log_in_use all_below
  fresh6 = each_fresh (λ p i. log_in_use 0 0 p) (λ i. refl)

  fresh7 : rule7 (replica_count_of c) (fresh_state c).replicas ≡ true
  unfolding rule7 agrees_with_all logs_agree all_below
  fresh7 =
      each_fresh (λ p i. agrees_with_all (replica_count_of c) (fresh_state c).replicas p)
      (λ i. each_fresh (λ q j. logs_agree fresh_replica q) (λ j. refl))

  -- the fresh state meets S1 to S7
  pub fresh_rules : rules (fresh_state c) ≡ true
  unfolding rules fresh_state
  fresh_rules =
      every_and _ _ fresh1
      (every_and _ _ fresh2
      (every_and _ _ fresh3
      (every_and _ _ fresh4
      (every_and _ _ fresh5
      (every_and _ _ fresh6
      (every_and _ _ fresh7 every_none))))))

-- ---- what starting from a configuration answers
pub zero_tidy : tidy zero_state ≡ zero_state
unfolding tidy table table_from tidy_replica
zero_tidy = refl

-- a configuration is refused exactly where it is out of range
limits_refusal_in : (c : Limits) → in_range c ≡ true → limits_refusal c ≡ accepted
unfolding limits_refusal
limits_refusal_in c h = sym (refuse_no _ bad_configuration accepted (ap not h))

limits_refusal_out : (c : Limits) → in_range c ≡ false → limits_refusal c ≡ bad_configuration
unfolding limits_refusal
limits_refusal_out c h = sym (refuse_yes _ bad_configuration accepted (ap not h))

-- the answer: the fresh state of a configuration in range, and 22 with zeros for any other
pub fresh_in : (c : Limits) → in_range c ≡ true → fresh c ≡ answer accepted (fresh_state c)
unfolding fresh
fresh_in c h = sym (by_accepted (limits_refusal c) with_zeros (answer accepted (fresh_state c)) (limits_refusal_in c h))

pub fresh_out : (c : Limits) → in_range c ≡ false → fresh c ≡ with_zeros bad_configuration
unfolding fresh by_refusal
fresh_out c h = ap (λ (n : ℕ). by_refusal n with_zeros (answer accepted (fresh_state c))) (limits_refusal_out c h)

-- so its number is 0 or 22
abbrev pub fresh_numbers : List ℕ
fresh_numbers = bad_configuration ∷ []

pub fresh_listed : (c : Limits) → listed (accepted ∷ fresh_numbers) (fresh c).refusal ≡ true
unfolding listed
fresh_listed c = go (in_range c) refl
  where
    go : (b : Bool) → in_range c ≡ b → listed (accepted ∷ fresh_numbers) (fresh c).refusal ≡ true
    go true h = rw (fresh_in c h) refl
    go false h = rw (fresh_out c h) refl

-- where the answer is 0, the configuration is in range, and the state is its fresh state
pub fresh_accepted : (c : Limits) → (fresh c).refusal ≡ accepted → (in_range c ≡ true) × ((fresh c).state ≡ fresh_state c)
fresh_accepted c ok = go (in_range c) refl
  where
    go : (b : Bool) → in_range c ≡ b → (b ≡ true) × ((fresh c).state ≡ fresh_state c)
    go true h = (refl, ap (λ (o : Outcome). o.state) (fresh_in c h))
    go false h = absurd (let e = sym (ap (λ (o : Outcome). o.refusal) (fresh_out c h)) ∙ ok in omega arith)

-- "a refused .. fresh state (22) gives an all-zero state"
pub fresh_refused_zero : (c : Limits) → ((fresh c).refusal ≡ accepted → ⊥) → fresh c ≡ answer bad_configuration zero_state
fresh_refused_zero c refused = go (in_range c) refl
  where
    go : (b : Bool) → in_range c ≡ b → fresh c ≡ answer bad_configuration zero_state
    go true h = absurd (refused (ap (λ (o : Outcome). o.refusal) (fresh_in c h)))
    go false h = fresh_out c h

-- the state that goes with the answer is tidy, for every configuration
pub fresh_answer_tidy : (c : Limits) → tidy (fresh c).state ≡ (fresh c).state
fresh_answer_tidy c = go (in_range c) refl
  where
    go : (b : Bool) → in_range c ≡ b → tidy (fresh c).state ≡ (fresh c).state
    go true h = rw (fresh_in c h) (fresh_tidy c)
    go false h = rw (fresh_out c h) zero_tidy

-- where the answer is 0, that state meets S1 to S7
pub fresh_answer_rules : (c : Limits) → (fresh c).refusal ≡ accepted → rules (fresh c).state ≡ true
fresh_answer_rules c h = let p = fresh_accepted c h in rw p.1 (fresh_rules c p.0)
