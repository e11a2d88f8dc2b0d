-- The rules look at no unused room: equal states break the same rule first. Assumes nothing.
--
--   state_refusal_same    equal states break the same rule first, and so are refused alike
--   rules_same            both meet the rules, or neither
--   state_refusal_tidy    a state and its tidy form break the same rule first
--   rules_tidy            both meet the rules, or neither
use Prim.Native.Nat.{ℕ, zero, suc, ◌≤◌, ◌<◌}
use Rattle.std.specs.Prelude.{◌≡◌, true, ◌||◌, List, ℤ, pos, negsuc, drop}
use Rattle.std.proofs.Math.Path.{refl, ap, ap₂}
use Rattle.std.proofs.Common.{sym, ◌∙◌, arith, le-ltb}
use Rattle.std.proofs.Math.Bool.{not, ◌&&◌}
use Rattle.std.proofs.Math.Decide.{dec_lt}
use Rattle.std.proofs.Math.Dec.{ltb, leb}
use Rattle.logic.specs.Refuse.{refuse_unless, unless_cong}
use Rattle.logic.specs.Tests.{all_below, all_cong, every_cong, bool_ext}
use Rattle.parts.specs.Isr.{member}
use Rattle.parts.specs.Leader.{Leader, names, same_leader, leader_none_or_in_isr}
use Rattle.replica.specs.declared.Record.{Record}
use Rattle.replica.specs.declared.Replica.{Replica}
use Rattle.replica.specs.Replica.{record_at, SameReplica}
use Rattle.replica.specs.Log.{record_in_use, record_in_use_at, log_in_use, records_agree, record_agrees_at, record_agrees, log_agrees_at, logs_agree}
use Rattle.cluster.specs.declared.Limits.{Limits}
use Rattle.cluster.specs.declared.Quorum.{Quorum}
use Rattle.cluster.specs.declared.Request.{Request}
use Rattle.cluster.specs.declared.State.{State}
use Rattle.cluster.specs.State.{replica_count_of, log_size_of, next_leader_epoch_of, next_record_id_of, request_in, replica_in, state_of, Same, tidy}
use Rattle.parts.specs.Refusal.{breaks_s1, breaks_s2, breaks_s3, breaks_s4, breaks_s5, breaks_s6, breaks_s7}
use Rattle.cluster.specs.Rules.{leader_and_isr_in_range, replica_in_range, replica_in_range_at, request_in_range_at, rule1, rule2, quorum_matches_request, rule3, request_leader_in_isr, rule4, replica_matches_request, replica_meets_s5, replica_meets_s5_at, rule5, log_in_use_at, rule6, agrees_with_at, agrees_with_all, agrees_at, rule7, rule_tests, rules, state_refusal, state_numbers}
use Rattle.cluster.specs.RuleLaws.{bounded_of, logs_bounded_of, refusal_met, met_refusal}
use Rattle.cluster.specs.Equality.{state_path, tidy_same}

-- ---- logs of equal replicas
module _ (p q : Replica) (m : SameReplica p q) (h : p.end ≤ 16) where
  same-record : (x : ℕ) → x < p.end → record_at p x ≡ record_at q x
  same-record x l = m.log x (omega arith) l

  log_in_use_same : (next_id next_epoch : ℕ) → log_in_use next_id next_epoch p ≡ log_in_use next_id next_epoch q
  unfolding log_in_use
  log_in_use_same next_id next_epoch =
      all_cong p.end (record_in_use_at next_id next_epoch p) (record_in_use_at next_id next_epoch q) (λ x l. ap (record_in_use next_id next_epoch) (same-record x l))
      ∙ ap (λ (n : ℕ). all_below n (record_in_use_at next_id next_epoch q)) m.end

  record_agrees_same : (r : Record) (x : ℕ) → record_agrees r x p ≡ record_agrees r x q
  unfolding record_agrees
  record_agrees_same r x =
      all_cong p.end (record_agrees_at r x p) (record_agrees_at r x q) (λ y l. ap (λ (v : Record). records_agree r x v y) (same-record y l))
      ∙ ap (λ (n : ℕ). all_below n (record_agrees_at r x q)) m.end

  log_agrees_same : (u : Replica) → logs_agree p u ≡ logs_agree q u
  unfolding logs_agree
  log_agrees_same u =
      all_cong p.end (log_agrees_at p u) (log_agrees_at q u) (λ x l. ap (λ (v : Record). record_agrees v x u) (same-record x l))
      ∙ ap (λ (n : ℕ). all_below n (log_agrees_at q u)) m.end

  agrees_log_same : (u : Replica) → logs_agree u p ≡ logs_agree u q
  unfolding logs_agree
  agrees_log_same u = all_cong u.end (log_agrees_at u p) (log_agrees_at u q) (λ x l. record_agrees_same (record_at u x) x)

-- ---- each rule, of requests and replicas that are equal where they are in use
module _ (c : Limits) (next : ℕ) (quorum : Quorum) (rs us : List Request) (ps qs : List Replica)
    (requests : (e : ℕ) → e < next → request_in rs e ≡ request_in us e)
    (replicas : (i : ℕ) → i < replica_count_of c → SameReplica (replica_in ps i) (replica_in qs i)) where
  rule2_same : rule2 c next quorum rs ps ≡ rule2 c next quorum us qs
  unfolding rule2 replica_in_range
  rule2_same =
      every_cong _ _ _ _ refl
      (every_cong _ _ _ _
      (all_cong next (request_in_range_at (replica_count_of c) rs) (request_in_range_at (replica_count_of c) us) (λ e l. ap (λ (q : Request). leader_and_isr_in_range (replica_count_of c) q.leader q.isr) (requests e l)))
      (every_cong _ _ _ _
      (all_cong (replica_count_of c) (replica_in_range_at c ps) (replica_in_range_at c qs)
      (λ i l.
      let m = replicas i l in
      ap₂ ◌&&◌ (ap (λ (n : ℕ). leb n (log_size_of c)) m.end) (ap₂ (λ (v : Leader) (n : ℕ). leader_and_isr_in_range (replica_count_of c) v n) m.leader m.isr)))
      refl))

  matches_last : (n : ℕ) → n ≤ next → quorum_matches_request (replica_count_of c) quorum rs n ≡ quorum_matches_request (replica_count_of c) quorum us n
  unfolding quorum_matches_request
  matches_last zero h = refl
  matches_last (suc last) h = ap (λ (q : Request). same_leader quorum.leader q.leader) (requests last (omega arith))

  rule3_same : rule3 (replica_count_of c) next quorum rs ≡ rule3 (replica_count_of c) next quorum us
  unfolding rule3
  rule3_same = rw (matches_last next (omega arith))

  rule4_same : rule4 next quorum rs ≡ rule4 next quorum us
  unfolding rule4
  rule4_same =
      ap (λ b. leader_none_or_in_isr quorum.isr quorum.leader && b)
      (all_cong next (request_leader_in_isr rs) (request_leader_in_isr us) (λ e l. ap (λ (q : Request). leader_none_or_in_isr q.isr q.leader) (requests e l)))

  matches_same : (z : ℤ) (l : Leader) (isr : ℕ) → replica_matches_request next rs z l isr ≡ replica_matches_request next us z l isr
  unfolding replica_matches_request
  matches_same (pos e) l isr =
      elim (dec_lt e next) [
        | yes h ↦ ap (λ (q : Request). ltb e next && same_leader l q.leader) (requests e h)
        | no h ↦ rw (le-ltb e next (omega arith))
      ]
  matches_same (negsuc zero) l isr = refl
  matches_same (negsuc (suc k)) l isr = refl

  meets_s5_same : (p q : Replica) (i : ℕ) → SameReplica p q → replica_meets_s5 next rs p i ≡ replica_meets_s5 next us q i
  unfolding replica_meets_s5
  meets_s5_same p q i m =
      every_cong _ _ _ _
      (matches_same p.epoch p.leader p.isr
      ∙ ap (λ (z : ℤ). replica_matches_request next us z p.leader p.isr) m.epoch
      ∙ ap₂ (λ (v : Leader) (n : ℕ). replica_matches_request next us q.epoch v n) m.leader m.isr)
      (every_cong _ _ _ _ (ap₂ (λ (v : Leader) (n : ℕ). not (names v i) || member n i) m.leader m.isr)
      (every_cong _ _ _ _ (ap₂ leb m.hw m.end) refl))

  rule5_same : rule5 (replica_count_of c) next rs ps ≡ rule5 (replica_count_of c) next us qs
  unfolding rule5
  rule5_same =
      all_cong (replica_count_of c) (replica_meets_s5_at next rs ps) (replica_meets_s5_at next us qs) (λ i l. meets_s5_same (replica_in ps i) (replica_in qs i) i (replicas i l))

  module _ (ends : (i : ℕ) → i < replica_count_of c → (replica_in ps i).end ≤ 16) where
    rule6_same : (next_id : ℕ) → rule6 (replica_count_of c) next_id next ps ≡ rule6 (replica_count_of c) next_id next qs
    unfolding rule6
    rule6_same next_id =
        all_cong (replica_count_of c) (log_in_use_at next_id next ps) (log_in_use_at next_id next qs)
        (λ i l. log_in_use_same (replica_in ps i) (replica_in qs i) (replicas i l) (ends i l) next_id next)

    rule7_same : rule7 (replica_count_of c) ps ≡ rule7 (replica_count_of c) qs
    unfolding rule7 agrees_with_all
    rule7_same =
        all_cong (replica_count_of c) (agrees_at (replica_count_of c) ps) (agrees_at (replica_count_of c) qs)
        (λ i l.
        all_cong (replica_count_of c) (agrees_with_at ps (replica_in ps i)) (agrees_with_at qs (replica_in qs i))
        (λ j k.
        log_agrees_same (replica_in ps i) (replica_in qs i) (replicas i l) (ends i l) (replica_in ps j)
        ∙ agrees_log_same (replica_in ps j) (replica_in qs j) (replicas j k) (ends j k) (replica_in qs i)))

  -- the first test from S2 on that fails is the same, where S2 bounds the ends of logs
  tests_from_s2_same : (next_id : ℕ) → (rule2 c next quorum rs ps ≡ true → (i : ℕ) → i < replica_count_of c → (replica_in ps i).end ≤ 16)
      → refuse_unless (drop 1 state_numbers) (drop 1 (rule_tests (state_of c next next_id quorum rs ps)))
      ≡ refuse_unless (drop 1 state_numbers) (drop 1 (rule_tests (state_of c next next_id quorum us qs)))
  tests_from_s2_same next_id ends =
      unless_cong breaks_s2 _ _ _ _ _ rule2_same
      (λ two.
      unless_cong breaks_s3 _ _ _ _ _ rule3_same
      (λ three.
      unless_cong breaks_s4 _ _ _ _ _ rule4_same
      (λ four.
      unless_cong breaks_s5 _ _ _ _ _ rule5_same
      (λ five. unless_cong breaks_s6 _ _ _ _ _ (rule6_same (ends two) next_id) (λ six. unless_cong breaks_s7 _ _ _ _ _ (rule7_same (ends two)) (λ seven. refl))))))

-- ---- the seven together
module _ (s t : State) (m : Same s t) where
  -- t with the limits, the counts and the quorum of s, which are its own
  second : State
  second = state_of s.limits (next_leader_epoch_of s) (next_record_id_of s) s.quorum t.requests t.replicas

  second_is : second ≡ t
  unfolding second
  second_is = state_path m.limits m.next_epoch m.next_id m.quorum refl refl

  -- where S1 holds, what is in use is in the arrays, so the first test from S2 on that fails is the same
  later_tests_same : rule1 s.limits (next_leader_epoch_of s) (next_record_id_of s) ≡ true
      → refuse_unless (drop 1 state_numbers) (drop 1 (rule_tests s)) ≡ refuse_unless (drop 1 state_numbers) (drop 1 (rule_tests second))
  unfolding second
  later_tests_same one =
      let b = bounded_of s one in
      tests_from_s2_same s.limits (next_leader_epoch_of s) s.quorum s.requests t.requests s.replicas t.replicas
      (λ e l. m.requests e (omega (arith, b.requests)) l)
      (λ i l. m.replicas i (omega (arith, b.replicas)) l)
      (next_record_id_of s) (logs_bounded_of s one)

  -- equal states break the same rule first, and so are refused alike
  pub state_refusal_same : state_refusal s ≡ state_refusal t
  unfolding state_refusal second
  state_refusal_same = unless_cong breaks_s1 _ _ _ _ _ refl later_tests_same ∙ ap state_refusal second_is

  -- and meet the rules alike
  pub rules_same : rules s ≡ rules t
  rules_same =
      bool_ext (rules s) (rules t)
      (λ h. refusal_met t (sym state_refusal_same ∙ met_refusal s h))
      (λ h. refusal_met s (state_refusal_same ∙ met_refusal t h))

-- so a state and its tidy form break the same rule first, and meet the rules alike
pub state_refusal_tidy : (s : State) → state_refusal (tidy s) ≡ state_refusal s
state_refusal_tidy s = state_refusal_same (tidy s) s (tidy_same s)

pub rules_tidy : (s : State) → rules (tidy s) ≡ rules s
rules_tidy s = rules_same (tidy s) s (tidy_same s)
