-- The rules S1 to S7 as predicates, and that the tests decide them. Assumes nothing.
--
--   S1 s .. S7 s                                    the state meets that rule
--   Named n leader isr                              the leader is none or below n, and the ISR within n replicas
--   MatchesRequest next requests epoch leader isr   the first two sentences of S5, as a predicate
--   MeetsS5 next requests p i                       S5 of the replica p named i
--   Has s i x                                       i is a replica, and its log has offset x
--   Rules s                                         the state meets S1 to S7
--   rule1_iff .. rule7_iff                          the test of a rule holds exactly where the predicate does
--   rules_iff                                       the same of the seven together
use Rattle.std.specs.Prelude.{ℕ, zero, suc, ◌+◌, ◌^◌, ◌≤◌, ◌<◌, ◌≡◌, refl, Bool, true, List, ◌↔◌, eqb, ltb, leb, ℤ, pos, negsuc, None, Some}
use Rattle.std.proofs.Common.{sym, ◌∙◌, ap, arith, leb-true, le-leb, ltb-true, lt-ltb, eqb-true, eq-eqb}
use Rattle.logic.specs.Tests.{all_below, all_at, all_by, every_at, every_none, every_and, and_left, and_right, and_both, implied, implies, true_false}
use Rattle.parts.specs.Isr.{member, full_isr, isr_below}
use Rattle.parts.specs.Epoch.{no_epoch, same_epoch, last_epoch}
use Rattle.parts.specs.EpochLaws.{pos_injective, negsuc_injective, pos_negsuc, same_epoch_true, same_epoch_by}
use Rattle.parts.specs.Leader.{Leader, names, same_leader, leader_below, leader_none_or_in_isr}
use Rattle.parts.specs.LeaderLaws.{names_iff, same_leader_iff, leader_below_iff, leader_none_or_in_isr_iff, isr_below_iff}
use Rattle.replica.specs.declared.Replica.{Replica}
use Rattle.replica.specs.Replica.{record_at}
use Rattle.replica.specs.LogLaws.{InUse, Agree, log_in_use_iff, logs_agree_iff}
use Rattle.cluster.specs.declared.Limits.{Limits}
use Rattle.cluster.specs.declared.Quorum.{Quorum}
use Rattle.cluster.specs.declared.Request.{Request}
use Rattle.cluster.specs.declared.State.{State}
use Rattle.cluster.specs.State.{replica_count_of, log_size_of, max_records_of, max_leader_epoch_of, next_leader_epoch_of, next_record_id_of, request_in, request_at, replica_at}
use Rattle.cluster.specs.Rules.{between, in_range, rule1, leader_and_isr_in_range, replica_in_range, replica_in_range_at, request_in_range_at, rule2_tests, rule2, quorum_matches_request, rule3, request_leader_in_isr, rule4, replica_matches_request, replica_meets_s5_tests, replica_meets_s5, replica_meets_s5_at, rule5, log_in_use_at, rule6, agrees_with_at, agrees_with_all, agrees_at, rule7, rule_tests, rules}
use Rattle.cluster.specs.RuleLaws.{Ranges, Sizes, sizes_of}

-- ---- the predicates
-- S1: "R, L, M, X in range; next epoch at most X+1; next id at most M."
abbrev pub S1 : State → Type 0
S1 s = Sizes s.limits (next_leader_epoch_of s) (next_record_id_of s)

-- the leader is none or below n, and the ISR within n replicas
pub record Named (n : ℕ) (leader : Leader) (isr : ℕ) : Type 0 where
  pub below : (b : ℕ) → leader ≡ Some b → b < n
  pub within : isr < 2 ^ n

-- S2: "every end at most L; every leader none or below R; every ISR within the replicas."
pub record S2 (s : State) : Type 0 where
  pub quorum : Named (replica_count_of s.limits) s.quorum.leader s.quorum.isr
  pub requests : (e : ℕ) → e < next_leader_epoch_of s → Named (replica_count_of s.limits) (request_at s e).leader (request_at s e).isr
  pub replicas : (i : ℕ) → i < replica_count_of s.limits → Named (replica_count_of s.limits) (replica_at s i).leader (replica_at s i).isr
  pub ends : (i : ℕ) → i < replica_count_of s.limits → (replica_at s i).end ≤ log_size_of s.limits

-- S3: "quorum epoch is next epoch minus 1. At -1 there is no leader and the ISR is full; otherwise the quorum leader is
-- that of the last request."
pub record S3 (s : State) : Type 0 where
  pub epoch : s.quorum.epoch ≡ last_epoch (next_leader_epoch_of s)
  pub start : next_leader_epoch_of s ≡ 0 → (s.quorum.leader ≡ None) × (s.quorum.isr ≡ full_isr (replica_count_of s.limits))
  pub later : (last : ℕ) → next_leader_epoch_of s ≡ suc last → s.quorum.leader ≡ (request_at s last).leader

-- S4: "in the quorum and in each request, the leader is none or in the ISR there."
pub record S4 (s : State) : Type 0 where
  pub quorum : (b : ℕ) → s.quorum.leader ≡ Some b → member s.quorum.isr b ≡ true
  pub requests : (e : ℕ) → e < next_leader_epoch_of s → (b : ℕ) → (request_at s e).leader ≡ Some b → member (request_at s e).isr b ≡ true

-- S5 of one replica: "a replica's epoch is from -1 to next epoch minus 1. At -1 it has no leader and an empty ISR;
-- otherwise its leader is that of its epoch's request."
pub record MatchesRequest (next_epoch : ℕ) (requests : List Request) (epoch : ℤ) (leader : Leader) (isr : ℕ) : Type 0 where
  pub none : epoch ≡ no_epoch → (leader ≡ None) × (isr ≡ 0)
  pub used : (e : ℕ) → epoch ≡ pos e → (e < next_epoch) × (leader ≡ (request_in requests e).leader)
  pub low : (k : ℕ) → epoch ≡ negsuc k → k ≡ 0

-- S5 of one replica: that, and "A replica that is its own leader is in its own ISR. hw is at most its end."
pub record MeetsS5 (next_epoch : ℕ) (requests : List Request) (p : Replica) (i : ℕ) : Type 0 where
  pub request : MatchesRequest next_epoch requests p.epoch p.leader p.isr
  pub own : p.leader ≡ Some i → member p.isr i ≡ true
  pub hw : p.hw ≤ p.end

-- S5 of every replica
abbrev pub S5 : State → Type 0
S5 s = (i : ℕ) → i < replica_count_of s.limits → MeetsS5 (next_leader_epoch_of s) s.requests (replica_at s i) i

-- i is a replica, and its log has offset x
pub record Has (s : State) (i x : ℕ) : Type 0 where
  pub replica : i < replica_count_of s.limits
  pub offset : x < (replica_at s i).end

-- S6: "each record's id is below next id, its epoch from 0 to next epoch minus 1."
abbrev pub S6 : State → Type 0
S6 s = (i x : ℕ) → Has s i x → InUse (next_record_id_of s) (next_leader_epoch_of s) (record_at (replica_at s i) x)

-- S7: "records with one id, in one log or two, stand at one offset and carry one epoch."
abbrev pub S7 : State → Type 0
S7 s = (i x j y : ℕ) → Has s i x → Has s j y → (record_at (replica_at s i) x).id ≡ (record_at (replica_at s j) y).id
    → Agree (record_at (replica_at s i) x) x (record_at (replica_at s j) y) y

-- the state meets S1 to S7
pub record Rules (s : State) : Type 0 where
  pub s1 : S1 s
  pub s2 : S2 s
  pub s3 : S3 s
  pub s4 : S4 s
  pub s5 : S5 s
  pub s6 : S6 s
  pub s7 : S7 s

-- ---- S1
between_by : (low high n : ℕ) → low ≤ n → n ≤ high → between low high n ≡ true
unfolding between
between_by low high n a b = and_both (le-leb low n a) (le-leb n high b)

in_range_by : (c : Limits) → Ranges c → in_range c ≡ true
unfolding in_range
in_range_by c r =
    every_and _ _ (between_by 1 5 (replica_count_of c) r.replicas_low r.replicas)
    (every_and _ _ (between_by 1 16 (log_size_of c) r.log_low r.log)
    (every_and _ _ (between_by 1 64 (max_records_of c) r.records_low r.records)
    (every_and _ _ (le-leb (max_leader_epoch_of c) 15 r.epochs) every_none)))

rule1_by : (c : Limits) (next_epoch next_id : ℕ) → Sizes c next_epoch next_id → rule1 c next_epoch next_id ≡ true
unfolding rule1
rule1_by c next_epoch next_id z =
    every_and _ _ (in_range_by c z.ranges)
    (every_and _ _ (le-leb next_epoch (max_leader_epoch_of c + 1) z.epochs)
    (every_and _ _ (le-leb next_id (max_records_of c) z.ids) every_none))

pub rule1_iff : (s : State) → rule1 s.limits (next_leader_epoch_of s) (next_record_id_of s) ≡ true ↔ S1 s
rule1_iff s = (
  sizes_of s.limits (next_leader_epoch_of s) (next_record_id_of s),
  rule1_by s.limits (next_leader_epoch_of s) (next_record_id_of s),
)

-- ---- S2
named_iff : (n : ℕ) (leader : Leader) (isr : ℕ) → leader_and_isr_in_range n leader isr ≡ true ↔ Named n leader isr
unfolding leader_and_isr_in_range
named_iff n leader isr = (
  (λ h. record {
    below = (leader_below_iff n leader).0 (and_left (leader_below n leader) (isr_below n isr) h);
    within = (isr_below_iff n isr).0 (and_right (leader_below n leader) (isr_below n isr) h);
  }),
  (λ m. and_both ((leader_below_iff n leader).1 m.below) ((isr_below_iff n isr).1 m.within)),
)

replica_iff : (c : Limits) (p : Replica) → replica_in_range c p ≡ true ↔ (p.end ≤ log_size_of c) × Named (replica_count_of c) p.leader p.isr
unfolding replica_in_range
replica_iff c p = (
  (λ h. (
    leb-true p.end (log_size_of c) (and_left (leb p.end (log_size_of c)) (leader_and_isr_in_range (replica_count_of c) p.leader p.isr) h),
    (named_iff (replica_count_of c) p.leader p.isr).0 (and_right (leb p.end (log_size_of c)) (leader_and_isr_in_range (replica_count_of c) p.leader p.isr) h),
  )),
  (λ m. and_both (le-leb p.end (log_size_of c) m.0) ((named_iff (replica_count_of c) p.leader p.isr).1 m.1)),
)

pub rule2_iff : (s : State) → rule2 s.limits (next_leader_epoch_of s) s.quorum s.requests s.replicas ≡ true ↔ S2 s
unfolding rule2
rule2_iff s = (
  (λ h.
      let p = every_at (rule2_tests c (next_leader_epoch_of s) s.quorum s.requests s.replicas) h in
      let r : (i : ℕ) → i < n → ((replica_at s i).end ≤ log_size_of c) × Named n (replica_at s i).leader (replica_at s i).isr =
      (λ i l. (replica_iff c (replica_at s i)).0 (all_at n (replica_in_range_at c s.replicas) (p 2) i l)) in
      record {
        quorum = (named_iff n s.quorum.leader s.quorum.isr).0 (p 0);
        requests = λ e l. (named_iff n (request_at s e).leader (request_at s e).isr).0 (all_at (next_leader_epoch_of s) (request_in_range_at n s.requests) (p 1) e l);
        replicas = λ i l. (r i l).1;
        ends = λ i l. (r i l).0;
      }),
  (λ m.
      every_and _ _ ((named_iff n s.quorum.leader s.quorum.isr).1 m.quorum)
      (every_and _ _
      (all_by (next_leader_epoch_of s) (request_in_range_at n s.requests) (λ e l. (named_iff n (request_at s e).leader (request_at s e).isr).1 (m.requests e l)))
      (every_and _ _
      (all_by n (replica_in_range_at c s.replicas) (λ i l. (replica_iff c (replica_at s i)).1 (m.ends i l, m.replicas i l)))
      every_none))),
)
  where
    c : Limits
    c = s.limits

    n : ℕ
    n = replica_count_of s.limits

-- ---- S3
quorum_iff : (n : ℕ) (q : Quorum) (requests : List Request) (next : ℕ)
    → quorum_matches_request n q requests next ≡ true
    ↔ ((next ≡ 0 → (q.leader ≡ None) × (q.isr ≡ full_isr n)) × ((last : ℕ) → next ≡ suc last → q.leader ≡ (request_in requests last).leader))
unfolding quorum_matches_request
quorum_iff n q requests zero = (
  (λ h. (
    (λ e. (
      (same_leader_iff q.leader None).0 (and_left (same_leader q.leader None) (eqb q.isr (full_isr n)) h),
      eqb-true q.isr (full_isr n) (and_right (same_leader q.leader None) (eqb q.isr (full_isr n)) h),
    )),
    (λ last e. absurd (omega arith)),
  )),
  (λ m. and_both ((same_leader_iff q.leader None).1 (m.0 refl).0) (eq-eqb q.isr (full_isr n) (m.0 refl).1)),
)
quorum_iff n q requests (suc k) = (
  (λ h. (
    (λ e. absurd (omega arith)),
    (λ last e.
        let f : k ≡ last = omega arith in
        (same_leader_iff q.leader (request_in requests k).leader).0 h ∙ ap (λ (j : ℕ). (request_in requests j).leader) f),
  )),
  (λ m. (same_leader_iff q.leader (request_in requests k).leader).1 (m.1 k refl)),
)

pub rule3_iff : (s : State) → rule3 (replica_count_of s.limits) (next_leader_epoch_of s) s.quorum s.requests ≡ true ↔ S3 s
unfolding rule3
rule3_iff s = (
  (λ h.
      let f = matches.0 (and_right (same_epoch s.quorum.epoch (last_epoch (next_leader_epoch_of s))) test h) in
      record {
        epoch = same_epoch_true s.quorum.epoch (last_epoch (next_leader_epoch_of s)) (and_left (same_epoch s.quorum.epoch (last_epoch (next_leader_epoch_of s))) test h);
        start = f.0;
        later = f.1;
      }),
  (λ m. and_both (same_epoch_by s.quorum.epoch (last_epoch (next_leader_epoch_of s)) m.epoch) (matches.1 (m.start, m.later))),
)
  where
    test : Bool
    test = quorum_matches_request (replica_count_of s.limits) s.quorum s.requests (next_leader_epoch_of s)

    matches : test ≡ true
        ↔ ((next_leader_epoch_of s ≡ 0 → (s.quorum.leader ≡ None) × (s.quorum.isr ≡ full_isr (replica_count_of s.limits)))
        × ((last : ℕ) → next_leader_epoch_of s ≡ suc last → s.quorum.leader ≡ (request_at s last).leader))
    matches = quorum_iff (replica_count_of s.limits) s.quorum s.requests (next_leader_epoch_of s)

-- ---- S4
pub rule4_iff : (s : State) → rule4 (next_leader_epoch_of s) s.quorum s.requests ≡ true ↔ S4 s
unfolding rule4
rule4_iff s = (
  (λ h. record {
    quorum = (leader_none_or_in_isr_iff s.quorum.isr s.quorum.leader).0 (and_left own each h);
    requests = λ e l. (leader_none_or_in_isr_iff (request_at s e).isr (request_at s e).leader).0 (all_at (next_leader_epoch_of s) (request_leader_in_isr s.requests) (and_right own each h) e l);
  }),
  (λ m.
      and_both ((leader_none_or_in_isr_iff s.quorum.isr s.quorum.leader).1 m.quorum)
      (all_by (next_leader_epoch_of s) (request_leader_in_isr s.requests) (λ e l. (leader_none_or_in_isr_iff (request_at s e).isr (request_at s e).leader).1 (m.requests e l)))),
)
  where
    own : Bool
    own = leader_none_or_in_isr s.quorum.isr s.quorum.leader

    each : Bool
    each = all_below (next_leader_epoch_of s) (request_leader_in_isr s.requests)

-- ---- S5
matches_iff : (next : ℕ) (requests : List Request) (z : ℤ) (l : Leader) (m : ℕ) → replica_matches_request next requests z l m ≡ true ↔ MatchesRequest next requests z l m
unfolding replica_matches_request
matches_iff next requests (pos e) l m = (
  (λ h. record {
    none = λ q. absurd (pos_negsuc e 0 q);
    used = λ k q.
        let u : (e < next) × (l ≡ (request_in requests e).leader) = (
          ltb-true e next (and_left (ltb e next) (same_leader l (request_in requests e).leader) h),
          (same_leader_iff l (request_in requests e).leader).0 (and_right (ltb e next) (same_leader l (request_in requests e).leader) h),
        ) in
        rw (pos_injective e k q) at u;
    low = λ k q. absurd (pos_negsuc e k q);
  }),
  (λ f. let u = f.used e refl in and_both (lt-ltb e next u.0) ((same_leader_iff l (request_in requests e).leader).1 u.1)),
)
matches_iff next requests (negsuc zero) l m = (
  (λ h. record {
    none = λ q. (
      (same_leader_iff l None).0 (and_left (same_leader l None) (eqb m 0) h),
      eqb-true m 0 (and_right (same_leader l None) (eqb m 0) h),
    );
    used = λ k q. absurd (pos_negsuc k 0 (sym q));
    low = λ k q. sym (negsuc_injective 0 k q);
  }),
  (λ f. let u = f.none refl in and_both ((same_leader_iff l None).1 u.0) (eq-eqb m 0 u.1)),
)
matches_iff next requests (negsuc (suc k)) l m = (
  (λ h. absurd (true_false (sym h))),
  (λ f. absurd (let e : suc k ≡ 0 = f.low (suc k) refl in omega arith)),
)

meets_s5_iff : (next : ℕ) (requests : List Request) (p : Replica) (i : ℕ) → replica_meets_s5 next requests p i ≡ true ↔ MeetsS5 next requests p i
unfolding replica_meets_s5
meets_s5_iff next requests p i = (
  (λ h.
      let t = every_at (replica_meets_s5_tests next requests p i) h in
      record {
        request = (matches_iff next requests p.epoch p.leader p.isr).0 (t 0);
        own = λ e. implied (names p.leader i) (member p.isr i) (t 1) ((names_iff p.leader i).1 e);
        hw = leb-true p.hw p.end (t 2);
      }),
  (λ m.
      every_and _ _ ((matches_iff next requests p.epoch p.leader p.isr).1 m.request)
      (every_and _ _ (implies (names p.leader i) (member p.isr i) (λ e. m.own ((names_iff p.leader i).0 e)))
      (every_and _ _ (le-leb p.hw p.end m.hw) every_none))),
)

pub rule5_iff : (s : State) → rule5 (replica_count_of s.limits) (next_leader_epoch_of s) s.requests s.replicas ≡ true ↔ S5 s
unfolding rule5
rule5_iff s = (
  (λ h i l. (meets_s5_iff (next_leader_epoch_of s) s.requests (replica_at s i) i).0 (all_at _ (replica_meets_s5_at (next_leader_epoch_of s) s.requests s.replicas) h i l)),
  (λ m. all_by _ (replica_meets_s5_at (next_leader_epoch_of s) s.requests s.replicas) (λ i l. (meets_s5_iff (next_leader_epoch_of s) s.requests (replica_at s i) i).1 (m i l))),
)

-- ---- S6
pub rule6_iff : (s : State) → rule6 (replica_count_of s.limits) (next_record_id_of s) (next_leader_epoch_of s) s.replicas ≡ true ↔ S6 s
unfolding rule6
rule6_iff s = (
  (λ h i x m.
      (log_in_use_iff (next_record_id_of s) (next_leader_epoch_of s) (replica_at s i)).0
      (all_at _ (log_in_use_at (next_record_id_of s) (next_leader_epoch_of s) s.replicas) h i m.replica) x m.offset),
  (λ f.
      all_by _ (log_in_use_at (next_record_id_of s) (next_leader_epoch_of s) s.replicas)
      (λ i l. (log_in_use_iff (next_record_id_of s) (next_leader_epoch_of s) (replica_at s i)).1 (λ x k. f i x (record { replica = l; offset = k })))),
)

-- ---- S7
pub rule7_iff : (s : State) → rule7 (replica_count_of s.limits) s.replicas ≡ true ↔ S7 s
unfolding rule7 agrees_with_all
rule7_iff s = (
  (λ h i x j y m k.
      (logs_agree_iff (replica_at s i) (replica_at s j)).0
      (all_at _ (agrees_with_at s.replicas (replica_at s i)) (all_at _ (agrees_at (replica_count_of s.limits) s.replicas) h i m.replica) j k.replica)
      x y m.offset k.offset),
  (λ f.
      all_by _ (agrees_at (replica_count_of s.limits) s.replicas)
      (λ i l.
      all_by _ (agrees_with_at s.replicas (replica_at s i))
      (λ j k.
      (logs_agree_iff (replica_at s i) (replica_at s j)).1
      (λ x y m o. f i x j y (record { replica = l; offset = m }) (record { replica = k; offset = o }))))),
)

-- ---- the seven together
pub rules_iff : (s : State) → rules s ≡ true ↔ Rules s
unfolding rules
rules_iff s = (
  (λ h.
      let t = every_at (rule_tests s) h in
      record {
        s1 = (rule1_iff s).0 (t 0);
        s2 = (rule2_iff s).0 (t 1);
        s3 = (rule3_iff s).0 (t 2);
        s4 = (rule4_iff s).0 (t 3);
        s5 = (rule5_iff s).0 (t 4);
        s6 = (rule6_iff s).0 (t 5);
        s7 = (rule7_iff s).0 (t 6);
      }),
  (λ m.
      every_and _ _ ((rule1_iff s).1 m.s1)
      (every_and _ _ ((rule2_iff s).1 m.s2)
      (every_and _ _ ((rule3_iff s).1 m.s3)
      (every_and _ _ ((rule4_iff s).1 m.s4)
      (every_and _ _ ((rule5_iff s).1 m.s5)
      (every_and _ _ ((rule6_iff s).1 m.s6)
      (every_and _ _ ((rule7_iff s).1 m.s7) every_none))))))),
)
