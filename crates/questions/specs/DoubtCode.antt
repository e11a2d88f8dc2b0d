-- The loops that test what is in doubt take a few numbers out of the state, and go by these. Assumes nothing.
use Rattle.std.specs.Prelude.{ℕ, zero, suc, ◌+◌, ◌-◌, ◌≤◌, ◌<◌, ◌≡◌, Bool, ◌||◌, ◌&&◌, ltb}
use Rattle.std.specs.List.{list_all, range_with_len}
use Rattle.std.proofs.Math.Path.{refl, sym, ap}
use Rattle.std.proofs.Common.{arith, lt-ltb, le-ltb}
use Rattle.std.proofs.Math.Bool.{true, false, cond}
use Rattle.logic.specs.Tests.{all_below, all_at, all_by, all_more, all_fails, or_yes}
use Rattle.parts.specs.Isr.{member}
use Rattle.parts.specs.IsrLaws.{member_none}
use Rattle.parts.specs.Leader.{names}
use Rattle.replica.specs.declared.Replica.{Replica}
use Rattle.replica.specs.Log.{hold_same_record}
use Rattle.cluster.specs.declared.State.{State}
use Rattle.cluster.specs.State.{replica_count_of, replica_at}
use Rattle.cluster.specs.Actions.{replica_presumes_leadership}
use Rattle.questions.specs.declared.Property.{Property}
use Rattle.questions.specs.declared.doubt.Doubt.{Doubt}
use Rattle.questions.specs.IsrLaws.{isr_by_property, below_cond, asked_of}
use Rattle.questions.specs.Doubt.{agree_from, offsets_in_doubt, pair_agrees, leader_agrees, holds_in_doubt}

-- ---- the test of the offsets, which starts at the first in doubt
module _ (from : ℕ) (p q : Replica) where
  pub from_none : all_below from (agree_from from p q) ≡ true
  unfolding agree_from
  from_none = all_by from (agree_from from p q) (λ x l. ap (λ b. b || hold_same_record p q x) (lt-ltb x from l))

  pub from_same : (x : ℕ) → hold_same_record p q x ≡ true → agree_from from p q x ≡ true
  unfolding agree_from
  from_same x h = rw h (or_yes (ltb x from))

  pub from_differ : (x : ℕ) → from ≤ x → hold_same_record p q x ≡ false → agree_from from p q x ≡ false
  unfolding agree_from
  from_differ x l h = rw (le-ltb x from l, h) refl

-- its end, and that of any loop that may have started past its bound
pub all_past : (n i : ℕ) (test : ℕ → Bool) → n ≤ i → all_below i test ≡ true → true ≡ all_below n test
all_past n i test l h = sym (all_by n test (λ j k. all_at i test h j (omega arith)))

-- the test of all from i on, where those before i agree
pub agree_on : (from : ℕ) (p q : Replica) (to n i : ℕ) → from ≤ i → to - i ≡ n → all_below i (agree_from from p q) ≡ true
    → list_all (hold_same_record p q) (range_with_len i n) ≡ all_below to (agree_from from p q)
agree_on from p q to zero i l e h = all_past to i (agree_from from p q) (omega arith) h
agree_on from p q to (suc n) i l e h = go (agree_on from p q to n (i + 1) (omega arith) (omega arith)) (hold_same_record p q i) refl
  where
    go : (all_below (i + 1) (agree_from from p q) ≡ true
        → list_all (hold_same_record p q) (range_with_len (i + 1) n) ≡ all_below to (agree_from from p q))
        → (b : Bool) → hold_same_record p q i ≡ b
        → b && list_all (hold_same_record p q) (range_with_len (i + 1) n) ≡ all_below to (agree_from from p q)
    go rest true k = rest (all_more i (agree_from from p q) h (from_same from p q i k))
    go rest false k = all_fails to i (agree_from from p q) (omega arith) (from_differ from p q i l k)

-- ---- the loops over leaders and members
module _ (d : Doubt) (property : Property) (s : State) (r : ℕ) where
  -- how many members are looked at for r, and how many offsets of r and m
  abbrev pub members_of : ℕ
  members_of = cond (member d.leaders r) (cond (names (replica_at s r).leader r) (replica_count_of s.limits) 0) 0

  abbrev pub offsets_of : ℕ → ℕ
  offsets_of m = cond (member d.agreeing m) 0 (cond (member (isr_by_property property (replica_at s r).isr s.quorum.isr) m) (replica_at s r).hw 0)

  -- a member is looked at: r is in doubt and presumes, and m is a replica
  pub member_below : (m : ℕ) → m < members_of
      → (member d.leaders r ≡ true) × (names (replica_at s r).leader r ≡ true) × (m < replica_count_of s.limits)
  member_below m l =
      let led = below_cond (member d.leaders r) _ m l in
      let presuming = below_cond (names (replica_at s r).leader r) _ m led.1 in
      (led.0, presuming.0, presuming.1)

  pub pair_is : (m : ℕ) → m < members_of → all_below (offsets_of m) (agree_from d.from (replica_at s r) (replica_at s m)) ≡ pair_agrees d property s r m
  unfolding pair_agrees offsets_in_doubt replica_presumes_leadership
  pair_is m l = let b = member_below m l in rw (b.0, b.1, asked_of property s r) refl

  -- where r is not in doubt, or does not presume, nothing is looked at
  pub members_past : (m : ℕ) → members_of ≤ m → all_below m (pair_agrees d property s r) ≡ true → leader_agrees d property s r ≡ true
  unfolding leader_agrees pair_agrees offsets_in_doubt replica_presumes_leadership all_below
  members_past m l h = go (member d.leaders r) (names (replica_at s r).leader r) refl refl l
    where
      go : (b c : Bool) → member d.leaders r ≡ b → names (replica_at s r).leader r ≡ c → cond b (cond c (replica_count_of s.limits) 0) 0 ≤ m
          → all_below (replica_count_of s.limits) (pair_agrees d property s r) ≡ true
      go true true e f k = sym (all_past (replica_count_of s.limits) m (pair_agrees d property s r) k h)
      go true false e f k = all_by (replica_count_of s.limits) (pair_agrees d property s r) (λ i u. rw (e, f) refl)
      go false c e f k = all_by (replica_count_of s.limits) (pair_agrees d property s r) (λ i u. rw e refl)

  -- where one pair does not agree, the test fails
  pub pair_fails : r < replica_count_of s.limits → (m : ℕ) → m < replica_count_of s.limits → pair_agrees d property s r m ≡ false → false ≡ holds_in_doubt d property s
  unfolding holds_in_doubt leader_agrees
  pair_fails l m k h =
      all_fails (replica_count_of s.limits) r (leader_agrees d property s) l
      (sym (all_fails (replica_count_of s.limits) m (pair_agrees d property s r) k h))

-- where no leader is in doubt, the test holds
pub no_leader_in_doubt : (d : Doubt) (property : Property) (s : State) → d.leaders ≡ 0 → true ≡ holds_in_doubt d property s
unfolding holds_in_doubt leader_agrees pair_agrees offsets_in_doubt all_below
no_leader_in_doubt d property s e =
    sym
    (all_by (replica_count_of s.limits) (leader_agrees d property s)
    (λ r l. all_by (replica_count_of s.limits) (pair_agrees d property s r) (λ m k. rw (e, member_none r) refl)))
