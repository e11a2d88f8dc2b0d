-- The member that an action's answer names: beside 48 and 49 the smallest member of a's ISR with that fault
-- (proofs/NamedMember.antt), 0 beside every other number. Assumes nothing.
--
--   test_number test                the number that says that some member does not pass the test
--   not_following_iff               kind 7 gives 48 exactly where a presumes and some member does not follow it
--   lacks_offset_iff                it gives 49 exactly where a presumes, all members follow it and some member lacks the offset
--   SmallestMember test s a m       m is in a's ISR and does not pass the test, and no smaller member is so
--   isr_tidy, passes_tidy           the ISR, and the tests, are the same of the tidy form
--   named_kind, named_below         48 and 49 are given to kind 7 alone, of a replica below R
--   member_none                     an answer with any other number names 0
use Rattle.std.specs.Prelude.{ℕ, ◌≤◌, ◌<◌, ◌≡◌, true, false, List, ◌∷◌, ◌↔◌}
use Rattle.std.proofs.Math.Path.{refl, sym}
use Rattle.std.proofs.Common.{◌∙◌, ap, subst, arith}
use Rattle.std.proofs.Math.Bool.{not}
use Rattle.std.proofs.Math.Decide.{ℕ_discrete}
use borrow.Author.Tests.{not-true, not-false}
use Rattle.logic.specs.Tests.{implied, or_no_first, or_no_second, fails_smallest}
use Rattle.logic.specs.Refuse.{refuse_yes, refuse_no, refuse_other, refuse_this, listed, listed_not, first_other}
use Rattle.parts.specs.Refusal.{accepted, unknown_kind, bad_operand, not_presuming, member_not_following, member_lacks_offset}
use Rattle.parts.specs.Isr.{member}
use Rattle.replica.specs.Replica.{tidy_replica}
use Rattle.cluster.specs.declared.State.{State}
use Rattle.cluster.specs.declared.Action.{Action}
use Rattle.cluster.specs.Answer.{ActionAnswer}
use Rattle.cluster.specs.declared.Kind.{Kind}
use Rattle.cluster.specs.declared.Kind.TheVariants.{ControllerShrinkIsr, ControllerElectLeader, BecomeLeader, BecomeFollower, LeaderWrite, LeaderShrinkIsr, LeaderExpandIsr, LeaderIncHighWatermark, FollowerReplicate, Unknown}
use Rattle.cluster.specs.declared.MemberTest.{MemberTest}
use Rattle.cluster.specs.declared.MemberTest.TheVariants.{IsFollowing, HasOffset}
use Rattle.cluster.specs.State.{replica_count_of, replica_at, tidy}
use Rattle.cluster.specs.Rules.{state_refusal, state_numbers}
use Rattle.cluster.specs.RuleLaws.{refusal_met, state_listed}
use Rattle.cluster.specs.Equality.{tidy-replica, tidy_same}
use Rattle.cluster.specs.Unused.{rules_tidy}
use Rattle.cluster.specs.Actions.{replica_presumes_leadership, replica_is_following, passes_test, member_passes, members_pass, first_not_passing, member_named, leader_inc_high_watermark_refusal}
use Rattle.cluster.specs.Act.{kind_of, table_refusal, action_refusal, effect, refusal, act}
use Rattle.cluster.specs.ActLaws.{answer_zero, first_operand, named_none, named_not_following, named_lacks_offset}
use Rattle.actions.specs.Answers.{row_numbers, table_listed, act_number, act_refused}

-- the number that says that some member of the ISR does not pass a test
unfoldable pub test_number : MemberTest → ℕ
test_number IsFollowing = member_not_following
test_number HasOffset = member_lacks_offset

-- ---- kind 7 by its number
module _ (s : State) (a : ℕ) where
  pub not_following_iff : leader_inc_high_watermark_refusal s a ≡ member_not_following
      ↔ (replica_presumes_leadership s a ≡ true) × (members_pass IsFollowing s a ≡ false)
  unfolding leader_inc_high_watermark_refusal
  not_following_iff = (
    (λ h.
        let p = refuse_other _ not_presuming _ member_not_following h (λ e. omega arith) in
        let q = refuse_this _ member_not_following _ member_not_following p.1
        (λ e. let r = (refuse_other _ member_lacks_offset _ member_not_following e (λ z. omega arith)).1 in omega (arith, r)) in
        (not-false _ p.0, not-true _ q)),
    (λ t. sym (refuse_yes _ member_not_following _ (ap not t.1) ∙ refuse_no _ not_presuming _ (ap not t.0))),
  )

  pub lacks_offset_iff : leader_inc_high_watermark_refusal s a ≡ member_lacks_offset
      ↔ (replica_presumes_leadership s a ≡ true) × (members_pass IsFollowing s a ≡ true) × (members_pass HasOffset s a ≡ false)
  unfolding leader_inc_high_watermark_refusal
  lacks_offset_iff = (
    (λ h.
        let p = refuse_other _ not_presuming _ member_lacks_offset h (λ e. omega arith) in
        let q = refuse_other _ member_not_following _ member_lacks_offset p.1 (λ e. omega arith) in
        let r = refuse_this _ member_lacks_offset _ member_lacks_offset q.1 (λ e. omega (arith, e)) in
        (not-false _ p.0, not-false _ q.0, not-true _ r)),
    (λ t.
        sym
        (refuse_yes _ member_lacks_offset _ (ap not t.2)
        ∙ refuse_no _ member_not_following _ (ap not t.1)
        ∙ refuse_no _ not_presuming _ (ap not t.0))),
  )

-- ---- no other kind gives 48 or 49
not_named : (test : MemberTest) (l : List ℕ) (n : ℕ) → listed l n ≡ true → listed l member_not_following ≡ false → listed l member_lacks_offset ≡ false
    → n ≡ test_number test → ⊥
unfolding test_number
not_named IsFollowing l n h f o = listed_not l n member_not_following h f
not_named HasOffset l n h f o = listed_not l n member_lacks_offset h o

module _ (test : MemberTest) (s : State) (a b e : ℕ) where
  row_lacks : (kind : Kind) → listed (accepted ∷ row_numbers kind) member_not_following ≡ false
      → listed (accepted ∷ row_numbers kind) member_lacks_offset ≡ false → table_refusal kind s a b e ≡ test_number test → ⊥
  row_lacks kind = not_named test (accepted ∷ row_numbers kind) (table_refusal kind s a b e) (table_listed s kind a b e)

  only_kind_seven : (kind : Kind) → table_refusal kind s a b e ≡ test_number test → kind ≡ LeaderIncHighWatermark
  unfolding listed row_numbers
  only_kind_seven ControllerShrinkIsr h = absurd (row_lacks ControllerShrinkIsr refl refl h)
  only_kind_seven ControllerElectLeader h = absurd (row_lacks ControllerElectLeader refl refl h)
  only_kind_seven BecomeLeader h = absurd (row_lacks BecomeLeader refl refl h)
  only_kind_seven BecomeFollower h = absurd (row_lacks BecomeFollower refl refl h)
  only_kind_seven LeaderWrite h = absurd (row_lacks LeaderWrite refl refl h)
  only_kind_seven LeaderShrinkIsr h = absurd (row_lacks LeaderShrinkIsr refl refl h)
  only_kind_seven LeaderExpandIsr h = absurd (row_lacks LeaderExpandIsr refl refl h)
  only_kind_seven LeaderIncHighWatermark h = refl
  only_kind_seven FollowerReplicate h = absurd (row_lacks FollowerReplicate refl refl h)
  only_kind_seven Unknown h = absurd (row_lacks Unknown refl refl h)

-- ---- the member
-- m is in a's ISR and has the fault of the test's number, and no smaller member of it has
pub record SmallestMember (test : MemberTest) (s : State) (a m : ℕ) : Type 0 where
  pub below : m < replica_count_of s.limits
  pub in_isr : member (replica_at s a).isr m ≡ true
  pub fault : passes_test test s a m ≡ false
  pub smaller : (j : ℕ) → j < m → member (replica_at s a).isr j ≡ true → passes_test test s a j ≡ true

pub smallest_member : (test : MemberTest) (s : State) (a : ℕ) → members_pass test s a ≡ false → SmallestMember test s a (first_not_passing test s a)
unfolding member_passes
smallest_member test s a h =
    let f = fails_smallest (replica_count_of s.limits) (member_passes test s a) h in
    let m = first_not_passing test s a in
    record {
      below = f.below;
      in_isr = not-false _ (or_no_first (not (member (replica_at s a).isr m)) (passes_test test s a m) f.fails);
      fault = or_no_second (not (member (replica_at s a).isr m)) (passes_test test s a m) f.fails;
      smaller = λ j l. implied (member (replica_at s a).isr j) (passes_test test s a j) (f.smaller j l);
    }

-- the tests ask nothing of unused room
module _ (s : State) (five : replica_count_of s.limits ≤ 5) (a : ℕ) (la : a < replica_count_of s.limits) where
  pub isr_tidy : (replica_at (tidy s) a).isr ≡ (replica_at s a).isr
  unfolding tidy_replica
  isr_tidy = rw (tidy-replica s a (omega (arith, five)) la) refl

  pub passes_tidy : (test : MemberTest) (m : ℕ) → m < replica_count_of s.limits → passes_test test (tidy s) a m ≡ passes_test test s a m
  unfolding passes_test replica_is_following tidy_replica
  passes_tidy IsFollowing m l = rw (tidy-replica s m (omega (arith, five)) l) refl
  passes_tidy HasOffset m l = rw (tidy-replica s a (omega (arith, five)) la, tidy-replica s m (omega (arith, five)) l) refl

  pub member_tidy : (test : MemberTest) (m : ℕ) → SmallestMember test (tidy s) a m → SmallestMember test s a m
  member_tidy test m f =
      let l : m < replica_count_of s.limits = subst (λ c. m < replica_count_of c) (tidy_same s).limits f.below in
      record {
        below = l;
        in_isr = ap (λ isr. member isr m) (sym isr_tidy) ∙ f.in_isr;
        fault = sym (passes_tidy test m l) ∙ f.fault;
        smaller = λ j k h. sym (passes_tidy test j (omega (arith, l, k))) ∙ f.smaller j k (ap (λ isr. member isr j) isr_tidy ∙ h);
      }

-- an answer with the number of a test names the smallest member that does not pass it
pub test_number_past : (test : MemberTest) → bad_operand < test_number test
unfolding test_number
test_number_past IsFollowing = omega arith
test_number_past HasOffset = omega arith

pub named_by : (test : MemberTest) (n : ℕ) (s : State) (a : ℕ) → n ≡ test_number test → first_not_passing test s a ≡ member_named n s a
unfolding test_number
named_by IsFollowing n s a h = named_not_following n s a h
named_by HasOffset n s a h = named_lacks_offset n s a h

-- the action is of kind 7, and the number is that of its row
pub named_where : (test : MemberTest) (s : State) (action : Action) → action_refusal s action ≡ test_number test
    → (kind_of action.kind ≡ LeaderIncHighWatermark) × (leader_inc_high_watermark_refusal s action.a ≡ test_number test)
unfolding action_refusal table_refusal
named_where test s action h =
    let past = test_number_past test in
    let p = refuse_other _ unknown_kind _ (test_number test) h (λ e. omega (arith, e, past)) in
    let q = refuse_other _ bad_operand _ (test_number test) p.1 (λ e. omega (arith, e, past)) in
    let kind = only_kind_seven test s action.a action.b action.e (kind_of action.kind) q.1 in
    (kind, ap (λ k. table_refusal k s action.a action.b action.e) (sym kind) ∙ q.1)

module _ (test : MemberTest) (s : State) (action : Action) (h : (act s action).refusal ≡ test_number test) where
  pub by_table : (state_refusal s ≡ accepted) × (action_refusal (tidy s) action ≡ test_number test)
  unfolding refusal listed
  by_table =
      first_other (state_refusal s) (action_refusal (tidy s) action) (test_number test) (sym (act_number s action) ∙ h)
      (not_named test (accepted ∷ state_numbers) (state_refusal s) (state_listed s) refl refl)

  pub named_kind : kind_of action.kind ≡ LeaderIncHighWatermark
  named_kind = (named_where test (tidy s) action by_table.1).0

  -- it names an operand below R
  named_below_tidy : action.a < replica_count_of (tidy s).limits
  named_below_tidy =
      let past = test_number_past test in
      first_operand (tidy s) action (rules_tidy s ∙ refusal_met s by_table.0) (λ e. omega (arith, e, by_table.1, past))
      (λ e. omega (arith, e, by_table.1, past))

  pub named_below : action.a < replica_count_of s.limits
  named_below = subst (λ c. action.a < replica_count_of c) (tidy_same s).limits named_below_tidy

-- an answer with any other number names 0
pub member_none : (s : State) (action : Action) → ((act s action).refusal ≡ member_not_following → ⊥) → ((act s action).refusal ≡ member_lacks_offset → ⊥)
    → (act s action).member ≡ 0
unfolding act
member_none s action f o =
    elim (ℕ_discrete (refusal s action) accepted) [
      | yes e ↦ ap (λ (r : ActionAnswer). r.member) (sym (answer_zero (refusal s action) _ s (effect (tidy s) action) e))
      | no e ↦
          ap (λ (r : ActionAnswer). r.member) (act_refused s action e)
          ∙ sym (named_none (refusal s action) (tidy s) action.a (λ k. f (act_number s action ∙ k)) (λ k. o (act_number s action ∙ k)))
    ]
