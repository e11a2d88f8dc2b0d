-- An answer with 48 or 49 names the smallest member of the ISR with that fault. Assumes nothing.
use Rattle.std.specs.Prelude.{ℕ, ◌≡◌, false}
use Rattle.std.proofs.Math.Path.{sym}
use Rattle.std.proofs.Common.{◌∙◌, ap, arith}
use Rattle.cluster.specs.declared.State.{State}
use Rattle.cluster.specs.declared.Action.{Action}
use Rattle.cluster.specs.Answer.{ActionAnswer}
use Rattle.cluster.specs.declared.MemberTest.{MemberTest}
use Rattle.cluster.specs.declared.MemberTest.TheVariants.{IsFollowing, HasOffset}
use Rattle.cluster.specs.State.{tidy}
use Rattle.cluster.specs.RuleLaws.{refusal_met}
use Rattle.cluster.specs.Predicates.{rules_iff}
use Rattle.cluster.specs.Actions.{members_pass, first_not_passing, leader_inc_high_watermark_refusal}
use Rattle.cluster.specs.Act.{refusal, act}
use Rattle.actions.specs.Answers.{act_number, act_refused}
use Rattle.actions.specs.MemberNamed.{test_number, not_following_iff, lacks_offset_iff, SmallestMember, smallest_member, member_tidy, test_number_past, named_by, named_where, by_table, named_below}

module _ (s : State) (a : ℕ) where
  -- where it gives the number of a test, not every member passes
  not_all_pass : (test : MemberTest) → leader_inc_high_watermark_refusal s a ≡ test_number test → members_pass test s a ≡ false
  unfolding test_number
  not_all_pass IsFollowing h = ((not_following_iff s a).0 h).1
  not_all_pass HasOffset h = ((lacks_offset_iff s a).0 h).2

module _ (test : MemberTest) (s : State) (action : Action) (h : (act s action).refusal ≡ test_number test) where
  pub member-named : SmallestMember test s action.a (act s action).member
  member-named =
      let met = refusal_met s (by_table test s action h).0 in
      let past = test_number_past test in
      let n : refusal s action ≡ test_number test = sym (act_number s action) ∙ h in
      let named : (act s action).member ≡ first_not_passing test (tidy s) action.a =
      ap (λ (r : ActionAnswer). r.member) (act_refused s action (λ e. omega (arith, e, n, past)))
      ∙ sym (named_by test (refusal s action) (tidy s) action.a n) in
      rw named
      (member_tidy s ((rules_iff s).0 met).s1.ranges.replicas action.a (named_below test s action h) test
      (first_not_passing test (tidy s) action.a)
      (smallest_member test (tidy s) action.a
      (not_all_pass (tidy s) action.a test (named_where test (tidy s) action (by_table test s action h).1).1)))
