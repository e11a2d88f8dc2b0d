-- What the rules give to the code of the actions, and what an action answers by its refusal. Assumes nothing.
use Rattle.std.specs.Prelude.{Result, Ok, Err, ℕ, zero, suc, ◌≤◌, ◌<◌, max, Bool, cond, ◌&&◌, ◌∷◌, ◌≢◌, ◌≡◌, ltb, length, is_some, IfErr}
use Rattle.std.proofs.Math.Bool.{true, false, not}
use Rattle.std.specs.Result.{MatchResult, IsErrAnd}
use Rattle.std.proofs.Common.{ap, ◌∙◌, arith}
use Rattle.std.proofs.Math.Path.{ap₂, refl, sym}
use Rattle.std.proofs.Math.ListN.{get_or-eq_default}
use borrow.Author.Tests.{eq-eqb, ne_eqb, ltb-true, not-true}
use Rattle.logic.specs.Tests.{all_below, all_none, all_fails, every_at}
use Rattle.logic.specs.Refuse.{refuse, refuse_yes, refuse_no, refuse_other, refuse_this, first_yes, first_no, first_zero, by_accepted, by_refused, by_number, listed, listed_not, by_refusal}
use Rattle.parts.specs.declared.refusal.Refusal.{Refusal}
use Rattle.parts.specs.declared.refusal.Refusal.TheVariants.{MemberLacksOffset}
use Rattle.parts.specs.Refusal.{refusal_number, accepted, unknown_kind, bad_operand, member_not_following, member_lacks_offset}
use Rattle.parts.specs.Isr.{member, including, without}
use Rattle.parts.specs.IsrLaws.{below_32, member_below}
use Rattle.parts.specs.Leader.{leader_below}
use Rattle.parts.specs.LeaderLaws.{leader_below_iff}
use Rattle.cluster.specs.Accepted.{operands_of, action_accepted, EpochLeft, request-sent, controller_shrink_accepted, elect_accepted, become_leader_accepted, become_follower_accepted, replicate_accepted, write_accepted}
use Rattle.cluster.specs.declared.Limits.{Limits}
use Rattle.cluster.specs.declared.Action.{Action}
use Rattle.cluster.specs.declared.RefusedAction.{RefusedAction}
use Rattle.cluster.specs.Answer.{ActionAnswer, names_member, action_answer_of}
use Rattle.cluster.specs.Act.{act, step, action_refusal, table_refusal, action_answer, accepted_with, refused_on, answer_by, effect, refusal, kinds, kind_of, last_kind, uses, operand_bound, operand_bounds, operand_tests, operands_fit}
use Rattle.cluster.specs.RuleLaws.{refusal_met, met_refusal, state_listed}
use Rattle.cluster.specs.Rules.{state_refusal, state_numbers, rules}
use Rattle.cluster.specs.State.{tidy, replica_count_of, log_size_of, max_leader_epoch_of, next_leader_epoch_of, next_record_id_of, request_at, replica_at}
use Rattle.cluster.specs.declared.State.{State}
use Rattle.cluster.specs.declared.Kind.{Kind}
use Rattle.cluster.specs.declared.Kind.TheVariants.{Unknown}
use Rattle.cluster.specs.declared.MemberTest.{MemberTest}
use Rattle.cluster.specs.declared.MemberTest.TheVariants.{IsFollowing, HasOffset}
use Rattle.cluster.specs.Predicates.{Rules, rules_iff}
use Rattle.cluster.specs.Actions.{request_missing, controller_shrink_isr_refusal, controller_elect_leader_refusal, become_leader_refusal, become_follower_refusal, leader_write_refusal, follower_replicate_refusal, passes_test, member_passes, members_pass, first_not_passing, member_named}

module _ (s : State) (h : rules s ≡ true) where
  met : Rules s
  met = (rules_iff s).0 h

  -- ---- bounds of a state that meets the rules
  pub epochs_small : max_leader_epoch_of s.limits ≤ 15
  epochs_small = met.s1.ranges.epochs

  pub log_small : log_size_of s.limits ≤ 16
  log_small = met.s1.ranges.log

  pub ids_small : next_record_id_of s ≤ 64
  ids_small = omega (arith, met.s1.ids, met.s1.ranges.records)

  pub replica_five : (i : ℕ) → i < replica_count_of s.limits → i < 5
  replica_five i l = omega (arith, met.s1.ranges.replicas)

  pub quorum_isr_small : s.quorum.isr < 32
  quorum_isr_small = below_32 _ _ met.s1.ranges.replicas met.s2.quorum.within

  pub isr_small : (i : ℕ) → i < replica_count_of s.limits → (replica_at s i).isr < 32
  isr_small i l = below_32 _ _ met.s1.ranges.replicas (met.s2.replicas i l).within

  pub end_small : (i : ℕ) → i < replica_count_of s.limits → (replica_at s i).end ≤ 16
  end_small i l = omega (arith, met.s2.ends i l, log_small)

  pub hw_small : (i : ℕ) → i < replica_count_of s.limits → (replica_at s i).hw ≤ 16
  hw_small i l = omega (arith, (met.s5 i l).hw, end_small i l)

  -- ---- requests
  pub request_room : EpochLeft s → next_leader_epoch_of s < 16
  request_room l = omega (arith, l, epochs_small)

  pub request_small : (e : ℕ) → e < next_leader_epoch_of s → e < 16
  request_small e l = omega (arith, met.s1.epochs, epochs_small)

  pub request_leader_below : (e : ℕ) → e < next_leader_epoch_of s → leader_below 5 (request_at s e).leader ≡ true
  request_leader_below e l =
      (leader_below_iff 5 (request_at s e).leader).1 (λ b q. replica_five b ((met.s2.requests e l).below b q))

  -- ---- room in a log for the record that is added
  pub write_room : (a : ℕ) → leader_write_refusal s a ≡ accepted → (replica_at s a).end < 16
  write_room a k = omega (arith, ((write_accepted s a).0 k).room, log_small)

  pub replicate_room : (a b : ℕ) → b < replica_count_of s.limits → follower_replicate_refusal s a b ≡ accepted → (replica_at s a).end < 16
  replicate_room a b l k = omega (arith, ((replicate_accepted s a b).0 k).behind, end_small b l)

-- ---- kinds 5 and 6
-- an ISR that replica b has joined, or left
abbrev pub changed_isr : Bool → ℕ → ℕ → ℕ
changed_isr joins isr b = cond joins (including isr b) (without isr b)

-- ---- kinds
-- a number that is none of 0 to 8 is of no kind
past_four : (n : ℕ) → (n ≡ 0 → ⊥) → (n ≡ 1 → ⊥) → (n ≡ 2 → ⊥) → (n ≡ 3 → ⊥) → (n ≡ 4 → ⊥) → 4 < n
past_four n a b c d e = omega arith

past_eight : (n : ℕ) → 4 < n → (n ≡ 5 → ⊥) → (n ≡ 6 → ⊥) → (n ≡ 7 → ⊥) → (n ≡ 8 → ⊥) → 8 < n
past_eight n l a b c d = omega arith

pub kind_past : (n : ℕ) → 8 < n → kind_of n ≡ Unknown
unfolding kind_of
kind_past n h = let l : length kinds ≤ n = omega (arith, h) in get_or-eq_default kinds Unknown l

pub kind_unknown : (n : ℕ)
    → (n ≡ 0 → ⊥) → (n ≡ 1 → ⊥) → (n ≡ 2 → ⊥) → (n ≡ 3 → ⊥) → (n ≡ 4 → ⊥) → (n ≡ 5 → ⊥) → (n ≡ 6 → ⊥) → (n ≡ 7 → ⊥) → (n ≡ 8 → ⊥)
    → Unknown ≡ kind_of n
kind_unknown n a b c d e f g h i = sym (kind_past n (past_eight n (past_four n a b c d e) f g h i))

-- ---- kind 7: a member of a's ISR passes a test, and any other replica does
pub passes_outside : (test : MemberTest) (s : State) (a m : ℕ) → member (replica_at s a).isr m ≡ false → true ≡ member_passes test s a m
unfolding member_passes
passes_outside test s a m h = rw h

pub passes_inside : (test : MemberTest) (s : State) (a m : ℕ) → member (replica_at s a).isr m ≡ true → passes_test test s a m ≡ member_passes test s a m
unfolding member_passes
passes_inside test s a m h = rw h

-- ---- kind 7 in one pass over the members
-- 49 where the second test fails
abbrev pub offset_refusal : Bool → ℕ
offset_refusal passes = refuse (not passes) member_lacks_offset accepted

-- what one member gives: 48, 49, or 0 where it passes both tests
unfoldable pub member_refusal : State → ℕ → ℕ → ℕ
member_refusal s a m = refuse (not (member_passes IsFollowing s a m)) member_not_following (offset_refusal (member_passes HasOffset s a m))

-- what all of them give: 48 before 49
abbrev pub members_refusal : State → ℕ → ℕ
members_refusal s a = refuse (not (members_pass IsFollowing s a)) member_not_following (offset_refusal (members_pass HasOffset s a))

-- what is kept of the members before, and what the next one gives
pub offset_more : (before next : Bool) → max (offset_refusal before) (offset_refusal next) ≡ offset_refusal (next && before)
unfolding refuse
offset_more true true = refl
offset_more true false = refl
offset_more false true = refl
offset_more false false = refl

pub offset_none : (test : ℕ → Bool) → accepted ≡ offset_refusal (all_below 0 test)
offset_none test = refuse_no _ member_lacks_offset accepted (ap not (all_none test))

module _ (s : State) (a m : ℕ) where
  -- a replica that is no member gives nothing, and a member what the tests say of it
  pub refusal_outside : member (replica_at s a).isr m ≡ false → accepted ≡ member_refusal s a m
  unfolding member_refusal
  refusal_outside h =
      refuse_no _ member_lacks_offset _ (ap not (sym (passes_outside HasOffset s a m h)))
      ∙ refuse_no _ member_not_following _ (ap not (sym (passes_outside IsFollowing s a m h)))

  pub refusal_inside : member (replica_at s a).isr m ≡ true
      → refuse (not (passes_test IsFollowing s a m)) member_not_following (offset_refusal (passes_test HasOffset s a m)) ≡ member_refusal s a m
  unfolding member_refusal
  refusal_inside h =
      ap₂ (λ (follows has : Bool). refuse (not follows) member_not_following (offset_refusal has))
      (passes_inside IsFollowing s a m h) (passes_inside HasOffset s a m h)

  -- a member that gives 48 does not pass the first test; one that does not passes it, and gives what it gives by the second
  pub member-not-following : member_refusal s a m ≡ member_not_following → member_passes IsFollowing s a m ≡ false
  unfolding member_refusal
  member-not-following h =
      not-true _
      (refuse_this _ member_not_following _ member_not_following h
      (λ e. let z = (refuse_other _ member_lacks_offset accepted member_not_following e (λ k. omega arith)).1 in omega (arith, z)))

  pub member_following : (member_refusal s a m ≡ member_not_following → ⊥)
      → (member_passes IsFollowing s a m ≡ true) × (member_refusal s a m ≡ offset_refusal (member_passes HasOffset s a m))
  unfolding member_refusal
  member_following other = go (member_passes IsFollowing s a m) refl
    where
      go : (b : Bool) → member_passes IsFollowing s a m ≡ b
          → (member_passes IsFollowing s a m ≡ true) × (member_refusal s a m ≡ offset_refusal (member_passes HasOffset s a m))
      go true h = (h, sym (refuse_no _ member_not_following _ (ap not h)))
      go false h = absurd (other (sym (refuse_yes _ member_not_following _ (ap not h))))

-- ---- the member that an answer names
-- none beside any other number than 48 and 49
pub named_none : (n : ℕ) (s : State) (a : ℕ) → (n ≡ member_not_following → ⊥) → (n ≡ member_lacks_offset → ⊥) → 0 ≡ member_named n s a
unfolding member_named
named_none n s a f o = rw (ne_eqb n member_not_following f, ne_eqb n member_lacks_offset o)

-- beside 48 and 49 the smallest member of a's ISR that does not pass
pub named_not_following : (n : ℕ) (s : State) (a : ℕ) → n ≡ member_not_following → first_not_passing IsFollowing s a ≡ member_named n s a
unfolding member_named
named_not_following n s a e = rw (eq-eqb n member_not_following e)

pub named_lacks_offset : (n : ℕ) (s : State) (a : ℕ) → n ≡ member_lacks_offset → first_not_passing HasOffset s a ≡ member_named n s a
unfolding member_named
named_lacks_offset n s a e = rw e

-- a state is refused by no number but those of the rules
state_other : (s : State) (k : ℕ) → listed (accepted ∷ state_numbers) k ≡ false → state_refusal s ≢ k
state_other s k = listed_not (accepted ∷ state_numbers) (state_refusal s) k (state_listed s)

-- so a state that breaks a rule is refused by neither number
pub state_names_none : (s t : State) (a : ℕ) → 0 ≡ member_named (state_refusal s) t a
unfolding listed
state_names_none s t a = named_none (state_refusal s) t a (state_other s member_not_following refl) (state_other s member_lacks_offset refl)

-- and so by one that names no member
pub state_unnamed : (s : State) (r : Refusal) → refusal_number r ≡ state_refusal s → false ≡ names_member r
unfolding listed
state_unnamed s r e =
    rw (e, ne_eqb (state_refusal s) member_not_following (state_other s member_not_following refl), ne_eqb (state_refusal s) member_lacks_offset (state_other s member_lacks_offset refl))

operand_below : (used : Bool) (bound n : ℕ) → 1 ≤ bound → n < operand_bound used bound → n < bound
unfolding operand_bound
operand_below true bound n low l = l
operand_below false bound n low l = omega arith

fits_first : (s : State) (action : Action) → rules s ≡ true → operands_fit s.limits action ≡ true → action.a < replica_count_of s.limits
unfolding operands_fit operand_bounds
fits_first s action h f =
    operand_below (uses (kind_of action.kind)).a (replica_count_of s.limits) action.a ((rules_iff s).0 h).s1.ranges.replicas_low
    (ltb-true action.a _ (every_at (operand_tests s.limits action) f 0))

-- an action that is refused by neither 2 nor 3 has operands that fit, and its first is below R, used or not
pub first_operand : (s : State) (action : Action) → rules s ≡ true → (action_refusal s action ≡ unknown_kind → ⊥)
    → (action_refusal s action ≡ bad_operand → ⊥) → action.a < replica_count_of s.limits
unfolding action_refusal
first_operand s action h kind operand = go (ltb last_kind action.kind) refl (operands_fit s.limits action) refl
  where
    go : (k : Bool) → ltb last_kind action.kind ≡ k → (fit : Bool) → operands_fit s.limits action ≡ fit
        → action.a < replica_count_of s.limits
    go true e fit f = absurd (kind (sym (refuse_yes _ unknown_kind _ e)))
    go false e false f = absurd (operand (sym (refuse_yes _ bad_operand _ (ap not f) ∙ refuse_no _ unknown_kind _ e)))
    go false e true f = fits_first s action h f

-- so where the number is above 3, the first operand is below five
pub named_operand : (s : State) (action : Action) (n : ℕ) → rules s ≡ true → bad_operand < n → n ≡ action_refusal s action → action.a < 5
named_operand s action n h l e =
    replica_five s h action.a (first_operand s action h (λ k. omega (arith, k, e, l)) (λ k. omega (arith, k, e, l)))

-- ---- what an action answers, by its refusal
pub answer_number : (n member : ℕ) (s next : State) → (answer_by n member s next).refusal ≡ n
unfolding answer_by
answer_number n member s next = by_number (λ (a : ActionAnswer). a.refusal) n (refused_on s member) (accepted_with next) (λ k. refl) refl

pub answer_zero : (n member : ℕ) (s next : State) → n ≡ accepted → accepted_with next ≡ answer_by n member s next
unfolding answer_by
answer_zero n member s next h = by_accepted n (refused_on s member) (accepted_with next) h

pub answer_other : (n member : ℕ) (s next : State) → (n ≡ accepted → ⊥) → action_answer n member s ≡ answer_by n member s next
unfolding answer_by
answer_other n member s next h = by_refused n (refused_on s member) (accepted_with next) h

-- on a state t, by a number n: what both an action on any state and the inner step are
abbrev answer_on : ℕ → State → State → Action → ActionAnswer
answer_on n given t action = answer_by n (member_named n t action.a) given (effect t action)

-- a state that breaks a rule
pub act_broken : (s : State) (action : Action) → (state_refusal s ≡ accepted → ⊥) → action_answer (state_refusal s) 0 s ≡ act s action
unfolding act refusal
act_broken s action h =
    ap (λ (m : ℕ). action_answer (state_refusal s) m s) (state_names_none s (tidy s) action.a)
    ∙ answer_other (state_refusal s) (member_named (state_refusal s) (tidy s) action.a) s (effect (tidy s) action) h
    ∙ ap (λ (n : ℕ). answer_on n s (tidy s) action) (first_yes (state_refusal s) (action_refusal (tidy s) action) h)

-- one that meets them
pub refusal_of_met : (s : State) (action : Action) → rules s ≡ true → action_refusal (tidy s) action ≡ refusal s action
unfolding refusal
refusal_of_met s action h = first_no (state_refusal s) (action_refusal (tidy s) action) (met_refusal s h)

pub act_met : (s : State) (action : Action) → rules s ≡ true
    → answer_by (action_refusal (tidy s) action) (member_named (action_refusal (tidy s) action) (tidy s) action.a) s (effect (tidy s) action)
    ≡ act s action
unfolding act
act_met s action h = ap (λ (n : ℕ). answer_on n s (tidy s) action) (refusal_of_met s action h)

-- ---- an accepted action: the state meets the rules, nothing refuses the action on its tidy form, and the next state is the effect
pub record Accepts (s : State) (action : Action) : Type 0 where
  pub met : rules s ≡ true
  pub unrefused : action_refusal (tidy s) action ≡ accepted
  pub next : act s action ≡ accepted_with (effect (tidy s) action)

pub accepts : (s : State) (action : Action) → (act s action).refusal ≡ accepted → Accepts s action
unfolding act refusal
accepts s action ok =
    let n = refusal s action in
    let member = member_named n (tidy s) action.a in
    let e : n ≡ accepted = sym (answer_number n member s (effect (tidy s) action)) ∙ ok in
    let p = first_zero (state_refusal s) (action_refusal (tidy s) action) e in
    record { met = refusal_met s p.0; unrefused = p.1; next = sym (answer_zero n member s (effect (tidy s) action) e) }

-- ---- kind 7: a member that gives a refusal other than 49 gives 48, and so do all of them together
pub member_decides : (s : State) (a m : ℕ) (r : Refusal) → m < replica_count_of s.limits → refusal_number r ≡ member_refusal s a m
    → (r ≡ MemberLacksOffset → ⊥) → refusal_number r ≡ members_refusal s a
unfolding member_refusal refuse
member_decides s a m r l h other = grind (arith, all_fails (replica_count_of s.limits) m (member_passes IsFollowing s a) l)

-- ---- what the code of kinds 0 to 3 asks of a state that meets the rules
module _ (s : State) (h : rules s ≡ true) where
  -- an accepted action of the controller has room for its request, and its member is one of five
  pub shrink_room : (a : ℕ) → controller_shrink_isr_refusal s a ≡ accepted → next_leader_epoch_of s < 16
  shrink_room a k = request_room s h ((controller_shrink_accepted s a (met s h).s1).0 k).1

  pub shrink_member : (a : ℕ) → controller_shrink_isr_refusal s a ≡ accepted → a < 5
  shrink_member a k = member_below s.quorum.isr a ((controller_shrink_accepted s a (met s h).s1).0 k).0

  pub elect_room : (a : ℕ) → controller_elect_leader_refusal s a ≡ accepted → next_leader_epoch_of s < 16
  elect_room a k = request_room s h ((elect_accepted s a (met s h).s1).0 k).2

  -- a request that is there has a place, and its leader is one of five
  pub there_small : (e : ℕ) → request_missing s e ≡ false → e < 16
  there_small e k = request_small s h e (request-sent s e k)

  pub there_leader : (e : ℕ) → request_missing s e ≡ false → leader_below 5 (request_at s e).leader ≡ true
  there_leader e k = request_leader_below s h e (request-sent s e k)

  -- so has the request of an accepted action
  pub leads_small : (e : ℕ) → become_leader_refusal s e ≡ accepted → e < 16
  leads_small e k = request_small s h e ((become_leader_accepted s e).0 k).0

  pub leads_below : (e : ℕ) → become_leader_refusal s e ≡ accepted → leader_below 5 (request_at s e).leader ≡ true
  leads_below e k = request_leader_below s h e ((become_leader_accepted s e).0 k).0

  pub follows_small : (a e : ℕ) → become_follower_refusal s a e ≡ accepted → e < 16
  follows_small a e k = request_small s h e ((become_follower_accepted s a e).0 k).0

-- ---- operands of an action
-- operands that fit have their replicas below R, where the kind uses them
pub used_a : (c : Limits) (action : Action) → operands_fit c action ≡ true → (uses (kind_of action.kind)).a ≡ true → action.a < replica_count_of c
used_a c action h u = (operands_of c action h (kind_of action.kind) refl).a_below u

pub used_b : (c : Limits) (action : Action) → operands_fit c action ≡ true → (uses (kind_of action.kind)).b ≡ true → action.b < replica_count_of c
used_b c action h u = (operands_of c action h (kind_of action.kind) refl).b_below u

-- so has an accepted action
pub accepted_a : (s : State) (action : Action) → action_refusal s action ≡ accepted → (uses (kind_of action.kind)).a ≡ true
    → action.a < replica_count_of s.limits
accepted_a s action h u = used_a s.limits action (action_accepted s action h).0 u

pub accepted_b : (s : State) (action : Action) → action_refusal s action ≡ accepted → (uses (kind_of action.kind)).b ≡ true
    → action.b < replica_count_of s.limits
accepted_b s action h u = used_b s.limits action (action_accepted s action h).0 u

-- and the table does not refuse it, by the row of its kind
pub accepted_table : (s : State) (action : Action) (kind : Kind) → action_refusal s action ≡ accepted → kind ≡ kind_of action.kind
    → table_refusal kind s action.a action.b action.e ≡ accepted
accepted_table s action kind h e = rw e (action_accepted s action h).1

-- ---- what act answers, by what is answered on the tidy form
-- a refusal's number is not 0
refuses_not_zero : (r : Refusal) → refusal_number r ≡ accepted → ⊥
refuses_not_zero r h = grind arith

-- a state that breaks a rule is refused by that
pub act_refused : (s : State) (action : Action) (r : Refusal) → refusal_number r ≡ state_refusal s
    → action_answer (refusal_number r) 0 s ≡ act s action
act_refused s action r e = rw e (act_broken s action (λ k. refuses_not_zero r (e ∙ k)))

-- what is answered on one state as on another: accepted, the same; refused, that the other is given back
answer_back : (n member : ℕ) (s t next : State) (a : ActionAnswer) → a ≡ answer_by n member t next
    → (a.refusal ≡ accepted → a ≡ answer_by n member s next)
    × ((a.refusal ≡ accepted → ⊥) → action_answer a.refusal a.member s ≡ answer_by n member s next)
unfolding answer_by by_refusal
answer_back zero member s t next a e = ((λ k. e), (λ k. absurd (k (ap (λ (b : ActionAnswer). b.refusal) e))))
answer_back (suc n) member s t next a e = (
  (λ k. let z : suc n ≡ 0 = sym (ap (λ (b : ActionAnswer). b.refusal) e) ∙ k in absurd (omega arith)),
  (λ k. ap (λ (b : ActionAnswer). action_answer b.refusal b.member s) e),
)

-- a state that meets the rules is answered as its tidy form is, and where that is refused is itself given back
pub act_by_step : (s : State) (action : Action) → rules s ≡ true → (r m : Result State RefusedAction) → action_answer_of r ≡ step (tidy s) action
    → (E : RefusedAction → RefusedAction → Type 0) → MatchResult r (λ next. m ≡ Ok next) (λ e. IsErrAnd m (E e))
    → ((e q : RefusedAction) → E e q → q ≡ record { refusal = e.refusal; member = e.member; state = s })
    → action_answer_of m ≡ act s action
unfolding step
act_by_step s action h (Ok next) m e E cases given = rw cases ((answer_back _ _ s _ _ _ e).0 refl ∙ act_met s action h)
act_by_step s action h (Err r) (Ok next) e E cases given = absurd cases
act_by_step s action h (Err r) (Err q) e E cases given =
    rw (given r q cases) ((answer_back _ _ s _ _ _ e).1 (refuses_not_zero r.refusal) ∙ act_met s action h)

-- and the answer names a member where that of the tidy form does
pub named_by_step : (r m : Result State RefusedAction) → IfErr r (λ e. is_some e.member ≡ names_member e.refusal)
    → (s : State) (E : RefusedAction → RefusedAction → Type 0) → MatchResult r (λ next. m ≡ Ok next) (λ e. IsErrAnd m (E e))
    → ((e q : RefusedAction) → E e q → q ≡ record { refusal = e.refusal; member = e.member; state = s })
    → IfErr m (λ q. is_some q.member ≡ names_member q.refusal)
named_by_step (Ok next) m named s E cases given = rw cases named
named_by_step (Err r) (Ok next) named s E cases given = absurd cases
named_by_step (Err r) (Err q) named s E cases given = rw (given r q cases) named
