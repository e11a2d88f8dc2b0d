-- Demand 3 of states and actions, for every state that meets the rules and every five places that are a renaming of its
-- replicas. "Broker numbers are only names." Assumes nothing.
use Rattle.std.specs.Prelude.{ℕ, ◌≤◌, ◌<◌, ◌≡◌, true, false, List, ◌↔◌}
use Rattle.std.proofs.Math.Path.{refl, sym, ap, ap₂, subst}
use Rattle.std.proofs.Common.{◌∙◌, le_refl, arith}
use Rattle.parts.specs.Isr.{member}
use Rattle.cluster.specs.declared.State.{State}
use Rattle.cluster.specs.declared.Action.{Action}
use Rattle.cluster.specs.Answer.{ActionAnswer}
use Rattle.cluster.specs.declared.MemberTest.{MemberTest}
use Rattle.cluster.specs.State.{next_leader_epoch_of, next_record_id_of, request_at, replica_count_of, replica_at, Same, tidy}
use Rattle.cluster.specs.Rules.{rules}
use Rattle.cluster.specs.Equality.{same_sym, same_iff_tidy, tidy_same}
use Rattle.cluster.specs.Actions.{passes_test}
use Rattle.cluster.specs.Act.{kind_of, uses, action_answer, without_member, act}
use Rattle.actions.specs.Kept.{step_kept, step_is_act}
use Rattle.actions.specs.Answers.{act_same}
use Rattle.actions.specs.MemberNamed.{test_number, SmallestMember, isr_tidy, passes_tidy, named_kind, named_below}
use Rattle.actions.proofs.NamedMember.{member-named}
use Rattle.questions.specs.declared.Property.{Property}
use Rattle.questions.specs.Answer.{IsrAnswer}
use Rattle.questions.specs.Isr.{ask_isr}
use Rattle.questions.specs.IsrTheorems.{isr_same}
use Rattle.questions.specs.Exposed.{exposed, exposed_same}
use Rattle.renamings.specs.Names.{new_name, old_name, inverted, composed}
use Rattle.renamings.specs.Rename.{rename_isr, rename_quorum, rename_request, Renames, rename_replica, rename_state, rename_action, renamed, Met}
use Rattle.renamings.specs.Renaming.{Renaming, from_below}
use Rattle.renamings.specs.Rows.{five, renaming_of}
use Rattle.renamings.specs.Places.{state_five, composed_state, inverted_state}
use Rattle.renamings.specs.PartsRenamed.{member_renamed, replica_renamed, request_renamed}
use Rattle.renamings.specs.TidyRenamed.{met_tidy, at_most_five, fits, met_renamed}
use Rattle.renamings.specs.Group.{rename_twice, rename_back}
use Rattle.renamings.specs.ActionsRenamed.{isr_member_renamed, passes_test_renamed}
use Rattle.renamings.specs.ActRenamed.{operand_used, act_renamed}
use Rattle.renamings.specs.QuestionsRenamed.{holds_renamed, exposed_renamed}

-- ---- what is a renaming of a state goes by R alone, so it is one of the tidy state and of the renamed state too
pub renames_tidy : (s : State) (p : List ℕ) → Renames s p ↔ Renames (tidy s) p
unfolding tidy
renames_tidy s p = ((λ f. f), (λ f. f))

pub renames_renamed : (s : State) (p q : List ℕ) → Renames s q ↔ Renames (renamed p s) q
unfolding renamed tidy
renames_renamed s p q = ((λ f. f), (λ f. f))

-- only the first five numbers of a list count, so a renaming is five bytes
pub renamed_five : (s : State) (p : List ℕ) → renamed (five p) s ≡ renamed p s
unfolding renamed
renamed_five s p = state_five p (tidy s)

-- equal states are equal under every renaming
pub renamed_same : (s t : State) (p : List ℕ) → Same s t → renamed p s ≡ renamed p t
unfolding renamed
renamed_same s t p m = ap (rename_state (new_name p) (old_name p)) ((same_iff_tidy s t).0 m)

-- under p, m is the new name of a member of a's ISR with the fault of the test, and no smaller new name is
pub record SmallestNewName (p : List ℕ) (test : MemberTest) (s : State) (a m : ℕ) : Type 0 where
  pub below : m < replica_count_of s.limits
  pub in_isr : member (replica_at s a).isr (old_name p m) ≡ true
  pub fault : passes_test test s a (old_name p m) ≡ false
  pub smaller : (j : ℕ) → j < m → member (replica_at s a).isr (old_name p j) ≡ true → passes_test test s a (old_name p j) ≡ true

-- ---- of any state that meets the rules, by its tidy form
module _ (s : State) (h : rules s ≡ true) (p : List ℕ) (f : Renames s p) where
  met : Met (tidy s)
  met = met_tidy s h

  small : replica_count_of (tidy s).limits ≤ 5
  small = at_most_five (tidy s) met

  abbrev renaming_by : (q : List ℕ) → Renames s q → Renaming (replica_count_of (tidy s).limits)
  renaming_by q g = renaming_of (replica_count_of (tidy s).limits) small q ((renames_tidy s q).0 g)

  abbrev renaming_by_p : Renaming (replica_count_of (tidy s).limits)
  renaming_by_p = renaming_by p f

  renamed_is_met : Met (renamed p s)
  unfolding renamed
  renamed_is_met = met_renamed (tidy s) met renaming_by_p

  -- a renaming keeps S1 to S7
  pub renamed_meets_rules : rules (renamed p s) ≡ true
  renamed_meets_rules = renamed_is_met.rules

  -- and puts zeros in unused room
  pub renamed_is_tidy : tidy (renamed p s) ≡ renamed p s
  renamed_is_tidy = renamed_is_met.tidy

  -- R, L, M, X, next epoch and next id stay
  pub renamed_rest : ((renamed p s).limits ≡ s.limits) × (next_leader_epoch_of (renamed p s) ≡ next_leader_epoch_of s) × (next_record_id_of (renamed p s) ≡ next_record_id_of s)
  unfolding renamed tidy
  renamed_rest = (refl, refl, refl)

  -- the quorum and each request are renamed
  pub renamed_quorum : (renamed p s).quorum ≡ rename_quorum (new_name p) (old_name p) s.quorum
  unfolding renamed tidy
  renamed_quorum = refl

  pub renamed_request : (e : ℕ) → request_at (renamed p s) e ≡ rename_request (new_name p) (old_name p) (request_at (tidy s) e)
  unfolding renamed
  renamed_request = request_renamed renaming_by_p small (tidy s)

  -- "It gives replica p(i) the whole block of replica i"
  pub renamed_block : (i : ℕ) → replica_at (renamed p s) (new_name p i) ≡ rename_replica (new_name p) (old_name p) (replica_at (tidy s) i)
  unfolding renamed
  renamed_block i = replica_renamed renaming_by_p small (tidy s) i (fits (tidy s) met).five

  -- in an ISR p(i) stands for i: p(i) is in the renamed ISR exactly where i is in the ISR
  pub renamed_member : (isr i : ℕ) → member (rename_isr (old_name p) isr) (new_name p i) ≡ member isr i
  renamed_member = member_renamed renaming_by_p small

  -- the action with p(i) for i
  abbrev renamed_action : Action → Action
  renamed_action = rename_action (replica_count_of s.limits) (new_name p)

  -- an action of any four bytes: the renamed action on the renamed state gets the same number, and the state handed back is
  -- the first one's, renamed; the member named is left out, and nothing else
  pub renamed_act : (action : Action)
      → without_member (act (renamed p s) (renamed_action action)) ≡ action_answer (act s action).refusal 0 (renamed p (act s action).state)
  unfolding renamed
  renamed_act action =
      let equal = act_same s (tidy s) (same_sym (tidy s) s (tidy_same s)) action in
      let state : tidy (act s action).state ≡ (act (tidy s) action).state =
      (same_iff_tidy (act s action).state (act (tidy s) action).state).0 equal.2
      ∙ subst (λ (o : ActionAnswer). tidy o.state ≡ o.state) (step_is_act (tidy s) action met.rules met.tidy)
      (step_kept (tidy s) action met.rules met.tidy).tidy in
      let here : without_member (act (rename_state (new_name p) (old_name p) (tidy s)) (renamed_action action))
      ≡ action_answer (act (tidy s) action).refusal 0 (rename_state (new_name p) (old_name p) (act (tidy s) action).state) =
      unfold tidy in act_renamed (tidy s) renaming_by_p met action in
      here
      ∙ ap₂ (λ (k : ℕ) (t : State). action_answer k 0 (rename_state (new_name p) (old_name p) t)) (sym equal.0) (sym state)

  -- where 48 or 49 is given, the kind uses its first operand, so that is renamed
  operand_named : (test : MemberTest) (action : Action) → (act s action).refusal ≡ test_number test → (renamed_action action).a ≡ new_name p action.a
  unfolding rename_action tidy uses
  operand_named test action e =
      operand_used renaming_by_p (uses (kind_of action.kind)).a action.a (ap (λ k. (uses k).a) (named_kind test s action e))

  -- of a replica a below R: what is asked of the renamed state by new names is what is asked of the state by old ones
  module _ (a : ℕ) (la : a < replica_count_of s.limits) where
    five_replicas : replica_count_of s.limits ≤ 5
    five_replicas = unfold tidy in small

    old_below : (j : ℕ) → j < replica_count_of s.limits → old_name p j < replica_count_of s.limits
    old_below j l = unfold tidy in from_below renaming_by_p (replica_count_of s.limits) (le_refl (replica_count_of s.limits)) j l

    member_by_old_name : (j : ℕ) → member (replica_at (renamed p s) (new_name p a)).isr j ≡ member (replica_at s a).isr (old_name p j)
    unfolding renamed
    member_by_old_name j =
        ap (member (replica_at (rename_state (new_name p) (old_name p) (tidy s)) (new_name p a)).isr) (sym (renaming_by_p.to_from j))
        ∙ isr_member_renamed (tidy s) renaming_by_p small (fits (tidy s) met).five a (old_name p j)
        ∙ ap (λ isr. member isr (old_name p j)) (isr_tidy s five_replicas a la)

    passes_by_old_name : (test : MemberTest) (j : ℕ) → j < replica_count_of s.limits
        → passes_test test (renamed p s) (new_name p a) j ≡ passes_test test s a (old_name p j)
    unfolding renamed
    passes_by_old_name test j l =
        ap (passes_test test (rename_state (new_name p) (old_name p) (tidy s)) (new_name p a)) (sym (renaming_by_p.to_from j))
        ∙ passes_test_renamed (tidy s) renaming_by_p small (fits (tidy s) met).five test a (old_name p j)
        ∙ passes_tidy s five_replicas a la test (old_name p j) (old_below j l)

    smallest_by_old_name : (test : MemberTest) (m : ℕ) → SmallestMember test (renamed p s) (new_name p a) m → SmallestNewName p test s a m
    smallest_by_old_name test m f =
        let l : m < replica_count_of s.limits = subst (λ c. m < replica_count_of c) renamed_rest.0 f.below in
        record {
          below = l;
          in_isr = sym (member_by_old_name m) ∙ f.in_isr;
          fault = sym (passes_by_old_name test m l) ∙ f.fault;
          smaller = λ j k h. sym (passes_by_old_name test j (omega (arith, l, k))) ∙ f.smaller j k (member_by_old_name j ∙ h);
        }

  -- what does hold of the member, of every answer by 48 or 49: the renamed action's has the same fault, and is the smallest new name
  -- with it
  pub renamed_member_named : (test : MemberTest) (action : Action) → (act s action).refusal ≡ test_number test
      → SmallestNewName p test s action.a (act (renamed p s) (renamed_action action)).member
  renamed_member_named test action e =
      let same : (act (renamed p s) (renamed_action action)).refusal ≡ test_number test =
      ap (λ (o : ActionAnswer). o.refusal) (renamed_act action) ∙ e in
      let named = member-named test (renamed p s) (renamed_action action) same in
      smallest_by_old_name action.a (named_below test s action e) test (act (renamed p s) (renamed_action action)).member
      (subst (λ i. SmallestMember test (renamed p s) i (act (renamed p s) (renamed_action action)).member) (operand_named test action e) named)

  -- weak and strong ISR hold of both states or of neither
  pub renamed_holds : (property : Property) → (ask_isr property (renamed p s)).holds ≡ (ask_isr property s).holds
  unfolding renamed
  renamed_holds property =
      holds_renamed (tidy s) renaming_by_p met property ∙ ap (λ (a : IsrAnswer). a.holds) (isr_same property (tidy s) s (tidy_same s))

  -- the greatest hw of a presuming replica is the same
  pub renamed_exposed : exposed (renamed p s) ≡ exposed s
  unfolding renamed
  renamed_exposed = exposed_renamed (tidy s) renaming_by_p met ∙ exposed_same (tidy s) s small (tidy_same s)

  -- the inverse leads back to the state, tidy
  pub renamed_back : renamed (inverted p) (renamed p s) ≡ tidy s
  unfolding renamed
  renamed_back =
      ap (rename_state (new_name (inverted p)) (old_name (inverted p))) renamed_is_met.tidy
      ∙ inverted_state (replica_count_of (tidy s).limits) small p ((renames_tidy s p).0 f) (rename_state (new_name p) (old_name p) (tidy s))
      ∙ rename_back renaming_by_p small (tidy s) (fits (tidy s) met)

  -- first p and then q is one renaming
  pub renamed_twice : (q : List ℕ) → Renames s q → renamed q (renamed p s) ≡ renamed (composed q p) s
  unfolding renamed
  renamed_twice q g =
      ap (rename_state (new_name q) (old_name q)) renamed_is_met.tidy
      ∙ sym (rename_twice (renaming_by q g) renaming_by_p small (tidy s))
      ∙ sym (composed_state (replica_count_of (tidy s).limits) small q p ((renames_tidy s q).0 g) ((renames_tidy s p).0 f) (tidy s))
