-- Which state rule an answer on a state says is broken: for each of 41 to 47, the first one that is. Assumes nothing.
--
--   NamesRule s n          the number n of an answer is the one at place k of 41 to 47 exactly where the rule at place k is the first
--                          that s breaks
--   AllNameRule s          so is the number of every answer on s
--   all_name_rule          of every state
use Rattle.std.specs.Prelude.{ℕ, ◌<◌, ◌≡◌, refl, Bool, true, false, not, List, ◌∷◌, ◌↔◌, ltb, length, get_or}
use Rattle.std.proofs.Common.{sym, ap, ◌∙◌}
use Rattle.logic.specs.Tests.{every, every_at, true_false}
use Rattle.logic.specs.Refuse.{first_refusal, refuse, by_number, listed, listed_at, listed_apart, first_yes, first_no, FailsFirst}
use Rattle.parts.specs.Refusal.{accepted, buffer_short, not_renaming}
use Rattle.cluster.specs.declared.State.{State}
use Rattle.cluster.specs.declared.Action.{Action}
use Rattle.cluster.specs.Answer.{ActionAnswer}
use Rattle.cluster.specs.Answer.{Outcome}
use Rattle.cluster.specs.State.{replica_count_of}
use Rattle.cluster.specs.Outcome.{answer, as_given}
use Rattle.cluster.specs.Rules.{rule_tests, rules, state_refusal, state_numbers}
use Rattle.cluster.specs.RuleLaws.{met_refusal, broken_refusal, broken_first}
use Rattle.cluster.specs.Act.{refusal, act}
use Rattle.actions.specs.Answers.{action_numbers, act_number, act_unmet}
use Rattle.actions.proofs.ActionNumbers.{met_listed}
use Rattle.questions.specs.declared.Property.{Property}
use Rattle.questions.specs.Answer.{OfferAnswer}
use Rattle.questions.specs.Isr.{ask_isr}
use Rattle.questions.specs.IsrTheorems.{isr_number}
use Rattle.questions.specs.Offer.{offer}
use Rattle.questions.specs.OfferTheorems.{offer_broken, offer_broken_is}
use Rattle.images.specs.Answer.{Written}
use Rattle.images.specs.Image.{image, written, write_refusal, write_image}
use Rattle.renamings.specs.Names.{is_renaming}
use Rattle.renamings.specs.Rename.{renamed, rename_refusal, rename}
use Rattle.representatives.specs.Representative.{represent}
use Rattle.representatives.specs.CodeLaws.{represent_number}

-- "41 to 47 stand for S1 to S7 in place of 1, in its place in every order"
abbrev pub NamesRule : State → ℕ → Type 0
NamesRule s n = (k : ℕ) → k < length state_numbers → n ≡ get_or state_numbers k accepted ↔ FailsFirst (rule_tests s) k

-- a state that meets the rules breaks none first
none_first : (s : State) (k : ℕ) → rules s ≡ true → FailsFirst (rule_tests s) k → ⊥
unfolding rules
none_first s k h f = true_false (sym (every_at (rule_tests s) h k) ∙ f.fails)

-- the number of a state that breaks a rule, and none of 41 to 47 of one that meets them all
names_rule : (s : State) (n : ℕ) → (rules s ≡ false → n ≡ state_refusal s) → (rules s ≡ true → listed state_numbers n ≡ false) → NamesRule s n
names_rule s n broken met k l = go (rules s) refl
  where
    go : (b : Bool) → rules s ≡ b → n ≡ get_or state_numbers k accepted ↔ FailsFirst (rule_tests s) k
    go false h = ((λ e. (broken_first s k l).0 (sym (broken h) ∙ e)), (λ f. broken h ∙ (broken_first s k l).1 f))
    go true h = (
      (λ e. absurd (true_false (sym (listed_at state_numbers k l) ∙ ap (listed state_numbers) (sym e) ∙ met h))),
      (λ f. absurd (none_first s k h f)),
    )

-- so of a number that is the state's, and of one that comes behind it and is none of 41 to 47
pub state_names_rule : (s : State) (n : ℕ) → n ≡ state_refusal s → NamesRule s n
state_names_rule s n e k l = ((λ h. (broken_first s k l).0 (sym e ∙ h)), (λ f. e ∙ (broken_first s k l).1 f))

pub behind_names_rule : (s : State) (rest : ℕ) → listed state_numbers rest ≡ false → NamesRule s (first_refusal (state_refusal s) rest)
behind_names_rule s rest other =
    names_rule s (first_refusal (state_refusal s) rest)
    (λ h. sym (first_yes (state_refusal s) rest (broken_refusal s h)))
    (λ h. ap (listed state_numbers) (sym (first_no (state_refusal s) rest (met_refusal s h))) ∙ other)

one_refusal : (test : Bool) (number : ℕ) → listed state_numbers number ≡ false → listed state_numbers (refuse test number accepted) ≡ false
unfolding refuse listed
one_refusal true number h = h
one_refusal false number h = refl

-- every answer on a state: an action, weak and strong ISR, an offer, writing, renaming, the representative
pub record AllNameRule (s : State) : Type 0 where
  pub by_action : (action : Action) → NamesRule s (act s action).refusal
  pub by_isr : (property : Property) → NamesRule s (ask_isr property s).refusal
  pub by_offer : (kind : ℕ) → NamesRule s (offer s kind).refusal
  pub by_writing : (buffer : List ℕ) → NamesRule s (write_image s buffer).refusal
  pub by_renaming : (p : List ℕ) → NamesRule s (rename s p).refusal
  pub by_representative : NamesRule s (represent s).refusal

action_names : (s : State) (action : Action) → NamesRule s (act s action).refusal
unfolding listed every
action_names s action =
    names_rule s (act s action).refusal (λ h. ap (λ (a : ActionAnswer). a.refusal) (act_unmet s action h))
    (λ h. ap (listed state_numbers) (act_number s action) ∙ listed_apart (accepted ∷ action_numbers) state_numbers (refusal s action) refl (met_listed s action h))

offer_names : (s : State) (kind : ℕ) → NamesRule s (offer s kind).refusal
offer_names s kind =
    names_rule s (offer s kind).refusal (λ h. ap (λ (o : OfferAnswer). o.refusal) (offer_broken_is s kind h))
    (λ h. go h (listed state_numbers (offer s kind).refusal) refl)
  where
    go : rules s ≡ true → (b : Bool) → listed state_numbers (offer s kind).refusal ≡ b → b ≡ false
    go h true e = absurd (true_false (sym h ∙ (offer_broken s kind).0 e))
    go h false e = refl

writing_names : (s : State) (buffer : List ℕ) → NamesRule s (write_image s buffer).refusal
unfolding write_image write_refusal listed
writing_names s buffer =
    rw (by_number (λ (w : Written). w.refusal) (write_refusal s buffer) (λ n. written n 0) (written accepted (length (image s))) (λ k. refl) refl)
    (behind_names_rule s _ (one_refusal (ltb (length buffer) (length (image s))) buffer_short refl))

renaming_names : (s : State) (p : List ℕ) → NamesRule s (rename s p).refusal
unfolding rename rename_refusal listed
renaming_names s p =
    rw (by_number (λ (o : Outcome). o.refusal) (rename_refusal s p) (as_given s) (answer accepted (renamed p s)) (λ k. refl) refl)
    (behind_names_rule s _ (one_refusal (not (is_renaming (replica_count_of s.limits) p)) not_renaming refl))

pub all_name_rule : (s : State) → AllNameRule s
all_name_rule s =
    record {
      by_action = action_names s;
      by_isr = λ property. state_names_rule s (ask_isr property s).refusal (isr_number property s);
      by_offer = offer_names s;
      by_writing = writing_names s;
      by_renaming = renaming_names s;
      by_representative = state_names_rule s (represent s).refusal (represent_number s);
    }
