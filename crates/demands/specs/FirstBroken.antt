-- Which rule is the first that a state breaks, by the rules as predicates; and which of 41 to 47 the C functions return. Assumes nothing.
--
--   RuleNumbers s n              n is 41 exactly where s breaks S1, 42 exactly where it meets S1 and breaks S2, and so on to 47
--   rule_numbers                 so is the number of every answer that NamesRule speaks of
--   NamesBehindWidth state n     of bytes that come as a state: n is the number at place k exactly where they are 226, and the rule at
--                                place k is the first that their state breaks
--   InterfaceNamesRule           so is the number of every C function that takes a state
use Rattle.std.specs.Prelude.{ℕ, suc, ◌<◌, ◌≡◌, refl, Bool, true, false, List, ◌↔◌, ltb, eqb, length, get_or}
use Rattle.std.proofs.Common.{sym, ap, ◌∙◌, arith, le-ltb}
use Rattle.std.proofs.Math.Decide.{ℕ_discrete}
use Rattle.logic.specs.Tests.{refuted_iff}
use Rattle.logic.specs.Refuse.{FailsFirst, refuse, listed, listed_at, listed_not, refuse_none, by_accepted, by_refused}
use Rattle.parts.specs.Refusal.{accepted, not_renaming, breaks_s1, breaks_s2, breaks_s3, breaks_s4, breaks_s5, breaks_s6, breaks_s7}
use Rattle.cluster.specs.declared.State.{State}
use Rattle.cluster.specs.Rules.{rule_tests, state_refusal, state_numbers}
use Rattle.cluster.specs.Predicates.{S1, S2, S3, S4, S5, S6, S7, rule1_iff, rule2_iff, rule3_iff, rule4_iff, rule5_iff, rule6_iff, rule7_iff}
use Rattle.cluster.specs.Act.{action_of, act}
use Rattle.questions.specs.declared.Property.TheVariants.{WeakIsr, StrongIsr}
use Rattle.questions.specs.Isr.{weak_isr, strong_isr}
use Rattle.questions.specs.Offer.{offer}
use Rattle.representatives.specs.Representative.{represent}
use Rattle.flat.specs.Flat.{flat_width, state_of_flat}
use Rattle.replay.specs.Interface.{Reply, refuses, gives, number, reply_by, state_reply, outcome_reply, action_reply, isr_reply, offer_reply, image_reply, rename_by, width_refusal, on_state, replay_act, replay_weak, replay_strong, replay_offer, replay_write_image, replay_rename, replay_representative}
use Rattle.replay.specs.InterfaceLaws.{width_right, on-state, on_state_refused}
use Rattle.demands.specs.BrokenRule.{NamesRule, all_name_rule, state_names_rule, behind_names_rule}

-- ---- the rules as predicates
-- an answer has the number of a rule exactly where the state breaks that rule and meets every one before it
pub record RuleNumbers (s : State) (n : ℕ) : Type 0 where
  pub one : n ≡ breaks_s1 ↔ ¬ (S1 s)
  pub two : n ≡ breaks_s2 ↔ S1 s × ¬ (S2 s)
  pub three : n ≡ breaks_s3 ↔ S1 s × S2 s × ¬ (S3 s)
  pub four : n ≡ breaks_s4 ↔ S1 s × S2 s × S3 s × ¬ (S4 s)
  pub five : n ≡ breaks_s5 ↔ S1 s × S2 s × S3 s × S4 s × ¬ (S5 s)
  pub six : n ≡ breaks_s6 ↔ S1 s × S2 s × S3 s × S4 s × S5 s × ¬ (S6 s)
  pub seven : n ≡ breaks_s7 ↔ S1 s × S2 s × S3 s × S4 s × S5 s × S6 s × ¬ (S7 s)

module _ (tests : List Bool) where
  none_before : (j : ℕ) → j < 0 → get_or tests j true ≡ true
  none_before j l = absurd (omega arith)

  one_more : (k : ℕ) → ((j : ℕ) → j < k → get_or tests j true ≡ true) → get_or tests k true ≡ true
      → (j : ℕ) → j < suc k → get_or tests j true ≡ true
  one_more k before own j l =
      elim (ℕ_discrete j k) [
        | yes e ↦ rw e own
        | no e ↦ before j (omega arith)
      ]

pub rule_numbers : (s : State) (n : ℕ) → NamesRule s n → RuleNumbers s n
rule_numbers s n names =
    record {
      one = (
        (λ e. (refuted_iff _ (r1.1, r1.0)).1 ((names 0 (omega arith)).0 e).fails),
        (λ t. (names 0 (omega arith)).1 (record { fails = (refuted_iff _ (r1.1, r1.0)).0 t; before = none_before l })),
      );
      two = (
        (λ e. let f = (names 1 (omega arith)).0 e in (r1.0 (f.before 0 (omega arith)), (refuted_iff _ (r2.1, r2.0)).1 f.fails)),
        (λ t. (names 1 (omega arith)).1 (record { fails = (refuted_iff _ (r2.1, r2.0)).0 t.1; before = to1 t.0 })),
      );
      three = (
        (λ e.
            let f = (names 2 (omega arith)).0 e in
            (r1.0 (f.before 0 (omega arith)), r2.0 (f.before 1 (omega arith)), (refuted_iff _ (r3.1, r3.0)).1 f.fails)),
        (λ t. (names 2 (omega arith)).1 (record { fails = (refuted_iff _ (r3.1, r3.0)).0 t.2; before = to2 t.0 t.1 })),
      );
      four = (
        (λ e.
            let f = (names 3 (omega arith)).0 e in
            (r1.0 (f.before 0 (omega arith)), r2.0 (f.before 1 (omega arith)), r3.0 (f.before 2 (omega arith)), (refuted_iff _ (r4.1, r4.0)).1 f.fails)),
        (λ t. (names 3 (omega arith)).1 (record { fails = (refuted_iff _ (r4.1, r4.0)).0 t.3; before = to3 t.0 t.1 t.2 })),
      );
      five = (
        (λ e.
            let f = (names 4 (omega arith)).0 e in
            (r1.0 (f.before 0 (omega arith)), r2.0 (f.before 1 (omega arith)), r3.0 (f.before 2 (omega arith)), r4.0 (f.before 3 (omega arith)), (refuted_iff _ (r5.1, r5.0)).1 f.fails)),
        (λ t. (names 4 (omega arith)).1 (record { fails = (refuted_iff _ (r5.1, r5.0)).0 t.4; before = to4 t.0 t.1 t.2 t.3 })),
      );
      six = (
        (λ e.
            let f = (names 5 (omega arith)).0 e in
            (r1.0 (f.before 0 (omega arith)), r2.0 (f.before 1 (omega arith)), r3.0 (f.before 2 (omega arith)), r4.0 (f.before 3 (omega arith)), r5.0 (f.before 4 (omega arith)), (refuted_iff _ (r6.1, r6.0)).1 f.fails)),
        (λ t. (names 5 (omega arith)).1 (record { fails = (refuted_iff _ (r6.1, r6.0)).0 t.5; before = to5 t.0 t.1 t.2 t.3 t.4 })),
      );
      seven = (
        (λ e.
            let f = (names 6 (omega arith)).0 e in
            (r1.0 (f.before 0 (omega arith)), r2.0 (f.before 1 (omega arith)), r3.0 (f.before 2 (omega arith)), r4.0 (f.before 3 (omega arith)), r5.0 (f.before 4 (omega arith)), r6.0 (f.before 5 (omega arith)), (refuted_iff _ (r7.1, r7.0)).1 f.fails)),
        (λ t. (names 6 (omega arith)).1 (record { fails = (refuted_iff _ (r7.1, r7.0)).0 t.6; before = one_more l 5 (to5 t.0 t.1 t.2 t.3 t.4) (r6.1 t.5) })),
      );
    }
  where
    l : List Bool
    l = rule_tests s

    r1 : get_or (rule_tests s) 0 true ≡ true ↔ S1 s
    r1 = rule1_iff s

    r2 : get_or (rule_tests s) 1 true ≡ true ↔ S2 s
    r2 = rule2_iff s

    r3 : get_or (rule_tests s) 2 true ≡ true ↔ S3 s
    r3 = rule3_iff s

    r4 : get_or (rule_tests s) 3 true ≡ true ↔ S4 s
    r4 = rule4_iff s

    r5 : get_or (rule_tests s) 4 true ≡ true ↔ S5 s
    r5 = rule5_iff s

    r6 : get_or (rule_tests s) 5 true ≡ true ↔ S6 s
    r6 = rule6_iff s

    r7 : get_or (rule_tests s) 6 true ≡ true ↔ S7 s
    r7 = rule7_iff s

    to1 : S1 s → (j : ℕ) → j < 1 → get_or (rule_tests s) j true ≡ true
    to1 a = one_more (rule_tests s) 0 (none_before (rule_tests s)) (r1.1 a)

    to2 : S1 s → S2 s → (j : ℕ) → j < 2 → get_or (rule_tests s) j true ≡ true
    to2 a b = one_more (rule_tests s) 1 (to1 a) (r2.1 b)

    to3 : S1 s → S2 s → S3 s → (j : ℕ) → j < 3 → get_or (rule_tests s) j true ≡ true
    to3 a b c = one_more (rule_tests s) 2 (to2 a b) (r3.1 c)

    to4 : S1 s → S2 s → S3 s → S4 s → (j : ℕ) → j < 4 → get_or (rule_tests s) j true ≡ true
    to4 a b c d = one_more (rule_tests s) 3 (to3 a b c) (r4.1 d)

    to5 : S1 s → S2 s → S3 s → S4 s → S5 s → (j : ℕ) → j < 5 → get_or (rule_tests s) j true ≡ true
    to5 a b c d e = one_more (rule_tests s) 4 (to4 a b c d) (r5.1 e)

-- ---- the C functions that take a state
abbrev pub NamesBehindWidth : List ℕ → ℕ → Type 0
NamesBehindWidth state n = (k : ℕ) → k < length state_numbers
    → n ≡ get_or state_numbers k accepted ↔ (length state ≡ flat_width) × FailsFirst (rule_tests (state_of_flat state)) k

not_of_rule : (n : ℕ) → listed state_numbers n ≡ false → (k : ℕ) → k < length state_numbers → n ≡ get_or state_numbers k accepted → ⊥
not_of_rule n f k l e = listed_not state_numbers (get_or state_numbers k accepted) n (listed_at state_numbers k l) f (sym e)

-- 24 and 0 are none of 41 to 47
given_unlisted : (bytes out : List ℕ) → listed state_numbers (number (gives bytes) out) ≡ false
unfolding number listed
given_unlisted bytes out = go (ltb (length out) (length bytes)) refl
  where
    go : (b : Bool) → ltb (length out) (length bytes) ≡ b → listed state_numbers (number (gives bytes) out) ≡ false
    go true e = rw e refl
    go false e = rw e refl

reply_names : (s : State) (n : ℕ) (bytes out : List ℕ) → NamesRule s n → NamesRule s (number (reply_by n (gives bytes)) out)
unfolding number listed
reply_names s n bytes out names k l =
    elim (ℕ_discrete n accepted) [
      | yes e ↦
          let given : number (gives bytes) out ≡ number (reply_by n (gives bytes)) out = ap (λ (r : Reply). number r out) (by_accepted n refuses (gives bytes) e) in (
            (λ q. absurd (not_of_rule (number (gives bytes) out) (given_unlisted bytes out) k l (given ∙ q))),
            (λ f. absurd (not_of_rule accepted refl k l (sym e ∙ (names k l).1 f))),
          )
      | no e ↦
          let own : n ≡ number (reply_by n (gives bytes)) out = ap (λ (r : Reply). number r out) (by_refused n refuses (gives bytes) e) in
          ((λ q. (names k l).0 (own ∙ q)), (λ f. sym own ∙ (names k l).1 f))
    ]

width_taken : (state : List ℕ) → length state ≡ flat_width → width_refusal state ≡ accepted
unfolding width_refusal
width_taken state h =
    refuse_none _ _ _ (le-ltb (length state) flat_width (omega (arith, h)))
    (refuse_none _ _ _ (le-ltb flat_width (length state) (omega (arith, h))) refl)

width_unlisted : (state : List ℕ) → listed state_numbers (width_refusal state) ≡ false
unfolding width_refusal listed refuse
width_unlisted state = go (ltb (length state) flat_width) refl (ltb flat_width (length state)) refl
  where
    go : (b : Bool) → ltb (length state) flat_width ≡ b → (c : Bool) → ltb flat_width (length state) ≡ c → listed state_numbers (width_refusal state) ≡ false
    go true e c f = rw e refl
    go false e true f = rw (e, f) refl
    go false e false f = rw (e, f) refl

on_state_names : (state : List ℕ) (reply : State → Reply) (out : List ℕ)
    → NamesRule (state_of_flat state) (number (reply (state_of_flat state)) out) → NamesBehindWidth state (number (on_state state reply) out)
on_state_names state reply out names k l =
    elim (ℕ_discrete (width_refusal state) accepted) [
      | yes h ↦
          let same : number (reply (state_of_flat state)) out ≡ number (on_state state reply) out = ap (λ (r : Reply). number r out) (on-state state reply h) in
          ((λ q. (width_right state h, (names k l).0 (same ∙ q))), (λ t. sym same ∙ (names k l).1 t.1))
      | no h ↦
          let own : width_refusal state ≡ number (on_state state reply) out = (on_state_refused state reply out (width_refusal state) refl h).0 in
          ((λ q. absurd (not_of_rule (width_refusal state) (width_unlisted state) k l (own ∙ q))), (λ t. absurd (h (width_taken state t.0))))
    ]

pub record InterfaceNamesRule (state out : List ℕ) : Type 0 where
  pub by_act : (kind a b e : ℕ) → NamesBehindWidth state (number (replay_act state kind a b e) out)
  pub by_weak : NamesBehindWidth state (number (replay_weak state) out)
  pub by_strong : NamesBehindWidth state (number (replay_strong state) out)
  pub by_offer : (kind : ℕ) → NamesBehindWidth state (number (replay_offer state kind) out)
  pub by_write_image : NamesBehindWidth state (number (replay_write_image state) out)
  pub by_rename : (places : List ℕ) → NamesBehindWidth state (number (replay_rename state places) out)
  pub by_representative : NamesBehindWidth state (number (replay_representative state) out)

rename_by_names : (s : State) (places : List ℕ) → NamesRule s (rename_by s places).refusal
unfolding rename_by listed
rename_by_names s places = go (eqb (length places) 5) refl
  where
    go : (b : Bool) → eqb (length places) 5 ≡ b → NamesRule s (rename_by s places).refusal
    go true e = rw e ((all_name_rule s).by_renaming places)
    go false e = rw e (behind_names_rule s not_renaming refl)

pub interface_names_rule : (state out : List ℕ) → InterfaceNamesRule state out
unfolding replay_act replay_weak replay_strong replay_offer replay_write_image replay_rename replay_representative state_reply isr_reply offer_reply image_reply
interface_names_rule state out =
    let s = state_of_flat state in
    let all = all_name_rule s in
    record {
      by_act = λ kind a b e. on_state_names state (λ t. action_reply (act t (action_of kind a b e))) out (reply_names s _ _ out (all.by_action (action_of kind a b e)));
      by_weak = on_state_names state (λ t. isr_reply (weak_isr t)) out (reply_names s _ _ out (all.by_isr WeakIsr));
      by_strong = on_state_names state (λ t. isr_reply (strong_isr t)) out (reply_names s _ _ out (all.by_isr StrongIsr));
      by_offer = λ kind. on_state_names state (λ t. offer_reply (offer t kind)) out (reply_names s _ _ out (all.by_offer kind));
      by_write_image = on_state_names state image_reply out (reply_names s _ _ out (state_names_rule s (state_refusal s) refl));
      by_rename = λ places. on_state_names state (λ t. outcome_reply (rename_by t places)) out (reply_names s _ _ out (rename_by_names s places));
      by_representative = on_state_names state (λ t. outcome_reply (represent t)) out (reply_names s _ _ out all.by_representative);
    }
