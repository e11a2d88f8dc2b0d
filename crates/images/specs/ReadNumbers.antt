-- Which bytes reading refuses by the number of a state rule: 41 by the first ten bytes, 42 where an end above L is met, and
-- 42 to 47 by the state, where every part is there and nothing is left over. Assumes nothing.
use Rattle.std.specs.Prelude.{ℕ, ◌≤◌, ◌<◌, ◌≡◌, true, false, not, ◌||◌, List, [], ◌∷◌, ◌≢◌, ◌↔◌, eqb, length}
use Rattle.std.proofs.Math.Path.{refl, ap}
use Rattle.std.proofs.Common.{sym, ◌∙◌, arith, eqb-true, eq-eqb, ne_eqb, le-ltb}
use Rattle.std.proofs.Math.Decide.{ℕ_discrete}
use Rattle.std.proofs.Math.ListN.{get_or}
use Rattle.std.proofs.lemmas.Bool.{not-true}
use Rattle.logic.specs.Tests.{true_false, implied, either, all_below, all_at}
use Rattle.logic.specs.Refuse.{refuse_yes, refuse_no, refuse_this, first_yes, first_no, first_other, listed, listed_at, listed_not, FailsFirst}
use Rattle.parts.specs.Refusal.{accepted, wrong_mark, too_short, bad_configuration, left_over, breaks_s1, breaks_s2}
use Rattle.parts.specs.Mark.{byte_at, marked}
use Rattle.cluster.specs.declared.State.{State}
use Rattle.cluster.specs.State.{limits_of}
use Rattle.cluster.specs.Rules.{in_range, rule1, rule_tests, state_numbers}
use Rattle.cluster.specs.RuleLaws.{broken_first}
use Rattle.images.specs.Image.{mark_second, header_width, next_epoch_place, next_id_place}
use Rattle.images.specs.Read.{Parsed, missing, end_above, parsed, refusal_of, header_refusal, finished, body_of, read_image}
use Rattle.images.specs.ReadLaws.{header_past, header_in_range, header_numbers, header_listed, body_sizes, read_number, finished_number}

-- ---- by the first ten bytes: S1
-- they are there, with the mark, R, L, M, X are in range, and next epoch or next id is not
abbrev pub HeaderBreaks : List ℕ → Type 0
HeaderBreaks bs =
    (header_width ≤ length bs)
    × (marked mark_second bs ≡ true)
    × (in_range (limits_of bs) ≡ true)
    × (rule1 (limits_of bs) (byte_at bs next_epoch_place) (byte_at bs next_id_place) ≡ false)

pub header_breaks : (bs : List ℕ) → header_refusal bs ≡ breaks_s1 ↔ HeaderBreaks bs
unfolding header_refusal
header_breaks bs = (
  (λ h.
      let p = header_past bs breaks_s1 h (λ e. omega arith) (λ e. omega arith) (λ e. omega arith) in
      (p.0, p.1, p.2, not-true _ (refuse_this _ breaks_s1 accepted breaks_s1 p.3 (λ e. omega arith)))),
  (λ p.
      sym (refuse_yes _ breaks_s1 accepted (ap not p.3)
      ∙ refuse_no _ bad_configuration _ (ap not p.2)
      ∙ refuse_no _ wrong_mark _ (ap not p.1)
      ∙ refuse_no _ too_short _ (le-ltb (length bs) header_width p.0))),
)

-- they give the number of no other rule
header_lacks : (bs : List ℕ) (k : ℕ) → 0 < k → k < length state_numbers → header_refusal bs ≢ get_or state_numbers k accepted
unfolding all_below listed
header_lacks bs k low l =
    listed_not (accepted ∷ header_numbers) (header_refusal bs) (get_or state_numbers k accepted) (header_listed bs)
    (not-true _
    (either (eqb k 0) (not (listed (accepted ∷ header_numbers) (get_or state_numbers k accepted)))
    (all_at (length state_numbers) (λ j. eqb j 0 || not (listed (accepted ∷ header_numbers) (get_or state_numbers j accepted))) refl k l)
    (ne_eqb k 0 (λ e. omega arith))))

-- ---- by what follows them
-- what they give is refused by the number at place k: an end above L is met, and k is the place of S2; or every part is there,
-- nothing is left over, and S(k+1) is the first rule that the state breaks
pub data ReadBreaks (k : ℕ) (m : Parsed State) : Type 0 where
  by_end : k ≡ 1 → m ≡ end_above → ReadBreaks k m
  by_state : (s : State) → m ≡ parsed s [] → FailsFirst (rule_tests s) k → ReadBreaks k m

-- no other rule has the number of S2
place_of_s2 : (k : ℕ) → k < length state_numbers → breaks_s2 ≡ get_or state_numbers k accepted → k ≡ 1
unfolding all_below
place_of_s2 k l e =
    eqb-true k 1
    (implied (eqb breaks_s2 (get_or state_numbers k accepted)) (eqb k 1)
    (all_at (length state_numbers) (λ j. not (eqb breaks_s2 (get_or state_numbers j accepted)) || eqb j 1) refl k l)
    (eq-eqb breaks_s2 (get_or state_numbers k accepted) e))

module _ (k : ℕ) (l : k < length state_numbers) where
  -- a number that no rule has is not that of the rule
  no_rule : (n : ℕ) → listed state_numbers n ≡ false → n ≢ get_or state_numbers k accepted
  no_rule n f e = listed_not state_numbers (get_or state_numbers k accepted) n (listed_at state_numbers k l) f (sym e)

  refused_breaks : (m : Parsed State) → (finished m).refusal ≡ get_or state_numbers k accepted → ReadBreaks k m
  unfolding finished refusal_of listed
  refused_breaks missing h = absurd (no_rule too_short refl h)
  refused_breaks end_above h = by_end (place_of_s2 k l h) refl
  refused_breaks (parsed s (b ∷ bs)) h = absurd (no_rule left_over refl h)
  refused_breaks (parsed s []) h = by_state s refl ((broken_first s k l).0 (sym (finished_number s) ∙ h))

  breaks_refused : (m : Parsed State) → ReadBreaks k m → (finished m).refusal ≡ get_or state_numbers k accepted
  unfolding finished refusal_of
  breaks_refused m (by_end e h) = ap (λ (p : Parsed State). (finished p).refusal) h ∙ ap (λ (i : ℕ). get_or state_numbers i accepted) (sym e)
  breaks_refused m (by_state s h f) = ap (λ (p : Parsed State). (finished p).refusal) h ∙ finished_number s ∙ (broken_first s k l).1 f

-- ---- the whole
-- a number that the first ten bytes do not give is given exactly where they are not refused and what follows them gives it
read_past : (bs : List ℕ) (n : ℕ) → header_refusal bs ≢ n
    → (read_image bs).refusal ≡ n ↔ (header_refusal bs ≡ accepted) × ((finished (body_of bs)).refusal ≡ n)
read_past bs n other = (
  (λ h. first_other (header_refusal bs) (finished (body_of bs)).refusal n (read_number bs ∙ h) other),
  (λ p. sym (read_number bs) ∙ sym (first_no (header_refusal bs) (finished (body_of bs)).refusal p.0) ∙ p.1),
)

-- what follows the first ten bytes does not break S1, which they have met
body_meets_s1 : (bs : List ℕ) → header_refusal bs ≡ accepted → ReadBreaks 0 (body_of bs) → ⊥
body_meets_s1 bs h (by_end e m) = omega arith
body_meets_s1 bs h (by_state s m f) = true_false (sym (header_in_range bs h).sizes ∙ sym (body_sizes bs s [] m) ∙ f.fails)

-- 41 exactly where the first ten bytes are refused by S1
pub read_breaks_s1 : (bs : List ℕ) → (read_image bs).refusal ≡ breaks_s1 ↔ HeaderBreaks bs
read_breaks_s1 bs = (
  (λ h.
      elim (ℕ_discrete (header_refusal bs) breaks_s1) [
        | yes q ↦ (header_breaks bs).0 q
        | no q ↦ let p = (read_past bs breaks_s1 q).0 h in absurd (body_meets_s1 bs p.0 (refused_breaks 0 (omega arith) (body_of bs) p.1))
      ]),
  (λ p.
      let h = (header_breaks bs).1 p in
      sym (read_number bs) ∙ sym (first_yes (header_refusal bs) (finished (body_of bs)).refusal (λ z. omega (arith, sym h ∙ z))) ∙ h),
)

-- the number of any other rule exactly where the first ten bytes are not refused and what follows them breaks that rule first
pub read_breaks : (bs : List ℕ) (k : ℕ) → 0 < k → k < length state_numbers
    → (read_image bs).refusal ≡ get_or state_numbers k accepted ↔ (header_refusal bs ≡ accepted) × ReadBreaks k (body_of bs)
read_breaks bs k low l =
    let past = read_past bs (get_or state_numbers k accepted) (header_lacks bs k low l) in (
      (λ h. let p = past.0 h in (p.0, refused_breaks k l (body_of bs) p.1)),
      (λ p. past.1 (p.0, breaks_refused k l (body_of bs) p.1)),
    )
