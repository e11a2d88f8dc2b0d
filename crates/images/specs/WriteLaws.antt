-- What writing an image answers, case by case: the state breaks a rule, the buffer is short, or the image is written; and
-- the bytes of requests without their state. Assumes nothing.
use Rattle.std.specs.Prelude.{ℕ, zero, suc, ◌≤◌, ◌<◌, ◌≡◌, refl, true, false, List, [], ◌∷◌, ◌++◌, ltb, length}
use Rattle.std.proofs.Common.{sym, ◌∙◌, ap, arith, length-append, length-drop, lt-ltb, le-ltb, ltb-false}
use Rattle.std.proofs.Math.ListN.{drop}
use Rattle.logic.specs.Tests.{every}
use Rattle.logic.specs.Refuse.{refuse_yes, refuse_zero, refuse_none, first_yes, first_no, first_zero, first_none, by_refusal, by_accepted, by_refused, by_number, listed, listed_refuse, listed_first, listed_within}
use Rattle.parts.specs.declared.refusal.Refusal.{Refusal}
use Rattle.parts.specs.Refusal.{refusal_number, accepted, buffer_short}
use Rattle.cluster.specs.declared.Request.{Request}
use Rattle.cluster.specs.declared.State.{State}
use Rattle.cluster.specs.State.{request_in}
use Rattle.cluster.specs.Rules.{rules, state_refusal, state_numbers}
use Rattle.cluster.specs.RuleLaws.{met_refusal, broken_refusal, refusal_broken, state_listed}
use Rattle.images.specs.Answer.{Written, refuses_not_zero}
use Rattle.images.specs.Image.{request_bytes, image, write_refusal, written, write_image, buffer_after}

-- the bytes of request e of these
abbrev pub request_bytes_in : List Request → ℕ → List ℕ
request_bytes_in requests e = request_bytes (request_in requests e)

-- what is answered, and the buffer afterwards
abbrev pub Writes : State → List ℕ → Written → List ℕ → Type 0
Writes s buffer answer after = (answer ≡ write_image s buffer) × (after ≡ buffer_after s buffer)

module _ (s : State) (buffer : List ℕ) where
  writes_refused : (n : ℕ) → (n ≡ accepted → ⊥) → n ≡ write_refusal s buffer → Writes s buffer (written n 0) buffer
  unfolding write_image buffer_after
  writes_refused n h e =
      rw (← e) (
        by_refused n (λ k. written k 0) (written accepted (length (image s))) h,
        by_refused n (λ k. buffer) (image s ++ drop (length (image s)) buffer) h,
      )

  -- the state breaks a rule: its own number
  pub writes_broken : rules s ≡ false → Writes s buffer (written (state_refusal s) 0) buffer
  unfolding write_refusal
  writes_broken h = writes_refused (state_refusal s) (broken_refusal s h) (first_yes (state_refusal s) _ (broken_refusal s h))

  -- as the code says it
  pub writes_refusal : (r : Refusal) → refusal_number r ≡ state_refusal s → Writes s buffer (written (refusal_number r) 0) buffer
  writes_refusal r e = rw e (writes_broken (refusal_broken s (λ z. refuses_not_zero r (e ∙ z))))

  module _ (h : rules s ≡ true) where
    pub writes_short : length buffer < length (image s) → Writes s buffer (written buffer_short 0) buffer
    unfolding write_refusal
    writes_short k =
        writes_refused buffer_short (λ e. omega arith)
        (refuse_yes (ltb (length buffer) (length (image s))) buffer_short accepted (lt-ltb (length buffer) (length (image s)) k)
        ∙ first_no (state_refusal s) _ (met_refusal s h))

    pub writes_all : length (image s) ≤ length buffer
        → Writes s buffer (written accepted (length (image s))) (image s ++ drop (length (image s)) buffer)
    unfolding write_refusal write_image buffer_after
    writes_all k = (
      by_accepted _ (λ n. written n 0) (written accepted (length (image s))) none,
      by_accepted _ (λ n. buffer) (image s ++ drop (length (image s)) buffer) none,
    )
      where
        none : write_refusal s buffer ≡ accepted
        none =
            first_none (state_refusal s) _ (met_refusal s h)
            (refuse_none (ltb (length buffer) (length (image s))) buffer_short accepted (le-ltb (length buffer) (length (image s)) k) refl)

-- refused, it writes nothing, and answers no length
pub write_refused : (s : State) (buffer : List ℕ) → ((write_image s buffer).refusal ≡ accepted → ⊥)
    → ((write_image s buffer).length ≡ 0) × (buffer_after s buffer ≡ buffer)
unfolding write_image buffer_after
write_refused s buffer h =
    let n = write_refusal s buffer in
    let other : n ≡ accepted → ⊥ = λ e. h (ap (λ (w : Written). w.refusal) (sym (by_accepted n (λ k. written k 0) (written accepted (length (image s))) e))) in (
      ap (λ (w : Written). w.length) (sym (by_refused n (λ k. written k 0) (written accepted (length (image s))) other)),
      sym (by_refused n (λ k. buffer) (image s ++ drop (length (image s)) buffer) other),
    )

-- the numbers that it may give beside 0: "bad state" 41 to 47, "then buffer shorter than the image 24"
abbrev pub write_numbers : List ℕ
write_numbers = state_numbers ++ buffer_short ∷ []

pub write_listed : (s : State) (buffer : List ℕ) → listed (accepted ∷ write_numbers) (write_image s buffer).refusal ≡ true
unfolding write_image write_refusal listed every
write_listed s buffer =
    let all : List ℕ = accepted ∷ write_numbers in
    ap (listed all) (by_number (λ (w : Written). w.refusal) (write_refusal s buffer) (λ n. written n 0) (written accepted (length (image s))) (λ k. refl) refl)
    ∙ listed_first all (state_refusal s) _
    (listed_within (accepted ∷ state_numbers) all (state_refusal s) refl (state_listed s))
    (listed_refuse all (ltb (length buffer) (length (image s))) buffer_short accepted refl refl)

-- what is answered fits the buffer, which stays as long as it was
pub written_fits : (s : State) (buffer : List ℕ) → ((write_image s buffer).length ≤ length buffer) × (length (buffer_after s buffer) ≡ length buffer)
unfolding write_image buffer_after by_refusal write_refusal
written_fits s buffer = go (write_refusal s buffer) refl
  where
    go : (n : ℕ) → write_refusal s buffer ≡ n
        → ((by_refusal n (λ k. written k 0) (written accepted (length (image s)))).length ≤ length buffer)
        × (length (by_refusal n (λ k. buffer) (image s ++ drop (length (image s)) buffer)) ≡ length buffer)
    go zero e =
        let k = ltb-false (length buffer) (length (image s)) (refuse_zero _ 23 _ (first_zero (state_refusal s) _ e).1).0 in
        (k, rw (length-append, length-drop) (omega (arith, k)))
    go (suc n) e = (omega arith, refl)
