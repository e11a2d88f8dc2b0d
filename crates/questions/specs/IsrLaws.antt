-- The loops of weak and strong ISR take a few numbers out of the state, and go by these. They ask what the definition asks. And what is
-- answered where a state is refused. Assumes nothing.
use Rattle.std.specs.Prelude.{ℕ, zero, suc, ◌≤◌, ◌<◌, ◌≡◌, Bool}
use Rattle.std.proofs.Math.Path.{refl, ap}
use Rattle.std.proofs.Math.Bool.{true, false, not, cond}
use Rattle.std.proofs.Math.Option.{Option, none, or_else}
use native.Mathlib.Omega.{arith}
use Rattle.std.proofs.Math.Dec.{eqb}
use Rattle.std.proofs.Common.{◌∙◌, eqb-true}
use Rattle.logic.specs.Refuse.{by_refused}
use Rattle.logic.specs.Search.{first_below, passing, first_third}
use Rattle.logic.proofs.SearchLaws.{passing_no}
use Rattle.parts.specs.declared.refusal.Refusal.{Refusal}
use Rattle.parts.specs.Refusal.{accepted, refusal_number}
use Rattle.parts.specs.Isr.{member}
use Rattle.parts.specs.Leader.{names}
use Rattle.replica.specs.LogLaws.{hold_same_record_iff}
use Rattle.cluster.specs.declared.State.{State}
use Rattle.cluster.specs.State.{replica_at}
use Rattle.cluster.specs.Rules.{state_refusal}
use Rattle.cluster.specs.Actions.{replica_presumes_leadership}
use Rattle.questions.specs.declared.Property.{Property}
use Rattle.questions.specs.declared.Property.TheVariants.{WeakIsr, StrongIsr}
use Rattle.questions.specs.Isr.{isr_asked, is_asked, offsets_asked, differ_at, check_isr, isr_refused, ask_isr}

-- the number of a refusal is not 0
pub refusal_not_zero : (r : Refusal) → refusal_number r ≡ accepted → ⊥
refusal_not_zero r h = grind arith

-- so that of a state that breaks a rule is what is answered
pub isr_invalid : (property : Property) (s : State) (r : Refusal) → refusal_number r ≡ state_refusal s
    → isr_refused (refusal_number r) ≡ ask_isr property s
unfolding ask_isr
isr_invalid property s r e =
    ap isr_refused e ∙ by_refused (state_refusal s) isr_refused (check_isr property s) (λ z. refusal_not_zero r (e ∙ z))

-- ---- the numbers that the loops go by
-- the ISR that m is a member of, by r's own and the quorum's
unfoldable pub isr_by_property : Property → ℕ → ℕ → ℕ
isr_by_property WeakIsr own quorum = own
isr_by_property StrongIsr own quorum = quorum

-- a number below a bound that is n where a test passes, else 0: the test passed, and the number is below n
pub below_cond : (b : Bool) (n m : ℕ) → m < cond b n 0 → (b ≡ true) × (m < n)
below_cond true n m l = (refl, l)
below_cond false n m l = absurd (omega arith)

-- a search that finds nothing at any place below n
pub first_nowhere : {A : Type 0} (n : ℕ) (f : ℕ → Option A) → ((i : ℕ) → i < n → f i ≡ none) → first_below n f ≡ none
unfolding first_below or_else
first_nowhere zero f h = refl
first_nowhere (suc n) f h = rw (first_nowhere n f (λ i l. h i (omega arith))) (h n (omega arith))

-- the ISR asked about
pub asked_of : (property : Property) (s : State) (r : ℕ) → isr_asked property s r ≡ isr_by_property property (replica_at s r).isr s.quorum.isr
unfolding isr_asked isr_by_property
asked_of WeakIsr s r = refl
asked_of StrongIsr s r = refl

-- r's log agrees with itself below r's hw, which is at most its end
agrees_with_itself : (property : Property) (s : State) (r : ℕ) → (replica_at s r).hw ≤ (replica_at s r).end → (x : ℕ)
    → x < offsets_asked property s r r → differ_at s r r x ≡ false
unfolding differ_at offsets_asked
agrees_with_itself property s r h x l =
    let below : x < (replica_at s r).hw = (below_cond (is_asked property s r r) (replica_at s r).hw x l).1 in
    let k : x < (replica_at s r).end = omega arith in
    ap not ((hold_same_record_iff (replica_at s r) (replica_at s r) x).1 (k, k, refl))

-- ---- the loops over the members and offsets of r, which presumes where there is a member to look at
module _ (property : Property) (s : State) (r isr : ℕ) (asked : isr ≡ isr_by_property property (replica_at s r).isr s.quorum.isr) where
  -- how many offsets of r and m the code compares
  abbrev pub compared : ℕ → ℕ
  compared m = cond (eqb m r) 0 (cond (member isr m) (replica_at s r).hw 0)

  -- of an r that does not presume no offsets are asked about
  none_asked : (m : ℕ) → names (replica_at s r).leader r ≡ false → offsets_asked property s r m ≡ 0
  unfolding offsets_asked replica_presumes_leadership
  none_asked m h = rw h

  -- of one that presumes, those of another m that are compared
  others_asked : (m : ℕ) → names (replica_at s r).leader r ≡ true → eqb m r ≡ false → offsets_asked property s r m ≡ compared m
  unfolding offsets_asked replica_presumes_leadership
  others_asked m h e = rw (h, asked_of property s r, asked, e)

  -- so what is compared is asked about
  pub compared_asked : (m x : ℕ) → names (replica_at s r).leader r ≡ true → x < compared m → x < offsets_asked property s r m
  compared_asked m x h = go (eqb m r) refl
    where
      go : (b : Bool) → eqb m r ≡ b → x < compared m → x < offsets_asked property s r m
      go true e l = absurd (let z : x < 0 = (rw e at l) in omega arith)
      go false e l = rw (others_asked m h e) l

  -- the end of the offsets' loop: nothing that is asked about m fails
  pub offsets_done : (m x : ℕ) → names (replica_at s r).leader r ≡ true → (replica_at s r).hw ≤ (replica_at s r).end → x ≡ compared m
      → first_below x (passing (differ_at s) r m) ≡ none
      → first_third (offsets_asked property s) (differ_at s) r m ≡ none
  unfolding first_third
  offsets_done m x h k d p = go (eqb m r) refl
    where
      go : (b : Bool) → eqb m r ≡ b → first_below (offsets_asked property s r m) (passing (differ_at s) r m) ≡ none
      go true e = rw (eqb-true m r e) (first_nowhere _ _ (λ y l. passing_no (differ_at s) r r y (agrees_with_itself property s r k y l)))
      go false e = rw (others_asked m h e, ← d) p

  -- the end of the members' loop, which goes to n where r presumes, and else to 0: no member below n fails
  pub members_done : (n m : ℕ) → m ≡ cond (names (replica_at s r).leader r) n 0
      → first_below m (first_third (offsets_asked property s) (differ_at s) r) ≡ none
      → first_below n (first_third (offsets_asked property s) (differ_at s) r) ≡ none
  unfolding first_third first_below
  members_done n m e p = go (names (replica_at s r).leader r) refl e
    where
      go : (b : Bool) → names (replica_at s r).leader r ≡ b → m ≡ cond b n 0
          → first_below n (first_third (offsets_asked property s) (differ_at s) r) ≡ none
      go true h k = rw k at p
      go false h k = first_nowhere n _ (λ i l. rw (none_asked i h))
