-- Laws of loops over offsets, members and operands that look at one place after the other, by the numbers that such loops go by. The
-- code of today goes by chains and by `IsrLaws.antt`; these hold as before. Assumes nothing.
use Rattle.std.specs.Prelude.{ℕ, ◌+◌, ◌≤◌, ◌<◌, ◌≡◌, Bool, ◌||◌, eqb}
use Rattle.std.proofs.Math.Path.{refl, sym, ap}
use Rattle.std.proofs.Math.Bool.{true, false, cond}
use Rattle.std.proofs.Math.Option.{Option, none, some}
use Rattle.std.proofs.Math.Decide.{dec_lt}
use Rattle.std.proofs.Common.{◌∙◌, arith, ne_eqb}
use Rattle.logic.specs.Tests.{all_below, all_at, same_truth, same-truth}
use Rattle.logic.specs.Search.{Triple, first_below, passing, first_third}
use Rattle.logic.proofs.SearchLaws.{first_found, first_more, first_done}
use Rattle.parts.specs.Isr.{member}
use Rattle.parts.specs.Leader.{names}
use Rattle.parts.specs.Refusal.{accepted, no_offer}
use Rattle.cluster.specs.declared.State.{State}
use Rattle.cluster.specs.State.{replica_at}
use Rattle.cluster.specs.Act.{kind_of}
use Rattle.cluster.specs.ActLaws.{kind_past}
use Rattle.questions.specs.declared.Property.{Property}
use Rattle.questions.specs.declared.doubt.Doubt.{Doubt}
use Rattle.questions.specs.Isr.{offsets_asked, differ_at}
use Rattle.questions.specs.Offer.{offer_answer, offer_of}
use Rattle.questions.specs.Doubt.{exposing}
use Rattle.questions.specs.DoubtCode.{offsets_of}
use Rattle.questions.specs.IsrLaws.{isr_by_property, below_cond, offsets_done as offsets_looked_at}

-- where the bound is 0 also where another test passes, the number is below n too
below_other : (b c : Bool) (n m : ℕ) → m < cond b 0 (cond c n 0) → m < n
below_other true c n m l = absurd (omega arith)
below_other false c n m l = (below_cond c n m l).1

module _ (property : Property) (s : State) (r : ℕ) where
  -- how many offsets of r and m the code compares where r presumes
  abbrev pub compared : ℕ → ℕ
  compared m = cond (eqb m r) 0 (cond (member (isr_by_property property (replica_at s r).isr s.quorum.isr) m) (replica_at s r).hw 0)

  -- each of them is below r's hw
  pub compared_below : (m x : ℕ) → x < compared m → x < (replica_at s r).hw
  compared_below m x = below_other (eqb m r) (member (isr_by_property property (replica_at s r).isr s.quorum.isr) m) (replica_at s r).hw x

  -- the end of the offsets' loop: nothing that is asked about m fails
  pub offsets_done : (m : ℕ) → names (replica_at s r).leader r ≡ true → (replica_at s r).hw ≤ (replica_at s r).end
      → first_below (compared m) (passing (differ_at s) r m) ≡ none
      → first_third (offsets_asked property s) (differ_at s) r m ≡ none
  offsets_done m h k p =
      offsets_looked_at property s r (isr_by_property property (replica_at s r).isr s.quorum.isr) refl m (compared m) h k refl p

-- of what is in doubt, no more offsets than r's hw are looked at
module _ (d : Doubt) (property : Property) (s : State) (r : ℕ) where
  pub offsets_below : (m : ℕ) → offsets_of d property s r m ≤ (replica_at s r).hw
  offsets_below m = go (member d.agreeing m) (member (isr_by_property property (replica_at s r).isr s.quorum.isr) m)
    where
      go : (b c : Bool) → cond b 0 (cond c (replica_at s r).hw 0) ≤ (replica_at s r).hw
      go true c = omega arith
      go false true = omega arith
      go false false = omega arith

-- the kinds that can expose more, by their numbers
pub exposing_number : (n : ℕ) → exposing (kind_of n) ≡ eqb n 2 || eqb n 7
unfolding exposing kind_of all_below same_truth
exposing_number n =
    elim (dec_lt n 9) [
      | yes l ↦ same-truth _ _ (all_at 9 (λ (k : ℕ). same_truth (exposing (kind_of k)) (eqb k 2 || eqb k 7)) refl n l)
      | no l ↦ ap exposing (kind_past n (omega arith)) ∙ sym (rw (ne_eqb n 2 (omega arith), ne_eqb n 7 (omega arith)) refl)
    ]

-- ---- f i is what may be offered at i, if anything; the first i below n with something to offer is looked for
module _ (f : ℕ → Option Triple) where
  -- i has something to offer, and none below it has
  pub offer_found : (n i : ℕ) → i < n → first_below i f ≡ none → (offer_of (f i)).refusal ≡ accepted → offer_of (f i) ≡ offer_of (first_below n f)
  unfolding offer_of
  offer_found n i l p h = go (f i) refl
    where
      go : (o : Option Triple) → f i ≡ o → offer_of (f i) ≡ offer_of (first_below n f)
      go none e = absurd (let z : (offer_of none).refusal ≡ accepted = (rw e at h) in omega arith)
      go (some t) e = ap offer_of (e ∙ first_found f n i t l p e)

  -- neither i nor one below it has
  pub offer_more : (i : ℕ) → first_below i f ≡ none → ((offer_of (f i)).refusal ≡ accepted → ⊥) → first_below (i + 1) f ≡ none
  unfolding offer_of
  offer_more i p h = go (f i) refl
    where
      go : (o : Option Triple) → f i ≡ o → first_below (i + 1) f ≡ none
      go none e = first_more f i p e
      go (some t) e = absurd (h (ap (λ (o : Option Triple). (offer_of o).refusal) e))

  -- the end: none below n has
  pub offer_done : (n i : ℕ) → i ≤ n → n ≤ i → first_below i f ≡ none → offer_answer no_offer 0 0 0 ≡ offer_of (first_below n f)
  unfolding offer_of
  offer_done n i h k p = ap offer_of (first_done f n i h k p)
