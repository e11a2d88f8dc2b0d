-- The members of an ISR, as a set of replicas: of the empty and the full one, of one with a replica less or more, of one
-- with a single member; and an ISR of five replicas is known by its members. Assumes nothing.
use Rattle.std.specs.Prelude.{ℕ, ◌≤◌, ◌<◌, ◌≡◌, refl, Bool, true, false, not, ◌||◌, ◌↔◌, eqb, ltb}
use Rattle.std.proofs.Common.{sym, ◌∙◌, ap, arith, eqb-true, eq-eqb, ne_eqb}
use Rattle.std.proofs.Math.Path.{fun_ext}
use Rattle.std.proofs.Math.Decide.{dec_lt}
use Rattle.logic.specs.Tests.{all_at, all_by, and_left, and_right, and_both, bool_ext, implied, implies}
use Rattle.parts.specs.Isr.{member, full_isr, isr_of, without, including, no_other, is_alone}
use Rattle.parts.specs.IsrLaws.{member_none, member_full, member_past, member_below, member_without, member_including, isr_of_member}
use Rattle.published.specs.KafkaReplication.{ReplicaSet, empty_set, singleton, minus, plus}

-- an ISR has no member from 5 on, so its members are any set that has none there either and is the same below 5
members_by : (isr : ℕ) (set : ReplicaSet) → ((i : ℕ) → i < 5 → member isr i ≡ set i) → ((i : ℕ) → 5 ≤ i → set i ≡ false) → member isr ≡ set
members_by isr set low past =
    fun_ext
    (λ i.
    elim (dec_lt i 5) [
      | yes l ↦ low i l
      | no l ↦ let h : 5 ≤ i = omega arith in member_past isr i h ∙ sym (past i h)
    ])

-- ---- the empty ISR, and the full one
pub members_none : member 0 ≡ empty_set
members_none = fun_ext member_none

pub members_full : (n : ℕ) → n ≤ 5 → member (full_isr n) ≡ (λ i. ltb i n)
members_full n h = fun_ext (λ i. member_full n i h)

-- ---- one replica less, and one more
pub members_without : (isr a : ℕ) → member (without isr a) ≡ minus (member isr) a
members_without isr a = fun_ext (member_without isr a)

pub members_including : (isr a : ℕ) → a < 5 → member (including isr a) ≡ plus (member isr) a
members_including isr a l =
    members_by (including isr a) (plus (member isr) a) (member_including isr a)
    (λ i h. ap (λ b. b || eqb i a) (member_past isr i h) ∙ ne_eqb i a (omega arith))

-- ---- a single member
pub members_alone : (isr a : ℕ) → member isr ≡ singleton a ↔ is_alone isr a ≡ true
unfolding is_alone no_other
members_alone isr a = (
  (λ e.
      and_both (ap (λ set. set a) e ∙ eq-eqb a a refl)
      (all_by 5 other (λ i l. implies (member isr i) (eqb i a) (λ m. sym (ap (λ set. set i) e) ∙ m)))),
  (λ h.
      fun_ext
      (λ i.
      bool_ext (member isr i) (eqb i a)
      (λ m. implied (member isr i) (eqb i a) (all_at 5 other (and_right (member isr a) (no_other isr a) h) i (member_below isr i m)) m)
      (λ e. ap (member isr) (eqb-true i a e) ∙ and_left (member isr a) (no_other isr a) h))),
)
  where
    other : ℕ → Bool
    other i = not (member isr i) || eqb i a

-- ---- ISRs of five replicas with the same members are equal
pub members_injective : (isr other : ℕ) → isr < 32 → other < 32 → member isr ≡ member other → isr ≡ other
members_injective isr other h k e = sym (isr_of_member isr h) ∙ ap isr_of e ∙ isr_of_member other k
