-- Leaders, ISRs, replicas and requests under a renaming: what is read of a renamed state is the renamed part of the state, and
-- what is put into it is the renamed part put there. Assumes nothing.
--
--   empty_renamed                               the empty ISR stays empty
--   zero_replica_renamed, zero_request_renamed  a replica and a request of zeros stay
--   request_in_renamed                          request e of the renamed state is request e, renamed
--   replica_in_old                              replica j of it is the replica that was named `from j`, renamed
--   member_renamed                              p(i) is in the renamed ISR exactly where i is in the ISR
--   without_renamed .. alone_renamed            a member taken out, put in, and alone
--   isr_small                                   a renamed ISR is below 32
--   full_stays, full_renamed                    the full ISR stays full, and no other becomes full
--   none_renamed                                an ISR is empty exactly where the renamed one is
--   names_renamed .. no_leader_renamed          the tests of leaders: whom they name, their range, in an ISR, equal, none
--   replica_renamed, request_renamed            the replica p(i) and request e of a renamed state
--   with_replica_renamed                        a replica put at i, renamed, is the renamed replica put at p(i)
use Prim.Native.Nat.{ℕ, ◌≤◌, ◌<◌}
use Rattle.std.specs.Prelude.{◌≡◌, Bool, ◌&&◌, ◌||◌, List, map, length, get_or, set, None, Some}
use Rattle.std.proofs.Math.Path.{refl, sym, ap, ap₂}
use Rattle.std.proofs.Common.{◌∙◌, arith, le_refl, length-set, get_or-set_same, get_or-set_other, eqb-true, eq-eqb}
use Rattle.std.proofs.Math.Bool.{not}
use Rattle.std.proofs.Math.Decide.{dec_lt, ℕ_discrete}
use Rattle.std.proofs.Math.Dec.{eqb}
use Rattle.std.proofs.Math.ListN.{get_or-map, get_or-eq_default}
use Rattle.std.proofs.Math.Seq.{set_out}
use Rattle.logic.specs.Tests.{bool_ext}
use Rattle.logic.specs.Table.{table, length_table, get_d_table, ext_table}
use Rattle.parts.specs.Isr.{member, full_isr, isr_of, without, including, no_other, is_alone}
use Rattle.parts.specs.IsrLaws.{member_past, member_none, member_full, member_isr_of, isr_of_small, isr_of_cong, isr_of_member, full_below, below_32}
use Rattle.parts.specs.Leader.{Leader, names, same_leader, leader_below, leader_none_or_in_isr}
use Rattle.parts.specs.LeaderLaws.{isr_below_iff}
use Rattle.replica.specs.declared.Replica.{Replica}
use Rattle.replica.specs.Replica.{no_replica, zero_replica}
use Rattle.cluster.specs.declared.Request.{Request}
use Rattle.cluster.specs.declared.State.{State}
use Rattle.cluster.specs.State.{zero_request, request_in, replica_in, request_at, replica_at, with_replica}
use Rattle.renamings.specs.Renaming.{Renaming, inverse, to_below, from_below, eqb_to, eqb_from, ltb_to, all_to}
use Rattle.renamings.specs.Rename.{rename_leader, rename_isr, rename_request, rename_replica, renamed_replica_at, rename_replicas, rename_state}

-- ---- whatever the renaming: the empty ISR, and zeros
pub empty_renamed : (from : ℕ → ℕ) → rename_isr from 0 ≡ 0
unfolding rename_isr
empty_renamed from =
    isr_of_cong (λ j. member 0 (from j)) (member 0) (λ j h. member_none (from j) ∙ sym (member_none j)) ∙ isr_of_member 0 (omega arith)

module _ (to from : ℕ → ℕ) where
  no_replica_renamed : rename_replica to from no_replica ≡ no_replica
  unfolding rename_leader
  no_replica_renamed = rw (empty_renamed from)

  pub zero_replica_renamed : rename_replica to from zero_replica ≡ zero_replica
  unfolding rename_leader
  zero_replica_renamed = rw (empty_renamed from)

  pub zero_request_renamed : rename_request to from zero_request ≡ zero_request
  unfolding rename_leader
  zero_request_renamed = rw (empty_renamed from)

  -- a request of the renamed state
  pub request_in_renamed : (requests : List Request) (e : ℕ)
      → request_in (map (rename_request to from) requests) e ≡ rename_request to from (request_in requests e)
  request_in_renamed requests e =
      ap (get_or (map (rename_request to from) requests) e) (sym zero_request_renamed)
      ∙ get_or-map (rename_request to from) requests e zero_request

  -- the replica named j of it, where j is below five
  pub replica_in_old : (replicas : List Replica) (j : ℕ) → j < 5
      → replica_in (rename_replicas to from replicas) j ≡ renamed_replica_at to from replicas j
  unfolding rename_replicas
  replica_in_old replicas j h = get_d_table 5 (renamed_replica_at to from replicas) j no_replica h

module _ {n : ℕ} (p : Renaming n) (five : n ≤ 5) where
  -- ---- ISRs
  pub member_renamed : (isr i : ℕ) → member (rename_isr p.from isr) (p.to i) ≡ member isr i
  unfolding rename_isr
  member_renamed isr i =
      elim (dec_lt i 5) [
        | yes h ↦ member_isr_of (λ j. member isr (p.from j)) (p.to i) (to_below p 5 five i h) ∙ ap (member isr) (p.from_to i)
        | no h ↦
            rw (p.keeps i (omega arith))
            (member_past (isr_of (λ j. member isr (p.from j))) i (omega arith) ∙ sym (member_past isr i (omega arith)))
      ]

  pub without_renamed : (isr a : ℕ) → rename_isr p.from (without isr a) ≡ without (rename_isr p.from isr) (p.to a)
  unfolding rename_isr without
  without_renamed isr a =
      isr_of_cong
      (λ j. member (isr_of (λ i. member isr i && not (eqb i a))) (p.from j))
      (λ j. member (isr_of (λ i. member isr (p.from i))) j && not (eqb j (p.to a)))
      (λ j h.
      member_isr_of (λ i. member isr i && not (eqb i a)) (p.from j) (from_below p 5 five j h)
      ∙ ap₂ (λ (x y : Bool). x && not y) (sym (member_isr_of (λ i. member isr (p.from i)) j h)) (sym (eqb_from p j a)))

  pub including_renamed : (isr a : ℕ) → rename_isr p.from (including isr a) ≡ including (rename_isr p.from isr) (p.to a)
  unfolding rename_isr including
  including_renamed isr a =
      isr_of_cong
      (λ j. member (isr_of (λ i. member isr i || eqb i a)) (p.from j))
      (λ j. member (isr_of (λ i. member isr (p.from i))) j || eqb j (p.to a))
      (λ j h.
      member_isr_of (λ i. member isr i || eqb i a) (p.from j) (from_below p 5 five j h)
      ∙ ap₂ (λ (x y : Bool). x || y) (sym (member_isr_of (λ i. member isr (p.from i)) j h)) (sym (eqb_from p j a)))

  pub alone_renamed : (isr a : ℕ) → is_alone (rename_isr p.from isr) (p.to a) ≡ is_alone isr a
  unfolding is_alone no_other
  alone_renamed isr a =
      ap₂ (λ (x y : Bool). x && y) (member_renamed isr a)
      (all_to p 5 five
      (λ i. not (member (rename_isr p.from isr) i) || eqb i (p.to a))
      (λ i. not (member isr i) || eqb i a)
      (λ i h. ap₂ (λ (x y : Bool). not x || y) (member_renamed isr i) (eqb_to p i a)))

  -- the ISR is known by its members, so renamed there and back it is the same
  isr_back : (isr : ℕ) → isr < 32 → rename_isr p.to (rename_isr p.from isr) ≡ isr
  unfolding rename_isr
  isr_back isr h =
      isr_of_cong (λ j. member (isr_of (λ i. member isr (p.from i))) (p.to j)) (member isr)
      (λ j l. member_isr_of (λ i. member isr (p.from i)) (p.to j) (to_below p 5 five j l) ∙ ap (member isr) (p.from_to j))
      ∙ isr_of_member isr h

  pub isr_small : (isr : ℕ) → rename_isr p.from isr < 32
  unfolding rename_isr
  isr_small isr = isr_of_small (λ j. member isr (p.from j))

  -- where the renaming leaves one ISR, another is equal to it exactly where the other, renamed, is
  fixed_renamed : (fixed isr : ℕ) → fixed < 32 → isr < 32 → rename_isr p.from fixed ≡ fixed → eqb (rename_isr p.from isr) fixed ≡ eqb isr fixed
  fixed_renamed fixed isr a b e =
      bool_ext (eqb (rename_isr p.from isr) fixed) (eqb isr fixed)
      (λ h.
      eq-eqb isr fixed
      (sym (isr_back isr b) ∙ ap (rename_isr p.to) (eqb-true (rename_isr p.from isr) fixed h ∙ sym e) ∙ isr_back fixed a))
      (λ h. eq-eqb (rename_isr p.from isr) fixed (ap (rename_isr p.from) (eqb-true isr fixed h) ∙ e))

  full_small : full_isr n < 32
  full_small = below_32 n (full_isr n) five ((isr_below_iff n (full_isr n)).0 (full_below n five))

  -- the full ISR stays full
  pub full_stays : rename_isr p.from (full_isr n) ≡ full_isr n
  unfolding rename_isr
  full_stays =
      isr_of_cong (λ j. member (full_isr n) (p.from j)) (member (full_isr n))
      (λ j l. member_full n (p.from j) five ∙ ltb_to (inverse p) n (le_refl n) j ∙ sym (member_full n j five))
      ∙ isr_of_member (full_isr n) full_small

  pub full_renamed : (isr : ℕ) → isr < 32 → eqb (rename_isr p.from isr) (full_isr n) ≡ eqb isr (full_isr n)
  full_renamed isr h = fixed_renamed (full_isr n) isr full_small h full_stays

  pub none_renamed : (isr : ℕ) → isr < 32 → eqb (rename_isr p.from isr) 0 ≡ eqb isr 0
  none_renamed isr h = fixed_renamed 0 isr (omega arith) h (empty_renamed p.from)

  -- ---- leaders
  pub names_renamed : (leader : Leader) (a : ℕ) → names (rename_leader p.to leader) (p.to a) ≡ names leader a
  unfolding rename_leader
  names_renamed None a = refl
  names_renamed (Some b) a = eqb_to p b a

  pub leader_below_renamed : (leader : Leader) → leader_below n (rename_leader p.to leader) ≡ leader_below n leader
  unfolding rename_leader
  leader_below_renamed None = refl
  leader_below_renamed (Some b) = ltb_to p n (le_refl n) b

  pub leader_in_isr_renamed : (isr : ℕ) (leader : Leader) → leader_none_or_in_isr (rename_isr p.from isr) (rename_leader p.to leader) ≡ leader_none_or_in_isr isr leader
  unfolding rename_leader
  leader_in_isr_renamed isr None = refl
  leader_in_isr_renamed isr (Some b) = member_renamed isr b

  pub same_leader_renamed : (l m : Leader) → same_leader (rename_leader p.to l) (rename_leader p.to m) ≡ same_leader l m
  unfolding rename_leader
  same_leader_renamed None None = refl
  same_leader_renamed None (Some c) = refl
  same_leader_renamed (Some b) None = refl
  same_leader_renamed (Some b) (Some c) = eqb_to p c b

  pub no_leader_renamed : (l : Leader) → same_leader (rename_leader p.to l) None ≡ same_leader l None
  unfolding rename_leader
  no_leader_renamed None = refl
  no_leader_renamed (Some b) = refl

  -- ---- the replicas of a renamed state: read at p(i), and put at p(i)
  replica_in_renamed : (replicas : List Replica) (i : ℕ) → length replicas ≡ 5
      → replica_in (rename_replicas p.to p.from replicas) (p.to i) ≡ rename_replica p.to p.from (replica_in replicas i)
  unfolding rename_replicas
  replica_in_renamed replicas i l =
      let f : ℕ → Replica = renamed_replica_at p.to p.from replicas in
      elim (dec_lt i 5) [
        | yes h ↦
            get_d_table 5 f (p.to i) no_replica (to_below p 5 five i h)
            ∙ ap (λ (k : ℕ). rename_replica p.to p.from (replica_in replicas k)) (p.from_to i)
        | no h ↦
            rw (p.keeps i (omega arith))
            (get_or-eq_default (table 5 f) no_replica (omega (arith, length_table 5 f))
            ∙ sym (no_replica_renamed p.to p.from)
            ∙ ap (rename_replica p.to p.from) (sym (get_or-eq_default replicas no_replica (omega arith))))
      ]

  set_renamed : (replicas : List Replica) (i : ℕ) (r : Replica) → length replicas ≡ 5
      → rename_replicas p.to p.from (set replicas i r)
      ≡ set (rename_replicas p.to p.from replicas) (p.to i) (rename_replica p.to p.from r)
  unfolding rename_replicas
  set_renamed replicas i r l =
      elim (dec_lt i 5) [
        | yes h ↦
            sym
            (ext_table no_replica 5 g (set (table 5 f) (p.to i) v) (length-set (table 5 f) (p.to i) v ∙ length_table 5 f)
            (λ j b. element_is h j b (ℕ_discrete j (p.to i))))
        | no h ↦
            rw (p.keeps i (omega arith), set_out replicas i r (omega arith), set_out (table 5 f) i v (omega (arith, length_table 5 f)))
      ]
    where
      f : ℕ → Replica
      f j = rename_replica p.to p.from (replica_in replicas (p.from j))

      g : ℕ → Replica
      g j = rename_replica p.to p.from (replica_in (set replicas i r) (p.from j))

      v : Replica
      v = rename_replica p.to p.from r

      element_is : i < 5 → (j : ℕ) → j < 5 → Dec (j ≡ p.to i) → get_or (set (table 5 f) (p.to i) v) j no_replica ≡ g j
      element_is h j b (yes q) =
          rw (q, p.from_to i)
          (get_or-set_same (table 5 f) (p.to i) v no_replica (omega (arith, length_table 5 f, to_below p 5 five i h))
          ∙ ap (rename_replica p.to p.from) (sym (get_or-set_same replicas i r no_replica (omega arith))))
      element_is h j b (no q) =
          get_or-set_other (table 5 f) (p.to i) j v no_replica q
          ∙ get_d_table 5 f j no_replica b
          ∙ ap (rename_replica p.to p.from)
          (sym (get_or-set_other replicas i (p.from j) r no_replica (λ e. q (sym (p.to_from j) ∙ ap p.to e))))

  module _ (s : State) where
    pub replica_renamed : (i : ℕ) → length s.replicas ≡ 5
        → replica_at (rename_state p.to p.from s) (p.to i) ≡ rename_replica p.to p.from (replica_at s i)
    replica_renamed i l = replica_in_renamed s.replicas i l

    pub request_renamed : (e : ℕ) → request_at (rename_state p.to p.from s) e ≡ rename_request p.to p.from (request_at s e)
    request_renamed e = request_in_renamed p.to p.from s.requests e

    pub with_replica_renamed : (i : ℕ) (r : Replica) → length s.replicas ≡ 5
        → rename_state p.to p.from (with_replica s i r)
        ≡ with_replica (rename_state p.to p.from s) (p.to i) (rename_replica p.to p.from r)
    unfolding with_replica
    with_replica_renamed i r l = rw (set_renamed s.replicas i r l)
