-- What it is that an end above L is met as an image is read front to back, in the words of the bytes. Assumes nothing.
use Rattle.std.specs.Prelude.{ℕ, zero, suc, ◌≤◌, ◌<◌, ◌≡◌, refl, List, [], ◌∷◌, ◌↔◌, length, drop, set, replicate}
use Rattle.std.proofs.Common.{sym, ◌∙◌, ap, arith}
use Rattle.std.proofs.Math.Decide.{dec_lt}
use Rattle.parts.specs.Refusal.{breaks_s2}
use Rattle.parts.specs.Mark.{byte_at}
use Rattle.replica.specs.declared.Replica.{Replica}
use Rattle.replica.specs.Replica.{zero_replica}
use Rattle.replica.specs.ReplicaBytes.{head_width}
use Rattle.cluster.specs.State.{limits_of, replica_count_of, log_size_of}
use Rattle.images.specs.Image.{header_width}
use Rattle.images.specs.Read.{Parsed, missing, end_above, parsed, refusal_of, and_then, fill, read_replica, body_of}
use Rattle.images.specs.Layout.{whole_refusal, replicas_at, replica_length, replicas_place}
use Rattle.images.specs.ReadLaws.{fill_stops, replica_missing, replica_above, replica_short, replica_whole, body_short, body_replicas}

-- the requests are there, and so are the replicas before one of them, with ends of at most L; of that one the first five bytes are
-- there, and its end is above L
pub record EndAboveMet (bs : List ℕ) : Type 0 where
  pub requests_there : replicas_place bs ≤ length bs
  pub replica : ℕ
  pub below : replica < replica_count_of (limits_of bs)
  pub before : List Replica
  pub rest : List ℕ
  pub there : fill (read_replica (log_size_of (limits_of bs))) replica (replicate 5 zero_replica) (drop (replicas_place bs) bs) ≡ parsed before rest
  pub head : head_width ≤ length rest
  pub above : log_size_of (limits_of bs) < byte_at rest 4

-- the number of a part tells which it is
by_s2 : {A : Type 0} (m : Parsed A) → refusal_of m ≡ breaks_s2 → m ≡ end_above
unfolding refusal_of
by_s2 missing h = absurd (omega arith)
by_s2 end_above h = refl
by_s2 (parsed x rest) h = absurd (omega arith)

whole_s2 : {A : Type 0} (m : Parsed A) → whole_refusal m ≡ breaks_s2 ↔ m ≡ end_above
unfolding whole_refusal refusal_of
whole_s2 missing = ((λ h. absurd (omega arith)), (λ e. absurd (let z : ◌≡◌ {A = ℕ} 0 1 = cc in omega arith)))
whole_s2 end_above = ((λ h. refl), (λ e. refl))
whole_s2 (parsed x []) = ((λ h. absurd (omega arith)), (λ e. absurd (let z : ◌≡◌ {A = ℕ} 0 1 = cc in omega arith)))
whole_s2 (parsed x (b ∷ bs)) = ((λ h. absurd (omega arith)), (λ e. absurd (let z : ◌≡◌ {A = ℕ} 0 1 = cc in omega arith)))

then_above : {A B : Type 0} (m : Parsed A) (put : A → List ℕ → B) → and_then m (λ x left. parsed (put x left) left) ≡ end_above → m ≡ end_above
unfolding and_then
then_above missing put h = absurd (let z : ◌≡◌ {A = ℕ} 0 1 = cc in omega arith)
then_above end_above put h = refl
then_above (parsed x left) put h = absurd (let z : ◌≡◌ {A = ℕ} 0 1 = cc in omega arith)

-- of n parts the first that has an end above L: those before it are there
record FirstAbove {A : Type 0} (read : List ℕ → Parsed A) (n : ℕ) (array : List A) (cs : List ℕ) : Type 0 where
  place : ℕ
  below : place < n
  before : List A
  rest : List ℕ
  there : fill read place array cs ≡ parsed before rest
  above : read rest ≡ end_above

first_above : {A : Type 0} (read : List ℕ → Parsed A) (n : ℕ) (array : List A) (cs : List ℕ) → fill read n array cs ≡ end_above → FirstAbove read n array cs
unfolding fill and_then
first_above read zero array cs h = absurd (let z : ◌≡◌ {A = ℕ} 0 1 = cc in omega arith)
first_above {A} read (suc n) array cs h = go (fill read n array cs) refl (first_above read n array cs) h
  where
    go : (m : Parsed (List A)) → fill read n array cs ≡ m → (fill read n array cs ≡ end_above → FirstAbove read n array cs)
        → and_then m (λ l rest. and_then (read rest) (λ x left. parsed (set l n x) left)) ≡ end_above → FirstAbove read (suc n) array cs
    go missing e earlier k = absurd (let z : ◌≡◌ {A = ℕ} 0 1 = cc in omega arith)
    go end_above e earlier k =
        let f = earlier e in
        record { place = f.place; below = omega (arith, f.below); before = f.before; rest = f.rest; there = f.there; above = f.above }
    go (parsed l rest) e earlier k =
        record { place = n; below = omega arith; before = l; rest = rest; there = e; above = then_above (read rest) (λ x left. set l n x) k }

-- one replica
replica_above_iff : (l : ℕ) (rest : List ℕ) → read_replica l rest ≡ end_above ↔ (head_width ≤ length rest) × (l < byte_at rest 4)
unfolding refusal_of
replica_above_iff l rest = (
  (λ e.
      let number : refusal_of (read_replica l rest) ≡ breaks_s2 = ap refusal_of e in
      elim (dec_lt (length rest) head_width) [
        | yes k ↦ absurd (omega (arith, replica_missing l rest 0 (omega arith) ∙ number))
        | no k ↦
            elim (dec_lt l (byte_at rest 4)) [
              | yes a ↦ (omega arith, a)
              | no a ↦
                  elim (dec_lt (length rest) (replica_length rest)) [
                    | yes b ↦ absurd (omega (arith, replica_short l rest 0 (omega arith) (omega arith) (omega arith) ∙ number))
                    | no b ↦ absurd (let w = sym (ap refusal_of (replica_whole l rest 0 (omega arith) (omega arith))) ∙ number in omega (arith, w))
                  ]
            ]
      ]),
  (λ t. by_s2 (read_replica l rest) (sym (replica_above l rest 0 (omega (arith, t.0)) t.1))),
)

-- so 42 "as met" is given exactly there
pub end_above_iff : (bs : List ℕ) → header_width ≤ length bs → body_of bs ≡ end_above ↔ EndAboveMet bs
unfolding refusal_of
end_above_iff bs h = (to, from)
  where
    to : body_of bs ≡ end_above → EndAboveMet bs
    to e =
        let whole = (whole_s2 (body_of bs)).1 e in
        elim (dec_lt (length bs) (replicas_place bs)) [
          | yes k ↦ absurd (omega (arith, body_short bs h k ∙ whole))
          | no k ↦
              let room : replicas_place bs ≤ length bs = omega arith in
              let f = first_above (read_replica (log_size_of (limits_of bs))) (replica_count_of (limits_of bs)) (replicate 5 zero_replica) (drop (replicas_place bs) bs)
              ((whole_s2 (replicas_at bs (replicas_place bs))).0 (body_replicas bs room ∙ whole)) in
              let a = (replica_above_iff (log_size_of (limits_of bs)) f.rest).0 f.above in
              record {
                requests_there = room;
                replica = f.place;
                below = f.below;
                before = f.before;
                rest = f.rest;
                there = f.there;
                head = a.0;
                above = a.1;
              }
        ]

    from : EndAboveMet bs → body_of bs ≡ end_above
    from m =
        let number : refusal_of (read_replica (log_size_of (limits_of bs)) m.rest) ≡ breaks_s2 = ap refusal_of ((replica_above_iff (log_size_of (limits_of bs)) m.rest).1 (m.head, m.above)) in
        let stops = fill_stops (read_replica (log_size_of (limits_of bs))) (replicate 5 zero_replica) bs (replicas_place bs) (replica_count_of (limits_of bs)) m.replica m.before m.rest m.below m.there
        (λ z. omega (arith, number, z)) in
        (whole_s2 (body_of bs)).0
        (sym (body_replicas bs m.requests_there) ∙ (whole_s2 (replicas_at bs (replicas_place bs))).1 (by_s2 (replicas_at bs (replicas_place bs)) (stops ∙ number)))
