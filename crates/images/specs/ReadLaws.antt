-- Laws of reading: for the turns of the loops that find out whether the parts of an image are there, and of those that then read
-- them, and for the ways out. Assumes nothing.
--
--   part_back                         a part of n bytes that are there gives its value and the bytes behind it
--   then_parsed, then_from            what follows a part that gave a value; and where something follows, the part gave a value
--   parsed_value, parsed_rest         equal readings have equal values, and equal bytes behind them
--   filled_from                       where an array was filled and put where it belongs: the array
--   stored_below_more                 one place more of an array is filled
--   Filling .. n i pos l              of n parts the first i are read into the array l, and the next one starts at byte pos
--   filling_start, filling_more       the loop over the parts: its start, and a turn
--   filling_refused .. filling_all    its ways out: a part is refused, bytes are left over, or all is there
--   filling_next, filling_whole       where all parts are known to be there: the next one is, and nothing is left behind the last
--   header_past                       the first ten bytes past the tests for 21, 20 and 22: what these say, and what decides then
--   HeaderInRange bs                  the first ten bytes are there, with the mark and with numbers that meet S1
--   header_in_range, header_sizes     they are so where they are not refused; S1 as bounds of these numbers
--   header_numbers, header_listed     the numbers that the first ten bytes may give beside 0; they give no other
--   end_behind                        where the end of a replica stands
--   replica_missing .. replica_whole  a replica: its first five bytes missing, its end above L, its log missing, or all there
--   ReplicaFits l bs at               the replica at this place has all its bytes, and its end is at most l
--   replica_fits                      it is so where the replica is not refused
--   body_short .. body_room           what follows the first ten bytes: missing requests, or all of them and then the replicas
--   body_sizes                        S1 of the state that it gives is S1 of the first ten bytes
--   layout_header .. layout_replicas  the refusal of an image by its bytes is that of the first ten, then that of the parts
--   LaidOut bs, laid_out              neither of the two refuses; it is so where the image is not refused by its bytes
--   PartsThere bs, parts_there        what that says: the parts are there, and R, L and the next epoch are in range
--   read_refused, read_unlaid         an image that is refused by its bytes
--   read_met, read_unmet, read_broken one whose parts are all there: its state, or the number of the first rule that this breaks
--   read_number, finished_number      the number that reading gives, by the first ten bytes, by what follows them, by the state
use Prim.Native.Nat.{ℕ, zero, suc, ◌+◌, ◌*◌, ◌-◌, ◌≤◌, ◌<◌}
use Rattle.std.specs.Prelude.{◌≡◌, true, not, leb, ltb, length, set, replicate}
use Rattle.std.proofs.Math.Path.{refl, sym, ap}
use Rattle.std.proofs.Common.{◌∙◌, add-one, arith, le-leb, ltb-false}
use Rattle.std.proofs.Math.Bool.{Bool}
use mathlib.Core.List.{List, [], ◌∷◌}
use Rattle.std.proofs.Math.Nat.{mul-zero, mul-suc}
use Rattle.std.proofs.Math.Decide.{ℕ_discrete, dec_lt}
use Rattle.std.proofs.Math.ListN.{drop, length-drop, get_or}
use Rattle.std.proofs.Math.Seq.{drop-drop}
use Rattle.std.proofs.lemmas.Bool.{lt-leb, not-false}
use Rattle.logic.specs.Refuse.{refuse, refuse_other, first_refusal, first_yes, first_no, by_refusal, by_accepted, by_refused, by_number, by_first, listed, listed_refuse}
use Rattle.logic.specs.Table.{cond_true, cond_false}
use Rattle.parts.specs.declared.refusal.Refusal.{Refusal}
use Rattle.parts.specs.Refusal.{refusal_number, accepted, wrong_mark, too_short, bad_configuration, left_over, breaks_s1, breaks_s2}
use Rattle.parts.specs.Bytes.{byte-at}
use Rattle.parts.specs.Mark.{byte_at, marked}
use Rattle.replica.specs.declared.Replica.{Replica}
use Rattle.replica.specs.Replica.{with_log}
use Rattle.replica.specs.ReplicaBytes.{head_width, log_record_width, record_of}
use Rattle.cluster.specs.declared.State.{State}
use Rattle.cluster.specs.Answer.{Outcome}
use Rattle.cluster.specs.State.{limits_of, next_leader_epoch_of, next_record_id_of, zero_request, with_requests, with_replicas}
use Rattle.cluster.specs.Rules.{in_range, rule1, state_refusal}
use Rattle.cluster.specs.RuleLaws.{Sizes, sizes_of}
use Rattle.cluster.specs.Outcome.{answer, with_zeros}
use Rattle.images.specs.Answer.{refuses_not_zero}
use Rattle.images.specs.Image.{mark_second, header_width, request_width}
use Rattle.images.specs.Read.{Parsed, missing, end_above, parsed, refusal_of, and_then, part, fill, fill_in, read_record, request_of, read_request, replica_of_head, read_requests, read_replicas, header_state, read_log, read_log_within, read_replica, header_refusal, finished, read_body, read_image}
use Rattle.images.specs.Layout.{whole_refusal, replicas_at, body_of, layout_refusal, part_at, stored_below, requests_of, replica_length, replica_with_log, replicas_place}

-- ---- a part of n bytes: at the front of the bytes, and from a place on
pub part_back : {A : Type 0} (n : ℕ) (value : List ℕ → A) (bs : List ℕ) → n ≤ length bs → part n value bs ≡ parsed (value bs) (drop n bs)
unfolding part
part_back n value bs h = cond_true (leb n (length bs)) (parsed (value bs) (drop n bs)) missing (le-leb n (length bs) h)

part_read : {A : Type 0} (n : ℕ) (value : List ℕ → A) (bs : List ℕ) (at : ℕ) → at + n ≤ length bs
    → part n value (drop at bs) ≡ parsed (value (drop at bs)) (drop (at + n) bs)
part_read n value bs at h = part_back n value (drop at bs) (rw length-drop (omega arith)) ∙ ap (λ (l : List ℕ). parsed (value (drop at bs)) l) (drop-drop n at bs)

part_missing : {A : Type 0} (n : ℕ) (value : List ℕ → A) (bs : List ℕ) (at : ℕ) → length bs - at < n
    → part n value (drop at bs) ≡ missing
unfolding part
part_missing n value bs at h = rw (length-drop, lt-leb n (length bs - at) h)

-- ---- a part that is refused stops what follows it
then_stops : {A B : Type 0} (m : Parsed A) (next : A → List ℕ → Parsed B) → (refusal_of m ≡ accepted → ⊥) → refusal_of (and_then m next) ≡ refusal_of m
unfolding and_then refusal_of
then_stops missing next h = refl
then_stops end_above next h = refl
then_stops (parsed x rest) next h = absurd (h refl)

pub then_parsed : {A B : Type 0} (m : Parsed A) (next : A → List ℕ → Parsed B) (x : A) (rest : List ℕ) → m ≡ parsed x rest → and_then m next ≡ next x rest
unfolding and_then
then_parsed m next x rest h = rw h

-- and the other way round: where something follows, the part gave a value
pub then_from : {A B : Type 0} (m : Parsed A) (next : A → List ℕ → Parsed B) (y : B) (left : List ℕ) → and_then m next ≡ parsed y left
    → (x : A) × (rest : List ℕ) × (m ≡ parsed x rest) × (next x rest ≡ parsed y left)
unfolding and_then
then_from missing next y left h = absurd (let z : ◌≡◌ {A = ℕ} 0 1 = cc in omega arith)
then_from end_above next y left h = absurd (let z : ◌≡◌ {A = ℕ} 0 1 = cc in omega arith)
then_from (parsed x rest) next y left h = (x, rest, refl, h)

pub parsed_value : {A : Type 0} (x y : A) (bs cs : List ℕ) → parsed x bs ≡ parsed y cs → x ≡ y
parsed_value x y bs cs h = cc

pub parsed_rest : {A : Type 0} (x y : A) (bs cs : List ℕ) → parsed x bs ≡ parsed y cs → bs ≡ cs
parsed_rest x y bs cs h = cc

-- where an array was filled and put where it belongs: the array
pub filled_from : {A B : Type 0} (put : List A → B) (read : List ℕ → Parsed A) (n : ℕ) (array : List A) (bs : List ℕ) (y : B) (left : List ℕ)
    → fill_in put read n array bs ≡ parsed y left → (l : List A) × (fill read n array bs ≡ parsed l left) × (put l ≡ y)
unfolding fill_in
filled_from put read n array bs y left h =
    let f = then_from (fill read n array bs) (λ l rest. parsed (put l) rest) y left h in (
      f.0,
      f.2 ∙ ap (parsed f.0) (parsed_rest (put f.0) y f.1 left f.3),
      parsed_value (put f.0) y f.1 left f.3,
    )

-- ---- n parts of w bytes each, one after the other
pub stored_below_more : {A : Type 0} (n : ℕ) (f : ℕ → A) (array : List A) → set (stored_below n f array) n (f n) ≡ stored_below (n + 1) f array
unfolding stored_below
stored_below_more n f array = rw add-one refl

module _ {A : Type 0} (w : ℕ) (value : List ℕ → A) (array : List A) (bs : List ℕ) where
  -- where their bytes are there
  fill_parts : (n : ℕ) → w * n ≤ length bs → fill (part w value) n array bs ≡ parsed (stored_below n (part_at w value bs) array) (drop (w * n) bs)
  unfolding fill stored_below
  fill_parts zero h = rw mul-zero refl
  fill_parts (suc n) h =
      let more : w * suc n ≡ w * n + w = mul-suc w n in
      let l = stored_below n (part_at w value bs) array in
      rw more
      (then_parsed (fill (part w value) n array bs) (λ l rest. and_then (part w value rest) (λ x left. parsed (set l n x) left)) l (drop (w * n) bs)
      (fill_parts n (omega (arith, more)))
      ∙ then_parsed (part w value (drop (w * n) bs)) (λ x left. parsed (set l n x) left) (value (drop (w * n) bs)) (drop (w * n + w) bs)
      (part_read w value bs (w * n) (omega (arith, more))))

  -- where some of them are missing
  fill_short : (n : ℕ) → length bs < w * n → refusal_of (fill (part w value) n array bs) ≡ too_short
  unfolding fill refusal_of
  fill_short zero h = absurd (omega (arith, mul-zero w))
  fill_short (suc n) h =
      let more : w * suc n ≡ w * n + w = mul-suc w n in
      let next : List A → List ℕ → Parsed (List A) = λ l rest. and_then (part w value rest) (λ x left. parsed (set l n x) left) in
      elim (dec_lt (length bs) (w * n)) [
        | yes k ↦
            let e = fill_short n k in
            then_stops (fill (part w value) n array bs) next (λ z. omega (arith, sym e ∙ z)) ∙ e
        | no k ↦
            let l = stored_below n (part_at w value bs) array in
            let e = part_missing w value bs (w * n) (omega (arith, more)) in
            ap refusal_of (then_parsed (fill (part w value) n array bs) next l (drop (w * n) bs) (fill_parts n (omega arith)))
            ∙ then_stops (part w value (drop (w * n) bs)) (λ x left. parsed (set l n x) left) (λ z. omega (arith, sym (ap refusal_of e) ∙ z))
            ∙ ap refusal_of e
      ]

-- ---- parts that are there, with nothing left over
module _ {A : Type 0} where
  whole_stops : (m : Parsed A) → (refusal_of m ≡ accepted → ⊥) → refusal_of m ≡ whole_refusal m
  unfolding refusal_of whole_refusal
  whole_stops missing h = refl
  whole_stops end_above h = refl
  whole_stops (parsed x bs) h = absurd (h refl)

  whole_over : (x : A) (bs : List ℕ) → 0 < length bs → left_over ≡ whole_refusal (parsed x bs)
  unfolding whole_refusal
  whole_over x [] h = absurd (omega arith)
  whole_over x (b ∷ bs) h = refl

  whole_all : (x : A) (bs : List ℕ) → length bs ≤ 0 → accepted ≡ whole_refusal (parsed x bs)
  unfolding whole_refusal
  whole_all x [] h = refl
  whole_all x (b ∷ bs) h = absurd (omega arith)

  -- the other way round: where nothing is refused there is a value, with nothing left over
  whole_parsed : (m : Parsed A) → whole_refusal m ≡ accepted → (x : A) × (m ≡ parsed x [])
  unfolding whole_refusal refusal_of
  whole_parsed missing h = absurd (omega arith)
  whole_parsed end_above h = absurd (omega arith)
  whole_parsed (parsed x (b ∷ bs)) h = absurd (omega arith)
  whole_parsed (parsed x []) h = (x, refl)

  -- what is made of the value does not count
  whole_put : {B : Type 0} (put : A → B) (m : Parsed A) → whole_refusal (and_then m (λ x rest. parsed (put x) rest)) ≡ whole_refusal m
  unfolding whole_refusal refusal_of and_then
  whole_put put missing = refl
  whole_put put end_above = refl
  whole_put put (parsed x []) = refl
  whole_put put (parsed x (b ∷ bs)) = refl

-- ---- the turns of a loop over n parts, each read where the one before it ended
module _ {A : Type 0} (read : List ℕ → Parsed A) (array : List A) (bs : List ℕ) (at : ℕ) where
  -- the first i parts are read, and the bytes behind them start at pos
  pub record Filling (n i pos : ℕ) (l : List A) : Type 0 where
    pub turns : i ≤ n
    pub within : pos ≤ length bs
    pub so_far : fill read i array (drop at bs) ≡ parsed l (drop pos bs)

  pub filling_start : (n : ℕ) → at ≤ length bs → Filling n 0 at array
  unfolding fill
  filling_start n h = record { turns = omega arith; within = h; so_far = refl }

  pub filling_more : (n i pos pos' : ℕ) (l : List A) (x : A) → i < n → Filling n i pos l → pos' ≤ length bs
      → read (drop pos bs) ≡ parsed x (drop pos' bs) → Filling n (i + 1) pos' (set l i x)
  unfolding fill and_then
  filling_more n i pos pos' l x h f w e =
      record {
        turns = omega arith;
        within = w;
        so_far = rw (add-one, f.so_far) (then_parsed (read (drop pos bs)) (λ x left. parsed (set l i x) left) x (drop pos' bs) e);
      }

  -- a part is refused, and so are all of them
  pub fill_stops : (n i : ℕ) (l : List A) (rest : List ℕ) → i < n → fill read i array (drop at bs) ≡ parsed l rest → (refusal_of (read rest) ≡ accepted → ⊥)
      → refusal_of (fill read n array (drop at bs)) ≡ refusal_of (read rest)
  unfolding fill
  fill_stops zero i l rest h e k = absurd (omega arith)
  fill_stops (suc n) i l rest h e k =
      elim (ℕ_discrete i n) [
        | yes q ↦
            let f : fill read n array (drop at bs) ≡ parsed l rest = (rw q at e) in
            ap refusal_of (then_parsed (fill read n array (drop at bs)) (λ l rest. and_then (read rest) (λ x left. parsed (set l n x) left)) l rest f)
            ∙ then_stops (read rest) (λ x left. parsed (set l n x) left) k
        | no q ↦
            let p = fill_stops n i l rest (omega arith) e k in
            then_stops (fill read n array (drop at bs)) (λ l rest. and_then (read rest) (λ x left. parsed (set l n x) left)) (λ z. k (sym p ∙ z)) ∙ p
      ]

  pub filling_refused : (n i pos number : ℕ) (l : List A) → i < n → Filling n i pos l → number ≡ refusal_of (read (drop pos bs))
      → (number ≡ accepted → ⊥) → number ≡ whole_refusal (fill read n array (drop at bs))
  filling_refused n i pos number l h f e k =
      let p = fill_stops n i l (drop pos bs) h f.so_far (λ z. k (e ∙ z)) in
      e ∙ sym p ∙ whole_stops (fill read n array (drop at bs)) (λ z. k (e ∙ sym p ∙ z))

  -- all parts are read
  filling_end : (n i pos : ℕ) (l : List A) → n ≤ i → Filling n i pos l → fill read n array (drop at bs) ≡ parsed l (drop pos bs)
  filling_end n i pos l h f = let e : i ≡ n = omega (arith, f.turns) in rw e at f.so_far

  pub filling_over : (n i pos : ℕ) (l : List A) → n ≤ i → Filling n i pos l → pos < length bs → left_over ≡ whole_refusal (fill read n array (drop at bs))
  filling_over n i pos l h f k =
      whole_over l (drop pos bs) (rw length-drop (omega arith)) ∙ ap whole_refusal (sym (filling_end n i pos l h f))

  pub filling_all : (n i pos : ℕ) (l : List A) → n ≤ i → Filling n i pos l → length bs ≤ pos → accepted ≡ whole_refusal (fill read n array (drop at bs))
  filling_all n i pos l h f k =
      whole_all l (drop pos bs) (rw length-drop (omega arith)) ∙ ap whole_refusal (sym (filling_end n i pos l h f))

  -- where all parts are known to be there, so is the next one, and after the last nothing is left
  module _ (n : ℕ) (ok : whole_refusal (fill read n array (drop at bs)) ≡ accepted) where
    pub filling_next : (i pos : ℕ) (l : List A) → i < n → Filling n i pos l → refusal_of (read (drop pos bs)) ≡ accepted
    unfolding refusal_of
    filling_next i pos l h f =
        elim (ℕ_discrete (refusal_of (read (drop pos bs))) accepted) [
          | yes q ↦ q
          | no q ↦
              let e = whole_parsed (fill read n array (drop at bs)) ok in
              sym (fill_stops n i l (drop pos bs) h f.so_far q) ∙ ap refusal_of e.1
        ]

    pub filling_whole : (i pos : ℕ) (l : List A) → n ≤ i → Filling n i pos l → fill read n array (drop at bs) ≡ parsed l []
    filling_whole i pos l h f =
        let e = whole_parsed (fill read n array (drop at bs)) ok in
        let all = filling_end n i pos l h f in
        all ∙ ap (parsed l) (parsed_rest l e.0 (drop pos bs) [] (sym all ∙ e.1))

-- ---- the first ten bytes
-- where their number is none of 21, 20 and 22, they pass the tests for these, and the test of S1 decides it
pub header_past : (bs : List ℕ) (n : ℕ) → header_refusal bs ≡ n → (too_short ≡ n → ⊥) → (wrong_mark ≡ n → ⊥) → (bad_configuration ≡ n → ⊥)
    → (header_width ≤ length bs)
    × (marked mark_second bs ≡ true)
    × (in_range (limits_of bs) ≡ true)
    × (refuse (not (rule1 (limits_of bs) (byte_at bs 6) (byte_at bs 7))) breaks_s1 accepted ≡ n)
unfolding header_refusal
header_past bs n h short mark limits =
    let a = refuse_other (ltb (length bs) header_width) too_short _ n h short in
    let b = refuse_other (not (marked mark_second bs)) wrong_mark _ n a.1 mark in
    let c = refuse_other (not (in_range (limits_of bs))) bad_configuration _ n b.1 limits in
    (ltb-false (length bs) header_width a.0, not-false (marked mark_second bs) b.0, not-false (in_range (limits_of bs)) c.0, c.1)

-- what they say where they are not refused
pub record HeaderInRange (bs : List ℕ) : Type 0 where
  pub long : header_width ≤ length bs
  pub mark : marked mark_second bs ≡ true
  pub sizes : rule1 (limits_of bs) (byte_at bs 6) (byte_at bs 7) ≡ true

pub header_in_range : (bs : List ℕ) → header_refusal bs ≡ accepted → HeaderInRange bs
header_in_range bs h =
    let p = header_past bs accepted h (λ e. omega arith) (λ e. omega arith) (λ e. omega arith) in
    let d = refuse_other (not (rule1 (limits_of bs) (byte_at bs 6) (byte_at bs 7))) breaks_s1 accepted accepted p.3 (λ e. omega arith) in
    record {
      long = p.0;
      mark = p.1;
      sizes = not-false (rule1 (limits_of bs) (byte_at bs 6) (byte_at bs 7)) d.0;
    }

pub header_sizes : (bs : List ℕ) → HeaderInRange bs → Sizes (limits_of bs) (byte_at bs 6) (byte_at bs 7)
header_sizes bs h = sizes_of (limits_of bs) (byte_at bs 6) (byte_at bs 7) h.sizes

-- the numbers that they may give beside 0
abbrev pub header_numbers : List ℕ
header_numbers = too_short ∷ wrong_mark ∷ bad_configuration ∷ breaks_s1 ∷ []

pub header_listed : (bs : List ℕ) → listed (accepted ∷ header_numbers) (header_refusal bs) ≡ true
unfolding header_refusal listed
header_listed bs =
    let listed_by = listed_refuse (accepted ∷ header_numbers) in
    listed_by _ too_short _ refl (listed_by _ wrong_mark _ refl (listed_by _ bad_configuration _ refl (listed_by _ breaks_s1 _ refl refl)))

-- ---- a replica: its first five bytes, its end, its log
-- where its end stands
pub end_behind : (bs : List ℕ) (at : ℕ) → byte_at (drop at bs) 4 ≡ get_or bs (at + 4) 0
end_behind bs at = byte-at bs at 4

module _ (l : ℕ) (bs : List ℕ) (at : ℕ) where
  replica-head : at + head_width ≤ length bs
      → read_replica l (drop at bs) ≡ read_log_within l (replica_of_head (drop at bs)) (drop head_width (drop at bs))
  unfolding read_replica
  replica-head h =
      then_parsed (part head_width replica_of_head (drop at bs)) (read_log_within l) (replica_of_head (drop at bs)) (drop head_width (drop at bs))
      (part_back head_width replica_of_head (drop at bs) (rw length-drop (omega arith)))

  replica_log : at + head_width ≤ length bs → byte_at (drop at bs) 4 ≤ l
      → read_replica l (drop at bs) ≡ read_log (replica_of_head (drop at bs)) (drop head_width (drop at bs))
  unfolding read_log_within
  replica_log h k =
      replica-head h
      ∙ cond_true (leb (byte_at (drop at bs) 4) l) (read_log (replica_of_head (drop at bs)) (drop head_width (drop at bs))) end_above
      (le-leb (byte_at (drop at bs) 4) l k)

  pub replica_missing : length bs - at < head_width → too_short ≡ refusal_of (read_replica l (drop at bs))
  unfolding read_replica refusal_of
  replica_missing k =
      let e : part head_width replica_of_head (drop at bs) ≡ missing = part_missing head_width replica_of_head bs at k in
      sym (then_stops (part head_width replica_of_head (drop at bs)) (read_log_within l) (λ z. omega (arith, sym (ap refusal_of e) ∙ z)) ∙ ap refusal_of e)

  pub replica_above : at + head_width ≤ length bs → l < byte_at (drop at bs) 4 → breaks_s2 ≡ refusal_of (read_replica l (drop at bs))
  unfolding read_log_within refusal_of
  replica_above h k =
      ap refusal_of (sym (replica-head h
      ∙ cond_false (leb (byte_at (drop at bs) 4) l) (read_log (replica_of_head (drop at bs)) (drop head_width (drop at bs))) end_above
      (lt-leb (byte_at (drop at bs) 4) l k)))

  pub replica_short : at + head_width ≤ length bs → byte_at (drop at bs) 4 ≤ l → length bs - at < replica_length (drop at bs)
      → too_short ≡ refusal_of (read_replica l (drop at bs))
  unfolding read_log fill_in
  replica_short h k short =
      let p = replica_of_head (drop at bs) in
      let rest = drop head_width (drop at bs) in
      let e = fill_short log_record_width record_of p.log rest p.end (rw (length-drop, length-drop) (omega arith)) in
      sym (ap refusal_of (replica_log h k)
      ∙ then_stops (fill read_record p.end p.log rest) (λ l left. parsed (with_log p l) left) (λ z. omega (arith, sym e ∙ z)) ∙ e)

  pub replica_whole : at + replica_length (drop at bs) ≤ length bs → byte_at (drop at bs) 4 ≤ l
      → read_replica l (drop at bs) ≡ parsed (replica_with_log (drop at bs)) (drop (at + replica_length (drop at bs)) bs)
  unfolding read_log fill_in
  replica_whole h k =
      let p = replica_of_head (drop at bs) in
      let rest = drop head_width (drop at bs) in
      replica_log (omega arith) k
      ∙ then_parsed (fill read_record p.end p.log rest) (λ l left. parsed (with_log p l) left)
      (stored_below p.end (part_at log_record_width record_of rest) p.log) (drop (log_record_width * p.end) rest)
      (fill_parts log_record_width record_of p.log rest p.end (rw (length-drop, length-drop) (omega arith)))
      ∙ ap (parsed (replica_with_log (drop at bs)))
      (drop-drop (log_record_width * p.end) head_width (drop at bs) ∙ drop-drop (replica_length (drop at bs)) at bs)

  -- a replica that is not refused
  pub record ReplicaFits : Type 0 where
    pub room : at + replica_length (drop at bs) ≤ length bs
    pub end : byte_at (drop at bs) 4 ≤ l

  pub replica_fits : at ≤ length bs → refusal_of (read_replica l (drop at bs)) ≡ accepted → ReplicaFits
  replica_fits w ok =
      elim (dec_lt (length bs - at) head_width) [
        | yes k ↦ absurd (omega (arith, replica_missing k ∙ ok))
        | no k ↦
            elim (dec_lt l (byte_at (drop at bs) 4)) [
              | yes a ↦ absurd (omega (arith, replica_above (omega arith) a ∙ ok))
              | no a ↦
                  elim (dec_lt (length bs - at) (replica_length (drop at bs))) [
                    | yes b ↦ absurd (omega (arith, replica_short (omega arith) (omega arith) b ∙ ok))
                    | no b ↦ record { room = omega arith; end = omega arith }
                  ]
            ]
      ]

-- ---- what follows the first ten bytes
module _ (bs : List ℕ) where
  -- the requests are not all there
  pub body_short : header_width ≤ length bs → length bs < replicas_place bs → too_short ≡ whole_refusal (body_of bs)
  unfolding read_requests fill_in header_state
  body_short h k =
      let f = fill read_request (byte_at bs 6) (replicate 16 zero_request) (drop header_width bs) in
      let e : refusal_of f ≡ too_short = fill_short request_width request_of (replicate 16 zero_request) (drop header_width bs) (byte_at bs 6) (rw length-drop (omega arith)) in
      let g : refusal_of (read_requests (header_state bs) (drop header_width bs)) ≡ too_short =
      then_stops f (λ l rest. parsed (with_requests (header_state bs) l) rest) (λ z. omega (arith, sym e ∙ z)) ∙ e in
      let m : refusal_of (body_of bs) ≡ too_short = then_stops (read_requests (header_state bs) (drop header_width bs)) read_replicas (λ z. omega (arith, sym g ∙ z)) ∙ g in
      sym m ∙ whole_stops (body_of bs) (λ z. omega (arith, sym m ∙ z))

  -- they are all there, and the replicas follow
  body_requests : replicas_place bs ≤ length bs
      → body_of bs ≡ and_then (replicas_at bs (replicas_place bs)) (λ l rest. parsed (with_replicas (with_requests (header_state bs) (requests_of (byte_at bs 6) (drop header_width bs))) l) rest)
  unfolding read_requests read_replicas fill_in header_state
  body_requests h =
      let requests = requests_of (byte_at bs 6) (drop header_width bs) in
      then_parsed (read_requests (header_state bs) (drop header_width bs)) read_replicas (with_requests (header_state bs) requests) (drop (replicas_place bs) bs)
      (then_parsed (fill read_request (byte_at bs 6) (replicate 16 zero_request) (drop header_width bs)) (λ l rest. parsed (with_requests (header_state bs) l) rest)
      requests (drop (request_width * byte_at bs 6) (drop header_width bs))
      (fill_parts request_width request_of (replicate 16 zero_request) (drop header_width bs) (byte_at bs 6) (rw length-drop (omega arith)))
      ∙ ap (parsed (with_requests (header_state bs) requests)) (drop-drop (request_width * byte_at bs 6) header_width bs))

  pub body_replicas : replicas_place bs ≤ length bs → whole_refusal (replicas_at bs (replicas_place bs)) ≡ whole_refusal (body_of bs)
  body_replicas h =
      sym (ap whole_refusal (body_requests h)
      ∙ whole_put (with_replicas (with_requests (header_state bs) (requests_of (byte_at bs 6) (drop header_width bs)))) (replicas_at bs (replicas_place bs)))

  pub body_state : (l : List Replica) → replicas_place bs ≤ length bs → replicas_at bs (replicas_place bs) ≡ parsed l []
      → body_of bs ≡ parsed (with_replicas (with_requests (header_state bs) (requests_of (byte_at bs 6) (drop header_width bs))) l) []
  body_state l h e =
      body_requests h
      ∙ then_parsed (replicas_at bs (replicas_place bs)) (λ l rest. parsed (with_replicas (with_requests (header_state bs) (requests_of (byte_at bs 6) (drop header_width bs))) l) rest) l [] e

  -- where nothing is refused, the requests are there
  pub body_room : header_width ≤ length bs → whole_refusal (body_of bs) ≡ accepted → replicas_place bs ≤ length bs
  body_room h ok =
      elim (dec_lt (length bs) (replicas_place bs)) [
        | yes k ↦ absurd (omega (arith, body_short h k ∙ ok))
        | no k ↦ omega arith
      ]

  -- S1 asks of the state only what the first ten bytes say
  pub body_sizes : (s : State) (rest : List ℕ) → body_of bs ≡ parsed s rest
      → rule1 s.limits (next_leader_epoch_of s) (next_record_id_of s) ≡ rule1 (limits_of bs) (byte_at bs 6) (byte_at bs 7)
  unfolding read_requests read_replicas header_state
  body_sizes s rest e =
      let f = then_from (read_requests (header_state bs) (drop header_width bs)) read_replicas s rest e in
      let requests = filled_from (with_requests (header_state bs)) read_request _ _ _ f.0 f.1 f.2 in
      let replicas = filled_from (with_replicas f.0) (read_replica _) _ _ _ s rest f.3 in
      let s1 : State → Bool = λ u. rule1 u.limits (next_leader_epoch_of u) (next_record_id_of u) in
      ap s1 (sym replicas.2) ∙ ap s1 (sym requests.2)

  -- ---- the whole image
  pub layout_header : (n : ℕ) → header_refusal bs ≡ n → (n ≡ accepted → ⊥) → n ≡ layout_refusal bs
  unfolding layout_refusal
  layout_header n e h = rw (← e) (first_yes (header_refusal bs) (whole_refusal (body_of bs)) (λ z. h (sym e ∙ z)))

  pub layout_body : header_refusal bs ≡ accepted → whole_refusal (body_of bs) ≡ layout_refusal bs
  unfolding layout_refusal
  layout_body e = first_no (header_refusal bs) (whole_refusal (body_of bs)) e

  pub layout_short : header_refusal bs ≡ accepted → length bs < replicas_place bs → too_short ≡ layout_refusal bs
  layout_short e k = body_short (header_in_range bs e).long k ∙ layout_body e

  pub layout_replicas : header_refusal bs ≡ accepted → replicas_place bs ≤ length bs → whole_refusal (replicas_at bs (replicas_place bs)) ≡ layout_refusal bs
  layout_replicas e k = body_replicas k ∙ layout_body e

  -- an image whose parts are all there
  pub record LaidOut : Type 0 where
    pub header : header_refusal bs ≡ accepted
    pub body : whole_refusal (body_of bs) ≡ accepted

  pub laid_out : layout_refusal bs ≡ accepted → LaidOut
  laid_out h =
      elim (ℕ_discrete (header_refusal bs) accepted) [
        | yes q ↦ record { header = q; body = layout_body q ∙ h }
        | no q ↦ absurd (q (layout_header (header_refusal bs) refl q ∙ h))
      ]

  -- what it says of its bytes: the first ten, the requests and the replicas are there, and R, L and the next epoch are in range
  pub record PartsThere : Type 0 where
    pub header : header_width ≤ length bs
    pub replicas : byte_at bs 2 ≤ 5
    pub log : byte_at bs 3 ≤ 16
    pub requests : byte_at bs 6 ≤ 16
    pub room : replicas_place bs ≤ length bs
    pub whole : whole_refusal (replicas_at bs (replicas_place bs)) ≡ accepted

  pub parts_there : layout_refusal bs ≡ accepted → PartsThere
  parts_there h =
      let laid = laid_out h in
      let header = header_in_range bs laid.header in
      let z = header_sizes bs header in
      let room = body_room header.long laid.body in
      record {
        header = header.long;
        replicas = z.ranges.replicas;
        log = z.ranges.log;
        requests = omega (arith, z.epochs, z.ranges.epochs);
        room = room;
        whole = body_replicas room ∙ laid.body;
      }

  -- any other image is refused, with an all-zero state
  finished_by : (m : Parsed State) → (whole_refusal m ≡ accepted → ⊥) → with_zeros (whole_refusal m) ≡ finished m
  unfolding finished whole_refusal refusal_of
  finished_by missing h = refl
  finished_by end_above h = refl
  finished_by (parsed s (b ∷ bs)) h = refl
  finished_by (parsed s []) h = absurd (h refl)

  pub read_refused : (n : ℕ) → n ≡ layout_refusal bs → (n ≡ accepted → ⊥) → with_zeros n ≡ read_image bs
  unfolding read_image read_body
  read_refused n e h =
      elim (ℕ_discrete (header_refusal bs) accepted) [
        | yes q ↦
            let w : n ≡ whole_refusal (body_of bs) = e ∙ sym (layout_body q) in
            ap with_zeros w ∙ finished_by (body_of bs) (λ z. h (w ∙ z)) ∙ by_accepted (header_refusal bs) with_zeros (finished (body_of bs)) q
        | no q ↦
            ap with_zeros (e ∙ sym (layout_header (header_refusal bs) refl q)) ∙ by_refused (header_refusal bs) with_zeros (finished (body_of bs)) q
      ]

  pub read_unlaid : (r : Refusal) → refusal_number r ≡ layout_refusal bs → with_zeros (refusal_number r) ≡ read_image bs
  read_unlaid r e = read_refused (refusal_number r) e (refuses_not_zero r)

  -- where all parts are there, the state rules decide
  module _ (s : State) (laid : layout_refusal bs ≡ accepted) (is : body_of bs ≡ parsed s []) where
    read_state : by_refusal (state_refusal s) with_zeros (answer accepted s) ≡ read_image bs
    unfolding read_image read_body finished
    read_state =
        ap finished (sym is) ∙ by_accepted (header_refusal bs) with_zeros (finished (body_of bs)) (laid_out laid).header

    pub read_met : state_refusal s ≡ accepted → answer accepted s ≡ read_image bs
    read_met h = by_accepted (state_refusal s) with_zeros (answer accepted s) h ∙ read_state

    pub read_unmet : (state_refusal s ≡ accepted → ⊥) → with_zeros (state_refusal s) ≡ read_image bs
    read_unmet h = by_refused (state_refusal s) with_zeros (answer accepted s) h ∙ read_state

    pub read_broken : (r : Refusal) → refusal_number r ≡ state_refusal s → with_zeros (refusal_number r) ≡ read_image bs
    read_broken r e = ap with_zeros e ∙ read_unmet (λ z. refuses_not_zero r (e ∙ z))

-- ---- the number that reading gives
-- that of the first ten bytes, and then that of what follows them
pub read_number : (bs : List ℕ) → first_refusal (header_refusal bs) (finished (body_of bs)).refusal ≡ (read_image bs).refusal
unfolding read_image read_body
read_number bs = by_first (λ (o : Outcome). o.refusal) (header_refusal bs) with_zeros (read_body bs) (λ k. refl)

-- which is that of the state where all parts are there and nothing is left over
pub finished_number : (s : State) → (finished (parsed s [])).refusal ≡ state_refusal s
unfolding finished
finished_number s = by_number (λ (o : Outcome). o.refusal) (state_refusal s) with_zeros (answer accepted s) (λ k. refl) refl
