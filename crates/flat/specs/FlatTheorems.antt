-- Every 226 bytes are read as some state, whose flat form is these bytes again. And the other way: a state
-- whose epochs and leaders have bytes (Flattens) comes back from its flat form, unused room too. Assumes nothing.
--
--   parts_joined, parts_again  parts of w bytes, read at their places and written again, are the bytes that they were read from
--   bytes_back                 226 bytes, read as a state and written again, are the same bytes
--   bytes_one_to_one           so no two of them are one state
--   Flattens s                 its epochs and leaders, in unused room too, have bytes of their own, and its arrays their lengths
--   part_at, parts_found       parts of w bytes, written one after the other, are read back at their places
--   state_back                 a state that Flattens comes back from its flat form
--   flattens_tidy              the tidy form of a state that meets the rules Flattens
--   answer_back                so a tidy state that meets the rules comes back from its flat form
use Rattle.parts.specs.Leader.{Leader}
use Rattle.std.specs.Prelude.{ℕ, zero, suc, ◌+◌, ◌*◌, ◌≤◌, ◌<◌, ◌≡◌, refl, Bool, true, false, cond, List, [], ◌∷◌, ◌++◌, ltb, ℤ, pos, length, take, drop, get_or, None, Some}
use Rattle.std.proofs.Common.{sym, ◌∙◌, ap, ap₂, append_assoc, append-nil, arith, mul_comm, mul-le-mul_left, length-drop, take-add, take_all, drop_at, drop-drop, lt-ltb, le-ltb}
use Rattle.std.proofs.Math.Decide.{ℕ_discrete, dec_lt}
use Rattle.std.proofs.lemmas.List.{length-replicate, get_or-replicate}
use Rattle.logic.specs.Table.{table, table_from, length_table, get_d_table, ext_table, cond_true}
use Rattle.logic.specs.Concat.{concat_below, concat_width}
use Rattle.parts.specs.Mark.{byte_at}
use Rattle.parts.specs.ByteLaws.{SmallEpoch, SmallLeader, epoch_back, epoch_byte_back, last_small}
use Rattle.parts.specs.Bytes.{Bytes, bytes_drop, front_bytes}
use Rattle.replica.specs.declared.Record.{Record}
use Rattle.replica.specs.declared.Replica.{Replica}
use Rattle.replica.specs.Replica.{replica_of, zero_record, no_replica, record_at, tidy_record, tidy_replica}
use Rattle.replica.specs.ReplicaBytes.{head_width, log_record_width, record_bytes, replica_head_by, record_of}
use Rattle.cluster.specs.declared.Quorum.{Quorum}
use Rattle.cluster.specs.declared.Request.{Request}
use Rattle.cluster.specs.declared.State.{State}
use Rattle.cluster.specs.State.{replica_count_of, next_leader_epoch_of, next_record_id_of, zero_request, request_at, replica_at, state_of, tidy_request_at, tidy_replica_at, tidy}
use Rattle.cluster.specs.Rules.{rules}
use Rattle.cluster.specs.RuleLaws.{rules_bounded}
use Rattle.cluster.specs.Predicates.{rules_iff}
use Rattle.cluster.specs.StateBytes.{named_small, replica_small}
use Rattle.flat.specs.Flat.{flat_width, flat_header_width, request_width, replica_width, flat_replicas_place, flat_leader, leader_of_flat, flat_request, flat_request_at, flat_replica, flat_replica_at, flat_header, flat, request_of_flat, record_of_flat, replica_of_flat, quorum_of_flat, request_of_flat_at, replica_of_flat_at, state_of_flat}
use Rattle.flat.specs.FlatLaws.{replica-width, requests_width}

-- ---- bytes, read and written again
leader_bytes : (b : ℕ) → b < 256 → flat_leader (leader_of_flat b) ≡ b
unfolding flat_leader leader_of_flat
leader_bytes zero h = refl
leader_bytes (suc i) h = cond_true (ltb i 255) (i + 1) 0 (lt-ltb i 255 (omega arith)) ∙ omega arith

-- n parts, each the next w bytes of a list, are the first w * n bytes of it
parts_joined : (w n : ℕ) (f : ℕ → List ℕ) (bs : List ℕ) → ((i : ℕ) → i < n → f i ≡ take w (drop (w * i) bs)) → concat_below n f ≡ take (w * n) bs
unfolding concat_below
parts_joined w zero f bs h = let e : w * 0 ≡ 0 = omega arith in rw e
parts_joined w (suc n) f bs h =
    let e : w * suc n ≡ w * n + w = omega arith in
    rw e (ap₂ (λ (a b : List ℕ). a ++ b) (parts_joined w n f bs (λ i l. h i (omega arith))) (h n (omega arith)) ∙ sym (take-add (w * n) w bs))

-- part i of n ends within the n parts
part_within : (w n i : ℕ) → i < n → w * i + w ≤ w * n
part_within w n i l = let e : w * suc i ≤ w * n = mul-le-mul_left w (omega arith) in omega arith

request-bytes : (bs : List ℕ) → Bytes bs → 2 ≤ length bs → flat_request (request_of_flat bs) ≡ take 2 bs
unfolding table table_from
request-bytes bs b h = ap (λ (l : ℕ). l ∷ byte_at bs 1 ∷ []) (leader_bytes (byte_at bs 0) (b.byte 0)) ∙ front_bytes 2 bs h

record-bytes : (bs : List ℕ) → Bytes bs → 2 ≤ length bs → record_bytes (record_of bs) ≡ take 2 bs
unfolding table table_from
record-bytes bs b h = ap (λ (e : ℕ). byte_at bs 0 ∷ e ∷ []) (epoch_byte_back (byte_at bs 1) (b.byte 1)) ∙ front_bytes 2 bs h

-- n parts of w bytes from a place on, each read at its own: written again they are those bytes
parts_again : {A : Type 0} (w n place : ℕ) (of : List ℕ → A) (bytes : A → List ℕ) (d : A)
    → ((cs : List ℕ) → Bytes cs → w ≤ length cs → bytes (of cs) ≡ take w cs)
    → (bs : List ℕ) → Bytes bs → place + w * n ≤ length bs
    → concat_below n (λ i. bytes (get_or (table n (λ k. of (drop (place + w * k) bs))) i d)) ≡ take (w * n) (drop place bs)
parts_again w n place of bytes d again bs b h = parts_joined w n _ (drop place bs) part_again
  where
    part_again : (i : ℕ) → i < n → bytes (get_or (table n (λ k. of (drop (place + w * k) bs))) i d) ≡ take w (drop (w * i) (drop place bs))
    part_again i l =
        let whole : w * i + w ≤ w * n = part_within w n i l in
        let k : w ≤ length (drop (place + w * i) bs) = rw (length-drop (place + w * i) bs) (omega arith) in
        ap bytes (get_d_table n (λ k. of (drop (place + w * k) bs)) i d l)
        ∙ again (drop (place + w * i) bs) (bytes_drop (place + w * i) bs b) k
        ∙ ap (take w) (sym (drop-drop (w * i) place bs))

replica-bytes : (bs : List ℕ) → Bytes bs → 37 ≤ length bs → flat_replica (replica_of_flat bs) ≡ take 37 bs
unfolding table table_from
replica-bytes bs b h =
    let head : replica_head_by (replica_of_flat bs) (flat_leader (leader_of_flat (byte_at bs 2))) ≡ take 5 bs =
    ap₂ (λ (e l : ℕ). byte_at bs 0 ∷ e ∷ l ∷ byte_at bs 3 ∷ byte_at bs 4 ∷ []) (epoch_byte_back (byte_at bs 1) (b.byte 1)) (leader_bytes (byte_at bs 2) (b.byte 2))
    ∙ front_bytes 5 bs (omega arith) in
    ap₂ (λ (a c : List ℕ). a ++ c) head (parts_again log_record_width 16 head_width record_of record_bytes zero_record record-bytes bs b h) ∙ sym (take-add 5 32 bs)

-- 226 bytes, read as a state and written again, are the same bytes
pub bytes_back : (bs : List ℕ) → Bytes bs → length bs ≡ flat_width → flat (state_of_flat bs) ≡ bs
unfolding flat state_of_flat table table_from
bytes_back bs b h =
    let header : flat_header (state_of_flat bs) ≡ take 9 bs =
    ap₂ (λ (e l : ℕ). byte_at bs 0 ∷ byte_at bs 1 ∷ byte_at bs 2 ∷ byte_at bs 3 ∷ byte_at bs 4 ∷ byte_at bs 5 ∷ e ∷ l ∷ byte_at bs 8 ∷ []) (epoch_byte_back (byte_at bs 6) (b.byte 6)) (leader_bytes (byte_at bs 7) (b.byte 7))
    ∙ front_bytes 9 bs (omega arith) in
    let rest : concat_below 16 (flat_request_at (state_of_flat bs)) ++ concat_below 5 (flat_replica_at (state_of_flat bs)) ≡ take 217 (drop 9 bs) =
    ap₂ (λ (a c : List ℕ). a ++ c)
    (parts_again request_width 16 flat_header_width request_of_flat flat_request zero_request request-bytes bs b (omega arith))
    (parts_again replica_width 5 flat_replicas_place replica_of_flat flat_replica no_replica replica-bytes bs b (omega arith) ∙ ap (take 185) (sym (drop-drop 32 9 bs)))
    ∙ sym (take-add 32 185 (drop 9 bs)) in
    ap₂ (λ (a c : List ℕ). a ++ c) header rest ∙ sym (take-add 9 217 bs) ∙ take_all 226 bs (omega arith)

-- so no two of them are one state
pub bytes_one_to_one : (bs cs : List ℕ) → Bytes bs → Bytes cs → length bs ≡ flat_width → length cs ≡ flat_width → state_of_flat bs ≡ state_of_flat cs → bs ≡ cs
bytes_one_to_one bs cs b c h k e = sym (bytes_back bs b h) ∙ ap flat e ∙ bytes_back cs c k

-- ---- a state, written and read again
-- each epoch and each leader of a state, in unused room too, has a byte that it is read back from, and the arrays have their lengths
pub record Flattens (s : State) : Type 0 where
  pub requests_length : length s.requests ≡ 16
  pub replicas_length : length s.replicas ≡ 5
  pub log_length : (i : ℕ) → i < 5 → length (replica_at s i).log ≡ 16
  pub quorum_epoch : SmallEpoch s.quorum.epoch
  pub quorum_leader : SmallLeader s.quorum.leader
  pub request_leader : (e : ℕ) → e < 16 → SmallLeader (request_at s e).leader
  pub epoch : (i : ℕ) → i < 5 → SmallEpoch (replica_at s i).epoch
  pub leader : (i : ℕ) → i < 5 → SmallLeader (replica_at s i).leader
  pub record_epoch : (i x : ℕ) → i < 5 → x < 16 → SmallEpoch (record_at (replica_at s i) x).epoch

leader_back : (l : Leader) → SmallLeader l → leader_of_flat (flat_leader l) ≡ l
unfolding leader_of_flat flat_leader
leader_back None h = refl
leader_back (Some b) h =
    let e : cond (ltb b 255) (b + 1) 0 ≡ suc b = cond_true (ltb b 255) (b + 1) 0 (lt-ltb b 255 (h b refl)) ∙ omega arith in
    ap leader_of_flat e

-- what stands at the place of part i, where each part has w bytes: that part, and something behind it
part_at : (w n : ℕ) (f : ℕ → List ℕ) (rest : List ℕ) → ((i : ℕ) → i < n → length (f i) ≡ w) → (i : ℕ) → i < n
    → (more : List ℕ) × (drop (w * i) (concat_below n f ++ rest) ≡ f i ++ more)
unfolding concat_below
part_at w zero f rest h i l = absurd (omega arith)
part_at w (suc n) f rest h i l =
    elim (ℕ_discrete i n) [
      | yes e ↦
          let k : length (concat_below n f) ≡ w * i = concat_width w n f (λ j m. h j (omega arith)) ∙ mul_comm n w ∙ ap (λ (j : ℕ). w * j) (sym e) in
          (rest, ap (drop (w * i)) (append_assoc (concat_below n f) (f n) rest) ∙ drop_at (concat_below n f) (f n ++ rest) (w * i) k ∙ ap (λ (j : ℕ). f j ++ rest) (sym e))
      | no e ↦
          let p = part_at w n f (f n ++ rest) (λ j m. h j (omega arith)) i (omega arith) in
          (p.0, ap (drop (w * i)) (append_assoc (concat_below n f) (f n) rest) ∙ p.1)
    ]

request_back : (q : Request) (more : List ℕ) → SmallLeader q.leader → request_of_flat (flat_request q ++ more) ≡ q
request_back q more h = ap (λ (l : Leader). record { leader = l; isr = q.isr }) (leader_back q.leader h)

record_back : (r : Record) (more : List ℕ) → SmallEpoch r.epoch → record_of (record_bytes r ++ more) ≡ r
record_back r more h = ap (λ (z : ℤ). record { id = r.id; epoch = z }) (epoch_back r.epoch h)

-- n parts of w bytes that are written from a place on, each of which is read back: read at their places they are the parts
parts_found : {A : Type 0} (w n place : ℕ) (of : List ℕ → A) (bytes : A → List ℕ) (d : A) (l : List A) (bs rest : List ℕ)
    → length l ≡ n → drop place bs ≡ concat_below n (λ i. bytes (get_or l i d)) ++ rest → ((i : ℕ) → i < n → length (bytes (get_or l i d)) ≡ w)
    → ((i : ℕ) → i < n → (more : List ℕ) → of (bytes (get_or l i d) ++ more) ≡ get_or l i d)
    → table n (λ k. of (drop (place + w * k) bs)) ≡ l
parts_found w n place of bytes d l bs rest length-is behind width back = sym (ext_table d n (λ k. of (drop (place + w * k) bs)) l length-is part_found)
  where
    part_found : (i : ℕ) → i < n → get_or l i d ≡ of (drop (place + w * i) bs)
    part_found i k =
        let found = part_at w n (λ j. bytes (get_or l j d)) rest width i k in
        sym (ap of (sym (drop-drop (w * i) place bs) ∙ ap (drop (w * i)) behind ∙ found.1) ∙ back i k found.0)

replica_back : (p : Replica) (more : List ℕ) → length p.log ≡ 16 → SmallEpoch p.epoch → SmallLeader p.leader
    → ((x : ℕ) → x < 16 → SmallEpoch (record_at p x).epoch) → replica_of_flat (flat_replica p ++ more) ≡ p
replica_back p more n e l r =
    let log : table 16 (record_of_flat (flat_replica p ++ more)) ≡ p.log =
    parts_found log_record_width 16 head_width record_of record_bytes zero_record p.log (flat_replica p ++ more) more n refl (λ x k. refl)
    (λ x k left. record_back (record_at p x) left (r x k)) in
    ap (λ (z : ℤ). replica_of p.hw z (leader_of_flat (flat_leader p.leader)) p.isr p.end (table 16 (record_of_flat (flat_replica p ++ more)))) (epoch_back p.epoch e)
    ∙ ap (λ (k : Leader). replica_of p.hw p.epoch k p.isr p.end (table 16 (record_of_flat (flat_replica p ++ more)))) (leader_back p.leader l)
    ∙ ap (λ (k : List Record). replica_of p.hw p.epoch p.leader p.isr p.end k) log

requests_back : (s : State) → Flattens s → table 16 (request_of_flat_at (flat s)) ≡ s.requests
unfolding flat
requests_back s f =
    parts_found request_width 16 flat_header_width request_of_flat flat_request zero_request s.requests (flat s) (concat_below 5 (flat_replica_at s))
    f.requests_length refl (λ e l. refl) (λ e l more. request_back (request_at s e) more (f.request_leader e l))

replicas_back : (s : State) → Flattens s → table 5 (replica_of_flat_at (flat s)) ≡ s.replicas
unfolding flat
replicas_back s f =
    parts_found replica_width 5 flat_replicas_place replica_of_flat flat_replica no_replica s.replicas (flat s) [] f.replicas_length behind
    (λ i l. replica-width (replica_at s i))
    (λ i l more. replica_back (replica_at s i) more (f.log_length i l) (f.epoch i l) (f.leader i l) (λ x k. f.record_epoch i x l k))
  where
    behind : drop flat_replicas_place (flat s) ≡ concat_below 5 (flat_replica_at s) ++ []
    behind =
        sym (drop-drop 32 flat_header_width (flat s))
        ∙ drop_at (concat_below 16 (flat_request_at s)) (concat_below 5 (flat_replica_at s)) 32 (requests_width s)
        ∙ sym (append-nil (concat_below 5 (flat_replica_at s)))

-- the state comes back from its flat form
pub state_back : (s : State) → Flattens s → state_of_flat (flat s) ≡ s
unfolding state_of_flat flat
state_back s f =
    let quorum : quorum_of_flat (flat s) ≡ s.quorum =
    ap₂ (λ (z : ℤ) (l : Leader). record { epoch = z; leader = l; isr = s.quorum.isr }) (epoch_back s.quorum.epoch f.quorum_epoch) (leader_back s.quorum.leader f.quorum_leader) in
    ap (λ (q : Quorum). state_of s.limits (next_leader_epoch_of s) (next_record_id_of s) q (table 16 (request_of_flat_at (flat s))) (table 5 (replica_of_flat_at (flat s)))) quorum
    ∙ ap₂ (λ (q : List Request) (p : List Replica). state_of s.limits (next_leader_epoch_of s) (next_record_id_of s) s.quorum q p) (requests_back s f) (replicas_back s f)

-- ---- a tidy state that meets the rules comes back too
small_zero : SmallEpoch (pos 0)
small_zero = omega arith

small_none : SmallLeader None
small_none b e = absurd (let z : ◌≡◌ {A = ℕ} 0 1 = cc in omega arith)

tidy_replica_small : (s : State) → rules s ≡ true → (i : ℕ) → i < 5
    → SmallEpoch (tidy_replica_at s i).epoch × SmallLeader (tidy_replica_at s i).leader × ((x : ℕ) → x < 16 → SmallEpoch (record_at (tidy_replica_at s i) x).epoch)
unfolding tidy_replica
tidy_replica_small s h i l =
    elim (dec_lt i (replica_count_of s.limits)) [
      | yes k ↦
          let w = replica_small s h i k in
          let p = replica_at s i in
          rw (lt-ltb i (replica_count_of s.limits) k) (
            w.epoch,
            w.leader,
            λ x m.
                rw (get_d_table 16 (tidy_record p) x zero_record m)
                (elim (dec_lt x p.end) [
                  | yes n ↦ rw (lt-ltb x p.end n) (w.log x n)
                  | no n ↦ rw (le-ltb x p.end (omega arith)) small_zero
                ]),
          )
      | no k ↦
          rw (le-ltb i (replica_count_of s.limits) (omega arith))
          (small_zero, small_none, λ x m. rw (get_or-replicate 16 x zero_record zero_record m) small_zero)
    ]

tidy_log_length : (s : State) (i : ℕ) → length (tidy_replica_at s i).log ≡ 16
unfolding tidy_replica
tidy_log_length s i = go (ltb i (replica_count_of s.limits)) refl
  where
    go : (b : Bool) → ltb i (replica_count_of s.limits) ≡ b → length (tidy_replica_at s i).log ≡ 16
    go true e = rw e (length_table 16 (tidy_record (replica_at s i)))
    go false e = rw e (length-replicate 16 zero_record)

tidy_request_small : (s : State) → rules s ≡ true → (e : ℕ) → SmallLeader (tidy_request_at s e).leader
tidy_request_small s h e =
    elim (dec_lt e (next_leader_epoch_of s)) [
      | yes k ↦
          rw (lt-ltb e (next_leader_epoch_of s) k)
          (named_small (replica_count_of s.limits) (request_at s e).leader (request_at s e).isr (rules_bounded s h).replicas (((rules_iff s).0 h).s2.requests e k))
      | no k ↦ rw (le-ltb e (next_leader_epoch_of s) (omega arith)) small_none
    ]

pub flattens_tidy : (s : State) → rules s ≡ true → Flattens (tidy s)
unfolding tidy
flattens_tidy s h =
    let r = (rules_iff s).0 h in
    let b = rules_bounded s h in
    record {
      requests_length = length_table 16 (tidy_request_at s);
      replicas_length = length_table 5 (tidy_replica_at s);
      log_length = λ i l. rw (get_d_table 5 (tidy_replica_at s) i no_replica l) (tidy_log_length s i);
      quorum_epoch = rw r.s3.epoch (last_small (next_leader_epoch_of s) (omega (arith, b.requests)));
      quorum_leader = named_small (replica_count_of s.limits) s.quorum.leader s.quorum.isr b.replicas r.s2.quorum;
      request_leader = λ e l. rw (get_d_table 16 (tidy_request_at s) e zero_request l) (tidy_request_small s h e);
      epoch = λ i l. rw (get_d_table 5 (tidy_replica_at s) i no_replica l) (tidy_replica_small s h i l).0;
      leader = λ i l. rw (get_d_table 5 (tidy_replica_at s) i no_replica l) (tidy_replica_small s h i l).1;
      record_epoch = λ i x l k. rw (get_d_table 5 (tidy_replica_at s) i no_replica l) ((tidy_replica_small s h i l).2 x k);
    }

-- what a function of the interface gives of a tidy state that meets the rules is read as that state by the next
pub answer_back : (s : State) → rules s ≡ true → tidy s ≡ s → state_of_flat (flat s) ≡ s
answer_back s h t = rw t at (state_back (tidy s) (flattens_tidy s h))
