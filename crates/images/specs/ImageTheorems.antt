-- A state that meets the rules has one image, which is the image of that state and of no other, and no other bytes are read as
-- that state; equal states are written alike. All this follows from read_back and read_is_image (RoundTrip). Assumes nothing.
--
--   image_iff            two states that meet the rules have one image exactly when they are equal
--   read_iff_image       bytes are read as a state exactly when they are its image
--   read_equal_is_image  bytes that are read as a state that is equal to it are its image too
--   read_tidy            a state that is read is tidy
--   write_same           equal states get one answer, and leave one buffer
--   read_written         what is written into a buffer is read back
--   read_refused_zero    a refused read gives an all-zero state
--   read_numbers         the numbers that reading may give beside 0
--   read_listed          it gives no other
use Rattle.std.specs.Prelude.{ℕ, ◌≤◌, ◌≡◌, refl, Bool, true, false, List, [], ◌∷◌, ◌++◌, ◌↔◌, length, take, drop}
use Rattle.std.proofs.Common.{sym, ◌∙◌, ap, arith}
use Rattle.std.proofs.Math.Decide.{ℕ_discrete, dec_lt}
use Rattle.std.proofs.Math.Seq.{take-append_seam}
use Rattle.logic.specs.Tests.{every}
use Rattle.logic.specs.Refuse.{by_accepted, by_refused, by_other, listed, listed_first, listed_within}
use Rattle.logic.specs.Concat.{concat_below, concat_cong}
use Rattle.parts.specs.Refusal.{accepted, wrong_mark, too_short, bad_configuration, left_over}
use Rattle.parts.specs.Bytes.{Bytes}
use Rattle.replica.specs.declared.Replica.{Replica}
use Rattle.replica.specs.Replica.{SameReplica}
use Rattle.replica.specs.ReplicaBytes.{record_bytes, record_bytes_at}
use Rattle.cluster.specs.declared.Limits.{Limits}
use Rattle.cluster.specs.declared.State.{State}
use Rattle.cluster.specs.Answer.{Outcome}
use Rattle.cluster.specs.State.{replica_count_of, next_leader_epoch_of, replica_at, Same, tidy, zero_state}
use Rattle.cluster.specs.Rules.{rules, state_refusal, state_numbers}
use Rattle.cluster.specs.Equality.{same_sym, tidy_same, same_iff_tidy}
use Rattle.cluster.specs.Unused.{rules_same, state_refusal_same}
use Rattle.cluster.specs.Outcome.{answer, with_zeros}
use Rattle.cluster.specs.RuleLaws.{rules_bounded, rules_logs_bounded, state_listed}
use Rattle.images.specs.Image.{request_bytes, request_bytes_at, requests_bytes, log_bytes, replica_head, replica_bytes, replica_bytes_at, replicas_bytes, header_bytes, image, write_image, buffer_after}
use Rattle.images.specs.Answer.{Written}
use Rattle.images.specs.WriteLaws.{Writes, writes_broken, writes_short, writes_all}
use Rattle.images.specs.Read.{Parsed, missing, end_above, parsed, finished, body_of, read_body, read_image, header_refusal, refusal_of}
use Rattle.images.specs.ReadLaws.{header_numbers, header_listed, read_number, finished_number}
use Rattle.images.specs.RoundTrip.{read_back, read_is_image, read_meets_rules}

-- ---- equal states have one image
same_log : (p q : Replica) → p.end ≤ 16 → SameReplica p q → log_bytes p ≡ log_bytes q
unfolding log_bytes
same_log p q h m =
    concat_cong p.end (record_bytes_at p) (record_bytes_at q) (λ x l. ap record_bytes (m.log x (omega arith) l))
    ∙ ap (λ (n : ℕ). concat_below n (record_bytes_at q)) m.end

same_bytes : (p q : Replica) → p.end ≤ 16 → SameReplica p q → replica_bytes p ≡ replica_bytes q
unfolding replica_bytes
same_bytes p q h m =
    let head : replica_head p ≡ replica_head q = cc (m.hw, m.epoch, m.leader, m.isr, m.end) in
    ap (λ (l : List ℕ). replica_head p ++ l) (same_log p q h m) ∙ ap (λ (l : List ℕ). l ++ log_bytes q) head

image_same : (s t : State) → rules s ≡ true → Same s t → image s ≡ image t
unfolding image requests_bytes replicas_bytes
image_same s t h m =
    let b = rules_bounded s h in
    let requests : requests_bytes s ≡ requests_bytes t =
    concat_cong (next_leader_epoch_of s) (request_bytes_at s) (request_bytes_at t) (λ e l. ap request_bytes (m.requests e (omega (arith, b.requests)) l))
    ∙ ap (λ (n : ℕ). concat_below n (request_bytes_at t)) m.next_epoch in
    let replicas : replicas_bytes s ≡ replicas_bytes t =
    concat_cong (replica_count_of s.limits) (replica_bytes_at s) (replica_bytes_at t)
    (λ i l. same_bytes (replica_at s i) (replica_at t i) (rules_logs_bounded s h i l) (m.replicas i (omega (arith, b.replicas)) l))
    ∙ ap (λ (n : ℕ). concat_below n (replica_bytes_at t)) (ap (λ (c : Limits). replica_count_of c) m.limits) in
    let header : header_bytes s ≡ header_bytes t = cc (m.limits, m.next_epoch, m.next_id, m.quorum) in
    cc (header, requests, replicas)

outcome_state : (s t : State) → answer accepted s ≡ answer accepted t → s ≡ t
outcome_state s t h = ap (λ (o : Outcome). o.state) h

-- two states that meet the rules have one image exactly when they are equal
pub image_iff : (s t : State) → rules s ≡ true → rules t ≡ true → image s ≡ image t ↔ Same s t
image_iff s t h k = (
  (λ e. (same_iff_tidy s t).1 (outcome_state (tidy s) (tidy t) (sym (read_back s h) ∙ ap read_image e ∙ read_back t k))),
  image_same s t h,
)

-- ---- no other bytes give that state
-- bytes are read as the state exactly when they are its image
pub read_iff_image : (s : State) (bs : List ℕ) → rules s ≡ true → Bytes bs → read_image bs ≡ answer accepted (tidy s) ↔ bs ≡ image s
read_iff_image s bs h b = (
  (λ e. read_is_image bs (tidy s) b e ∙ sym (image_same s (tidy s) h (same_sym (tidy s) s (tidy_same s)))),
  (λ e. ap read_image e ∙ read_back s h),
)

-- and no other bytes are read as a state that is equal to it
pub read_equal_is_image : (s t : State) (bs : List ℕ) → Bytes bs → read_image bs ≡ answer accepted t → Same s t → bs ≡ image s
read_equal_is_image s t bs b e m =
    read_is_image bs t b e ∙ sym (image_same s t (rules_same s t m ∙ read_meets_rules bs t e) m)

-- "every state that is .. read has zeros there"
pub read_tidy : (bs : List ℕ) (s : State) → Bytes bs → read_image bs ≡ answer accepted s → tidy s ≡ s
read_tidy bs s b e =
    outcome_state (tidy s) s (sym (read_back s (read_meets_rules bs s e)) ∙ ap read_image (sym (read_is_image bs s b e)) ∙ e)

-- ---- equal states are written alike, broken ones too
pub write_same : (s t : State) (buffer : List ℕ) → Same s t → (write_image s buffer ≡ write_image t buffer) × (buffer_after s buffer ≡ buffer_after t buffer)
write_same s t buffer m = go (rules s) refl
  where
    alike : (a : Written) (after : List ℕ) → Writes s buffer a after → Writes t buffer a after
        → (write_image s buffer ≡ write_image t buffer) × (buffer_after s buffer ≡ buffer_after t buffer)
    alike a after p q = (sym p.0 ∙ q.0, sym p.1 ∙ q.1)

    go : (b : Bool) → rules s ≡ b → (write_image s buffer ≡ write_image t buffer) × (buffer_after s buffer ≡ buffer_after t buffer)
    go false h = alike _ _ (writes_broken s buffer h) (rw (state_refusal_same s t m) (writes_broken t buffer (sym (rules_same s t m) ∙ h)))
    go true h =
        let e : image s ≡ image t = image_same s t h m in
        let k : rules t ≡ true = sym (rules_same s t m) ∙ h in
        elim (dec_lt (length buffer) (length (image s))) [
          | yes l ↦ alike _ _ (writes_short s buffer h l) (writes_short t buffer k (rw e at l))
          | no l ↦
              let room : length (image s) ≤ length buffer = omega arith in
              alike _ _ (writes_all s buffer h room) (rw e (writes_all t buffer k (rw e at room)))
        ]

-- ---- what is written is read back
pub read_written : (s : State) (buffer : List ℕ) → rules s ≡ true → length (image s) ≤ length buffer
    → read_image (take (write_image s buffer).length (buffer_after s buffer)) ≡ answer accepted (tidy s)
read_written s buffer h k =
    let w = writes_all s buffer h k in
    rw (← w.0, ← w.1) (ap read_image (take-append_seam (image s) (drop (length (image s)) buffer)) ∙ read_back s h)

-- ---- "a refused read .. gives an all-zero state"
finished_zero : (m : Parsed State) → ((finished m).refusal ≡ accepted → ⊥) → (finished m).state ≡ zero_state
unfolding finished
finished_zero missing h = refl
finished_zero end_above h = refl
finished_zero (parsed s (b ∷ bs)) h = refl
finished_zero (parsed s []) h = ap (λ (o : Outcome). o.state) (by_other (λ (o : Outcome). o.refusal) (state_refusal s) with_zeros (answer accepted s) refl h)

pub read_refused_zero : (bs : List ℕ) → ((read_image bs).refusal ≡ accepted → ⊥) → (read_image bs).state ≡ zero_state
unfolding read_image read_body
read_refused_zero bs h =
    elim (ℕ_discrete (header_refusal bs) accepted) [
      | yes q ↦
          let e = by_accepted (header_refusal bs) with_zeros (read_body bs) q in
          ap (λ (o : Outcome). o.state) (sym e)
          ∙ finished_zero (body_of bs) (λ z. h (ap (λ (o : Outcome). o.refusal) (sym e) ∙ z))
      | no q ↦ ap (λ (o : Outcome). o.state) (sym (by_refused (header_refusal bs) with_zeros (read_body bs) q))
    ]

-- ---- the numbers that reading may give beside 0
abbrev pub read_numbers : List ℕ
read_numbers = state_numbers ++ wrong_mark ∷ too_short ∷ bad_configuration ∷ left_over ∷ []

finished_listed : (m : Parsed State) → listed (accepted ∷ read_numbers) (finished m).refusal ≡ true
unfolding finished refusal_of listed every
finished_listed missing = refl
finished_listed end_above = refl
finished_listed (parsed s (b ∷ bs)) = refl
finished_listed (parsed s []) =
    ap (listed (accepted ∷ read_numbers)) (finished_number s)
    ∙ listed_within (accepted ∷ state_numbers) (accepted ∷ read_numbers) (state_refusal s) refl (state_listed s)

pub read_listed : (bs : List ℕ) → listed (accepted ∷ read_numbers) (read_image bs).refusal ≡ true
unfolding listed every
read_listed bs =
    ap (listed (accepted ∷ read_numbers)) (sym (read_number bs))
    ∙ listed_first (accepted ∷ read_numbers) (header_refusal bs) (finished (body_of bs)).refusal
    (listed_within (accepted ∷ header_numbers) (accepted ∷ read_numbers) (header_refusal bs) refl (header_listed bs))
    (finished_listed (body_of bs))
