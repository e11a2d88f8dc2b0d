-- Two renamings of a state compared field by field, with no image of either, and the proof that this answers what comparing their
-- images answers. p and q are the five places of two renamings. Assumes nothing.
--
--   compare_two x y z w                   x and then y compared with z and then w
--   compare_records r t                   two records: id, epoch
--   compare_logs a b                      the logs of two replicas, record by record up to the end of the first
--   compare_named p q l isr m other       leader l and isr by the names of p with leader m and other by those of q
--   compare_heads p q a b                 two replicas without their logs
--   compare_replicas p q a b              two replicas
--   compare_replicas_at, compare_requests_at  the replicas that p and q name j, and request e by both
--   compare_all_requests s p q            the requests of s by p and by q
--   compare_all_replicas s p q            the replicas of s, in the order of their new names by p and by q
--   compare_under s p q                   the state under p compared with the state under q, field by field
--   named_begin .. image_begin            each part of the two images begins with the answer of its fields
--   compare_images                        comparing the two images answers compare_under
--   precedes_under                        the one image comes before the other exactly where that answer is less
--   less_iff, equal_iff, greater_iff      less, equal and greater, each exactly where the images are so
--   log_same                              a log is equal to itself
use Rattle.std.specs.Prelude.{ℕ, ◌≤◌, ◌<◌, ◌≡◌, refl, List, [], ◌∷◌, ◌↔◌, take}
use Rattle.std.proofs.Common.{sym, ap₂, ◌∙◌, subst, arith}
use Rattle.std.proofs.Math.Path.{ap}
use Rattle.std.proofs.Math.Bool.{true}
use Rattle.logic.specs.Concat.{concat_below}
use Rattle.logic.specs.Order.{precedes}
use Rattle.parts.specs.Epoch.{epoch_byte}
use Rattle.parts.specs.Leader.{Leader, leader_byte}
use Rattle.replica.specs.declared.Record.{Record}
use Rattle.replica.specs.declared.Replica.{Replica}
use Rattle.replica.specs.Replica.{record_at}
use Rattle.replica.specs.ReplicaBytes.{record_bytes_at}
use Rattle.cluster.specs.declared.Request.{Request}
use Rattle.cluster.specs.declared.State.{State}
use Rattle.cluster.specs.State.{replica_count_of, next_leader_epoch_of, request_in, replica_in, request_at, replica_at, tidy}
use Rattle.cluster.specs.Rules.{rules}
use Rattle.cluster.specs.RuleLaws.{rules_bounded}
use Rattle.cluster.specs.Equality.{tidy_same}
use Rattle.cluster.specs.Unused.{rules_tidy}
use Rattle.images.specs.Image.{log_bytes, request_bytes_at, requests_bytes, replica_head, replica_bytes, replica_bytes_at, replicas_bytes, header_bytes, image}
use Rattle.images.specs.ImageTheorems.{image_iff}
use Rattle.renamings.specs.Names.{new_name, old_name}
use Rattle.renamings.specs.Rename.{rename_leader, rename_isr, rename_replica, rename_state, renamed, Renames}
use Rattle.renamings.specs.Rows.{renaming_of}
use Rattle.renamings.specs.PartsRenamed.{request_in_renamed, replica_in_old}
use Rattle.renamings.specs.TidyRenamed.{tidy_renamed}
use Rattle.renamings.specs.RenameTheorems.{renamed_meets_rules}
use Rattle.std.specs.declared.cmp.Ordering.TheVariants.{Less, Equal, Greater}
use Rattle.representatives.specs.Comparison.{Comparison, compare_numbers, then_compare, compare_bytes, decision_below, then_both, equal_numbers, Begin, begin_whole, begin_same, begin_one, begin_two, begin_then, begin_concat, is_less, precedes_compare, says_less, says_equal, says_greater}
use Rattle.representatives.specs.Representative.{image_under}

-- ---- the fields of two renamings, in the order of an image
-- two numbers each, one after the other
abbrev pub compare_two : ℕ → ℕ → ℕ → ℕ → Comparison
compare_two x y z w = then_compare (compare_numbers x z) (compare_numbers y w)

-- records: id, epoch
abbrev pub compare_records : Record → Record → Comparison
compare_records r t = compare_two r.id (epoch_byte r.epoch) t.id (epoch_byte t.epoch)

-- logs, record by record up to the first one's end
abbrev pub compare_records_at : Replica → Replica → ℕ → Comparison
compare_records_at a b x = compare_records (record_at a x) (record_at b x)

unfoldable pub compare_logs : Replica → Replica → Comparison
compare_logs a b = decision_below a.end (compare_records_at a b)

module _ (p q : List ℕ) where
  -- leaders and ISRs: the one by the names of p, the other by those of q
  unfoldable pub compare_named : Leader → ℕ → Leader → ℕ → Comparison
  compare_named l isr m other =
      compare_two (leader_byte (rename_leader (new_name p) l)) (rename_isr (old_name p) isr) (leader_byte (rename_leader (new_name q) m)) (rename_isr (old_name q) other)

  -- replicas up to their logs: hw, epoch, leader, ISR, end
  unfoldable pub compare_heads : Replica → Replica → Comparison
  compare_heads a b =
      then_compare (compare_two a.hw (epoch_byte a.epoch) b.hw (epoch_byte b.epoch))
      (then_compare (compare_named a.leader a.isr b.leader b.isr)
      (compare_numbers a.end b.end))

  -- replicas: the head, then the log
  unfoldable pub compare_replicas : Replica → Replica → Comparison
  compare_replicas a b = then_compare (compare_heads a b) (compare_logs a b)

  -- the replicas that p and q name j
  abbrev pub compare_replicas_at : List Replica → ℕ → Comparison
  compare_replicas_at replicas j = compare_replicas (replica_in replicas (old_name p j)) (replica_in replicas (old_name q j))

  -- the request of epoch e
  abbrev pub compare_requests_at : List Request → ℕ → Comparison
  compare_requests_at requests e =
      compare_named (request_in requests e).leader (request_in requests e).isr (request_in requests e).leader (request_in requests e).isr

-- the requests, and the replicas in the order of their new names
unfoldable pub compare_all_requests : State → List ℕ → List ℕ → Comparison
compare_all_requests s p q = decision_below (next_leader_epoch_of s) (compare_requests_at p q s.requests)

unfoldable pub compare_all_replicas : State → List ℕ → List ℕ → Comparison
compare_all_replicas s p q = decision_below (replica_count_of s.limits) (compare_replicas_at p q s.replicas)

-- the state under p with the state under q: the quorum, the requests, the replicas. All else is the same in both.
unfoldable pub compare_under : State → List ℕ → List ℕ → Comparison
compare_under s p q =
    then_compare (compare_named p q s.quorum.leader s.quorum.isr s.quorum.leader s.quorum.isr)
    (then_compare (compare_all_requests s p q) (compare_all_replicas s p q))

-- ---- each part of the two images begins with the answer of its fields
module _ (p q : List ℕ) where
  named_begin : (l m : Leader) (isr other : ℕ)
      → Begin (leader_byte (rename_leader (new_name p) l) ∷ rename_isr (old_name p) isr ∷ []) (leader_byte (rename_leader (new_name q) m) ∷ rename_isr (old_name q) other ∷ [])
      (compare_named p q l isr m other)
  unfolding compare_named
  named_begin l m isr other = begin_two _ _ _ _

  -- a replica's head
  head_begin : (a b : Replica)
      → Begin (replica_head (rename_replica (new_name p) (old_name p) a)) (replica_head (rename_replica (new_name q) (old_name q) b)) (compare_heads p q a b)
  unfolding compare_heads
  head_begin a b =
      begin_then (a.hw ∷ epoch_byte a.epoch ∷ []) (b.hw ∷ epoch_byte b.epoch ∷ []) _ _ _ _
      (begin_two a.hw (epoch_byte a.epoch) b.hw (epoch_byte b.epoch))
      (λ e.
      begin_then (leader_byte (rename_leader (new_name p) a.leader) ∷ rename_isr (old_name p) a.isr ∷ [])
      (leader_byte (rename_leader (new_name q) b.leader) ∷ rename_isr (old_name q) b.isr ∷ []) _ _ _ _
      (named_begin a.leader b.leader a.isr b.isr) (λ k. begin_one a.end b.end))

  -- heads that are equal have equal ends: logs of different lengths are not compared, since their ends decide before
  ends_equal : (a b : Replica) → compare_heads p q a b ≡ Equal → a.end ≡ b.end
  unfolding compare_heads
  ends_equal a b e = equal_numbers a.end b.end (then_both _ _ (then_both _ _ e).1).1

-- logs of one length
log_begin : (a b : Replica) → a.end ≡ b.end → Begin (log_bytes a) (log_bytes b) (compare_logs a b)
unfolding log_bytes compare_logs
log_begin a b e =
    subst (λ (n : ℕ). Begin (concat_below a.end (record_bytes_at a)) (concat_below n (record_bytes_at b)) (decision_below a.end (compare_records_at a b))) e
    (begin_concat a.end (record_bytes_at a) (record_bytes_at b) (compare_records_at a b)
    (λ x l. begin_two (record_at a x).id (epoch_byte (record_at a x).epoch) (record_at b x).id (epoch_byte (record_at b x).epoch)))

module _ (p q : List ℕ) where
  replica_begin : (a b : Replica)
      → Begin (replica_bytes (rename_replica (new_name p) (old_name p) a)) (replica_bytes (rename_replica (new_name q) (old_name q) b)) (compare_replicas p q a b)
  unfolding replica_bytes compare_replicas log_bytes
  replica_begin a b =
      begin_then (replica_head (rename_replica (new_name p) (old_name p) a)) (replica_head (rename_replica (new_name q) (old_name q) b)) _ _ (compare_heads p q a b) (compare_logs a b)
      (head_begin p q a b) (λ e. log_begin a b (ends_equal p q a b e))

module _ (s : State) where
  -- the state under p, its unused room as it is
  abbrev as_renamed : List ℕ → State
  as_renamed p = rename_state (new_name p) (old_name p) s

  request_begin : (p q : List ℕ) (e : ℕ) → Begin (request_bytes_at (as_renamed p) e) (request_bytes_at (as_renamed q) e) (compare_requests_at p q s.requests e)
  request_begin p q e =
      rw (request_in_renamed (new_name p) (old_name p) s.requests e, request_in_renamed (new_name q) (old_name q) s.requests e)
      (named_begin p q (request_at s e).leader (request_at s e).leader (request_at s e).isr (request_at s e).isr)

  replica_begin_at : (p q : List ℕ) (j : ℕ) → j < 5 → Begin (replica_bytes_at (as_renamed p) j) (replica_bytes_at (as_renamed q) j) (compare_replicas_at p q s.replicas j)
  replica_begin_at p q j h =
      rw (replica_in_old (new_name p) (old_name p) s.replicas j h, replica_in_old (new_name q) (old_name q) s.replicas j h)
      (replica_begin p q (replica_at s (old_name p j)) (replica_at s (old_name q j)))

  -- what every renaming leaves: the first eight bytes
  first_eight : List ℕ
  first_eight = take 8 (header_bytes s)

  header_begin : (p q : List ℕ)
      → Begin (header_bytes (as_renamed p)) (header_bytes (as_renamed q)) (compare_named p q s.quorum.leader s.quorum.isr s.quorum.leader s.quorum.isr)
  unfolding first_eight then_compare
  header_begin p q =
      begin_then first_eight first_eight _ _ Equal _ (begin_same first_eight)
      (λ e. named_begin p q s.quorum.leader s.quorum.leader s.quorum.isr s.quorum.isr)

  image_begin : replica_count_of s.limits ≤ 5 → (p q : List ℕ) → Begin (image (as_renamed p)) (image (as_renamed q)) (compare_under s p q)
  unfolding image requests_bytes replicas_bytes compare_under compare_all_requests compare_all_replicas
  image_begin five p q =
      begin_then (header_bytes (as_renamed p)) (header_bytes (as_renamed q)) _ _ _ _ (header_begin p q)
      (λ e.
      begin_then (requests_bytes (as_renamed p)) (requests_bytes (as_renamed q)) _ _ _ _
      (begin_concat (next_leader_epoch_of s) (request_bytes_at (as_renamed p)) (request_bytes_at (as_renamed q)) (compare_requests_at p q s.requests) (λ i l. request_begin p q i))
      (λ k.
      begin_concat (replica_count_of s.limits) (replica_bytes_at (as_renamed p)) (replica_bytes_at (as_renamed q)) (compare_replicas_at p q s.replicas)
      (λ j l. replica_begin_at p q j (omega arith))))

-- ---- the theorem, of a state that meets the rules and two renamings of its replicas: the fields say what the images say
module _ (s : State) (h : rules s ≡ true) where
  -- unused room is no part of an image, so the state need not be tidied before it is renamed
  image_as_renamed : (p : List ℕ) → Renames s p → image_under s p ≡ image (as_renamed s p)
  unfolding renamed
  image_as_renamed p f =
      let t = as_renamed s p in
      let few : replica_count_of s.limits ≤ 5 = (rules_bounded s h).replicas in
      let e : tidy t ≡ rename_state (new_name p) (old_name p) (tidy s) = tidy_renamed s (renaming_of (replica_count_of s.limits) few p f) few in
      let k : rules (tidy t) ≡ true = ap rules e ∙ renamed_meets_rules s h p f in
      ap image (sym e) ∙ (image_iff (tidy t) t k (sym (rules_tidy t) ∙ k)).1 (tidy_same t)

  pub compare_images : (p q : List ℕ) → Renames s p → Renames s q → compare_bytes (image_under s p) (image_under s q) ≡ compare_under s p q
  compare_images p q f g = ap₂ compare_bytes (image_as_renamed p f) (image_as_renamed q g) ∙ begin_whole _ _ _ (image_begin s (rules_bounded s h).replicas p q)

-- less, equal and greater, each exactly where the images are so
module _ (s : State) (h : rules s ≡ true) (p q : List ℕ) (f : Renames s p) (g : Renames s q) where
  pub precedes_under : precedes (image_under s p) (image_under s q) ≡ is_less (compare_under s p q)
  precedes_under = precedes_compare (image_under s p) (image_under s q) ∙ ap is_less (compare_images s h p q f g)

  pub less_iff : compare_under s p q ≡ Less ↔ precedes (image_under s p) (image_under s q) ≡ true
  less_iff =
      let e = compare_images s h p q f g in
      let k = says_less (image_under s p) (image_under s q) in
      ((λ h. k.0 (e ∙ h)), (λ h. sym e ∙ k.1 h))

  pub equal_iff : compare_under s p q ≡ Equal ↔ image_under s p ≡ image_under s q
  equal_iff =
      let e = compare_images s h p q f g in
      let k = says_equal (image_under s p) (image_under s q) in
      ((λ h. k.0 (e ∙ h)), (λ h. sym e ∙ k.1 h))

  pub greater_iff : compare_under s p q ≡ Greater ↔ precedes (image_under s q) (image_under s p) ≡ true
  greater_iff =
      let e = compare_images s h p q f g in
      let k = says_greater (image_under s p) (image_under s q) in
      ((λ h. k.0 (e ∙ h)), (λ h. sym e ∙ k.1 h))

-- ---- a log is equal to itself
pub log_same : (a : Replica) → Equal ≡ compare_logs a a
log_same a =
    sym (begin_whole (log_bytes a) (log_bytes a) Equal (begin_same (log_bytes a)))
    ∙ begin_whole (log_bytes a) (log_bytes a) (compare_logs a a) (log_begin a a refl)
