-- A renamed state meets S1 to S7 exactly where the state does. Assumes nothing.
--
--   Fits s                            the array of replicas has five places, and each ISR is below 32
--   within_renamed, in_range_renamed  an ISR, and a leader with it, is in range exactly where the renamed one is
--   rule2_renamed .. rule7_renamed    each of S2 to S7 holds of the renamed state exactly where it holds of the state
--   matches_renamed                   the part of S5 on a replica's epoch, leader and ISR
--   rules_renamed                     all seven do; S1 reads nothing that a renaming changes
use Rattle.parts.specs.Leader.{Leader}
use Prim.Native.Nat.{ℕ, zero, suc, ◌≤◌, ◌<◌, ◌^◌}
use Rattle.std.specs.Prelude.{◌≡◌, Bool, ◌&&◌, ◌||◌, ℤ, pos, negsuc, length}
use Rattle.std.proofs.Math.Path.{refl, ap, ap₂}
use Rattle.std.proofs.Common.{sym, ◌∙◌, le_refl}
use Rattle.std.proofs.Math.Bool.{not}
use Rattle.std.proofs.Math.Dec.{ltb, leb}
use borrow.Author.Tests.{lt-ltb, ltb-true}
use Rattle.logic.specs.Tests.{all_below, all_cong, bool_ext, every_cong}
use Rattle.parts.specs.Isr.{member, isr_below}
use Rattle.parts.specs.IsrLaws.{within_iff}
use Rattle.parts.specs.Epoch.{same_epoch, last_epoch}
use Rattle.replica.specs.Log.{log_in_use, record_agrees, logs_agree}
use Rattle.cluster.specs.declared.State.{State}
use Rattle.cluster.specs.State.{replica_count_of, log_size_of, next_leader_epoch_of, next_record_id_of, request_at, replica_at}
use Rattle.cluster.specs.Rules.{leader_and_isr_in_range, replica_in_range, replica_in_range_at, request_in_range_at, rule2, quorum_matches_request, rule3, request_leader_in_isr, rule4, replica_matches_request, replica_meets_s5, replica_meets_s5_at, rule5, log_in_use_at, rule6, agrees_with_at, agrees_with_all, agrees_at, rule7, rules}
use Rattle.renamings.specs.Renaming.{Renaming, inverse, ltb_to, all_to}
use Rattle.renamings.specs.Rename.{rename_leader, rename_isr, rename_replica, rename_state}
use Rattle.renamings.specs.PartsRenamed.{member_renamed, isr_small, full_renamed, none_renamed, names_renamed, leader_below_renamed, leader_in_isr_renamed, same_leader_renamed, no_leader_renamed, replica_renamed, request_renamed}

-- the array of replicas has five places, and each ISR is of five replicas
pub record Fits (s : State) : Type 0 where
  pub five : length s.replicas ≡ 5
  pub quorum : s.quorum.isr < 32
  pub requests : (e : ℕ) → (request_at s e).isr < 32
  pub replicas : (i : ℕ) → (replica_at s i).isr < 32

module _ {n : ℕ} (p : Renaming n) (five : n ≤ 5) where
  -- an ISR is within the replicas exactly where the renamed one is
  within_renamed : (isr : ℕ) → isr < 32 → isr_below n (rename_isr p.from isr) ≡ isr_below n isr
  unfolding isr_below
  within_renamed isr small =
      bool_ext (ltb (rename_isr p.from isr) (2 ^ n)) (ltb isr (2 ^ n))
      (λ e.
      lt-ltb isr (2 ^ n)
      ((within_iff n isr five small).1
      (λ i m.
      ltb-true i n
      (sym (ltb_to p n (le_refl n) i)
      ∙ lt-ltb (p.to i) n
      ((within_iff n (rename_isr p.from isr) five (isr_small p five isr)).0 (ltb-true (rename_isr p.from isr) (2 ^ n) e) (p.to i)
      (member_renamed p five isr i ∙ m))))))
      (λ e.
      lt-ltb (rename_isr p.from isr) (2 ^ n)
      ((within_iff n (rename_isr p.from isr) five (isr_small p five isr)).1
      (λ j m.
      ltb-true j n
      (sym (ltb_to (inverse p) n (le_refl n) j)
      ∙ lt-ltb (p.from j) n
      ((within_iff n isr five small).0 (ltb-true isr (2 ^ n) e) (p.from j)
      (sym (member_renamed p five isr (p.from j)) ∙ ap (member (rename_isr p.from isr)) (p.to_from j) ∙ m))))))

  in_range_renamed : (leader : Leader) (isr : ℕ) → isr < 32
      → leader_and_isr_in_range n (rename_leader p.to leader) (rename_isr p.from isr) ≡ leader_and_isr_in_range n leader isr
  unfolding leader_and_isr_in_range
  in_range_renamed leader isr h = ap₂ (λ (x y : Bool). x && y) (leader_below_renamed p five leader) (within_renamed isr h)

module _ (s : State) (p : Renaming (replica_count_of s.limits)) (five : replica_count_of s.limits ≤ 5) (fits : Fits s) where
  abbrev n : ℕ
  n = replica_count_of s.limits

  abbrev t : State
  t = rename_state p.to p.from s

  replica-at : (i : ℕ) → replica_at t (p.to i) ≡ rename_replica p.to p.from (replica_at s i)
  replica-at i = replica_renamed p five s i fits.five

  -- a test of every replica
  each_renamed : (f g : ℕ → Bool) → ((i : ℕ) → i < n → f (p.to i) ≡ g i) → all_below n f ≡ all_below n g
  each_renamed f g h = all_to p n (le_refl n) f g h

  rule2_renamed : rule2 s.limits (next_leader_epoch_of s) t.quorum t.requests t.replicas
      ≡ rule2 s.limits (next_leader_epoch_of s) s.quorum s.requests s.replicas
  unfolding rule2 replica_in_range
  rule2_renamed =
      every_cong _ _ _ _ (in_range_renamed p five s.quorum.leader s.quorum.isr fits.quorum)
      (every_cong _ _ _ _
      (all_cong (next_leader_epoch_of s) (request_in_range_at n t.requests) (request_in_range_at n s.requests)
      (λ e h. rw (request_renamed p five s e) (in_range_renamed p five (request_at s e).leader (request_at s e).isr (fits.requests e))))
      (every_cong _ _ _ _
      (each_renamed (replica_in_range_at s.limits t.replicas) (replica_in_range_at s.limits s.replicas)
      (λ i h.
      rw (replica-at i)
      (ap (λ (b : Bool). leb (replica_at s i).end (log_size_of s.limits) && b)
      (in_range_renamed p five (replica_at s i).leader (replica_at s i).isr (fits.replicas i)))))
      refl))

  rule3_renamed : rule3 n (next_leader_epoch_of s) t.quorum t.requests ≡ rule3 n (next_leader_epoch_of s) s.quorum s.requests
  unfolding rule3 quorum_matches_request
  rule3_renamed = ap (λ (b : Bool). same_epoch s.quorum.epoch (last_epoch (next_leader_epoch_of s)) && b) (matches (next_leader_epoch_of s))
    where
      matches : (next : ℕ) → quorum_matches_request n t.quorum t.requests next ≡ quorum_matches_request n s.quorum s.requests next
      matches zero =
          ap₂ (λ (x y : Bool). x && y) (no_leader_renamed p five s.quorum.leader) (full_renamed p five s.quorum.isr fits.quorum)
      matches (suc last) = rw (request_renamed p five s last) (same_leader_renamed p five s.quorum.leader (request_at s last).leader)

  rule4_renamed : rule4 (next_leader_epoch_of s) t.quorum t.requests ≡ rule4 (next_leader_epoch_of s) s.quorum s.requests
  unfolding rule4
  rule4_renamed =
      ap₂ (λ (x y : Bool). x && y) (leader_in_isr_renamed p five s.quorum.isr s.quorum.leader)
      (all_cong (next_leader_epoch_of s) (request_leader_in_isr t.requests) (request_leader_in_isr s.requests)
      (λ e h. rw (request_renamed p five s e) (leader_in_isr_renamed p five (request_at s e).isr (request_at s e).leader)))

  matches_renamed : (epoch : ℤ) (leader : Leader) (isr : ℕ) → isr < 32
      → replica_matches_request (next_leader_epoch_of s) t.requests epoch (rename_leader p.to leader) (rename_isr p.from isr)
      ≡ replica_matches_request (next_leader_epoch_of s) s.requests epoch leader isr
  unfolding replica_matches_request
  matches_renamed (negsuc zero) leader isr h =
      ap₂ (λ (x y : Bool). x && y) (no_leader_renamed p five leader) (none_renamed p five isr h)
  matches_renamed (negsuc (suc k)) leader isr h = refl
  matches_renamed (pos e) leader isr h =
      ap (λ (b : Bool). ltb e (next_leader_epoch_of s) && b)
      (rw (request_renamed p five s e) (same_leader_renamed p five leader (request_at s e).leader))

  rule5_renamed : rule5 n (next_leader_epoch_of s) t.requests t.replicas ≡ rule5 n (next_leader_epoch_of s) s.requests s.replicas
  unfolding rule5 replica_meets_s5
  rule5_renamed =
      each_renamed (replica_meets_s5_at (next_leader_epoch_of s) t.requests t.replicas) (replica_meets_s5_at (next_leader_epoch_of s) s.requests s.replicas)
      (λ i h.
      rw (replica-at i)
      (every_cong _ _ _ _ (matches_renamed (replica_at s i).epoch (replica_at s i).leader (replica_at s i).isr (fits.replicas i))
      (every_cong _ _ _ _
      (ap₂ (λ (x y : Bool). not x || y) (names_renamed p five (replica_at s i).leader i) (member_renamed p five (replica_at s i).isr i))
      refl)))

  rule6_renamed : rule6 n (next_record_id_of s) (next_leader_epoch_of s) t.replicas ≡ rule6 n (next_record_id_of s) (next_leader_epoch_of s) s.replicas
  unfolding rule6 log_in_use
  rule6_renamed =
      each_renamed (log_in_use_at (next_record_id_of s) (next_leader_epoch_of s) t.replicas) (log_in_use_at (next_record_id_of s) (next_leader_epoch_of s) s.replicas)
      (λ i h. rw (replica-at i) refl)

  rule7_renamed : rule7 n t.replicas ≡ rule7 n s.replicas
  unfolding rule7 agrees_with_all logs_agree record_agrees
  rule7_renamed =
      each_renamed (agrees_at n t.replicas) (agrees_at n s.replicas)
      (λ i h.
      rw (replica-at i)
      (each_renamed (agrees_with_at t.replicas (rename_replica p.to p.from (replica_at s i))) (agrees_with_at s.replicas (replica_at s i))
      (λ j l. rw (replica-at j) refl)))

  -- a renaming keeps S1 to S7
  pub rules_renamed : rules t ≡ rules s
  unfolding rules
  rules_renamed =
      every_cong _ _ _ _ refl
      (every_cong _ _ _ _ rule2_renamed
      (every_cong _ _ _ _ rule3_renamed
      (every_cong _ _ _ _ rule4_renamed
      (every_cong _ _ _ _ rule5_renamed
      (every_cong _ _ _ _ rule6_renamed
      (every_cong _ _ _ _ rule7_renamed refl))))))
