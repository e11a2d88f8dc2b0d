-- Renamings of a state one after another: first one and then another is one renaming, and the inverse leads back. Assumes
-- nothing.
use Rattle.parts.specs.Leader.{Leader}
use Rattle.std.specs.Prelude.{ℕ, ◌≤◌, ◌<◌, ◌≡◌, None, Some}
use Rattle.std.proofs.Math.Path.{refl, sym, ap, fun_ext}
use Rattle.std.proofs.Common.{◌∙◌}
use Rattle.logic.specs.Maps.{map_twice, map_same}
use Rattle.logic.specs.Table.{get_d_table, ext_table, table_cong}
use Rattle.parts.specs.Isr.{member, isr_of}
use Rattle.parts.specs.IsrLaws.{member_isr_of, isr_of_cong, isr_of_member}
use Rattle.replica.specs.declared.Replica.{Replica}
use Rattle.replica.specs.Replica.{no_replica}
use Rattle.cluster.specs.declared.Request.{Request}
use Rattle.cluster.specs.declared.State.{State}
use Rattle.cluster.specs.State.{zero_request, replica_in, request_at, replica_at}
use Rattle.cluster.specs.Equality.{state_path}
use Rattle.renamings.specs.Renaming.{Renaming, inverse, compose, from_below}
use Rattle.renamings.specs.Rename.{rename_leader, rename_isr, rename_request, rename_replica, renamed_replica_at, rename_replicas, rename_state}
use Rattle.renamings.specs.RulesRenamed.{Fits}

-- ---- one after the other
leader_twice : (u t : ℕ → ℕ) (leader : Leader) → rename_leader (λ i. u (t i)) leader ≡ rename_leader u (rename_leader t leader)
unfolding rename_leader
leader_twice u t None = refl
leader_twice u t (Some b) = refl

module _ {n : ℕ} (p q : Renaming n) (five : n ≤ 5) where
  abbrev p_after_q : Renaming n
  p_after_q = compose p q

  isr_twice : (isr : ℕ) → rename_isr p_after_q.from isr ≡ rename_isr p.from (rename_isr q.from isr)
  unfolding rename_isr
  isr_twice isr =
      isr_of_cong (λ j. member isr (q.from (p.from j))) (λ j. member (isr_of (λ i. member isr (q.from i))) (p.from j))
      (λ j h. sym (member_isr_of (λ i. member isr (q.from i)) (p.from j) (from_below p 5 five j h)))

  request_twice : (r : Request)
      → rename_request p_after_q.to p_after_q.from r ≡ rename_request p.to p.from (rename_request q.to q.from r)
  request_twice r = rw (leader_twice p.to q.to r.leader, isr_twice r.isr) refl

  replica_twice : (r : Replica)
      → rename_replica p_after_q.to p_after_q.from r ≡ rename_replica p.to p.from (rename_replica q.to q.from r)
  replica_twice r = rw (leader_twice p.to q.to r.leader, isr_twice r.isr) refl

  -- first q and then p is the composed renaming
  pub rename_twice : (s : State)
      → rename_state p_after_q.to p_after_q.from s ≡ rename_state p.to p.from (rename_state q.to q.from s)
  unfolding rename_replicas
  rename_twice s =
      state_path refl refl refl
      (rw (leader_twice p.to q.to s.quorum.leader, isr_twice s.quorum.isr) refl)
      (map_twice (rename_request p.to p.from) (rename_request q.to q.from) (rename_request p_after_q.to p_after_q.from) request_twice s.requests)
      (table_cong 5 (renamed_replica_at p_after_q.to p_after_q.from s.replicas)
      (renamed_replica_at p.to p.from (rename_replicas q.to q.from s.replicas))
      (λ j h.
      replica_twice (replica_in s.replicas (q.from (p.from j)))
      ∙ ap (rename_replica p.to p.from)
      (sym (get_d_table 5 (renamed_replica_at q.to q.from s.replicas) (p.from j) no_replica (from_below p 5 five j h)))))

-- ---- the renaming that leaves every number
abbrev identity : ℕ → ℕ
identity i = i

leader_same : (leader : Leader) → rename_leader identity leader ≡ leader
unfolding rename_leader
leader_same None = refl
leader_same (Some b) = refl

isr_same : (isr : ℕ) → isr < 32 → rename_isr identity isr ≡ isr
unfolding rename_isr
isr_same isr h = isr_of_member isr h

pub rename_same : (s : State) → Fits s → rename_state identity identity s ≡ s
unfolding rename_replicas
rename_same s f =
    state_path refl refl refl
    (rw (leader_same s.quorum.leader, isr_same s.quorum.isr f.quorum) refl)
    (map_same zero_request (rename_request identity identity) s.requests
    (λ e. rw (leader_same (request_at s e).leader, isr_same (request_at s e).isr (f.requests e)) refl))
    (sym
    (ext_table no_replica 5 (renamed_replica_at identity identity s.replicas) s.replicas f.five
    (λ j h. rw (leader_same (replica_at s j).leader, isr_same (replica_at s j).isr (f.replicas j)) refl)))

-- ---- there and back
pub rename_back : {n : ℕ} (p : Renaming n) → n ≤ 5 → (s : State) → Fits s
    → rename_state p.from p.to (rename_state p.to p.from s) ≡ s
rename_back p five s f =
    sym (rename_twice (inverse p) p five s) ∙ ap (λ (t : ℕ → ℕ). rename_state t t s) (fun_ext p.from_to) ∙ rename_same s f
