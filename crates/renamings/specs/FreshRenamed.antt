-- The fresh state of a configuration and the state of zeros: every renaming leaves them as they are. Assumes nothing.
use Rattle.std.specs.Prelude.{ℕ, ◌≤◌, ◌≡◌, refl, Bool, true, false, cond, List, ltb}
use Rattle.std.proofs.Math.Path.{ap}
use Rattle.std.proofs.Common.{◌∙◌, le_refl}
use Rattle.logic.specs.Table.{table, table_from, get_d_table, table_cong}
use Rattle.replica.specs.declared.Replica.{Replica}
use Rattle.replica.specs.Replica.{no_replica, zero_replica}
use Rattle.cluster.specs.declared.Limits.{Limits}
use Rattle.cluster.specs.State.{replica_count_of, zero_state}
use Rattle.cluster.specs.Rules.{in_range}
use Rattle.cluster.specs.RuleLaws.{ranges_of}
use Rattle.cluster.specs.Fresh.{fresh_replica, fresh_replica_at, fresh_state}
use Rattle.cluster.specs.FreshLaws.{fresh_tidy, zero_tidy}
use Rattle.renamings.specs.Names.{new_name, old_name, is_renaming}
use Rattle.renamings.specs.Renaming.{Renaming, inverse, from_below, ltb_to}
use Rattle.renamings.specs.Rename.{rename_leader, rename_replica, renamed_replica_at, rename_replicas, rename_state, renamed}
use Rattle.renamings.specs.Rows.{renaming_of}
use Rattle.renamings.specs.PartsRenamed.{empty_renamed, zero_replica_renamed, full_stays}

module _ {n : ℕ} (p : Renaming n) (five : n ≤ 5) where
  -- five replicas stay where each block stays under the renaming, and is the block of the replica whose name it gets
  replicas_stay : (at : ℕ → Replica) → ((j : ℕ) → at (p.from j) ≡ at j)
      → ((j : ℕ) → rename_replica p.to p.from (at j) ≡ at j)
      → rename_replicas p.to p.from (table 5 at) ≡ table 5 at
  unfolding rename_replicas
  replicas_stay at alike stays =
      table_cong 5 (renamed_replica_at p.to p.from (table 5 at)) at
      (λ j h.
      ap (rename_replica p.to p.from) (get_d_table 5 at (p.from j) no_replica (from_below p 5 five j h) ∙ alike j) ∙ stays j)

-- the state of zeros, under a renaming of any number of replicas
pub zero_renamed : (n : ℕ) → n ≤ 5 → (p : List ℕ) → is_renaming n p ≡ true → renamed p zero_state ≡ zero_state
unfolding renamed rename_leader table table_from
zero_renamed n five p h =
    ap (rename_state (new_name p) (old_name p)) zero_tidy
    ∙ rw (
      empty_renamed (old_name p),
      replicas_stay (renaming_of n five p h) five (λ j. zero_replica) (λ j. refl) (λ j. zero_replica_renamed (new_name p) (old_name p)),
    )

-- the fresh state, under a renaming of its replicas
pub fresh_renamed : (c : Limits) → in_range c ≡ true → (p : List ℕ) → is_renaming (replica_count_of c) p ≡ true
    → renamed p (fresh_state c) ≡ fresh_state c
unfolding renamed fresh_state rename_leader
fresh_renamed c ok p h =
    ap (rename_state (new_name p) (old_name p)) (fresh_tidy c)
    ∙ rw (
      full_stays renaming_by_p five,
      empty_renamed (old_name p),
      replicas_stay renaming_by_p five (fresh_replica_at c) alike (λ j. stays (ltb j (replica_count_of c))),
    )
  where
    five : replica_count_of c ≤ 5
    five = (ranges_of c ok).replicas

    renaming_by_p : Renaming (replica_count_of c)
    renaming_by_p = renaming_of (replica_count_of c) five p h

    alike : (j : ℕ) → fresh_replica_at c (old_name p j) ≡ fresh_replica_at c j
    alike j =
        ap (λ (b : Bool). cond b fresh_replica zero_replica) (ltb_to (inverse renaming_by_p) (replica_count_of c) (le_refl (replica_count_of c)) j)

    stays : (b : Bool) → rename_replica (new_name p) (old_name p) (cond b fresh_replica zero_replica) ≡ cond b fresh_replica zero_replica
    stays true = rw (empty_renamed (old_name p))
    stays false = zero_replica_renamed (new_name p) (old_name p)
