-- The states that renamings work on: tidy states that meet the rules. A renamed one is so too. Assumes nothing.
use Rattle.std.specs.Prelude.{ℕ, ◌≤◌, ◌<◌, ◌≡◌, Bool, ltb}
use Rattle.std.proofs.Math.Path.{refl, sym, ap}
use Rattle.std.proofs.Common.{◌∙◌, arith, le_refl}
use Rattle.std.proofs.Math.Bool.{true, false, cond}
use Rattle.std.proofs.Math.Decide.{dec_lt}
use Rattle.std.proofs.Math.ListN.{get_or-eq_default}
use Rattle.logic.specs.Table.{table, length_table, get_d_table, table_cong}
use Rattle.parts.specs.IsrLaws.{below_32}
use Rattle.replica.specs.declared.Replica.{Replica}
use Rattle.replica.specs.Replica.{zero_replica, no_replica, tidy_replica}
use Rattle.cluster.specs.declared.Request.{Request}
use Rattle.cluster.specs.declared.State.{State}
use Rattle.cluster.specs.State.{replica_count_of, next_leader_epoch_of, zero_request, request_at, replica_at, tidy_request_at, tidy_replica_at, tidy}
use Rattle.cluster.specs.Rules.{rules}
use Rattle.cluster.specs.Predicates.{Rules, rules_iff}
use Rattle.cluster.specs.Equality.{state_path, tidy_twice}
use Rattle.cluster.specs.Unused.{rules_tidy}
use Rattle.cluster.specs.RuleLaws.{rules_bounded}
use Rattle.cluster.specs.ActLaws.{quorum_isr_small, isr_small}
use Rattle.actions.specs.Tidy.{Tidy, tidy_iff}
use Rattle.logic.specs.Maps.{map_table}
use Rattle.renamings.specs.Renaming.{Renaming, inverse, from_below, ltb_to}
use Rattle.renamings.specs.Rename.{rename_request, rename_replica, renamed_replica_at, rename_replicas, rename_state, Met}
use Rattle.renamings.specs.PartsRenamed.{zero_replica_renamed, zero_request_renamed, replica_in_old, request_renamed}
use Rattle.renamings.specs.RulesRenamed.{Fits, rules_renamed}

-- the tidy form of a state that meets the rules
pub met_tidy : (s : State) → rules s ≡ true → Met (tidy s)
met_tidy s h = record { rules = rules_tidy s ∙ h; tidy = tidy_twice s }

module _ (s : State) (m : Met s) where
  rules_met : Rules s
  rules_met = (rules_iff s).0 m.rules

  pub at_most_five : replica_count_of s.limits ≤ 5
  at_most_five = (rules_bounded s m.rules).replicas

  tidy_arrays : Tidy s
  tidy_arrays = (tidy_iff s).0 m.tidy

  request_isr : (e : ℕ) → Dec (e < next_leader_epoch_of s) → Dec (e < 16) → (request_at s e).isr < 32
  request_isr e (yes l) b = below_32 _ _ at_most_five (rules_met.s2.requests e l).within
  request_isr e (no l) (yes b) = omega (arith, ap (λ (q : Request). q.isr) (tidy_arrays.requests.unused e b (omega arith)))
  request_isr e (no l) (no b) =
      let z : request_at s e ≡ zero_request = get_or-eq_default s.requests zero_request (omega (arith, tidy_arrays.requests.room)) in
      omega (arith, ap (λ (q : Request). q.isr) z)

  replica_isr : (i : ℕ) → Dec (i < replica_count_of s.limits) → Dec (i < 5) → (replica_at s i).isr < 32
  replica_isr i (yes l) b = isr_small s m.rules i l
  replica_isr i (no l) (yes b) = omega (arith, ap (λ (q : Replica). q.isr) (tidy_arrays.replicas.unused i b (omega arith)))
  replica_isr i (no l) (no b) =
      let z : replica_at s i ≡ no_replica = get_or-eq_default s.replicas no_replica (omega (arith, tidy_arrays.replicas.room)) in
      omega (arith, ap (λ (q : Replica). q.isr) z)

  pub fits : Fits s
  fits =
      record {
        five = tidy_arrays.replicas.room;
        quorum = quorum_isr_small s m.rules;
        requests = λ e. request_isr e (dec_lt e (next_leader_epoch_of s)) (dec_lt e 16);
        replicas = λ i. replica_isr i (dec_lt i (replica_count_of s.limits)) (dec_lt i 5);
      }

-- ---- a state renamed and then tidied is the state tidied and then renamed
tidy_replica_renamed : (to from : ℕ → ℕ) (q : Replica) → rename_replica to from (tidy_replica q) ≡ tidy_replica (rename_replica to from q)
unfolding tidy_replica
tidy_replica_renamed to from q = refl

module _ (s : State) (p : Renaming (replica_count_of s.limits)) (five : replica_count_of s.limits ≤ 5) where
  abbrev renamed_state : State
  renamed_state = rename_state p.to p.from s

  request_tidied : (e : ℕ) (b : Bool)
      → cond b (request_at renamed_state e) zero_request ≡ rename_request p.to p.from (cond b (request_at s e) zero_request)
  request_tidied e true = request_renamed p five s e
  request_tidied e false = sym (zero_request_renamed p.to p.from)

  replica_tidied : (j : ℕ) → j < 5 → tidy_replica_at renamed_state j ≡ renamed_replica_at p.to p.from (tidy s).replicas j
  unfolding tidy
  replica_tidied j h =
      rw (
        get_d_table 5 (tidy_replica_at s) (p.from j) no_replica (from_below p 5 five j h),
        ltb_to (inverse p) (replica_count_of s.limits) (le_refl (replica_count_of s.limits)) j,
        replica_in_old p.to p.from s.replicas j h,
      )
      (go (ltb j (replica_count_of s.limits)))
    where
      go : (b : Bool)
          → cond b (tidy_replica (rename_replica p.to p.from (replica_at s (p.from j)))) zero_replica
          ≡ rename_replica p.to p.from (cond b (tidy_replica (replica_at s (p.from j))) zero_replica)
      go true = sym (tidy_replica_renamed p.to p.from (replica_at s (p.from j)))
      go false = sym (zero_replica_renamed p.to p.from)

  pub tidy_renamed : tidy renamed_state ≡ rename_state p.to p.from (tidy s)
  unfolding tidy rename_replicas
  tidy_renamed =
      state_path refl refl refl refl
      (sym
      (map_table zero_request 16 (rename_request p.to p.from) (table 16 (tidy_request_at s)) (tidy_request_at renamed_state)
      (length_table 16 (tidy_request_at s))
      (λ e h.
      ap (rename_request p.to p.from) (get_d_table 16 (tidy_request_at s) e zero_request h)
      ∙ sym (request_tidied e (ltb e (next_leader_epoch_of s))))))
      (table_cong 5 (tidy_replica_at renamed_state) (renamed_replica_at p.to p.from (tidy s).replicas) replica_tidied)

-- a tidy state that meets the rules, renamed, is one
pub met_renamed : (s : State) → Met s → (p : Renaming (replica_count_of s.limits)) → Met (rename_state p.to p.from s)
met_renamed s m p =
    record {
      rules = rules_renamed s p (at_most_five s m) (fits s m) ∙ m.rules;
      tidy = tidy_renamed s p (at_most_five s m) ∙ ap (rename_state p.to p.from) m.tidy;
    }
