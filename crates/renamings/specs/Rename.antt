-- A state and an action under a renaming. "It gives replica p(i) the whole block of replica i, and in every leader, every ISR
-- and every used replica operand below R it puts p(i) for i; all else stays." A renaming is given here by two functions: `to`
-- is p, and `from` its inverse. Assumes nothing.
use Rattle.parts.specs.Leader.{Leader}
use Rattle.std.specs.Prelude.{ℕ, ◌≡◌, Bool, true, not, ◌&&◌, cond, List, map, ltb, None, Some}
use Rattle.logic.specs.Table.{table}
use Rattle.logic.specs.Refuse.{refuse, first_refusal, by_refusal}
use Rattle.parts.specs.Refusal.{accepted, not_renaming}
use Rattle.parts.specs.Isr.{member, isr_of}
use Rattle.replica.specs.declared.Replica.{Replica}
use Rattle.replica.specs.Replica.{replica_of}
use Rattle.cluster.specs.declared.Quorum.{Quorum}
use Rattle.cluster.specs.declared.Request.{Request}
use Rattle.cluster.specs.declared.State.{State}
use Rattle.cluster.specs.declared.Action.{Action}
use Rattle.cluster.specs.Answer.{Outcome}
use Rattle.cluster.specs.State.{replica_count_of, next_leader_epoch_of, next_record_id_of, request_in, replica_in, state_of, tidy}
use Rattle.cluster.specs.Outcome.{answer, as_given}
use Rattle.cluster.specs.Rules.{rules, state_refusal}
use Rattle.cluster.specs.Act.{kind_of, action_of, uses}
use Rattle.renamings.specs.Names.{new_name, old_name, is_renaming}

-- ---- the parts of a state
-- a leader by its new name; none stays none
unfoldable pub rename_leader : (ℕ → ℕ) → Leader → Leader
rename_leader to None = None
rename_leader to (Some b) = Some (to b)

-- j is in the renamed ISR where the replica that is named j was in the ISR
unfoldable pub rename_isr : (ℕ → ℕ) → ℕ → ℕ
rename_isr from isr = isr_of (λ j. member isr (from j))

module _ (to from : ℕ → ℕ) where
  abbrev pub rename_quorum : Quorum → Quorum
  rename_quorum q = record { epoch = q.epoch; leader = rename_leader to q.leader; isr = rename_isr from q.isr }

  abbrev pub rename_request : Request → Request
  rename_request q = record { leader = rename_leader to q.leader; isr = rename_isr from q.isr }

  -- the request of epoch e
  abbrev pub renamed_request_at : List Request → ℕ → Request
  renamed_request_at requests e = rename_request (request_in requests e)

  -- the whole block of a replica
  abbrev pub rename_replica : Replica → Replica
  rename_replica p = replica_of p.hw p.epoch (rename_leader to p.leader) (rename_isr from p.isr) p.end p.log

  -- the replica named j has the block of the one that was named `from j`
  abbrev pub renamed_replica_at : List Replica → ℕ → Replica
  renamed_replica_at replicas j = rename_replica (replica_in replicas (from j))

  unfoldable pub rename_replicas : List Replica → List Replica
  rename_replicas replicas = table 5 (renamed_replica_at replicas)

  -- ---- the state
  abbrev pub rename_state : State → State
  rename_state s =
      state_of s.limits (next_leader_epoch_of s) (next_record_id_of s) (rename_quorum s.quorum) (map rename_request s.requests)
      (rename_replicas s.replicas)

-- ---- an action of n replicas
-- an operand: p(a) where it is used and below n, else as it is
unfoldable pub rename_operand : ℕ → (ℕ → ℕ) → Bool → ℕ → ℕ
rename_operand n to used a = cond (used && ltb a n) (to a) a

unfoldable pub rename_action : ℕ → (ℕ → ℕ) → Action → Action
rename_action n to action =
    action_of action.kind
    (rename_operand n to (uses (kind_of action.kind)).a action.a)
    (rename_operand n to (uses (kind_of action.kind)).b action.b)
    action.e

-- ---- by five places p
-- the state under p, with zeros in its unused room
unfoldable pub renamed : List ℕ → State → State
renamed p s = rename_state (new_name p) (old_name p) (tidy s)

-- p is a renaming of the state's replicas
abbrev pub Renames : State → List ℕ → Type 0
Renames s p = is_renaming (replica_count_of s.limits) p ≡ true

-- a tidy state that meets the rules
pub record Met (s : State) : Type 0 where
  pub rules : rules s ≡ true
  pub tidy : tidy s ≡ s

-- "else 27", after 41 to 47
unfoldable pub rename_refusal : State → List ℕ → ℕ
rename_refusal s p =
    first_refusal (state_refusal s)
    (refuse (not (is_renaming (replica_count_of s.limits) p)) not_renaming
    accepted)

-- what renaming answers: accepted, the state under p; refused, the number and the state as given
unfoldable pub rename : State → List ℕ → Outcome
rename s p = by_refusal (rename_refusal s p) (as_given s) (answer accepted (renamed p s))
