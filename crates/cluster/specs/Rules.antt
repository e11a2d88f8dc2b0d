-- The state rules S1 to S7, each a test in the words of the paper, "each tested over the whole state before the next".
-- A rule takes only the fields that it reads; n is R, the number of replicas. Assumes nothing.
--
--   between low high n                   n is from low to high
--   in_range c                           R, L, M and X of the configuration are in range
--   leader_and_isr_in_range n leader isr the leader is none or below n, and the ISR within n replicas
--   replica_in_range c p                 S2 of one replica
--   quorum_matches_request               the quorum has the leader, and at the start the ISR, that S3 asks of it
--   replica_matches_request              the first two sentences of S5: the epoch of a replica, and its leader and ISR by it
--   replica_meets_s5 next requests p i   S5 of the replica p named i
--   agrees_with_all n replicas p         S7 of the log of p and every log
--   rule1 .. rule7                       S1 to S7, each over the fields that it reads
--   rule_tests s                         the seven of a state, in their order
--   rules s                              the state meets S1 to S7
--   state_numbers                        the number of each rule, 41 to 47, in their order
--   state_refusal s                      the refusal of a state: the number of the first rule that it breaks; 0 where it breaks none
--   Bounded s, LogsBounded s             the counts, and the ends of logs, are within the arrays
use Rattle.std.specs.Prelude.{ℕ, zero, suc, ◌+◌, ◌≤◌, ◌<◌, Bool, false, not, ◌&&◌, ◌||◌, List, [], ◌∷◌, eqb, ltb, leb, ℤ, pos, negsuc, None}
use Rattle.logic.specs.Tests.{all_below, every}
use Rattle.logic.specs.Refuse.{refuse_unless}
use Rattle.parts.specs.Refusal.{breaks_s1, breaks_s2, breaks_s3, breaks_s4, breaks_s5, breaks_s6, breaks_s7}
use Rattle.parts.specs.Isr.{member, full_isr, isr_below}
use Rattle.parts.specs.Epoch.{same_epoch, last_epoch}
use Rattle.parts.specs.Leader.{Leader, names, same_leader, leader_below, leader_none_or_in_isr}
use Rattle.replica.specs.declared.Replica.{Replica}
use Rattle.replica.specs.Log.{log_in_use, logs_agree}
use Rattle.cluster.specs.declared.Limits.{Limits}
use Rattle.cluster.specs.declared.Quorum.{Quorum}
use Rattle.cluster.specs.declared.Request.{Request}
use Rattle.cluster.specs.declared.State.{State}
use Rattle.cluster.specs.State.{replica_count_of, log_size_of, max_records_of, max_leader_epoch_of, next_leader_epoch_of, next_record_id_of, request_in, replica_in, replica_at}

-- ---- S1: "R, L, M, X in range; next epoch at most X+1; next id at most M."
-- n is from low to high
unfoldable pub between : ℕ → ℕ → ℕ → Bool
between low high n = leb low n && leb n high

-- R 1 to 5, L 1 to 16, M 1 to 64, X 0 to 15
abbrev pub limit_tests : Limits → List Bool
limit_tests c =
    between 1 5 (replica_count_of c) ∷ between 1 16 (log_size_of c) ∷ between 1 64 (max_records_of c) ∷ leb (max_leader_epoch_of c) 15 ∷ []

-- R, L, M, X are in range
unfoldable pub in_range : Limits → Bool
in_range c = every (limit_tests c)

abbrev pub rule1_tests : Limits → ℕ → ℕ → List Bool
rule1_tests c next_epoch next_id = in_range c ∷ leb next_epoch (max_leader_epoch_of c + 1) ∷ leb next_id (max_records_of c) ∷ []

unfoldable pub rule1 : Limits → ℕ → ℕ → Bool
rule1 c next_epoch next_id = every (rule1_tests c next_epoch next_id)

-- ---- S2: "every end at most L; every leader none or below R; every ISR within the replicas."
-- a leader that is none or below n, and an ISR within n replicas
unfoldable pub leader_and_isr_in_range : ℕ → Leader → ℕ → Bool
leader_and_isr_in_range n leader isr = leader_below n leader && isr_below n isr

-- the same of a replica, and its end at most L
unfoldable pub replica_in_range : Limits → Replica → Bool
replica_in_range c p = leb p.end (log_size_of c) && leader_and_isr_in_range (replica_count_of c) p.leader p.isr

-- of the replica named i
abbrev pub replica_in_range_at : Limits → List Replica → ℕ → Bool
replica_in_range_at c replicas i = replica_in_range c (replica_in replicas i)

-- of the request of epoch e
abbrev pub request_in_range_at : ℕ → List Request → ℕ → Bool
request_in_range_at n requests e = leader_and_isr_in_range n (request_in requests e).leader (request_in requests e).isr

abbrev pub rule2_tests : Limits → ℕ → Quorum → List Request → List Replica → List Bool
rule2_tests c next_epoch quorum requests replicas =
    leader_and_isr_in_range (replica_count_of c) quorum.leader quorum.isr
    ∷ all_below next_epoch (request_in_range_at (replica_count_of c) requests)
    ∷ all_below (replica_count_of c) (replica_in_range_at c replicas)
    ∷ []

unfoldable pub rule2 : Limits → ℕ → Quorum → List Request → List Replica → Bool
rule2 c next_epoch quorum requests replicas = every (rule2_tests c next_epoch quorum requests replicas)

-- ---- S3: "quorum epoch is next epoch minus 1. At -1 there is no leader and the ISR is full; otherwise the quorum leader
-- is that of the last request."
-- with no epoch used no leader and the full ISR; else the leader of the last request
unfoldable pub quorum_matches_request : ℕ → Quorum → List Request → ℕ → Bool
quorum_matches_request n quorum requests zero = same_leader quorum.leader None && eqb quorum.isr (full_isr n)
quorum_matches_request n quorum requests (suc last) = same_leader quorum.leader (request_in requests last).leader

unfoldable pub rule3 : ℕ → ℕ → Quorum → List Request → Bool
rule3 n next_epoch quorum requests =
    same_epoch quorum.epoch (last_epoch next_epoch) && quorum_matches_request n quorum requests next_epoch

-- ---- S4: "in the quorum and in each request, the leader is none or in the ISR there."
-- of the request of epoch e
abbrev pub request_leader_in_isr : List Request → ℕ → Bool
request_leader_in_isr requests e = leader_none_or_in_isr (request_in requests e).isr (request_in requests e).leader

unfoldable pub rule4 : ℕ → Quorum → List Request → Bool
rule4 next_epoch quorum requests =
    leader_none_or_in_isr quorum.isr quorum.leader && all_below next_epoch (request_leader_in_isr requests)

-- ---- S5: "a replica's epoch is from -1 to next epoch minus 1. At -1 it has no leader and an empty ISR; otherwise its
-- leader is that of its epoch's request. A replica that is its own leader is in its own ISR. hw is at most its end."
-- at -1 no leader and the empty ISR; below -1 never; at an epoch used the leader of its request
unfoldable pub replica_matches_request : ℕ → List Request → ℤ → Leader → ℕ → Bool
replica_matches_request next_epoch requests (negsuc zero) leader isr = same_leader leader None && eqb isr 0
replica_matches_request next_epoch requests (negsuc (suc k)) leader isr = false
replica_matches_request next_epoch requests (pos e) leader isr = ltb e next_epoch && same_leader leader (request_in requests e).leader

abbrev pub replica_meets_s5_tests : ℕ → List Request → Replica → ℕ → List Bool
replica_meets_s5_tests next_epoch requests p i =
    replica_matches_request next_epoch requests p.epoch p.leader p.isr
    ∷ (not (names p.leader i) || member p.isr i)
    ∷ leb p.hw p.end
    ∷ []

-- of the replica p named i
unfoldable pub replica_meets_s5 : ℕ → List Request → Replica → ℕ → Bool
replica_meets_s5 next_epoch requests p i = every (replica_meets_s5_tests next_epoch requests p i)

abbrev pub replica_meets_s5_at : ℕ → List Request → List Replica → ℕ → Bool
replica_meets_s5_at next_epoch requests replicas i = replica_meets_s5 next_epoch requests (replica_in replicas i) i

unfoldable pub rule5 : ℕ → ℕ → List Request → List Replica → Bool
rule5 n next_epoch requests replicas = all_below n (replica_meets_s5_at next_epoch requests replicas)

-- ---- S6: "each record's id is below next id, its epoch from 0 to next epoch minus 1."
-- of the log of the replica named i
abbrev pub log_in_use_at : ℕ → ℕ → List Replica → ℕ → Bool
log_in_use_at next_id next_epoch replicas i = log_in_use next_id next_epoch (replica_in replicas i)

unfoldable pub rule6 : ℕ → ℕ → ℕ → List Replica → Bool
rule6 n next_id next_epoch replicas = all_below n (log_in_use_at next_id next_epoch replicas)

-- ---- S7: "records with one id, in one log or two, stand at one offset and carry one epoch."
-- the log of p with that of the replica named j
abbrev pub agrees_with_at : List Replica → Replica → ℕ → Bool
agrees_with_at replicas p j = logs_agree p (replica_in replicas j)

-- the log of p with every log
unfoldable pub agrees_with_all : ℕ → List Replica → Replica → Bool
agrees_with_all n replicas p = all_below n (agrees_with_at replicas p)

-- the log of the replica named i with every log
abbrev pub agrees_at : ℕ → List Replica → ℕ → Bool
agrees_at n replicas i = agrees_with_all n replicas (replica_in replicas i)

unfoldable pub rule7 : ℕ → List Replica → Bool
rule7 n replicas = all_below n (agrees_at n replicas)

-- ---- the seven together
abbrev pub rule_tests : State → List Bool
rule_tests s =
    rule1 s.limits (next_leader_epoch_of s) (next_record_id_of s)
    ∷ rule2 s.limits (next_leader_epoch_of s) s.quorum s.requests s.replicas
    ∷ rule3 (replica_count_of s.limits) (next_leader_epoch_of s) s.quorum s.requests
    ∷ rule4 (next_leader_epoch_of s) s.quorum s.requests
    ∷ rule5 (replica_count_of s.limits) (next_leader_epoch_of s) s.requests s.replicas
    ∷ rule6 (replica_count_of s.limits) (next_record_id_of s) (next_leader_epoch_of s) s.replicas
    ∷ rule7 (replica_count_of s.limits) s.replicas
    ∷ []

-- the state meets S1 to S7
unfoldable pub rules : State → Bool
rules s = every (rule_tests s)

-- "41 to 47 stand for S1 to S7", in their order
abbrev pub state_numbers : List ℕ
state_numbers = breaks_s1 ∷ breaks_s2 ∷ breaks_s3 ∷ breaks_s4 ∷ breaks_s5 ∷ breaks_s6 ∷ breaks_s7 ∷ []

-- the refusal of a state: the number of the first rule that it breaks; 0 where it breaks none
unfoldable pub state_refusal : State → ℕ
state_refusal s = refuse_unless state_numbers (rule_tests s)

-- ---- what the rules before it give to the code of a rule
-- after S1: no array of replicas or requests is read past its end
pub record Bounded (s : State) : Type 0 where
  pub replicas : replica_count_of s.limits ≤ 5
  pub requests : next_leader_epoch_of s ≤ 16

-- after S2: nor is a log
abbrev pub LogsBounded : State → Type 0
LogsBounded s = (i : ℕ) → i < replica_count_of s.limits → (replica_at s i).end ≤ 16
