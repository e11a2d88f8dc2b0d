-- What an action answers: its kind and its operands, the refusals before the table, and the next state. Assumes nothing.
use Rattle.std.specs.Prelude.{ℕ, ◌+◌, Bool, true, false, not, cond, List, [], ◌∷◌, ltb, get_or}
use Rattle.logic.specs.Tests.{every}
use Rattle.logic.specs.Refuse.{refuse, first_refusal, by_refusal}
use Rattle.parts.specs.Refusal.{accepted, unknown_kind, bad_operand}
use Rattle.cluster.specs.declared.Limits.{Limits}
use Rattle.cluster.specs.declared.State.{State}
use Rattle.cluster.specs.Answer.{ActionAnswer}
use Rattle.cluster.specs.declared.Action.{Action}
use Rattle.cluster.specs.declared.Uses.{Uses}
use Rattle.cluster.specs.declared.Bounds.{Bounds}
use Rattle.cluster.specs.declared.Kind.{Kind}
use Rattle.cluster.specs.declared.Kind.TheVariants.{ControllerShrinkIsr, ControllerElectLeader, BecomeLeader, BecomeFollower, LeaderWrite, LeaderShrinkIsr, LeaderExpandIsr, LeaderIncHighWatermark, FollowerReplicate, Unknown}
use Rattle.cluster.specs.State.{replica_count_of, max_leader_epoch_of, tidy}
use Rattle.cluster.specs.Rules.{state_refusal}
use Rattle.cluster.specs.Actions.{controller_shrink_isr_refusal, controller_shrink_isr, controller_elect_leader_refusal, controller_elect_leader, become_leader_refusal, become_leader, become_follower_refusal, become_follower_and_truncate_to_hw, leader_write_refusal, leader_write, leader_shrink_isr_refusal, leader_shrink_isr, leader_expand_isr_refusal, leader_expand_isr, leader_inc_high_watermark_refusal, leader_inc_high_watermark, member_named, follower_replicate_refusal, follower_replicate}

-- ---- kinds
-- the kinds 0 to 8, in this order; any other number is unknown
abbrev pub kinds : List Kind
kinds =
    ControllerShrinkIsr
    ∷ ControllerElectLeader
    ∷ BecomeLeader
    ∷ BecomeFollower
    ∷ LeaderWrite
    ∷ LeaderShrinkIsr
    ∷ LeaderExpandIsr
    ∷ LeaderIncHighWatermark
    ∷ FollowerReplicate
    ∷ []

unfoldable pub kind_of : ℕ → Kind
kind_of n = get_or kinds n Unknown

-- the last of them: a "kind above 8" is unknown
abbrev pub last_kind : ℕ
last_kind = 8

-- the action of a kind with these operands
abbrev pub action_of : ℕ → ℕ → ℕ → ℕ → Action
action_of kind a b e = record { kind = kind; a = a; b = b; e = e }

-- ---- the operands that a kind uses: column "operands" of the table
abbrev pub use_of : Bool → Bool → Bool → Uses
use_of a b e = record { a = a; b = b; e = e }

unfoldable pub uses : Kind → Uses
uses ControllerShrinkIsr = use_of true false false
uses ControllerElectLeader = use_of true false false
uses BecomeLeader = use_of false false true
uses BecomeFollower = use_of true false true
uses LeaderWrite = use_of true false false
uses LeaderShrinkIsr = use_of true true false
uses LeaderExpandIsr = use_of true true false
uses LeaderIncHighWatermark = use_of true false false
uses FollowerReplicate = use_of true true false
uses Unknown = use_of false false false

-- ---- the numbers that an operand may be: those below its bound
-- a used operand has a bound of its own, an unused one is 0, the only number below 1
unfoldable pub operand_bound : Bool → ℕ → ℕ
operand_bound used bound = cond used bound 1

-- a used replica is below R, a used epoch at most X
unfoldable pub operand_bounds : Limits → Kind → Bounds
operand_bounds c kind =
    record {
      a = operand_bound (uses kind).a (replica_count_of c);
      b = operand_bound (uses kind).b (replica_count_of c);
      e = operand_bound (uses kind).e (max_leader_epoch_of c + 1);
    }

abbrev pub operand_tests : Limits → Action → List Bool
operand_tests c action =
    ltb action.a (operand_bounds c (kind_of action.kind)).a
    ∷ ltb action.b (operand_bounds c (kind_of action.kind)).b
    ∷ ltb action.e (operand_bounds c (kind_of action.kind)).e
    ∷ []

unfoldable pub operands_fit : Limits → Action → Bool
operands_fit c action = every (operand_tests c action)

-- ---- the table, by kind
unfoldable pub table_refusal : Kind → State → ℕ → ℕ → ℕ → ℕ
table_refusal ControllerShrinkIsr s a b e = controller_shrink_isr_refusal s a
table_refusal ControllerElectLeader s a b e = controller_elect_leader_refusal s a
table_refusal BecomeLeader s a b e = become_leader_refusal s e
table_refusal BecomeFollower s a b e = become_follower_refusal s a e
table_refusal LeaderWrite s a b e = leader_write_refusal s a
table_refusal LeaderShrinkIsr s a b e = leader_shrink_isr_refusal s a b
table_refusal LeaderExpandIsr s a b e = leader_expand_isr_refusal s a b
table_refusal LeaderIncHighWatermark s a b e = leader_inc_high_watermark_refusal s a
table_refusal FollowerReplicate s a b e = follower_replicate_refusal s a b
table_refusal Unknown s a b e = unknown_kind

unfoldable pub table_effect : Kind → State → ℕ → ℕ → ℕ → State
table_effect ControllerShrinkIsr s a b e = controller_shrink_isr s a
table_effect ControllerElectLeader s a b e = controller_elect_leader s a
table_effect BecomeLeader s a b e = become_leader s e
table_effect BecomeFollower s a b e = become_follower_and_truncate_to_hw s a e
table_effect LeaderWrite s a b e = leader_write s a
table_effect LeaderShrinkIsr s a b e = leader_shrink_isr s a b
table_effect LeaderExpandIsr s a b e = leader_expand_isr s a b
table_effect LeaderIncHighWatermark s a b e = leader_inc_high_watermark s a
table_effect FollowerReplicate s a b e = follower_replicate s a b
table_effect Unknown s a b e = s

-- ---- an action on a state that meets the rules and is tidy
-- "kind above 8 is 2; a used replica operand not below R, a used epoch operand above X, or an unused operand not 0 is 3",
-- then the table
unfoldable pub action_refusal : State → Action → ℕ
action_refusal s action =
    refuse (ltb last_kind action.kind) unknown_kind
    (refuse (not (operands_fit s.limits action)) bad_operand
    (table_refusal (kind_of action.kind) s action.a action.b action.e))

-- the next state, where the action is accepted
unfoldable pub effect : State → Action → State
effect s action = table_effect (kind_of action.kind) s action.a action.b action.e

-- ---- what an action answers
-- a number, the member of a's ISR that it names, and the state that goes with it
abbrev pub action_answer : ℕ → ℕ → State → ActionAnswer
action_answer number member s = record { refusal = number; member = member; state = s }

-- accepted: no member is named
abbrev pub accepted_with : State → ActionAnswer
accepted_with next = action_answer accepted 0 next

-- refused: "A refused action .. gives back the given state"
abbrev pub refused_on : State → ℕ → ℕ → ActionAnswer
refused_on given member number = action_answer number member given

-- the answer without the member that it names: "no verdict carries it", and "Demand 3 leaves out the member named"
abbrev pub without_member : ActionAnswer → ActionAnswer
without_member a = action_answer a.refusal 0 a.state

-- by its refusal: the next state at 0, else the number, the member named and the state as given
unfoldable pub answer_by : ℕ → ℕ → State → State → ActionAnswer
answer_by number member given next = by_refusal number (refused_on given member) (accepted_with next)

-- on a state that meets the rules and is tidy
unfoldable pub step : State → Action → ActionAnswer
step s action = answer_by (action_refusal s action) (member_named (action_refusal s action) s action.a) s (effect s action)

-- ---- an action on any state
-- 41 to 47, "in place of 1"; then as above, of the state with zeros in its unused room
unfoldable pub refusal : State → Action → ℕ
refusal s action = first_refusal (state_refusal s) (action_refusal (tidy s) action)

-- what an action answers: accepted, the next state; refused, the number, the member named and the state as given
unfoldable pub act : State → Action → ActionAnswer
act s action = answer_by (refusal s action) (member_named (refusal s action) (tidy s) action.a) s (effect (tidy s) action)
