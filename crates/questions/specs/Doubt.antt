-- What an action leaves in doubt: for which leaders, members and offsets weak or strong ISR, where it held before the action, may
-- fail after it. The judge asks about these alone. Assumes nothing.
use Rattle.parts.specs.Leader.{Leader}
use Rattle.std.specs.Prelude.{ℕ, ◌-◌, ◌≤◌, ◌<◌, ◌≡◌, Bool, true, false, ◌||◌, cond, eqb, ltb, None, Some}
use Rattle.logic.specs.Tests.{all_below}
use Rattle.parts.specs.Isr.{member, without, including}
use Rattle.replica.specs.declared.Replica.{Replica}
use Rattle.replica.specs.Log.{hold_same_record}
use Rattle.cluster.specs.declared.State.{State}
use Rattle.cluster.specs.declared.Action.{Action}
use Rattle.cluster.specs.declared.Kind.{Kind}
use Rattle.cluster.specs.declared.Kind.TheVariants.{ControllerShrinkIsr, ControllerElectLeader, BecomeLeader, BecomeFollower, LeaderWrite, LeaderShrinkIsr, LeaderExpandIsr, LeaderIncHighWatermark, FollowerReplicate, Unknown}
use Rattle.cluster.specs.State.{replica_count_of, next_leader_epoch_of, request_at, replica_at}
use Rattle.cluster.specs.Act.{kind_of, uses}
use Rattle.cluster.specs.Actions.{replica_presumes_leadership}
use Rattle.questions.specs.declared.Property.{Property}
use Rattle.questions.specs.declared.Property.TheVariants.{WeakIsr, StrongIsr}
use Rattle.questions.specs.declared.doubt.Doubt.{Doubt}
use Rattle.questions.specs.Isr.{isr_asked}

-- ---- what is in doubt
-- these leaders, each against the members that are not known to agree with it, from this offset on
abbrev pub doubt_of : ℕ → ℕ → ℕ → Doubt
doubt_of leaders agreeing from = record { leaders = leaders; agreeing = agreeing; from = from }

-- whether leader r and member m agree at offset x is in doubt
pub record InDoubt (d : Doubt) (r m x : ℕ) : Type 0 where
  pub leader : member d.leaders r ≡ true
  pub unknown : member d.agreeing m ≡ false
  pub from : d.from ≤ x

-- sets of replicas, as bits like an ISR: all five, and a alone
abbrev pub all_five : ℕ
all_five = 31

abbrev pub only : ℕ → ℕ
only a = including 0 a

-- nothing is in doubt
abbrev pub no_doubt : Doubt
no_doubt = doubt_of 0 0 0

-- ---- by kind
-- kind 2: the leader that the request names, against every member
unfoldable pub led_doubt : Leader → Doubt
led_doubt None = no_doubt
led_doubt (Some b) = doubt_of (only b) 0 0

-- every leader against the members that the quorum's ISR did not have before
abbrev pub gained_doubt : ℕ → Doubt
gained_doubt before = doubt_of all_five before 0

-- kind 3: every leader against a, from the end of a's log after the cut on
abbrev pub cut_doubt : State → ℕ → Doubt
cut_doubt t a = doubt_of all_five (without all_five a) (replica_at t a).end

-- kind 5, weak: nothing. Strong: nothing where the quorum's ISR only lost b; elsewhere a's ISR, which kind 5 writes to the quorum, may
-- have members that the quorum's had not
unfoldable pub shrink_doubt : Property → ℕ → ℕ → ℕ → Doubt
shrink_doubt WeakIsr before now b = no_doubt
shrink_doubt StrongIsr before now b = cond (eqb (including now b) before) no_doubt (gained_doubt before)

-- kind 6, weak: a against b. Strong: every leader against the members that the quorum's ISR gained
unfoldable pub expand_doubt : Property → ℕ → ℕ → ℕ → Doubt
expand_doubt WeakIsr before a b = doubt_of (only a) (without all_five b) 0
expand_doubt StrongIsr before a b = gained_doubt before

-- kind 7: a against every member, from the high watermark that it had on: the last offset below the one that it has, and no other
abbrev pub raised_doubt : State → ℕ → Doubt
raised_doubt t a = doubt_of (only a) 0 ((replica_at t a).hw - 1)

-- what an action of each kind leaves in doubt, by the quorum's ISR before it and the state t after it
unfoldable pub doubt_after : Kind → Property → ℕ → State → ℕ → ℕ → ℕ → Doubt
doubt_after ControllerShrinkIsr property before t a b e = no_doubt
doubt_after ControllerElectLeader property before t a b e = no_doubt
doubt_after BecomeLeader property before t a b e = led_doubt (request_at t e).leader
doubt_after BecomeFollower property before t a b e = cut_doubt t a
doubt_after LeaderWrite property before t a b e = no_doubt
doubt_after LeaderShrinkIsr property before t a b e = shrink_doubt property before t.quorum.isr b
doubt_after LeaderExpandIsr property before t a b e = expand_doubt property before a b
doubt_after LeaderIncHighWatermark property before t a b e = raised_doubt t a
doubt_after FollowerReplicate property before t a b e = no_doubt
doubt_after Unknown property before t a b e = no_doubt

abbrev pub doubt_after_action : Property → ℕ → State → Action → Doubt
doubt_after_action property before t action = doubt_after (kind_of action.kind) property before t action.a action.b action.e

-- ---- the narrow test: the property, asked of what is in doubt alone
-- offset x is before the first in doubt, or p and q hold the same record there
unfoldable pub agree_from : ℕ → Replica → Replica → ℕ → Bool
agree_from from p q x = ltb x from || hold_same_record p q x

-- the offset before which r and m are compared: r's hw, where r presumes, m is a member of the ISR asked about, and both are in doubt;
-- else 0
unfoldable pub offsets_in_doubt : Doubt → Property → State → ℕ → ℕ → ℕ
offsets_in_doubt d property s r m =
    cond (member d.leaders r)
    (cond (replica_presumes_leadership s r)
    (cond (member d.agreeing m) 0 (cond (member (isr_asked property s r) m) (replica_at s r).hw 0))
    0)
    0

-- r and m agree at all offsets in doubt
unfoldable pub pair_agrees : Doubt → Property → State → ℕ → ℕ → Bool
pair_agrees d property s r m = all_below (offsets_in_doubt d property s r m) (agree_from d.from (replica_at s r) (replica_at s m))

-- r agrees with every member
unfoldable pub leader_agrees : Doubt → Property → State → ℕ → Bool
leader_agrees d property s r = all_below (replica_count_of s.limits) (pair_agrees d property s r)

-- every leader does: the property holds of all that is in doubt
unfoldable pub holds_in_doubt : Doubt → Property → State → Bool
holds_in_doubt d property s = all_below (replica_count_of s.limits) (leader_agrees d property s)

-- the narrow test of the state t that an action led to
abbrev pub holds_after_action : Property → ℕ → State → Action → Bool
holds_after_action property before t action = holds_in_doubt (doubt_after_action property before t action) property t

-- what the test reads of the state t that an action led to is there
pub record ReadsWithin (t : State) (action : Action) : Type 0 where
  pub a_below : (uses (kind_of action.kind)).a ≡ true → action.a < 5
  pub b_below : (uses (kind_of action.kind)).b ≡ true → action.b < 5
  pub sent : kind_of action.kind ≡ BecomeLeader → action.e < next_leader_epoch_of t
  pub raised : kind_of action.kind ≡ LeaderIncHighWatermark → 1 ≤ (replica_at t action.a).hw

-- ---- what is exposed
-- the kinds that can expose more: 2 and 7
unfoldable pub exposing : Kind → Bool
exposing ControllerShrinkIsr = false
exposing ControllerElectLeader = false
exposing BecomeLeader = true
exposing BecomeFollower = false
exposing LeaderWrite = false
exposing LeaderShrinkIsr = false
exposing LeaderExpandIsr = false
exposing LeaderIncHighWatermark = true
exposing FollowerReplicate = false
exposing Unknown = false

-- the same, by the number of a kind
abbrev pub exposes_more : ℕ → Bool
exposes_more kind = exposing (kind_of kind)
