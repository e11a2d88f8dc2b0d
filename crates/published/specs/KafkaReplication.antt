-- The published model: the source's MODULE KafkaReplication, operator by operator, in its order and under its names. As the
-- source has them stand its constants (Replicas as numbers, by the paper) and variables, LogRecords, and all from ReplicaOpt to
-- LeaderInIsr. "Its helper modules for logs and number sequences, and the module that joins its actions, aren't in the source; for
-- them this paper decides." So of the operators of these modules, and of Util, there is no published text to compare with. Where the
-- paper settles one in words, the words stand at it:
--   of IdSequence                     IdSet, TypeOk, Init
--   of FiniteReplicatedLog            what a log is (Log), when two are equal (SameLog), Offsets, StartOffset, Init, TypeOk of the ends,
--                            GetEndOffset, HasOffset
-- The others neither document defines. They are ours, written to fit the paper's rules, and belong to what a reader must believe:
--   of IdSequence                     NextId
--   of FiniteReplicatedLog            that TypeOk asks every record to be one of LogRecords, HasEntry, Append, TruncateTo, ReplicateTo
--   of Util                           Min
--   what joins the actions            the follower's action with its choice of a leader (BecomeFollower), Next, finite behaviours
-- Nothing of the product is used here. Assumes nothing.
--
--   Constants, Replicas k             the four constants; the set of replicas, which are the numbers below replica_count
--   LogRecord, Log                    a record of a log, by its id and epoch; a log, by its end and its records
--   LeaderAndIsr                      epoch, leader and ISR, as the quorum and a request have them
--   LocalState                        hw, epoch, leader and ISR of a replica
--   ModelState                        a state of the model: the six variables
--   SameModelState k u v              u and v are equal
--   LeaderEpochSeq·.., RecordSeq·..   the numbers that leader epochs and record ids may be; NextId, how the next one is drawn, is ours
--   LogRecords k r                    the id and the epoch of the record r are such numbers
--   ReplicaLog·..                     the tests of logs, and their changes (HasEntry, Append, TruncateTo, ReplicateTo are ours)
--   Min a b                           the smaller of two numbers (ours)
--   ReplicaOpt .. ReplicaState        the types of a leader, an epoch, the quorum and a replica's state
--   TypeOk k u, Init k u              every variable has its type; u is a first state
--   ReplicaPresumesLeadership u r     r is its own leader
--   ReplicaIsFollowing u f l          the leader of f is l
--   IsTrueLeader u r                  the quorum names r, r is its own leader, and their epochs are equal
--   ControllerUpdateIsr               a new quorum with the next epoch, which is sent as a request
--   QuorumUpdateLeaderAndIsr          the true leader writes its ISR to the quorum and to itself
--   ControllerShrinkIsr k u v ..      to FollowerReplicate: the source's actions and their helpers, from u to v; `..With` is a body
--                                     over its choices
--   IsFollowerCaughtUp k u a b n      b follows a and, unless n is 0, a has a record at n - 1 and b has that offset
--   WeakIsr k u, StrongIsr k u        the weak and the strong ISR property; a third property is LeaderInIsr u
--   BecomeFollower k u v              the follower's action, from u to v (ours)
--   Next k u v                        one of the nine actions leads from u to v (ours)
--   Steps k u vs                      each state of vs follows by Next from the one before it, the first from u (ours)
--   FiniteBehaviour k us              the first state of us is by Init, and each next one by Next (ours)
--
-- How the source is written, with u the state before an action and v the state after it:
--   x, x'                             the variable x of the state before, u.x, and after, v.x
--   r \in S                           r is_in S for a set of replicas; S r for a set of anything else
--   /\, \/, ~, #                      ×, ⊎, ¬, ≢
--   \E x \in S : P                    (x : ..) × S x × P
--   \A x \in S : P                    (x : ..) → S x → P
--   f[r]                              f r
--   [f EXCEPT ![r] = x]               except f r x
--   M!Op                              M·Op
use Rattle.std.specs.Prelude.{ℕ, ◌+◌, ◌-◌, ◌≤◌, ◌<◌, min, ◌≡◌, Bool, true, false, not, ◌&&◌, ◌||◌, cond, List, [], ◌∷◌, ◌↔◌, ◌≢◌, ◌⊎◌, eqb, ltb, ℤ, pos, negsuc, ◌<ℤ◌}
use Rattle.std.proofs.Math.Option.{Option, none, some}

-- ---- sets of replicas, and functions
-- a set of replicas is its test of membership, so two sets are equal exactly when they have the same members
abbrev pub ReplicaSet : Type 0
ReplicaSet = ℕ → Bool

infix 50 ◌is_in◌
abbrev pub ◌is_in◌ : ℕ → ReplicaSet → Type 0
r is_in set = set r ≡ true

-- {}, {a}, S \ {a} and S \union {a}
abbrev pub empty_set : ReplicaSet
empty_set r = false

abbrev pub singleton : ℕ → ReplicaSet
singleton a r = eqb r a

abbrev pub minus : ReplicaSet → ℕ → ReplicaSet
minus set a r = set r && not (eqb r a)

abbrev pub plus : ReplicaSet → ℕ → ReplicaSet
plus set a r = set r || eqb r a

-- [f EXCEPT ![a] = x]
unfoldable pub except : {A : Type 0} → (ℕ → A) → ℕ → A → ℕ → A
except f a x r = cond (eqb r a) x (f r)

-- ---- CONSTANTS Replicas, LogSize, MaxRecords, MaxLeaderEpoch
-- Replicas are the numbers below replica_count: "R replicas, 1 to 5, named 0 to R-1"
pub record Constants : Type 0 where
  pub replica_count : ℕ
  pub LogSize : ℕ
  pub MaxRecords : ℕ
  pub MaxLeaderEpoch : ℕ

abbrev pub Replicas : Constants → ReplicaSet
Replicas k r = ltb r k.replica_count

-- None == "NONE" is none, which is no replica; Nil == -1. So what the source assumes holds: None \notin Replicas, and
-- MaxLeaderEpoch \in Nat by its type
abbrev pub Nil : ℤ
Nil = negsuc 0

-- ---- the values of the variables
-- a record of a log: its id, and the epoch of the leader that wrote it
pub record LogRecord : Type 0 where
  pub id : ℕ
  pub epoch : ℤ

-- a log, by the paper, because FiniteReplicatedLog is not in the source: "A log's end is how many records it holds", and the record at
-- each offset below it
pub record Log : Type 0 where
  pub end : ℕ
  pub entry : ℕ → LogRecord

-- the value of quorumState, and a member of leaderAndIsrRequests
pub record LeaderAndIsr : Type 0 where
  pub leaderEpoch : ℤ
  pub leader : Option ℕ
  pub isr : ReplicaSet

-- the value of replicaState at a replica
pub record LocalState : Type 0 where
  pub hw : ℕ
  pub leaderEpoch : ℤ
  pub leader : Option ℕ
  pub isr : ReplicaSet

-- [f EXCEPT ![r].hw = x] and [f EXCEPT ![r].isr = x], of the replicas' local states
abbrev pub except_hw : (ℕ → LocalState) → ℕ → ℕ → ℕ → LocalState
except_hw f r hw =
    except f r (record { hw = hw; leaderEpoch = (f r).leaderEpoch; leader = (f r).leader; isr = (f r).isr })

abbrev pub except_isr : (ℕ → LocalState) → ℕ → ReplicaSet → ℕ → LocalState
except_isr f r isr =
    except f r (record { hw = (f r).hw; leaderEpoch = (f r).leaderEpoch; leader = (f r).leader; isr = isr })

-- S \union {q}, of a set of requests
abbrev pub requests_plus : (LeaderAndIsr → Type 0) → LeaderAndIsr → LeaderAndIsr → Type 0
requests_plus set q request = set request ⊎ (request ≡ q)

-- ---- VARIABLES replicaLog, replicaState, nextRecordId, nextLeaderEpoch, leaderAndIsrRequests, quorumState; vars is all six
pub record ModelState : Type 1 where
  pub replicaLog : ℕ → Log
  pub replicaState : ℕ → LocalState
  pub nextRecordId : ℕ
  pub nextLeaderEpoch : ℕ
  pub leaderAndIsrRequests : LeaderAndIsr → Type 0
  pub quorumState : LeaderAndIsr

-- ---- equality of values: functions of a replica are compared at Replicas, sets of requests by their members
-- of logs, by the paper, since what stands "past a log's end" counts for nothing: the ends are compared, and the records below them
pub record SameLog (x y : Log) : Type 0 where
  pub end : x.end ≡ y.end
  pub entry : (offset : ℕ) → offset < x.end → x.entry offset ≡ y.entry offset

abbrev pub SameLogs : Constants → (ℕ → Log) → (ℕ → Log) → Type 0
SameLogs k f g = (replica : ℕ) → replica is_in Replicas k → SameLog (f replica) (g replica)

abbrev pub SameStates : Constants → (ℕ → LocalState) → (ℕ → LocalState) → Type 0
SameStates k f g = (replica : ℕ) → replica is_in Replicas k → f replica ≡ g replica

abbrev pub SameRequests : (LeaderAndIsr → Type 0) → (LeaderAndIsr → Type 0) → Type 0
SameRequests x y = (request : LeaderAndIsr) → x request ↔ y request

-- two states of the model are equal: each of the six variables is
pub record SameModelState (k : Constants) (u v : ModelState) : Type 0 where
  pub replicaLog : SameLogs k u.replicaLog v.replicaLog
  pub replicaState : SameStates k u.replicaState v.replicaState
  pub nextRecordId : u.nextRecordId ≡ v.nextRecordId
  pub nextLeaderEpoch : u.nextLeaderEpoch ≡ v.nextLeaderEpoch
  pub leaderAndIsrRequests : SameRequests u.leaderAndIsrRequests v.leaderAndIsrRequests
  pub quorumState : u.quorumState ≡ v.quorumState

-- ---- LeaderEpochSeq and RecordSeq, each an INSTANCE of IdSequence; that module is not in the source
-- IdSet, by the paper: the numbers 0 to MaxId, so that "Record ids 0 to M-1" and "Leader epochs 0 to X" hold
abbrev pub IdSet : ℕ → ℕ → Type 0
IdSet maxId id = id ≤ maxId

-- NextId(i), ours: i is the next number and at most MaxId, and the next number rises by 1
abbrev pub NextId : ℕ → ℕ → ℕ → ℕ → Type 0
NextId maxId nextId nextId' id = (id ≡ nextId) × (id ≤ maxId) × (nextId' ≡ nextId + 1)

-- TypeOk, by the paper: the next number is at most MaxId + 1, as S1 has it: "next epoch at most X+1; next id at most M"
abbrev pub IdSequence·TypeOk : ℕ → ℕ → Type 0
IdSequence·TypeOk maxId nextId = nextId ≤ maxId + 1

-- Init, by the paper: the next number is 0, as in the paper's fresh state: "next epoch 0, next id 0"
abbrev pub IdSequence·Init : ℕ → Type 0
IdSequence·Init nextId = nextId ≡ 0

-- LeaderEpochSeq == INSTANCE IdSequence WITH MaxId <- MaxLeaderEpoch, nextId <- nextLeaderEpoch
abbrev pub LeaderEpochSeq·IdSet : Constants → ℕ → Type 0
LeaderEpochSeq·IdSet k = IdSet k.MaxLeaderEpoch

abbrev pub LeaderEpochSeq·NextId : Constants → ModelState → ModelState → ℕ → Type 0
LeaderEpochSeq·NextId k u v = NextId k.MaxLeaderEpoch u.nextLeaderEpoch v.nextLeaderEpoch

-- RecordSeq == INSTANCE IdSequence WITH MaxId <- MaxRecords - 1, nextId <- nextRecordId; "M from 1 to 64", so M - 1 is not
-- below 0
abbrev pub RecordSeq·IdSet : Constants → ℕ → Type 0
RecordSeq·IdSet k = IdSet (k.MaxRecords - 1)

abbrev pub RecordSeq·NextId : Constants → ModelState → ModelState → ℕ → Type 0
RecordSeq·NextId k u v = NextId (k.MaxRecords - 1) u.nextRecordId v.nextRecordId

-- ---- LogRecords == [id : RecordSeq!IdSet, epoch : LeaderEpochSeq!IdSet]
pub record LogRecords (k : Constants) (r : LogRecord) : Type 0 where
  pub id : RecordSeq·IdSet k r.id
  pub epoch : (e : ℕ) × (r.epoch ≡ pos e) × LeaderEpochSeq·IdSet k e

-- ---- ReplicaLog == INSTANCE FiniteReplicatedLog WITH logs <- replicaLog; that module is not in the source
-- Offsets, by the paper: "Offsets are 0 to L-1"
abbrev pub ReplicaLog·Offsets : Constants → ℕ → Type 0
ReplicaLog·Offsets k offset = offset < k.LogSize

-- StartOffset, by the paper: the first offset. The source's Init gives it to every hw, and the paper's fresh state has "each replica hw 0"
abbrev pub ReplicaLog·StartOffset : ℕ
ReplicaLog·StartOffset = 0

-- Init, by the paper: each replica has an "empty log", as in the paper's fresh state
abbrev pub ReplicaLog·Init : Constants → ModelState → Type 0
ReplicaLog·Init k u = (replica : ℕ) → replica is_in Replicas k → (u.replicaLog replica).end ≡ ReplicaLog·StartOffset

-- TypeOk, by the paper: "every end at most L", as S2 has it; that every record is one of LogRecords is ours
pub record LogType (k : Constants) (x : Log) : Type 0 where
  pub end : x.end ≤ k.LogSize
  pub entry : (offset : ℕ) → offset < x.end → LogRecords k (x.entry offset)

abbrev pub ReplicaLog·TypeOk : Constants → ModelState → Type 0
ReplicaLog·TypeOk k u = (replica : ℕ) → replica is_in Replicas k → LogType k (u.replicaLog replica)

-- GetEndOffset(r), by the paper: r's end
abbrev pub ReplicaLog·GetEndOffset : ModelState → ℕ → ℕ
ReplicaLog·GetEndOffset u r = (u.replicaLog r).end

-- HasOffset(r, o), by the paper: "it has an offset exactly when the offset is below its end"
abbrev pub ReplicaLog·HasOffset : ModelState → ℕ → ℕ → Type 0
ReplicaLog·HasOffset u r offset = offset < (u.replicaLog r).end

-- HasEntry(r, rec, o), ours: r has the offset o, and its record there is rec
abbrev pub ReplicaLog·HasEntry : ModelState → ℕ → LogRecord → ℕ → Type 0
ReplicaLog·HasEntry u r record' offset = ReplicaLog·HasOffset u r offset × ((u.replicaLog r).entry offset ≡ record')

-- Append(r, rec, o), ours: o is one of Offsets and r's end, and rec is added there; the other logs stay
abbrev pub ReplicaLog·Append : Constants → ModelState → ModelState → ℕ → LogRecord → ℕ → Type 0
ReplicaLog·Append k u v r record' offset =
    ReplicaLog·Offsets k offset
    × (offset ≡ ReplicaLog·GetEndOffset u r)
    × SameLogs k v.replicaLog
    (except u.replicaLog r (record { end = offset + 1; entry = except (u.replicaLog r).entry offset record' }))

-- TruncateTo(r, n), ours: n is at most r's end, and r's end becomes n; the records before n and the other logs stay
abbrev pub ReplicaLog·TruncateTo : Constants → ModelState → ModelState → ℕ → ℕ → Type 0
ReplicaLog·TruncateTo k u v r newEnd =
    (newEnd ≤ ReplicaLog·GetEndOffset u r)
    × SameLogs k v.replicaLog (except u.replicaLog r (record { end = newEnd; entry = (u.replicaLog r).entry }))

-- ReplicateTo(l, f), ours: for some rec and o, HasEntry(l, rec, o) and Append(f, rec, o)
abbrev pub ReplicaLog·ReplicateTo : Constants → ModelState → ModelState → ℕ → ℕ → Type 0
ReplicaLog·ReplicateTo k u v leader follower =
    (record' : LogRecord) × (offset : ℕ) × ReplicaLog·HasEntry u leader record' offset × ReplicaLog·Append k u v follower record' offset

-- ---- Min({a, b}), ours: the smaller of the two; the module Util is not in the source
abbrev pub Min : ℕ → ℕ → ℕ
Min a b = min a b

-- ---- the types of the variables
-- ReplicaOpt == Replicas \union {None}
abbrev pub ReplicaOpt : Constants → Option ℕ → Type 0
ReplicaOpt k leader = (leader ≡ none) ⊎ ((r : ℕ) × (leader ≡ some r) × r is_in Replicas k)

-- LeaderEpochOpt == LeaderEpochSeq!IdSet \union {Nil}
abbrev pub LeaderEpochOpt : Constants → ℤ → Type 0
LeaderEpochOpt k epoch = (epoch ≡ Nil) ⊎ ((e : ℕ) × (epoch ≡ pos e) × LeaderEpochSeq·IdSet k e)

-- SUBSET Replicas
abbrev pub SubsetOfReplicas : Constants → ReplicaSet → Type 0
SubsetOfReplicas k set = (r : ℕ) → r is_in set → r is_in Replicas k

-- QuorumState == [leaderEpoch: LeaderEpochOpt, leader : ReplicaOpt, isr: SUBSET Replicas]
pub record QuorumState (k : Constants) (q : LeaderAndIsr) : Type 0 where
  pub leaderEpoch : LeaderEpochOpt k q.leaderEpoch
  pub leader : ReplicaOpt k q.leader
  pub isr : SubsetOfReplicas k q.isr

-- ReplicaState == [hw : ReplicaLog!Offsets \union {LogSize}, leaderEpoch: LeaderEpochOpt, leader : ReplicaOpt,
--     isr: SUBSET Replicas]
pub record ReplicaState (k : Constants) (p : LocalState) : Type 0 where
  pub hw : ReplicaLog·Offsets k p.hw ⊎ (p.hw ≡ k.LogSize)
  pub leaderEpoch : LeaderEpochOpt k p.leaderEpoch
  pub leader : ReplicaOpt k p.leader
  pub isr : SubsetOfReplicas k p.isr

-- TypeOk: every variable has its type
pub record TypeOk (k : Constants) (u : ModelState) : Type 0 where
  pub leader_epoch_seq : IdSequence·TypeOk k.MaxLeaderEpoch u.nextLeaderEpoch
  pub record_seq : IdSequence·TypeOk (k.MaxRecords - 1) u.nextRecordId
  pub replicaLog : ReplicaLog·TypeOk k u
  pub replicaState : (replica : ℕ) → replica is_in Replicas k → ReplicaState k (u.replicaState replica)
  pub quorumState : QuorumState k u.quorumState
  pub leaderAndIsrRequests : (request : LeaderAndIsr) → u.leaderAndIsrRequests request → QuorumState k request

-- Init: the value of every variable in a first state
pub record Init (k : Constants) (u : ModelState) : Type 0 where
  pub leader_epoch_seq : IdSequence·Init u.nextLeaderEpoch
  pub record_seq : IdSequence·Init u.nextRecordId
  pub replicaLog : ReplicaLog·Init k u
  pub replicaState : SameStates k u.replicaState
      (λ replica. record { hw = ReplicaLog·StartOffset; leaderEpoch = Nil; leader = none; isr = empty_set })
  pub quorumState : u.quorumState ≡ record { leaderEpoch = Nil; leader = none; isr = Replicas k }
  pub leaderAndIsrRequests : SameRequests u.leaderAndIsrRequests (λ request. ⊥)

-- ---- tests of a state
-- ReplicaPresumesLeadership(replica) == replicaState[replica].leader = replica
abbrev pub ReplicaPresumesLeadership : ModelState → ℕ → Type 0
ReplicaPresumesLeadership u replica = (u.replicaState replica).leader ≡ some replica

-- ReplicaIsFollowing(follower, leader) == replicaState[follower].leader = leader
abbrev pub ReplicaIsFollowing : ModelState → ℕ → ℕ → Type 0
ReplicaIsFollowing u follower leader = (u.replicaState follower).leader ≡ some leader

-- IsTrueLeader(leader): the quorum names it, it presumes, and its epoch is the quorum's
abbrev pub IsTrueLeader : ModelState → ℕ → Type 0
IsTrueLeader u leader =
    (u.quorumState.leader ≡ some leader)
    × ReplicaPresumesLeadership u leader
    × ((u.replicaState leader).leaderEpoch ≡ u.quorumState.leaderEpoch)

-- newControllerState == [leader |-> newLeader, leaderEpoch |-> newLeaderEpoch, isr |-> newIsr]
abbrev pub newControllerState : Option ℕ → ℕ → ReplicaSet → LeaderAndIsr
newControllerState newLeader newLeaderEpoch newIsr =
    record { leaderEpoch = pos newLeaderEpoch; leader = newLeader; isr = newIsr }

-- ---- the actions of the source and their helpers: `..With` is the body of an action over its choices
module _ (k : Constants) (u v : ModelState) where
  -- UNCHANGED, of each variable
  abbrev pub UnchangedReplicaLog : Type 0
  UnchangedReplicaLog = SameLogs k v.replicaLog u.replicaLog

  abbrev pub UnchangedReplicaState : Type 0
  UnchangedReplicaState = SameStates k v.replicaState u.replicaState

  abbrev pub UnchangedNextRecordId : Type 0
  UnchangedNextRecordId = v.nextRecordId ≡ u.nextRecordId

  abbrev pub UnchangedNextLeaderEpoch : Type 0
  UnchangedNextLeaderEpoch = v.nextLeaderEpoch ≡ u.nextLeaderEpoch

  abbrev pub UnchangedRequests : Type 0
  UnchangedRequests = SameRequests v.leaderAndIsrRequests u.leaderAndIsrRequests

  abbrev pub UnchangedQuorumState : Type 0
  UnchangedQuorumState = v.quorumState ≡ u.quorumState

  -- ControllerUpdateIsr(newLeader, newIsr): an epoch is drawn, the quorum changes, and it is added to the requests
  abbrev pub ControllerUpdateIsr : Option ℕ → ReplicaSet → Type 0
  ControllerUpdateIsr newLeader newIsr =
      (newLeaderEpoch : ℕ)
      × LeaderEpochSeq·IdSet k newLeaderEpoch
      × LeaderEpochSeq·NextId k u v newLeaderEpoch
      × (v.quorumState ≡ newControllerState newLeader newLeaderEpoch newIsr)
      × SameRequests v.leaderAndIsrRequests
      (requests_plus u.leaderAndIsrRequests (newControllerState newLeader newLeaderEpoch newIsr))

  -- ControllerShrinkIsr == \E replica \in Replicas : ..
  abbrev pub ControllerShrinkIsrWith : ℕ → Type 0
  ControllerShrinkIsrWith replica =
      (((u.quorumState.leader ≡ some replica)
      × (u.quorumState.isr ≡ singleton replica)
      × ControllerUpdateIsr none u.quorumState.isr)
      ⊎ ((u.quorumState.leader ≡ some replica)
      × (u.quorumState.isr ≢ singleton replica)
      × ControllerUpdateIsr none (minus u.quorumState.isr replica))
      ⊎ ((u.quorumState.leader ≢ some replica)
      × replica is_in u.quorumState.isr
      × ControllerUpdateIsr u.quorumState.leader (minus u.quorumState.isr replica)))
      × UnchangedNextRecordId
      × UnchangedReplicaLog
      × UnchangedReplicaState

  abbrev pub ControllerShrinkIsr : Type 0
  ControllerShrinkIsr = (replica : ℕ) × replica is_in Replicas k × ControllerShrinkIsrWith replica

  -- ControllerElectLeader == \E newLeader \in quorumState.isr : ..
  abbrev pub ControllerElectLeaderWith : ℕ → Type 0
  ControllerElectLeaderWith newLeader =
      (u.quorumState.leader ≢ some newLeader)
      × ControllerUpdateIsr (some newLeader) u.quorumState.isr
      × UnchangedNextRecordId
      × UnchangedReplicaLog
      × UnchangedReplicaState

  abbrev pub ControllerElectLeader : Type 0
  ControllerElectLeader = (newLeader : ℕ) × newLeader is_in u.quorumState.isr × ControllerElectLeaderWith newLeader

  -- BecomeLeader == \E leaderAndIsrRequest \in leaderAndIsrRequests : ..; leader # None: the request's leader is some leader
  abbrev pub BecomeLeaderWith : LeaderAndIsr → Type 0
  BecomeLeaderWith request =
      (leader : ℕ)
      × (request.leader ≡ some leader)
      × (u.replicaState leader).leaderEpoch <ℤ request.leaderEpoch
      × SameStates k v.replicaState
      (except u.replicaState leader
      (record {
        hw = (u.replicaState leader).hw;
        leaderEpoch = request.leaderEpoch;
        leader = some leader;
        isr = request.isr;
      }))
      × UnchangedNextRecordId
      × UnchangedReplicaLog
      × UnchangedQuorumState
      × UnchangedNextLeaderEpoch
      × UnchangedRequests

  abbrev pub BecomeLeader : Type 0
  BecomeLeader = (request : LeaderAndIsr) × u.leaderAndIsrRequests request × BecomeLeaderWith request

  -- LeaderWrite == \E replica \in Replicas, id \in RecordSeq!IdSet, offset \in ReplicaLog!Offsets : ..
  abbrev pub LeaderWriteWith : ℕ → ℕ → ℕ → Type 0
  LeaderWriteWith replica id offset =
      ReplicaPresumesLeadership u replica
      × RecordSeq·NextId k u v id
      × ReplicaLog·Append k u v replica (record { id = id; epoch = (u.replicaState replica).leaderEpoch }) offset
      × UnchangedReplicaState
      × UnchangedNextLeaderEpoch
      × UnchangedQuorumState
      × UnchangedRequests

  abbrev pub LeaderWrite : Type 0
  LeaderWrite =
      (replica id offset : ℕ)
      × replica is_in Replicas k
      × RecordSeq·IdSet k id
      × ReplicaLog·Offsets k offset
      × LeaderWriteWith replica id offset

  -- QuorumUpdateLeaderAndIsr(leader, newIsr): the true leader writes newIsr to the quorum and to its own state
  abbrev pub QuorumUpdateLeaderAndIsr : ℕ → ReplicaSet → Type 0
  QuorumUpdateLeaderAndIsr leader newIsr =
      IsTrueLeader u leader
      × (u.quorumState.leader ≡ some leader)
      × (v.quorumState
      ≡ record { leaderEpoch = u.quorumState.leaderEpoch; leader = u.quorumState.leader; isr = newIsr })
      × SameStates k v.replicaState (except_isr u.replicaState leader newIsr)

-- IsFollowerCaughtUp(leader, follower, endOffset): the follower follows the leader and, unless endOffset is 0, has the offset
-- before it, at which the leader has a record; which record the follower has there is not asked
abbrev pub IsFollowerCaughtUp : Constants → ModelState → ℕ → ℕ → ℕ → Type 0
IsFollowerCaughtUp k u leader follower endOffset =
    ReplicaIsFollowing u follower leader
    × ((endOffset ≡ 0)
    ⊎ ((0 < endOffset)
    × (record' : LogRecord)
    × LogRecords k record'
    × ReplicaLog·HasEntry u leader record' (endOffset - 1)
    × ReplicaLog·HasOffset u follower (endOffset - 1)))

module _ (k : Constants) (u v : ModelState) where
  -- LeaderShrinkIsr == \E leader \in Replicas : .. \E replica \in isr \ {leader} : ..
  abbrev pub LeaderShrinkIsrWith : ℕ → ℕ → Type 0
  LeaderShrinkIsrWith leader replica =
      ¬ (IsFollowerCaughtUp k u leader replica (ReplicaLog·GetEndOffset u leader))
      × QuorumUpdateLeaderAndIsr k u v leader (minus (u.replicaState leader).isr replica)
      × UnchangedNextRecordId k u v
      × UnchangedReplicaLog k u v
      × UnchangedNextLeaderEpoch k u v
      × UnchangedRequests k u v

  abbrev pub LeaderShrinkIsr : Type 0
  LeaderShrinkIsr =
      (leader : ℕ)
      × leader is_in Replicas k
      × (replica : ℕ)
      × replica is_in minus (u.replicaState leader).isr leader
      × LeaderShrinkIsrWith leader replica

  -- LeaderExpandIsr == \E leader \in Replicas : .. \E replica \in Replicas \ isr : ..
  abbrev pub LeaderExpandIsrWith : ℕ → ℕ → Type 0
  LeaderExpandIsrWith leader replica =
      IsFollowerCaughtUp k u leader replica (u.replicaState leader).hw
      × QuorumUpdateLeaderAndIsr k u v leader (plus (u.replicaState leader).isr replica)
      × UnchangedNextRecordId k u v
      × UnchangedReplicaLog k u v
      × UnchangedNextLeaderEpoch k u v
      × UnchangedRequests k u v

  abbrev pub LeaderExpandIsr : Type 0
  LeaderExpandIsr =
      (leader : ℕ)
      × leader is_in Replicas k
      × (replica : ℕ)
      × replica is_in Replicas k
      × ¬ (replica is_in (u.replicaState leader).isr)
      × LeaderExpandIsrWith leader replica

  -- LeaderIncHighWatermark == \E offset \in ReplicaLog!Offsets, leader \in Replicas : ..
  abbrev pub LeaderIncHighWatermarkWith : ℕ → ℕ → Type 0
  LeaderIncHighWatermarkWith offset leader =
      ReplicaPresumesLeadership u leader
      × (offset ≡ (u.replicaState leader).hw)
      × ((follower : ℕ) → follower is_in (u.replicaState leader).isr
      → ReplicaIsFollowing u follower leader × ReplicaLog·HasOffset u follower offset)
      × SameStates k v.replicaState (except_hw u.replicaState leader ((u.replicaState leader).hw + 1))
      × UnchangedNextRecordId k u v
      × UnchangedReplicaLog k u v
      × UnchangedQuorumState k u v
      × UnchangedNextLeaderEpoch k u v
      × UnchangedRequests k u v

  abbrev pub LeaderIncHighWatermark : Type 0
  LeaderIncHighWatermark =
      (offset leader : ℕ)
      × ReplicaLog·Offsets k offset
      × leader is_in Replicas k
      × LeaderIncHighWatermarkWith offset leader

  -- BecomeFollowerAndTruncateTo(leader, replica, truncationOffset) == \E leaderAndIsrRequest \in leaderAndIsrRequests : ..
  abbrev pub BecomeFollowerAndTruncateToWith : Option ℕ → ℕ → ℕ → LeaderAndIsr → Type 0
  BecomeFollowerAndTruncateToWith leader replica truncationOffset request =
      (leader ≢ some replica)
      × (request.leader ≡ leader)
      × (u.replicaState replica).leaderEpoch <ℤ request.leaderEpoch
      × (((leader ≡ none) × UnchangedReplicaLog k u v)
      ⊎ ((leader ≢ none) × ReplicaLog·TruncateTo k u v replica truncationOffset))
      × SameStates k v.replicaState
      (except u.replicaState replica
      (record {
        hw = Min truncationOffset (u.replicaState replica).hw;
        leaderEpoch = request.leaderEpoch;
        leader = leader;
        isr = request.isr;
      }))
      × UnchangedNextRecordId k u v
      × UnchangedQuorumState k u v
      × UnchangedNextLeaderEpoch k u v
      × UnchangedRequests k u v

  abbrev pub BecomeFollowerAndTruncateTo : Option ℕ → ℕ → ℕ → Type 0
  BecomeFollowerAndTruncateTo leader replica truncationOffset =
      (request : LeaderAndIsr)
      × u.leaderAndIsrRequests request
      × BecomeFollowerAndTruncateToWith leader replica truncationOffset request

-- followerHw == Min({leaderHw, newEndOffset}): leaderHw is the leader's, newEndOffset the follower's end plus 1
abbrev pub followerHw : ModelState → ℕ → ℕ → ℕ
followerHw u follower leader = Min (u.replicaState leader).hw (ReplicaLog·GetEndOffset u follower + 1)

module _ (k : Constants) (u v : ModelState) where
  -- FollowerReplicate == \E follower, leader \in Replicas : ..
  abbrev pub FollowerReplicateWith : ℕ → ℕ → Type 0
  FollowerReplicateWith follower leader =
      ReplicaPresumesLeadership u leader
      × ReplicaIsFollowing u follower leader
      × ReplicaLog·ReplicateTo k u v leader follower
      × SameStates k v.replicaState (except_hw u.replicaState follower (followerHw u follower leader))
      × UnchangedNextRecordId k u v
      × UnchangedQuorumState k u v
      × UnchangedNextLeaderEpoch k u v
      × UnchangedRequests k u v

  abbrev pub FollowerReplicate : Type 0
  FollowerReplicate =
      (follower leader : ℕ) × follower is_in Replicas k × leader is_in Replicas k × FollowerReplicateWith follower leader

-- ---- properties
-- \E record \in LogRecords : HasEntry(r1, record, offset) /\ HasEntry(r2, record, offset)
abbrev pub HaveOneEntry : Constants → ModelState → ℕ → ℕ → ℕ → Type 0
HaveOneEntry k u r1 r2 offset =
    (record' : LogRecord)
    × LogRecords k record'
    × ReplicaLog·HasEntry u r1 record' offset
    × ReplicaLog·HasEntry u r2 record' offset

-- WeakIsr; offset \in 0 .. (hw - 1) is an offset below hw
abbrev pub WeakIsr : Constants → ModelState → Type 0
WeakIsr k u =
    (r1 : ℕ) → r1 is_in Replicas k
    → ¬ (ReplicaPresumesLeadership u r1)
    ⊎ ((u.replicaState r1).hw ≡ 0)
    ⊎ ((r2 offset : ℕ) → r2 is_in (u.replicaState r1).isr → offset < (u.replicaState r1).hw → HaveOneEntry k u r1 r2 offset)

-- StrongIsr: as WeakIsr, with r2 from the quorum's ISR
abbrev pub StrongIsr : Constants → ModelState → Type 0
StrongIsr k u =
    (r1 : ℕ) → r1 is_in Replicas k
    → ¬ (ReplicaPresumesLeadership u r1)
    ⊎ ((u.replicaState r1).hw ≡ 0)
    ⊎ ((r2 offset : ℕ) → r2 is_in u.quorumState.isr → offset < (u.replicaState r1).hw → HaveOneEntry k u r1 r2 offset)

-- LeaderInIsr == quorumState.leader \in quorumState.isr; None is in no set of replicas
abbrev pub LeaderInIsr : ModelState → Type 0
LeaderInIsr u = (leader : ℕ) × (u.quorumState.leader ≡ some leader) × leader is_in u.quorumState.isr

-- ---- what joins the actions; the module that does is not in the source
module _ (k : Constants) (u v : ModelState) where
  -- the follower's action, ours: \E leader \in ReplicaOpt, replica \in Replicas :
  --     BecomeFollowerAndTruncateTo(leader, replica, replicaState[replica].hw)
  -- The source leaves leader and offset open. The paper's kind 3 has "leader named: log cut to a's hw. No leader: log kept."; that any
  -- leader or none may be chosen, by \E, is ours
  abbrev pub BecomeFollower : Type 0
  BecomeFollower =
      (leader : Option ℕ)
      × ReplicaOpt k leader
      × (replica : ℕ)
      × replica is_in Replicas k
      × BecomeFollowerAndTruncateTo k u v leader replica (u.replicaState replica).hw

  -- Next, ours: the disjunction of the nine actions
  abbrev pub Next : Type 0
  Next =
      ControllerShrinkIsr k u v
      ⊎ ControllerElectLeader k u v
      ⊎ BecomeLeader k u v
      ⊎ LeaderWrite k u v
      ⊎ LeaderShrinkIsr k u v
      ⊎ LeaderExpandIsr k u v
      ⊎ LeaderIncHighWatermark k u v
      ⊎ BecomeFollower
      ⊎ FollowerReplicate k u v

-- ours: each state of the list follows by Next from the one before it, the first of them from u; there is no stuttering step
abbrev pub Steps : Constants → ModelState → List ModelState → Type 0
Steps k u [] = Unit {0}
Steps k u (v ∷ vs) = Next k u v × Steps k v vs

-- a finite behaviour, ours: a list of states, the first one by Init, each next one by Next
abbrev pub FiniteBehaviour : Constants → List ModelState → Type 0
FiniteBehaviour k [] = ⊥
FiniteBehaviour k (first ∷ rest) = Init k first × Steps k first rest
