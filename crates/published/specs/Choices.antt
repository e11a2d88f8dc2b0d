-- The source's action of each kind, and the same with the choices that the operands of an action name. Assumes nothing.
use Rattle.std.specs.Prelude.{ℕ, ◌≡◌, false, pos}
use Rattle.std.proofs.Math.Option.{Option}
use Rattle.cluster.specs.declared.Action.{Action}
use Rattle.cluster.specs.declared.Kind.{Kind}
use Rattle.cluster.specs.declared.Kind.TheVariants as Kinds
use Rattle.cluster.specs.Act.{kind_of, uses}
use Rattle.published.specs.KafkaReplication as Source
use Rattle.published.specs.KafkaReplication.{Constants, ModelState, LeaderAndIsr, ◌is_in◌, Replicas, minus, ReplicaOpt, ReplicaLog·Offsets, RecordSeq·IdSet}

-- the source's action of a kind; that of kind 3 is BecomeFollower, in which the choice of the leader is ours, and the offset the paper's
abbrev pub SourceAction : Kind → Constants → ModelState → ModelState → Type 0
SourceAction Kinds.ControllerShrinkIsr k u v = Source.ControllerShrinkIsr k u v
SourceAction Kinds.ControllerElectLeader k u v = Source.ControllerElectLeader k u v
SourceAction Kinds.BecomeLeader k u v = Source.BecomeLeader k u v
SourceAction Kinds.BecomeFollower k u v = Source.BecomeFollower k u v
SourceAction Kinds.LeaderWrite k u v = Source.LeaderWrite k u v
SourceAction Kinds.LeaderShrinkIsr k u v = Source.LeaderShrinkIsr k u v
SourceAction Kinds.LeaderExpandIsr k u v = Source.LeaderExpandIsr k u v
SourceAction Kinds.LeaderIncHighWatermark k u v = Source.LeaderIncHighWatermark k u v
SourceAction Kinds.FollowerReplicate k u v = Source.FollowerReplicate k u v
SourceAction Kinds.Unknown k u v = ⊥

-- the same, with the choices that a, b and e name: a and b are the replicas of the table's column "operands", e is the epoch
-- of the request. What they do not name stays a choice: the record's id and the offset of LeaderWrite, the offset of
-- LeaderIncHighWatermark, the leader that the request of BecomeFollower names.
abbrev pub SourceActionWith : Kind → ℕ → ℕ → ℕ → Constants → ModelState → ModelState → Type 0
SourceActionWith Kinds.ControllerShrinkIsr a b e k u v = a is_in Replicas k × Source.ControllerShrinkIsrWith k u v a
SourceActionWith Kinds.ControllerElectLeader a b e k u v =
    a is_in u.quorumState.isr × Source.ControllerElectLeaderWith k u v a
SourceActionWith Kinds.BecomeLeader a b e k u v =
    (request : LeaderAndIsr)
    × u.leaderAndIsrRequests request
    × (request.leaderEpoch ≡ pos e)
    × Source.BecomeLeaderWith k u v request
SourceActionWith Kinds.BecomeFollower a b e k u v =
    (leader : Option ℕ)
    × ReplicaOpt k leader
    × a is_in Replicas k
    × (request : LeaderAndIsr)
    × u.leaderAndIsrRequests request
    × (request.leaderEpoch ≡ pos e)
    × Source.BecomeFollowerAndTruncateToWith k u v leader a (u.replicaState a).hw request
SourceActionWith Kinds.LeaderWrite a b e k u v =
    (id offset : ℕ)
    × a is_in Replicas k
    × RecordSeq·IdSet k id
    × ReplicaLog·Offsets k offset
    × Source.LeaderWriteWith k u v a id offset
SourceActionWith Kinds.LeaderShrinkIsr a b e k u v =
    a is_in Replicas k × b is_in minus (u.replicaState a).isr a × Source.LeaderShrinkIsrWith k u v a b
SourceActionWith Kinds.LeaderExpandIsr a b e k u v =
    a is_in Replicas k
    × b is_in Replicas k
    × ¬ (b is_in (u.replicaState a).isr)
    × Source.LeaderExpandIsrWith k u v a b
SourceActionWith Kinds.LeaderIncHighWatermark a b e k u v =
    (offset : ℕ) × ReplicaLog·Offsets k offset × a is_in Replicas k × Source.LeaderIncHighWatermarkWith k u v offset a
SourceActionWith Kinds.FollowerReplicate a b e k u v =
    a is_in Replicas k × b is_in Replicas k × Source.FollowerReplicateWith k u v a b
SourceActionWith Kinds.Unknown a b e k u v = ⊥

-- an operand that the kind does not use is 0
pub record UnusedZero (kind : Kind) (a b e : ℕ) : Type 0 where
  pub a_zero : (uses kind).a ≡ false → a ≡ 0
  pub b_zero : (uses kind).b ≡ false → b ≡ 0
  pub e_zero : (uses kind).e ≡ false → e ≡ 0

-- an action as the source has it: that of its kind with the choices that its operands name, and no other operand
pub record Choice (k : Constants) (action : Action) (u v : ModelState) : Type 0 where
  pub unused : UnusedZero (kind_of action.kind) action.a action.b action.e
  pub holds : SourceActionWith (kind_of action.kind) action.a action.b action.e k u v
