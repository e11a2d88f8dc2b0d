use Rattle.std.proofs.Common.{refl, ap, arith, set}
use Rattle.logic.specs.Table.{splice_start, fill_turn, fill_end}
use Rattle.replica.specs.Replica.{no_replica}
use Rattle.replica.specs.declared.Replica.{Replica}
use Rattle.cluster.specs.State.{replica_at, with_replicas, tidy_replica_at}
use Rattle.cluster.specs.declared.State.{State}
use Rattle.cluster.proofs.Owned.{shaped_of}
use Rattle.cluster.proofs.tidy.tidy_replicas.Goals as goal

pub loop-i-init : goal.loop-i-init
loop-i-init c = let s = c.args.s in
    let h = (shaped_of s _ c.well_formed.0).replicas in
    ap (with_replicas s) (splice_start no_replica 5 (tidy_replica_at s) s.replicas h)

pub loop-i-preserved : goal.loop-i-preserved
loop-i-preserved c = let s = c.args.s in
    let at = c.loop-i in
    fill_turn (with_replicas s) (λ (u : State) (v : Replica). with_replicas u (set u.replicas at.i v)) 5 at.i (tidy_replica_at s) (replica_at s) (λ l. refl) (omega arith) at.t c.tidy_replica.result at.invariant c.tidy_replica.ensures

pub returns : goal.returns
returns c = let s = c.args.s in
    fill_end (with_replicas s) 5 c.loop-i.i (tidy_replica_at s) (replica_at s) (omega arith) (omega arith) c.loop-i.t c.loop-i.invariant
