use Rattle.std.proofs.Common.{◌++◌, drop, replicate}
use Rattle.parts.specs.Mark.{byte_at}
use Rattle.replica.specs.Replica.{zero_replica}
use Rattle.images.specs.Read.{read_replica}
use Rattle.images.specs.ReadLaws.{Filling}
use Rattle.images.proofs.read.replicas_of.Given as goal

abbrev pub invariant-loop-p : goal.invariant-loop-p
invariant-loop-p l = Filling (read_replica (byte_at l.bytes 3)) (replicate 5 zero_replica) l.bytes l.at l.count l.p-index l.pos (l.p-items ++ drop l.count (replicate 5 zero_replica))
