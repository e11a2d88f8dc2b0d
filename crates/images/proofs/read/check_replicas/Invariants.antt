use Rattle.std.proofs.Common.{List, replicate}
use Rattle.replica.specs.declared.Replica.{Replica}
use Rattle.replica.specs.Replica.{zero_replica}
use Rattle.images.specs.Read.{read_replica}
use Rattle.images.specs.ReadLaws.{Filling}
use Rattle.images.proofs.read.check_replicas.Given as goal

-- the first replicas are there, whatever they say, and end at pos
abbrev pub invariant-loop : goal.invariant-loop
invariant-loop z = (l : List Replica) × Filling (read_replica z.log_size) (replicate 5 zero_replica) z.bytes z.at z.count z.counter z.pos l
