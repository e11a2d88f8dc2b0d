use Rattle.std.proofs.Common.{◌∙◌, ap, take}
use Rattle.replay.specs.InterfaceLaws.{low_bytes}
use Rattle.replay.proofs.give.put_number.Goals as goal

pub put_bytes-requires : goal.put_bytes-requires
put_bytes-requires c = rw (ap (take 4) c.to_le_bytes.ensures ∙ low_bytes _) c.requires

pub returns : goal.returns
returns c = rw (ap (take 4) c.to_le_bytes.ensures ∙ low_bytes _) at c.put_bytes.ensures
