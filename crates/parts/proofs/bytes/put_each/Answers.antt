use native.Mathlib.Omega.{arith}
use Rattle.logic.specs.Stores.{storing_start, storing_room, storing_more, storing_end}
use Rattle.parts.proofs.bytes.put_each.Goals as goal

pub loop-item-init : goal.loop-item-init
loop-item-init g c = λ bytes puts room. storing_start bytes _ _

pub put-pos-requires : goal.put-pos-requires
put-pos-requires g c = let (bytes, puts, room) = c.requires in
    let l = c.loop-item in
    let i = l.item-index in
    puts.may i _ (omega arith) c.item-item.is _ _ (storing_room bytes i _ (omega arith) (l.invariant bytes puts room) room)

pub loop-item-preserved : goal.loop-item-preserved
loop-item-preserved g c = λ bytes puts room.
    let l = c.loop-item in
    let i = l.item-index in
    let w = l.invariant bytes puts room in
    storing_more bytes i w (puts.does i _ (omega arith) c.item-item.is _ _ _ _ (storing_room bytes i _ (omega arith) w room) c.put-pos.ensures)

pub returns : goal.returns
returns g c = λ bytes puts room. let l = c.loop-item in storing_end bytes l.item-index _ (omega arith) (omega arith) (l.invariant bytes puts room)
