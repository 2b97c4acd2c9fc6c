use Rattle.std.proofs.Common.{◌≡◌, length, max, take, vec_capacity}
use Rattle.interp.proofs.kept.copied_with_room.Given as goal

abbrev pub invariant-loop-item : goal.invariant-loop-item
invariant-loop-item g l = record { items : l.all.items ≡ take l.item-index l.items; capacity : vec_capacity l.all ≡ max l.room (length l.items) }
