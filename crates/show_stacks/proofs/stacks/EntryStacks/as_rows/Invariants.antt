use Rattle.std.proofs.Common.{◌≡◌, map, take}
use Rattle.std.specs.Global.{Vec}
use Rattle.std.specs.List.{flat_map}
use Rattle.interp.specs.declared.place.CodePlace.{CodePlace}
use Rattle.show_stacks.specs.Stacks.{row_of}
use Rattle.show_stacks.proofs.stacks.EntryStacks.as_rows.Given as goal

abbrev pub invariant-loop-at : goal.invariant-loop-at
invariant-loop-at l =
    l.rows.items ≡ flat_map (λ (v : Vec CodePlace). map row_of v.items) (take l.at l.self.calls.items)
