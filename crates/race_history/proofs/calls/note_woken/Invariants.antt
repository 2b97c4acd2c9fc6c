use Rattle.std.proofs.Common.{◌≡◌, ◌++◌, map, take}
use Rattle.race_history.specs.Calls.{noting}
use Rattle.race_history.proofs.calls.note_woken.Given as goal

abbrev pub invariant-loop-s : goal.invariant-loop-s
invariant-loop-s l = l.woken.items ≡ l.initial.woken.items ++ map (noting l.place) (take l.s-index l.s-items)
