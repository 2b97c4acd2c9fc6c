use Rattle.std.proofs.Common.{◌≡◌, ◌<◌, length, take}
use Rattle.std.specs.List.{fold}
use Rattle.race_history.specs.Lasts.{keeping, table}
use Rattle.race_history.proofs.lasts.Lasts.keep_all.Given as goal

abbrev pub invariant-loop-access : goal.invariant-loop-access
invariant-loop-access l = record {
  some : 0 < length (table l.self);
  kept : table l.self ≡ fold (keeping l.place) (table l.initial.self) (take l.access-index l.accesses);
}
