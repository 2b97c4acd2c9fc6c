use Rattle.std.proofs.Common.{◌≡◌, length}
use Rattle.show_waits.proofs.Waiting.{IsWalk}
use Rattle.show_waits.proofs.cycles.cycle_from.Given as goal

abbrev pub invariant-loop : goal.invariant-loop
invariant-loop l = record { walk : IsWalk l.waits l.n l.others.items l.at; count : length l.others.items ≡ l.counter }
