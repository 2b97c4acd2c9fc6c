use Rattle.std.proofs.Common.{◌≡◌, length}
use Rattle.types.specs.declared.limits.TheConstants.{MOST_THREADS}
use Rattle.show_events.proofs.Firsts.{AreSeen}
use Rattle.show_events.proofs.links.first_entries.Given as goal

abbrev pub invariant-loop-at : goal.invariant-loop-at
invariant-loop-at l = record {
  long : length l.firsts.items ≡ MOST_THREADS;
  seen : AreSeen l.log l.at l.firsts.items;
}
