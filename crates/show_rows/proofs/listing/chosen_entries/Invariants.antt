use Rattle.std.proofs.Common.{◌≡◌, ◌<◌, length, take, All}
use Rattle.show_rows.specs.Listing.{is_shown}
use Rattle.show_rows.proofs.Chosen.{picked}
use Rattle.show_rows.proofs.listing.chosen_entries.Given as goal

abbrev pub invariant-loop-at : goal.invariant-loop-at
invariant-loop-at l = record {
  which : l.chosen.items ≡ picked (is_shown l.fn.shown l.fn.look) 0 (take l.at l.log);
  within : All (λ at. at < length l.log) l.chosen.items;
}
