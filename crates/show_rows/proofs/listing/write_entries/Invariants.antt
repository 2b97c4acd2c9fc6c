use Rattle.std.proofs.Common.{take}
use Rattle.show_rows.specs.Listing.{AddsEntries}
use Rattle.show_rows.proofs.listing.write_entries.Given as goal

abbrev pub invariant-loop-place : goal.invariant-loop-place
invariant-loop-place g l = AddsEntries l.shown l.story (take l.place l.places) (g.W.Write.contents l.initial.out) (g.W.Write.contents l.out)
