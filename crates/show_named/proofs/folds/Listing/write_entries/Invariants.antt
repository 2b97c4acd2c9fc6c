use Rattle.std.proofs.Common.{take}
use Rattle.show_named.specs.Rows.{AddsEntries}
use Rattle.show_named.proofs.folds.Listing.write_entries.Given as goal

abbrev pub invariant-loop-place : goal.invariant-loop-place
invariant-loop-place g l = AddsEntries l.self.shown l.self.map.now l.self.story.now (take l.place l.places)
    (g.W.Write.contents l.initial.out) (g.W.Write.contents l.out)
