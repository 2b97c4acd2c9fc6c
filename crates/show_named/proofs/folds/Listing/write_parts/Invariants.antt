use Rattle.std.proofs.Common.{◌≤◌, length, take}
use Rattle.show_named.specs.Folds.{AddsFolded}
use Rattle.show_named.proofs.folds.Listing.write_parts.Given as goal

abbrev pub invariant-loop : goal.invariant-loop
invariant-loop g l = record {
  wrote : AddsFolded l.self.shown l.self.map.now l.self.story.now (take l.done l.places)
      (g.W.Write.contents l.initial.out) (g.W.Write.contents l.out);
  least : l.counter ≤ l.done;
  most : l.done ≤ length l.places;
}
