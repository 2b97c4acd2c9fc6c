use Rattle.std.proofs.Common.{get_or, refl}
use Rattle.show_named.proofs.Listed.{entries_next}
use Rattle.show_named.proofs.folds.Listing.write_entries.Goals as goal

pub loop-place-preserved : goal.loop-place-preserved
loop-place-preserved g c =
    let s = c.args.self.now in
    entries_next s.shown s.map.now s.story.now c.args.places.now c.loop-place.place 0 (get_or c.args.places.now c.loop-place.place 0)
    c.loop-place-test.true refl _ _ _ c.loop-place.invariant c.in_ok-write_entry.ensures
