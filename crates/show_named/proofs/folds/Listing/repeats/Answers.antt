use Rattle.std.proofs.Common.{ℕ, ◌<◌, get_or, refl, sym, subst}
use Rattle.show_named.proofs.Folded.{repeats_next}
use Rattle.show_named.proofs.folds.Listing.repeats.Goals as goal

pub loop-at-preserved : goal.loop-at-preserved
loop-at-preserved c =
    let s = c.args.self.now in
    let at = c.loop-at.at in
    repeats_next s.shown s.map.now s.story.now c.args.first.now c.args.next.now at (get_or c.args.first.now at 0)
    (get_or c.args.next.now at 0) 0 0 c.loop-at-test.true (subst (λ (n : ℕ). at < n) (sym c.requires) c.loop-at-test.true) refl refl
    c.loop-at.invariant (c.if-not-is_alike.ensures refl)
