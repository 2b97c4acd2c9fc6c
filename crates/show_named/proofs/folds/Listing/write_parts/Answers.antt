use Rattle.std.proofs.Common.{◌≡◌, ℕ, ◌-◌, ◌≤◌, List, length, take, drop, subst, arith, length-drop}
use Rattle.std.proofs.lemmas.List.{take_all}
use Rattle.show_named.specs.Folds.{AddsPart}
use Rattle.show_named.proofs.Folded.{folded_next}
use Rattle.show_named.proofs.folds.Listing.write_parts.Goals as goal

pub loop-preserved : goal.loop-preserved
loop-preserved g c =
    let l = c.args.self.now in
    let places = c.args.places.now in
    let done = c.loop.done in
    let count = c.in_ok-count.count in
    let before = c.loop.invariant in
    let some = c.in_ok-count.ensures.some in
    let left = length-drop done places in
    let rest : take (length places - done) (drop done places) ≡ drop done places =
    take_all (length places - done) (drop done places) (omega (arith, left)) in
    let within = subst (λ (xs : List ℕ). count ≤ length xs) rest c.in_ok-count.ensures.within in
    let writes = subst (λ (xs : List ℕ). AddsPart l.shown l.map.now l.story.now (take count xs)
    (g.W.Write.contents c.loop.out) (g.W.Write.contents c.write_part.new.out)) rest c.in_ok-count.ensures.writes in
    record {
      wrote = folded_next l.shown l.map.now l.story.now places done count _ _ _ before.wrote writes;
      least = omega (arith, before.least, some);
      most = omega (arith, before.most, within, left);
    }
