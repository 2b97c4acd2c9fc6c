use Rattle.std.proofs.Common.{◌≡◌, ◌++◌, List, Option, length, take, drop, arith, subst, sym}
use Rattle.interp.specs.declared.thread.Thread.{Thread}
use Rattle.show_moments.specs.declared.standing.ThreadSnapshot.{ThreadSnapshot}
use Rattle.show_moments.specs.Moments.{Sees, SeesOf}
use Rattle.show_moments.proofs.Seen.{written_back}
use Rattle.show_moments.proofs.moment.Moment.see_left.Goals as goal

pub returns-in-Ok-clause-left : goal.returns-in-Ok-clause-left
returns-in-Ok-clause-left c = λ short.
    let n = c.args.entry.now.thread in
    let old = c.args.self.now.next in
    let thread = c.in-Some.thread.now in
    let seats : List (Option ThreadSnapshot) = c.see.new.seats in
    let long : length seats ≡ length old.items = omega (arith, c.see.auto.seats, c.deref_mut.ensures.len, old.ok.0) in
    let sees : Sees thread n old.items seats =
    subst (λ (l : List (Option ThreadSnapshot)). Sees thread n l seats) c.deref_mut.ensures.value c.in-Ok.ensures in
    let back : take old.len (seats ++ drop (length seats) old.items) ≡ seats =
    written_back seats old.items old.len long (omega (arith, old.ok.0)) in
    subst (λ (o : Option Thread). SeesOf o n old.items (take old.len (seats ++ drop (length seats) old.items))) c.in-Some.ensures
    (subst (λ (l : List (Option ThreadSnapshot)). Sees thread n old.items l) (sym back) sees)
