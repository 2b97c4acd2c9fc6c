use Rattle.std.proofs.Common.{refl}
use Rattle.report_finds.proofs.Looking.{asked_found, asked_unknown, known_by, sought_as}
use Rattle.report_finds.proofs.whole.first_look.Goals as goal

pub returns-then-search-clause-looked : goal.returns-then-search-clause-looked
returns-then-search-clause-looked g c = (tt, ((λ _. refl), (λ _. c.if-search.true)))

pub returns-in-Some-clause-looked : goal.returns-in-Some-clause-looked
returns-in-Some-clause-looked g c =
    (rw c.in-Some.is at c.in_ok-free.ensures.race, asked_found c.args.call.search.now c.in-Some.race c.if-search.false)

pub returns-in-CannotTell-clause-looked : goal.returns-in-CannotTell-clause-looked
returns-in-CannotTell-clause-looked g c = (tt, asked_unknown c.args.call.search.now c.if-search.false)

pub returns-clause-looked : goal.returns-clause-looked
returns-clause-looked g c =
    let q = c.args.call.request.now in
    let s = c.args.call.search.now in
    let all = c.in_ok-free.free.ended in
    let free = c.in_ok-free.ensures in
    let none = free.none in (
      record { every = free.found.all; can = free.found.sound; count = free.count; live = free.live; unsaid = refl },
      known_by q c.args.call.allowed all.verdict c.in_ok-free.free.timed none free.untimed free.timed,
      c.if-search.false,
      sought_as s _ _ _ _ c.early_of.ensures.sought c.early_of.ensures.wanted free.seeks,
    )
