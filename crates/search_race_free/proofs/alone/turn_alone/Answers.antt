use Rattle.std.proofs.Common.{◌∙◌, ap, sym, subst}
use Rattle.std.specs.List.{slice_get}
use Rattle.search_settled.proofs.Threads.{if-some-at, at-get}
use Rattle.search_settled.proofs.Following.{thread-of}
use Rattle.search_race_free.specs.Touches.{Strikes, StrikesNobody, ArePlainOf}
use Rattle.search_race_free.proofs.Wanting.{is-somewhere, thread-at}
use Rattle.search_race_free.proofs.Going.{goes-on-alone, strikes-race, stays-alone, not_false}
use Rattle.search_race_free.proofs.alone.turn_alone.Goals as goal

pub access-requires : goal.access-requires
access-requires g c =
    let k = g.M.Moves.threads c.args.system.now in
    let at = c.requires.somewhere in
    thread-of k c.args.from.flat (is-somewhere k c.args.from.flat at) c.args.m c.in-Some.thread.now
    (ap (λ l. slice_get l c.args.m) (sym c.deref.ensures.value)
    ∙ at-get c.deref.result.now c.args.m c.in-Some.thread.now c.in-Some.ensures.lookup.3.0 c.in-Some.ensures.lookup.1)

pub returns-in_default : goal.returns-in_default
returns-in_default g c = stays-alone (g.M.Moves.threads c.args.system.now) (g.met.M.Moves.tame c.args.system.now) (g.met.M.Accesses.plain c.args.system.now)
    c.args.m c.args.from c.requires

pub returns-in_default-2 : goal.returns-in_default-2
returns-in_default-2 g c = stays-alone (g.M.Moves.threads c.args.system.now) (g.met.M.Moves.tame c.args.system.now) (g.met.M.Accesses.plain c.args.system.now)
    c.args.m c.args.from c.requires

pub returns-then-not-access : goal.returns-then-not-access
returns-then-not-access g c = stays-alone (g.M.Moves.threads c.args.system.now) (g.met.M.Moves.tame c.args.system.now)
    (g.met.M.Accesses.plain c.args.system.now)
    c.args.m c.args.from c.requires

pub returns-then-not-are_plain : goal.returns-then-not-are_plain
returns-then-not-are_plain g c = stays-alone (g.M.Moves.threads c.args.system.now) (g.met.M.Moves.tame c.args.system.now)
    (g.met.M.Accesses.plain c.args.system.now)
    c.args.m c.args.from c.requires

pub returns-in-Some-struck : goal.returns-in-Some-struck
returns-in-Some-struck g c =
    let k = g.M.Moves.threads c.args.system.now in
    let there = ap (λ l. slice_get l c.args.m) (sym c.deref.ensures.value)
    ∙ at-get c.deref.result.now c.args.m c.in-Some.thread.now c.in-Some.ensures.lookup.3.0 c.in-Some.ensures.lookup.1 in
    strikes-race k (g.met.M.Moves.tame c.args.system.now) (g.met.M.Accesses.plain c.args.system.now) c.args.from c.args.m c.in-Some-struck.one
    c.in-Some-2.access c.requires
    (λ z at. sym (c.in_ok-access.ensures z (thread-at k c.args.from.flat z at c.args.m c.in-Some.thread.now there)) ∙ c.in-Some-2.is)
    (subst (λ l. Strikes l c.args.m c.in-Some-2.access c.in-Some-struck.one) c.as_slice-2.ensures.value c.in-Some-struck.ensures.some)

pub after_event-requires-clause-wants : goal.after_event-requires-clause-wants
after_event-requires-clause-wants g c z at =
    let k = g.M.Moves.threads c.args.system.now in
    let there = ap (λ l. slice_get l c.args.m) (sym c.deref.ensures.value)
    ∙ at-get c.deref.result.now c.args.m c.in-Some.thread.now c.in-Some.ensures.lookup.3.0 c.in-Some.ensures.lookup.1 in
    sym (c.in_ok-access.ensures z (thread-at k c.args.from.flat z at c.args.m c.in-Some.thread.now there)) ∙ c.in-Some-2.is

pub returns-in_default-3 : goal.returns-in_default-3
returns-in_default-3 g c = c.in_ok-flat.ensures.gives_up c.in_default-3.is

pub returns : goal.returns
returns g c =
    let k = g.M.Moves.threads c.args.system.now in
    let there = ap (λ l. slice_get l c.args.m) (sym c.deref.ensures.value)
    ∙ at-get c.deref.result.now c.args.m c.in-Some.thread.now c.in-Some.ensures.lookup.3.0 c.in-Some.ensures.lookup.1 in
    goes-on-alone k (g.met.M.Moves.tame c.args.system.now) (g.met.M.Accesses.plain c.args.system.now) c.args.from
    (record { flat = c.in-Some-3.flat; owned = c.put.new.touches }) c.args.m c.in-Some-2.access c.requires
    (λ z at. sym (c.in_ok-access.ensures z (thread-at k c.args.from.flat z at c.args.m c.in-Some.thread.now there)) ∙ c.in-Some-2.is)
    (not_false c.in-Some-2.access.plain c.if-not-access.false)
    (subst (λ l. ArePlainOf l c.args.m) c.as_slice.ensures.value (c.are_plain.ensures c.if-not-are_plain.false))
    (subst (λ l. StrikesNobody l c.args.m c.in-Some-2.access) c.as_slice-2.ensures.value c.in_default-struck.ensures.none)
    (if-some-at _ _ _ c.in-Some-3.is c.in_ok-flat.ensures.next)
    c.in_ok-put.ensures
