use Rattle.std.proofs.Common.{◌∙◌, ap, sym, refl}
use Rattle.std.specs.List.{slice_get}
use Rattle.search_settled.proofs.Threads.{if-some-at, all-come, at-get}
use Rattle.search_settled.proofs.Following.{thread-of, asked, told-some}
use Rattle.search_race_free.proofs.Wanting.{is-somewhere}
use Rattle.search_race_free.proofs.Eventing.{after-event-is, event-lost}
use Rattle.search_race_free.proofs.alone.after_event.Goals as goal

pub event-requires : goal.event-requires
event-requires g c = thread-of (g.M.Moves.threads c.args.system.now) c.args.flat.now
    (is-somewhere (g.M.Moves.threads c.args.system.now) c.args.flat.now c.requires.somewhere) c.args.n c.in-Some.thread.now
    (ap (λ l. slice_get l c.args.n) (sym c.deref.ensures.value)
    ∙ at-get c.deref.result.now c.args.n c.in-Some.thread.now c.in-Some.ensures.lookup.3.0 c.in-Some.ensures.lookup.1)

pub threads_after-requires : goal.threads_after-requires
threads_after-requires g c =
    let k = g.M.Moves.threads c.args.system.now in
    asked k c.args.flat.now (is-somewhere k c.args.flat.now c.requires.somewhere) c.args.n c.in-Some.thread.now
    (ap (λ l. slice_get l c.args.n) (sym c.deref.ensures.value)
    ∙ at-get c.deref.result.now c.args.n c.in-Some.thread.now c.in-Some.ensures.lookup.3.0 c.in-Some.ensures.lookup.1)
    (c.in-Some-2.shared, c.in-Some-2.made) c.as_slice.result.now c.as_slice.ensures.value
    (told-some k c.args.flat.now c.in-Some.thread.now c.args.n _ (c.in-Some-2.shared, c.in-Some-2.made) c.in-Some-2.is c.in_ok-shared.ensures)

pub returns-in_default-3-clause-gives_up : goal.returns-in_default-3-clause-gives_up
returns-in_default-3-clause-gives_up g c _ =
    let k = g.M.Moves.threads c.args.system.now in
    event-lost k (g.M.Moves.stuck c.args.system.now) c.args.flat.now c.args.n c.in-Some.thread.now (c.in-Some-2.shared, c.in-Some-2.made) c.as_slice.result.now
    (ap (λ l. slice_get l c.args.n) (sym c.deref.ensures.value)
    ∙ at-get c.deref.result.now c.args.n c.in-Some.thread.now c.in-Some.ensures.lookup.3.0 c.in-Some.ensures.lookup.1)
    c.as_slice.ensures.value
    (told-some k c.args.flat.now c.in-Some.thread.now c.args.n _ (c.in-Some-2.shared, c.in-Some-2.made) c.in-Some-2.is c.in_ok-shared.ensures)
    (c.in_ok-threads.ensures.gives_up c.in_default-3.is)

pub returns-clause-next : goal.returns-clause-next
returns-clause-next g c =
    let k = g.M.Moves.threads c.args.system.now in
    after-event-is k (g.met.M.Moves.tame c.args.system.now) (g.met.M.Moves.bounded c.args.system.now) c.args.flat.now c.args.n c.in-Some.thread.now
    (c.in-Some-2.shared, c.in-Some-2.made) c.in-Some-3.threads.items
    (ap (λ l. slice_get l c.args.n) (sym c.deref.ensures.value)
    ∙ at-get c.deref.result.now c.args.n c.in-Some.thread.now c.in-Some.ensures.lookup.3.0 c.in-Some.ensures.lookup.1)
    (told-some k c.args.flat.now c.in-Some.thread.now c.args.n _ (c.in-Some-2.shared, c.in-Some-2.made) c.in-Some-2.is c.in_ok-shared.ensures)
    (all-come k c.in-Some-2.shared c.in-Some-2.made c.args.n c.as_slice.result.now c.args.flat.now.threads.items c.in-Some-3.threads.items
    c.as_slice.ensures.value (if-some-at _ _ _ c.in-Some-3.is c.in_ok-threads.ensures.rests))
    (record { shared = c.in-Some-2.shared; threads = c.in-Some-3.threads }) refl refl
