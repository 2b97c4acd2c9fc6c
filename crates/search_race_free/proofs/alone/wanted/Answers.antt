use Rattle.std.proofs.Common.{◌+◌, ◌∙◌, ap, sym, subst}
use Rattle.std.specs.List.{slice_get}
use Rattle.search_settled.proofs.Threads.{at-get, at-end}
use Rattle.search_settled.proofs.Following.{thread-of}
use Rattle.search_race_free.proofs.Wanting.{WantedSoFar, is-somewhere, wanted-none, wanted-more, wanted-all}
use Rattle.search_race_free.proofs.alone.wanted.Goals as goal

pub loop-thread-init : goal.loop-thread-init
loop-thread-init g c =
    subst (λ l. WantedSoFar (g.M.Moves.threads c.args.system.now) c.args.flat.now 0 l) (sym c.in_ok-wanted.ensures.items)
    (wanted-none (g.M.Moves.threads c.args.system.now) c.args.flat.now)

pub access-requires : goal.access-requires
access-requires g c = thread-of (g.M.Moves.threads c.args.system.now) c.args.flat.now
    (is-somewhere (g.M.Moves.threads c.args.system.now) c.args.flat.now c.requires) c.loop-thread.n c.in-Some.thread.now
    (ap (λ l. slice_get l c.loop-thread.n) (sym c.deref.ensures.value)
    ∙ at-get c.deref.result.now c.loop-thread.n c.in-Some.thread.now c.in-Some.ensures.lookup.3.0 c.in-Some.ensures.lookup.1)

pub loop-thread-preserved : goal.loop-thread-preserved
loop-thread-preserved g c =
    subst (λ l. WantedSoFar (g.M.Moves.threads c.args.system.now) c.args.flat.now (c.loop-thread.n + 1) l) (sym c.in_ok-push.ensures.items)
    (wanted-more (g.M.Moves.threads c.args.system.now) c.args.flat.now c.loop-thread.n c.loop-thread.wanted.items c.in-Some.thread.now _
    c.loop-thread.invariant
    (ap (λ l. slice_get l c.loop-thread.n) (sym c.deref.ensures.value)
    ∙ at-get c.deref.result.now c.loop-thread.n c.in-Some.thread.now c.in-Some.ensures.lookup.3.0 c.in-Some.ensures.lookup.1)
    c.in_ok-access.ensures)

pub returns : goal.returns
returns g c = wanted-all (g.M.Moves.threads c.args.system.now) c.args.flat.now c.loop-thread.n c.loop-thread.wanted.items c.loop-thread.invariant
    (at-end c.deref.result.now c.args.flat.now.threads.items c.loop-thread.n c.deref.ensures.value c.in_default.ensures.lookup.3)
