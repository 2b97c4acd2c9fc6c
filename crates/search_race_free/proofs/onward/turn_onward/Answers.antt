use Rattle.std.proofs.Common.{subst}
use Rattle.search_settled.proofs.Threads.{if-some-at}
use Rattle.search_race_free.specs.Search.{IsCame, ComesOnward, IsAfterEvent}
use Rattle.search_race_free.specs.Touches.{AreOfOthers, ArePutOver, AreInTheWay}
use Rattle.search_race_free.specs.declared.race.ThreadRace.{ThreadRace}
use Rattle.search_race_free.proofs.Overwriting.{if-none-at}
use Rattle.search_race_free.proofs.Continuing.{onward-first, others-race}
use Rattle.search_race_free.proofs.onward.turn_onward.Goals as goal

pub after_event-requires-clause-somewhere : goal.after_event-requires-clause-somewhere
after_event-requires-clause-somewhere g c = let owned = c.requires.owned in owned.somewhere

pub returns-in_default : goal.returns-in_default
returns-in_default g c = c.in_ok-flat.ensures.gives_up c.in_default.is

pub returns-in-Some-2 : goal.returns-in-Some-2
returns-in-Some-2 g c =
    let k = g.M.Moves.threads c.args.system.now in
    let race = c.in-Some-2.race in
    others-race k (g.met.M.Moves.tame c.args.system.now) (g.met.M.Accesses.plain c.args.system.now) c.args.from.now c.args.before.now
    c.in_ok-owned.owned.items c.args.n race.one race.other c.requires.owned c.requires.before
    (subst (λ l. AreOfOthers l c.args.n c.in_ok-owned.owned.items) c.as_slice.ensures.value c.in_ok-owned.ensures)
    (if-some-at (λ (r : ThreadRace). AreInTheWay c.args.before.now c.in_ok-owned.owned.items r.one r.other) c.in_ok-race.field-0 race c.in-Some-2.is
    c.in_ok-race.ensures.some)

pub loop-m-init : goal.loop-m-init
loop-m-init g c =
    let k = g.M.Moves.threads c.args.system.now in
    record {
      comes = onward-first k (g.met.M.Moves.tame c.args.system.now) (g.met.M.Accesses.plain c.args.system.now) c.args.from.now
          (record { flat = c.in-Some.flat; owned = c.put_over.new.touches }) c.args.n c.args.access c.args.before.now c.in_ok-owned.owned.items
          c.requires.owned c.requires.before c.requires.wants
          (if-some-at (IsAfterEvent k c.args.from.now.flat c.args.n) c.in_ok-flat.field-0 c.in-Some.flat c.in-Some.is c.in_ok-flat.ensures.next)
          (subst (λ l. AreOfOthers l c.args.n c.in_ok-owned.owned.items) c.as_slice.ensures.value c.in_ok-owned.ensures)
          (if-none-at (ArePutOver c.args.before.now c.args.n c.args.access c.in_ok-owned.owned.items c.put_over.new.touches.items) c.in_ok-race.field-0
          c.in_default-2.is c.in_ok-race.ensures.none);
    }

pub run_free-requires : goal.run_free-requires
run_free-requires g c = let comes = c.loop-m.invariant.comes in comes.owned

pub loop-m-preserved : goal.loop-m-preserved
loop-m-preserved g c =
    let k = g.M.Moves.threads c.args.system.now in
    let stuck = g.M.Moves.stuck c.args.system.now in
    record {
      comes = subst (IsCame k stuck c.args.from.now.flat (ComesOnward k c.args.n c.args.from.now)) c.in-To.is
          (c.in_ok-next.ensures c.args.from.now c.requires.before c.loop-m.invariant.comes);
    }

pub returns-in-Races : goal.returns-in-Races
returns-in-Races g c =
    let k = g.M.Moves.threads c.args.system.now in
    let stuck = g.M.Moves.stuck c.args.system.now in
    subst (IsCame k stuck c.args.from.now.flat (ComesOnward k c.args.n c.args.from.now)) c.in-Races.is
    (c.in_ok-next.ensures c.args.from.now c.requires.before c.loop-m.invariant.comes)

pub returns-in-Unknown : goal.returns-in-Unknown
returns-in-Unknown g c =
    let k = g.M.Moves.threads c.args.system.now in
    let stuck = g.M.Moves.stuck c.args.system.now in
    subst (IsCame k stuck c.args.from.now.flat (ComesOnward k c.args.n c.args.from.now)) c.in-Unknown.is
    (c.in_ok-next.ensures c.args.from.now c.requires.before c.loop-m.invariant.comes)

pub returns : goal.returns
returns g c = c.loop-m.invariant.comes
