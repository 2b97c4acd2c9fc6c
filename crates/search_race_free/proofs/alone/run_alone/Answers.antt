use Rattle.std.proofs.Common.{subst}
use Rattle.search_race_free.specs.Search.{IsAlone}
use Rattle.search_race_free.proofs.Going.{stays-alone, alone-after, lost-after}
use Rattle.search_race_free.proofs.alone.run_alone.Goals as goal

pub turn_alone-requires : goal.turn_alone-requires
turn_alone-requires g c = let comes = c.loop.invariant.comes in comes.owned

pub loop-init : goal.loop-init
loop-init g c = record {
  comes = stays-alone (g.M.Moves.threads c.args.system.now) (g.met.M.Moves.tame c.args.system.now) (g.met.M.Accesses.plain c.args.system.now)
      c.args.m c.args.from c.requires;
}

pub loop-preserved : goal.loop-preserved
loop-preserved g c =
    let k = g.M.Moves.threads c.args.system.now in
    record {
      comes = alone-after k (g.met.M.Moves.tame c.args.system.now) (g.met.M.Accesses.plain c.args.system.now) c.args.m c.args.from c.loop.at c.in-GoesOn.next
          c.loop.invariant.comes
          (subst (IsAlone k (g.M.Moves.stuck c.args.system.now) c.args.m c.loop.at) c.in-GoesOn.is c.in_ok-next.ensures);
    }

pub returns-in-Stops : goal.returns-in-Stops
returns-in-Stops g c =
    let k = g.M.Moves.threads c.args.system.now in
    alone-after k (g.met.M.Moves.tame c.args.system.now) (g.met.M.Accesses.plain c.args.system.now) c.args.m c.args.from c.loop.at c.in-Stops.last
    c.loop.invariant.comes
    (subst (IsAlone k (g.M.Moves.stuck c.args.system.now) c.args.m c.loop.at) c.in-Stops.is c.in_ok-next.ensures)

pub returns-in-Races : goal.returns-in-Races
returns-in-Races g c =
    let k = g.M.Moves.threads c.args.system.now in
    subst (IsAlone k (g.M.Moves.stuck c.args.system.now) c.args.m c.loop.at) c.in-Races.is c.in_ok-next.ensures

pub returns-in-Unknown : goal.returns-in-Unknown
returns-in-Unknown g c =
    let k = g.M.Moves.threads c.args.system.now in
    lost-after k (g.met.M.Moves.tame c.args.system.now) (g.met.M.Accesses.plain c.args.system.now) (g.M.Moves.stuck c.args.system.now) c.args.m
    c.args.from c.loop.at
    c.loop.invariant.comes
    (subst (IsAlone k (g.M.Moves.stuck c.args.system.now) c.args.m c.loop.at) c.in-Unknown.is c.in_ok-next.ensures)

pub returns : goal.returns
returns g c = c.loop.invariant.comes
