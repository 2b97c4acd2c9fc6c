use Rattle.search_race_free.specs.declared.met.StateTable.{StateTable}
use Rattle.search_settled.proofs.Knowing.{known-none}
use Rattle.search_race_free.specs.Known.{Stills, GoesOnAlone}
use Rattle.search_race_free.proofs.Held.{owning-none}
use Rattle.search_race_free.proofs.states.RaceFreeTurnsMeets.table.Goals as goal

pub returns : goal.returns
returns g c =
    let m = c.args.self.now.system.now in
    let t : StateTable g.row.M-Shared.Denot g.row.M-Thread.Denot = record { parts = c.new.result; states = c.new-2.result } in
    record {
      owning = owning-none t c.new-2.ensures.are c.new-2.ensures.states;
      known = known-none Stills (GoesOnAlone (g.M.Moves.threads m)) c.new.result c.new-3.result.items c.new-3.ensures.items;
    }
