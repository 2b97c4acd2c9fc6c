use Rattle.std.proofs.Common.{subst, ap, ◌∙◌}
use Rattle.search_table.specs.Tables.{states_of, with_row}
use Rattle.search_race_free.specs.declared.met.StateTable.{StateTable}
use Rattle.search_race_free.specs.Same.{owning_alike}
use Rattle.search_race_free.specs.Search.{IsCameFirst}
use Rattle.search_settled.proofs.Knowing.{known-stays}
use Rattle.search_race_free.specs.Known.{Stills, GoesOnAlone}
use Rattle.search_race_free.proofs.Beginning.{begun-first, race-first, stuck-first}
use Rattle.search_race_free.proofs.Keeping.{first-put}
use Rattle.search_race_free.proofs.Pieces.{first-known}
use Rattle.search_race_free.proofs.states.RaceFreeTurnsMeets.first.Goals as goal

pub put-requires : goal.put-requires
put-requires g c = (c.requires.owning).table

pub returns-in_ok-put-in-To-clause-first : goal.returns-in_ok-put-in-To-clause-first
returns-in_ok-put-in-To-clause-first g c _ =
    let m = c.args.self.now.system.now in
    let k = g.M.Moves.threads m in
    let row = c.in_ok-row-in-To.ensures in
    let put = c.in_ok-put-in-To.ensures in
    let t = c.args.tables.now in
    let met : StateTable g.row.M-Shared.Denot g.row.M-Thread.Denot = record { parts = c.held_row.new.parts; states = c.put.new.self } in
    first-known k (g.M.Moves.ends m) (g.M.Moves.stuck m) (record { met = met; known = t.known; ahead = t.ahead })
    (known-stays Stills (GoesOnAlone k) t.met.parts met.parts row.grows t.known.items c.requires.known)
    (first-put k (g.M.Moves.ends m) (g.M.Moves.stuck m) g.M.Shared.PartialEq.eq g.M.Thread.PartialEq.eq
    (owning_alike g.M.Shared.PartialEq.eq g.M.Thread.PartialEq.eq g.met.M.Shared.Eq.laws g.met.M.Thread.Eq.laws k (g.met.M.Moves.same_shared m)
    (g.met.M.Moves.same_thread m))
    t.met met c.requires.owning put.are c.in_ok-row-in-To.row.items
    (put.states ∙ ap (with_row (states_of t.met.states)) c.as_slice.ensures.value) c.in-To.state
    (begun-first k (g.met.M.Moves.tame m) (g.met.M.Accesses.plain m) (g.M.Moves.ends m) (g.M.Moves.stuck m) c.in-To.state
    (subst (IsCameFirst k (g.M.Moves.stuck m)) c.in-To.is c.in_ok-state.ensures)) row.row)

pub returns-in-Races-clause-gives_up : goal.returns-in-Races-clause-gives_up
returns-in-Races-clause-gives_up g c _ =
    let m = c.args.self.now.system.now in
    race-first (g.M.Moves.threads m) (g.met.M.Moves.tame m) (g.met.M.Accesses.plain m) (g.M.Moves.ends m) (g.M.Moves.stuck m) c.in-Races.field-0
    (subst (IsCameFirst (g.M.Moves.threads m) (g.M.Moves.stuck m)) c.in-Races.is c.in_ok-state.ensures)

pub returns-in-Unknown-clause-gives_up : goal.returns-in-Unknown-clause-gives_up
returns-in-Unknown-clause-gives_up g c _ =
    let m = c.args.self.now.system.now in
    stuck-first (g.M.Moves.threads m) (g.met.M.Moves.tame m) (g.met.M.Accesses.plain m) (g.M.Moves.ends m) (g.M.Moves.stuck m)
    (subst (IsCameFirst (g.M.Moves.threads m) (g.M.Moves.stuck m)) c.in-Unknown.is c.in_ok-state.ensures)
