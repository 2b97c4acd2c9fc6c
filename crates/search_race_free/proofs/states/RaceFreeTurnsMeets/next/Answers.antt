use Rattle.std.proofs.Common.{refl, sym, subst}
use Rattle.std.specs.Prelude.{Some}
use Rattle.search_table.specs.Tables.{AreStates}
use Rattle.search_reach.specs.Meeting.{GoesOn}
use Rattle.search_settled.specs.Known.{PutsRows}
use Rattle.search_settled.proofs.Knowing.{known-stays, known-left}
use Rattle.search_settled.proofs.Threads.{if-some-at}
use Rattle.search_race_free.specs.declared.ahead.KnownTables.{KnownTables}
use Rattle.search_race_free.specs.Known.{Stills, GoesOnAlone}
use Rattle.search_race_free.specs.Reduced.{HasReduced, reduced_steps}
use Rattle.search_race_free.specs.declared.met.StateTable.{StateTable}
use Rattle.search_race_free.specs.Same.{owning_eq, owning_alike}
use Rattle.search_race_free.specs.Search.{IsCame}
use Rattle.search_race_free.specs.Met.{held_eq}
use Rattle.search_race_free.specs.Ahead.{HasKnown}
use Rattle.search_race_free.proofs.Beginning.{race-stuck, lost-stuck}
use Rattle.search_race_free.proofs.Keeping.{copy-at, stuck-copy, next-put, next-known}
use Rattle.search_race_free.proofs.Reducing.{next-are}
use Rattle.search_race_free.proofs.Pieces.{owning-at, goes-known, met-grown, of-grown, parts-grown}
use Rattle.search_race_free.proofs.states.RaceFreeTurnsMeets.next.Goals as goal

pub came-requires : goal.came-requires
came-requires g c =
    let m = c.args.self.now.system.now in
    let k = g.M.Moves.threads m in
    let by = c.in_ok-rows.ensures in
    let u = c.rows_by_known.new.tables in
    owning-at k (g.M.Moves.ends m) (g.M.Moves.stuck m) u c.args.at
    (met-grown k (g.M.Moves.ends m) (g.M.Moves.stuck m) c.args.tables.now u by.grows by.states by.known c.args.at c.requires.at)

pub put_rows-requires : goal.put_rows-requires
put_rows-requires g c =
    let met = c.requires.at in
    subst AreStates (sym c.in_ok-rows.ensures.states) (met.2.owning).table

pub returns-in-Some-clause-next : goal.returns-in-Some-clause-next
returns-in-Some-clause-next g c _ =
    let m = c.args.self.now.system.now in
    let k = g.M.Moves.threads m in
    let stuck = g.M.Moves.stuck m in
    let eq_shared = g.M.Shared.PartialEq.eq in
    let eq_thread = g.M.Thread.PartialEq.eq in
    let t = c.args.tables.now in
    let by = c.in_ok-rows.ensures in
    let u = c.rows_by_known.new.tables in
    let put = c.in_ok-put_rows.ensures in
    let states = c.put_rows.new.states in
    let met : StateTable g.row.M-Shared.Denot g.row.M-Thread.Denot = record { parts = u.met.parts; states = states } in
    let new : KnownTables g.row.M-Shared.Denot g.row.M-Thread.Denot = record { met = met; known = c.make_room.new.known; ahead = u.ahead } in
    goes-known k (g.M.Moves.ends m) stuck eq_shared eq_thread t new c.args.at c.args.moves.now.items c.put_rows.new.moves.items
    (known-left Stills (GoesOnAlone k) u.met.parts u.known.items c.make_room.new.known.items by.known c.in_ok-make_room.ensures)
    (next-known k (g.M.Moves.ends m) stuck eq_shared eq_thread
    (owning_alike eq_shared eq_thread g.met.M.Shared.Eq.laws g.met.M.Thread.Eq.laws k (g.met.M.Moves.same_shared m) (g.met.M.Moves.same_thread m))
    (g.met.M.Moves.tame m) (g.met.M.Accesses.plain m) (g.met.M.Accesses.beyond m) t.met met c.args.at c.in-Some.rows.items
    (if-some-at _ _ _ c.in-Some.is by.rows) by.grows put.are c.args.moves.now.items c.put_rows.new.moves.items
    (subst (λ v. PutsRows (held_eq eq_shared) eq_thread u.met.parts v states c.args.at c.in-Some.rows.items c.args.moves.now.items
    c.put_rows.new.moves.items)
    by.states put.puts))

pub put_rows-requires-in-To : goal.put_rows-requires-in-To
put_rows-requires-in-To g c =
    let met = c.requires.at in
    subst AreStates (sym c.in_ok-rows.ensures.states) (met.2.owning).table

pub returns-in_ok-put_rows-in-To-clause-next : goal.returns-in_ok-put_rows-in-To-clause-next
returns-in_ok-put_rows-in-To-clause-next g c _ =
    let m = c.args.self.now.system.now in
    let k = g.M.Moves.threads m in
    let ends = g.M.Moves.ends m in
    let stuck = g.M.Moves.stuck m in
    let eq_shared = g.M.Shared.PartialEq.eq in
    let eq_thread = g.M.Thread.PartialEq.eq in
    let t = c.args.tables.now in
    let by = c.in_ok-rows.ensures in
    let u = c.rows_by_known.new.tables in
    let came = c.in_ok-next.ensures in
    let rows = c.in_ok-rows-in-To.ensures in
    let put = c.in_ok-put_rows-in-To.ensures in
    let parts = c.held_rows.new.parts in
    let states = c.put_rows-in-To.new.states in
    let met : StateTable g.row.M-Shared.Denot g.row.M-Thread.Denot = record { parts = parts; states = states } in
    let new : KnownTables g.row.M-Shared.Denot g.row.M-Thread.Denot = record { met = met; known = u.known; ahead = u.ahead } in
    of-grown k ends stuck t u by.grows by.states by.known c.args.at
    (λ ks s. GoesOn (reduced_steps k ends stuck) (HasKnown k new) (owning_eq eq_shared eq_thread) ks c.args.at s
    c.args.moves.now.items c.put_rows-in-To.new.moves.items)
    (goes-known k ends stuck eq_shared eq_thread u new c.args.at
    c.args.moves.now.items c.put_rows-in-To.new.moves.items
    (known-stays Stills (GoesOnAlone k) u.met.parts parts rows.grows u.known.items by.known)
    (next-put k ends stuck eq_shared eq_thread
    (owning_alike eq_shared eq_thread g.met.M.Shared.Eq.laws g.met.M.Thread.Eq.laws k (g.met.M.Moves.same_shared m) (g.met.M.Moves.same_thread m))
    u.met met c.args.at (Some came.copy) came.of came.copy refl c.in-To.next.items
    (next-are k ends stuck (g.met.M.Moves.tame m) (g.met.M.Accesses.plain m) (g.met.M.Accesses.beyond m) came.copy c.in-To.next.items
    (subst (IsCame k stuck came.copy.flat (λ v. HasReduced k came.copy v.items)) c.in-To.is came.is))
    rows.grows put.are c.in_ok-rows-in-To.rows.items rows.rows c.args.moves.now.items c.put_rows-in-To.new.moves.items put.puts))

pub returns-in-Races-clause-none : goal.returns-in-Races-clause-none
returns-in-Races-clause-none g c _ ks s has there met =
    let k = g.M.Moves.threads c.args.self.now.system.now in
    let by = c.in_ok-rows.ensures in
    parts-grown k c.args.tables.now c.rows_by_known.new.tables by.grows by.states by.known ks has

pub returns-in-Races-clause-gives_up : goal.returns-in-Races-clause-gives_up
returns-in-Races-clause-gives_up g c _ ks s has there met =
    let m = c.args.self.now.system.now in
    let k = g.M.Moves.threads m in
    let came = c.in_ok-next.ensures in
    let by = c.in_ok-rows.ensures in
    let u = c.rows_by_known.new.tables in
    let then = parts-grown k c.args.tables.now u by.grows by.states by.known ks has in
    stuck-copy k (g.M.Moves.ends m) (g.M.Moves.stuck m) s came.copy
    (copy-at k (g.M.Moves.ends m) (g.M.Moves.stuck m) u.met c.args.at (Some came.copy) came.of came.copy refl ks s then.owning there)
    (race-stuck k (g.met.M.Moves.tame m) (g.met.M.Accesses.plain m) (g.M.Moves.ends m) (g.M.Moves.stuck m) came.copy c.in-Races.field-0
    (subst (IsCame k (g.M.Moves.stuck m) came.copy.flat (λ v. HasReduced k came.copy v.items)) c.in-Races.is came.is))

pub returns-in-Unknown-clause-none : goal.returns-in-Unknown-clause-none
returns-in-Unknown-clause-none g c _ ks s has there met =
    let k = g.M.Moves.threads c.args.self.now.system.now in
    let by = c.in_ok-rows.ensures in
    parts-grown k c.args.tables.now c.rows_by_known.new.tables by.grows by.states by.known ks has

pub returns-in-Unknown-clause-gives_up : goal.returns-in-Unknown-clause-gives_up
returns-in-Unknown-clause-gives_up g c _ ks s has there met =
    let m = c.args.self.now.system.now in
    let k = g.M.Moves.threads m in
    let came = c.in_ok-next.ensures in
    let by = c.in_ok-rows.ensures in
    let u = c.rows_by_known.new.tables in
    let then = parts-grown k c.args.tables.now u by.grows by.states by.known ks has in
    stuck-copy k (g.M.Moves.ends m) (g.M.Moves.stuck m) s came.copy
    (copy-at k (g.M.Moves.ends m) (g.M.Moves.stuck m) u.met c.args.at (Some came.copy) came.of came.copy refl ks s then.owning there)
    (lost-stuck k (g.met.M.Moves.tame m) (g.met.M.Accesses.plain m) (g.M.Moves.ends m) (g.M.Moves.stuck m) (g.met.M.Accesses.beyond m) came.copy
    (subst (IsCame k (g.M.Moves.stuck m) came.copy.flat (λ v. HasReduced k came.copy v.items)) c.in-Unknown.is came.is))
