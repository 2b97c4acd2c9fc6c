use Rattle.std.proofs.Common.{Ok, Err, sym, subst}
use Rattle.std.specs.Prelude.{OnOk, Result}
use Rattle.std.specs.Global.{Vec}
use Rattle.search_table.specs.Tables.{AreStates, Grows}
use Rattle.search_settled.specs.declared.met.NextRow.{NextRow}
use Rattle.search_settled.proofs.Rows.{grows-then}
use Rattle.search_settled.proofs.Threads.{if-ok-some}
use Rattle.search_race_free.specs.Known.{OfHeldRow, AreRowsOf, HasRowsAt}
use Rattle.search_race_free.proofs.Pieces.{owning-at, owning-sound, met-grown, rows-grown}
use Rattle.search_race_free.proofs.Rowing.{known-row-met, rows-of-place}
use Rattle.search_race_free.proofs.states.RaceFreeTurns.rows_by_known.Goals as goal

on-ok : {A E : Type 0} (r : Result A E) (P Q : Type 0) → (P → Q) → OnOk r P → OnOk r Q
on-ok (Ok x) P Q then h = then h
on-ok (Err e) P Q then h = tt

pub find_ahead-requires-clause-sound : goal.find_ahead-requires-clause-sound
find_ahead-requires-clause-sound g c =
    let m = c.args.self.now.system.now in
    owning-sound (g.M.Moves.threads m) (g.M.Moves.ends m) (g.M.Moves.stuck m) c.args.tables.now c.requires.sound

pub find_ahead-requires-clause-known : goal.find_ahead-requires-clause-known
find_ahead-requires-clause-known g c = let met = c.requires.at in met.2.known

pub row-requires : goal.row-requires
row-requires g c =
    let met = c.requires.at in
    subst AreStates (sym c.in_ok-find_ahead.ensures.states) (met.2.owning).table

pub known_rows-requires-clause-row : goal.known_rows-requires-clause-row
known_rows-requires-clause-row g c =
    let m = c.args.self.now.system.now in
    let k = g.M.Moves.threads m in
    let found = c.in_ok-find_ahead.ensures in
    let u = c.find_ahead.new.tables in
    known-row-met k (g.M.Moves.ends m) (g.M.Moves.stuck m) (g.met.M.Moves.tame m) (g.met.M.Accesses.plain m) (g.met.M.Accesses.beyond m)
    u.met c.args.at
    (owning-at k (g.M.Moves.ends m) (g.M.Moves.stuck m) u c.args.at
    (met-grown k (g.M.Moves.ends m) (g.M.Moves.stuck m) c.args.tables.now u found.grows found.states found.known c.args.at c.requires.at))
    c.in-Some.row.now (sym c.in-Some.ensures)

pub returns-clause-grows : goal.returns-clause-grows
returns-clause-grows g c =
    let found = c.in_ok-find_ahead.ensures in
    let t = c.args.tables.now.met.parts in
    let u = c.find_ahead.new.tables.met.parts in
    let v = c.known_rows.new.parts in
    on-ok c.known_rows.result (Grows u v) (Grows t v) (λ more. grows-then t u v found.grows more) c.known_rows.ensures.grows

pub returns-clause-rows : goal.returns-clause-rows
returns-clause-rows g c =
    let m = c.args.self.now.system.now in
    let k = g.M.Moves.threads m in
    let eq_shared = g.M.Shared.PartialEq.eq in
    let eq_thread = g.M.Thread.PartialEq.eq in
    let found = c.in_ok-find_ahead.ensures in
    let t = c.args.tables.now.met in
    let u = c.find_ahead.new.tables.met in
    let v = c.known_rows.new.parts in
    if-ok-some c.known_rows.result
    (λ (rs : Vec NextRow). OfHeldRow u.parts c.in-Some.row.now (AreRowsOf k eq_shared eq_thread v rs.items))
    (λ (rs : Vec NextRow). HasRowsAt k eq_shared eq_thread t v c.args.at rs.items)
    (λ rs so. rows-grown k eq_shared eq_thread t u v found.grows found.states c.args.at rs.items
    (rows-of-place k (g.M.Moves.ends m) (g.M.Moves.stuck m) (g.met.M.Moves.tame m) (g.met.M.Accesses.plain m) (g.met.M.Accesses.beyond m)
    eq_shared eq_thread u v c.args.at c.in-Some.row.now (sym c.in-Some.ensures) rs.items so))
    c.known_rows.ensures.rows
