use Rattle.std.proofs.Common.{sym}
use Rattle.std.proofs.lemmas.Option.{slice_get_within}
use Rattle.search_table.specs.Tables.{states_of}
use Rattle.search_race_free.proofs.Rowing.{known-row-met}
use Rattle.search_race_free.proofs.Pieces.{none-wanted, met-place}
use Rattle.search_race_free.proofs.ahead.WaitingStates.turns_from.Goals as goal

pub row-requires : goal.row-requires
row-requires g c = let r = c.requires in (r.1).table

pub put_turns-requires-clause-row : goal.put_turns-requires-clause-row
put_turns-requires-clause-row g c =
    let m = c.args.self.now.system.now in
    let k = g.M.Moves.threads m in
    let t = c.args.self.now.tables.now.met in
    let at = c.loop-end.end in
    known-row-met k (g.M.Moves.ends m) (g.M.Moves.stuck m) (g.met.M.Moves.tame m) (g.met.M.Accesses.plain m) (g.met.M.Accesses.beyond m) t at
    (met-place k (g.M.Moves.ends m) (g.M.Moves.stuck m) t c.requires at
    (slice_get_within (states_of t.states) at c.in-Some.row.now (sym c.in-Some.ensures))) c.in-Some.row.now (sym c.in-Some.ensures)

pub loop-end-init : goal.loop-end-init
loop-end-init g c =
    none-wanted (g.M.Moves.threads c.args.self.now.system.now) c.args.self.now.tables.now.met.parts c.new-turns.result.items c.new-turns.ensures.items
