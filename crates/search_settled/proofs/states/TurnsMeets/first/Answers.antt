use Rattle.std.proofs.Common.{refl, ap, ◌∙◌}
use Rattle.search_table.specs.Tables.{states_of, with_row}
use Rattle.search_settled.proofs.Laws.{stuck-first}
use Rattle.search_settled.proofs.Threads.{if-some-at}
use Rattle.search_settled.proofs.Meeting.{first-put}
use Rattle.search_settled.proofs.states.TurnsMeets.first.Goals as goal

pub returns-in_default-clause-gives_up : goal.returns-in_default-clause-gives_up
returns-in_default-clause-gives_up g c _ =
    let m = c.args.self.now.system.now in
    stuck-first (g.M.Moves.threads m) (g.M.Moves.ends m) (g.M.Moves.stuck m) (c.in_ok-flat.ensures.gives_up c.in_default.is)

pub put-requires : goal.put-requires
put-requires g c = c.requires.table

pub returns-clause-first : goal.returns-clause-first
returns-clause-first g c _ =
    let m = c.args.self.now.system.now in
    let old = c.args.tables.now in
    let row = c.in_ok-row.ensures in
    let put = c.in_ok-put.ensures in
    first-put (g.M.Moves.threads m) (g.M.Moves.ends m) (g.M.Moves.stuck m) g.M.Shared.PartialEq.eq g.M.Thread.PartialEq.eq
    (g.met.M.Moves.same_shared m) (g.met.M.Moves.same_thread m) old
    (record { met = record { parts = c.row_of.new.parts; known = old.met.known }; states = c.put.new.self })
    c.requires row.grows refl put.are c.in_ok-row.row.items (put.states ∙ ap (with_row (states_of old.states)) c.as_slice.ensures.value) c.in-Some.flat
    (if-some-at _ _ _ c.in-Some.is c.in_ok-flat.ensures.first) row.row
