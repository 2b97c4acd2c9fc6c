use Rattle.std.proofs.Common.{◌∷◌, ap, sym, refl, ◌∙◌}
use Rattle.std.specs.Prelude.{Some}
use Rattle.search_settled.proofs.Threads.{if-some-at}
use Rattle.search_settled.proofs.Knowing.{known-fewer}
use Rattle.search_settled.proofs.Meeting.{row-met, met-row, met-empty, stuck-at, none-put, next-put}
use Rattle.search_settled.proofs.states.TurnsMeets.next.Goals as goal

pub row-requires : goal.row-requires
row-requires g c = let met = c.requires.at in met.2.table

pub next_rows-requires-clause-known : goal.next_rows-requires-clause-known
next_rows-requires-clause-known g c = let met = c.requires.at in met.2.known

pub next_rows-requires-clause-of : goal.next_rows-requires-clause-of
next_rows-requires-clause-of g c =
    let m = c.args.self.now.system.now in
    row-met (g.M.Moves.threads m) (g.M.Moves.ends m) (g.M.Moves.stuck m) (g.met.M.Moves.tame m) c.args.tables.now c.args.at c.requires.at
    (c.in-Some-split_first.shared.now ∷ c.in-Some-split_first.threads.now)
    (sym c.in-Some.ensures ∙ ap (λ l. Some l) c.in-Some-split_first.ensures.cases.0)

pub returns-in_default-clause-gives_up : goal.returns-in_default-clause-gives_up
returns-in_default-clause-gives_up g c _ ks s held there is =
    let m = c.args.self.now.system.now in
    absurd (met-row (g.M.Moves.threads m) (g.M.Moves.ends m) (g.M.Moves.stuck m) c.args.tables.now c.args.at c.requires.at (sym c.in_default.ensures))

pub returns-in_default-split_first-clause-gives_up : goal.returns-in_default-split_first-clause-gives_up
returns-in_default-split_first-clause-gives_up g c _ ks s held there is =
    let m = c.args.self.now.system.now in
    absurd (met-empty (g.M.Moves.threads m) (g.M.Moves.ends m) (g.M.Moves.stuck m) (g.met.M.Moves.tame m) c.args.tables.now c.args.at c.requires.at
    c.in-Some.row.now (sym c.in-Some.ensures) c.in_default-split_first.ensures.cases)

pub returns-in_default-2-clause-none : goal.returns-in_default-2-clause-none
returns-in_default-2-clause-none g c _ =
    let m = c.args.self.now.system.now in
    let old = c.args.tables.now in
    none-put (g.M.Moves.threads m) (g.M.Moves.ends m) (g.M.Moves.stuck m) (g.met.M.Moves.tame m) old c.args.at
    (c.in-Some-split_first.shared.now ∷ c.in-Some-split_first.threads.now)
    (sym c.in-Some.ensures ∙ ap (λ l. Some l) c.in-Some-split_first.ensures.cases.0)
    (record { met = c.next_rows.new.met; states = old.states }) c.in_ok-next.ensures.grows c.in_ok-next.ensures.known refl

pub returns-in_default-2-clause-gives_up : goal.returns-in_default-2-clause-gives_up
returns-in_default-2-clause-gives_up g c _ =
    let m = c.args.self.now.system.now in
    stuck-at (g.M.Moves.threads m) (g.M.Moves.ends m) (g.M.Moves.stuck m) (g.met.M.Moves.tame m) c.args.tables.now c.args.at
    (c.in-Some-split_first.shared.now ∷ c.in-Some-split_first.threads.now)
    (sym c.in-Some.ensures ∙ ap (λ l. Some l) c.in-Some-split_first.ensures.cases.0)
    (c.in_ok-next.ensures.gives_up c.in_default-2.is)

pub put_rows-requires : goal.put_rows-requires
put_rows-requires g c = let met = c.requires.at in met.2.table

pub returns-clause-next : goal.returns-clause-next
returns-clause-next g c _ =
    let m = c.args.self.now.system.now in
    let k = g.M.Moves.threads m in
    let middle = c.next_rows.new.met in
    let put = c.in_ok-put_rows.ensures in
    next-put k (g.M.Moves.ends m) (g.M.Moves.stuck m) (g.met.M.Moves.tame m) c.args.tables.now c.args.at
    (c.in-Some-split_first.shared.now ∷ c.in-Some-split_first.threads.now)
    (sym c.in-Some.ensures ∙ ap (λ l. Some l) c.in-Some-split_first.ensures.cases.0) (g.met.M.Moves.bounded m)
    g.M.Shared.PartialEq.eq g.M.Thread.PartialEq.eq
    (record { met = record { parts = middle.parts; known = c.make_room.new.known }; states = c.put_rows.new.states })
    c.in_ok-next.ensures.grows
    (known-fewer k middle (record { parts = middle.parts; known = c.make_room.new.known }) c.in_ok-next.ensures.known refl c.in_ok-make_room.ensures)
    put.are c.in-Some-2.next.items (if-some-at _ _ _ c.in-Some-2.is c.in_ok-next.ensures.next)
    c.args.moves.now.items c.put_rows.new.moves.items put.puts
