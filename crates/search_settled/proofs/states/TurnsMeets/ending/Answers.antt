use Rattle.std.proofs.Common.{◌∷◌, ap, refl, sym, ◌∙◌}
use Rattle.std.specs.Prelude.{Some}
use Rattle.std.proofs.lemmas.Result.{IfOk-weaker}
use Rattle.search_settled.proofs.Meeting.{row-met, met-row, met-empty, ended-at}
use Rattle.search_settled.proofs.states.TurnsMeets.ending.Goals as goal

pub row-requires : goal.row-requires
row-requires g c = let met = c.requires in met.2.table

pub returns-in_default : goal.returns-in_default
returns-in_default g c ks s held there is =
    let m = c.args.self.now.system.now in
    absurd (met-row (g.M.Moves.threads m) (g.M.Moves.ends m) (g.M.Moves.stuck m) c.args.tables.now c.args.at c.requires (sym c.in_default.ensures))

pub returns-in_default-split_first : goal.returns-in_default-split_first
returns-in_default-split_first g c ks s held there is =
    let m = c.args.self.now.system.now in
    absurd (met-empty (g.M.Moves.threads m) (g.M.Moves.ends m) (g.M.Moves.stuck m) (g.met.M.Moves.tame m) c.args.tables.now c.args.at c.requires
    c.in-Some.row.now (sym c.in-Some.ensures) c.in_default-split_first.ensures.cases)

pub returns-in_default-get_index : goal.returns-in_default-get_index
returns-in_default-get_index g c ks s held there is =
    let m = c.args.self.now.system.now in
    let some = row-met (g.M.Moves.threads m) (g.M.Moves.ends m) (g.M.Moves.stuck m) (g.met.M.Moves.tame m) c.args.tables.now c.args.at c.requires
    (c.in-Some-split_first.number.now ∷ c.in-Some-split_first.threads.now)
    (sym c.in-Some.ensures ∙ ap (λ l. Some l) c.in-Some-split_first.ensures.cases.0) in
    let of = some.1 in
    absurd (cc (of.0, c.in_default-get_index.ensures.key))

pub ending-requires : goal.ending-requires
ending-requires g c =
    let m = c.args.self.now.system.now in
    let some = row-met (g.M.Moves.threads m) (g.M.Moves.ends m) (g.M.Moves.stuck m) (g.met.M.Moves.tame m) c.args.tables.now c.args.at c.requires
    (c.in-Some-split_first.number.now ∷ c.in-Some-split_first.threads.now)
    (sym c.in-Some.ensures ∙ ap (λ l. Some l) c.in-Some-split_first.ensures.cases.0) in
    let of = some.1 in (
      some.0,
      (cc (of.0, c.in-Some-get_index.ensures.key), sym (c.as_slice.ensures.value ∙ c.in_ok-threads.ensures some.0.threads.items of.1)),
      some.2,
    )

pub returns : goal.returns
returns g c =
    let m = c.args.self.now.system.now in
    IfOk-weaker _ _ _
    (ended-at (g.M.Moves.threads m) (g.M.Moves.ends m) (g.M.Moves.stuck m) (g.met.M.Moves.tame m) c.args.tables.now c.args.at
    (c.in-Some-split_first.number.now ∷ c.in-Some-split_first.threads.now)
    (sym c.in-Some.ensures ∙ ap (λ l. Some l) c.in-Some-split_first.ensures.cases.0) (g.met.M.Moves.over m) c.in-Some-split_first.number.now
    c.in-Some-split_first.threads.now refl c.in-Some-get_index.shared.now c.as_slice.result.now (sym c.in-Some-get_index.ensures.key)
    (λ xs are. c.as_slice.ensures.value ∙ c.in_ok-threads.ensures xs are)) c.ending.ensures
