use Rattle.std.proofs.Common.{◌≡◌, ◌∷◌, ap, sym, ◌∙◌}
use Rattle.std.specs.Prelude.{Some}
use Rattle.std.proofs.lemmas.Result.{IfOk-weaker}
use Rattle.search_race_free.specs.Met.{held}
use Rattle.search_race_free.proofs.Beginning.{ended-somewhere}
use Rattle.search_race_free.proofs.Held.{some-number}
use Rattle.search_race_free.proofs.Keeping.{row-met, met-row, ended-at}
use Rattle.search_race_free.proofs.Pieces.{owning-at}
use Rattle.search_race_free.proofs.states.RaceFreeTurnsMeets.ending.Goals as goal

pub returns-in_default : goal.returns-in_default
returns-in_default g c ks s has there is =
    let m = c.args.self.now.system.now in
    let t = c.args.tables.now in
    absurd (met-row (g.M.Moves.threads m) (g.M.Moves.ends m) (g.M.Moves.stuck m) t.met c.args.at
    (owning-at (g.M.Moves.threads m) (g.M.Moves.ends m) (g.M.Moves.stuck m) t c.args.at c.requires) (sym c.in_default.ensures))

pub row-requires : goal.row-requires
row-requires g c = let met = c.requires in (met.2.owning).table

pub returns-in_default-split_first : goal.returns-in_default-split_first
returns-in_default-split_first g c ks s has there is =
    let m = c.args.self.now.system.now in
    let t = c.args.tables.now in
    let some = row-met (g.M.Moves.threads m) (g.M.Moves.ends m) (g.M.Moves.stuck m) t.met c.args.at
    (owning-at (g.M.Moves.threads m) (g.M.Moves.ends m) (g.M.Moves.stuck m) t c.args.at c.requires) c.in-Some.row.now
    (sym c.in-Some.ensures) in
    absurd (some-number t.met.parts c.in-Some.row.now (held some.0) some.1 c.in_default-split_first.ensures.cases)

pub returns-in_default-get_index : goal.returns-in_default-get_index
returns-in_default-get_index g c ks s has there is =
    let m = c.args.self.now.system.now in
    let t = c.args.tables.now in
    let some = row-met (g.M.Moves.threads m) (g.M.Moves.ends m) (g.M.Moves.stuck m) t.met c.args.at
    (owning-at (g.M.Moves.threads m) (g.M.Moves.ends m) (g.M.Moves.stuck m) t c.args.at c.requires)
    (c.in-Some-split_first.number.now ∷ c.in-Some-split_first.numbers.now)
    (sym c.in-Some.ensures ∙ ap (λ l. Some l) c.in-Some-split_first.ensures.cases.0) in
    let of = some.1 in
    absurd (cc (of.0, c.in_default-get_index.ensures.key))

pub ending-requires : goal.ending-requires
ending-requires g c =
    let m = c.args.self.now.system.now in
    let t = c.args.tables.now in
    let some = row-met (g.M.Moves.threads m) (g.M.Moves.ends m) (g.M.Moves.stuck m) t.met c.args.at
    (owning-at (g.M.Moves.threads m) (g.M.Moves.ends m) (g.M.Moves.stuck m) t c.args.at c.requires)
    (c.in-Some-split_first.number.now ∷ c.in-Some-split_first.numbers.now)
    (sym c.in-Some.ensures ∙ ap (λ l. Some l) c.in-Some-split_first.ensures.cases.0) in
    let s = some.0 in
    let of = some.1 in
    let shared : (held s).shared ≡ c.in-Some-get_index.held.now = cc (of.0, c.in-Some-get_index.ensures.key) in (
      s.flat,
      (ap (λ h. h.shared) shared, sym (c.as_slice.ensures.value ∙ c.in_ok-threads.ensures s.flat.threads.items of.1)),
      ended-somewhere (g.M.Moves.threads m) (g.met.M.Moves.tame m) (g.met.M.Accesses.plain m) (g.M.Moves.ends m) (g.M.Moves.stuck m)
          (g.met.M.Accesses.beyond m) s some.2,
    )

pub returns : goal.returns
returns g c =
    let m = c.args.self.now.system.now in
    let t = c.args.tables.now in
    IfOk-weaker c.ending.result _ _
    (λ o ended ks s has. ended-at (g.M.Moves.threads m) (g.M.Moves.ends m) (g.M.Moves.stuck m) (g.met.M.Moves.tame m) (g.met.M.Accesses.plain m)
    (g.met.M.Accesses.beyond m)
    (g.met.M.Accesses.finished m) t.met c.args.at c.in-Some-split_first.number.now c.in-Some-split_first.numbers.now
    (sym c.in-Some.ensures ∙ ap (λ l. Some l) c.in-Some-split_first.ensures.cases.0)
    c.in-Some-get_index.held.now (sym c.in-Some-get_index.ensures.key) c.as_slice.result.now
    (λ xs are. c.as_slice.ensures.value ∙ c.in_ok-threads.ensures xs are) o ended ks s has.owning) c.ending.ensures
