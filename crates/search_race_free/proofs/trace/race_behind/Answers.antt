use Rattle.std.proofs.Common.{sym, ◌∙◌, ap}
use Rattle.search_race_free.specs.Touches.{access_at}
use Rattle.search_race_free.proofs.Following.{wants-at}
use Rattle.search_race_free.proofs.trace.race_behind.Goals as goal

pub advance-requires-clause-wants : goal.advance-requires-clause-wants
advance-requires-clause-wants g c =
    wants-at (g.M.Moves.threads c.args.system.now) c.args.from.now c.in_ok-before.before.items c.args.n c.in-Some.access
    c.in_ok-before.ensures
    (ap (λ l. access_at l c.args.n) (sym c.as_slice.ensures.value) ∙ (sym c.next_of.ensures ∙ c.in-Some.is))
