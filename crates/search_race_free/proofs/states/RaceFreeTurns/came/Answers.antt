use Rattle.std.proofs.Common.{subst}
use Rattle.std.proofs.lemmas.Result.{IfOk-weaker}
use Rattle.search_race_free.proofs.Keeping.{copy-at, copy-none, known-copy}
use Rattle.search_race_free.specs.Reduced.{HasReduced}
use Rattle.search_race_free.specs.Search.{IsCame}
use Rattle.search_race_free.specs.Met.{IsStateAt}
use Rattle.search_race_free.specs.Ahead.{ComesOfPlace}
use Rattle.search_race_free.proofs.states.RaceFreeTurns.came.Goals as goal

pub state_at-requires : goal.state_at-requires
state_at-requires g c = let met = c.requires in met.2.table

pub returns-in_default : goal.returns-in_default
returns-in_default g c =
    let m = c.args.self.now.system.now in
    let met = c.requires in
    absurd (copy-none (g.M.Moves.threads m) (g.M.Moves.ends m) (g.M.Moves.stuck m) c.args.table.now c.args.at c.in_ok-state.field-0
    c.in_ok-state.ensures
    c.in_default.is met.0 met.1 met.2 met.3)

pub next_states-requires : goal.next_states-requires
next_states-requires g c =
    let m = c.args.self.now.system.now in
    let k = g.M.Moves.threads m in
    let met = c.requires in
    let copy = c.in-Some.state in
    known-copy k (g.M.Moves.ends m) (g.M.Moves.stuck m) (g.met.M.Moves.tame m) (g.met.M.Accesses.plain m) (g.met.M.Accesses.beyond m) met.1 copy
    (copy-at k (g.M.Moves.ends m) (g.M.Moves.stuck m) c.args.table.now c.args.at c.in_ok-state.field-0 c.in_ok-state.ensures copy c.in-Some.is
    met.0 met.1 met.2 met.3) met.4

pub returns : goal.returns
returns g c =
    let m = c.args.self.now.system.now in
    let k = g.M.Moves.threads m in
    let stuck = g.M.Moves.stuck m in
    let t = c.args.table.now in
    let copy = c.in-Some.state in
    IfOk-weaker c.next_states.result (IsCame k stuck copy.flat (λ v. HasReduced k copy v.items)) (ComesOfPlace k stuck t c.args.at) (λ came is. record {
      copy = copy;
      of = subst (IsStateAt k t c.args.at) c.in-Some.is c.in_ok-state.ensures;
      is = is;
    }) c.next_states.ensures
