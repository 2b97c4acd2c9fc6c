use Rattle.std.proofs.Common.{◌+◌, sym, ◌∙◌, subst, refl, arith}
use Rattle.search_race_free.specs.Reduced.{ComesOf}
use Rattle.search_race_free.specs.Search.{IsCame, HasReducedBelow}
use Rattle.search_race_free.proofs.Beginning.{known-owned}
use Rattle.search_race_free.proofs.Following.{wants-at, below-same, below-more}
use Rattle.search_race_free.proofs.next.put_next.Goals as goal

pub returns-in_default : goal.returns-in_default
returns-in_default g c = λ so.
    below-same (g.M.Moves.threads c.args.system.now) c.args.from.now c.args.before.now c.args.n c.args.all.now.items c.requires.before
    (sym c.next_of.ensures ∙ c.in_default.is) so

pub advance-requires-clause-owned : goal.advance-requires-clause-owned
advance-requires-clause-owned g c =
    known-owned (g.M.Moves.threads c.args.system.now) (g.met.M.Moves.tame c.args.system.now) (g.met.M.Accesses.plain c.args.system.now) c.args.from.now
    c.requires.known

pub advance-requires-clause-wants : goal.advance-requires-clause-wants
advance-requires-clause-wants g c =
    wants-at (g.M.Moves.threads c.args.system.now) c.args.from.now c.args.before.now c.args.n c.in-Some.access c.requires.before
    (sym c.next_of.ensures ∙ c.in-Some.is)

pub overflow_cast-n : goal.overflow_cast-n
overflow_cast-n g c =
    let known = c.requires.known in
    let at = known.somewhere in
    let is = at.1.settled_is in
    let len = is.len in
    let bounded = g.met.M.Moves.bounded c.args.system.now in
    let few = bounded.few at.0 at.1.reached in
    let low = bounded.numbered in
    let there = c.requires.there in
    omega (arith, len, few, low, there)

pub returns-in_ok-push-in-To : goal.returns-in_ok-push-in-To
returns-in_ok-push-in-To g c =
    let k = g.M.Moves.threads c.args.system.now in
    let stuck = g.M.Moves.stuck c.args.system.now in
    λ so. subst (HasReducedBelow k c.args.from.now (c.args.n + 1)) (sym c.in_ok-push-in-To.ensures.items)
    (below-more k c.args.from.now c.args.n c.args.all.now.items (record { thread = c.args.n; state = c.in-To.state }) refl
    (subst (IsCame k stuck c.args.from.now.flat (ComesOf k c.args.from.now c.args.n)) c.in-To.is c.in_ok-state.ensures) so)

pub returns-in-Races : goal.returns-in-Races
returns-in-Races g c =
    let k = g.M.Moves.threads c.args.system.now in
    let stuck = g.M.Moves.stuck c.args.system.now in
    subst (IsCame k stuck c.args.from.now.flat (ComesOf k c.args.from.now c.args.n)) c.in-Races.is c.in_ok-state.ensures

pub returns-in-Unknown : goal.returns-in-Unknown
returns-in-Unknown g c =
    let k = g.M.Moves.threads c.args.system.now in
    let stuck = g.M.Moves.stuck c.args.system.now in
    subst (IsCame k stuck c.args.from.now.flat (ComesOf k c.args.from.now c.args.n)) c.in-Unknown.is c.in_ok-state.ensures
