use Rattle.std.proofs.Common.{◌∷◌, refl, sym, ◌∙◌, arith}
use Rattle.search_settled.proofs.Threads.{if-some-at}
use Rattle.search_race_free.specs.declared.known.TurnOf.{TurnOf}
use Rattle.search_race_free.specs.Known.{IsTurnOf}
use Rattle.search_race_free.proofs.Rowing.{held-self, over-none, has-turn, row-few, rests-there, adds-row, rows-same}
use Rattle.search_race_free.proofs.known.put_known.Goals as goal

pub returns-in_default-clause-next : goal.returns-in_default-clause-next
returns-in_default-clause-next g c _ =
    let from = c.args.from.now in
    rows-same (g.M.Moves.threads c.args.system.now) g.M.Shared.PartialEq.eq g.M.Thread.PartialEq.eq c.args.parts.now (from.held ∷ from.threads.now)
    from.wanted.now c.args.n c.args.all.now.items c.requires.wanted (sym c.next_of.ensures ∙ c.in_default.is)

pub turn_by-requires-clause-of : goal.turn_by-requires-clause-of
turn_by-requires-clause-of g c =
    let m = c.args.system.now in
    let k = g.M.Moves.threads m in
    let from = c.args.from.now in
    has-turn k (g.met.M.Moves.tame m) (g.met.M.Accesses.plain m) c.args.parts.now from.held from.threads.now c.requires.row c.args.n
    c.number_at-thread.result c.number_at-thread.ensures
    (λ s of. over-none k from.wanted.now s c.args.n c.in-Some.access (c.requires.wanted s of) (sym c.next_of.ensures ∙ c.in-Some.is)
    (c.is_over_none.ensures c.if-not-is_over_none.false))

pub is_clear-requires : goal.is_clear-requires
is_clear-requires g c =
    let m = c.args.system.now in
    let k = g.M.Moves.threads m in
    let from = c.args.from.now in
    let t = c.args.parts.now in
    let u = c.turn_by.new.parts in
    let turn : TurnOf = record { held = from.held; thread = c.number_at-thread.result; n = c.args.n } in
    rests-there k (g.met.M.Moves.tame m) (g.met.M.Accesses.plain m) t u c.in_ok-to.ensures.grows from.held from.threads.now c.requires.row c.args.n
    c.number_at-thread.result c.number_at-thread.ensures
    (λ s of. over-none k from.wanted.now s c.args.n c.in-Some.access (c.requires.wanted s of) (sym c.next_of.ensures ∙ c.in-Some.is)
    (c.is_over_none.ensures c.if-not-is_over_none.false))
    c.in-Some-2.to (if-some-at (IsTurnOf k t u turn) c.in_ok-to.field-0 c.in-Some-2.to c.in-Some-2.is c.in_ok-to.ensures.turn)
    c.as_slice.result.now (c.as_slice.ensures.value ∙ c.in_ok-row.ensures)

pub overflow_cast-n : goal.overflow_cast-n
overflow_cast-n g c =
    let m = c.args.system.now in
    let from = c.args.from.now in
    let low = row-few (g.M.Moves.threads m) (g.met.M.Moves.bounded m) c.args.parts.now from.held from.threads.now c.requires.row c.args.n c.requires.there in
    omega (arith, low)

pub returns-clause-next : goal.returns-clause-next
returns-clause-next g c _ =
    let m = c.args.system.now in
    let k = g.M.Moves.threads m in
    let from = c.args.from.now in
    let t = c.args.parts.now in
    let u = c.turn_by.new.parts in
    let turn : TurnOf = record { held = from.held; thread = c.number_at-thread.result; n = c.args.n } in
    adds-row k (g.met.M.Moves.tame m) (g.met.M.Accesses.plain m) t u c.in_ok-to.ensures.grows from.held from.threads.now c.requires.row c.args.n
    c.number_at-thread.result c.number_at-thread.ensures
    (λ s of. over-none k from.wanted.now s c.args.n c.in-Some.access (c.requires.wanted s of) (sym c.next_of.ensures ∙ c.in-Some.is)
    (c.is_over_none.ensures c.if-not-is_over_none.false))
    c.in-Some-2.to (if-some-at (IsTurnOf k t u turn) c.in_ok-to.field-0 c.in-Some-2.to c.in-Some-2.is c.in_ok-to.ensures.turn)
    c.as_slice.result.now (c.as_slice.ensures.value ∙ c.in_ok-row.ensures)
    g.M.Shared.PartialEq.eq g.M.Thread.PartialEq.eq (held-self g.M.Shared.PartialEq.eq g.met.M.Shared.Eq.laws) g.met.M.Thread.Eq.laws.refl
    c.args.all.now.items c.push.new.self.items (record { thread = c.args.n; row = c.in_ok-row.row }) refl (sym c.as_slice.ensures.value)
    c.in_ok-push.ensures.items (c.in_ok-is_clear.ensures c.if-not-branch.false)
