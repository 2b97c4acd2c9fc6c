use Rattle.std.proofs.Common.{◌≡◌, ◌∙◌, ℕ, Some, sym, subst}
use Rattle.std.proofs.lemmas.Option.{none-some}
use Rattle.search_settled.specs.Accesses.{IsTimed}
use Rattle.search_settled.specs.declared.access.NextAccess.{NextAccess}
use Rattle.search_race_free.specs.Timeouts.{HasTimed}
use Rattle.search_race_free.specs.Touches.{access_at}
use Rattle.search_race_free.proofs.Keeping.{copy-at, known-copy}
use Rattle.search_race_free.proofs.Timing.{timed-somewhere, untimed-copy}
use Rattle.search_race_free.proofs.timeouts.is_timed_at.Goals as goal

pub state_at-requires : goal.state_at-requires
state_at-requires g c = let r = c.requires in (r.2).table

pub wanted-requires : goal.wanted-requires
wanted-requires g c =
    let m = c.args.system.now in
    let k = g.M.Moves.threads m in
    let table = c.args.table.now in
    let copy = c.in-Some.state in
    let r = c.requires in
    let known = known-copy k (g.M.Moves.ends m) (g.M.Moves.stuck m) (g.met.M.Moves.tame m) (g.met.M.Accesses.plain m) (g.met.M.Accesses.beyond m) r.1 copy
    (copy-at k (g.M.Moves.ends m) (g.M.Moves.stuck m) table c.args.at c.in_ok-state.field-0 c.in_ok-state.ensures copy c.in-Some.is r.0 r.1 r.2 r.3)
    r.4 in
    known.somewhere

pub returns-clause-none : goal.returns-clause-none
returns-clause-none g c = λ none ks has s at.
    let m = c.args.system.now in
    let k = g.M.Moves.threads m in
    untimed-copy k s c.in-Some.state c.in_ok-next.next.items
    (copy-at k (g.M.Moves.ends m) (g.M.Moves.stuck m) c.args.table.now c.args.at c.in_ok-state.field-0 c.in_ok-state.ensures c.in-Some.state c.in-Some.is
    ks s has at)
    c.in_ok-next.ensures
    (subst (λ l. (n : ℕ) (a : NextAccess) → access_at l n ≡ Some a → IsTimed a → ⊥) c.as_slice.ensures.value (c.any_timed.ensures.none none))

pub returns-clause-some : goal.returns-clause-some
returns-clause-some g c = λ some.
    let m = c.args.system.now in
    let k = g.M.Moves.threads m in
    let table = c.args.table.now in
    let copy = c.in-Some.state in
    let r = c.requires in
    let known = known-copy k (g.M.Moves.ends m) (g.M.Moves.stuck m) (g.met.M.Moves.tame m) (g.met.M.Accesses.plain m) (g.met.M.Accesses.beyond m) r.1 copy
    (copy-at k (g.M.Moves.ends m) (g.M.Moves.stuck m) table c.args.at c.in_ok-state.field-0 c.in_ok-state.ensures copy c.in-Some.is r.0 r.1 r.2 r.3)
    r.4 in
    timed-somewhere k copy.flat c.in_ok-next.next.items known.somewhere c.in_ok-next.ensures
    (subst HasTimed c.as_slice.ensures.value (c.any_timed.ensures.some some))

pub returns-in_default-clause-some : goal.returns-in_default-clause-some
returns-in_default-clause-some g c = λ _.
    let r = c.requires in
    let so = c.in_ok-state.ensures r.0 r.1 (r.2).are r.3 in
    absurd (none-some so.0 (sym c.in_default.is ∙ so.1))
