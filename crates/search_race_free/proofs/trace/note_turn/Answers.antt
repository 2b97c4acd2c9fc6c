use Rattle.std.proofs.Common.{sym, ◌∙◌, ap, subst}
use Rattle.search_settled.proofs.Threads.{if-some-at}
use Rattle.search_race_free.specs.Search.{IsAfterEvent}
use Rattle.search_race_free.specs.Touches.{access_at, AreOfOthers, ArePutOver}
use Rattle.search_race_free.proofs.Overwriting.{if-none-at}
use Rattle.search_race_free.proofs.Continuing.{onward-first}
use Rattle.search_race_free.proofs.Following.{wants-at}
use Rattle.search_race_free.proofs.trace.note_turn.Goals as goal

pub returns : goal.returns
returns g c =
    let k = g.M.Moves.threads c.args.system.now in
    let from = c.args.from.now in
    let one = onward-first k (g.met.M.Moves.tame c.args.system.now) (g.met.M.Accesses.plain c.args.system.now) from
    (record { flat = c.in-Some-2.flat; owned = c.put_over.new.touches }) c.args.n c.in-Some.access c.in_ok-before.before.items c.in_ok-owned.owned.items
    c.requires c.in_ok-before.ensures
    (wants-at k from c.in_ok-before.before.items c.args.n c.in-Some.access c.in_ok-before.ensures
    (ap (λ l. access_at l c.args.n) (sym c.as_slice.ensures.value) ∙ (sym c.next_of.ensures ∙ c.in-Some.is)))
    (if-some-at (IsAfterEvent k from.flat c.args.n) c.in_ok-flat.field-0 c.in-Some-2.flat c.in-Some-2.is c.in_ok-flat.ensures.next)
    (subst (λ l. AreOfOthers l c.args.n c.in_ok-owned.owned.items) c.as_slice-3.ensures.value c.in_ok-owned.ensures)
    (subst (λ l. ArePutOver l c.args.n c.in-Some.access c.in_ok-owned.owned.items c.put_over.new.touches.items) c.as_slice-4.ensures.value
    (if-none-at (ArePutOver c.as_slice-4.result.now c.args.n c.in-Some.access c.in_ok-owned.owned.items c.put_over.new.touches.items) c.in_ok-_race.field-0
    c.in_default-3.is c.in_ok-_race.ensures.none)) in
    one.owned
