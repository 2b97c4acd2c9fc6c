use Rattle.std.proofs.Common.{ℕ, ap, subst, sym, ◌∙◌}
use Rattle.std.specs.Prelude.{Some, slice_get}
use Rattle.std.proofs.lemmas.Result.{on_ok_weaker}
use Rattle.search_table.specs.Tables.{IsPlace, states_of}
use Rattle.search_table.proofs.Numbers.{row-none, with-row-old, with-row-new, put-at}
use Rattle.search_table.proofs.states.States.put.Goals as goal

pub returns-in-Known-clause-states : goal.returns-in-Known-clause-states
returns-in-Known-clause-states c =
    let s = c.args.self.now in
    with-row-old (states_of s) c.args.row.now c.in-Known.place (subst (IsPlace s c.args.row.now) c.in-Known.is c.in-Some.ensures)

pub returns-in-Known-clause-place : goal.returns-in-Known-clause-place
returns-in-Known-clause-place c = subst (IsPlace c.args.self.now c.args.row.now) c.in-Known.is c.in-Some.ensures

pub push-requires-clause-free : goal.push-requires-clause-free
push-requires-clause-free c = subst (IsPlace c.args.self.now c.args.row.now) c.in-Free.is c.in-Some.ensures

pub returns-in-Free-clause-states : goal.returns-in-Free-clause-states
returns-in-Free-clause-states c =
    let s = c.args.self.now in
    let row = c.args.row.now in
    let free = subst (IsPlace s row) c.in-Free.is c.in-Some.ensures in
    on_ok_weaker c.push.result (λ is. is ∙ with-row-new (states_of s) row (row-none s c.requires row c.in-Free.number free)) c.push.ensures.states

pub returns-in-Free-clause-place : goal.returns-in-Free-clause-place
returns-in-Free-clause-place c =
    put-at c.push.result (states_of c.args.self.now) (states_of c.push.new.self) c.args.row.now c.push.ensures.states c.push.ensures.place
