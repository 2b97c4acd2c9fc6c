use Rattle.std.proofs.Common.{ap, ◌∙◌}
use Rattle.search_table.specs.Tables.{is_row}
use Rattle.search_table.proofs.states.States.is_at.Goals as goal

pub returns-in-Some : goal.returns-in-Some
returns-in-Some c = c.are_same.ensures ∙ ap (λ o. is_row o c.args.row.now) c.in-Some.ensures

pub returns-in-None : goal.returns-in-None
returns-in-None c = ap (λ o. is_row o c.args.row.now) c.in-None.ensures
