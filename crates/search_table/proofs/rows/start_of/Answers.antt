use Rattle.std.proofs.Common.{◌-◌, arith, ap, ◌∙◌}
use Rattle.std.specs.Prelude.{unwrap_or}
use Rattle.search_table.proofs.Cut.{start-first, start-later}
use Rattle.search_table.proofs.rows.start_of.Goals as goal

pub returns-then-place-eq0 : goal.returns-then-place-eq0
returns-then-place-eq0 c = start-first 0 c.args.ends.now c.args.place (omega arith)

pub returns : goal.returns
returns c =
    start-later 0 c.args.ends.now c.args.place (c.args.place - 1) c.unwrap_or.result (omega arith)
    (c.unwrap_or.ensures ∙ ap (λ o. unwrap_or o 0) c.end_of.ensures)
