use Rattle.search_table.proofs.Cut.{no-rows}
use Rattle.search_table.proofs.rows.PackedRows.new.Goals as goal

pub returns-clause-rows : goal.returns-clause-rows
returns-clause-rows c =
    let none = no-rows c.new.result.items c.new-2.result.items c.new.ensures.items c.new-2.ensures.items in
    none.0

pub returns-clause-are : goal.returns-clause-are
returns-clause-are c =
    let none = no-rows c.new.result.items c.new-2.result.items c.new.ensures.items c.new-2.ensures.items in
    none.1
