use Rattle.search_table.proofs.states.States.row.Goals as goal

pub get-requires : goal.get-requires
get-requires c = let are = c.requires in are.rows
