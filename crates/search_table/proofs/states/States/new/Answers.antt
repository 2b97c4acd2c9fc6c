use Rattle.search_table.proofs.Numbers.{no-states}
use Rattle.search_table.proofs.states.States.new.Goals as goal

pub returns-clause-are : goal.returns-clause-are
returns-clause-are c =
    no-states (record { rows = c.new.result; digests = c.new-2.result }) c.new.ensures.are c.new.ensures.rows c.new-2.ensures.empty
