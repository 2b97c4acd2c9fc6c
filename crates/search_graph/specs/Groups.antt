-- The groups of moves: those of the states lie one behind the other in one list.
use Rattle.std.specs.Prelude.{ℕ, ◌+◌, List, slice_index, slice_range}
use Rattle.search_graph.specs.declared.grouped.Grouped.{Grouped}

-- Where the state's group begins.
abbrev pub begin_of : Grouped → ℕ → ℕ
begin_of groups state = slice_index groups.starts.items state

-- What is in it: all up to where the next state's begins.
abbrev pub group_of : Grouped → ℕ → List ℕ
group_of groups state = slice_range groups.moves.items (begin_of groups state) (begin_of groups (state + 1))
