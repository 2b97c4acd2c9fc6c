use Rattle.std.proofs.Common.{◌≤◌, All, vec_len}
use Rattle.dwarf_lines.specs.Lines.{IsSourceIn}
use Rattle.dwarf_lines.proofs.table.LineTable.sources.Given as goal

abbrev pub invariant-loop-range : goal.invariant-loop-range
invariant-loop-range l = (vec_len l.sources ≤ l.most) × All (IsSourceIn l.self.ranges.items) l.sources.items
