use Rattle.std.proofs.Common.{◌<◌, ◌≤◌, ◌-◌, ℕ, length, get_or}
use Rattle.dwarf_units.specs.declared.spans.Spanned.{Spanned}
use Rattle.dwarf_units.proofs.spans.Spans.at.Given as goal

abbrev pub invariant-loop-low : goal.invariant-loop-low
invariant-loop-low l = record {
  low_high : l.low ≤ l.high;
  high_end : l.high ≤ length l.items;
  before : (k : ℕ) (d : Spanned) → k < l.low → (get_or l.items k d).end ≤ l.place;
  behind : (k : ℕ) (d : Spanned) → l.high ≤ k → k < length l.items → l.place < (get_or l.items k d).end;
}

abbrev pub decreases-loop-low : goal.decreases-loop-low
decreases-loop-low l = l.high - l.low
