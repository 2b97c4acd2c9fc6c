use Rattle.std.proofs.Common.{◌≡◌, ℕ, map}
use Rattle.std.specs.List.{filter, flat_map, range_with_len}
use Rattle.show_text.specs.Woken.{is_at, line_at, woken_by}
use Rattle.show_text.proofs.Starts.{how_many}
use Rattle.show_text.proofs.woken.Wakes.new.Given as goal

abbrev pub invariant-loop-at : goal.invariant-loop-at
invariant-loop-at l = record {
  lines : (addr : ℕ) → filter (is_at addr) l.asleep.sleepers.items ≡ line_at l.log l.contexts l.at addr;
  wakes : l.asleep.wakes.items ≡ flat_map (woken_by l.log l.contexts) (range_with_len 0 l.at);
  starts : l.starts.items ≡ map (how_many (woken_by l.log l.contexts)) (range_with_len 0 l.at);
}
