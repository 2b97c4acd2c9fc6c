use Rattle.std.proofs.Common.{◌≡◌, ◌∷◌, flat_map, take, All}
use Rattle.show_events.specs.Lines.{IsTame}
use Rattle.show_events.specs.Events.{front_byte, tame}
use Rattle.show_events.proofs.line.line_of.Given as goal

abbrev pub invariant-loop-byte : goal.invariant-loop-byte
invariant-loop-byte l = record {
  all_tame : All IsTame l.line.items;
  text : l.line.items ≡ front_byte l.fn.front ∷ flat_map tame (take l.byte-index l.json);
}
