use Rattle.std.proofs.Common.{◌≡◌, take, map}
use Rattle.std.specs.String.{string_bytes}
use Rattle.show_said.specs.Lines.{plain_byte}
use Rattle.show_said.proofs.text.text_of_bytes.Given as goal

abbrev pub invariant-loop-byte : goal.invariant-loop-byte
invariant-loop-byte l = string_bytes l.text ≡ map plain_byte (take l.byte-index l.line)
