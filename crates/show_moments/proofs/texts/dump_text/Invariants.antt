use Rattle.std.proofs.Common.{◌≡◌, take}
use Rattle.std.specs.String.{string_bytes}
use Rattle.std.specs.List.{enumerate_from, flat_map}
use Rattle.show_moments.specs.Texts.{byte_text}
use Rattle.show_moments.proofs.texts.dump_text.Given as goal

abbrev pub invariant-loop-place : goal.invariant-loop-place
invariant-loop-place l = string_bytes l.text ≡ flat_map (byte_text l.fn.addr) (take l.place (enumerate_from 0 l.bytes))
