use Rattle.std.proofs.Common.{◌≡◌, ◌++◌, ℕ, List, IsUtf8, chars, encode_utf8_all, map}
use Rattle.std.specs.Fmt.{HasWritten, IsPlainFormatter}
use Rattle.std.specs.Str.Iter.{chars_rest}
use Rattle.show_text.specs.Plain.{plain_char, plain_text}
use Rattle.show_text.proofs.plain.PlainDisplay.fmt.Given as goal

-- What is written so far, and what is left.
abbrev pub invariant-loop-c : goal.invariant-loop-c
invariant-loop-c g l = IsUtf8 (chars_rest l.c-iterator) × ((so_far : List ℕ)
    × (IsPlainFormatter l.initial.f → HasWritten g.W.Write.write_str_gives l.initial.f so_far l.f)
    × (so_far ++ encode_utf8_all (map plain_char (chars (chars_rest l.c-iterator))) ≡ plain_text l.fn.self.0.now))
