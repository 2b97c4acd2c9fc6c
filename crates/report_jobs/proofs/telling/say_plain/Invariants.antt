use Rattle.std.proofs.Common.{◌≡◌, ◌++◌, ℕ, List, IsUtf8, chars, encode_utf8_all, map}
use Rattle.std.specs.Io.KnownBytes.{Appends}
use Rattle.std.specs.Str.Iter.{chars_rest}
use Rattle.show_text.specs.Plain.{plain_char, plain_text}
use Rattle.report_jobs.proofs.telling.say_plain.Given as goal

-- What was said so far, and what is left.
abbrev pub invariant-loop-c : goal.invariant-loop-c
invariant-loop-c g l = IsUtf8 (chars_rest l.c-iterator) × ((so_far : List ℕ)
    × Appends (g.E.Write.contents l.initial.err) (g.E.Write.contents l.err) so_far
    × (so_far ++ encode_utf8_all (map plain_char (chars (chars_rest l.c-iterator))) ≡ plain_text l.text))
