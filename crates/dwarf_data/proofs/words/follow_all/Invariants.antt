use denote.Shadow.{shadow}
use denote.Text.{Utf8}
use Rattle.dwarf_data.specs.Within.{IsWithin}
use Rattle.dwarf_data.proofs.words.follow_all.Given as goal

abbrev pub invariant-loop : goal.invariant-loop
invariant-loop l = record { within : IsWithin l.fn.part.place l.reached.place; text : shadow (Utf8 l.left) }
