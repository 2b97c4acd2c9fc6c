use Rattle.dwarf_data.specs.Within.{NamesWithin}
use Rattle.dwarf_data.proofs.words.place_of.Given as goal

abbrev pub invariant-loop-span : goal.invariant-loop-span
invariant-loop-span l = NamesWithin l.«data».items.items l.sought
