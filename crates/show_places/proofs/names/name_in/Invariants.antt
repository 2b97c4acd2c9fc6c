use Rattle.std.proofs.Common.{◌≡◌, find, drop}
use Rattle.show_places.specs.Names.{is_of}
use Rattle.show_places.proofs.names.name_in.Given as goal

abbrev pub invariant-loop-named : goal.invariant-loop-named
invariant-loop-named l = find (is_of l.index) (drop l.named-index l.names) ≡ find (is_of l.index) l.names
