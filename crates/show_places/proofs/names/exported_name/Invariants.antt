use Rattle.std.proofs.Common.{◌≡◌, find, drop}
use Rattle.show_places.specs.Names.{exports_it}
use Rattle.show_places.proofs.names.exported_name.Given as goal

abbrev pub invariant-loop-export : goal.invariant-loop-export
invariant-loop-export l = find (exports_it l.index) (drop l.export-index l.exports) ≡ find (exports_it l.index) l.exports
