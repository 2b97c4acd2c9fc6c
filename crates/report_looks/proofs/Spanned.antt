-- Addresses at which accesses may race, by what one module says of its data.
use Rattle.std.proofs.Common.{List, [], ◌∷◌}
use Rattle.std.specs.List.{AllZip}
use Rattle.report_command.specs.declared.places.Data.{Data}
use Rattle.selection.specs.declared.choice.NumberSpan.{NumberSpan}
use Rattle.show_named.specs.declared.data_map.DataMap.{DataMap}
use Rattle.report_looks.specs.Addresses.{AreAddresses}
use Rattle.report_looks.specs.Allowing.{IsSpanOf}

pub spans_by : (map : DataMap) (all : List Data) (spans : List NumberSpan) → AllZip (AreAddresses map) all spans
    → AllZip IsSpanOf all spans
spans_by map [] [] is = tt
spans_by map [] (s ∷ spans) is = absurd is
spans_by map (d ∷ all) [] is = absurd is
spans_by map (d ∷ all) (s ∷ spans) is = ((map, is.0), spans_by map all spans is.1)
