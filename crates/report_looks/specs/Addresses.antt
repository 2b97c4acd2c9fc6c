-- The addresses of data.
use Rattle.std.specs.Prelude.{◌≡◌}
use Rattle.dwarf_data.specs.declared.place.ByteRange.{ByteRange}
use Rattle.dwarf_data.specs.Within.{IsWithinOne}
use Rattle.selection.specs.declared.choice.NumberSpan.{NumberSpan}
use Rattle.selection.specs.Choices.{span_of}
use Rattle.report_command.specs.declared.places.Data.{Data}
use Rattle.report_command.specs.declared.places.Data.TheVariants.{At, Named}
use Rattle.show_named.specs.declared.data_map.DataMap.{DataMap}

-- The addresses are those, or all of the bytes of static data that words name.
abbrev pub AreAddresses : DataMap → Data → NumberSpan → Type 0
AreAddresses map (At addrs) span = span ≡ addrs
AreAddresses map (Named words) span = (place : ByteRange) × IsWithinOne map.spans.items.items place
    × (span ≡ span_of place.start place.size)
