-- What data is called, beside the words of an entry.
use Rattle.std.specs.Prelude.{ℕ, ◌≡◌, ◌⊎◌, List, [], ◌++◌, codes, find, Some, IsSome}
use Rattle.types.specs.declared.event.Event.{Event}
use Rattle.selection.specs.Choices.{touched}
use Rattle.selection.specs.declared.choice.NumberSpan.{NumberSpan}
use Rattle.show_text.specs.Plain.{plain_text}
use Rattle.dwarf_units.specs.Spans.{holds}
use Rattle.show_named.specs.declared.data_map.DataMap.{DataMap}

-- The event touches, or waits or wakes at, an address of static data.
pub record HasData (map : DataMap) (event : Event) : Type 0 where
  pub addrs : NumberSpan
  pub touches : touched event ≡ Some addrs
  pub within : IsSome (find (holds addrs.first) map.spans.items.items)

-- A name stands behind `at`. Only what is about static data has one.
pub record NamesData (map : DataMap) (event : Event) (text : List ℕ) : Type 0 where
  pub has : HasData map event
  pub name : List ℕ
  pub words : text ≡ codes " at " ++ plain_text name

-- Nothing, or such a name.
abbrev pub IsDataText : DataMap → Event → List ℕ → Type 0
IsDataText map event text = (text ≡ []) ⊎ NamesData map event text
