-- The section in which a module says where its threads put what they say, and that in which it says which memory is a
-- library's own.
use Rattle.std.specs.Prelude.{ℕ, List, codes, Ok}
use Rattle.binary_wire.specs.Reading.{◌>>=◌, u32_at, Reading}
use Rattle.selection.specs.declared.choice.NumberSpan.{NumberSpan}
use Rattle.show_said.specs.Sections.{AreDeclared}

-- An address for each thread, from thread 0 on.
abbrev pub IsPorts : List ℕ → List ℕ → Type 0
IsPorts bytes ports = AreDeclared u32_at (codes "wathread.text") bytes ports

-- The first address and the last one.
unfoldable pub span_at : Reading NumberSpan
span_at s bytes = do
  first ← u32_at s bytes
  last ← u32_at s first.1
  Ok (record { first = first.0; last = last.0 }, last.1)

-- The addresses that a library keeps for itself.
abbrev pub IsOwn : List ℕ → List NumberSpan → Type 0
IsOwn bytes own = AreDeclared span_at (codes "wathread.own") bytes own
