-- By which instructions the entries of a record were made, and the memory with which a run begins.
use Rattle.std.specs.Prelude.{ℕ, zero, suc, ◌+◌, ◌*◌, ◌%◌, ◌^◌, ◌&&◌, ◌||◌, if◌then◌else◌, Bool, false, List, [], ◌∷◌, ◌++◌, length}
use Rattle.std.specs.Prelude.{Option, Some, None, option_map, option_and_then}
use Rattle.std.specs.List.{slice_get}
use Rattle.allowed_races.specs.declared.allowed.Allowed.{Allowed}
use Rattle.allowed_races.specs.Bytes.{has_bytes}
use Rattle.types.specs.declared.event.Entry.{Entry}
use Rattle.types.specs.declared.parts.Parts.{Parts}
use Rattle.types.specs.declared.limits.TheConstants.{PAGE_SIZE}
use Rattle.validate_typing.specs.Image.{opening_pages}
use Rattle.interp.specs.declared.place.CodePlace.{CodePlace}
use Rattle.race_history.specs.declared.access.ThreadAccess.{ThreadAccess}
use Rattle.race_history.specs.declared.access.AccessKind.{AccessKind}
use Rattle.race_history.specs.declared.access.AccessKind.TheVariants.{Plain, Atomic}
use Rattle.race_history.specs.declared.access.Site.{Site}
use Rattle.race_history.specs.Accesses.{bytes_of}
use Rattle.show_rows.specs.declared.listing.Shown.{Shown}
use Rattle.show_rows.specs.declared.rows.Row.{Row}
use Rattle.show_rows.specs.Listing.{is_atomic_in, row_in}

-- Atomic is what was made by an atomic instruction of the module, where its thread stood.
abbrev pub kind_in : Parts → List (Option Row) → ℕ → AccessKind
kind_in m rows at = if is_atomic_in m (row_in rows at) then Atomic else Plain

-- A number of a place in the code. A module has fewer functions, and they have fewer instructions, than 2^32, so that no
-- two places have one number, and none has that of an unknown place.
abbrev pub code_of : Option CodePlace → ℕ
code_of None = 18446744073709551615
code_of (Some place) = (place.function * 4294967296 % 2 ^ 64 + place.instr) % 2 ^ 64

abbrev pub code_in : List (Option Row) → ℕ → ℕ
code_in rows at = code_of (option_map (λ row. row.place) (row_in rows at))

-- An access to bytes may race: all its bytes may, or it is atomic and mixed ones may.
abbrev pub may_race : Allowed → Option ThreadAccess → Bool
may_race allowed None = false
may_race allowed (Some a) = has_bytes allowed a.addr a.width || (allowed.mixed && a.atomic)

-- The access to bytes of the entry at a place, by an instruction.
abbrev pub bytes_at : List Entry → Site → ℕ → Option ThreadAccess
bytes_at log site at = option_and_then (λ made. bytes_of made site) (slice_get log at)

abbrev pub bare_site : Parts → List (Option Row) → ℕ → Site
bare_site m rows at = record { kind = kind_in m rows at; code = code_in rows at; is_allowed = false }

abbrev pub site_in : Allowed → Parts → List (Option Row) → List Entry → ℕ → Site
site_in allowed m rows log at =
    record (bare_site m rows at) { is_allowed = may_race allowed (bytes_at log (bare_site m rows at) at) }

-- The instructions of the entries before a place, in order.
abbrev pub sites_in : Allowed → Parts → List (Option Row) → List Entry → ℕ → List Site
sites_in allowed m rows log zero = []
sites_in allowed m rows log (suc at) = sites_in allowed m rows log at ++ site_in allowed m rows log at ∷ []

abbrev pub kind_at : Shown → ℕ → AccessKind
kind_at shown at = kind_in shown.code.now.parts.now shown.rows.now at

abbrev pub site_at : Allowed → Shown → ℕ → Site
site_at allowed shown at = site_in allowed shown.code.now.parts.now shown.rows.now shown.record.now.log at

abbrev pub sites_before : Allowed → Shown → ℕ → List Site
sites_before allowed shown at = sites_in allowed shown.code.now.parts.now shown.rows.now shown.record.now.log at

abbrev pub sites_shown : Allowed → Shown → List Site
sites_shown allowed shown = sites_before allowed shown (length shown.record.now.log)

-- How many bytes the pages have with which a module's memory opens.
abbrev pub opening_of : Parts → ℕ
opening_of m = PAGE_SIZE * opening_pages m

abbrev pub opening_shown : Shown → ℕ
opening_shown shown = opening_of shown.code.now.parts.now
