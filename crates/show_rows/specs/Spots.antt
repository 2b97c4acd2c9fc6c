-- What is known of a place in a module's code.
use Rattle.std.specs.Prelude.{ℕ, ◌≡◌, ◌⊎◌, ◌+◌, ◌-◌, ◌^◌, ◌==◌, ◌&&◌, nat_lt, not, min, Bool, true, false, if◌then◌else◌, List, []}
use Rattle.std.specs.Prelude.{length, drop, find, Result, Ok, Err, Option, Some, None, option_map, option_and_then}
use Rattle.std.specs.List.{slice_get}
use Rattle.types.specs.declared.parts.Parts.{Parts}
use Rattle.types.specs.declared.parts.Import.{Import}
use Rattle.types.specs.declared.parts.ImportDesc.{ImportDesc}
use Rattle.types.specs.declared.parts.ImportDesc.TheVariants.{Func}
use Rattle.binary_wire.specs.declared.fault.Refusal.{Refusal}
use Rattle.binary_wire.specs.Faults.{input}
use Rattle.types.specs.declared.event.Event.{Event}
use Rattle.types.specs.declared.instr.Instr.{Instr}
use Rattle.types.specs.declared.instr.Instr.TheVariants.{Plain}
use Rattle.types.specs.declared.instr.PlainInstr.TheVariants.{Atomic}
use Rattle.interp.specs.declared.place.CodePlace.{CodePlace}
use Rattle.show_places.specs.declared.bodies.BodyPlaces.{BodyPlaces}
use Rattle.show_places.specs.Bodies.{bodies_in}
use Rattle.show_places.specs.Names.{IsCalled}
use Rattle.show_places.specs.Sections.{Part, HasFirst, HasNone}
use Rattle.dwarf_frames.specs.declared.frames.Chain.{Chain}
use Rattle.dwarf_frames.specs.Chains as of_code
use Rattle.dwarf_units.specs.declared.spans.Spanned.{Spanned}
use Rattle.dwarf_units.specs.Spans.{holds as has_place}
use Rattle.dwarf_lines.specs.declared.table.Range.{Range}
use Rattle.dwarf_lines.specs.contracts.header.SourcePartialEq.TheImpl as equal
use Rattle.dwarf_lines.specs.Lines.{holds, source_of}
use Rattle.dwarf_lines.specs.Sources.{IsTextOf, line_in}
use Rattle.selection.specs.declared.choice.NumberSpan.{NumberSpan}
use Rattle.selection.specs.Choices.{touched}
use Rattle.show_spots.specs.declared.spot.Spot.{Spot}
use Rattle.show_rows.specs.declared.code.CodeMap.{CodeMap}

-- The index of a function of the module itself, behind those that are imported.
abbrev pub index_of : ℕ → ℕ → ℕ
index_of imported function = min (min function (2 ^ 32 - 1) + imported) (2 ^ 32 - 1)

abbrev pub offset_of : List BodyPlaces → CodePlace → Option ℕ
offset_of bodies place = option_and_then (λ body. slice_get body.instrs place.instr) (slice_get bodies place.function)

-- How far behind the start of its body an instruction is.
abbrev pub offset_in_body : List BodyPlaces → CodePlace → Option ℕ
offset_in_body bodies place = option_and_then (λ body. option_map (λ offset. offset - body.start)
    (slice_get body.instrs place.instr)) (slice_get bodies place.function)

abbrev pub has_as_many : Option BodyPlaces → Option BodyPlaces → Bool
has_as_many (Some a) (Some b) = length a.instrs == length b.instrs
has_as_many a b = false

-- Where an instruction is in the file with the names, where both files have as many in its function.
abbrev pub named_offset : CodeMap → CodePlace → Option ℕ
named_offset code place = if has_as_many (slice_get code.bodies place.function) (slice_get code.named_bodies place.function)
    then offset_of code.named_bodies place
    else None

-- The functions that were put in the place of their calls at a place, if there are any.
abbrev pub chain_at : CodeMap → CodePlace → Option Chain
chain_at code place = option_and_then (of_code.chain_at code.chains) (named_offset code place)

-- These are the bytes of data that has been asked for.
abbrev pub is_just : NumberSpan → Option Spanned → Bool
is_just addrs None = false
is_just addrs (Some span) = span.start == addrs.first && nat_lt addrs.last span.end && (span.end - addrs.last == 1)

-- The bytes that an event touches are those of data of a signed integer type.
abbrev pub is_signed_at : CodeMap → Option NumberSpan → Bool
is_signed_at code None = false
is_signed_at code (Some addrs) = is_just addrs (find (has_place addrs.first) code.signed.items.items)

abbrev pub is_signed : CodeMap → Event → Bool
is_signed code event = is_signed_at code (touched event)

-- Its lines.
abbrev pub range_at : CodeMap → CodePlace → Option Range
range_at code place = option_and_then (λ offset. find (holds offset) code.lines.ranges.items) (named_offset code place)

-- Both have a line of source, in files that differ.
abbrev pub are_apart : Option Range → Option Range → Bool
are_apart (Some a) (Some b) = not (equal.eq-value.it (source_of a) (source_of b))
are_apart a b = false

-- A call, where it and the place that it led to have a line of source each, in files that differ.
abbrev pub call_apart : CodeMap → Option CodePlace → Option CodePlace → Option CodePlace
call_apart code (Some place) (Some call) = if are_apart (range_at code place) (range_at code call) then Some call else None
call_apart code place call = None

-- The function's name, how far the instruction is behind the start of its body, the file and the line, and what stands there.
pub record IsSpotOf (code : CodeMap) (place : CodePlace) (s : Spot) : Type 0 where
  pub name : IsCalled code.names code.parts.now.exports (index_of code.imported place.function) s.name
  pub offset : s.offset ≡ offset_in_body code.bodies place
  pub source : s.source ≡ option_map (λ r. (r.file, r.line)) (range_at code place)
  pub text : IsTextOf (option_and_then (line_in code.sources.files.items) (range_at code place)) s.text

abbrev pub is_atomic_instr : Option Instr → Bool
is_atomic_instr (Some (Plain (Atomic op arg))) = true
is_atomic_instr other = false

-- The instruction at a place is an atomic one.
abbrev pub is_atomic : Parts → CodePlace → Bool
is_atomic m place =
    is_atomic_instr (option_and_then (λ body. slice_get body.code place.instr) (slice_get m.bodies place.function))

abbrev pub is_function : ImportDesc → Bool
is_function (Func type) = true
is_function other = false

-- The bodies that a module's bytes have in their code section; none where there is no such section, or none can be read.
abbrev pub AreBodiesIn : List ℕ → List BodyPlaces → Result (List BodyPlaces × List ℕ) Refusal → Type 0
AreBodiesIn contents bodies (Ok read) = bodies ≡ read.0
AreBodiesIn contents bodies (Err refusal) = bodies ≡ []

abbrev pub AreBodies : List ℕ → List BodyPlaces → Type 0
AreBodies bytes bodies = ((x : Part) × HasFirst (λ p. p.0 ≡ 10) (input bytes) (drop 8 bytes) x
    × AreBodiesIn x.2 bodies (bodies_in x.2)) ⊎ (HasNone (λ p. p.0 ≡ 10) (input bytes) (drop 8 bytes) × (bodies ≡ []))

abbrev pub is_function_import : Import → Bool
is_function_import i = is_function i.desc
