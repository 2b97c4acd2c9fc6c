-- What threads say, of a record that is shown.
use Rattle.std.specs.Prelude.{ℕ, ◌≡◌, ◌+◌, ◌-◌, ◌||◌, Bool, true, false, if◌then◌else◌, nat_lt, List, [], ◌++◌, codes}
use Rattle.std.specs.Prelude.{Option, Some, None}
use Rattle.std.specs.Fmt.{decimal}
use Rattle.std.specs.List.{flat_map, slice_get}
use Rattle.std.specs.Io.KnownBytes.{Appends}
use Rattle.types.specs.declared.event.Entry.{Entry}
use Rattle.replay_text.specs.declared.parts.RecordParts.{RecordParts}
use Rattle.replay_text.specs.Versions.{header_count}
use Rattle.selection.specs.declared.choice.Choice.{Choice}
use Rattle.selection.specs.Choices.{is_chosen}
use Rattle.show_said.specs.declared.said.Said.{Said}
use Rattle.report_jobs.specs.Prints.{said_line}
use Rattle.report_looks.specs.Chosen.{chooses_all}
use Rattle.report_looks.specs.declared.wanted.Here.{Here}
use Rattle.report_looks.specs.declared.saying.SaidPart.{SaidPart}
use Rattle.report_looks.specs.declared.saying.SaidPart.TheVariants.{Chosen, Before}

-- The line of a record that has the first entry.
abbrev pub first_line : RecordParts → ℕ
first_line r = header_count r.version + 1

abbrev pub is_shown_with : Choice → ℕ → Option Entry → Bool
is_shown_with choice line (Some e) = is_chosen choice line e
is_shown_with choice line None = chooses_all choice

-- What a thread says is shown with the entry with which it ended, and what nothing ended where all are shown.
abbrev pub is_shown : RecordParts → Choice → Said → Bool
is_shown r choice s = is_shown_with choice s.line (slice_get r.log (s.line - first_line r))

-- It was said before a moment, or that is the end.
abbrev pub is_before : RecordParts → Here → Said → Bool
is_before r here s = here.is_end || nat_lt (s.line - first_line r) here.place

abbrev pub is_told : RecordParts → SaidPart → Said → Bool
is_told r (Chosen choice) s = is_shown r choice.now s
is_told r (Before here) s = is_before r here s

-- A row of it: the line of the record, and what is printed of a run.
abbrev pub said_row : Said → List ℕ
said_row s = decimal s.line ++ codes "  " ++ said_line s

abbrev pub row_if : Bool → Said → List ℕ
row_if told s = if told then said_row s else []

abbrev pub said_rows : (Said → Bool) → List Said → List ℕ
said_rows told all = flat_map (λ s. row_if (told s) s) all

abbrev pub WritesSaid : (Said → Bool) → List Said → Option (List ℕ) → Option (List ℕ) → Type 0
WritesSaid told all old new = Appends old new (said_rows told all)

-- The same where that is wanted.
abbrev pub WritesSaidIf : Bool → (Said → Bool) → List Said → Option (List ℕ) → Option (List ℕ) → Type 0
WritesSaidIf true told all old new = WritesSaid told all old new
WritesSaidIf false told all old new = new ≡ old
