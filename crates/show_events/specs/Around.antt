-- Where a run failed, and which entries around it a page has.
use Rattle.std.specs.Prelude.{ℕ, ◌-◌, min, nat_le, nat_lt, if◌then◌else◌, Bool, true, false, List, length, filter}
use Rattle.std.specs.Prelude.{Option, Some, position, unwrap_or, take, drop}
use Rattle.std.specs.List.{slice_get}
use Rattle.types.specs.declared.event.Entry.{Entry}
use Rattle.types.specs.declared.outcome.Outcome.{Outcome}
use Rattle.types.specs.declared.outcome.Outcome.TheVariants.{Trap, Stop}
use Rattle.types.specs.declared.outcome.ThreadReport.{ThreadReport}
use Rattle.replay_text.specs.declared.parts.RecordParts.{RecordParts}
use Rattle.show_rows.specs.Listing.{outcome_by}
use Rattle.show_events.specs.declared.around.TheConstants.{MOST_WHOLE, PART, BEFORE}

abbrev pub is_trap : Option Outcome → Bool
is_trap (Some (Trap trap)) = true
is_trap outcome = false

abbrev pub is_stop : Option Outcome → Bool
is_stop (Some (Stop stop)) = true
is_stop outcome = false

-- By this entry a thread leaves that has ended so.
abbrev pub leaves_as : (Option Outcome → Bool) → List ThreadReport → Entry → Bool
leaves_as is ends e = is (outcome_by e.event (slice_get ends e.thread))

-- The place of the log at which a run failed: where the first thread leaves that trapped; where none did, the first one
-- that was stopped; of a run that didn't fail the last one.
abbrev pub failure : RecordParts → ℕ
failure r = unwrap_or (position (leaves_as is_trap r.ends) r.log)
    (unwrap_or (position (leaves_as is_stop r.ends) r.log) (length r.log - 1))

abbrev pub count_before : ℕ → List ℕ → ℕ
count_before at places = length (filter (λ place. nat_lt place at) places)

-- So many places around one: the last of them that there are, or those of which so many stand before it.
abbrev pub part_around : ℕ → ℕ → ℕ → List ℕ → List ℕ
part_around part before at places =
    take part (drop (min (count_before at places - before) (length places - part)) places)

-- Of the places that are chosen those that a page has: all of at most so many, else a part around one.
abbrev pub around : ℕ → List ℕ → List ℕ
around at places = if nat_le (length places) MOST_WHOLE then places else part_around PART BEFORE at places
