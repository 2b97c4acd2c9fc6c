-- What is written of a record: a row for each entry that is chosen.
use Rattle.std.specs.Prelude.{ℕ, ◌≡◌, ◌+◌, ◌-◌, ◌^◌, min, Bool, false, List, [], ◌∷◌, ◌++◌, length, map, filter}
use Rattle.std.specs.Prelude.{Option, Some, None, option_map, option_and_then, unwrap_or, string_bytes}
use Rattle.std.specs.List.{slice_get, enumerate_from}
use Rattle.std.specs.Io.KnownBytes.{Keeps}
use Rattle.types.specs.declared.event.Event.{Event}
use Rattle.types.specs.declared.event.Event.TheVariants.{Ask}
use Rattle.types.specs.declared.event.Question.TheVariants.{Leave}
use Rattle.types.specs.declared.event.Entry.{Entry}
use Rattle.types.specs.declared.outcome.Outcome.{Outcome}
use Rattle.types.specs.declared.outcome.ThreadReport.{ThreadReport}
use Rattle.types.specs.declared.parts.Parts.{Parts}
use Rattle.types.specs.declared.limits.TheConstants.{MOST_THREADS}
use Rattle.dwarf_frames.specs.declared.frames.Chain.{Chain}
use Rattle.interp.specs.declared.place.CodePlace.{CodePlace}
use Rattle.replay_text.specs.Versions.{header_count}
use Rattle.selection.specs.declared.choice.Look.{Look}
use Rattle.selection.specs.Choices.{is_chosen}
use Rattle.show_text.specs.declared.context.Context.{Context}
use Rattle.show_text.specs.declared.context.Context.TheVariants.{Alone, Asked}
use Rattle.show_text.specs.declared.words.Words.{Words}
use Rattle.show_text.specs.Contexts.{AreContexts}
use Rattle.show_text.specs.Woken.{AreWakes, woken_in}
use Rattle.show_text.specs.Words.{words_text}
use Rattle.show_text.specs.Rows.{RowText, AddsRow}
use Rattle.show_rows.specs.declared.rows.Row.{Row}
use Rattle.show_spots.specs.declared.spot.Spot.{Spot}
use Rattle.show_rows.specs.declared.code.CodeMap.{CodeMap}
use Rattle.show_rows.specs.declared.listing.Shown.{Shown}
use Rattle.show_rows.specs.declared.listing.Story.{Story}
use Rattle.show_spots.specs.Spots.{call_text, spot_text}
use Rattle.show_spots.specs.Inlined.{inlined_call_text, inlined_text}
use Rattle.show_rows.specs.Spots.{IsSpotOf, call_apart, chain_at, is_atomic, is_signed}

-- The line of the record that has the entry at a place.
abbrev pub line_at : Shown → ℕ → ℕ
line_at shown at = min (header_count shown.record.now.version + 1 + at) (2 ^ 64 - 1)

abbrev pub is_shown : Shown → Look → ℕ × Entry → Bool
is_shown shown look x = is_chosen look.choice (line_at shown x.0) x.1

-- The places of the entries of the log that are chosen, in order.
abbrev pub chosen : Shown → Look → List ℕ
chosen shown look = map (λ x. x.0) (filter (is_shown shown look) (enumerate_from 0 shown.record.now.log))

abbrev pub row_in : List (Option Row) → ℕ → Option Row
row_in rows at = option_and_then (λ row. row) (slice_get rows at)

abbrev pub row_at : Shown → ℕ → Option Row
row_at shown at = row_in shown.rows.now at

abbrev pub context_at : Story → ℕ → Context
context_at story at = unwrap_or (slice_get story.contexts.items at) Alone

-- An answer was made where its question was asked.
abbrev pub made_at : Context → ℕ → ℕ
made_at (Asked question asked) at = asked
made_at context at = at

-- The row of where an entry was made.
abbrev pub made_row : Shown → Story → ℕ → Option Row
made_row shown story at = row_at shown (made_at (context_at story at) at)

-- Where an entry was made, as the rows have it.
abbrev pub place_of : Shown → Story → ℕ → Option CodePlace
place_of shown story at = option_map (λ row. row.place) (made_row shown story at)

-- From where the function was called in which it was made.
abbrev pub caller_of : Shown → Story → ℕ → Option CodePlace
caller_of shown story at = option_and_then (λ row. row.caller) (made_row shown story at)

-- The same, where that is in another file of source.
abbrev pub call_of : Shown → Story → ℕ → Option CodePlace
call_of shown story at = call_apart shown.code.now (place_of shown story at) (caller_of shown story at)

abbrev pub outcome_by : Event → Option ThreadReport → Option Outcome
outcome_by (Ask Leave) report = option_map (λ r. r.outcome) report
outcome_by event report = None

-- How the thread of a leave has ended.
abbrev pub outcome_of : Shown → Entry → Option Outcome
outcome_of shown entry = outcome_by entry.event (slice_get shown.record.now.ends entry.thread)

abbrev pub is_atomic_in : Parts → Option Row → Bool
is_atomic_in m None = false
is_atomic_in m (Some row) = is_atomic m row.place

abbrev pub is_atomic_row : Shown → Option Row → Bool
is_atomic_row shown row = is_atomic_in shown.code.now.parts.now row

-- The words of the entry at a place: of this entry, with what the log and the rows say of it.
pub record AreWordsOf (shown : Shown) (story : Story) (at : ℕ) (made : Entry) (w : Words) : Type 0 where
  pub entry : w.entry ≡ made
  pub context : w.context ≡ context_at story at
  pub atomic : w.is_atomic ≡ is_atomic_row shown (row_at shown at)
  pub signed : w.is_signed ≡ is_signed shown.code.now made.event
  pub before : w.before ≡ option_and_then (λ row. row.before) (row_at shown at)
  pub woken : w.woken.now ≡ woken_in story.wakes at
  pub outcome : w.outcome ≡ outcome_of shown made

-- A place: its function; or the innermost one that was put in the place of its call there, and the calls that lead to it.
abbrev pub place_text : Spot → Option Chain → List ℕ
place_text s None = spot_text s
place_text s (Some chain) = inlined_text s (string_bytes chain.innermost) (string_bytes chain.calls)

-- A call, in the same way.
abbrev pub chained_call_text : Spot → Option Chain → List ℕ
chained_call_text s None = call_text s
chained_call_text s (Some chain) = inlined_call_text s (string_bytes chain.innermost) (string_bytes chain.calls)

-- The text of a place, or none.
abbrev pub IsPlaceText : CodeMap → Option CodePlace → List ℕ → Type 0
IsPlaceText code None text = text ≡ []
IsPlaceText code (Some place) text = (s : Spot) × IsSpotOf code place s × (text ≡ place_text s (chain_at code place))

-- The text of a call, or none.
abbrev pub IsCallText : CodeMap → Option CodePlace → List ℕ → Type 0
IsCallText code None text = text ≡ []
IsCallText code (Some call) text = (s : Spot) × IsSpotOf code call s × (text ≡ chained_call_text s (chain_at code call))

-- The text of where the entry at a place was made: of its place, and behind it of the call that is in another file.
pub record IsPlaceTextOf (shown : Shown) (story : Story) (at : ℕ) (text : List ℕ) : Type 0 where
  pub spot : List ℕ
  pub spot_is : IsPlaceText shown.code.now (place_of shown story at) spot
  pub call : List ℕ
  pub call_is : IsCallText shown.code.now (call_of shown story at) call
  pub text_is : text ≡ spot ++ call

-- A row says of the entry at a place: its line, its thread, its words and where it was made.
pub record Says (shown : Shown) (story : Story) (at : ℕ) (row : RowText) : Type 0 where
  pub made : Entry
  pub stands : slice_get shown.record.now.log at ≡ Some made
  pub line : row.line ≡ line_at shown at
  pub thread : row.thread ≡ made.thread
  pub said : Words
  pub words_of : AreWordsOf shown story at made said
  pub words : row.words ≡ words_text said
  pub place : IsPlaceTextOf shown story at row.place

-- What is written is a row that says so of the entry at a place.
abbrev pub AddsEntry : Shown → Story → ℕ → Option (List ℕ) → Option (List ℕ) → Type 0
AddsEntry shown story at old new =
    (is_colored : Bool) × (row : RowText) × Says shown story at row × AddsRow is_colored row old new

-- What is written is a row for each of these places, in order, and nothing else.
abbrev pub AddsEntries : Shown → Story → List ℕ → Option (List ℕ) → Option (List ℕ) → Type 0
AddsEntries shown story [] old new = Keeps old new
AddsEntries shown story (at ∷ places) old new = (middle : Option (List ℕ))
    × AddsEntry shown story at old middle × AddsEntries shown story places middle new

-- The story is that of a log: which answer is that to which question, and whom each notify woke.
pub record IsStoryOf (log : List Entry) (story : Story) : Type 0 where
  pub contexts : AreContexts log MOST_THREADS (length log) story.contexts.items
  pub wakes : AreWakes log story.contexts.items story.wakes

-- A row for each entry that is chosen, by what the log says.
abbrev pub WritesRows : Shown → Look → Option (List ℕ) → Option (List ℕ) → Type 0
WritesRows shown look old new = (story : Story) × IsStoryOf shown.record.now.log story
    × AddsEntries shown story (chosen shown look) old new
