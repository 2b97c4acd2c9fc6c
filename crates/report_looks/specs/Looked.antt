-- What is asked for of a record's run, and what is printed of it.
use Rattle.std.specs.Prelude.{ℕ, ◌≡◌, ◌+◌, ◌-◌, ◌==◌, min, not, Bool, true, false, cond, List, [], length, position, codes}
use Rattle.std.specs.Prelude.{Option, Some, None, is_some}
use Rattle.std.specs.Io.KnownBytes.{Appends}
use Rattle.std.specs.List.{AllZip, list_any, slice_get}
use Rattle.types.specs.declared.parts.Parts.{Parts}
use Rattle.types.specs.declared.event.Entry.{Entry}
use Rattle.types.specs.declared.event.Event.{Event}
use Rattle.types.specs.declared.event.Event.TheVariants.{Ask}
use Rattle.types.specs.declared.event.Question.TheVariants.{Leave}
use Rattle.types.specs.declared.outcome.Outcome.{Outcome}
use Rattle.types.specs.declared.outcome.Outcome.TheVariants as outcomes
use Rattle.types.specs.declared.outcome.ThreadReport.{ThreadReport}
use Rattle.race_history.specs.declared.race.Race.{Race}
use Rattle.replay_text.specs.declared.parts.RecordParts.{RecordParts}
use Rattle.replay_text.specs.Versions.{header_count}
use Rattle.selection.specs.declared.choice.Look.{Look}
use Rattle.selection.specs.declared.choice.NumberSpan.{NumberSpan}
use Rattle.selection.specs.declared.spans.Spans.{Spans}
use Rattle.selection.specs.Choices.{span_of, AreOfAny}
use Rattle.report_command.specs.declared.form.Form.{Form}
use Rattle.report_command.specs.declared.form.Form.TheVariants.{Lines, Json}
use Rattle.report_command.specs.declared.places.Data.{Data}
use Rattle.report_command.specs.declared.places.Data.TheVariants.{At, Named}
use Rattle.report_command.specs.declared.places.When.{When}
use Rattle.report_command.specs.declared.places.When.TheVariants.{Line, End, Trap}
use Rattle.report_command.specs.declared.show.At as At
use Rattle.report_command.specs.declared.show.ShowLook.{ShowLook}
use Rattle.report_command.specs.declared.show.RecordView.{RecordView}
use Rattle.report_command.specs.declared.show.RecordView.TheVariants as views
use Rattle.report_command.specs.Views.{path_of}
use Rattle.report_jobs.specs.Prints.{WriterChange, IsSaid, changed}
use Rattle.report_jobs.specs.declared.streams.Streams.{Streams}
use Rattle.dwarf_data.specs.declared.place.ByteRange.{ByteRange}
use Rattle.dwarf_data.specs.Within.{IsWithinOne}
use Rattle.show_events.specs.Written.{WritesPage, WritesTrace}
use Rattle.show_events.specs.declared.run.MomentText.{MomentText}
use Rattle.show_moments.specs.declared.moment.Moment.{Moment}
use Rattle.show_named.specs.declared.data_map.DataMap.{DataMap}
use Rattle.show_named.specs.declared.lasts.SoughtWrite.{SoughtWrite}
use Rattle.show_named.specs.Folds.{WritesFolded}
use Rattle.show_named.specs.Rows.{WritesRows}
use Rattle.show_rows.specs.declared.rows.Row.{Row}
use Rattle.show_rows.specs.declared.listing.Shown.{Shown}
use Rattle.show_rows.specs.declared.listing.Story.{Story}
use Rattle.show_rows.specs.Listing.{IsStoryOf}
use Rattle.show_named.specs.LastTexts.{WritesLast}
use Rattle.show_waits.specs.Waits.{WritesWaits}
use Rattle.show_said.specs.declared.said.Said.{Said}
use Rattle.show_said.specs.Ports.{IsOwn}
use Rattle.report_looks.specs.declared.wanted.LookRequest.{LookRequest}
use Rattle.report_looks.specs.declared.wanted.Here.{Here}
use Rattle.report_looks.specs.declared.wanted.Wanted.{Wanted}
use Rattle.report_looks.specs.declared.wanted.Wanted.TheVariants as wanted
use Rattle.report_looks.specs.PageMoments.{AreOfPage}
use Rattle.report_objects.specs.RaceObjects.{WritesObject}
use Rattle.report_looks.specs.RunMoments.{IsMomentIn, WritesHere}
use Rattle.report_looks.specs.Addresses.{AreAddresses}
use Rattle.report_looks.specs.Chosen.{chooses_all}
use Rattle.report_looks.specs.Saying.{is_before, is_shown, WritesSaid, WritesSaidIf}
use Rattle.report_looks.specs.Raced.{IsSeen}
use Rattle.report_objects.specs.Scenes.{WritesLastObject}

abbrev pub is_trap : Outcome → Bool
is_trap (outcomes.Trap trap) = true
is_trap (outcomes.Stop stop) = false
is_trap (outcomes.Done value) = false

abbrev pub has_trapped : Option ThreadReport → Bool
has_trapped (Some report) = is_trap report.outcome
has_trapped None = false

abbrev pub leaves_so : Event → Option ThreadReport → Bool
leaves_so (Ask Leave) report = has_trapped report
leaves_so event report = false

-- A thread that trapped leaves.
abbrev pub leaves_trapped : List ThreadReport → Entry → Bool
leaves_trapped ends e = leaves_so e.event (slice_get ends e.thread)

-- The place of the log that a moment stands before: that of the entry on a line, behind the last entry, or that of the
-- first thread's leave that trapped, if one did.
abbrev pub place_in : RecordParts → When → Option ℕ
place_in r (Line line) = Some (min (line - (header_count r.version + 1)) (length r.log))
place_in r End = Some (length r.log)
place_in r Trap = position (leaves_trapped r.ends) r.log

abbrev pub is_end : When → Bool
is_end (Line line) = false
is_end End = true
is_end Trap = false

-- The moment that is asked for, with its place in this record.
pub record IsHere (r : RecordParts) (at : At.At) (here : Here) : Type 0 where
  pub place : place_in r at.when ≡ Some here.place
  pub end : here.is_end ≡ is_end at.when
  pub addr : here.bytes.addr ≡ at.addr
  pub count : here.bytes.count ≡ at.count
  pub raw : here.is_raw ≡ at.is_raw
  pub text : here.text ≡ at.text
  pub form_is : here.form ≡ at.form

-- What is wanted of a view, with addresses and places of this record.
abbrev pub IsWanted : RecordParts → DataMap → RecordView → Wanted → Type 0
IsWanted r map (views.Write write) w = (sought : SoughtWrite) × (w ≡ wanted.Write sought write.form)
    × AreAddresses map write.bytes sought.addrs × (place_in r write.before ≡ Some sought.before)
IsWanted r map (views.Moment at) w = (here : Here) × (w ≡ wanted.Moment here) × IsHere r at here
IsWanted r map view w = w ≡ wanted.Entries view

-- Rows, a page and a trace leave out what a library keeps for itself, where no bytes are asked for; a moment does, where it
-- isn't asked for unfolded.
abbrev pub leaves_out : RecordView → List Data → Bool
leaves_out views.Rows bytes = length bytes == 0
leaves_out (views.Page path) bytes = length bytes == 0
leaves_out (views.Trace path) bytes = length bytes == 0
leaves_out (views.Moment at) bytes = not at.is_unfolded
leaves_out view bytes = false

-- The addresses that are left out: those that a library keeps for itself, if it leaves them out.
abbrev pub left_out : ShowLook → List NumberSpan → List NumberSpan
left_out how own = cond (leaves_out how.view how.bytes.items) own []

-- The look that is asked for, at these addresses, where a library keeps those for itself: where no lines or addresses are
-- given, all are chosen.
pub record IsLookAt (how : ShowLook) (addrs own : List NumberSpan) (look : Look) : Type 0 where
  pub lines : AreOfAny how.lines.items look.choice.lines
  pub threads : look.choice.threads.items ≡ how.threads.items
  pub addrs_are : AreOfAny addrs look.choice.addrs
  pub left_out_are : AreOfAny (left_out how own) look.choice.left_out
  pub width : look.width ≡ how.width
  pub color : look.color ≡ how.color

-- What is shown of a record, and how, where a library keeps these addresses for itself.
pub record IsAsked (r : RecordParts) (map : DataMap) (how : ShowLook) (own : List NumberSpan) (asked : LookRequest)
    : Type 0 where
  pub wanted_is : IsWanted r map how.view asked.wanted
  pub addrs : List NumberSpan
  pub addrs_are : AllZip (AreAddresses map) how.bytes.items addrs
  pub look_is : IsLookAt how addrs own asked.look

-- The words of the last entry before a place that writes there are written, or that none does: in lines, or as an object.
abbrev pub WritesLastIn : Form → Shown → DataMap → SoughtWrite → Option (List ℕ) → Option (List ℕ) → Type 0
WritesLastIn Lines shown map sought old new = (story : Story) × IsStoryOf shown.record.now.log story
    × WritesLast shown map story sought old new
WritesLastIn Json shown map sought old new = (story : Story) × IsStoryOf shown.record.now.log story
    × WritesLastObject shown map story sought old new

abbrev pub left_out_line : List ℕ
left_out_line = codes "entries in memory that a library keeps for itself are left out; --unfold has them\n"

-- Whether a thread was stopped.
abbrev pub is_stop : Outcome → Bool
is_stop (outcomes.Trap trap) = false
is_stop (outcomes.Stop stop) = true
is_stop (outcomes.Done value) = false

abbrev pub has_stopped : List ThreadReport → Bool
has_stopped ends = list_any (λ report. is_stop report.outcome) ends

-- Below the rows stands what each thread waits for that was stopped, where all entries are chosen and one was.
abbrev pub WritesBelow : Bool → Shown → DataMap → Option Spans → Option (List ℕ) → Option (List ℕ) → Type 0
WritesBelow true shown map out old new = (story : Story) × IsStoryOf shown.record.now.log story
    × WritesWaits shown map story out old new
WritesBelow false shown map out old new = new ≡ old

abbrev pub has_waits : Shown → Look → Bool
has_waits shown look = cond (chooses_all look.choice) (has_stopped shown.record.now.ends) false

abbrev pub WritesRowsOf : Shown → DataMap → Look → Option (List ℕ) → Option (List ℕ) → Type 0
WritesRowsOf shown map look old new = (between : Option (List ℕ)) × WritesRows shown map look old between
    × WritesBelow (has_waits shown look) shown map look.choice.left_out between new

-- Where addresses are left out, that is said.
abbrev pub SaysLeftOut : Option Spans → Option (List ℕ) → Option (List ℕ) → Type 0
SaysLeftOut None old new = new ≡ old
SaysLeftOut (Some addrs) old new = Appends old new left_out_line

-- The same, folded, and then whether addresses are left out.
abbrev pub WritesFoldedOf : Shown → DataMap → Look → Option (List ℕ) → Option (List ℕ) → Type 0
WritesFoldedOf shown map look old new = (rows : Option (List ℕ)) × WritesFolded shown map look old rows
    × (between : Option (List ℕ)) × SaysLeftOut look.choice.left_out rows between
    × WritesBelow (has_waits shown look) shown map look.choice.left_out between new

-- A page with its moments, and a trace, with the races that they mark.
abbrev pub WritesPageOf : Shown → DataMap → Look → Option (List ℕ) → Option (List ℕ) → Type 0
WritesPageOf shown map look old new = (races : List Race) × (moments : List MomentText)
    × AreOfPage shown map look races moments × WritesPage shown races moments look old new

abbrev pub WritesTraceOf : Shown → Look → Option (List ℕ) → Option (List ℕ) → Type 0
WritesTraceOf shown look old new = (races : List Race) × WritesTrace shown races look old new

-- Entries as rows, as an object, as a page, or as a trace; or what threads say, which is all of this.
abbrev pub WritesEntries : RecordView → Shown → DataMap → Look → List Said → Option (List ℕ) → Option (List ℕ) → Type 0
WritesEntries (views.Page path) shown map look all old new = WritesPageOf shown map look old new
WritesEntries (views.Trace path) shown map look all old new = WritesTraceOf shown look old new
WritesEntries views.Object shown map look all old new = WritesObject shown map look old new
WritesEntries views.Unfolded shown map look all old new = WritesRowsOf shown map look old new
WritesEntries views.Said shown map look all old new = WritesSaid (is_shown shown.record.now look.choice) all old new
WritesEntries view shown map look all old new = WritesFoldedOf shown map look old new

-- A moment, beside the memory that is left out, and below it what threads said before, where that is wanted.
abbrev pub WritesMomentOf : Shown → DataMap → Option Spans → Here → List Said → Option (List ℕ) → Option (List ℕ) → Type 0
WritesMomentOf shown map out here all old new = (moment : Moment)
    × IsMomentIn shown.code.now.parts.now shown.record.now here.place here.bytes moment
    × (between : Option (List ℕ)) × WritesHere shown.code.now.parts.now shown map out here moment old between
    × WritesSaidIf here.text (is_before shown.record.now here) all between new

-- What is wanted of a record is written.
abbrev pub WritesWanted : Shown → DataMap → Look → List Said → Wanted → Option (List ℕ) → Option (List ℕ) → Type 0
WritesWanted shown map look all (wanted.Write sought form) old new = WritesLastIn form shown map sought old new
WritesWanted shown map look all (wanted.Entries view) old new = WritesEntries view shown map look all old new
WritesWanted shown map look all (wanted.Moment here) old new = WritesMomentOf shown map look.choice.left_out here all old new

-- Whether what threads say is wanted.
abbrev pub says : RecordView → Bool
says views.Said = true
says (views.Moment at) = at.text
says view = false

-- A record as it is shown: its entries, their rows, and places of this module.
pub record IsShown (m : Parts) (r : RecordParts) (rows : List (Option Row)) (shown : Shown) : Type 0 where
  pub of_record : shown.record.now ≡ r
  pub of_rows : shown.rows.now ≡ rows
  pub of_module : shown.code.now.parts.now ≡ m

-- What is asked for of it is written.
abbrev pub PrintsAsked : Parts → RecordParts → List (Option Row) → DataMap → LookRequest → List Said → Option (List ℕ)
    → Option (List ℕ) → Type 0
PrintsAsked m r rows map asked all old new = (shown : Shown) × IsShown m r rows shown
    × WritesWanted shown map asked.look all asked.wanted old new

-- The same of a record's text: it is of a run of the module, whose bytes these are, and this is what is asked for of it.
pub record PrintsShow (bytes : List ℕ) (how : ShowLook) (out : WriterChange) (m : Parts) (saved : List ℕ)
    : Type 0 where
  pub record_is : RecordParts
  pub rows : List (Option Row)
  pub seen : IsSeen m saved record_is rows
  pub map : DataMap
  pub own : List NumberSpan
  pub own_is : IsOwn bytes own
  pub asked : LookRequest
  pub asked_is : IsAsked record_is map how own asked
  pub all : List Said
  pub said_is : IsSaid bytes record_is (says how.view) all
  pub prints : PrintsAsked m record_is rows map asked all out.old out.new

-- A page and a trace are written to the file that is made, and all else to standard output.
abbrev pub stream_of : RecordView → WriterChange → WriterChange → WriterChange
stream_of view out save = cond (is_some (path_of view)) save out

abbrev pub shown_on : {W E S : Type 0} → (W → Option (List ℕ)) → (S → Option (List ℕ)) → ShowLook → Streams W E S → Streams W E S
    → WriterChange
shown_on out save how old new = stream_of how.view (changed out old.out new.out) (changed save old.save new.save)
