-- What is told of a thread that was stopped: where it stood, and who made the bytes there what they are.
use Rattle.std.specs.Prelude.{ℕ, ◌≡◌, ◌⊎◌, ◌↔◌, true, ◌==◌, ◌++◌, [], if◌then◌else◌, List, Option, Some, None, codes, length}
use Rattle.std.specs.Fmt.{decimal}
use Rattle.std.specs.List.{AllZip, concat, range_with_len, slice_get}
use Rattle.std.specs.Io.KnownBytes.{Appends}
use Rattle.types.specs.declared.event.Entry.{Entry}
use Rattle.types.specs.declared.outcome.Outcome.{Outcome}
use Rattle.types.specs.declared.outcome.Outcome.TheVariants as outcomes
use Rattle.types.specs.declared.outcome.ThreadReport.{ThreadReport}
use Rattle.types.specs.Outcomes.{outcome_text}
use Rattle.selection.specs.declared.choice.NumberSpan.{NumberSpan}
use Rattle.selection.specs.declared.spans.Spans.{Spans}
use Rattle.show_rows.specs.declared.listing.Shown.{Shown}
use Rattle.show_rows.specs.declared.listing.Story.{Story}
use Rattle.show_rows.specs.Listing.{line_at}
use Rattle.show_named.specs.declared.data_map.DataMap.{DataMap}
use Rattle.show_named.specs.Rows.{IsEntryText}
use Rattle.show_named.specs.declared.lasts.Act.TheVariants as acts
use Rattle.show_waits.specs.declared.stands.Stand.{Stand}
use Rattle.show_waits.specs.declared.waits.ToldWait.{ToldWait}
use Rattle.show_named.specs.Lasts.{IsLast, IsLastIfAny}
use Rattle.show_waits.specs.Stands.{IsStand, TouchesNothing}
use Rattle.show_waits.specs.CycleTexts.{AreCycles}
use Rattle.show_named.specs.LastTexts.{SaysLast}

abbrev pub times_text : ℕ → List ℕ
times_text n = if n == 1 then codes "once" else decimal n ++ codes " times"

-- The last write at these addresses is the thread's own.
pub record IsOwn (log : List Entry) (n : ℕ) (addrs : NumberSpan) : Type 0 where
  pub place : ℕ
  pub last : IsLast (acts.Write addrs) log (length log) place
  pub own : last.entry.thread ≡ n

-- Who wrote last the bytes at which a thread stands, and of the others where that is the thread itself, and who notified
-- their first address last.
pub record AreToldLasts (n : ℕ) (log : List Entry) (w : ToldWait) : Type 0 where
  pub written : IsLastIfAny (acts.Write w.stand.addrs) log (length log) w.written
  pub own : (w.is_own ≡ true) ↔ IsOwn log n w.stand.addrs
  pub other : IsLastIfAny (acts.OtherWrite w.stand.addrs n) log (length log) w.other
  pub notified : IsLastIfAny (acts.Notify w.stand.addrs.first) log (length log) w.notified

-- What a thread waits for that was stopped: where it stands, beside the memory that is left out, and who was there last.
pub record IsToldWait (n : ℕ) (log : List Entry) (out : Option Spans) (w : ToldWait) : Type 0 where
  pub stand : IsStand n log out w.stand
  pub lasts : AreToldLasts n log w

-- There it is told who was the last one of the others.
pub record SaysLastOther (shown : Shown) (map : DataMap) (story : Story) (n : ℕ) (addrs : NumberSpan)
    (text : List ℕ) : Type 0 where
  pub own : IsOwn shown.record.now.log n addrs
  pub other : List ℕ
  pub other_is : SaysLast shown map story (length shown.record.now.log) (acts.OtherWrite addrs n) (codes "nobody") other
  pub words : text ≡ codes "  last write there of another thread: " ++ (other ++ codes "\n")

abbrev pub SaysOther : Shown → DataMap → Story → ℕ → NumberSpan → List ℕ → Type 0
SaysOther shown map story n addrs text = SaysLastOther shown map story n addrs text
    ⊎ ((IsOwn shown.record.now.log n addrs → ⊥) × (text ≡ []))

-- What is told of where a thread stands, of these texts: of its last entry, and of who was there last.
abbrev pub stand_text : Shown → Stand → List ℕ → List ℕ → List ℕ → List ℕ → List ℕ
stand_text shown stand last written other notified =
    last ++ (codes "\n  touches nothing else since entry " ++ (decimal (line_at shown stand.since)
    ++ (codes " (" ++ (times_text stand.times ++ (codes ")\n  last write there: " ++ (written
    ++ (codes "\n" ++ (other ++ (codes "  last notify there: " ++ (notified ++ codes "\n"))))))))))

-- Where a thread stands that stands so: its last entry that touches bytes, since which line it touches no others, and how
-- often; then who wrote them last, and of the others where that is the thread itself, and who notified their first address
-- last.
pub record SaysStandAt (shown : Shown) (map : DataMap) (story : Story) (n : ℕ) (stand : Stand) (text : List ℕ) : Type 0 where
  pub last : List ℕ
  pub last_is : IsEntryText shown map story stand.last last
  pub written : List ℕ
  pub written_is : SaysLast shown map story (length shown.record.now.log) (acts.Write stand.addrs) (codes "nobody") written
  pub other : List ℕ
  pub other_is : SaysOther shown map story n stand.addrs other
  pub notified : List ℕ
  pub notified_is : SaysLast shown map story (length shown.record.now.log) (acts.Notify stand.addrs.first) (codes "nobody") notified
  pub words : text ≡ stand_text shown stand last written other notified

-- Where it stands, beside the memory that is left out.
abbrev pub SaysStand : Shown → DataMap → Story → Option Spans → ℕ → List ℕ → Type 0
SaysStand shown map story out n text =
    (stand : Stand) × IsStand n shown.record.now.log out stand × SaysStandAt shown map story n stand text

-- A thread that touches no bytes beside those that are left out stands nowhere.
abbrev pub nowhere_text : Option Spans → List ℕ
nowhere_text None = codes "it touched nothing\n"
nowhere_text (Some addrs) = codes "it touched nothing but what is left out\n"

abbrev pub SaysNowhere : Shown → Option Spans → ℕ → List ℕ → Type 0
SaysNowhere shown out n text = TouchesNothing n shown.record.now.log out × (text ≡ nowhere_text out)

-- What is told of a thread that ended so: of one that wasn't stopped nothing.
abbrev pub SaysEnd : Shown → DataMap → Story → Option Spans → ℕ → Outcome → List ℕ → Type 0
SaysEnd shown map story out n (outcomes.Stop stop) text = (where_is : List ℕ)
    × (SaysStand shown map story out n where_is ⊎ SaysNowhere shown out n where_is)
    × (text ≡ codes "t" ++ (decimal n ++ (codes ": " ++ (outcome_text (outcomes.Stop stop) ++ (codes ": " ++ where_is)))))
SaysEnd shown map story out n outcome text = text ≡ []

-- What is told of this thread, as the record's end has it.
abbrev pub SaysWait : Shown → DataMap → Story → Option Spans → ℕ → List ℕ → Type 0
SaysWait shown map story out n text = (report : ThreadReport) × (slice_get shown.record.now.ends n ≡ Some report)
    × SaysEnd shown map story out n report.outcome text

-- That of each thread, in order, and then the cycles in which threads wait for one another.
abbrev pub WritesWaits : Shown → DataMap → Story → Option Spans → Option (List ℕ) → Option (List ℕ) → Type 0
WritesWaits shown map story out old new = (texts : List (List ℕ))
    × AllZip (SaysWait shown map story out) (range_with_len 0 (length shown.record.now.ends)) texts
    × (cycles : List (List ℕ)) × AreCycles shown out cycles × Appends old new (concat texts ++ concat cycles)
