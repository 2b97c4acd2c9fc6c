-- What is written of races.
use Rattle.std.specs.Prelude.{ℕ, ◌≡◌, ◌==◌, nat_lt, if◌then◌else◌, Bool}
use Rattle.std.specs.Prelude.{List, [], ◌++◌, codes, length, Option, Some, None, option_map}
use Rattle.std.specs.List.{slice_get, AllZip, concat}
use Rattle.std.specs.Fmt.{decimal}
use Rattle.std.specs.Io.KnownBytes.{Appends}
use Rattle.types.specs.declared.event.Entry.{Entry}
use Rattle.types.specs.declared.event.Event.{Event}
use Rattle.types.specs.declared.event.Event.TheVariants.{Grow, Load, Store, Rmw, Cmpxchg, Ask}
use Rattle.types.specs.declared.event.Question.TheVariants.{Wait, Notify, Spawn}
use Rattle.race_history.specs.declared.access.Site.{Site}
use Rattle.race_history.specs.declared.access.AccessKind.{AccessKind}
use Rattle.race_history.specs.declared.access.AccessKind.TheVariants.{Atomic}
use Rattle.race_history.specs.declared.race.Race.{Race}
use Rattle.show_rows.specs.declared.listing.Shown.{Shown}
use Rattle.show_rows.specs.declared.listing.Story.{Story}
use Rattle.show_races.specs.declared.found.RecordRaces.{RecordRaces}
use Rattle.show_races.specs.Releases.{IsNextWrite, changes_pages}
use Rattle.show_named.specs.declared.data_map.DataMap.{DataMap}
use Rattle.show_named.specs.Rows.{IsEntryText}
use Rattle.show_stacks.specs.declared.texts.StacksView.{StacksView}
use Rattle.show_race_words.specs.Blocks.{IsBlockText}
use Rattle.show_race_words.specs.Spots.{AreAt, IsSpot}
use Rattle.show_race_words.specs.Stacks.{AreStacks}
use Rattle.show_race_words.specs.Starts.{IsStartText}

-- Nothing leads from a write before the second entry to its thread.
abbrev pub leads_text : Bool → ℕ → List ℕ
leads_text is_between second = if is_between then codes ", and t" ++ (decimal second ++ codes " had seen nothing of that") else []

-- What such an entry is called.
abbrev pub act_of : Event → List ℕ
act_of (Grow more) = codes "grow"
act_of (Ask (Wait addr width expected timeout)) = codes "wait"
act_of (Ask (Notify addr count)) = codes "notify"
act_of (Ask (Spawn arg)) = codes "spawn"
act_of _ = codes "atomic write"

abbrev pub act_in : Option Entry → List ℕ
act_in None = codes "atomic write"
act_in (Some made) = act_of made.event

abbrev pub act_at : List Entry → ℕ → List ℕ
act_at log at = act_in (slice_get log at)

-- What is said of a thread's next entry that others may read from: where it was made, and that the second entry's thread
-- had seen nothing of it, where it is before that; or that there is none.
abbrev pub IsNextText : Shown → Story → Race → ℕ → Option ℕ → List ℕ → Type 0
IsNextText shown story r second None text = text ≡ codes " makes no atomic write, grow, wait, notify or spawn behind it"
IsNextText shown story r second (Some at) text = (spot : List ℕ) × IsSpot shown story at spot
    × (text ≡ codes "'s next " ++ (act_at shown.record.now.log at ++ (codes " is " ++ (spot
    ++ leads_text (nat_lt at r.second) second))))

abbrev pub order_text : ℕ → ℕ → List ℕ → List ℕ
order_text first second next = codes "  nothing told t" ++ (decimal second ++ (codes " that t"
    ++ (decimal first ++ (codes " was done: t" ++ (decimal first ++ (next ++ codes "\n"))))))

-- What would have ordered the first entry before the second.
pub record IsOrderText (shown : Shown) (story : Story) (sites : List Site) (r : Race) (text : List ℕ) : Type 0 where
  pub first : Entry
  pub second : Entry
  pub at : AreAt shown.record.now.log r first second
  pub write : Option ℕ
  pub write_is : IsNextWrite shown.record.now.log sites first.thread r.first write
  pub next : List ℕ
  pub next_is : IsNextText shown story r second.thread write next
  pub is : text ≡ order_text first.thread second.thread next

-- What an entry is called whose bounds check looks at the number of pages.
abbrev pub look_of : Event → List ℕ
look_of (Load addr width reach) = codes "load"
look_of (Store addr width reach value) = codes "store"
look_of (Rmw op addr width value) = codes "read-modify-write"
look_of (Cmpxchg addr width expected replacement) = codes "compare-exchange"
look_of (Ask (Wait addr width expected timeout)) = codes "wait"
look_of (Ask (Notify addr count)) = codes "notify"
look_of _ = codes "access"

abbrev pub looks : Entry → Entry → List ℕ
looks looker changer = codes "  t" ++ (decimal looker.thread ++ (codes "'s " ++ (look_of looker.event
    ++ (codes " looks at the number of pages, which t" ++ (decimal changer.thread ++ codes " changes\n")))))

-- That one looks at the number of pages and the other changes it, where that is the race. No grow touches a byte.
abbrev pub look_text : Entry → Entry → List ℕ
look_text first second = if changes_pages first then looks second first
    else if changes_pages second then looks first second else []

-- It is that text, of the two entries.
abbrev pub IsLookText : Shown → Race → List ℕ → Type 0
IsLookText shown r text = (first second : Entry) × AreAt shown.record.now.log r first second × (text ≡ look_text first second)

-- Which entries started the threads of the two entries.
pub record AreStarts (shown : Shown) (story : Story) (r : Race) (text : List ℕ) : Type 0 where
  pub first : Entry
  pub second : Entry
  pub at : AreAt shown.record.now.log r first second
  pub one : List ℕ
  pub one_is : IsStartText shown story first.thread one
  pub other : List ℕ
  pub other_is : IsStartText shown story second.thread other
  pub is : text ≡ one ++ other

-- Two atomic accesses race where they are of other bytes.
abbrev pub name_of : Option AccessKind → Option AccessKind → List ℕ
name_of (Some Atomic) (Some Atomic) = codes "mixed"
name_of first second = codes "race"

abbrev pub kind_of : List Site → ℕ → Option AccessKind
kind_of sites at = option_map (λ s. s.kind) (slice_get sites at)

abbrev pub name_text : List Site → Race → List ℕ
name_text sites r = name_of (kind_of sites r.first) (kind_of sites r.second)

-- A race: its two entries with the names of their data, what they do with the number of pages, the calls that led to
-- them, the block of the heap in which they touch a byte, what would have ordered them, and which entries started their
-- threads.
pub record SaysRace (shown : Shown) (map : DataMap) (story : Story) (stacks : StacksView) (sites : List Site) (r : Race)
    (text : List ℕ) : Type 0 where
  pub one : List ℕ
  pub one_is : IsEntryText shown map story r.first one
  pub other : List ℕ
  pub other_is : IsEntryText shown map story r.second other
  pub look : List ℕ
  pub look_is : IsLookText shown r look
  pub calls : List ℕ
  pub calls_are : AreStacks shown story stacks r calls
  pub block : List ℕ
  pub block_is : IsBlockText shown stacks r block
  pub order : List ℕ
  pub order_is : IsOrderText shown story sites r order
  pub starts : List ℕ
  pub starts_are : AreStarts shown story r starts
  pub is : text ≡ name_text sites r ++ (codes ": " ++ (one ++ (codes "; " ++ (other ++ (codes "\n"
      ++ (look ++ (calls ++ (block ++ (order ++ starts)))))))))

-- Whether that are all, where that isn't clear.
abbrev pub end_text : Bool → ℕ → List ℕ
end_text is_cut count = if is_cut then codes "not all: more than " ++ (decimal count ++ codes ", by `--most`\n")
    else if count == 0 then codes "no race\n" else []

-- What tells more, where these are not all.
abbrev pub more_text : Bool → ℕ → List ℕ
more_text is_cut count = if is_cut then
    codes "not all: more than " ++ (decimal count ++ codes "; `races` tells more of a record\n") else []

-- A paragraph is written for each race, in order; and this behind them.
abbrev pub WritesEach : Shown → DataMap → Story → StacksView → RecordRaces → Option (List ℕ) → Option (List ℕ)
    → Type 0
WritesEach shown map story stacks races old new = (texts : List (List ℕ))
    × AllZip (SaysRace shown map story stacks races.sites.items) races.pairs.items texts × Appends old new (concat texts)

abbrev pub WritesBefore : List ℕ → Shown → DataMap → Story → StacksView → RecordRaces → Option (List ℕ) → Option (List ℕ)
    → Type 0
WritesBefore last shown map story stacks races old new = (texts : List (List ℕ))
    × AllZip (SaysRace shown map story stacks races.sites.items) races.pairs.items texts × Appends old new (concat texts ++ last)

-- Behind them stands whether that are all.
abbrev pub TellsRaces : Shown → DataMap → Story → StacksView → RecordRaces → Option (List ℕ) → Option (List ℕ)
    → Type 0
TellsRaces shown map story stacks races old new =
    WritesBefore (end_text races.is_cut (length races.pairs.items)) shown map story stacks races old new

-- Of a run that was found for a race, what tells more.
abbrev pub TellsFound : Shown → DataMap → Story → StacksView → RecordRaces → Option (List ℕ) → Option (List ℕ)
    → Type 0
TellsFound shown map story stacks races old new =
    WritesBefore (more_text races.is_cut (length races.pairs.items)) shown map story stacks races old new
