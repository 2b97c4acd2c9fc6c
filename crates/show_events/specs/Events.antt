-- The events of a record as JSON, a line each.
use Rattle.std.specs.Prelude.{ℕ, ◌≡◌, ◌==◌, if◌then◌else◌, List, [], ◌∷◌, ◌++◌, codes, flat_map, Option, Some, None}
use Rattle.std.specs.Fmt.{decimal}
use Rattle.std.specs.List.{enumerate_from, Contains}
use Rattle.std.specs.List.Sorted.{IsStrictlyIncreasing}
use Rattle.std.specs.Io.KnownBytes.{Appends}
use Rattle.serde_json.specs.Data.{string as string_data}
use Rattle.serde_json.specs.Written.{compact_text}
use Rattle.types.specs.declared.event.Entry.{Entry}
use Rattle.race_history.specs.declared.race.Race.{Race}
use Rattle.selection.specs.declared.choice.Look.{Look}
use Rattle.show_text.specs.Rows.{RowText}
use Rattle.show_rows.specs.declared.listing.Shown.{Shown}
use Rattle.show_rows.specs.declared.listing.Story.{Story}
use Rattle.show_rows.specs.Listing.{Says, IsStoryOf, chosen}
use Rattle.show_events.specs.Links.{AreLinks, Lasts, thread_at, in_list}
use Rattle.show_events.specs.declared.line.Front.{Front}
use Rattle.show_events.specs.declared.line.Front.TheVariants.{Open, Next, Close}
use Rattle.show_events.specs.declared.links.LinkKind.{LinkKind}
use Rattle.show_events.specs.declared.links.LinkKind.TheVariants as kinds
use Rattle.show_events.specs.declared.links.Link.{Link}

-- A text as JSON has it: in quotes, and with an escape for each character that can't stand in them.
abbrev pub quoted : List ℕ → List ℕ
quoted text = compact_text (string_data text)

-- The array is opened, goes on, or is closed.
abbrev pub front_byte : Front → ℕ
front_byte Open = 91
front_byte Next = 44
front_byte Close = 93

-- A page would end its data at a `<`, and a line feed is no part of a line.
abbrev pub tame : ℕ → List ℕ
tame b = if b == 60 then codes "\\u003c" else if b == 10 then [] else b ∷ []

abbrev pub line_text : Front → List ℕ → List ℕ
line_text front json = front_byte front ∷ flat_map tame json ++ 10 ∷ []

-- What the one process of all threads is called.
abbrev pub process_json : List ℕ
process_json =
    codes "{\"ph\":\"M\",\"name\":\"process_name\",\"ts\":0,\"pid\":1,\"tid\":0,\"args\":{\"name\":\"wathread\"}}"

-- The front of an entry: these words, its number and how long it is;
abbrev pub named_json : List ℕ → ℕ → ℕ → List ℕ
named_json words at length = codes "{\"ph\":\"X\",\"name\":" ++ (words ++ (codes ",\"cat\":\"entry\",\"ts\":"
    ++ (decimal at ++ (codes ",\"dur\":" ++ decimal length))))

-- and its end: its thread, its line and where it was made.
abbrev pub placed_json : ℕ → ℕ → List ℕ → List ℕ
placed_json thread line place = codes ",\"pid\":1,\"tid\":" ++ (decimal thread ++ (codes ",\"args\":{\"line\":"
    ++ (decimal line ++ (codes ",\"place\":" ++ place))))

abbrev pub entry_json : RowText → ℕ → ℕ → List ℕ
entry_json row at length =
    named_json (quoted row.words) at length ++ (placed_json row.thread row.line (quoted row.place) ++ codes "}}")

-- The name of a thread.
abbrev pub name_json : ℕ → List ℕ
name_json thread = codes "{\"ph\":\"M\",\"name\":\"thread_name\",\"ts\":0,\"pid\":1,\"tid\":" ++ (decimal thread
    ++ (codes ",\"args\":{\"name\":\"t" ++ (decimal thread ++ codes "\"}}")))

-- Where an arrow begins: what it means, its number, and the thread and the number of the entry.
abbrev pub start_json : List ℕ → ℕ → ℕ → ℕ → List ℕ
start_json kind id thread at = codes "{\"ph\":\"s\",\"name\":\"" ++ (kind ++ (codes "\",\"cat\":\"flow\",\"id\":"
    ++ (decimal id ++ (codes ",\"ts\":" ++ (decimal at ++ (codes ",\"pid\":1,\"tid\":" ++ (decimal thread
    ++ codes "}")))))))

-- Where it ends: at the entry there.
abbrev pub finish_json : List ℕ → ℕ → ℕ → ℕ → List ℕ
finish_json kind id thread at = codes "{\"ph\":\"f\",\"name\":\"" ++ (kind ++ (codes "\",\"cat\":\"flow\",\"id\":"
    ++ (decimal id ++ (codes ",\"bp\":\"e\",\"ts\":" ++ (decimal at ++ (codes ",\"pid\":1,\"tid\":" ++ (decimal thread
    ++ codes "}")))))))

abbrev pub kind_text : LinkKind → List ℕ
kind_text kinds.Wake = codes "wakes"
kind_text kinds.Spawn = codes "spawns"
kind_text kinds.Race = codes "races"

-- Steps, one for each of these, in order.
abbrev pub InTurn : {X S : Type 0} → (X → S → S → Type 0) → List X → S → S → Type 0
InTurn does [] old new = new ≡ old
InTurn {X} {S} does (x ∷ xs) old new = (middle : S) × does x old middle × InTurn does xs middle new

abbrev pub IsThreadAt : List Entry → ℕ → ℕ → Type 0
IsThreadAt log at thread = thread_at log at ≡ Some thread

-- Of each entry its thread, if its place is one of these.
pub record AreAmong (log : List Entry) (places : List ℕ) (among : List (Option ℕ)) : Type 0 where
  pub these : (at thread : ℕ) → Contains places at → IsThreadAt log at thread → in_list among at ≡ Some thread
  pub no_other : (at : ℕ) → (Contains places at → ⊥) → in_list among at ≡ None

-- The threads of the entries at these places, each once, in the order of their numbers.
pub record AreThreadsOf (log : List Entry) (places threads : List ℕ) : Type 0 where
  pub ascend : IsStrictlyIncreasing threads
  pub each : (at thread : ℕ) → Contains places at → IsThreadAt log at thread → Contains threads thread
  pub no_other : (thread : ℕ) → Contains threads thread
      → (at : ℕ) × Contains places at × IsThreadAt log at thread

-- What is written is the name of this thread.
abbrev pub AddsName : ℕ → Option (List ℕ) → Option (List ℕ) → Type 0
AddsName thread old new = Appends old new (line_text Next (name_json thread))

-- What is written is a line that says so of the entry at a place, and how long it is.
abbrev pub AddsEvent : Shown → Story → ℕ → Option (List ℕ) → Option (List ℕ) → Type 0
AddsEvent shown story at old new = (row : RowText) × (length : ℕ) × Says shown story at row
    × Lasts story.contexts.items at length × Appends old new (line_text Next (entry_json row at length))

-- An arrow is two lines, where both of its ends are known.
abbrev pub arrow_text : Option ℕ → Option ℕ → ℕ → Link → List ℕ
arrow_text (Some from) (Some to) number link = line_text Next (start_json (kind_text link.kind) number from link.from)
    ++ line_text Next (finish_json (kind_text link.kind) number to link.to)
arrow_text from to number link = []

-- What is written is the arrow of a link with its number, between entries of which the threads are known.
abbrev pub AddsArrow : List (Option ℕ) → ℕ × Link → Option (List ℕ) → Option (List ℕ) → Type 0
AddsArrow among (number, link) old new =
    Appends old new (arrow_text (in_list among link.from) (in_list among link.to) number link)

-- What is written is the events of the entries at these places: the process and their threads, an event for each place,
-- in order, and the arrows between them, of these races too.
pub record AddsEvents (shown : Shown) (races : List Race) (places : List ℕ) (old new : Option (List ℕ)) : Type 0 where
  pub story : Story
  pub of_log : IsStoryOf shown.record.now.log story
  pub links : List Link
  pub of_story : AreLinks shown.record.now.log story races links
  pub threads : List ℕ
  pub of_places : AreThreadsOf shown.record.now.log places threads
  pub among : List (Option ℕ)
  pub are_among : AreAmong shown.record.now.log places among
  pub opened : Option (List ℕ)
  pub opens : Appends old opened (line_text Open process_json)
  pub named : Option (List ℕ)
  pub names : InTurn AddsName threads opened named
  pub said : Option (List ℕ)
  pub says : InTurn (AddsEvent shown story) places named said
  pub drawn : Option (List ℕ)
  pub draws : InTurn (AddsArrow among) (enumerate_from 0 links) said drawn
  pub closes : Appends drawn new (line_text Close [])
