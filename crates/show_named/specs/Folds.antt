-- Rounds that are made again and again have the rows of the first one, with how often; and an answer stands on the row of
-- its question, where nothing is between.
use Rattle.std.specs.Prelude.{ℕ, ◌≡◌, ◌≤◌, ◌+◌, ◌⊎◌, ◌==◌, ◌++◌, [], ◌∷◌, if◌then◌else◌, List, Option, Some, None, Bool, All, codes, length, take}
use Rattle.std.specs.Fmt.{decimal}
use Rattle.std.specs.List.{AllZip, concat, slice_get}
use Rattle.std.specs.Io.KnownBytes.{Keeps}
use Rattle.types.specs.declared.event.Entry.{Entry}
use Rattle.types.specs.declared.event.Question.{Question}
use Rattle.selection.specs.declared.choice.Look.{Look}
use Rattle.show_text.specs.declared.context.Context.TheVariants.{Asked}
use Rattle.show_text.specs.declared.words.Words.{Words}
use Rattle.show_text.specs.Woken.{woken_in}
use Rattle.show_text.specs.Words.{words_text}
use Rattle.show_text.specs.Rows.{RowText, AddsRow}
use Rattle.show_rows.specs.declared.listing.Shown.{Shown}
use Rattle.show_rows.specs.declared.listing.Story.{Story}
use Rattle.show_rows.specs.declared.rows.Row.{Row}
use Rattle.show_rows.specs.Listing.{AreWordsOf, IsStoryOf, call_of, chosen, context_at, line_at, place_of, row_at}
use Rattle.show_named.specs.declared.data_map.DataMap.{DataMap}
use Rattle.show_named.specs.declared.folds.Piece.{Piece}
use Rattle.show_named.specs.declared.folds.Piece.TheVariants as pieces
use Rattle.show_named.specs.declared.folds.FoldedRounds.{FoldedRounds}
use Rattle.show_named.specs.Rows.{AddsEntries, IsDataAt, SaysNamed, with_name}

-- Two entries are alike: what a row says of the one, it says of the other but for the line.
abbrev pub AreAlike : Shown → DataMap → Story → ℕ → ℕ → Type 0
AreAlike shown map story a b = (row : RowText) → SaysNamed shown map story a row
    → SaysNamed shown map story b (record row { line = line_at shown b })

-- All that a row has but its caller.
abbrev pub without_caller : Option Row → Option Row
without_caller None = None
without_caller (Some row) = Some (record row { caller = None })

-- The log and the rows say the same of both; the callers of their functions may differ where rows don't have them.
pub record AreToldAlike (shown : Shown) (story : Story) (a b : ℕ) : Type 0 where
  pub context : context_at story a ≡ context_at story b
  pub row : without_caller (row_at shown a) ≡ without_caller (row_at shown b)
  pub place : place_of shown story a ≡ place_of shown story b
  pub call : call_of shown story a ≡ call_of shown story b
  pub woken : woken_in story.wakes a ≡ []
  pub woken_too : woken_in story.wakes b ≡ []

-- A round is made once more: its entries are alike to those of the first one, in order, and there are as many.
abbrev pub Repeats : Shown → DataMap → Story → List ℕ → List ℕ → Type 0
Repeats shown map story first next = AllZip (AreAlike shown map story) first next

-- The entry at a place is of this thread.
abbrev pub IsBy : Shown → ℕ → ℕ → Type 0
IsBy shown thread at = (made : Entry) → slice_get shown.record.now.log at ≡ Some made → made.thread ≡ thread

abbrev pub AreOfOne : Shown → List ℕ → Type 0
AreOfOne shown places = (thread : ℕ) × All (IsBy shown thread) places

-- These entries are so many rounds of one thread: the first one, and the others, which repeat it. So no entry of another
-- thread is between them.
pub record AreRounds (shown : Shown) (map : DataMap) (story : Story) (first : List ℕ) (times : ℕ) (part : List ℕ) : Type 0 where
  pub of_one : AreOfOne shown first
  pub others : List (List ℕ)
  pub all : part ≡ first ++ concat others
  pub count : times ≡ length others + 1
  pub repeat : All (Repeats shown map story first) others

-- What stands behind the last row of a round: how often it is made, if that is more than once.
abbrev pub often_text : ℕ → ℕ → List ℕ
often_text length times = if times == 1 then [] else if length == 1 then codes " .. " ++ decimal times ++ codes " times"
    else codes " .. these " ++ decimal length ++ codes " rows " ++ decimal times ++ codes " times"

-- What is written is a row that says so of the entry at a place, with this behind its words.
abbrev pub AddsNoted : Shown → DataMap → Story → List ℕ → ℕ → Option (List ℕ) → Option (List ℕ) → Type 0
AddsNoted shown map story note at old new = (is_colored : Bool) × (row : RowText) × SaysNamed shown map story at row
    × AddsRow is_colored (with_name row note) old new

-- Rounds: a row for each entry of the first one, and behind the last one how often they are made.
pub record AddsRounds (shown : Shown) (map : DataMap) (story : Story) (part : List ℕ) (old new : Option (List ℕ)) : Type 0 where
  pub front : List ℕ
  pub last : ℕ
  pub times : ℕ
  pub rounds : AreRounds shown map story (front ++ last ∷ []) times part
  pub between : Option (List ℕ)
  pub before : AddsEntries shown map story front old between
  pub behind : AddsNoted shown map story (often_text (length front + 1) times) last between new

-- The words of the entry at a place, with the name of its data.
pub record AreNamedWords (shown : Shown) (map : DataMap) (story : Story) (at : ℕ) (text : List ℕ) : Type 0 where
  pub made : Entry
  pub stands : slice_get shown.record.now.log at ≡ Some made
  pub said : Words
  pub words_of : AreWordsOf shown story at made said
  pub name : List ℕ
  pub name_is : IsDataAt shown map at name
  pub is : text ≡ words_text said ++ name

-- The one is a question, and the other one is its answer.
abbrev pub IsAnswerTo : Story → ℕ → ℕ → Type 0
IsAnswerTo story asked told = (question : Question) × (context_at story told ≡ Asked question asked)

-- A question and its answer: the row of the question, with the words of the answer behind.
pub record AddsAnswered (shown : Shown) (map : DataMap) (story : Story) (part : List ℕ) (old new : Option (List ℕ)) : Type 0 where
  pub asked : ℕ
  pub told : ℕ
  pub both : part ≡ asked ∷ told ∷ []
  pub answers : IsAnswerTo story asked told
  pub words : List ℕ
  pub words_are : AreNamedWords shown map story told words
  pub row : AddsNoted shown map story (codes ", " ++ words) asked old new

abbrev pub AddsPart : Shown → DataMap → Story → List ℕ → Option (List ℕ) → Option (List ℕ) → Type 0
AddsPart shown map story part old new = AddsRounds shown map story part old new ⊎ AddsAnswered shown map story part old new

-- What is written is what stands for each of these parts, in order, and nothing else.
abbrev pub AddsParts : Shown → DataMap → Story → List (List ℕ) → Option (List ℕ) → Option (List ℕ) → Type 0
AddsParts shown map story [] old new = Keeps old new
AddsParts shown map story (part ∷ parts) old new = (middle : Option (List ℕ))
    × AddsPart shown map story part old middle × AddsParts shown map story parts middle new

-- What stands for some entries: each is in one part, in order.
abbrev pub AddsFolded : Shown → DataMap → Story → List ℕ → Option (List ℕ) → Option (List ℕ) → Type 0
AddsFolded shown map story places old new = (parts : List (List ℕ)) × (concat parts ≡ places)
    × AddsParts shown map story parts old new

-- What stands for the entries that are chosen, by what the log says.
abbrev pub WritesFolded : Shown → DataMap → Look → Option (List ℕ) → Option (List ℕ) → Type 0
WritesFolded shown map look old new = (story : Story) × IsStoryOf shown.record.now.log story
    × AddsFolded shown map story (chosen shown look) old new

-- The rounds with which entries begin.
pub record IsRoundsOf (shown : Shown) (map : DataMap) (story : Story) (places : List ℕ)
    (r : FoldedRounds) : Type 0 where
  pub some : 1 ≤ r.length
  pub within : r.count ≤ length places
  pub long : r.length ≤ r.count
  pub are : AreRounds shown map story (take r.length places) r.times (take r.count places)

-- The first two are a question and its answer.
abbrev pub IsAnswered : Story → List ℕ → Type 0
IsAnswered story places = (asked told : ℕ) × (rest : List ℕ) × (places ≡ asked ∷ told ∷ rest) × IsAnswerTo story asked told

abbrev pub IsPiece : Shown → DataMap → Story → List ℕ → Piece → Type 0
IsPiece shown map story places (pieces.Rounds r) = IsRoundsOf shown map story places r
IsPiece shown map story places pieces.Answered = IsAnswered story places
