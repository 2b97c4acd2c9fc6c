-- The blocks of the heap that wathread-cc's malloc gives out, and in which of them a byte lies.
use Rattle.std.specs.Prelude.{ℕ, ◌≡◌, ◌<◌, ◌+◌, ◌-◌, ◌==◌, ◌&&◌, ◌||◌, not, nat_le, nat_lt, max, bit_and}
use Rattle.std.specs.Prelude.{if◌then◌else◌, Bool, false}
use Rattle.std.specs.Prelude.{List, [], ◌++◌, codes, find, Option, Some, None, option_map, option_and_then}
use Rattle.std.specs.List.{slice_get}
use Rattle.std.specs.Fmt.{decimal}
use Rattle.std.specs.Str.{bytes_eq}
use Rattle.types.specs.declared.event.Entry.{Entry}
use Rattle.types.specs.declared.event.Event.{Event}
use Rattle.types.specs.declared.event.Event.TheVariants.{Store}
use Rattle.types.specs.declared.parts.Export.{Export}
use Rattle.interp.specs.declared.place.CodePlace.{CodePlace}
use Rattle.race_history.specs.declared.race.Race.{Race}
use Rattle.selection.specs.Choices.{touched}
use Rattle.show_places.specs.declared.names.Named.{Named}
use Rattle.show_places.specs.declared.names.FunctionName.{FunctionName}
use Rattle.show_places.specs.declared.names.FunctionName.TheVariants.{Named as ByName, Exported, Numbered}
use Rattle.show_places.specs.Names.{exports_it, is_of}
use Rattle.show_rows.specs.declared.code.CodeMap.{CodeMap}
use Rattle.show_rows.specs.declared.listing.Shown.{Shown}
use Rattle.show_rows.specs.Listing.{is_atomic_row, line_at, row_at}
use Rattle.show_rows.specs.Spots.{index_of}
use Rattle.show_stacks.specs.declared.texts.StacksView.{StacksView}
use Rattle.show_stacks.specs.Stacks.{calls_at}
use Rattle.show_stacks.specs.Texts.{IsStackText}
use Rattle.show_race_words.specs.declared.blocks.Block.{Block}
use Rattle.show_race_words.specs.declared.blocks.Given.{Given}
use Rattle.show_race_words.specs.declared.blocks.TheConstants.{FRONT, MARK, MARK_BITS, SIZE_BITS}

-- A store of 4 bytes that are the mark and a size gives a block out.
abbrev pub given_of : ℕ → ℕ → ℕ → Option Given
given_of addr width value = if (width == 4) && (bit_and value MARK_BITS == MARK)
    then Some (record { addr = addr; size = bit_and value SIZE_BITS }) else None

abbrev pub given_by : Event → Option Given
given_by (Store addr width reach value) = given_of addr width value
given_by event = None

-- How far into a block a byte lies that lies behind its front.
abbrev pub bytes_into : Given → ℕ → Option ℕ
bytes_into given byte = if nat_le (given.addr + FRONT) byte && nat_lt byte (given.addr + given.size)
    then Some (byte - (given.addr + FRONT)) else None

abbrev pub into_written : Option Entry → ℕ → Option ℕ
into_written made byte =
    option_and_then (λ given. bytes_into given byte) (option_and_then (λ made. given_by made.event) made)

-- What a function is called: by its name, else by its first export.
abbrev pub name_by : Option Named → Option Export → Option (List ℕ)
name_by (Some named) export = Some named.name
name_by None export = option_map (λ e. e.name) export

abbrev pub name_of : CodeMap → ℕ → Option (List ℕ)
name_of code index = name_by (find (is_of index) code.names) (find (exports_it index) code.parts.now.exports)

abbrev pub text_of : FunctionName → Option (List ℕ)
text_of (ByName text) = Some text.now
text_of (Exported text) = Some text.now
text_of (Numbered index) = None

abbrev pub is_giver : Option (List ℕ) → Bool
is_giver None = false
is_giver (Some name) = bytes_eq name (codes "malloc") || bytes_eq name (codes "aligned_alloc")

-- The place is in a function that gives blocks out.
abbrev pub is_in_giver : CodeMap → Option CodePlace → Bool
is_in_giver code None = false
is_in_giver code (Some place) = is_giver (name_of code (index_of code.imported place.function))

abbrev pub own_place : Shown → ℕ → Option CodePlace
own_place shown at = option_map (λ row. row.place) (row_at shown at)

-- A plain instruction of such a function made the entry at a place.
abbrev pub is_by_giver : Shown → ℕ → Bool
is_by_giver shown at = not (is_atomic_row shown (row_at shown at)) && is_in_giver shown.code.now (own_place shown at)

-- How far a byte lies into the block that the entry at a place gives out.
abbrev pub into_given : Shown → ℕ → ℕ → Option ℕ
into_given shown byte at =
    if is_by_giver shown at then into_written (slice_get shown.record.now.log at) byte else None

-- The entry at the block's place is before this one and gives it out, and none between them gives out one in which the
-- byte lies.
pub record IsLastBlock (shown : Shown) (byte first : ℕ) (block : Block) : Type 0 where
  pub byte_is : block.byte ≡ byte
  pub before : block.at < first
  pub into_is : into_given shown byte block.at ≡ Some block.into
  pub last : (k : ℕ) → block.at < k → k < first → into_given shown byte k ≡ None

-- The last block in which a byte lies that an entry before a place gives out, or there is none.
abbrev pub IsLastGiven : Shown → ℕ → ℕ → Option Block → Type 0
IsLastGiven shown byte first None = (k : ℕ) → k < first → into_given shown byte k ≡ None
IsLastGiven shown byte first (Some block) = IsLastBlock shown byte first block

-- The first address that the entry at a place touches, if it touches any,
abbrev pub first_touched : List Entry → ℕ → Option ℕ
first_touched log at = option_map (λ span. span.first) (option_and_then (λ made. touched made.event) (slice_get log at))

-- and that both entries of a race touch.
abbrev pub shared_byte : List Entry → Race → Option ℕ
shared_byte log r =
    option_and_then (λ a. option_map (λ b. max a b) (first_touched log r.second)) (first_touched log r.first)

abbrev pub IsBlockFor : Shown → ℕ → Option ℕ → Option Block → Type 0
IsBlockFor shown first None block = block ≡ None
IsBlockFor shown first (Some byte) block = IsLastGiven shown byte first block

-- The block in which that byte of a race lies: the last one that was given out before its first entry.
abbrev pub IsBlockOf : Shown → Race → Option Block → Type 0
IsBlockOf shown r block = IsBlockFor shown r.first (shared_byte shown.record.now.log r) block

abbrev pub block_line : ℕ → ℕ → ℕ → ℕ → List ℕ → List ℕ
block_line byte into thread line stack = codes "  " ++ (decimal byte ++ (codes " is " ++ (decimal into
    ++ (codes " bytes into a block of the heap, which t" ++ (decimal thread ++ (codes " got by entry " ++ (decimal line
    ++ (codes ", " ++ (stack ++ codes "\n")))))))))

-- Where in the block the byte lies, which thread got the block by which entry, and the calls that led there.
pub record IsBlockLine (shown : Shown) (stacks : StacksView) (block : Block) (text : List ℕ) : Type 0 where
  pub made : Entry
  pub stands : slice_get shown.record.now.log block.at ≡ Some made
  pub stack : List ℕ
  pub stack_is : IsStackText stacks.code.now (own_place shown block.at) (calls_at stacks.stacks.now block.at) stack
  pub is : text ≡ block_line block.byte block.into made.thread (line_at shown block.at) stack

abbrev pub IsBlockLineOf : Shown → StacksView → Option Block → List ℕ → Type 0
IsBlockLineOf shown stacks None text = text ≡ []
IsBlockLineOf shown stacks (Some block) text = IsBlockLine shown stacks block text

-- That line; nothing where the byte lies in no block.
abbrev pub IsBlockText : Shown → StacksView → Race → List ℕ → Type 0
IsBlockText shown stacks r text =
    (block : Option Block) × IsBlockOf shown r block × IsBlockLineOf shown stacks block text
