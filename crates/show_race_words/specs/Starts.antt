-- Which entry started a thread.
use Rattle.std.specs.Prelude.{ℕ, ◌≡◌, ◌<◌, ◌==◌, ◌&&◌, Bool, true, false, List, [], ◌++◌, codes, Option, Some, None}
use Rattle.std.specs.List.{slice_get}
use Rattle.std.specs.Fmt.{decimal}
use Rattle.types.specs.declared.event.Entry.{Entry}
use Rattle.types.specs.declared.event.Event.{Event}
use Rattle.types.specs.declared.event.Event.TheVariants.{Ask}
use Rattle.types.specs.declared.event.Question.TheVariants.{Spawn}
use Rattle.types.specs.declared.event.Answer.TheVariants.{Number}
use Rattle.show_text.specs.declared.context.Context.{Context}
use Rattle.show_text.specs.declared.context.Context.TheVariants.{Answered}
use Rattle.show_rows.specs.declared.listing.Shown.{Shown}
use Rattle.show_rows.specs.declared.listing.Story.{Story}
use Rattle.show_rows.specs.Listing.{context_at}
use Rattle.show_race_words.specs.Spots.{IsSpot}

abbrev pub is_asking : Event → Bool
is_asking (Ask (Spawn arg)) = true
is_asking _ = false

-- The entry asks for a thread,
abbrev pub is_spawn : Option Entry → Bool
is_spawn None = false
is_spawn (Some made) = is_asking made.event

-- and gets this number.
abbrev pub is_answered : Context → ℕ → Bool
is_answered (Answered (Number n)) thread = n == thread
is_answered _ thread = false

-- The entry at a place started this thread.
abbrev pub is_start : List Entry → Story → ℕ → ℕ → Bool
is_start log story thread at = is_spawn (slice_get log at) && is_answered (context_at story at) thread

-- It is at this place, the first one; or there is none whose answer is there.
abbrev pub IsStart : List Entry → Story → ℕ → Option ℕ → Type 0
IsStart log story thread None = (k : ℕ) → is_start log story thread k ≡ false
IsStart log story thread (Some at) = (is_start log story thread at ≡ true)
    × ((k : ℕ) → k < at → is_start log story thread k ≡ false)

-- That line; nothing where it isn't known.
abbrev pub IsStartLine : Shown → Story → ℕ → Option ℕ → List ℕ → Type 0
IsStartLine shown story thread None text = text ≡ []
IsStartLine shown story thread (Some at) text = (spot : List ℕ) × IsSpot shown story at spot
    × (text ≡ codes "  t" ++ (decimal thread ++ (codes " was started by " ++ (spot ++ codes "\n"))))

abbrev pub IsStartText : Shown → Story → ℕ → List ℕ → Type 0
IsStartText shown story thread text = (start : Option ℕ) × IsStart shown.record.now.log story thread start
    × IsStartLine shown story thread start text
