-- What is printed of a search in the form that is asked for, and what is written of what it found.
use Rattle.std.specs.Prelude.{ℕ, ◌≡◌, ◌⊎◌, Bool, false, true, List, Option, Some, None}
use Rattle.allowed_races.specs.declared.allowed.Allowed.{Allowed}
use Rattle.types.specs.declared.parts.Parts.{Parts}
use Rattle.validate_typing.specs.Validity.{IsValid}
use Rattle.binary.specs.Grammar.{IsModuleText}
use Rattle.report_command.specs.declared.search.Search.{Search}
use Rattle.report_jobs.specs.Prints.{WriterChange, changed}
use Rattle.report_jobs.specs.declared.streams.Streams.{Streams}
use Rattle.report_looks.specs.Allowing.{IsAllowedBy}
use Rattle.search_reach.specs.declared.search.Verdict.{Verdict}
use Rattle.search_reach.specs.declared.search.Verdict.TheVariants as verdicts
use Rattle.report.specs.Told.{TellsAll, TellsDrawn, TellsDrawnRaces}
use Rattle.report.specs.Searches.{EndWell, Finds}

-- What comes of a search of drawn runs: what is kept, and what is told of one that looks for a race, or for an ending.
pub record IsDrawn (m : Parts) (s : Search) (a : Allowed) (out save : WriterChange) (status : ℕ) : Type 0 where
  pub finds : Finds m s a save status
  pub races : s.races ≡ true → TellsDrawnRaces m s a out save status
  pub endings : s.races ≡ false → TellsDrawn m s out save status

-- What comes of one through every order of entries, with so many states at most: what is kept, what status 0 says, and
-- what is told.
pub record IsGoneThrough (most : ℕ) (m : Parts) (s : Search) (a : Allowed) (out save : WriterChange)
    (status : ℕ) : Type 0 where
  pub finds : Finds m s a save status
  pub well : status ≡ 0 → EndWell m s a
  pub tells : TellsAll m s a most out save status

-- It settled all: it met every state, or an ending that is looked for.
abbrev pub settles : Verdict → Bool
settles verdicts.All = true
settles verdicts.Sought = true
settles verdicts.TooMany = false
settles verdicts.CannotTell = false
settles verdicts.Told = false

abbrev pub IsSettled : ℕ → Parts → Search → Allowed → WriterChange → WriterChange → ℕ → Type 0
IsSettled most m s a out save status =
    (gone : IsGoneThrough most m s a out save status) × (settles gone.tells.told.whole.now.all.verdict ≡ true)

-- What comes of a search through runs of a module, where so much may race. One through every order first draws runs
-- where that settles not all.
abbrev pub IsSearchedBy : Option ℕ → Bool → Parts → Search → Allowed → WriterChange → WriterChange → ℕ → Type 0
IsSearchedBy None first m s a out save status = IsDrawn m s a out save status
IsSearchedBy (Some most) false m s a out save status = IsGoneThrough most m s a out save status
IsSearchedBy (Some most) true m s a out save status =
    IsSettled most m s a out save status ⊎ IsDrawn m s a out save status

abbrev pub IsSearched : Parts → Search → Allowed → WriterChange → WriterChange → ℕ → Type 0
IsSearched m s a out save status = IsSearchedBy s.all s.first m s a out save status

-- The same of what streams have before and after.
abbrev pub IsSearchedOn : {W E S : Type 0} → (W → Option (List ℕ)) → (S → Option (List ℕ)) → Parts → Search → Allowed
    → Streams W E S → Streams W E S → ℕ → Type 0
IsSearchedOn out save m s a old new status =
    IsSearched m s a (changed out old.out new.out) (changed save old.save new.save) status

abbrev pub IsDrawnOn : {W E S : Type 0} → (W → Option (List ℕ)) → (S → Option (List ℕ)) → Parts → Search → Allowed
    → Streams W E S → Streams W E S → ℕ → Type 0
IsDrawnOn out save m s a old new status =
    IsDrawn m s a (changed out old.out new.out) (changed save old.save new.save) status

abbrev pub IsGoneThroughOn : {W E S : Type 0} → (W → Option (List ℕ)) → (S → Option (List ℕ)) → ℕ → Parts → Search
    → Allowed → Streams W E S → Streams W E S → ℕ → Type 0
IsGoneThroughOn out save most m s a old new status =
    IsGoneThrough most m s a (changed out old.out new.out) (changed save old.save new.save) status

abbrev pub IsSettledOn : {W E S : Type 0} → (W → Option (List ℕ)) → (S → Option (List ℕ)) → ℕ → Parts → Search → Allowed
    → Streams W E S → Streams W E S → ℕ → Type 0
IsSettledOn out save most m s a old new status =
    IsSettled most m s a (changed out old.out new.out) (changed save old.save new.save) status

-- The bytes are a valid module's text, and its runs were searched, where may race what is asked for.
pub record HasSearched (bytes : List ℕ) (s : Search) (out save : WriterChange) (status : ℕ) : Type 0 where
  pub parts : Parts
  pub text : IsModuleText bytes parts
  pub valid : IsValid parts
  pub allowed : Allowed
  pub allowed_is : IsAllowedBy s.allow allowed
  pub searched : IsSearched parts s allowed out save status

abbrev pub HasSearchedOn : {W E S : Type 0} → (W → Option (List ℕ)) → (S → Option (List ℕ)) → List ℕ → Search
    → Streams W E S → Streams W E S → ℕ → Type 0
HasSearchedOn out save bytes s old new status =
    HasSearched bytes s (changed out old.out new.out) (changed save old.save new.save) status
