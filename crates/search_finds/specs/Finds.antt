-- What is found.
use Rattle.std.specs.Prelude.{ℕ, ◌≡◌, ◌⊎◌, Option, Some, All, List, false, slice_get}
use Rattle.std.specs.List.{list_all}
use Rattle.types.specs.declared.outcome.Outcome.{Outcome}
use Rattle.spawn_host.specs.declared.end.EndState.{EndState}
use Rattle.replay.specs.Runs.{IsRunOf}
use Rattle.spawn_host.specs.Requests.{Requested}
use Rattle.search_endings.specs.Ends.{is_done}
use Rattle.search_scheduled.specs.Headers.{IsOfRequest}
use Rattle.search_scheduled.specs.Heard.{IsHeardRun}
use Rattle.search_scheduled.specs.declared.running.MadeRun.{MadeRun}
use Rattle.search_endings.specs.Endings.{Ending}
use Rattle.search_finds.specs.declared.met.EndingTable.{EndingTable}
use Rattle.search_finds.specs.Endings.{ending_left}
use Rattle.search_finds.specs.Words.{HasLineWith}
use Rattle.selection.specs.declared.sought.Find.{Find}
use Rattle.selection.specs.declared.sought.Find.TheVariants as finds
use Rattle.selection.specs.declared.sought.Sought.{Sought}

-- Its record is of a run of the module by the call that is requested, which left what it says; and what it says that was
-- heard was heard of that run.
pub record IsFind (q : Requested) (limit : ℕ) (made : MadeRun) : Type 0 where
  pub run : IsRunOf q.parts made.record made.end
  pub of_call : IsOfRequest q limit made.record
  pub heard : IsHeardRun q limit made.record made.heard

-- Some thread trapped or was stopped.
abbrev pub HasFailure : List Outcome → Type 0
HasFailure outcomes = list_all is_done outcomes ≡ false

-- By this a run with these outcomes is found.
abbrev pub IsFoundBy : Find → List Outcome → Type 0
IsFoundBy finds.Nothing outcomes = ⊥
IsFoundBy finds.Failure outcomes = HasFailure outcomes
IsFoundBy (finds.Words words) outcomes = HasLineWith words.now outcomes
IsFoundBy finds.NoEnd outcomes = ⊥
IsFoundBy finds.ForEver outcomes = ⊥

-- Thread 0 comes to another result.
abbrev pub ComesToAnother : Outcome → List Outcome → Type 0
ComesToAnother expected outcomes = (slice_get outcomes 0 ≡ Some expected) → ⊥

-- A result is expected, and thread 0 comes to another.
abbrev pub IsUnexpected : Option Outcome → List Outcome → Type 0
IsUnexpected expect outcomes = (o : Outcome) × (expect ≡ Some o) × ComesToAnother o outcomes

-- It has a line of a thread by which a run is found, or thread 0 comes to another result than is expected.
abbrev pub IsLookedFor : Sought → Ending → Type 0
IsLookedFor s e = IsFoundBy s.target.find e.outcomes ⊎ IsUnexpected s.target.expect e.outcomes

-- So a run ended.
abbrev pub EndsAsLookedFor : Sought → ℕ → EndState → Type 0
EndsAsLookedFor s dump end = IsLookedFor s (ending_left dump end)

-- A run by the call that ends as is looked for.
abbrev pub IsFound : Requested → Sought → MadeRun → Type 0
IsFound q s made = IsFind q s.limit made × EndsAsLookedFor s s.dump made.end

-- None of them is looked for.
abbrev pub HasNoneLookedFor : Sought → EndingTable → Type 0
HasNoneLookedFor s table = All (λ met. IsLookedFor s met.ending → ⊥) table.met.items
