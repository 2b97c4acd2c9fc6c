-- What is kept of a search.
use Rattle.std.specs.Prelude.{ℕ, ◌≡◌, ◌≢◌, ◌≤◌, ◌⊎◌, All, List, [], true, false, is_some}
use Rattle.std.specs.Io.KnownBytes.{Appends}
use Rattle.allowed_races.specs.declared.allowed.Allowed.{Allowed}
use Rattle.types.specs.declared.value.Value.{Value}
use Rattle.types.specs.declared.parts.Parts.{Parts}
use Rattle.replay_text.specs.declared.parts.RecordParts.{RecordParts}
use Rattle.spawn_host.specs.declared.end.EndState.{EndState}
use Rattle.replay.specs.Runs.{IsRunOf}
use Rattle.search_scheduled.specs.Headers.{IsOfCall}
use Rattle.schedule.specs.System.{State}
use Rattle.schedule_threads.specs.Shared.{Shared}
use Rattle.search_runs.specs.Called.{Called, Walker as Thread}
use Rattle.search_runs.specs.Theorems.{CanReach}
use Rattle.search_endings.specs.Endings.{Ending}
use Rattle.search_modules.specs.Endings.{HasEveryEnding, AllCanEndSo}
use Rattle.search_modules.specs.Liveness.{CanStillEnd, HasFairRun}
use Rattle.search_modules.specs.Races.{NeverRaces}
use Rattle.search_modules.specs.Returned.{IsCall}
use Rattle.search_finds.specs.Finds.{EndsAsLookedFor, IsLookedFor}
use Rattle.report_command.specs.declared.search.Search.{Search}
use Rattle.report_jobs.specs.Arguments.{AreSpelled, texts_in}
use Rattle.report_jobs.specs.Prints.{WriterChange, KeepsRecord}
use Rattle.show_races.specs.Races.{SaysOfRun}
use Rattle.report_telling.specs.Complete.{all_end_well}
use Rattle.report_finds.specs.Endless.{FindsEndless}

-- A run of the module by the call that was asked for, which ends as is looked for; and its record was written, where
-- one is wanted.
pub record IsFindKept (m : Parts) (s : Search) (save : WriterChange) : Type 0 where
  pub args : List Value
  pub spelled : AreSpelled (texts_in s.call.args.items) args
  pub record_is : RecordParts
  pub end : EndState
  pub run : IsRunOf m record_is end
  pub of_call : IsOfCall m s.call.invoke.now args s.call.fuel s.sought.limit record_is
  pub ends : EndsAsLookedFor s.sought s.sought.dump end
  pub kept : KeepsRecord (is_some s.save) save record_is

-- Of a search through every order of entries, in which runs that never end are looked for, a run of the module by the
-- call that was asked for; and its record was written, where one is wanted.
pub record IsEndlessKept (m : Parts) (s : Search) (save : WriterChange) : Type 0 where
  pub every_order : is_some s.all ≡ true
  pub sought : FindsEndless s.sought.target
  pub args : List Value
  pub spelled : AreSpelled (texts_in s.call.args.items) args
  pub record_is : RecordParts
  pub end : EndState
  pub run : IsRunOf m record_is end
  pub of_call : IsOfCall m s.call.invoke.now args s.call.fuel s.sought.limit record_is
  pub kept : KeepsRecord (is_some s.save) save record_is

-- Nothing was written, or the record of a run that was found.
abbrev pub KeepsNoneOrFind : Parts → Search → WriterChange → Type 0
KeepsNoneOrFind m s save = (save.new ≡ save.old) ⊎ IsFindKept m s save

abbrev pub KeepsNoneOrEndless : Parts → Search → WriterChange → Type 0
KeepsNoneOrEndless m s save = (save.new ≡ save.old) ⊎ IsEndlessKept m s save

-- Where races are looked for, a run of the module by the call that was asked for, in which two accesses race that may
-- not; and its record was written, where one is wanted.
pub record IsRaceKept (m : Parts) (s : Search) (a : Allowed) (save : WriterChange) : Type 0 where
  pub looked_for : s.races ≡ true
  pub args : List Value
  pub spelled : AreSpelled (texts_in s.call.args.items) args
  pub record_is : RecordParts
  pub end : EndState
  pub run : IsRunOf m record_is end
  pub of_call : IsOfCall m s.call.invoke.now args s.call.fuel s.sought.limit record_is
  pub races : SaysOfRun a m record_is true
  pub kept : KeepsRecord (is_some s.save) save record_is

abbrev pub KeepsNoneOrRace : Parts → Search → Allowed → WriterChange → Type 0
KeepsNoneOrRace m s a save = (save.new ≡ save.old) ⊎ IsRaceKept m s a save

-- Nothing was found and nothing written, or a run was found, and the status is 1; or a run with a race was, which may
-- be allowed.
abbrev pub IsKept : Parts → Search → WriterChange → Type 0
IsKept m s save = IsFindKept m s save ⊎ IsEndlessKept m s save

abbrev pub Finds : Parts → Search → Allowed → WriterChange → ℕ → Type 0
Finds m s a save status =
    ((status ≤ 1) × (save.new ≡ save.old)) ⊎ (((status ≡ 1) × IsKept m s save) ⊎ ((status ≤ 1) × IsRaceKept m s a save))

-- By this call threads without budgets can still end from wherever they come, and no fair run goes on for ever.
pub record IsSureToEnd (m : Parts) (entry : List ℕ) (args : List Value) (dump : ℕ) : Type 0 where
  pub called : Called
  pub call : IsCall m entry args called
  pub can_end : (w : State Shared Thread) → CanReach called w → CanStillEnd called dump w
  pub fair_runs_end : HasFairRun called → ⊥

-- Runs of the module by the call that was asked for can end; each that ends, all its threads with units and room
-- enough, ends well and otherwise than is looked for: all threads' functions returned; and they are sure to end. No run
-- has a race of accesses that may not, where races aren't allowed and every order isn't gone through at once.
pub record EndWell (m : Parts) (s : Search) (a : Allowed) : Type 0 where
  pub args : List Value
  pub spelled : AreSpelled (texts_in s.call.args.items) args
  pub endings : List Ending
  pub every : HasEveryEnding m s.call.invoke.now args s.sought.dump endings
  pub can : AllCanEndSo m s.call.invoke.now args s.sought.dump endings
  pub some : endings ≢ []
  pub well : all_end_well endings ≡ true
  pub unsought : All (λ e. IsLookedFor s.sought e → ⊥) endings
  pub sure : IsSureToEnd m s.call.invoke.now args s.sought.dump
  pub free : s.allow_races ≡ false → s.every_order ≡ false → NeverRaces m s.call.invoke.now args a

-- Something was written behind what stood there.
abbrev pub Grows : WriterChange → Type 0
Grows out = (text : List ℕ) × Appends out.old out.new text
