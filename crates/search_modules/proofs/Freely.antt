-- What a search through the orders of what isn't plain finds, said of the runs of the module.
use Rattle.std.specs.Prelude.{ℕ, ◌⊎◌, List}
use Rattle.std.proofs.Common.{inl, inr}
use Rattle.types.specs.declared.value.Value.{Value}
use Rattle.types.specs.declared.parts.Parts.{Parts}
use Rattle.schedule.specs.System as systems
use Rattle.schedule_threads.specs.Shared.{Shared}
use Rattle.search_reach.specs.Search.{StepSystem, AreEnds, CanGetStuck}
use Rattle.search_settled.specs.declared.flat.RestingState.{RestingState}
use Rattle.search_race_free.specs.Races.{HasRace}
use Rattle.search_race_free.specs.Reduced.{SomeRace, reduced_steps}
use Rattle.search_race_free.specs.declared.owning.Owning.{Owning}
use Rattle.search_race_free.specs.declared.race.ThreadRace.{ThreadRace}
use Rattle.search_runs.specs.Called.{Walker as Thread, system_of, first_state}
use Rattle.search_endings.specs.Endings.{Ending}
use Rattle.search_runs.specs.Ends.{HasEndedSo}
use Rattle.search_parts.specs.declared.shared.Common.{Common}
use Rattle.search_parts.specs.declared.shared.HashedThread.{HashedThread as SharedWalker}
use Rattle.search_modules.specs.declared.called.Searched.{Searched}
use Rattle.search_modules.specs.Moved.{called, threads, IsStuck}
use Rattle.search_modules.specs.Endings.{IsWorkerOf, CanBeLost}
use Rattle.search_modules.specs.Races.{CanRaceSo, access_in}
use Rattle.search_modules.specs.Returned.{IsCall}
use Rattle.search_modules.proofs.Finding.{gone, lost_by}

-- what is gone through
abbrev pub gone_freely : Searched → StepSystem (Owning (RestingState Common SharedWalker)) (systems.State Shared Thread) Ending
gone_freely s = reduced_steps (threads s) (HasEndedSo s.dump) (IsStuck s)

-- what is an ending of it is one of the search through every order
pub same_ends : (s : Searched) (endings : List Ending) → AreEnds (gone_freely s) endings → AreEnds (gone s) endings
same_ends s endings are e among =
    let is = are e among in
    let can = is.can in
    record { from = is.from; begun = is.begun; can = record { end = can.end; path = can.path; is = can.is } }

-- where it gives up
pub lost_freely : (m : Parts) (s : Searched) (entry : List ℕ) (args : List Value) → IsCall m entry args (called s) → IsWorkerOf m s.worker
    → CanGetStuck (gone_freely s) → CanBeLost m entry args ⊎ ((race : ThreadRace) × CanRaceSo m entry args s.allowed race)
lost_freely m s entry args call worker stuck = by stuck.gets.is
  where
    by : IsStuck s stuck.gets.end ⊎ SomeRace (threads s) → CanBeLost m entry args ⊎ ((race : ThreadRace) × CanRaceSo m entry args s.allowed race)
    by (inl lost) =
        inl (lost_by m s entry args call worker
        (record { from = stuck.from; begun = stuck.begun; gets = record { end = stuck.gets.end; path = stuck.gets.path; is = lost } }))
    by (inr race) = inr (record { one = race.0; other = race.1 }, (called s, call, race.2))

pub race_by : (m : Parts) (s : Searched) (entry : List ℕ) (args : List Value) → IsCall m entry args (called s) → (r : ThreadRace)
    → HasRace (system_of (called s)) (first_state (called s)) (access_in s.allowed (called s)) r.one r.other → CanRaceSo m entry args s.allowed r
race_by m s entry args call r race = (called s, call, race)
