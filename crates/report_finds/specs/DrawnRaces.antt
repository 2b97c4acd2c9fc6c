-- A drawn run with a race that a search found, and what is kept of it.
use Rattle.std.specs.Prelude.{ℕ, ◌≡◌, Bool, false}
use Rattle.allowed_races.specs.declared.allowed.Allowed.{Allowed}
use Rattle.spawn_host.specs.Requests.{Requested}
use Rattle.search_scheduled.specs.declared.running.MadeRun.{MadeRun}
use Rattle.search_finds.specs.Judged.{IsFindBy}
use Rattle.search_finds.specs.Sizes.{size_in}
use Rattle.show_races.specs.Races.{SaysOfRun}
use Rattle.report_command.specs.declared.search.Search.{Search}
use Rattle.report_telling.specs.Racing.{IsRacyRun}
use Rattle.report_telling.specs.declared.racing.KeptRace.{KeptRace}
use Rattle.report_finds.specs.Found.{shrunk_if}

-- Whether two accesses of a run of the call race that may not, as an answer says.
abbrev pub SaysRaceOf : Requested → Allowed → MadeRun → Bool → Type 0
SaysRaceOf q a made is = SaysOfRun a q.parts made.record is

-- The run with a race that was found, or where that is asked for one by the call that was shrunk and has one too; the
-- sizes of both, where it was shrunk; and its races.
pub record HasRacy (q : Requested) (s : Search) (a : Allowed) (run : ℕ) (found : MadeRun) (k : KeptRace) : Type 0 where
  pub number : k.run ≡ run
  pub find : IsFindBy (SaysRaceOf q a) q s.sought.limit k.racy.made
  pub same : s.shrink ≡ false → k.racy.made ≡ found
  pub shrunk_is : k.shrunk ≡ shrunk_if s.shrink (size_in found.record) (size_in k.racy.made.record)
  pub race : IsRacyRun q.parts k.racy
  pub allowed : k.racy.race.allowed ≡ a
