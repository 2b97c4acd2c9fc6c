-- What is said of runs by a judge: a relation of a run and the answer whether it is looked for.
use Rattle.std.specs.Prelude.{ℕ, ◌<◌, Bool, true, false, IsTrue}
use Rattle.spawn_host.specs.Requests.{Requested}
use Rattle.selection.specs.declared.sought.Sought.{Sought}
use Rattle.search_scheduled.specs.declared.running.MadeRun.{MadeRun}
use Rattle.search_finds.specs.Finds.{IsFind}
use Rattle.search_finds.specs.declared.finding.Halt.{Halt}
use Rattle.search_finds.specs.declared.finding.Halt.TheVariants as halts

-- A run by the call of which it is said that it is looked for.
abbrev pub IsFindBy : (MadeRun → Bool → Type 0) → Requested → ℕ → MadeRun → Type 0
IsFindBy Says q limit made = IsFind q limit made × Says made true

-- Of the run of a number it is said that it isn't looked for: where one was found, of each before it, and else of each,
-- where the search stops at the first that is.
abbrev pub IsPassed : (MadeRun → Bool → Type 0) → Sought → Halt → ℕ → MadeRun → Type 0
IsPassed Says s (halts.Found f) run made = run < f.run → Says made false
IsPassed Says s halts.AllMade run made = IsTrue s.stops → Says made false
IsPassed Says s halts.Told run made = IsTrue s.stops → Says made false
