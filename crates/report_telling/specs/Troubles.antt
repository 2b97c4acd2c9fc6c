-- Which troubles are the system's.
use Rattle.report_jobs.specs.declared.running.Trouble.{Trouble}
use Rattle.report_jobs.specs.declared.running.Trouble.TheVariants as troubles

-- A trouble that is the system's.
abbrev pub IsOfSystem : Trouble → Type 0
IsOfSystem (troubles.Call fault) = ⊥
IsOfSystem troubles.NoThread = Unit {0}
IsOfSystem troubles.NoMemory = Unit {0}
IsOfSystem troubles.Output = Unit {0}
IsOfSystem troubles.Save = Unit {0}
IsOfSystem troubles.SaveMemory = Unit {0}
