-- A trouble of the system is one of a search's call.
use Rattle.std.proofs.Common.{ℕ, List}
use Rattle.types.specs.declared.parts.Parts.{Parts}
use Rattle.report_jobs.specs.Troubles.{IsTrouble}
use Rattle.report_jobs.specs.declared.running.Trouble.{Trouble}
use Rattle.report_jobs.specs.declared.running.Trouble.TheVariants as troubles
use Rattle.report_telling.specs.Troubles.{IsOfSystem}

pub of_system : (m : Parts) (name : List ℕ) (texts : List (List ℕ)) (trouble : Trouble) → IsOfSystem trouble → IsTrouble m name texts trouble
of_system m name texts (troubles.Call fault) h = absurd h
of_system m name texts troubles.NoThread h = tt
of_system m name texts troubles.NoMemory h = tt
of_system m name texts troubles.Output h = tt
of_system m name texts troubles.Save h = tt
of_system m name texts troubles.SaveMemory h = tt
