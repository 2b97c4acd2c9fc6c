-- What a search makes, meets and finds.
use Rattle.std.specs.Prelude.{ℕ, ◌<◌, Bool, List, IfOk, Result, length, slice_index_or}
use Rattle.std.specs.Global.{Vec}
use Rattle.search_scheduled.specs.SpareThreads.{HoldsSpares}
use Rattle.search_scheduled.specs.declared.running.MadeRun.{MadeRun}
use Rattle.search_scheduled.specs.declared.fault.SearchFault.{SearchFault}
use Rattle.search_scheduled.specs.declared.threads.Spares.{Spares}
use Rattle.search_finds.specs.declared.ahead.RunsAhead.{RunsAhead}
use Rattle.search_finds.specs.declared.search.JudgedEnding.{JudgedEnding}
use Rattle.search_finds.specs.declared.maker.RunMaker.{RunMaker}
use Rattle.search_finds.specs.Drawing.{AreOfRunsBack, IsDrawnAmong, IsEndingAmong}
use Rattle.search_finds.specs.Judged.{IsFindBy}
use Rattle.search_finds.specs.Shares.{first_behind}

-- The run of this number that a search makes.
abbrev pub IsMadeIn : RunMaker → ℕ → MadeRun → Type 0
IsMadeIn s run made = IsDrawnAmong s.request.now s.sought.now s.entries run made

-- Its ending, and what is said of it.
abbrev pub IsMetIn : (MadeRun → Bool → Type 0) → RunMaker → ℕ → JudgedEnding → Type 0
IsMetIn Says s run ending = IsEndingAmong Says s.request.now s.sought.now s.entries run ending

-- The endings of its runs in a row, from this number on, the last first.
abbrev pub AreMetIn : (MadeRun → Bool → Type 0) → RunMaker → ℕ → List JudgedEnding → Type 0
AreMetIn Says s run endings = AreOfRunsBack Says s.request.now s.sought.now s.entries run endings

-- A run that it looks for.
abbrev pub IsFoundIn : (MadeRun → Bool → Type 0) → RunMaker → MadeRun → Type 0
IsFoundIn Says s made = IsFindBy Says s.request.now s.sought.now.limit made

-- Threads that its runs may spawn.
abbrev pub AreSparesIn : RunMaker → Spares → Type 0
AreSparesIn s spares = HoldsSpares s.request.now.parts s.request.now.fuel spares

-- The number of the first run behind those that so many jobs make ahead.
abbrev pub first_of : RunsAhead → ℕ → ℕ
first_of a jobs = first_behind a.from a.count a.piece jobs

-- The pieces of jobs, in order: endings of runs from a job's first one on.
abbrev pub ArePiecesIn : (MadeRun → Bool → Type 0) → RunMaker → RunsAhead
    → List (Result (Vec JudgedEnding) SearchFault) → Type 0
ArePiecesIn Says s a pieces = (job : ℕ) (d : Result (Vec JudgedEnding) SearchFault) → job < length pieces
    → IfOk (slice_index_or pieces job d) (λ made. AreMetIn Says s (first_of a job) made.items)
