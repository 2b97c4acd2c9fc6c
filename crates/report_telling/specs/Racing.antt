-- What is known of races, and what is told of one.
use Rattle.std.specs.Prelude.{ℕ, ◌≡◌, Bool, true, false, List, [], ◌++◌, codes}
use Rattle.std.specs.Fmt.{decimal}
use Rattle.std.specs.Io.KnownBytes.{Appends}
use Rattle.types.specs.declared.parts.Parts.{Parts}
use Rattle.report_jobs.specs.Prints.{WriterChange}
use Rattle.report_looks.specs.Raced.{SaysFound}
use Rattle.report_looks.specs.Sighted.{CanBeTold, AreRacesOf}
use Rattle.report_telling.specs.declared.racing.Raced.{Raced}
use Rattle.report_telling.specs.declared.racing.Raced.TheVariants as raced
use Rattle.report_telling.specs.declared.racing.Racing.{Racing}
use Rattle.report_telling.specs.declared.racing.Racing.TheVariants.{Unasked, Never, OnlyBehindTimeouts, Found, Unknown}
use Rattle.report_telling.specs.declared.racing.RacyRun.{RacyRun}

-- Whether all may be well: races are allowed, or no run has one, or they aren't asked for.
abbrev pub allows : Bool → Racing → Bool
allows true racing = true
allows false Unasked = true
allows false Never = true
allows false OnlyBehindTimeouts = true
allows false (Found r) = false
allows false Unknown = false

abbrev pub threads_line : ℕ → ℕ → List ℕ
threads_line one other =
    codes "race: t" ++ decimal one ++ codes " and t" ++ decimal other ++ codes "; no run was made for it\n"

-- What is told of a race: of a run that was made, or of the threads alone.
abbrev pub IsRacyRun : Parts → RacyRun → Type 0
IsRacyRun m run = AreRacesOf m run.made.record run.race

abbrev pub IsRacedIn : Parts → Raced → Type 0
IsRacedIn m (raced.Run run kept) = IsRacyRun m run
IsRacedIn m (raced.Threads r) = Unit {0}
IsRacedIn m raced.Untold = Unit {0}

-- It can be told.
abbrev pub CanTell : Raced → Type 0
CanTell (raced.Run run kept) = CanBeTold run.made.record run.race
CanTell (raced.Threads r) = Unit {0}
CanTell raced.Untold = Unit {0}

-- How a run with a race can be kept, where it isn't.
abbrev pub unkept_text : Bool → List ℕ
unkept_text true = []
unkept_text false = codes "  to keep this run: search --all --races --record OUT\n"

-- Its lines: the races of the run in the words of `races`, and how that can be kept, where it isn't; or the threads
-- alone.
abbrev pub SaysRaced : Parts → Raced → List ℕ → Type 0
SaysRaced m (raced.Run run kept) text =
    (pair : List ℕ) × SaysFound run.race.allowed m run.made.record pair × (text ≡ pair ++ unkept_text kept)
SaysRaced m (raced.Threads r) text = text ≡ threads_line r.one r.other
SaysRaced m raced.Untold text = text ≡ []

-- A text that says so was written behind what stood there.
abbrev pub Tells : WriterChange → (List ℕ → Type 0) → Type 0
Tells out Says = (text : List ℕ) × Appends out.old out.new text × Says text
