-- What is told of threads that trapped.
use Rattle.std.specs.Prelude.{◌≡◌, Bool, true, false, ℕ, ◌+◌, List, [], ◌∷◌, ◌++◌, Option, codes}
use Rattle.std.specs.Fmt.{decimal}
use Rattle.std.specs.Io.KnownBytes.{Appends}
use Rattle.types.specs.declared.value.Value.{Value}
use Rattle.types.specs.declared.outcome.Trap.{Trap}
use Rattle.types.specs.declared.outcome.Stop.{Stop}
use Rattle.types.specs.declared.outcome.Outcome.{Outcome}
use Rattle.types.specs.declared.outcome.Outcome.TheVariants as outcomes
use Rattle.types.specs.declared.outcome.ThreadReport.{ThreadReport}
use Rattle.types.specs.Outcomes.{trap_words}

-- A beginning of the text was written. That it isn't all of it is for the writer to say.
pub record Tells (old new : Option (List ℕ)) (text : List ℕ) : Type 0 where
  pub front : List ℕ
  pub more : List ℕ
  pub cut : text ≡ front ++ more
  pub told : Appends old new front

-- Which thread it is, and which trap.
abbrev pub trap_front : ℕ → Trap → List ℕ
trap_front thread trap = codes "thread " ++ decimal thread ++ codes ": trap " ++ trap_words trap

-- A line that begins so; what is behind it is where that was.
abbrev pub IsTrapLine : ℕ → Trap → List ℕ → Type 0
IsTrapLine thread trap line = (places : List ℕ) × (line ≡ (trap_front thread trap ++ places) ++ codes "\n")

-- Of a thread that trapped such a line is told, and of others nothing.
abbrev pub TellsEnd : ℕ → Outcome → Option (List ℕ) → Option (List ℕ) → Type 0
TellsEnd thread (outcomes.Trap trap) old new = (line : List ℕ) × IsTrapLine thread trap line × Tells old new line
TellsEnd thread (outcomes.Done result) old new = new ≡ old
TellsEnd thread (outcomes.Stop stop) old new = new ≡ old

-- So of each thread, in order of their numbers, which are counted from the first on.
abbrev pub TellsTraps : ℕ → List ThreadReport → Option (List ℕ) → Option (List ℕ) → Type 0
TellsTraps thread [] old new = new ≡ old
TellsTraps thread (report ∷ reports) old new =
    (now : Option (List ℕ)) × TellsEnd thread report.outcome old now × TellsTraps (thread + 1) reports now new

-- So it is told where that is asked for, and else nothing is.
abbrev pub TellsTrapsIf : Bool → List ThreadReport → Option (List ℕ) → Option (List ℕ) → Type 0
TellsTrapsIf true reports old new = TellsTraps 0 reports old new
TellsTrapsIf false reports old new = new ≡ old

-- The new text begins with the whole old one.
abbrev pub IsAddedTo : List ℕ → List ℕ → Type 0
IsAddedTo old new = (text : List ℕ) × (new ≡ old ++ text)
