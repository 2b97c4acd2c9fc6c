-- The lines of endings: how all threads ended, the page count, and bytes where some are looked at.
use Rattle.std.specs.Prelude.{ℕ, List, [], ◌∷◌, ◌++◌, codes}
use Rattle.std.specs.Fmt.{decimal}
use Rattle.std.specs.List.{flat_map}
use Rattle.types.specs.declared.outcome.Outcome.{Outcome}
use Rattle.types.specs.Outcomes.{outcome_text}
use Rattle.search_endings.specs.Endings.{Ending}
use Rattle.report_lines.specs.Lines.{numbered, hex_bytes}

-- How a thread ended, in the line of an ending.
abbrev pub thread_part : ℕ → Outcome → List ℕ
thread_part thread outcome = codes "thread " ++ decimal thread ++ codes ": " ++ outcome_text outcome ++ codes "; "

-- The bytes, where there are some.
abbrev pub bytes_part : List ℕ → List ℕ
bytes_part [] = []
bytes_part (b ∷ bytes) = codes "; bytes" ++ hex_bytes (b ∷ bytes)

abbrev pub ending_line : Ending → List ℕ
ending_line e = numbered thread_part 0 e.outcomes ++ codes "pages " ++ decimal e.pages ++ bytes_part e.bytes ++ codes "\n"

abbrev pub ending_lines : List Ending → List ℕ
ending_lines endings = flat_map ending_line endings
