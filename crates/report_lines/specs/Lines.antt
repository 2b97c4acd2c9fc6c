-- The lines on standard output.
use Rattle.std.specs.Prelude.{ℕ, ◌+◌, ◌/◌, ◌%◌, ◌==◌, if◌then◌else◌, List, [], ◌∷◌, ◌++◌, take, codes}
use Rattle.std.specs.Fmt.{decimal}
use Rattle.std.specs.List.{flat_map}
use Rattle.types.specs.declared.outcome.Outcome.{Outcome}
use Rattle.types.specs.declared.outcome.ThreadReport.{ThreadReport}
use Rattle.types.specs.Outcomes.{outcome_text}
use Rattle.replay_forms.specs.Texts.{hex_digit}

-- The line of a thread.
abbrev pub thread_line : ℕ → Outcome → List ℕ
thread_line thread outcome = codes "thread " ++ decimal thread ++ codes ": " ++ outcome_text outcome ++ codes "\n"

-- The line of the page count.
abbrev pub pages_line : ℕ → List ℕ
pages_line pages = codes "pages " ++ decimal pages ++ codes "\n"

-- The texts of items in a row, each with its number, from a number on.
abbrev pub numbered : {A : Type 0} → (ℕ → A → List ℕ) → ℕ → List A → List ℕ
numbered text n [] = []
numbered text n (x ∷ xs) = text n x ++ numbered text (n + 1) xs

-- The lines of threads in a row, from a number on.
abbrev pub report_line : ℕ → ThreadReport → List ℕ
report_line n report = thread_line n report.outcome

abbrev pub thread_lines : ℕ → List ThreadReport → List ℕ
thread_lines = numbered report_line

-- A byte: a space and two digits.
abbrev pub hex_byte : ℕ → List ℕ
hex_byte b = 32 ∷ hex_digit (b / 16) ∷ hex_digit (b % 16) ∷ []

-- Bytes in a row.
abbrev pub hex_bytes : List ℕ → List ℕ
hex_bytes bytes = flat_map hex_byte bytes

-- The line of the first bytes, so many, or of all if there are fewer. There is none where none are wanted.
abbrev pub bytes_line : ℕ → List ℕ → List ℕ
bytes_line dump bytes = if dump == 0 then [] else codes "bytes" ++ hex_bytes (take dump bytes) ++ codes "\n"

-- The line of an accepted module: how many functions of its own it has.
abbrev pub functions_line : ℕ → List ℕ
functions_line count = codes "ok functions " ++ decimal count ++ codes "\n"

-- The lines of a run: one a thread, the page count, the first bytes.
abbrev pub end_lines : List ThreadReport → ℕ → ℕ → List ℕ → List ℕ
end_lines threads pages dump bytes = thread_lines 0 threads ++ pages_line pages ++ bytes_line dump bytes
