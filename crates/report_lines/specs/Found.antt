-- The lines of what a search found.
use Rattle.std.specs.Prelude.{ℕ, List, ◌++◌, codes}
use Rattle.std.specs.Fmt.{decimal}
use Rattle.report_lines.specs.Complete.{counted}

abbrev pub found_run_line : ℕ → List ℕ
found_run_line run = codes "found in run " ++ decimal run ++ codes "\n"

-- The ending of this number in the list, from 1 on.
abbrev pub found_ending_line : ℕ → List ℕ
found_ending_line number = codes "found as ending " ++ decimal number ++ codes "\n"

abbrev pub without_run_line : ℕ → List ℕ
without_run_line number = codes "found as ending " ++ decimal number ++ codes "; no run was made for it\n"

-- After so many entries a run is where none ends, or goes round for ever.
abbrev pub entries_text : ℕ → List ℕ
entries_text count = counted count (codes "entry") (codes "entries")

abbrev pub after_text : ℕ → List ℕ
after_text entries = codes "found: after " ++ entries_text entries

abbrev pub no_end_line : ℕ → List ℕ
no_end_line entries = after_text entries ++ codes " no run ends\n"

abbrev pub for_ever_line : ℕ → List ℕ
for_ever_line entries = after_text entries ++ codes " a fair run goes round for ever\n"
