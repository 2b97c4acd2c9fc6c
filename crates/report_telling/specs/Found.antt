-- The lines of what a search found, and of what is kept of it.
use Rattle.std.specs.Prelude.{ℕ, Bool, true, false, List, [], ◌++◌, codes, Option, Some, None, is_some}
use Rattle.std.specs.Fmt.{decimal}
use Rattle.search_scheduled.specs.declared.running.MadeRun.{MadeRun}
use Rattle.report_json.specs.declared.found.FoundAs.{FoundAs}
use Rattle.report_json.specs.declared.found.FoundAs.TheVariants as founds
use Rattle.report_json.specs.declared.found.RunSize.{RunSize}
use Rattle.report_json.specs.declared.found.Shrunk.{Shrunk}
use Rattle.report_lines.specs.Found.{found_run_line, found_ending_line, without_run_line, no_end_line, for_ever_line}
use Rattle.report_lines.specs.Lines.{end_lines}
use Rattle.report_telling.specs.declared.found.FoundRun.{FoundRun}
use Rattle.report_telling.specs.declared.found.KeptRun.{KeptRun}

-- The line of what was found, and whether a run was made of it.
abbrev pub ending_line : ℕ → Bool → List ℕ
ending_line number true = found_ending_line number
ending_line number false = without_run_line number

abbrev pub found_line : FoundAs → Bool → List ℕ
found_line (founds.Run run) is_made = found_run_line run
found_line (founds.Ending number) is_made = ending_line number is_made
found_line (founds.NoEndAfter entries) is_made = no_end_line entries
found_line (founds.ForEverAfter entries) is_made = for_ever_line entries

abbrev pub found_lines : Option FoundRun → List ℕ
found_lines None = []
found_lines (Some f) = found_line f.found_as (is_some f.made)

-- How large a run is; and how large one was that was shrunk, and is.
abbrev pub size_text : RunSize → List ℕ
size_text size = decimal size.entries ++ codes " entries, " ++ decimal size.switches ++ codes " switches"

abbrev pub sizes_line : Shrunk → List ℕ
sizes_line shrunk = size_text shrunk.before ++ codes " -> " ++ size_text shrunk.after ++ codes "\n"

abbrev pub shrunk_text : Option Shrunk → List ℕ
shrunk_text None = []
shrunk_text (Some shrunk) = sizes_line shrunk

-- The lines of a run, if one was made.
abbrev pub run_lines : ℕ → MadeRun → List ℕ
run_lines dump made = end_lines made.end.threads.items made.end.pages dump made.end.bytes.items

abbrev pub made_lines : ℕ → Option MadeRun → List ℕ
made_lines dump None = []
made_lines dump (Some made) = run_lines dump made

-- Those of what is kept, behind the first one.
abbrev pub kept_text : ℕ → KeptRun → List ℕ
kept_text dump k = shrunk_text k.shrunk ++ made_lines dump k.made

abbrev pub kept_lines : ℕ → Option KeptRun → List ℕ
kept_lines dump None = []
kept_lines dump (Some k) = kept_text dump k
