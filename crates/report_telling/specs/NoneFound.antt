-- What is said of drawn runs of which none was found, and the status.
use Rattle.std.specs.Prelude.{ℕ, ◌≡◌, ◌≢◌, ◌≤◌, ◌↔◌, ◌==◌, if◌then◌else◌, All, Bool, true, List, [], ◌++◌, Option, Some}
use Rattle.std.specs.Prelude.{None, codes}
use Rattle.std.specs.Fmt.{decimal}
use Rattle.search_finds.specs.Finds.{IsLookedFor}
use Rattle.search_finds.specs.declared.met.EndingTable.{EndingTable}
use Rattle.selection.specs.declared.sought.Sought.{Sought}
use Rattle.report_json.specs.declared.raced.RunRaces.{RunRaces}
use Rattle.report_lines.specs.Drawn.{stopped_line}
use Rattle.report_telling.specs.Complete.{threads_end_well}
use Rattle.report_telling.specs.Drawn.{behind_text, unseen_text}

-- None of so many runs has a race; where some were made.
abbrev pub no_race_line : ℕ → List ℕ
no_race_line runs = if runs == 1 then codes "no race in 1 run; others may have one\n" else
    codes "no race in " ++ decimal runs ++ codes " runs; others may have one\n"

abbrev pub no_race_text : ℕ → List ℕ
no_race_text runs = if runs == 0 then [] else no_race_line runs

-- What stands behind a table where no run has a race: that the search was told to end, where it was, that none has one,
-- and what is unseen.
abbrev pub unraced_text : Sought → EndingTable → List ℕ
unraced_text s table = no_race_text table.runs ++ unseen_text s table

abbrev pub stopped_text : Bool → Sought → EndingTable → List ℕ
stopped_text is_told s table = if is_told then stopped_line table.runs s.runs else []

abbrev pub raceless_text : Bool → Sought → EndingTable → List ℕ
raceless_text is_told s table = stopped_text is_told s table ++ unraced_text s table

-- What stands behind a table where nothing was found: of a search for a race, of which something is said then, or for
-- an ending.
abbrev pub text_of_none : Option RunRaces → Bool → Sought → EndingTable → List ℕ
text_of_none None is_told s table = behind_text is_told s table
text_of_none (Some races) is_told s table = raceless_text is_told s table

-- Runs were made; in each ending of the table all threads ended well, and none is looked for.
pub record IsAllWell (s : Sought) (table : EndingTable) : Type 0 where
  pub some : table.runs ≢ 0
  pub well : All (λ met. (threads_end_well met.ending ≡ true) × (IsLookedFor s met.ending → ⊥)) table.met.items

-- The status is 0 where all is well, and else 1.
pub record IsStatusOfTable (s : Sought) (table : EndingTable) (status : ℕ) : Type 0 where
  pub well : (status ≡ 0) ↔ IsAllWell s table
  pub statuses : status ≤ 1
