-- The table of a search.
use Rattle.std.specs.Prelude.{ℕ, ◌≡◌, ◌+◌, List, [], ◌∷◌, ◌++◌, All, Bool, length}
use Rattle.spawn_host.specs.Requests.{Requested}
use Rattle.search_scheduled.specs.declared.running.MadeRun.{MadeRun}
use Rattle.search_endings.specs.Endings.{Ending}
use Rattle.selection.specs.declared.sought.Sought.{Sought}
use Rattle.search_finds.specs.declared.met.EndingTable.{EndingTable}
use Rattle.search_finds.specs.Drawing.{AreOfRuns, AreOfRunsBy, IsMetEnding}
use Rattle.search_finds.specs.Tables.{IsNoted}

-- It has these endings, noted one after another: of runs with numbers in a row, from the first on.
pub data IsTableOf (first : ℕ) : List Ending → EndingTable → Type 0 where
  none : (t : EndingTable) → t.runs ≡ 0 → t.met.items ≡ [] → IsTableOf first [] t
  more : (es : List Ending) (e : Ending) (is_new : Bool) (old new : EndingTable) → IsTableOf first es old
      → IsNoted (first + length es) e is_new old new → IsTableOf first (es ++ e ∷ []) new

-- Each ending of the table is that of the run by the call that its row names.
abbrev pub AreMet : Requested → Sought → EndingTable → Type 0
AreMet q s table = All (λ met. IsMetEnding q s met.first met.ending) table.met.items

-- It has the endings of the runs of the search, one after another, as many as it says.
pub record AreNoted (q : Requested) (s : Sought) (table : EndingTable) : Type 0 where
  pub endings : List Ending
  pub noted : IsTableOf s.from endings table
  pub met : AreOfRuns q s s.from endings
  pub count : length endings ≡ table.runs

-- The same, and this holds of each number and of its run.
pub record AreNotedBy (P : ℕ → MadeRun → Type 0) (q : Requested) (s : Sought) (table : EndingTable) : Type 0 where
  pub endings : List Ending
  pub noted : IsTableOf s.from endings table
  pub met : AreOfRunsBy P q s s.from endings
  pub count : length endings ≡ table.runs
