-- Where a page has its data.
use Rattle.std.specs.Prelude.{◌≡◌, ℕ, List, ◌++◌, All, codes}
use Rattle.std.specs.Io.KnownBytes.{Appends}
use Rattle.std.specs.declared.option.Option.{Option}

-- No `<`, by which each tag begins.
abbrev pub IsNoTag : ℕ → Type 0
IsNoTag byte = ¬ (byte ≡ 60)

-- Where the data of the run begins, and where it ends and that of the events begins.
abbrev pub run_tag : List ℕ
run_tag = codes "<script type=\"application/json\" id=\"run\">"

abbrev pub events_tag : List ℕ
events_tag = codes "</script><script type=\"application/json\" id=\"events\">"

-- What is written has two elements of data, and in these no tag begins but those that end them.
abbrev pub AddsPage : Option (List ℕ) → Option (List ℕ) → Type 0
AddsPage old new = (front run events back : List ℕ) × All IsNoTag run × All IsNoTag events
    × Appends old new (front ++ (run_tag ++ (run ++ (events_tag ++ (events ++ (codes "</script>" ++ back))))))
