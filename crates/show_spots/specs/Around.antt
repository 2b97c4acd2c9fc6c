-- Lines of source around a place as text.
use Rattle.std.specs.Prelude.{ℕ, ◌+◌, ◌-◌, ◌^◌, min, List, ◌++◌, codes, Option, Some, None}
use Rattle.std.specs.Borrow.{Bor}
use Rattle.std.specs.Fmt.{decimal}
use Rattle.show_text.specs.Plain.{plain_text}
use Rattle.show_spots.specs.declared.around.Around.{Around}

-- A line behind its number, where it is at hand.
abbrev pub marked_text : List ℕ → ℕ → Option (Bor (List ℕ)) → List ℕ
marked_text mark line None = codes ""
marked_text mark line (Some text) =
    codes "      " ++ (mark ++ (codes " " ++ (decimal line ++ (codes " | " ++ (plain_text text.now ++ codes "\n")))))

abbrev pub above : ℕ → ℕ
above line = min (line + 1) (2 ^ 64 - 1)

abbrev pub around_text : Around → List ℕ
around_text a = marked_text (codes " ") (a.line - 1) a.before
    ++ marked_text (codes ">") a.line a.here ++ marked_text (codes " ") (above a.line) a.behind
