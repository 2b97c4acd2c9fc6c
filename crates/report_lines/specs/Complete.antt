-- The lines of a search through every order of entries: how many endings and states it met, from how many states no run
-- ends, and whether every fair run ends.
use Rattle.std.specs.Prelude.{ℕ, ◌==◌, if◌then◌else◌, List, ◌++◌, length, codes}
use Rattle.std.specs.Fmt.{decimal}
use Rattle.std.specs.List.{flat_map}

-- So many of a thing, whose name has a form for one and another for more.
abbrev pub form_of : ℕ → List ℕ → List ℕ → List ℕ
form_of count one more = if count == 1 then one else more

abbrev pub counted : ℕ → List ℕ → List ℕ → List ℕ
counted count one more = decimal count ++ codes " " ++ form_of count one more

abbrev pub endings_text : ℕ → List ℕ
endings_text count = counted count (codes "ending") (codes "endings")

abbrev pub states_text : ℕ → List ℕ
states_text count = counted count (codes "state") (codes "states")

-- These are all.
abbrev pub all_line : ℕ → ℕ → List ℕ
all_line endings states = codes "all: " ++ endings_text endings ++ codes ", " ++ states_text states ++ codes "\n"

-- They aren't: there are more states than it may meet.
abbrev pub too_many_line : ℕ → ℕ → List ℕ
too_many_line most endings =
    codes "not all: more than " ++ states_text most ++ codes "; " ++ endings_text endings ++ codes " so far\n"

-- Of a state it can't tell what comes next.
abbrev pub cannot_tell_line : ℕ → List ℕ
cannot_tell_line endings =
    codes "not all: a thread spends its units without an entry; " ++ endings_text endings ++ codes " so far\n"

-- It was told to end.
abbrev pub told_line : ℕ → ℕ → List ℕ
told_line endings states =
    codes "not all: told to end; " ++ endings_text endings ++ codes ", " ++ states_text states ++ codes " so far\n"

-- From so many states no run ends.
abbrev pub cannot_end_line : ℕ → List ℕ
cannot_end_line count =
    if count == 0 then codes "every state can end\n" else states_text count ++ codes " from which no run ends\n"

-- Whether every fair run ends.
abbrev pub fair_runs_end_line : List ℕ
fair_runs_end_line = codes "every fair run ends\n"

abbrev pub unknown_line : List ℕ
unknown_line = codes "whether every fair run ends is not known\n"

-- A fair run goes on for ever, in which these threads go through so many states again and again.
abbrev pub number_text : ℕ → List ℕ
number_text n = codes " " ++ decimal n

abbrev pub threads_text : List ℕ → List ℕ
threads_text threads = form_of (length threads) (codes "thread") (codes "threads") ++ flat_map number_text threads

abbrev pub cycle_line : List ℕ → ℕ → List ℕ
cycle_line threads states =
    codes "a fair run can go on for ever: " ++ threads_text threads ++ codes " in " ++ states_text states ++ codes "\n"
