-- What is printed of a search through every order of entries, and what is well of it.
use Rattle.std.specs.Prelude.{ℕ, ◌==◌, if◌then◌else◌, ◌≡◌, ◌≢◌, All, Bool, List, [], ◌++◌, codes, length, true, Option}
use Rattle.std.specs.Prelude.{Some, None}
use Rattle.std.specs.List.{list_all}
use Rattle.search_reach.specs.declared.ending.Ended.{Ended}
use Rattle.search_reach.specs.declared.search.Verdict.{Verdict}
use Rattle.search_reach.specs.declared.search.Verdict.TheVariants as verdicts
use Rattle.search_reach.specs.declared.liveness.FairRuns.{FairRuns}
use Rattle.search_reach.specs.declared.liveness.FairRuns.TheVariants.{AllEnd, GoOn, Unknown}
use Rattle.search_reach.specs.declared.liveness.Liveness.{Liveness}
use Rattle.search_endings.specs.Endings.{Ending}
use Rattle.search_finds.specs.Finds.{IsLookedFor}
use Rattle.selection.specs.declared.sought.Sought.{Sought}
use Rattle.search_endings.specs.Ends.{is_done}
use Rattle.report_lines.specs.Endings.{ending_lines}
use Rattle.report_lines.specs.Found.{entries_text}
use Rattle.report_lines.specs.Complete.{endings_text, states_text, too_many_line, cannot_tell_line, told_line}
use Rattle.report_lines.specs.Complete.{cannot_end_line, fair_runs_end_line, unknown_line, cycle_line}
use Rattle.report_telling.specs.declared.racing.Racing.{Racing}
use Rattle.report_telling.specs.declared.racing.Racing.TheVariants.{Unasked, Never, OnlyBehindTimeouts, Found}
use Rattle.report_telling.specs.declared.racing.Racing.TheVariants as racings

-- What is said of races behind how many endings and states there are; and where it isn't known, that this is so, unless
-- the search ended at what is looked for.
abbrev pub race_words : Racing → List ℕ
race_words Unasked = []
race_words Never = codes ", no race"
race_words OnlyBehindTimeouts = codes ", no race, but for what comes behind waits with a timeout"
race_words (Found r) = codes ", with races: status 1 without --allow-races"
race_words racings.Unknown = []

abbrev pub races_unknown : Racing → List ℕ
races_unknown Unasked = []
races_unknown Never = []
races_unknown OnlyBehindTimeouts = []
races_unknown (Found r) = []
races_unknown racings.Unknown = codes "whether it races is not known\n"

abbrev pub unknown_text : Verdict → Racing → List ℕ
unknown_text verdicts.All racing = races_unknown racing
unknown_text verdicts.TooMany racing = races_unknown racing
unknown_text verdicts.CannotTell racing = races_unknown racing
unknown_text verdicts.Told racing = races_unknown racing
unknown_text verdicts.Sought racing = []

-- So many endings of so many states are all.
abbrev pub all_line : ℕ → ℕ → Racing → List ℕ
all_line endings states racing =
    codes "all: " ++ endings_text endings ++ codes ", " ++ states_text states ++ race_words racing ++ codes "\n"

-- It ended at one that is looked for.
abbrev pub sought_line : ℕ → ℕ → List ℕ
sought_line endings states =
    codes "not all: found what is looked for; " ++ endings_text endings ++ codes ", " ++ states_text states
    ++ codes " so far\n"

-- The line that says whether so many endings of so many states are all.
abbrev pub verdict_line : Racing → Verdict → ℕ → ℕ → ℕ → List ℕ
verdict_line racing verdicts.All most endings states = all_line endings states racing
verdict_line racing verdicts.TooMany most endings states = too_many_line most endings
verdict_line racing verdicts.CannotTell most endings states = cannot_tell_line endings
verdict_line racing verdicts.Told most endings states = told_line endings states
verdict_line racing verdicts.Sought most endings states = sought_line endings states

-- Of runs with up to so many entries each was gone through, where not all were.
abbrev pub entries_line : ℕ → List ℕ
entries_line n = codes "every run of up to " ++ entries_text n ++ codes " was gone through\n"

abbrev pub gone_through_line : ℕ → List ℕ
gone_through_line n = if n == 0 then [] else entries_line n

abbrev pub gone_through_lines : Option ℕ → List ℕ
gone_through_lines None = []
gone_through_lines (Some n) = gone_through_line n

abbrev pub gone_through_text : Verdict → Option ℕ → List ℕ
gone_through_text verdicts.All levels = []
gone_through_text verdicts.TooMany levels = gone_through_lines levels
gone_through_text verdicts.CannotTell levels = gone_through_lines levels
gone_through_text verdicts.Told levels = gone_through_lines levels
gone_through_text verdicts.Sought levels = gone_through_lines levels

-- The line that says whether every fair run ends.
abbrev pub fair_runs_line : FairRuns → List ℕ
fair_runs_line AllEnd = fair_runs_end_line
fair_runs_line (GoOn c) = cycle_line c.threads.items c.states
fair_runs_line Unknown = unknown_line

-- The lines that say what never ends, where that is said.
abbrev pub liveness_lines : Option Liveness → List ℕ
liveness_lines None = []
liveness_lines (Some l) = cannot_end_line (length l.endless.items) ++ fair_runs_line l.fair_runs

-- All lines: a line for each ending, whether these are all, how far it came, what is known of races, and what never
-- ends.
abbrev pub complete_lines : ℕ → Racing → Ended Ending → List ℕ
complete_lines most racing all =
    ending_lines all.endings.keys
    ++ (verdict_line racing all.verdict most (length all.endings.keys) all.states
    ++ (gone_through_text all.verdict all.levels ++ (unknown_text all.verdict racing ++ liveness_lines all.liveness)))

-- All threads ended well; and in each of these endings they did.
abbrev pub threads_end_well : Ending → Bool
threads_end_well e = list_all is_done e.outcomes

abbrev pub all_end_well : List Ending → Bool
all_end_well endings = list_all threads_end_well endings

-- It is said that every state can end, and that every fair run does.
pub record EndsForSure (l : Liveness) : Type 0 where
  pub none : l.endless.items ≡ []
  pub fair : l.fair_runs ≡ AllEnd

-- These are all endings, every state can end, and every fair run does.
pub record IsSure (all : Ended Ending) : Type 0 where
  pub are_all : all.verdict ≡ verdicts.All
  pub live : (l : Liveness) × (all.liveness ≡ Some l) × EndsForSure l

-- These are all endings, there is one, in each all threads ended well and none is looked for; every state can end, and
-- every fair run does.
pub record AreAllWell (s : Sought) (all : Ended Ending) : Type 0 where
  pub sure : IsSure all
  pub some : all.endings.keys ≢ []
  pub well : all_end_well all.endings.keys ≡ true
  pub unsought : All (λ e. IsLookedFor s e → ⊥) all.endings.keys
