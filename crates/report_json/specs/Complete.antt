-- A search through every order of entries.
use Rattle.std.specs.Prelude.{ℕ, List, [], ◌∷◌, codes, length, Option, None}
use Rattle.search_reach.specs.declared.search.Verdict.{Verdict}
use Rattle.search_reach.specs.declared.search.Verdict.TheVariants as verdicts
use Rattle.search_reach.specs.declared.liveness.FairCycle.{FairCycle}
use Rattle.search_reach.specs.declared.liveness.FairRuns.{FairRuns}
use Rattle.search_reach.specs.declared.liveness.FairRuns.TheVariants.{AllEnd, GoOn, Unknown}
use Rattle.search_reach.specs.declared.liveness.Liveness.{Liveness}
use Rattle.report_json.specs.declared.complete.CompleteObject.{CompleteObject}
use Rattle.show_json.specs.Json.{Json, Field, number, text, is, is_given, list_of, object_of}
use Rattle.report_json.specs.Drawn.{ending_json}
use Rattle.report_json.specs.Found.{found_json}
use Rattle.report_json.specs.Raced.{words_field, race_field}

-- Whether the endings are all, or why they aren't.
abbrev pub verdict_words : Verdict → List ℕ
verdict_words verdicts.All = codes "all"
verdict_words verdicts.TooMany = codes "too many states"
verdict_words verdicts.CannotTell = codes "a thread spends its units without an entry"
verdict_words verdicts.Told = codes "told"
verdict_words verdicts.Sought = codes "found"

-- Up to how many entries runs were all gone through, where not all states were met.
abbrev pub levels_told : Verdict → Option ℕ → Option ℕ
levels_told verdicts.All levels = None
levels_told verdicts.TooMany levels = levels
levels_told verdicts.CannotTell levels = levels
levels_told verdicts.Told levels = levels
levels_told verdicts.Sought levels = levels

-- A fair run that goes on for ever: the threads that make entries in it, and through how many states it goes.
abbrev pub cycle_json : FairCycle → Json
cycle_json cycle =
    object_of (is (codes "threads") (list_of number cycle.threads.items) ∷ is (codes "states") (number cycle.states) ∷ [])

-- Whether every fair run ends; and the one that goes on, where one does.
abbrev pub fair_words : FairRuns → List ℕ
fair_words AllEnd = codes "end"
fair_words (GoOn cycle) = codes "can go on"
fair_words Unknown = codes "unknown"

abbrev pub cycle_field : FairRuns → Field
cycle_field AllEnd = None
cycle_field (GoOn cycle) = is (codes "cycle") (cycle_json cycle)
cycle_field Unknown = None

-- What never ends: from how many states no run does, and whether every fair run ends.
abbrev pub liveness_fields : Liveness → List Field
liveness_fields liveness =
    is (codes "endless") (number (length liveness.endless.items))
    ∷ is (codes "fair_runs") (text (fair_words liveness.fair_runs))
    ∷ cycle_field liveness.fair_runs
    ∷ []

abbrev pub liveness_json : Liveness → Json
liveness_json liveness = object_of (liveness_fields liveness)

abbrev pub complete_fields : CompleteObject → List Field
complete_fields complete =
    is (codes "status") (number complete.status)
    ∷ is (codes "verdict") (text (verdict_words complete.all.now.verdict))
    ∷ is (codes "states") (number complete.all.now.states)
    ∷ is (codes "most") (number complete.most)
    ∷ is_given (codes "gone_through") number (levels_told complete.all.now.verdict complete.all.now.levels)
    ∷ is (codes "endings") (list_of ending_json complete.all.now.endings.keys)
    ∷ words_field complete.races
    ∷ race_field complete.races
    ∷ is_given (codes "liveness") liveness_json complete.all.now.liveness
    ∷ is_given (codes "found") found_json complete.found
    ∷ []

abbrev pub complete_json : CompleteObject → Json
complete_json complete = object_of (complete_fields complete)
