-- What is well of all endings of a call.
use Rattle.std.specs.Prelude.{◌≡◌, ◌≢◌, Bool, List, [], true, Some}
use Rattle.std.specs.List.{list_all}
use Rattle.search_reach.specs.declared.ending.Ended.{Ended}
use Rattle.search_reach.specs.declared.search.Verdict.TheVariants as verdicts
use Rattle.search_reach.specs.declared.liveness.FairRuns.TheVariants.{AllEnd}
use Rattle.search_reach.specs.declared.liveness.Liveness.{Liveness}
use Rattle.search_endings.specs.Endings.{Ending}
use Rattle.search_endings.specs.Ends.{is_done}

-- All threads ended well; and in each of these endings they did.
abbrev pub threads_end_well : Ending → Bool
threads_end_well e = list_all is_done e.outcomes

abbrev pub all_end_well : List Ending → Bool
all_end_well endings = list_all threads_end_well endings

-- It is said that every state can end, and that every fair run does.
pub record EndsForSure (l : Liveness) : Type 0 where
  pub none : l.endless.items ≡ []
  pub fair : l.fair_runs ≡ AllEnd

-- These are all endings, every state can end, and every fair run does.
pub record IsSure (all : Ended Ending) : Type 0 where
  pub are_all : all.verdict ≡ verdicts.All
  pub live : (l : Liveness) × (all.liveness ≡ Some l) × EndsForSure l

-- These are all endings, there is one, and in each all threads ended well; every state can end, and every fair run does.
pub record IsWell (all : Ended Ending) : Type 0 where
  pub sure : IsSure all
  pub some : all.endings.keys ≢ []
  pub well : all_end_well all.endings.keys ≡ true
