-- The searches of the command line.
use Rattle.std.specs.Prelude.{◌≤◌, ◌≢◌, IfSome}
use Rattle.types.specs.declared.limits.TheConstants.{MOST_LIMIT, MOST_FUEL}
use Rattle.selection.specs.declared.sought.Sought.{Sought}
use Rattle.report_command.specs.declared.limits.TheConstants.{MOST_DUMP, MOST_RUNS, MOST_STATES}
use Rattle.report_command.specs.declared.search.Search.{Search}

-- The numbers of the runs that are made are in their ranges.
pub record IsSoughtInRange (s : Sought) : Type 0 where
  pub runs : s.runs ≤ MOST_RUNS
  pub from : s.from ≤ MOST_RUNS
  pub limit_low : 1 ≤ s.limit
  pub limit : s.limit ≤ MOST_LIMIT
  pub dump : s.dump ≤ MOST_DUMP

-- Those of a search are.
pub record IsSearchInRange (s : Search) : Type 0 where
  pub sought : IsSoughtInRange s.sought
  pub all : IfSome s.all (λ states. (1 ≤ states) × (states ≤ MOST_STATES))
  pub fuel : s.call.fuel ≤ MOST_FUEL

-- It keeps no record at the path of its module.
abbrev pub SearchKeepsItsModule : Search → Type 0
SearchKeepsItsModule s = IfSome s.save (λ path. path.now ≢ s.file.now)
