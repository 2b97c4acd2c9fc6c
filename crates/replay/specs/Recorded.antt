-- The record of a run that ended.
use Rattle.std.specs.Prelude.{ℕ, ◌≡◌, false, List, Some}
use Rattle.types.specs.declared.value.Value.{Value}
use Rattle.types.specs.declared.parts.Parts.{Parts}
use Rattle.types.specs.declared.limits.TheConstants.{MOST_THREADS, MOST_PAGES}
use Rattle.spawn_host.specs.RunEnds.{EndsRun}
use Rattle.spawn_host.specs.declared.end.EndState.{EndState}
use Rattle.replay_text.specs.declared.version.Version.TheVariants as versions
use Rattle.replay_text.specs.declared.parts.RecordParts.{RecordParts}
use Rattle.replay_rules.specs.Ranges.{IsLimited}

-- It is of version 2, with the module's length and the threads and pages of every run; its call is the
-- run's, its log the history, its ends and its pages those of the run, and the memory kept to its limits.
pub record RecordsRun (m : Parts) (entry : List ℕ) (args : List Value) (fuel limit : ℕ) (record_is : RecordParts)
    (end : EndState) : Type 0 where
  pub version : record_is.version ≡ versions.Two
  pub module_len : record_is.module_len ≡ m.length
  pub threads : record_is.threads ≡ MOST_THREADS
  pub max_pages : record_is.max_pages ≡ MOST_PAGES
  pub invoke : record_is.invoke ≡ entry
  pub args_are : record_is.args ≡ args
  pub fuel_is : record_is.fuel ≡ fuel
  pub limit_is : record_is.limit ≡ limit
  pub ends_are : record_is.ends ≡ end.threads.items
  pub pages_are : record_is.pages ≡ end.pages
  pub limited : IsLimited record_is
  pub ends_run : EndsRun m entry args fuel false (Some limit) record_is.log end
