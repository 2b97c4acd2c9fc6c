-- What a course came to, as a record under a header.
use Rattle.std.specs.Prelude.{ℕ, ◌≡◌, List}
use Rattle.types.specs.declared.value.Value.{Value}
use Rattle.types.specs.declared.parts.Parts.{Parts}
use Rattle.types.specs.declared.limits.TheConstants.{MOST_THREADS, MOST_PAGES}
use Rattle.shared_memory.specs.Memory.{Memory}
use Rattle.schedule_runs.specs.Runs.{Start}
use Rattle.replay_text.specs.declared.version.Version.TheVariants as versions
use Rattle.replay_text.specs.declared.parts.RecordParts.{RecordParts}
use Rattle.replay_rules.specs.Recorded.{IsRecordedRun}
use Rattle.spawn_host.specs.Requests.{Requested}
use Rattle.spawn_host.specs.declared.end.EndState.{EndState}

-- One record has the other's header: its version, the module's length, how many threads and pages there may be, its
-- call, its budget and its limit.
pub record HasHeaderOf (header r : RecordParts) : Type 0 where
  pub version : r.version ≡ header.version
  pub module_len : r.module_len ≡ header.module_len
  pub threads : r.threads ≡ header.threads
  pub max_pages : r.max_pages ≡ header.max_pages
  pub invoke : r.invoke ≡ header.invoke
  pub args : r.args ≡ header.args
  pub fuel : r.fuel ≡ header.fuel
  pub limit : r.limit ≡ header.limit

-- The header is that of a call, in version 2: with the module's length, and with as many threads and pages as there may
-- ever be.
pub record IsOfCall (m : Parts) (name : List ℕ) (values : List Value) (units most : ℕ) (r : RecordParts) : Type 0 where
  pub version : r.version ≡ versions.Two
  pub module_len : r.module_len ≡ m.length
  pub threads : r.threads ≡ MOST_THREADS
  pub max_pages : r.max_pages ≡ MOST_PAGES
  pub invoke : r.invoke ≡ name
  pub args : r.args ≡ values
  pub fuel : r.fuel ≡ units
  pub limit : r.limit ≡ most

-- The same of what is requested.
abbrev pub IsOfRequest : Requested → ℕ → RecordParts → Type 0
IsOfRequest q most r = IsOfCall q.parts q.name q.args q.fuel most r

-- The record is of a run with this beginning, which ends so.
pub record Concludes (b : Start) (r : RecordParts) (end : EndState) : Type 0 where
  pub last : Memory
  pub recorded : IsRecordedRun b r last
  pub threads : end.threads.items ≡ r.ends
  pub pages : end.pages ≡ r.pages
  pub bytes : end.bytes.items ≡ last.bytes
