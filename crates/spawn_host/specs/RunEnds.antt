-- What a run leaves: reports, pages and bytes of one history, which one thread that steps all threads makes again.
use Rattle.std.specs.Prelude.{ℕ, ◌≡◌, Bool, true, List, Option, None}
use Rattle.types.specs.declared.value.Value.{Value}
use Rattle.types.specs.declared.event.Entry.{Entry}
use Rattle.types.specs.declared.parts.Parts.{Parts}
use Rattle.shared_memory.specs.Memory.{pages}
use Rattle.shared_memory.specs.History.{memory_after}
use Rattle.spawn_host.specs.Requests.{Requested}
use Rattle.spawn_host.specs.Runs.{opening_memory, IsRunHistory}
use Rattle.spawn_host.specs.declared.end.EndState.{EndState}

-- The threads ran together in the history, and the reports are theirs. The page count and the bytes are those of the
-- sequential memory after it.
pub record EndsRun (m : Parts) (entry : List ℕ) (args : List Value) (fuel : ℕ) (loses : Bool) (limit : Option ℕ)
    (history : List Entry) (end : EndState) : Type 0 where
  pub is_history : IsRunHistory m entry args fuel loses limit end.threads.items history
  pub pages_after : end.pages ≡ pages (memory_after (opening_memory m) history)
  pub bytes_after : end.bytes.items ≡ (memory_after (opening_memory m) history).bytes

-- A run over a memory in which tries can be lost, and which has no limit.
abbrev pub EndsRunOnWords : Parts → List ℕ → List Value → ℕ → EndState → Type 0
EndsRunOnWords m entry args fuel end = (history : List Entry) × EndsRun m entry args fuel true None history end

-- The same of what is requested.
abbrev pub EndsRequestOnWords : Requested → EndState → Type 0
EndsRequestOnWords r = EndsRunOnWords r.parts r.name r.args r.fuel
