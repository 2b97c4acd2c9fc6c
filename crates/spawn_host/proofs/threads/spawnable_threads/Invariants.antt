use Rattle.std.proofs.Common.{◌≡◌, All, vec_len, vec_capacity}
use Rattle.types.specs.declared.parts.FuncType.{FuncType}
use Rattle.types.specs.declared.parts.Body.{Body}
use Rattle.types.specs.declared.value.Value.TheVariants as values
use Rattle.types.specs.declared.parts.Parts.{Parts}
use Rattle.std.specs.Prelude.{ℕ, [], ◌∷◌}
use Rattle.types.specs.declared.limits.TheConstants.{MOST_SPAWNED}
use Rattle.interp.specs.Starts.{IsFunction}
use Rattle.interp.specs.declared.thread.Thread.{Thread}
use Rattle.interp.specs.Threads.{meaning_in}
use Rattle.spawn_host.specs.Threads.{IsCall}
use Rattle.spawn_host.proofs.threads.spawnable_threads.Given as goal

-- a thread is about to call the function of this number
abbrev pub Calls : Parts → ℕ → ℕ → Thread → Type 0
Calls m own fuel x =
    (t : FuncType) (b : Body) → IsFunction m own t b → IsCall meaning_in m t b (values.I32 0 ∷ values.I32 0 ∷ []) fuel x

abbrev pub invariant-loop : goal.invariant-loop
invariant-loop l = record {
  count : vec_len l.threads ≡ l.counter;
  room : vec_capacity l.threads ≡ MOST_SPAWNED;
  calls : All (Calls l.valid.parts l.own l.fuel) l.threads.items;
}
