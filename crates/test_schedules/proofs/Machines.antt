-- The threads of a module, before their first turn, as those of a machine.
use Rattle.std.proofs.Common.{◌≡◌, ℕ, List, All, refl, ◌∙◌, ap, subst}
use Rattle.std.proofs.lemmas.List.Elements.{All-weaker}
use Rattle.types.specs.declared.value.Value.{Value}
use Rattle.types.specs.declared.parts.FuncType.{FuncType}
use Rattle.types.specs.declared.parts.Body.{Body}
use Rattle.types.specs.declared.parts.Parts.{Parts}
use Rattle.types.specs.declared.limits.TheConstants.{MOST_PAGES}
use Rattle.validate_typing.specs.Image.{opening_image, pages_max_of}
use Rattle.shared_memory.specs.Memory.{Memory}
use Rattle.interp_machine.specs.Config.{Config}
use Rattle.interp_trait.specs.Turns.{Meaning, spawned_in}
use Rattle.interp.specs.Starts.{start_of}
use Rattle.spawn_host.specs.Entries.{CallsThreadStart}
use Rattle.spawn_host.specs.Runs.{opening_memory, start_with}
use Rattle.spawn_host.specs.Threads.{AreSpawnable, IsCall}
use Rattle.schedule_runs.specs.Runs.{first_state}
use Rattle.schedule_program.specs.Threads.{IsPrepared}
use Rattle.schedule_machine.specs.Runs as runs
use Rattle.schedule_machine.specs.Runs.{first_thread}
use Rattle.schedule_program.specs.Runs.{IsAt}
use Rattle.schedule_program.specs.declared.stepping.Machine.{Machine}
use Rattle.test_schedules.specs.Machines.{setting_of}

-- the memory opens as the module's does
abbrev memory_with : List ℕ → ℕ → Memory
memory_with xs k = record { bytes = xs; max = k }

pub opened_is : (m : Parts) (memory : Memory) (bytes : List ℕ) (max : ℕ) → memory ≡ record { bytes = bytes; max = max }
    → bytes ≡ opening_image m → max ≡ pages_max_of MOST_PAGES m → memory ≡ opening_memory m
opened_is m memory bytes max is image most =
    is ∙ (ap (λ (xs : List ℕ). memory_with xs max) image ∙ ap (λ k. memory_with (opening_image m) k) most)

module _ {S : Type 0} (meaning : S → Meaning) (m : Parts) (budget : ℕ) where
  abbrev Spawnable : List Value → List S → Type 0
  Spawnable args threads = AreSpawnable meaning m args budget threads

  abbrev pub worker_in : (args : List Value) (threads : List S) → Spawnable args threads → List Value → Config
  worker_in args threads are = start_of m are.func_type are.body

  pub prepared : (args : List Value) (threads : List S) (are : Spawnable args threads)
      → All (IsPrepared meaning (setting_of m (worker_in args threads are) budget)) threads
  prepared args threads are =
      All-weaker (IsCall meaning m are.func_type are.body args budget) (IsPrepared meaning (setting_of m (worker_in args threads are) budget))
      (λ x call. record {
        alike = record { program_is = call.program_is; fuel_is = call.fuel_is };
        ready = subst (λ ts. (meaning x).begins ts (worker_in args threads are)) are.is_start.params call.begins_so;
      }) threads are.calls

  pub calls_start : (args : List Value) (threads : List S) (are : Spawnable args threads) → CallsThreadStart m (spawned_in (worker_in args threads are))
  calls_start args threads are = record { own = are.own; func_type = are.func_type; body = are.body; is_start = are.is_start; begins = λ n arg. refl }

  pub at_start : (machine : Machine S) (worker : List Value → Config) (t : FuncType) (b : Body) (args : List Value)
      (memory : Memory) → memory ≡ opening_memory m
      → IsAt meaning (setting_of m worker budget) machine (first_state (runs.start_of (setting_of m worker budget) (start_of m t b args) memory))
      → IsAt meaning (setting_of m worker budget) machine (first_state (start_with m t b args (spawned_in worker) budget))
  at_start machine worker t b args memory is at =
      subst (λ z. IsAt meaning (setting_of m worker budget) machine (first_state (runs.start_of (setting_of m worker budget) (start_of m t b args) z))) is at
