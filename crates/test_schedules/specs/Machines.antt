-- The scheduled machine of a module.
use Rattle.std.specs.Prelude.{ℕ, ◌≡◌, ◌≤◌, List, All, length}
use Rattle.types.specs.declared.value.Value.{Value}
use Rattle.types.specs.declared.parts.Parts.{Parts}
use Rattle.interp_machine.specs.Program.{program_of}
use Rattle.interp_machine.specs.Config.{Config}
use Rattle.schedule_runs.specs.Runs.{first_state}
use Rattle.schedule.specs.Machine.{Thread.Absent}
use Rattle.interp_trait.specs.Turns.{Meaning, Running, spawned_in}
use Rattle.spawn_host.specs.declared.call.Call.{Call}
use Rattle.spawn_host.specs.Entries.{CallsThreadStart, StartsThreads, Takes}
use Rattle.spawn_host.specs.Runs.{start_with}
use Rattle.schedule_machine.specs.Threads.{Setting}
use Rattle.schedule_program.specs.Threads.{IsPrepared}
use Rattle.schedule_program.specs.Runs.{AreThreads, IsAt}
use Rattle.schedule_program.specs.declared.stepped.Stepped.{Stepped}
use Rattle.schedule_program.specs.declared.stepping.Machine.{Machine}

-- What its threads have in common.
abbrev pub setting_of : Parts → (List Value → Config) → ℕ → Setting
setting_of m worker fuel = record { program = program_of m; worker = worker; fuel = fuel }

module _ {S : Type 0} (meaning : S → Meaning) where
  -- It stands where a run of an exported function with these arguments begins.
  pub record IsMachineOf (m : Parts) (name : List ℕ) (args : List Value) (budget : ℕ) (machine : Machine S)
      : Type 0 where
    pub takes : Takes m name args
    pub worker : List Value → Config
    pub calls : StartsThreads m → CallsThreadStart m (spawned_in worker)
    pub at : IsAt meaning (setting_of m worker budget) machine
        (first_state (start_with m takes.func_type takes.body args (spawned_in worker) budget))

  abbrev pub IsMachineOfCall : Parts → Call → Machine S → Type 0
  IsMachineOfCall m call machine = IsMachineOf m call.name.now call.args.now call.fuel machine

  -- The threads of each family for which a list stands are those for which it stands with more that weren't started.
  abbrev pub AddsAbsent : List S → List (Stepped S) → List (Stepped S) → Type 0
  AddsAbsent spawned xs ys = (s : Setting) (f : ℕ → Running) → All (IsPrepared meaning s) spawned
      → AreThreads meaning s xs f → ((m : ℕ) → length xs ≤ m → f m ≡ Absent) → AreThreads meaning s ys f
