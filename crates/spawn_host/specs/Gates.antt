-- When a run of a module calls its gate.
use Rattle.std.specs.Prelude.{ℕ, zero, suc, ◌≡◌, List, [], ◌∷◌, Option, Some, None, slice_get}
use Rattle.types.specs.declared.value.Value.TheVariants as values
use Rattle.types.specs.declared.parts.FuncType.{FuncType}
use Rattle.types.specs.declared.parts.Body.{Body}
use Rattle.types.specs.declared.parts.Parts.{Parts}
use Rattle.types.specs.declared.outcome.ThreadReport.{ThreadReport}
use Rattle.schedule.specs.Machine.{Thread.Runs}
use Rattle.interp_machine.specs.Program.{program_of}
use Rattle.interp_machine.specs.State.{At}
use Rattle.interp_trait.specs.Turns.{Running}
use Rattle.interp_trait.specs.declared.gate.Gate.{Ghosts}
use Rattle.interp.specs.Starts.{start_of}
use Rattle.spawn_host_workers.specs.Gated.{Gathers, Passage, PassesGate, reports_of}
use Rattle.spawn_host.specs.declared.call.Call.{Call}
use Rattle.spawn_host.specs.Entries.{Takes, IsThreadStart}
use Rattle.spawn_host.specs.Requests.{Requested}

-- What thread n starts with: thread 0 calls the function that is exported by the name, with the arguments, and another
-- one the function for that, with its number and the argument of its spawn.
abbrev pub Starts : Requested → ℕ → Running → Type 0
Starts r zero t = (takes : Takes r.parts r.name r.args)
    × (t ≡ Runs (At (start_of r.parts takes.func_type takes.body r.args)) r.fuel)
Starts r (suc k) t = (own : ℕ) × (f : FuncType) × (b : Body) × IsThreadStart r.parts own f b × (arg : ℕ)
    × (t ≡ Runs (At (start_of r.parts f b (values.I32 (suc k) ∷ values.I32 arg ∷ []))) r.fuel)

-- Thread n ran from there, as it is reported, and its gate was called before each of its turns; or it wasn't spawned.
abbrev pub Passes : {G : Type 0} → Ghosts G → Requested → ℕ → Option ThreadReport → G → G → Type 0
Passes gate r n None old new = new ≡ old
Passes gate r n (Some report) old new = (t : Running) × Starts r n t
    × PassesGate gate (program_of r.parts) n t report.outcome report.spent r.fuel old new

-- So it was for each thread of the run, whose gates began as the run's; and that gathers them, in order.
pub record IsGatedRun {G : Type 0} (gate : Ghosts G) (r : Requested) (threads : List ThreadReport) (old new : G)
    : Type 0 where
  pub passages : List (Passage G)
  pub reports : threads ≡ reports_of passages
  pub each : (n : ℕ) (x : Passage G) → slice_get passages n ≡ Some x → Passes gate r n x.report old x.gate
  pub gathered : Gathers gate passages old new

-- What is requested by a call of a module.
abbrev pub requested : Parts → Call → Requested
requested m call = record { parts = m; name = call.name.now; args = call.args.now; fuel = call.fuel }

abbrev pub IsGatedCall : {G : Type 0} → Ghosts G → Parts → Call → List ThreadReport → G → G → Type 0
IsGatedCall gate m call threads old new = IsGatedRun gate (requested m call) threads old new
