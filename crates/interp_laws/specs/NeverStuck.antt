-- No thread of a valid module is ever stuck.
use Rattle.std.specs.Prelude.{◌≡◌, ℕ, List, length, map}
use Rattle.types.specs.declared.value.Value.{Value}
use Rattle.types.specs.declared.event.Event.{Event}
use Rattle.types.specs.declared.event.Reply.{Reply}
use Rattle.types.specs.declared.event.Answer.{Answer}
use Rattle.types.specs.declared.parts.FuncType.{FuncType}
use Rattle.types.specs.declared.parts.Body.{Body}
use Rattle.types.specs.declared.parts.Parts.{Parts}
use Rattle.types.specs.Values.{type_of}
use Rattle.validate_typing.specs.Validity.{IsValid}
use Rattle.schedule.specs.System.{Step}
use Rattle.schedule.specs.Machine.{Thread.Runs}
use Rattle.schedule.specs.ThreadRun.{Reaches}
use Rattle.schedule_threads.specs.Shared.{over_memory_and_queue}
use Rattle.schedule_threads.specs.Threads.{machine_of}
use Rattle.interp_machine.specs.Config.{Config, Next, Stuck, Goes, Traps, Finishes, Asks, Hears}
use Rattle.interp_machine.specs.Program.{program_of}
use Rattle.interp_machine.specs.Step.{next}
use Rattle.interp_machine.specs.State.{State, At}
use Rattle.interp.specs.Starts.{IsFunction, start_of}

-- What comes next is defined: the thread makes a step of its own, which goes on, traps or finishes; or it wants an
-- event; or the answer to its question is due.
abbrev pub IsDefined : Next → Type 0
IsDefined Stuck = ⊥
IsDefined (Goes after) = Unit {0}
IsDefined (Traps trap) = Unit {0}
IsDefined (Finishes result) = Unit {0}
IsDefined (Asks event go) = Unit {0}
IsDefined (Hears go) = Unit {0}

-- A thread calls a function of the module itself with arguments of its type, on any budget. It makes any steps that it
-- may make, each as the thread wants it: turns of its own, tries that are lost or find the log full, events with any
-- reply, answers. As long as it runs, what comes next is defined.
abbrev pub IsNeverStuck : Parts → Type 0
IsNeverStuck m =
    (own : ℕ) (t : FuncType) (body : Body) (args : List Value) → IsFunction m own t body → map type_of args ≡ t.params →
    (start : ℕ → ℕ → State) (budget fuel left : ℕ) (steps : List (Step Event Reply Answer)) (c : Config) →
    Reaches (over_memory_and_queue (machine_of (program_of m)) start budget) (Runs (At (start_of m t body args)) fuel)
    steps
    (Runs (At c) left) →
    IsDefined (next (program_of m) c)

-- Of each valid module with a body for each function.
abbrev pub ValidModulesAreNeverStuck : Type 0
ValidModulesAreNeverStuck = (m : Parts) → IsValid m → length m.functions ≡ length m.bodies → IsNeverStuck m
