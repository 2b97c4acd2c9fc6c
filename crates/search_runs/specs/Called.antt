-- The threads of a module without budgets, over the sequential memory and the wait queue.
use Rattle.std.specs.Prelude.{ℕ, ◌==◌, ◌&&◌, cond, nat_lt, length, Option, Some, None, List}
use Rattle.types.specs.declared.value.Value.{Value}
use Rattle.types.specs.declared.event.Event.{Event}
use Rattle.types.specs.declared.event.Event.TheVariants as events
use Rattle.types.specs.declared.event.Question.TheVariants as questions
use Rattle.types.specs.declared.event.Reply.{Reply}
use Rattle.types.specs.declared.event.Answer.{Answer}
use Rattle.types.specs.declared.outcome.Outcome.{Outcome}
use Rattle.types.specs.declared.limits.TheConstants.{MOST_THREADS}
use Rattle.shared_memory.specs.Memory.{Memory, reply_of, state_after}
use Rattle.shared_memory.specs.WaitQueue.{answer_due, first_queue, next_id}
use Rattle.schedule.specs.System.{System, put}
use Rattle.schedule.specs.System as systems
use Rattle.interp_machine.specs.Program.{Program}
use Rattle.interp_machine.specs.Config.{Config}
use Rattle.interp_machine.specs.State.{State, At}
use Rattle.schedule_threads.specs.Shared.{Shared, without_dues, queue_by}
use Rattle.schedule_threads.specs.Threads.{machine_of}
use Rattle.schedule_runs.specs.Runs.{Start}
use Rattle.schedule_machine.specs.Threads.{Setting}
use Rattle.schedule_machine.specs.Runs.{start_of}
use Rattle.interp_trait.specs.Turns.{spawned_in}
use Rattle.search_threads.specs.Unlimited.{Unlimited}
use Rattle.search_threads.specs.Budgets.{without_budget, first_state_without}

-- What is called: the program, the call of thread 0, that of a spawned thread, and the opening memory.
pub record Called : Type 0 where
  pub program : Program
  pub main : Config
  pub worker : List Value → Config
  pub opening : Memory

-- The same with a budget.
abbrev pub setting_of : Called → ℕ → Setting
setting_of b fuel = record { program = b.program; worker = b.worker; fuel = fuel }

abbrev pub with_fuel : Called → ℕ → Start
with_fuel b fuel = start_of (setting_of b fuel) b.main b.opening

-- A thread of the module, with no budget.
abbrev pub Walker : Type 0
Walker = Unlimited State Outcome

abbrev pub reply_by : Shared → ℕ → Event → Reply
reply_by x n e = reply_of x.memory e

abbrev pub shared_by : Shared → ℕ → Event → Shared
shared_by x n e = record { memory = state_after x.memory e; queue = without_dues (queue_by x n e) }

abbrev pub answer_by : Shared → ℕ → Event → ℕ → Option Answer
answer_by x n e m = answer_due (queue_by x n e) m

-- A spawn that gives out a number starts the thread of that number, in the call with its argument.
abbrev pub begun_at : Called → Shared → Event → ℕ → Option State
begun_at b x (events.Ask (questions.Spawn arg)) m = cond (nat_lt m (length x.queue.due) && (m == next_id x.queue))
    (Some (spawned_in b.worker m arg)) None
begun_at b x _ m = None

abbrev pub begun_by : Called → Shared → ℕ → Event → ℕ → Option State
begun_by b x n e m = begun_at b x e m

-- Their system, and the state that it begins in: the opening memory, nobody asleep, thread 0 alone.
abbrev pub system_of : Called → System Shared Walker Event Reply Answer
system_of b = without_budget (machine_of b.program) reply_by shared_by answer_by (begun_by b)

abbrev pub first_shared : Called → Shared
first_shared b = record { memory = b.opening; queue = first_queue MOST_THREADS }

abbrev pub first_threads : Called → ℕ → Option State
first_threads b = put (λ (m : ℕ). None) 0 (Some (At b.main))

abbrev pub first_state : Called → systems.State Shared Walker
first_state b = first_state_without (machine_of b.program) reply_by shared_by answer_by (begun_by b) (first_shared b)
    (first_threads b)
