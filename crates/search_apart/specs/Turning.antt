-- The threads of a module as threads that make turns, one access at a time.
use Rattle.std.specs.Prelude.{◌≡◌, ◌⊎◌, ◌==◌, ℕ, true, List, length, Option, Some, None}
use Rattle.std.specs.List.{filter}
use Rattle.allowed_races.specs.declared.allowed.Allowed.{Allowed}
use Rattle.types.specs.declared.event.Event.{Event}
use Rattle.shared_memory.specs.declared.sleeper.Sleeper.{Sleeper}
use Rattle.shared_memory.specs.Memory.{Memory}
use Rattle.shared_memory.specs.WaitQueue.{WaitQueue, is_among, has_slot}
use Rattle.schedule.specs.System.{Want, Want.Turns, Want.Calls, Want.Awaits, Want.Gone, State}
use Rattle.schedule_threads.specs.Shared.{Shared}
use Rattle.search_threads.specs.Unlimited.{Unlimited.Missing}
use Rattle.search_race_free.specs.Wanted.{after_next}
use Rattle.search_ample.specs.Turns.{TurnSystem}
use Rattle.search_runs.specs.Called.{Called, Walker, system_of}
use Rattle.search_runs.specs.Theorems.{CanReach}
use Rattle.search_apart.specs.Acts.{Act, own_act, wakes_at, starts_it, act_by, is_plain_act, acts_conflict}

-- With how many bytes the memory opens.
abbrev pub opening_of : Called → ℕ
opening_of b = length (Memory.bytes b.opening)

-- What thread n does next, if it can go on.
abbrev pub act_if : Allowed → ℕ → Shared → Walker → Want Event → Option Act
act_if allowed opening x t Turns = Some own_act
act_if allowed opening x t (Calls e) = Some (act_by allowed opening x t e)
act_if allowed opening x t Awaits = None
act_if allowed opening x t Gone = None

abbrev pub next_act : Called → Allowed → State Shared Walker → ℕ → Option Act
next_act b allowed w n =
    act_if allowed (opening_of b) w.shared (w.threads n) ((system_of b).wants (w.threads n))

-- Who sleeps at the address, who has slept longest first.
abbrev pub sleepers_at : ℕ → List Sleeper → List Sleeper
sleepers_at addr sleepers = filter (λ (s : Sleeper). s.addr == addr) sleepers

-- Thread n sleeps at an address, and a notify there may wake it.
pub record HeedsNotify (q : WaitQueue) (n : ℕ) (a : Act) : Type 0 where
  pub addr : ℕ
  pub sleeps : is_among n (sleepers_at addr q.sleepers) ≡ true
  pub act : a ≡ wakes_at addr

-- Thread n isn't there, it may come to be, and a spawn may start it.
pub record HeedsSpawn (q : WaitQueue) (t : Walker) (n : ℕ) (a : Act) : Type 0 where
  pub missing : t ≡ Missing
  pub room : has_slot q n ≡ true
  pub act : a ≡ starts_it

-- What another one's turn has to do to wake thread n or to start it.
abbrev pub Heeds : State Shared Walker → ℕ → Act → Type 0
Heeds w n a = HeedsNotify w.shared.queue n a ⊎ HeedsSpawn w.shared.queue (w.threads n) n a

-- The same queue, but for the order of sleepers of two addresses, of which no notify can tell.
pub record AreAlikeQueues (p q : WaitQueue) : Type 0 where
  pub alive : p.alive ≡ q.alive
  pub sleepers : (addr : ℕ) → sleepers_at addr p.sleepers ≡ sleepers_at addr q.sleepers
  pub due : p.due ≡ q.due
  pub args : p.args ≡ q.args

-- Nobody tells the states apart: the same memory, the same threads, and queues that are alike.
pub record AreAlike (w z : State Shared Walker) : Type 0 where
  pub memory : w.shared.memory ≡ z.shared.memory
  pub queue : AreAlikeQueues w.shared.queue z.shared.queue
  pub threads : (m : ℕ) → w.threads m ≡ z.threads m

-- Their turns, without budgets, wherever they can come; where so much may race.
abbrev pub turns_of : Called → Allowed → TurnSystem (State Shared Walker) Act
turns_of b allowed = record {
  wants = next_act b allowed;
  heeds = Heeds;
  next = after_next (system_of b);
  plain = is_plain_act (opening_of b);
  conflict = acts_conflict;
  among = CanReach b;
  alike = AreAlike;
}
