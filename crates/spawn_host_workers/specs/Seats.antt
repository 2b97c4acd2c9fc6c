-- What the calls of a run do, said of threads, of a memory and of its seats.
use Rattle.std.specs.Prelude.{ℕ, ◌≡◌, ◌<◌, ◌-◌, List, [], ◌∷◌, ◌++◌, slice_index_or}
use Rattle.types.specs.declared.event.Event.{Event}
use Rattle.types.specs.declared.outcome.Outcome.{Outcome}
use Rattle.types.specs.declared.limits.TheConstants.{SEATS}
use Rattle.shared_memory.specs.declared.memory.SharedMemory.{Ghosts}
use Rattle.shared_memory.specs.Seats.{IsSameSeat}
use Rattle.shared_memory.specs.WaitQueue.{IsFree}
use Rattle.shared_memory.specs.History.{queue_after}
use Rattle.interp_trait.specs.Turns.{Running, Meaning, IsHere, WantsEvent, StaysAs, left_of}
use Rattle.interp_trait.specs.declared.gate.Gate as gates
use Rattle.interp_trait.specs.declared.turn.Turn.{Turn}
use Rattle.interp_trait.specs.declared.turn.Turn.TheVariants.{Ended}
use Rattle.spawn_host_workers.specs.declared.serving.Served.{Served}
use Rattle.spawn_host_workers.specs.declared.report.RunEnd.{RunEnd}
use Rattle.spawn_host_workers.specs.declared.running.ThreadEnd.{ThreadEnd}
use Rattle.spawn_host_workers.specs.OverMemory.{over}
use Rattle.interp_trait.specs.Comes.{watched}
use Rattle.spawn_host_workers.specs.Ends.{RunsOutTrying}
use Rattle.spawn_host_workers.specs.Serving.{Attends, Serves, Steps}
use Rattle.spawn_host_workers.specs.Level.{Level, Round}
use Rattle.spawn_host_workers.specs.Composed.{IsComposed}

-- The seats of a run are in order of their names; and none has seen an entry.
abbrev pub AreInOrder : {M S : Type 0} → Ghosts M S → List S → Type 0
AreInOrder m seats = (k : ℕ) (d : _) → k < SEATS → m.name (slice_index_or seats k d) ≡ k

abbrev pub AreNew : {M S : Type 0} → Ghosts M S → List S → Type 0
AreNew m seats = (k : ℕ) (d : _) → k < SEATS → m.seen (slice_index_or seats k d) ≡ []

-- What an event comes to.
abbrev pub SeatServes : {M S : Type 0} → Ghosts M S → M → S → S → Event → Served → Type 0
SeatServes m memory before after event result =
    Serves m.LOSES m.opening (m.limit memory) (m.name before) event (m.seen before) (m.seen after) result

-- A thread and its seat, after a part of the thread's run: it is the same thread, the same seat, and free to go on.
pub record StaysFree {T M S : Type 0} (m : Ghosts M S) (meaning : T → Meaning) (thread thread' : T) (seat seat' : S)
    : Type 0 where
  pub stays : StaysAs (meaning thread) (meaning thread')
  pub same : IsSameSeat m seat seat'
  pub free : IsFree (queue_after (m.seen seat')) (m.name seat)

module _ {T M S G : Type 0} (m : Ghosts M S) (gate : gates.Ghosts G) (memory : M) (meaning : T → Meaning) where
  -- From each state for which it stood where it wants the event, the thread has made a step. The gate was called before
  -- the event.
  abbrev pub SeatAttends : T → T → S → S → G → G → Event → Turn → Type 0
  SeatAttends thread thread' seat seat' old new event turn =
      (t : Running) (earlier : G) → WantsEvent (meaning thread) event t
      → gate.sees earlier (m.name seat) ((meaning thread).fuel - left_of t) old
      → Steps gate (meaning thread).fuel (meaning thread).program m.LOSES m.opening (m.limit memory) (m.name seat) t
      turn
      (meaning thread').stands
      (watched m.seen m.lost seat earlier) (watched m.seen m.lost seat' new)

  -- From each state for which it stood, it has.
  abbrev pub SeatSteps : T → T → S → S → G → G → Turn → Type 0
  SeatSteps thread thread' seat seat' old new turn =
      (t : Running) → (meaning thread).stands t → IsHere t
      → Steps gate (meaning thread).fuel (meaning thread).program m.LOSES m.opening (m.limit memory) (m.name seat) t
      turn
      (meaning thread').stands
      (watched m.seen m.lost seat old) (watched m.seen m.lost seat' new)

  -- It has ended, in a state for which it stands now, by however many steps.
  abbrev pub SeatEnds : T → T → S → S → G → G → Outcome → Type 0
  SeatEnds thread thread' seat seat' old new outcome =
      (t : Running) → (meaning thread).stands t → IsHere t
      → Attends gate (meaning thread).fuel (meaning thread).program m.LOSES m.opening (m.limit memory) (m.name seat) t
      (Ended outcome)
      (meaning thread').stands
      (watched m.seen m.lost seat old) (watched m.seen m.lost seat' new)

  -- It has run to its end, and left.
  abbrev pub SeatRunsOut : T → S → G → ThreadEnd S G → Type 0
  SeatRunsOut thread seat old end =
      (t : Running) → (meaning thread).stands t → IsHere t
      → RunsOutTrying gate (meaning thread).program m.LOSES m.opening (m.limit memory) (m.name seat) t end.outcome
      end.spent
      (meaning thread).fuel (watched m.seen m.lost seat old) (watched m.seen m.lost end.seat end.gate)

-- After i seats have met the hub; and after all have, twice.
abbrev pub HasMet : {M S : Type 0} → Ghosts M S → S → S → List S → List S → ℕ → Type 0
HasMet m hub hub' seats seats' i = Round m.opening m.name m.has_queue_right m.seen hub hub' seats seats' i

abbrev pub AreLevel : {M S : Type 0} → Ghosts M S → S → S → List S → List S → Type 0
AreLevel m hub hub' seats seats' = Level m.opening m.name m.has_queue_right m.seen hub hub' seats seats'

-- All seats are level with the hub, which comes last.
abbrev pub ComeHome : {M S : Type 0} → Ghosts M S → S → List S → List S → Type 0
ComeHome m hub seats all = (last : _) × (others : List _) × (all ≡ others ++ last ∷ [])
    × AreLevel m hub last seats others

-- What a run gives is one history.
abbrev pub GivesRun : {T M S : Type 0} → Ghosts M S → M → (T → Meaning) → T → List T → RunEnd S → Type 0
GivesRun m memory meaning first spawned =
    λ end. IsComposed (over m memory) meaning first spawned end.threads.items end.seats.items
