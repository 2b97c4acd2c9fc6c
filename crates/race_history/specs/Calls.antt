-- What calls order.
use Rattle.std.specs.Prelude.{ℕ, ◌≡◌, ◌<◌, ◌+◌, ◌==◌, ◌++◌, Bool, true, not, if◌then◌else◌}
use Rattle.std.specs.Prelude.{List, [], ◌∷◌, length, map, filter, take, Contains, slice_index_or}
use Rattle.std.specs.Global.{Vec}
use Rattle.std.specs.Option.{is_some}
use Rattle.types.specs.declared.event.Entry.{Entry}
use Rattle.types.specs.declared.event.Event.{Event}
use Rattle.types.specs.declared.event.Event.TheVariants.{Size, Grow, Load, Store, Rmw, Cmpxchg, Ask, Told}
use Rattle.types.specs.declared.event.Question.TheVariants.{Wait, Notify, Spawn, Leave}
use Rattle.shared_memory.specs.declared.sleeper.Sleeper.{Sleeper}
use Rattle.shared_memory.specs.WaitQueue.{WaitQueue, woken_at}
use Rattle.shared_memory.specs.History.{queue_after}
use Rattle.waiters.specs.Queue.{arg_of}
use Rattle.race_history.specs.declared.calls.Calls.{Calls}
use Rattle.race_history.specs.declared.calls.Woken.{Woken}
use Rattle.race_history.specs.Accesses.{is_out_of_bounds}
use Rattle.race_history.specs.Places.{IsAt, is_told, is_told_at, thread_at}
use Rattle.race_history.specs.Order.{IsStartOf, IsWakeOf, Wakes}

-- Whom a notify at this place wakes, of these sleepers.
abbrev pub noting : ℕ → Sleeper → Woken
noting place s = record { place = place; thread = s.thread }

abbrev pub notified : List Sleeper → ℕ → ℕ → ℕ → List Woken
notified sleepers addr count place = map (noting place) (woken_at addr count sleepers)

-- Who was woken and hasn't taken the answer yet, after an event of a thread, which may have ended out of bounds.
abbrev pub noted_after : List Sleeper → ℕ → ℕ → Bool → Event → List Woken → List Woken
noted_after sleepers place n out (Told answer) woken = filter (λ (w : Woken). not (w.thread == n)) woken
noted_after sleepers place n out (Ask (Notify addr count)) woken =
    if out then woken else woken ++ notified sleepers addr count place
noted_after sleepers place n out (Ask (Wait addr width expected timeout)) woken = woken
noted_after sleepers place n out (Ask (Spawn arg)) woken = woken
noted_after sleepers place n out (Ask Leave) woken = woken
noted_after sleepers place n out Size woken = woken
noted_after sleepers place n out (Grow more) woken = woken
noted_after sleepers place n out (Load addr width reach) woken = woken
noted_after sleepers place n out (Store addr width reach value) woken = woken
noted_after sleepers place n out (Rmw op addr width value) woken = woken
noted_after sleepers place n out (Cmpxchg addr width expected replacement) woken = woken

abbrev pub noted : List Sleeper → ℕ → Entry → List Woken → List Woken
noted sleepers place e woken = noted_after sleepers place e.thread (is_out_of_bounds e.reply) e.event woken

-- The places of the notifies that woke the thread, where the entry takes an answer.
abbrev pub wakers_at : Entry → List Woken → List ℕ
wakers_at e woken =
    if is_told e.event then map (λ (w : Woken). w.place) (filter (λ (w : Woken). w.thread == e.thread) woken) else []

-- The starts of threads after an entry: there is one more where the queue has the argument of one more.
abbrev pub started : WaitQueue → ℕ → List ℕ → List ℕ
started q place starts = if is_some (arg_of q (length starts + 1)) then starts ++ place ∷ [] else starts

-- A notify before a place woke the thread, and that one hasn't taken an answer since.
pub record IsPending (log : List Entry) (end place n : ℕ) : Type 0 where
  pub earlier : place < end
  pub wake : IsWakeOf log place n
  pub untold : (k : ℕ) → place < k → k < end → is_told_at log k ≡ true → thread_at log k ≡ n → ⊥

pub record AreWoken (log : List Entry) (end : ℕ) (woken : List Woken) : Type 0 where
  pub from : (w : Woken) → Contains woken w → IsPending log end w.place w.thread
  pub all : (place n : ℕ) → IsPending log end place n → Contains woken (record { place = place; thread = n })

-- The starts of threads before a place, by their numbers.
pub record AreStarts (log : List Entry) (end : ℕ) (starts : List ℕ) : Type 0 where
  pub count : length starts ≡ length (queue_after (take end log)).args
  pub from : (place n : ℕ) → IsAt starts n place → (place < end) × IsStartOf log place (n + 1)
  pub all : (place n : ℕ) → place < end → IsStartOf log place (n + 1) → IsAt starts n place

-- Of each entry before a place the notifies that let it take its answer.
pub record AreWakers (log : List Entry) (end : ℕ) (wakers : List (List ℕ)) : Type 0 where
  pub count : length wakers ≡ end
  pub from : (first second : ℕ) → Contains (slice_index_or wakers second []) first → Wakes log first second
  pub all : (first second : ℕ) → second < end → Wakes log first second → Contains (slice_index_or wakers second []) first

pub record AreCalls (log : List Entry) (end : ℕ) (calls : Calls) : Type 0 where
  pub starts : AreStarts log end calls.starts.items
  pub wakers : AreWakers log end (map (λ (v : Vec ℕ). v.items) calls.wakers.items)
