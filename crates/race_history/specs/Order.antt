-- Which entries of a history happen before which.
--
-- As in the threads proposal ("Memory model"), it is the transitive closure of each thread's own order and of what
-- synchronizes: an atomic write with an atomic read of exactly the same bytes of one location that reads from it. A
-- history is in the order of one sequentially consistent memory, so a read reads from the last write before it. Atomic
-- accesses of different ranges order nothing, as there. By the locations beside the bytes a memory.grow comes before the
-- next memory.grow or memory.size and one that succeeded before all of these, the waits and notifies at one list of
-- waiters are in their order, and so are the spawns. Threads are the host's: a spawn comes before all of its thread, and a
-- notify before the answer of each thread that it wakes. A timeout orders nothing, nor does a thread's end by itself.
use Rattle.std.specs.Prelude.{ℕ, ◌≡◌, ◌⊎◌, ◌+◌, ◌<◌, true, false, List, length, take}
use Rattle.types.specs.declared.event.Entry.{Entry}
use Rattle.types.specs.declared.event.Event.TheVariants.{Ask}
use Rattle.types.specs.declared.event.Question.TheVariants.{Notify}
use Rattle.shared_memory.specs.WaitQueue.{is_among, next_id, woken_at}
use Rattle.shared_memory.specs.History.{queue_after}
use Rattle.race_history.specs.declared.access.ThreadAccess.{ThreadAccess}
use Rattle.race_history.specs.declared.access.Site.{Site}
use Rattle.race_history.specs.Accesses.{Meet, AreMatched, is_out_of_bounds}
use Rattle.race_history.specs.Places.{IsAt, IsAccess, thread_at, is_told_at}

-- Two entries of one thread, in order.
pub record IsOfOneThread (log : List Entry) (first second : ℕ) : Type 0 where
  pub earlier : first < second
  pub within : second < length log
  pub same : thread_at log first ≡ thread_at log second

-- The entry starts this thread: the queue gives out its number there.
pub record IsStartOf (log : List Entry) (place n : ℕ) : Type 0 where
  pub within : place < length log
  pub next : next_id (queue_after (take place log)) ≡ n
  pub given : next_id (queue_after (take (place + 1) log)) ≡ n + 1

-- A spawn, and an entry of the thread that it starts.
pub record Starts (log : List Entry) (first second : ℕ) : Type 0 where
  pub earlier : first < second
  pub within : second < length log
  pub start : IsStartOf log first (thread_at log second)

-- An atomic write, and an atomic read of exactly these bytes that reads what it wrote: no write that touches one of
-- them stands between.
pub record ReadsFrom (log : List Entry) (sites : List Site) (opening first second : ℕ) : Type 0 where
  pub earlier : first < second
  pub write : ThreadAccess
  pub read : ThreadAccess
  pub made : IsAccess log sites opening first write
  pub met : IsAccess log sites opening second read
  pub matched : AreMatched write read
  pub writes : write.writes ≡ true
  pub reads : read.reads ≡ true
  pub last : (k : ℕ) (c : ThreadAccess) → first < k → k < second → IsAccess log sites opening k c → c.writes ≡ true
      → Meet c read → ⊥

-- The entry is a notify that wakes this thread.
pub record IsWakeOf (log : List Entry) (place n : ℕ) : Type 0 where
  pub entry : Entry
  pub addr : ℕ
  pub count : ℕ
  pub entered : IsAt log place entry
  pub notifies : entry.event ≡ Ask (Notify addr count)
  pub within : is_out_of_bounds entry.reply ≡ false
  pub woken : is_among n (woken_at addr count (queue_after (take place log)).sleepers) ≡ true

-- A notify, and the next answer that a thread takes which it woke.
pub record Wakes (log : List Entry) (first second : ℕ) : Type 0 where
  pub earlier : first < second
  pub within : second < length log
  pub wake : IsWakeOf log first (thread_at log second)
  pub told : is_told_at log second ≡ true
  pub next : (k : ℕ) → first < k → k < second → is_told_at log k ≡ true → thread_at log k ≡ thread_at log second → ⊥

abbrev pub IsEdge : List Entry → List Site → ℕ → ℕ → ℕ → Type 0
IsEdge log sites opening first second =
    IsOfOneThread log first second ⊎ Starts log first second ⊎ ReadsFrom log sites opening first second ⊎ Wakes log first second

-- Happens before: along edges, one or more.
pub data IsBefore (log : List Entry) (sites : List Site) (opening : ℕ) : ℕ → ℕ → Type 0 where
  along : {i j : ℕ} → IsEdge log sites opening i j → IsBefore log sites opening i j
  further : {i j k : ℕ} → IsBefore log sites opening i j → IsEdge log sites opening j k → IsBefore log sites opening i k
