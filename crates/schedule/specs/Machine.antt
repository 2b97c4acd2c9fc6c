-- A thread with a budget of units, over a machine of configurations.
use Rattle.std.specs.Prelude.{ℕ, zero, suc, ◌≡◌, ◌-◌, Bool, true, false, not, Option}
use Rattle.schedule.specs.System.{Want, Want.Turns, Want.Calls, Want.Awaits, Want.Gone, System}

-- What a configuration wishes: a turn of its own, an event, the answer to its question, or nothing, because it has
-- ended with an outcome.
pub data Wish (E O : Type 0) : Type 0 where
  Goes : Wish E O
  Asks : E → Wish E O
  Waits : Wish E O
  Ends : O → Wish E O

-- A machine, over configurations C, events E, replies V, answers A and outcomes O.
pub record Machine (C E V A O : Type 0) : Type 0 where
  -- what a configuration wishes, and the one after a turn of its own, a reply, an answer
  pub wishes : C → Wish E O
  pub goes : C → C
  pub takes : C → V → C
  pub hears : C → A → C
  -- whether an event with this reply is a question, which is open until its answer is heard
  pub opens : E → V → Bool
  -- the events whose try can be lost, and those that a full log takes all the same
  pub may_be_lost : E → Bool
  pub is_exempt : E → Bool
  -- the event by which a thread leaves, and its outcomes where the units are spent, or the log is full
  pub leave : E
  pub out_of_fuel : O
  pub record_full : O

-- A thread: there is none; it runs, over, it has asked to leave, or it has left. The number is of the units left.
pub data Thread (C O : Type 0) : Type 0 where
  Absent : Thread C O
  Runs : C → ℕ → Thread C O
  Over : O → ℕ → Thread C O
  Leaves : O → ℕ → Thread C O
  Left : O → ℕ → Thread C O

module _ {C E V A O : Type 0} (k : Machine C E V A O) where
  -- Of a configuration with so many units left. With none left no turn is made: it wants a turn of its own, which finds
  -- that.
  abbrev pub wanted : ℕ → Wish E O → Want E
  wanted left Waits = Awaits
  wanted left (Ends o) = Calls k.leave
  wanted left Goes = Turns
  wanted zero (Asks e) = Turns
  wanted (suc n) (Asks e) = Calls e

  abbrev pub thread_wants : Thread C O → Want E
  thread_wants Absent = Gone
  thread_wants (Runs c left) = wanted left (k.wishes c)
  thread_wants (Over o left) = Calls k.leave
  thread_wants (Leaves o left) = Awaits
  thread_wants (Left o left) = Gone

  -- A turn of its own costs one unit.
  abbrev pub thread_goes : Thread C O → Thread C O
  thread_goes Absent = Absent
  thread_goes (Runs c zero) = Over k.out_of_fuel 0
  thread_goes (Runs c (suc n)) = Runs (k.goes c) n
  thread_goes (Over o left) = Over o left
  thread_goes (Leaves o left) = Leaves o left
  thread_goes (Left o left) = Left o left

  -- A reply costs one unit; to leave costs none.
  abbrev pub takes_by : Wish E O → C → ℕ → V → Thread C O
  takes_by Goes c left v = Runs c left
  takes_by Waits c left v = Runs c left
  takes_by (Asks e) c left v = Runs (k.takes c v) (left - 1)
  takes_by (Ends o) c left v = Leaves o left

  abbrev pub thread_takes : Thread C O → V → Thread C O
  thread_takes Absent v = Absent
  thread_takes (Runs c left) v = takes_by (k.wishes c) c left v
  thread_takes (Over o left) v = Leaves o left
  thread_takes (Leaves o left) v = Leaves o left
  thread_takes (Left o left) v = Left o left

  -- An answer costs none. Who asked to leave has left with it.
  abbrev pub thread_hears : Thread C O → A → Thread C O
  thread_hears Absent a = Absent
  thread_hears (Runs c left) a = Runs (k.hears c a) left
  thread_hears (Over o left) a = Over o left
  thread_hears (Leaves o left) a = Left o left
  thread_hears (Left o left) a = Left o left

  -- A lost try costs one unit and leaves the configuration.
  abbrev pub thread_lost : Thread C O → Thread C O
  thread_lost Absent = Absent
  thread_lost (Runs c left) = Runs c (left - 1)
  thread_lost (Over o left) = Over o left
  thread_lost (Leaves o left) = Leaves o left
  thread_lost (Left o left) = Left o left

  -- A full log ends the thread, and costs none.
  abbrev pub thread_full : Thread C O → Thread C O
  thread_full Absent = Absent
  thread_full (Runs c left) = Over k.record_full left
  thread_full (Over o left) = Over o left
  thread_full (Leaves o left) = Leaves o left
  thread_full (Left o left) = Left o left

  -- A thread with units left wants an event of this kind.
  abbrev pub wants_a : (E → Bool) → ℕ → Wish E O → Bool
  wants_a p left Waits = false
  wants_a p left (Ends o) = false
  wants_a p left Goes = false
  wants_a p zero (Asks e) = false
  wants_a p (suc n) (Asks e) = p e

  abbrev pub thread_wants_a : (E → Bool) → Thread C O → Bool
  thread_wants_a p Absent = false
  thread_wants_a p (Runs c left) = wants_a p left (k.wishes c)
  thread_wants_a p (Over o left) = false
  thread_wants_a p (Leaves o left) = false
  thread_wants_a p (Left o left) = false

  -- What is asked of a machine: a configuration whose question is open waits, and a full log takes a leave.
  pub record MachineLaws : Type 0 where
    pub opened : (c : C) (e : E) (v : V) → k.wishes c ≡ Asks e → k.opens e v ≡ true → k.wishes (k.takes c v) ≡ Waits
    pub exempt : k.is_exempt k.leave ≡ true

  -- The system of its threads over something shared.
  abbrev pub system : {X : Type 0} → (X → ℕ → E → V) → (X → ℕ → E → X) → (X → ℕ → E → ℕ → Option A)
      → (X → ℕ → E → ℕ → Option (Thread C O)) → System X (Thread C O) E V A
  system reply after gives starts = record {
    reply = reply;
    after = after;
    gives = gives;
    starts = starts;
    opens = k.opens;
    wants = thread_wants;
    own_turn = thread_goes;
    takes = thread_takes;
    hears = thread_hears;
    lost = thread_lost;
    full = thread_full;
    may_lose = thread_wants_a k.may_be_lost;
    may_fill = thread_wants_a (λ e. not (k.is_exempt e));
  }
