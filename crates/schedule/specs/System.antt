-- Threads over something shared, abstractly: what a thread wants and does, and the functions that say what comes of it.
use Rattle.std.specs.Prelude.{ℕ, ◌==◌, Bool, cond, Option}

-- What a thread wants next: a turn of its own, an event, the answer to its open question, or nothing, because it is
-- gone.
pub data Want (E : Type 0) : Type 0 where
  Turns : Want E
  Calls : E → Want E
  Awaits : Want E
  Gone : Want E

-- What a thread enters into a history: an event that it made, with the reply, or an answer that it heard.
pub data Act (E V A : Type 0) : Type 0 where
  Made : E → V → Act E V A
  Heard : A → Act E V A

-- One step of a thread: a turn of its own, a try of an event that was lost, one that found the log full, or an act.
pub data Step (E V A : Type 0) : Type 0 where
  Own : Step E V A
  Lost : E → Step E V A
  Full : E → Step E V A
  Acts : Act E V A → Step E V A

-- One entry of a history: who acted, and how.
pub record Entry (E V A : Type 0) : Type 0 where
  pub thread : ℕ
  pub act : Act E V A

-- One mark of a schedule: whose it is, and whether that thread makes its next turn, loses a try or finds the log full.
pub data Kind : Type 0 where
  Turn : Kind
  Loses : Kind
  Fills : Kind

pub record Mark : Type 0 where
  pub thread : ℕ
  pub kind : Kind

-- A system, over the shared state X, threads T, events E, replies V and answers A.
pub record System (X T E V A : Type 0) : Type 0 where
  -- the reply to an event of a thread, and the shared state after it
  pub reply : X → ℕ → E → V
  pub after : X → ℕ → E → X
  -- the answer that it gives to the thread of a number, and the thread that it starts under a number
  pub gives : X → ℕ → E → ℕ → Option A
  pub starts : X → ℕ → E → ℕ → Option T
  -- whether an event with this reply is a question, which is open until its answer is heard
  pub opens : E → V → Bool
  -- of a thread: what it wants, and what it is after a turn of its own, a reply, an answer, a lost try, a full log
  pub wants : T → Want E
  pub own_turn : T → T
  pub takes : T → V → T
  pub hears : T → A → T
  pub lost : T → T
  pub full : T → T
  -- whether it wants an event whose try can be lost, or can find the log full
  pub may_lose : T → Bool
  pub may_fill : T → Bool

-- The shared state, and the thread of each number.
pub record State (X T : Type 0) : Type 0 where
  pub shared : X
  pub threads : ℕ → T

-- A family with another member at one number.
unfoldable pub put : {B : Type 0} → (ℕ → B) → ℕ → B → ℕ → B
put f n b m = cond (m == n) b (f m)
