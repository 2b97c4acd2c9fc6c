-- What threads do with the memory next, and what is asked of their plain accesses. Types: shared states X, threads T,
-- events E, replies V and answers A.
use Rattle.std.specs.Prelude.{ℕ, ◌≡◌, ◌≢◌, true, false, Option, Some, None}
use Rattle.schedule.specs.System.{Want, Want.Turns, Want.Calls, Want.Awaits, Want.Gone, Kind.Turn, System, State}
use Rattle.schedule.specs.Scheduled.{after_mark}
use Rattle.search_settled.specs.Settled.{IsReached}
use Rattle.search_settled.specs.declared.access.NextAccess.{NextAccess}
use Rattle.search_settled.specs.Accesses.{IsPlain, Conflict}

-- A turn of a thread's own touches nothing.
abbrev pub own_turn : NextAccess
own_turn = record {
  plain = true;
  reads = false;
  writes = false;
  is_conditional = false;
  is_timed = false;
  is_allowed = false;
  addr = 0;
  width = 0;
}

module _ {X T E V A : Type 0} (s : System X T E V A) where
  -- The state after the next turn of thread n.
  abbrev pub after_next : State X T → ℕ → State X T
  after_next w n = after_mark s w n Turn

  -- Events of threads n and u: each finds the same, whichever is made first.
  pub record AreIndependent (x : X) (n : ℕ) (e : E) (u : ℕ) (f : E) : Type 0 where
    pub reply : s.reply (s.after x u f) n e ≡ s.reply x n e
    pub reply_other : s.reply (s.after x n e) u f ≡ s.reply x u f
    pub shared : s.after (s.after x u f) n e ≡ s.after (s.after x n e) u f
    pub gives : (m : ℕ) → s.gives (s.after x n e) u f m ≡ s.gives x u f m
    pub starts : (m : ℕ) → s.starts (s.after x n e) u f m ≡ s.starts x u f m

-- `accesses x t e`: what thread t does with the memory by its event e, where x is shared.
module _ {X T E V A : Type 0} (s : System X T E V A) (accesses : X → T → E → NextAccess) where
  abbrev pub access_by : X → T → Want E → Option NextAccess
  access_by x t Turns = Some own_turn
  access_by x t (Calls e) = Some (accesses x t e)
  access_by x t Awaits = None
  access_by x t Gone = None

  -- What thread n does next, if it can go on.
  abbrev pub next_access : State X T → ℕ → Option NextAccess
  next_access w n = access_by w.shared (w.threads n) (s.wants (w.threads n))

  -- Of the access that thread n wants by an event: what thread t does by another one conflicts with it, and does behind it.
  abbrev pub ConflictsWithIt : State X T → ℕ → E → T → E → Type 0
  ConflictsWithIt w n e t f = Conflict (accesses w.shared t f) (accesses w.shared (w.threads n) e)

  abbrev pub ConflictsBehindIt : State X T → ℕ → E → T → E → Type 0
  ConflictsBehindIt w n e t f = Conflict (accesses (s.after w.shared n e) t f) (accesses w.shared (w.threads n) e)

  module _ (first : State X T) where
    -- Wherever threads can come, thread n wants this plain access.
    pub record WantsPlain (w : State X T) (n : ℕ) (e : E) : Type 0 where
      pub reached : IsReached s first w
      pub wants : s.wants (w.threads n) ≡ Calls e
      pub plain : IsPlain (accesses w.shared (w.threads n) e)

    -- A plain access tells no thread anything and starts none, and is plain whatever comes first. Of an event that
    -- doesn't conflict with it it doesn't change what that does with the memory, and one that does conflict with it
    -- conflicts with it after it, too; and it is independent of an event of another thread that it doesn't conflict with.
    pub record ArePlain : Type 0 where
      pub gives : (w : State X T) (n : ℕ) (e : E) → WantsPlain w n e → (m : ℕ) → s.gives w.shared n e m ≡ None
      pub starts : (w : State X T) (n : ℕ) (e : E) → WantsPlain w n e → (m : ℕ) → s.starts w.shared n e m ≡ None
      pub same : (w : State X T) (n : ℕ) (e : E) → WantsPlain w n e → (t : T) (f : E)
          → (ConflictsWithIt w n e t f → ⊥) → accesses (s.after w.shared n e) t f ≡ accesses w.shared t f
      pub still : (w : State X T) (n : ℕ) (e : E) → WantsPlain w n e → (t : T) (f : E)
          → ConflictsWithIt w n e t f → ConflictsBehindIt w n e t f
      pub stays : (w : State X T) (n : ℕ) (e : E) → WantsPlain w n e → (u : ℕ) (f : E) → s.wants (w.threads u) ≡ Calls f
          → accesses (s.after w.shared u f) (w.threads n) e ≡ accesses w.shared (w.threads n) e
      pub independent : (w : State X T) (n : ℕ) (e : E) → WantsPlain w n e → (u : ℕ) (f : E) → s.wants (w.threads u) ≡ Calls f
          → u ≢ n → (ConflictsWithIt w n e (w.threads u) f → ⊥) → AreIndependent s w.shared n e u f
