-- Histories: legal ones, from a shared state and the places of the threads.
use Rattle.std.specs.Prelude.{ℕ, ◌≡◌, ◌≢◌, ◌==◌, Bool, true, false, cond, List, [], ◌∷◌, Option, Some, None}
use Rattle.schedule.specs.System.{Act, Act.Made, Act.Heard, Step, Entry, System, put}
use Rattle.schedule.specs.ThreadRun.{IsThreadRun}

-- How a thread stands to its questions: it isn't started yet, it may enter events, it has an open question, or the
-- answer to that one is due to it.
pub data Place (A : Type 0) : Type 0 where
  Unstarted : Place A
  Free : Place A
  Open : Place A
  Due : A → Place A

-- A thread's place after an event, which may start it, give it an answer, or be a question of its own.
abbrev pub placed : {A B : Type 0} → Option B → Option A → Bool → Place A → Place A
placed (Some t) gives opens p = Free
placed None (Some a) opens p = Due a
placed None None true p = Open
placed None None false p = p

-- No question is open there.
abbrev pub IsClosed : {A : Type 0} → Place A → Type 0
IsClosed Unstarted = Unit {0}
IsClosed Free = Unit {0}
IsClosed Open = ⊥
IsClosed (Due a) = ⊥

module _ {E V A : Type 0} where
  -- What thread n enters in a history.
  abbrev pub acts_of : ℕ → List (Entry E V A) → List (Act E V A)
  acts_of n [] = []
  acts_of n (h ∷ H) = cond (h.thread == n) (h.act ∷ acts_of n H) (acts_of n H)

  -- The history without the answers heard.
  abbrev pub if_made : ℕ → Act E V A → List (Entry E V A) → List (Entry E V A)
  if_made n (Made e v) H = record { thread = n; act = Made e v } ∷ H
  if_made n (Heard a) H = H

  abbrev pub without_answers : List (Entry E V A) → List (Entry E V A)
  without_answers [] = []
  without_answers (h ∷ H) = if_made h.thread h.act (without_answers H)

module _ {X T E V A : Type 0} (s : System X T E V A) where
  -- The shared state and the places after an entry, and after a history. A heard answer changes its thread's place
  -- alone.
  abbrev pub next_shared : X → ℕ → Act E V A → X
  next_shared x n (Made e v) = s.after x n e
  next_shared x n (Heard a) = x

  abbrev pub next_places : X → (ℕ → Place A) → ℕ → Act E V A → ℕ → Place A
  next_places x q n (Made e v) =
      λ m. placed (s.starts x n e m) (s.gives x n e m) (put (λ (k : ℕ). false) n (s.opens e v) m) (q m)
  next_places x q n (Heard a) = put q n Free

  -- The thread that an entry starts under the number m.
  abbrev pub starts_at : ℕ → X → ℕ → Act E V A → Option T
  starts_at m x n (Made e v) = s.starts x n e m
  starts_at m x n (Heard a) = None

  abbrev pub shared_after : X → List (Entry E V A) → X
  shared_after x [] = x
  shared_after x (h ∷ H) = shared_after (next_shared x h.thread h.act) H

  abbrev pub places_after : X → (ℕ → Place A) → List (Entry E V A) → ℕ → Place A
  places_after x q [] = q
  places_after x q (h ∷ H) = places_after (next_shared x h.thread h.act) (next_places x q h.thread h.act) H

  -- An event is of a thread that was started, and has the reply that the shared state gives; it starts only who wasn't
  -- started, and gives answers only to open questions, its own among them. An answer heard is the one that is due.
  abbrev pub IsLegalEntry : X → (ℕ → Place A) → ℕ → Act E V A → Type 0
  IsLegalEntry x q n (Made e v) =
      (q n ≡ Unstarted → ⊥) × (v ≡ s.reply x n e)
      × ((m : ℕ) (t : T) → s.starts x n e m ≡ Some t → q m ≡ Unstarted)
      × ((m : ℕ) (a : A) → s.gives x n e m ≡ Some a → (m ≢ n → q m ≡ Open) × (m ≡ n → s.opens e v ≡ true))
  IsLegalEntry x q n (Heard a) = q n ≡ Due a

  abbrev pub IsLegalHistory : X → (ℕ → Place A) → List (Entry E V A) → Type 0
  IsLegalHistory x q [] = Unit {0}
  IsLegalHistory x q (h ∷ H) = IsLegalEntry x q h.thread h.act
      × IsLegalHistory (next_shared x h.thread h.act) (next_places x q h.thread h.act) H

  -- Each event is of a thread without an open question.
  abbrev pub IsFreeAt : (ℕ → Place A) → ℕ → Act E V A → Type 0
  IsFreeAt q n (Made e v) = q n ≡ Free
  IsFreeAt q n (Heard a) = Unit {0}

  abbrev pub IsOrdered : X → (ℕ → Place A) → List (Entry E V A) → Type 0
  IsOrdered x q [] = Unit {0}
  IsOrdered x q (h ∷ H) = IsFreeAt q h.thread h.act
      × IsOrdered (next_shared x h.thread h.act) (next_places x q h.thread h.act) H

  -- Each thread that the history starts runs by its steps to its end.
  abbrev pub StartedRunAt : (ℕ → List (Step E V A)) → (ℕ → T) → X → ℕ → Act E V A → Type 0
  StartedRunAt steps ends x n (Made e v) = (m : ℕ) (t : T) → s.starts x n e m ≡ Some t
      → IsThreadRun s t (steps m) (ends m)
  StartedRunAt steps ends x n (Heard a) = Unit {0}

  abbrev pub StartedRun : (ℕ → List (Step E V A)) → (ℕ → T) → X → List (Entry E V A) → Type 0
  StartedRun steps ends x [] = Unit {0}
  StartedRun steps ends x (h ∷ H) = StartedRunAt steps ends x h.thread h.act
      × StartedRun steps ends (next_shared x h.thread h.act) H
