-- How a walk along a log takes an event: a thread makes turns of its own until it wants something else, and then the
-- event.
use Rattle.std.specs.Prelude.{ℕ, zero, suc, ◌≡◌, ◌⊎◌, true, List, [], ◌∷◌}
use Rattle.schedule.specs.System.{Want.Turns, Want.Calls, Act, Act.Made, Act.Heard, Entry, System, State, put}
use Rattle.schedule.specs.Scheduled.{after_event, with_thread}
use Rattle.schedule.specs.Histories.{Place, Place.Free, Place.Due, next_places, IsLegalEntry}
use Rattle.schedule.specs.Tries.{TryRules, HasReached, HasRoom}

module _ {X T E V A : Type 0} (s : System X T E V A) where
  -- By so many turns of its own a thread comes to another.
  abbrev pub ComesTo : ℕ → T → T → Type 0
  ComesTo zero t u = t ≡ u
  ComesTo (suc count) t u = (s.wants t ≡ Turns) × ComesTo count (s.own_turn t) u

  -- It comes to one that wants no turn of its own.
  pub record Settles (t u : T) : Type 0 where
    pub turns : ℕ
    pub comes : ComesTo turns t u
    pub rests : s.wants u ≡ Turns → ⊥

  -- What the event comes to.
  abbrev pub after_made : State X T → ℕ → E → T → State X T
  after_made w n e t = after_event s (with_thread s w n t) n e

module _ {X T E V A W : Type 0} (s : System X T E V A) (rules : TryRules X E W) where
  -- After so many entries it finds the log full.
  pub record FindsFull (count : ℕ) (t u : T) : Type 0 where
    pub settled : T
    pub settles : Settles s t settled
    pub may : s.may_fill settled ≡ true
    pub reached : HasReached rules.limit count
    pub filled : u ≡ s.full settled

  -- After so many entries thread n may make the event, with this reply, as the thread t.
  pub record CanMake (w : State X T) (places : ℕ → Place A) (count n : ℕ) (e : E) (v : V) (t : T) : Type 0 where
    pub ready : Settles s (w.threads n) t ⊎ FindsFull count (w.threads n) t
    pub wants : s.wants t ≡ Calls e
    pub free : places n ≡ Free
    pub legal : IsLegalEntry s w.shared places n (Made e v)
    pub room : HasRoom rules.limit (rules.is_exempt e) count

  -- A walk along a log, from a state and places, after so many entries: each event is made by its thread, and each
  -- answer heard is the one that is due.
  abbrev pub WalksOn : State X T → (ℕ → Place A) → ℕ → ℕ → Act E V A → (State X T → (ℕ → Place A) → Type 0) → Type 0
  WalksOn w q count n (Made e v) on = (t : T) × CanMake w q count n e v t
      × on (after_made s w n e t) (next_places s w.shared q n (Made e v))
  WalksOn w q count n (Heard a) on = (q n ≡ Due a) × on w (put q n Free)

  abbrev pub Walks : List (Entry E V A) → State X T → (ℕ → Place A) → ℕ → State X T → (ℕ → Place A) → Type 0
  Walks [] w q count z p = (w ≡ z) × (q ≡ p)
  Walks (h ∷ log) w q count z p = WalksOn w q count h.thread h.act (λ w' q'. Walks log w' q' (suc count) z p)

  -- It can take an entry.
  abbrev pub CanTake : State X T → (ℕ → Place A) → ℕ → ℕ → Act E V A → Type 0
  CanTake w q count n (Made e v) = (t : T) × CanMake w q count n e v t
  CanTake w q count n (Heard a) = q n ≡ Due a
