-- Turns that are known, and the states of a table. Types: as in Threads.
use Rattle.std.specs.Prelude.{ℕ, ◌≡◌, ◌^◌, ◌<◌, ◌+◌, ◌∷◌, ◌⊎◌, Bool, true, List, length, Option, Some, None, slice_set}
use Rattle.std.specs.List.{slice_get, AllZip}
use Rattle.std.specs.Cmp.Lexicographic.{pointwise}
use Rattle.schedule.specs.System.{Want.Calls, State}
use Rattle.schedule.specs.Scheduled.{after_event}
use Rattle.search_table.specs.declared.parts.StateParts.{StateParts}
use Rattle.search_table.specs.declared.states.States.{States}
use Rattle.search_table.specs.Tables.{AreThreads, IsRow, AreStates, states_of}
use Rattle.search_graph.specs.declared.graph.Move.{Move}
use Rattle.search_reach.specs.declared.explores.NextState.{NextState}
use Rattle.search_reach.specs.Explored.{Gains, Notes}
use Rattle.search_settled.specs.Same.{flat_eq}
use Rattle.search_settled.specs.declared.flat.RestingState.{RestingState}
use Rattle.search_settled.specs.declared.met.Known.{Known}
use Rattle.search_settled.specs.declared.met.MetParts.{MetParts}
use Rattle.search_settled.specs.declared.met.NextRow.{NextRow}
use Rattle.search_settled.specs.declared.met.Tables.{Tables}
use Rattle.search_settled.specs.declared.met.QuietTurn.{QuietTurn}
use Rattle.search_settled.specs.declared.next.ThreadOf.{ThreadOf}
use Rattle.search_settled.specs.declared.met.QuietTurn.TheVariants.{Still, Alone}
use Rattle.search_settled.specs.declared.turns.ThreadTurn.{ThreadTurn}
use Rattle.search_settled.specs.declared.turns.ThreadTurn.TheVariants as turn
use Rattle.search_settled.specs.declared.turns.EventOutcome.{EventOutcome}
use Rattle.search_settled.specs.declared.turns.EventOutcome.TheVariants.{Told, Heard, Unknown}
use Rattle.search_settled.specs.Threads.{ThreadSystem}
use Rattle.search_settled.specs.Next.{IsAt, IsSomewhere, HasNext}
use Rattle.search_settled.specs.Flat.{IsThreadOf, IsEventAt, IsMove, RestsAfter, AllComeAfter, HasNextBelow}

-- One of them says so.
abbrev pub IsNotedIn : List (Option Known) → ℕ → ℕ → ℕ → QuietTurn → Type 0
IsNotedIn known shared thread n turn =
    (slot : ℕ) × (slice_get known slot ≡ Some (Some (record { shared = shared; thread = thread; n = n; turn = turn })))

-- Each is the new one, or was there before.
abbrev pub AreFrom : List (Option Known) → Known → List (Option Known) → Type 0
AreFrom before new after =
    (slot : ℕ) (k : Known) → slice_get after slot ≡ Some (Some k)
    → (k ≡ new) ⊎ ((was : ℕ) × (slice_get before was ≡ Some (Some k)))

-- Each was there before.
abbrev pub HasNoOther : List (Option Known) → List (Option Known) → Type 0
HasNoOther before after =
    (slot : ℕ) (k : Known) → slice_get after slot ≡ Some (Some k) → (was : ℕ) × (slice_get before was ≡ Some (Some k))

-- What is known, by what it is that thread n, which stands so where this is shared, stands still, and that by its turn that
-- is shared and it comes to rest there.
module _ {G H : Type 0} (still : G → H → ℕ → Type 0) (alone : G → H → ℕ → G → H → Type 0) (t : StateParts G H) where
  -- The turn of thread n, by the numbers of the table.
  abbrev pub IsTurnBy : G → H → ℕ → QuietTurn → Type 0
  IsTurnBy shared thread n Still = still shared thread n
  IsTurnBy shared thread n (Alone s u) =
      (after : G) × (rested : H) × (slice_get t.shared.keys s ≡ Some after) × (slice_get t.threads.keys u ≡ Some rested)
      × alone shared thread n after rested

  -- What is known is so.
  pub record IsRight (known : Known) : Type 0 where
    pub shared_is : G
    pub thread_is : H
    pub shared_at : slice_get t.shared.keys known.shared ≡ Some shared_is
    pub thread_at : slice_get t.threads.keys known.thread ≡ Some thread_is
    pub so : IsTurnBy shared_is thread_is known.n known.turn

  abbrev pub AreKnownBy : List (Option Known) → Type 0
  AreKnownBy known = (slot : ℕ) (one : Known) → slice_get known slot ≡ Some (Some one) → IsRight one

module _ {G H : Type 0} (t : StateParts G H) where
  -- The row is of that state.
  abbrev pub IsOf : List ℕ → RestingState G H → Type 0
  IsOf r c = IsRow t r c.shared c.threads.items

  -- It is so of the threads of these numbers; or of some that are.
  abbrev pub OfThreads : List ℕ → (List H → Type 0) → Type 0
  OfThreads numbers so = (xs : List H) → AreThreads t numbers xs → so xs

  abbrev pub OfSomeThreads : List ℕ → (List H → Type 0) → Type 0
  OfSomeThreads numbers so = (xs : List H) × AreThreads t numbers xs × so xs

  -- The states of a table are these.
  abbrev pub AreOf : States → List (RestingState G H) → Type 0
  AreOf states cs = AllZip IsOf (states_of states) cs

  -- The row leads there, by that thread.
  pub record IsNextRow (r : NextRow) (x : NextState (RestingState G H)) : Type 0 where
    pub thread : x.thread ≡ r.thread
    pub of : IsOf r.row.items x.state

-- The row is of a state that equals this one.
pub record IsRowOfEqual {G H : Type 0} (eq_shared : G → G → Bool) (eq_thread : H → H → Bool) (t : StateParts G H)
    (c : RestingState G H) (r : List ℕ) : Type 0 where
  pub shared : G
  pub threads : List H
  pub of : IsRow t r shared threads
  pub shared_equal : eq_shared c.shared shared ≡ true
  pub threads_equal : pointwise eq_thread c.threads.items threads ≡ true

module _ {X T E V A G H M : Type 0} (k : ThreadSystem X T E V A G H M) where
  -- After an event of thread n in the state that this is, all come to rest so.
  pub record AllComeFrom (c : RestingState G H) (after : G) (made : M) (n : ℕ) (rested : List H) : Type 0 where
    pub len : (z : State X T) (e : E) → IsAt k c z → IsMove k after made n c.threads.items z e
        → length rested ≡ k.count (k.system.after z.shared n e)
    pub each : (z : State X T) (e : E) → IsAt k c z → IsMove k after made n c.threads.items z e
        → (m : ℕ) (t : H) → slice_get rested m ≡ Some t → RestsAfter k z n e m t

  -- By the event of thread n, which stands so where this is shared, that is shared, and it comes to rest there; all others
  -- rest where they did.
  pub record GoesAlone (shared : G) (thread : H) (n : ℕ) (after : G) (rested : H) : Type 0 where
    pub made : M
    pub event : IsEventAt k shared thread n (Some (after, made))
    pub come : (c : RestingState G H) → c.shared ≡ shared → slice_get c.threads.items n ≡ Some thread
        → AllComeFrom c after made n (slice_set c.threads.items n rested)

  -- It wants no event.
  abbrev pub StandsStill : G → H → ℕ → Type 0
  StandsStill shared thread n = IsEventAt k shared thread n None

  -- What comes of the event of thread n, which stands so where this is shared.
  abbrev pub IsTurnOf : G → H → ℕ → ThreadTurn G H M → Type 0
  IsTurnOf shared thread n turn.Still = StandsStill shared thread n
  IsTurnOf shared thread n (turn.Alone after rested) = GoesAlone shared thread n after rested
  IsTurnOf shared thread n (turn.Heard after made) = IsEventAt k shared thread n (Some (after, made))
  IsTurnOf shared thread n turn.Unknown = Unit {0}

  module _ (t : StateParts G H) where
    abbrev pub IsTurn : G → H → ℕ → QuietTurn → Type 0
    IsTurn = IsTurnBy StandsStill GoesAlone t

    -- What comes of the event of thread n.
    abbrev pub IsMade : G → H → ℕ → EventOutcome G M → Type 0
    IsMade shared thread n (Told turn) = IsTurn shared thread n turn
    IsMade shared thread n (Heard after made) = IsEventAt k shared thread n (Some (after, made))
    IsMade shared thread n Unknown = Unit {0}

    -- Two numbers, of what is shared and of thread n of a state.
    pub record AreOfThread (shared thread n : ℕ) : Type 0 where
      pub shared_is : G
      pub thread_is : H
      pub shared_at : slice_get t.shared.keys shared ≡ Some shared_is
      pub thread_at : slice_get t.threads.keys thread ≡ Some thread_is
      pub state : State X T
      pub of : IsThreadOf k shared_is thread_is n state

    -- It is so of what has these numbers.
    abbrev pub OfNumbers : ℕ → ℕ → (G → H → Type 0) → Type 0
    OfNumbers shared thread so = (g : G) (h : H) → slice_get t.shared.keys shared ≡ Some g
        → slice_get t.threads.keys thread ≡ Some h → so g h

    -- Thread n of the state of a row has this number.
    pub record IsThreadAt (r : List ℕ) (thread n : ℕ) (c : RestingState G H) : Type 0 where
      pub of : IsOf t r c
      pub somewhere : IsSomewhere k c
      pub thread_is : H
      pub thread_at : slice_get t.threads.keys thread ≡ Some thread_is
      pub among : slice_get c.threads.items n ≡ Some thread_is

    -- There is such a state of its row; it is so of each.
    abbrev pub HasThread : ThreadOf → Type 0
    HasThread of =
        (c : RestingState G H) × IsThreadAt (of.shared ∷ of.threads.now) of.thread of.n c

    abbrev pub OfThread : ThreadOf → (RestingState G H → Type 0) → Type 0
    OfThread of so =
        (c : RestingState G H) → IsThreadAt (of.shared ∷ of.threads.now) of.thread of.n c → so c

    -- It is so of the state of a row.
    abbrev pub OfRow : List ℕ → (RestingState G H → Type 0) → Type 0
    OfRow r so = (c : RestingState G H) → IsOf t r c → IsSomewhere k c → so c

    -- The rows are those of the next states by the events of the threads below a number.
    pub record AreNextBelow (c : RestingState G H) (i : ℕ) (rs : List NextRow) : Type 0 where
      pub next : List (NextState (RestingState G H))
      pub below : HasNextBelow k c i next
      pub are : AllZip (IsNextRow t) rs next

    -- They are those of its next states.
    pub record AreNextRows (c : RestingState G H) (rs : List NextRow) : Type 0 where
      pub next : List (NextState (RestingState G H))
      pub has : HasNext k c next
      pub are : AllZip (IsNextRow t) rs next

    -- There is such a state of the row.
    abbrev pub IsSomeRow : List ℕ → Type 0
    IsSomeRow r = (c : RestingState G H) × IsOf t r c × IsSomewhere k c

  -- Where these are the rows of the next states by the events of the threads before this one, those have its too.
  abbrev pub AddsNext : StateParts G H → StateParts G H → ThreadOf → List NextRow → List NextRow → RestingState G H → Type 0
  AddsNext t u of before after c = AreNextBelow t c of.n before → AreNextBelow u c (of.n + 1) after

  -- The row is of a state that equals one to which threads come after an event of thread n.
  pub record IsRowAfter (eq_shared : G → G → Bool) (eq_thread : H → H → Bool) (t : StateParts G H) (after : G)
      (made : M) (n : ℕ) (threads : List H) (r : List ℕ) : Type 0 where
    pub state : RestingState G H
    pub shared : state.shared ≡ after
    pub come : AllComeAfter k after made n threads state.threads.items
    pub row : IsRowOfEqual eq_shared eq_thread t state r

  -- Nothing can be told after the event of thread n.
  abbrev pub IsLostBy : (State X T → Type 0) → ℕ → G → H → Type 0
  IsLostBy stuck n shared thread = (z : State X T) → IsThreadOf k shared thread n z
      → (e : E) × (k.system.wants (z.threads n) ≡ Calls e) × stuck (after_event k.system z n e)

  -- What is known is so.
  abbrev pub AreKnown : MetParts G H → Type 0
  AreKnown m = AreKnownBy StandsStill GoesAlone m.parts m.known.items

  -- The tables have these states.
  pub record HasStates (t : Tables G H) (cs : List (RestingState G H)) : Type 0 where
    pub known : AreKnown t.met
    pub table : AreStates t.states
    pub are : AreOf t.met.parts t.states cs

-- The table has the states of these rows too, and the moves to them were noted: of whatever states they are.
abbrev pub PutsRows : {G H : Type 0} → (G → G → Bool) → (H → H → Bool) → StateParts G H → States → States → ℕ
    → List NextRow
    → List Move → List Move → Type 0
PutsRows {G} {H} eq_shared eq_thread t before after at rs moves noted =
    (ks : List (RestingState G H)) (xs : List (NextState (RestingState G H))) → AreOf t before ks
    → AllZip (IsNextRow t) rs xs
    → (ls : List (RestingState G H)) × AreOf t after ls × Gains ks xs ls
    × (length ls < 2 ^ 32 → Notes (flat_eq eq_shared eq_thread) ls at xs moves noted)
