-- Ways along the moves that were noted, from state to state by their numbers.
use Rattle.std.specs.Prelude.{◌≡◌, ◌<◌, ◌⊎◌, ℕ, Bool, Some, Option, List, [], ◌∷◌, ◌++◌, length, Contains, if◌then◌else◌}
use Rattle.std.specs.Global.{Vec}
use Rattle.std.specs.List.{slice_get, AllZip, list_any}
use Rattle.std.specs.Option.{MatchOption}
use Rattle.search_graph.specs.declared.graph.Move.{Move}
use Rattle.search_reach.specs.Search.{StepSystem, IsFirst, IsEnding}
use Rattle.search_reach.specs.Explored.{moves_from, IsGoneOn}

module _ (moves : List Move) where
  -- The moves from the state stand together: none before them and none behind them is from there.
  pub record StandTogether (from : ℕ) : Type 0 where
    pub front : List Move
    pub back : List Move
    pub is : moves ≡ front ++ (moves_from from moves ++ back)
    pub before : (m : Move) → Contains front m → m.from ≡ from → ⊥
    pub behind : (m : Move) → Contains back m → m.from ≡ from → ⊥

  -- The move of this place leads to the state from one of a lower number.
  pub record LeadsIn (to place : ℕ) : Type 0 where
    pub move : Move
    pub at : slice_get moves place ≡ Some move
    pub next : move.next ≡ to
    pub lower : move.from < to

  -- Those from each state stand together; and to each of so many states, but for the first, one leads in.
  pub record AreOrdered (states : ℕ) : Type 0 where
    pub together : (from : ℕ) → StandTogether from
    pub led : (to : ℕ) → 0 < to → to < states → (place : ℕ) × LeadsIn to place

  -- The choices among the moves from each state lead from the one to the other.
  abbrev pub GoesBy : ℕ → List ℕ → ℕ → Type 0
  GoesBy from [] to = from ≡ to
  GoesBy from (choice ∷ choices) to = (m : Move) × (slice_get (moves_from from moves) choice ≡ Some m) × GoesBy m.next choices to

  -- The choice is that of the move of this place, where the moves from its state stand together.
  abbrev pub IsChoiceOf : ℕ → ℕ → Type 0
  IsChoiceOf place choice =
      (m : Move) → slice_get moves place ≡ Some m → StandTogether m.from → slice_get (moves_from m.from moves) choice ≡ Some m

  -- Each choice is that of the move of its place.
  abbrev pub AreChoicesOf : List ℕ → List ℕ → Type 0
  AreChoicesOf places choices = AllZip IsChoiceOf places choices

  -- The number is the place of a move that leads in; or it is none's, and none of the first so many does.
  abbrev pub IsWayIn : ℕ → ℕ → ℕ → Type 0
  IsWayIn end to way = LeadsIn to way ⊎ ((way ≡ length moves) × ((place : ℕ) → place < end → LeadsIn to place → ⊥))

  -- They are those of the states.
  abbrev pub AreWaysIn : ℕ → List ℕ → Type 0
  AreWaysIn end ways = (to way : ℕ) → slice_get ways to ≡ Some way → IsWayIn end to way

  -- This is the place of a move that leads to the state, or it is the first.
  abbrev pub IsMoveTo : ℕ → ℕ → Option ℕ → Type 0
  IsMoveTo states to place = MatchOption place (AreOrdered states → to < states → to ≡ 0) (LeadsIn to)

  -- The choices lead there from the first state, if it is one of so many.
  abbrev pub IsPathTo : ℕ → List ℕ → ℕ → Type 0
  IsPathTo states choices to = AreOrdered states → to < states → GoesBy 0 choices to

  abbrev pub ArePathsTo : ℕ → List (Vec ℕ) → List ℕ → Type 0
  ArePathsTo states paths tos = AllZip (λ path to. IsPathTo states path.items to) paths tos

-- The place behind one more ending: it goes last where the ending is new.
abbrev pub insert_first : {E : Type 0} → (E → E → Bool) → List E → E → List ℕ → ℕ → List ℕ
insert_first eq es e firsts at = if list_any (eq e) es then firsts else firsts ++ at ∷ []

module _ {S W E : Type 0} (k : StepSystem S W E) where
  -- The moves are such, from a first state on, and those from a state are those to its next ones.
  pub record IsMoved (eq : S → S → Bool) (ks : List S) (moves : List Move) : Type 0 where
    pub first : (s : S) → slice_get ks 0 ≡ Some s → IsFirst k s
    pub gone_on : (m : Move) (s : S) → Contains moves m → slice_get ks m.from ≡ Some s → IsGoneOn k eq ks moves m.from s
    pub ordered : AreOrdered moves (length ks)

  -- The state of this place has ended so.
  pub record HasEndedAt (ks : List S) (place : ℕ) (e : E) : Type 0 where
    pub state : S
    pub at : slice_get ks place ≡ Some state
    pub ended : IsEnding k state (Some e)

  -- They are places of states that have ended so.
  abbrev pub AreFirsts : List S → List ℕ → List E → Type 0
  AreFirsts ks places es = AllZip (HasEndedAt ks) places es
