-- How the threads of a state have left.
use Rattle.std.specs.Prelude.{◌≡◌, List, Contains, map, Option, Some, None}
use Rattle.types.specs.declared.outcome.Outcome.{Outcome}
use Rattle.search_parts.specs.declared.walker.RestingThread.{RestingThread}
use Rattle.search_parts.specs.declared.walker.RestingThread.TheVariants.{Missing, Going, Ended, Leaving, Away}
use Rattle.search_parts.specs.declared.shared.HashedThread.{HashedThread}

-- The outcome of a thread that has left.
abbrev pub outcome_away : RestingThread → Option Outcome
outcome_away Missing = None
outcome_away (Going k o) = None
outcome_away (Ended o) = None
outcome_away (Leaving o) = None
outcome_away (Away o) = Some o

abbrev pub outcome_at : HashedThread → Option Outcome
outcome_at t = outcome_away t.standing

-- All of these threads have left, with these outcomes.
abbrev pub HaveLeft : List HashedThread → List Outcome → Type 0
HaveLeft threads outcomes = map outcome_at threads ≡ map (λ o. Some o) outcomes

-- One of them hasn't.
abbrev pub IsOneHere : List HashedThread → Type 0
IsOneHere threads = (t : HashedThread) × Contains threads t × (outcome_at t ≡ None)
