-- What is searched of threads: their turns, by settled states.
use Rattle.schedule.specs.System.{State}
use Rattle.search_reach.specs.Search.{StepSystem}
use Rattle.search_settled.specs.Settled.{turning}
use Rattle.search_settled.specs.Threads.{ThreadSystem}
use Rattle.search_settled.specs.Next.{StandsForState, IsFirstOf}
use Rattle.search_settled.specs.declared.flat.RestingState.{RestingState}
use Rattle.search_settled.specs.declared.moves.Moves.{Ghosts}

-- A settled state stands for the states that come to rest in it; a step is a turn of one thread.
abbrev pub turn_steps : {X T E V A G H M O : Type 0} → ThreadSystem X T E V A G H M → (State X T → O → Type 0)
    → (State X T → Type 0)
    → StepSystem (RestingState G H) (State X T) O
turn_steps k ends stuck =
    record {
      worlds = turning k.system;
      most = k.most;
      stands = StandsForState k;
      follows = λ s n x. Unit {0};
      begins = IsFirstOf k.first;
      ends = ends;
      stuck = stuck;
    }

-- It is what the members of the trait say.
abbrev pub turns : {Self G H M O : Type 0} → (m : Ghosts Self G H M O) → Self
    → StepSystem (RestingState G H) (State m.X m.T) O
turns m system = turn_steps (m.threads system) (m.ends system) (m.stuck system)
