-- What is searched of threads that do not race, and what a search says of races.
use Rattle.schedule.specs.System.{State}
use Rattle.search_reach.specs.Search.{StepSystem}
use Rattle.search_settled.specs.declared.flat.RestingState.{RestingState}
use Rattle.search_settled.specs.declared.moves.Moves.{Ghosts}
use Rattle.search_race_free.specs.declared.owning.Owning.{Owning}
use Rattle.search_race_free.specs.declared.race.ThreadRace.{ThreadRace}
use Rattle.search_race_free.specs.Races.{HasRace, NoneRace}
use Rattle.search_race_free.specs.Reduced.{reduced_steps}
use Rattle.search_race_free.specs.Timeouts.{NoneWaitsTimed, SomeWaitsTimed}

-- Their turns, by settled states and what is owned: what the members of the trait say.
abbrev pub reduced : {Self G H M O : Type 0} → (m : Ghosts Self G H M O) → Self
    → StepSystem (Owning (RestingState G H)) (State m.X m.T) O
reduced m system = reduced_steps (m.threads system) (m.ends system) (m.stuck system)

-- These threads race in some run.
abbrev pub IsRaceOf : {Self G H M O : Type 0} → (m : Ghosts Self G H M O) → Self → ThreadRace → Type 0
IsRaceOf m system r = HasRace (m.threads system).system (m.threads system).first (m.threads system).accesses r.one r.other

-- No threads race in any run.
abbrev pub HasNoRace : {Self G H M O : Type 0} → (m : Ghosts Self G H M O) → Self → Type 0
HasNoRace m system = NoneRace (m.threads system).system (m.threads system).first (m.threads system).accesses

-- A thread waits with a timeout in some run.
abbrev pub HasTimeout : {Self G H M O : Type 0} → (m : Ghosts Self G H M O) → Self → Type 0
HasTimeout m system = SomeWaitsTimed (m.threads system).system (m.threads system).first (m.threads system).accesses

-- No thread does in any.
abbrev pub HasNoTimeout : {Self G H M O : Type 0} → (m : Ghosts Self G H M O) → Self → Type 0
HasNoTimeout m system =
    NoneWaitsTimed (m.threads system).system (m.threads system).first (m.threads system).accesses
