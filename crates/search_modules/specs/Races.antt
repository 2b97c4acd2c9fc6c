-- Races of the runs of a call.
use Rattle.std.specs.Prelude.{ℕ, ◌⊎◌, List, length}
use Rattle.allowed_races.specs.declared.allowed.Allowed.{Allowed}
use Rattle.types.specs.declared.event.Event.{Event}
use Rattle.types.specs.declared.value.Value.{Value}
use Rattle.types.specs.declared.parts.Parts.{Parts}
use Rattle.spawn_host.specs.Requests.{Requested}
use Rattle.search_endings.specs.Endings.{Ending}
use Rattle.search_reach.specs.Found.{Claims}
use Rattle.schedule_threads.specs.Shared.{Shared}
use Rattle.search_settled.specs.declared.access.NextAccess.{NextAccess}
use Rattle.search_race_free.specs.Races.{HasRace, NoneRace}
use Rattle.search_race_free.specs.Timeouts.{NoneWaitsTimed, SomeWaitsTimed}
use Rattle.search_race_free.specs.declared.race.ThreadRace.{ThreadRace}
use Rattle.search_runs.specs.Accesses.{access_of}
use Rattle.search_runs.specs.Called.{Called, Walker, system_of, first_state}
use Rattle.search_modules.specs.Endings.{HasEveryEnding, AllCanEndSo, CanBeLost}
use Rattle.search_modules.specs.Returned.{IsCall}

-- What a thread of a call does with the memory by an event, where so much may race.
abbrev pub access_in : Allowed → Called → Shared → Walker → Event → NextAccess
access_in allowed b = access_of allowed (length b.opening.bytes)

-- By this call threads without budgets come to where these two race, which they may not.
abbrev pub CanRaceSo : Parts → List ℕ → List Value → Allowed → ThreadRace → Type 0
CanRaceSo m entry args allowed r =
    (b : Called) × IsCall m entry args b × HasRace (system_of b) (first_state b) (access_in allowed b) r.one r.other

-- By this call no threads without budgets race, in any run, but where they may.
abbrev pub NeverRaces : Parts → List ℕ → List Value → Allowed → Type 0
NeverRaces m entry args allowed =
    (b : Called) × IsCall m entry args b × NoneRace (system_of b) (first_state b) (access_in allowed b)

-- By this call a thread without a budget waits with a timeout in some run.
abbrev pub WaitsTimedSo : Parts → List ℕ → List Value → Allowed → Type 0
WaitsTimedSo m entry args allowed =
    (b : Called) × IsCall m entry args b × SomeWaitsTimed (system_of b) (first_state b) (access_in allowed b)

-- By this call none does in any run.
abbrev pub NeverWaitsTimed : Parts → List ℕ → List Value → Allowed → Type 0
NeverWaitsTimed m entry args allowed =
    (b : Called) × IsCall m entry args b × NoneWaitsTimed (system_of b) (first_state b) (access_in allowed b)

-- What a search through the orders of what isn't plain claims: it gives up where there is a race, too.
abbrev pub race_free_claims_of : Requested → Allowed → ℕ → Claims Ending
race_free_claims_of r allowed dump = record {
  complete = HasEveryEnding r.parts r.name r.args dump;
  sound = AllCanEndSo r.parts r.name r.args dump;
  lost = CanBeLost r.parts r.name r.args ⊎ ((race : ThreadRace) × CanRaceSo r.parts r.name r.args allowed race);
}
