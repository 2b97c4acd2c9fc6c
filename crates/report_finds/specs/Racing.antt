-- What is known of the races of all runs of a call, and what is told of one.
use Rattle.std.specs.Prelude.{ℕ, ◌≡◌, ◌↔◌, ◌&&◌, Bool, true, false, None, is_some}
use Rattle.allowed_races.specs.declared.allowed.Allowed.{Allowed}
use Rattle.spawn_host.specs.Requests.{Requested}
use Rattle.search_reach.specs.declared.ending.Ended.{Ended}
use Rattle.search_reach.specs.declared.search.SearchOrder.{SearchOrder}
use Rattle.search_reach.specs.declared.search.SearchOrder.TheVariants as orders
use Rattle.search_reach.specs.declared.search.Verdict.{Verdict}
use Rattle.search_reach.specs.declared.search.Verdict.TheVariants as verdicts
use Rattle.search_endings.specs.Endings.{Ending}
use Rattle.search_modules.specs.Races.{CanRaceSo, NeverRaces, NeverWaitsTimed, WaitsTimedSo}
use Rattle.search_modules.specs.Liveness.{CountsOwned, SaysWhereAllFree}
use Rattle.search_finds.specs.Finds.{IsFind}
use Rattle.report_command.specs.declared.search.Search.{Search}
use Rattle.report_jobs.specs.Prints.{WriterChange, KeepsRecord}
use Rattle.search_race_free.specs.declared.race.ThreadRace.{ThreadRace}
use Rattle.report_telling.specs.Racing.{IsRacyRun}
use Rattle.report_telling.specs.declared.racing.Raced.{Raced}
use Rattle.report_telling.specs.declared.racing.Raced.TheVariants as raced
use Rattle.report_telling.specs.declared.racing.RacyRun.{RacyRun}
use Rattle.report_telling.specs.declared.racing.Racing.{Racing}
use Rattle.report_telling.specs.declared.racing.Racing.TheVariants.{Unasked, Never, OnlyBehindTimeouts, Found, Unknown}
use Rattle.report_telling.specs.declared.found.WholeSearch.{WholeSearch}
use Rattle.report_finds.specs.Early.{SaysSought}
use Rattle.report_finds.specs.Complete.{FindsEvery, FindsNoOther, IsCompleteOf}
use Rattle.report_finds.specs.declared.whole.FirstLook.{FirstLook}
use Rattle.report_finds.specs.declared.whole.FirstLook.TheVariants as looks

-- That is so of all runs of the call, where so much may race.
abbrev pub IsKnownOf : Requested → Allowed → Racing → Type 0
IsKnownOf q a Unasked = Unit {0}
IsKnownOf q a Never = NeverRaces q.parts q.name q.args a × NeverWaitsTimed q.parts q.name q.args a
IsKnownOf q a OnlyBehindTimeouts = NeverRaces q.parts q.name q.args a × WaitsTimedSo q.parts q.name q.args a
IsKnownOf q a (Found r) = CanRaceSo q.parts q.name q.args a r
IsKnownOf q a Unknown = Unit {0}

-- Races aren't asked for where every order is gone through at once, and there alone.
abbrev pub IsAsked : Search → Racing → Type 0
IsAsked s racing = (s.every_order ≡ true) ↔ (racing ≡ Unasked)

-- In which order the states are gone on from.
abbrev pub order_by : Bool → SearchOrder
order_by true = orders.Depth
order_by false = orders.Breadth

-- What is found of all runs of a call by a search that makes plain accesses at once. It doesn't say how far it came.
pub record IsFreelyComplete (q : Requested) (a : Allowed) (dump : ℕ) (all : Ended Ending) : Type 0 where
  pub every : FindsEvery q dump all
  pub can : FindsNoOther q dump all
  pub count : CountsOwned q a all.states
  pub live : SaysWhereAllFree q a dump all.states all.verdict all.liveness
  pub unsaid : all.levels ≡ None

-- By that search, or by the one through every order.
abbrev pub IsCompleteBy : Requested → Allowed → ℕ → Bool → Ended Ending → Type 0
IsCompleteBy q a dump true all = IsFreelyComplete q a dump all
IsCompleteBy q a dump false all = IsCompleteOf q dump all

-- None has one, but for what may come behind waits with a timeout.
abbrev pub AreNone : Racing → Type 0
AreNone Unasked = ⊥
AreNone Never = Unit {0}
AreNone OnlyBehindTimeouts = Unit {0}
AreNone (Found r) = ⊥
AreNone Unknown = ⊥

-- What is found of all runs, and of their races: where the first search met all, that there are none. Where a search
-- ends at what is looked for, its verdict says whether it did.
pub record IsWhole (q : Requested) (s : Search) (a : Allowed) (w : WholeSearch) : Type 0 where
  pub complete : IsCompleteBy q a s.sought.dump w.is_free w.all
  pub known : IsKnownOf q a w.racing
  pub asked : IsAsked s w.racing
  pub never : w.is_free ≡ true → w.all.verdict ≡ verdicts.All → AreNone w.racing
  pub sought : SaysSought s w.all.verdict w.all.endings.keys

-- Where no race was found none is in any run, if all states were met, but for what comes behind waits with a timeout.
abbrev pub racing_by : Verdict → Bool → Racing
racing_by verdicts.All false = Never
racing_by verdicts.All true = OnlyBehindTimeouts
racing_by verdicts.TooMany timed = Unknown
racing_by verdicts.CannotTell timed = Unknown
racing_by verdicts.Told timed = Unknown
racing_by verdicts.Sought timed = Unknown

-- What a first look found, and what it left open.
abbrev pub IsLooked : Requested → Search → Allowed → FirstLook → Type 0
IsLooked q s a (looks.Done all timed) =
    IsFreelyComplete q a s.sought.dump all × IsKnownOf q a (racing_by all.verdict timed) × (s.every_order ≡ false)
    × SaysSought s all.verdict all.endings.keys
IsLooked q s a (looks.Open racing way) = IsKnownOf q a racing × IsAsked s racing

abbrev pub racing_in : FirstLook → Racing
racing_in (looks.Done all timed) = racing_by all.verdict timed
racing_in (looks.Open racing way) = racing

-- The run with the race is kept where that is asked for, and a place for its record is given.
abbrev pub keeps_race : Search → Bool
keeps_race s = s.races && is_some s.save

abbrev pub found : ThreadRace → Racing
found r = Found r

-- It is of a run by the call, and as much may race as in the search.
abbrev pub IsRacyRunOf : Requested → Search → Allowed → RacyRun → Type 0
IsRacyRunOf q s a run = IsFind q s.sought.limit run.made × IsRacyRun q.parts run × (run.race.allowed ≡ a)

-- Of a race that is known a run by the call that has one is told, or the threads, and else nothing.
abbrev pub IsRacedOf : Requested → Search → Allowed → Racing → Raced → Type 0
IsRacedOf q s a racing (raced.Run run kept) = ((r : ThreadRace) × (racing ≡ Found r)) × IsRacyRunOf q s a run
    × (kept ≡ keeps_race s)
IsRacedOf q s a racing (raced.Threads r) = racing ≡ Found r
IsRacedOf q s a racing raced.Untold = (r : ThreadRace) → racing ≡ Found r → ⊥

-- The record of the run was written, where it is looked for and a place is given.
abbrev pub KeepsRaced : Search → Raced → WriterChange → Type 0
KeepsRaced s (raced.Run run kept) save = KeepsRecord (keeps_race s) save run.made.record
KeepsRaced s (raced.Threads r) save = save.new ≡ save.old
KeepsRaced s raced.Untold save = save.new ≡ save.old
