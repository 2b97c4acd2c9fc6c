-- What a search found, and what is kept of it.
use Rattle.std.specs.Prelude.{ℕ, ◌≡◌, ◌⊎◌, ◌-◌, All, Bool, true, false, List, length, Option, Some, None, is_some}
use Rattle.std.specs.Option.{IfSome}
use Rattle.spawn_host.specs.Requests.{Requested}
use Rattle.search_endings.specs.Endings.{Ending}
use Rattle.search_reach.specs.declared.ending.Ended.{Ended}
use Rattle.search_scheduled.specs.declared.running.MadeRun.{MadeRun}
use Rattle.search_strategies.specs.Given.{chosen}
use Rattle.search_finds.specs.Drawing.{GoesAlong, LeadToOther, unheard}
use Rattle.search_finds.specs.Endings.{ending_left}
use Rattle.search_finds.specs.Finds.{IsFind, IsLookedFor}
use Rattle.search_finds.specs.Leading.{LeadsTo}
use Rattle.search_finds.specs.Sizes.{size_in}
use Rattle.search_finds.specs.declared.size.Size.{Size}
use Rattle.report_command.specs.declared.search.Search.{Search}
use Rattle.report_jobs.specs.Prints.{WriterChange, KeepsRecord}
use Rattle.report_json.specs.declared.found.FoundAs.{FoundAs}
use Rattle.report_json.specs.declared.found.FoundAs.TheVariants as founds
use Rattle.report_json.specs.declared.found.RunSize.{RunSize}
use Rattle.report_json.specs.declared.found.Shrunk.{Shrunk}
use Rattle.report_telling.specs.declared.found.FoundRun.{FoundRun}
use Rattle.report_telling.specs.declared.found.KeptRun.{KeptRun}
use Rattle.report_telling.specs.declared.found.WholeSearch.{WholeSearch}
use Rattle.report_finds.specs.Endless.{HasNoEndless, IsFilled, IsKnown}
use Rattle.report_finds.specs.Sought.{IsFirstSought, choices_at, stops_behind}
use Rattle.report_finds.specs.declared.all.EndlessRun.{EndlessRun}
use Rattle.report_finds.specs.declared.all.EndlessWay.{EndlessWay}
use Rattle.report_finds.specs.declared.all.EndlessWay.TheVariants.{ToNoEnd, Round}

-- A size, and those of a run that was shrunk, where that is asked for.
abbrev pub size_of : Size → RunSize
size_of size = record { entries = size.entries; switches = size.switches }

abbrev pub shrunk_if : Bool → Size → Size → Option Shrunk
shrunk_if true was is = Some (record { before = size_of was; after = size_of is })
shrunk_if false was is = None

-- A smaller run is looked for in place of one that was found so.
abbrev pub can_shrink : FoundAs → Bool
can_shrink (founds.Run n) = true
can_shrink (founds.Ending n) = true
can_shrink (founds.NoEndAfter n) = false
can_shrink (founds.ForEverAfter n) = false

-- The run that was found, if one was made, is one by the call.
abbrev pub CanBeKept : Requested → Search → Option MadeRun → Type 0
CanBeKept q s made = IfSome made (IsFind q s.sought.limit)

-- The run that was found, or where that is asked for one by the call that was shrunk and ends alike; and the sizes of
-- both, where it was shrunk.
pub record HasRun (q : Requested) (s : Search) (found : MadeRun) (k : KeptRun) : Type 0 where
  pub made : MadeRun
  pub made_is : k.made ≡ Some made
  pub find : IsFind q s.sought.limit made
  pub ends : ending_left s.sought.dump made.end ≡ ending_left s.sought.dump found.end
  pub same : s.shrink ≡ false → made ≡ found
  pub shrunk_is : k.shrunk ≡ shrunk_if s.shrink (size_in found.record) (size_in made.record)

-- What is kept of a run that was found, if one was made: itself, or where a smaller one is looked for that.
abbrev pub IsKeptAs : Requested → Search → Bool → Option MadeRun → KeptRun → Type 0
IsKeptAs q s false made k = (k.made ≡ made) × (k.shrunk ≡ None)
IsKeptAs q s true None k = (k.made ≡ None) × (k.shrunk ≡ None)
IsKeptAs q s true (Some was) k = HasRun q s was k

pub record IsKeptOf (q : Requested) (s : Search) (f : FoundRun) (k : KeptRun) : Type 0 where
  pub as_is : k.found_as ≡ f.found_as
  pub kept : IsKeptAs q s (can_shrink f.found_as) f.made k

abbrev pub AreKeptOf : Requested → Search → Option FoundRun → Option KeptRun → Type 0
AreKeptOf q s None None = Unit {0}
AreKeptOf q s (Some f) (Some k) = IsKeptOf q s f k
AreKeptOf q s f k = ⊥

-- A run by the call along these choices ends so.
pub record HasMet (q : Requested) (s : Search) (choices : List ℕ) (number : ℕ) (ending : Ending)
    (f : FoundRun) : Type 0 where
  pub found : MadeRun
  pub along : GoesAlong chosen unheard q s.sought.limit choices found
  pub ends : ending ≡ ending_left s.sought.dump found.end
  pub find : IsFind q s.sought.limit found
  pub made_is : f.made ≡ Some found
  pub as_is : f.found_as ≡ founds.Ending number

-- The choices lead to another ending: no run was made.
pub record HasOther (q : Requested) (s : Search) (choices : List ℕ) (number : ℕ) (ending : Ending)
    (f : FoundRun) : Type 0 where
  pub other : LeadToOther q s.sought.limit s.sought.dump choices ending
  pub none : f.made ≡ None
  pub as_is : f.found_as ≡ founds.Ending number

abbrev pub HasOne : Requested → Search → List ℕ → ℕ → Ending → FoundRun → Type 0
HasOne q s choices number ending f = HasMet q s choices number ending f ⊎ HasOther q s choices number ending f

-- It is the first ending that is looked for. Of a search that makes plain accesses at once they are filled in.
pub record HasFirst (q : Requested) (s : Search) (w : WholeSearch) (f : FoundRun) : Type 0 where
  pub number : ℕ
  pub ending : Ending
  pub is_first : IsFirstSought s.sought w.all.endings.keys number ending
  pub choices : List ℕ
  pub noted : w.is_free ≡ false → choices ≡ choices_at w.all (number - 1)
  pub one : HasOne q s choices number ending f

-- After how many entries it is sure not to end.
abbrev pub endless_as : EndlessWay → ℕ → FoundAs
endless_as ToNoEnd entries = founds.NoEndAfter entries
endless_as Round entries = founds.ForEverAfter entries

-- A run by the call that never ends.
pub record HasEndless (q : Requested) (s : Search) (run : EndlessRun) (f : FoundRun) : Type 0 where
  pub made : MadeRun
  pub made_is : f.made ≡ Some made
  pub find : IsFind q s.sought.limit made
  pub entries : ℕ
  pub leads : LeadsTo made.record.log (length run.path.now) entries
  pub as_is : f.found_as ≡ endless_as run.way entries

abbrev pub HasFilled : Requested → Search → Bool → EndlessRun → FoundRun → Type 0
HasFilled q s is_free known f = (run : EndlessRun) × IsFilled is_free known run × HasEndless q s run f

-- It is of the kind that is looked for, and known of all runs.
pub record HasKnown (q : Requested) (s : Search) (w : WholeSearch) (f : FoundRun) : Type 0 where
  pub known : EndlessRun
  pub is_known : IsKnown s.sought.target w.all.liveness known
  pub unsought : All (λ e. IsLookedFor s.sought e → ⊥) w.all.endings.keys
  pub filled : HasFilled q s w.is_free known f

-- Nothing is looked for that is there, or the search doesn't stop at it.
pub record HasNothing (s : Search) (all : Ended Ending) : Type 0 where
  pub unsought : stops_behind s ≡ true → All (λ e. IsLookedFor s.sought e → ⊥) all.endings.keys
  pub endless : stops_behind s ≡ true → HasNoEndless s.sought.target all.liveness

-- What was found of every order.
abbrev pub HasFound : Requested → Search → WholeSearch → Option FoundRun → Type 0
HasFound q s w None = HasNothing s w.all
HasFound q s w (Some f) = (stops_behind s ≡ true) × (HasFirst q s w f ⊎ HasKnown q s w f)

-- The record of the run was written, where one was made and its record is wanted.
abbrev pub KeepsMade : Search → Option MadeRun → WriterChange → Type 0
KeepsMade s None save = save.new ≡ save.old
KeepsMade s (Some made) save = KeepsRecord (is_some s.save) save made.record

abbrev pub KeepsFound : Search → Option KeptRun → WriterChange → Type 0
KeepsFound s None save = save.new ≡ save.old
KeepsFound s (Some k) save = KeepsMade s k.made save
