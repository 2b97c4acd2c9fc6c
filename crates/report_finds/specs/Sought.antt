-- What is looked for in what was found of all runs, and the status.
use Rattle.std.specs.Prelude.{ℕ, ◌≡◌, ◌≢◌, ◌≤◌, ◌<◌, ◌-◌, ◌↔◌, ◌&&◌, not, All, Bool, List, [], length, take, true}
use Rattle.std.specs.Prelude.{option_map, unwrap_or, slice_index_or}
use Rattle.std.specs.List.{slice_get}
use Rattle.search_reach.specs.declared.ending.Ended.{Ended}
use Rattle.search_endings.specs.Endings.{Ending}
use Rattle.search_finds.specs.Finds.{IsLookedFor}
use Rattle.selection.specs.declared.sought.Sought.{Sought}
use Rattle.report_command.specs.declared.search.Search.{Search}
use Rattle.report_telling.specs.Complete.{AreAllWell}
use Rattle.report_telling.specs.Racing.{allows}
use Rattle.report_telling.specs.declared.found.WholeSearch.{WholeSearch}

-- The first ending of a list that is looked for, by its number from 1 on.
pub record IsFirstSought (s : Sought) (endings : List Ending) (number : ℕ) (ending : Ending) : Type 0 where
  pub some : number ≢ 0
  pub within : number - 1 < length endings
  pub there : slice_index_or endings (number - 1) ending ≡ ending
  pub sought : IsLookedFor s ending
  pub before : All (λ e. IsLookedFor s e → ⊥) (take (number - 1) endings)

-- The choices that were noted of the ending at a place of the list.
abbrev pub choices_at : Ended Ending → ℕ → List ℕ
choices_at all place = unwrap_or (option_map (λ path. path.items) (slice_get all.paths.items place)) []

-- A search stops at an ending that is looked for, or a run that never ends, unless a race is looked for.
abbrev pub stops_behind : Search → Bool
stops_behind s = s.sought.stops && not s.races

-- The status is 0 where all is well, and there are no races or these are allowed, and else 1.
pub record IsStatusOf (s : Search) (w : WholeSearch) (status : ℕ) : Type 0 where
  pub well : (status ≡ 0) ↔ (AreAllWell s.sought w.all × (allows s.allow_races w.racing ≡ true))
  pub statuses : status ≤ 1
