-- The races that a run has, by other names of what they are told by.
use Rattle.std.proofs.Common.{ℕ, ◌≡◌, ◌∙◌, ◌<◌, ◌==◌, Bool, true, false, List, [], ◌∷◌, Option, length, get_or, ap, refl, subst, sym, true≢false, arith, All}
use Rattle.std.proofs.lemmas.Bool.{eqb-true}
use Rattle.std.proofs.lemmas.List.Elements.{Contains-get_or}
use Rattle.types.specs.declared.event.Entry.{Entry}
use Rattle.types.specs.declared.parts.Parts.{Parts}
use Rattle.replay_text.specs.declared.parts.RecordParts.{RecordParts}
use Rattle.replay.specs.Runs.{IsRunOf}
use Rattle.spawn_host.specs.declared.end.EndState.{EndState}
use Rattle.race_history.specs.declared.access.Site.{Site}
use Rattle.race_history.specs.declared.race.Race.{Race}
use Rattle.race_history.specs.Races.{AreRaces, IsLastRace}
use Rattle.show_json.specs.declared.races.RacePair.{RacePair}
use Rattle.report_jobs.specs.Prints.{change}
use Rattle.show_races.specs.Races.{Says, SaysOfRun}
use Rattle.show_races.specs.Rows.{AreRowsOf, sites_of}
use Rattle.show_races.specs.Sites.{opening_of}
use Rattle.show_races.proofs.Told.{sites_alike, told_of}
use Rattle.show_races.specs.Told.{HasNoRace, IsWithin}
use Rattle.show_race_words.specs.Written.{TellsFound}
use Rattle.show_rows.specs.Listing.{IsStoryOf}
use Rattle.show_rows.specs.declared.code.CodeMap.{CodeMap}
use Rattle.show_rows.specs.declared.listing.Shown.{Shown}
use Rattle.show_rows.specs.declared.rows.Row.{Row}
use Rattle.report_objects.specs.RaceObjects.{IsPairOf}
use Rattle.allowed_races.specs.declared.allowed.Allowed.{Allowed}
use Rattle.report_command.specs.declared.allowance.Allowance.{Allowance}
use Rattle.show_stacks.specs.declared.stacks.EntryStacks.{EntryStacks}
use Rattle.show_stacks.specs.declared.texts.StacksView.{StacksView}
use Rattle.report_looks.specs.Allowing.{IsAllowedBy}
use Rattle.report_looks.specs.Seeing.{AreStacksTold, IsShownOf}
use Rattle.report_looks.specs.Raced.{IsSeen, SaysObject, SaysOf, WritesFound}
use Rattle.report_looks.specs.Sighted.{AreTold, AreRacesOf, IsShownBy}
use Rattle.report_looks.specs.declared.sighting.RacesOfRun.{RacesOfRun}
use Rattle.report_looks.specs.declared.sighting.ToldRaces.{ToldRaces}
use Rattle.report_looks.specs.declared.sighting.TheConstants.{MOST_TOLD}

module _ (m : Parts) (r : RecordParts) (rows : List (Option Row)) (seen : (end : EndState) × IsRunOf m r end × AreRowsOf m r end rows)
    (shown : Shown) (of_record : shown.record.now ≡ r) (of_rows : shown.rows.now ≡ rows) (of_module : shown.code.now.parts.now ≡ m) where
  log : shown.record.now.log ≡ r.log
  log = ap (λ (p : RecordParts). p.log) of_record

  pub races_by : (f : RacesOfRun) → f.rows.items ≡ rows → f.code.parts.now ≡ m → AreTold f.allowed shown MOST_TOLD f.told
      → AreStacksTold m r shown f.told.races f.stacks → 0 < length f.told.races.pairs.items → AreRacesOf m r f
  races_by f same code told stacks some =
      let mine = of_rows ∙ sym same in
      let alike = sites_alike f.allowed shown.record.now.log r.log shown.code.now.parts.now m shown.rows.now f.rows.items log of_module mine in
      record {
        seen = (seen.0, seen.1, subst (λ (xs : List (Option Row)). AreRowsOf m r seen.0 xs) (sym same) seen.2);
        of_module = code;
        is_story = subst (λ (l : List Entry). IsStoryOf l f.told.story) log told.is_story;
        sites = told.sites ∙ alike;
        races = told_of (λ l k o. AreRaces l k o f.told.races.pairs.items) f.allowed shown.record.now.log r.log shown.code.now.parts.now m
            shown.rows.now f.rows.items log of_module mine told.races;
        told = record {
          some = some;
          within = subst (λ (l : List Entry). All (IsWithin l) f.told.races.pairs.items) log told.within;
        };
        found = shown;
        is_found = record { of_record = of_record; of_rows = mine; of_module = of_module; is_story = told.is_story };
        all = told;
        stacks = stacks;
      }

  pub none_by : (allowed : Allowed) (t : ToldRaces) → AreTold allowed shown MOST_TOLD t → t.races.pairs.items ≡ []
      → SaysOfRun allowed m r false
  none_by allowed t told empty = record {
    rows = rows;
    end = seen.0;
    run = seen.1;
    rows_are = seen.2;
    says = told_of (λ l k o. HasNoRace l k o) allowed shown.record.now.log r.log shown.code.now.parts.now m shown.rows.now rows log of_module of_rows
        (told.none empty);
  }

-- what is shown by its rows and its code
pub shown_by : (m : Parts) (r : RecordParts) (f : RacesOfRun) → AreRacesOf m r f → (shown : Shown) → IsShownBy r f shown
    → IsShownOf m r f.rows.items shown f.told.story
shown_by m r f first shown is = record {
  of_record = is.of_record;
  of_rows = is.of_rows;
  of_module = ap (λ (c : CodeMap). c.parts.now) is.of_code ∙ first.of_module;
  is_story = subst (λ (l : List Entry). IsStoryOf l f.told.story) (sym (ap (λ (p : RecordParts). p.log) is.of_record)) first.is_story;
}

race_of : (m : Parts) (r : RecordParts) (f : RacesOfRun) → AreRacesOf m r f → (d : Race)
    → IsLastRace r.log (sites_of f.allowed m r f.rows.items) (opening_of m) (get_or f.told.races.pairs.items 0 d)
race_of m r f first d = first.races (get_or f.told.races.pairs.items 0 d) (Contains-get_or f.told.races.pairs.items 0 d first.told.some)

-- the first one in an object
pub object_by : (m : Parts) (r : RecordParts) (f : RacesOfRun) → AreRacesOf m r f → (shown : Shown) → IsShownBy r f shown
    → (sites : List Site) (ps : List Race) (d : Race) (pair : RacePair) → sites ≡ f.told.races.sites.items → ps ≡ f.told.races.pairs.items
    → IsPairOf shown f.told.story sites (get_or ps 0 d) pair → SaysObject f.allowed m r pair
object_by m r f first shown is sites ps d pair same alike says =
    let there : IsPairOf shown f.told.story sites (get_or f.told.races.pairs.items 0 d) pair =
    subst (λ (rs : List Race). IsPairOf shown f.told.story sites (get_or rs 0 d) pair) alike says in
    record {
      rows = f.rows.items;
      end = first.seen.0;
      run = first.seen.1;
      rows_are = first.seen.2;
      shown = shown;
      story = f.told.story;
      is_shown = shown_by m r f first shown is;
      race = get_or f.told.races.pairs.items 0 d;
      is_race = race_of m r f first d;
      says = subst (λ (ks : List Site). IsPairOf shown f.told.story ks (get_or f.told.races.pairs.items 0 d) pair) (same ∙ first.sites) there;
    }

-- and all in words
pub found_by : (m : Parts) (r : RecordParts) (f : RacesOfRun) → AreRacesOf m r f → (shown : Shown) → IsShownBy r f shown
    → (stacks : StacksView) → stacks.stacks.now ≡ f.stacks → (old new : Option (List ℕ))
    → TellsFound shown f.map f.told.story stacks f.told.races old new → WritesFound f.allowed m r (change old new)
found_by m r f first shown is stacks same old new (texts, says, lines) = (
  _,
  lines,
  record {
    rows = f.rows.items;
    end = first.seen.0;
    run = first.seen.1;
    rows_are = first.seen.2;
    found = first.found;
    story = f.told.story;
    is_found = first.is_found;
    races = f.told.races;
    told = first.all;
    shown = shown;
    is_shown = shown_by m r f first shown is;
    map = f.map;
    some = first.told.some;
    stacks = stacks;
    stacks_are = subst (λ (s : EntryStacks). AreStacksTold m r first.found f.told.races s) (sym same) first.stacks;
    texts = texts;
    says = says;
    is = refl;
  },
)

-- a run with a race to tell has one
pub says_race : (m : Parts) (r : RecordParts) (f : RacesOfRun) → AreRacesOf m r f → (d : Race) → SaysOfRun f.allowed m r true
says_race m r f first d = record {
  rows = f.rows.items;
  end = first.seen.0;
  run = first.seen.1;
  rows_are = first.seen.2;
  says = (get_or f.told.races.pairs.items 0 d, race_of m r f first d);
}

-- what is said of a record's run is said of its text
pub says_of : (allow : Allowance) (allowed : Allowed) → IsAllowedBy allow allowed → (m : Parts) (saved : List ℕ) (r : RecordParts)
    (rows : List (Option Row)) → IsSeen m saved r rows → (is : Bool) → Says r.log (sites_of allowed m r rows) (opening_of m) is
    → SaysOf allow m saved is
says_of allow allowed by m saved r rows seen true (race, races) =
    record { record_is = r; rows = rows; seen = seen; allowed = allowed; allowed_is = by; race = race; races = races }
says_of allow allowed by m saved r rows seen false none =
    record { record_is = r; rows = rows; seen = seen; allowed = allowed; allowed_is = by; none = none }

-- a list that is the same as one without elements
pub empty_by : (xs ys : List Race) → xs ≡ ys → true ≡ (length xs == 0) → ys ≡ []
empty_by [] ys same is = sym same
empty_by (x ∷ xs) ys same is = let none : length (x ∷ xs) ≡ 0 = eqb-true (length (x ∷ xs)) 0 (sym is) in absurd (omega arith)

-- one that is the same as a list with elements
pub some_by : (xs ys : List Race) → xs ≡ ys → false ≡ (length xs == 0) → 0 < length ys
some_by [] ys same is = absurd (true≢false (sym is))
some_by (x ∷ xs) ys same is = subst (λ (l : List Race). 0 < length l) same (omega arith)
