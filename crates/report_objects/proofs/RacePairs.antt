-- Races in objects, by other names of what they are made of.
use Rattle.std.proofs.Common.{◌≡◌, ◌∙◌, ◌<◌, ℕ, List, Option, Some, length, get_or, ap, subst, sym}
use Rattle.std.specs.List.{AllZip, slice_get}
use Rattle.std.proofs.lemmas.Option.{slice_get-get_or}
use Rattle.types.specs.declared.event.Entry.{Entry}
use Rattle.race_history.specs.declared.access.ThreadAccess.{ThreadAccess}
use Rattle.race_history.specs.declared.access.Site.{Site}
use Rattle.race_history.specs.declared.race.Race.{Race}
use Rattle.show_json.specs.declared.races.NextWrite.{NextWrite}
use Rattle.show_json.specs.declared.races.RaceEntry.{RaceEntry}
use Rattle.show_json.specs.declared.races.RacePair.{RacePair}
use Rattle.show_races.specs.Releases.{IsNextWrite, access_at}
use Rattle.show_races.specs.declared.found.RecordRaces.{RecordRaces}
use Rattle.show_rows.specs.declared.listing.Shown.{Shown}
use Rattle.show_rows.specs.declared.listing.Story.{Story}
use Rattle.report_objects.specs.RaceObjects.{IsEntryOf, IsNextOf, IsPairOf, IsRowOf, IsWriteOf, width_of, first_byte, is_atomic_site}

pub stands : (log whole : List Entry) (at : ℕ) (d : Entry) → log ≡ whole → at < length whole → slice_get whole at ≡ Some (get_or log at d)
stands log whole at d same within = subst (λ (l : List Entry). slice_get l at ≡ Some (get_or log at d)) same
    (slice_get-get_or log at d (subst (λ (l : List Entry). at < length l) (sym same) within))

pub entry_by : (shown : Shown) (story : Story) (sites : List Site) (at : ℕ) (log : List Entry) (d : Entry) (e : RaceEntry) (access : Option ThreadAccess)
    → log ≡ shown.record.now.log → at < length shown.record.now.log → IsRowOf shown story at (get_or log at d) e.row
    → e.is_atomic ≡ is_atomic_site (slice_get sites at) → access ≡ access_at log sites at → e.addr ≡ first_byte access
    → e.width ≡ width_of access → IsEntryOf shown story sites at e
entry_by shown story sites at log d e access same within row atomic is addr width =
    let there : access ≡ access_at shown.record.now.log sites at = is ∙ ap (λ (l : List Entry). access_at l sites at) same in
    record {
      made = get_or log at d;
      stands = stands log shown.record.now.log at d same within;
      row = row;
      atomic = atomic;
      addr = addr ∙ ap first_byte there;
      width = width ∙ ap width_of there;
    }

pub next_by : (shown : Shown) (sites : List Site) (r : Race) (log : List Entry) (d : Entry) (next : Option ℕ) (write : Option NextWrite)
    → log ≡ shown.record.now.log → r.first < length shown.record.now.log → IsNextWrite log sites (get_or log r.first d).thread r.first next
    → IsWriteOf shown r.second next write → IsNextOf shown sites r write
next_by shown sites r log d next write same within is_next is = record {
  made = get_or log r.first d;
  stands = stands log shown.record.now.log r.first d same within;
  next = next;
  is_next = subst (λ (l : List Entry). IsNextWrite l sites (get_or log r.first d).thread r.first next) same is_next;
  is = is;
}

pub pairs_by : (shown : Shown) (story : Story) (races : RecordRaces) (sites : List Site) (rs : List Race) (ps qs : List RacePair)
    → sites ≡ races.sites.items → rs ≡ races.pairs.items → ps ≡ qs → AllZip (IsPairOf shown story sites) rs qs
    → AllZip (IsPairOf shown story races.sites.items) races.pairs.items ps
pairs_by shown story races sites rs ps qs same alike are all =
    subst (λ (xs : List RacePair). AllZip (IsPairOf shown story races.sites.items) races.pairs.items xs) (sym are)
    (subst (λ (ks : List Site). AllZip (IsPairOf shown story ks) races.pairs.items qs) same
    (subst (λ (xs : List Race). AllZip (IsPairOf shown story sites) xs qs) alike all))
