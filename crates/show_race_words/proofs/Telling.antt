-- What is told of a race, by the slices that were read.
use Rattle.std.proofs.Common.{◌≡◌, ◌∙◌, ◌<◌, ◌≤◌, nat_lt, ℕ, List, ◌++◌, Option, Some, length, get_or, sym, ap, subst, codes}
use Rattle.std.specs.List.{AllZip, concat, slice_get}
use Rattle.std.specs.Io.KnownBytes.{Appends, Keeps}
use Rattle.std.proofs.lemmas.List.{take_all}
use Rattle.std.proofs.lemmas.Option.{slice_get-get_or}
use Rattle.types.specs.declared.event.Entry.{Entry}
use Rattle.race_history.specs.declared.access.Site.{Site}
use Rattle.race_history.specs.declared.race.Race.{Race}
use Rattle.show_rows.specs.declared.listing.Shown.{Shown}
use Rattle.show_rows.specs.declared.listing.Story.{Story}
use Rattle.show_races.specs.declared.found.RecordRaces.{RecordRaces}
use Rattle.show_races.specs.Releases.{IsNextWrite}
use Rattle.show_named.specs.declared.data_map.DataMap.{DataMap}
use Rattle.show_stacks.specs.declared.texts.StacksView.{StacksView}
use Rattle.show_race_words.specs.Spots.{AreAt, IsSpot}
use Rattle.show_race_words.specs.Stacks.{AreStacks, IsStackLine}
use Rattle.show_race_words.specs.Starts.{IsStartText}
use Rattle.show_race_words.specs.Written.{act_at, leads_text, look_text, order_text}
use Rattle.show_race_words.specs.Written.{AreStarts, IsLookText, IsNextText, IsOrderText, SaysRace}
use Rattle.show_race_words.specs.Written.{WritesBefore, WritesEach}
use Rattle.replay_forms.proofs.Written.{appends_then}
use Rattle.show_rows.proofs.Chosen.{appends_keeps}
use Rattle.show_rows.proofs.Texts.{AreWritten}

pub stands : (log whole : List Entry) (at : ℕ) (d : Entry) → log ≡ whole → at < length whole → slice_get whole at ≡ Some (get_or log at d)
stands log whole at d same within = subst (λ (l : List Entry). slice_get l at ≡ Some (get_or log at d)) same
    (slice_get-get_or log at d (subst (λ (l : List Entry). at < length l) (sym same) within))

module _ (shown : Shown) (r : Race) (log : List Entry) (d e : Entry) (same : log ≡ shown.record.now.log)
    (first : r.first < length shown.record.now.log) (second : r.second < length shown.record.now.log) where
  are_at : AreAt shown.record.now.log r (get_or log r.first d) (get_or log r.second e)
  are_at = record {
    first_is = stands log shown.record.now.log r.first d same first;
    second_is = stands log shown.record.now.log r.second e same second;
  }

  pub look_by : (text : List ℕ) → text ≡ look_text (get_or log r.first d) (get_or log r.second e) → IsLookText shown r text
  look_by text is = (get_or log r.first d, get_or log r.second e, are_at, is)

  pub order_by : (story : Story) (sites : List Site) (write : Option ℕ) (next text : List ℕ)
      → IsNextWrite log sites (get_or log r.first d).thread r.first write → IsNextText shown story r (get_or log r.second e).thread write next
      → text ≡ order_text (get_or log r.first d).thread (get_or log r.second e).thread next → IsOrderText shown story sites r text
  order_by story sites write next text is_write is_next is = record {
    first = get_or log r.first d;
    second = get_or log r.second e;
    at = are_at;
    write = write;
    write_is = subst (λ (l : List Entry). IsNextWrite l sites (get_or log r.first d).thread r.first write) same is_write;
    next = next;
    next_is = is_next;
    is = is;
  }

  pub starts_by : (story : Story) (one other text : List ℕ) → IsStartText shown story (get_or log r.first d).thread one
      → IsStartText shown story (get_or log r.second e).thread other → text ≡ one ++ other → AreStarts shown story r text
  starts_by story one other text is_one is_other is = record {
    first = get_or log r.first d;
    second = get_or log r.second e;
    at = are_at;
    one = one;
    one_is = is_one;
    other = other;
    other_is = is_other;
    is = is;
  }

  pub stacks_by : (story : Story) (stacks : StacksView) (one other text : List ℕ)
      → IsStackLine shown story stacks (get_or log r.first d).thread r.first one
      → IsStackLine shown story stacks (get_or log r.second e).thread r.second other → text ≡ one ++ other
      → AreStacks shown story stacks r text
  stacks_by story stacks one other text is_one is_other is = record {
    first = get_or log r.first d;
    second = get_or log r.second e;
    at = are_at;
    one = one;
    one_is = is_one;
    other = other;
    other_is = is_other;
    is = is;
  }

-- Of a next entry, by what it is called in the slice.
pub next_by : (shown : Shown) (story : Story) (r : Race) (second at : ℕ) (log : List Entry) (act spot text : List ℕ)
    → log ≡ shown.record.now.log → act ≡ act_at log at → IsSpot shown story at spot
    → text ≡ codes "'s next " ++ (act ++ (codes " is " ++ (spot ++ leads_text (nat_lt at r.second) second)))
    → IsNextText shown story r second (Some at) text
next_by shown story r second at log act spot text same act_is is_spot is = (
  spot,
  is_spot,
  is ∙ ap (λ (x : List ℕ). codes "'s next " ++ (x ++ (codes " is " ++ (spot ++ leads_text (nat_lt at r.second) second))))
      (act_is ∙ ap (λ (l : List Entry). act_at l at) same),
)

-- Of all races, by the slices that were gone through; and with what stands behind them.
pub told_each : (shown : Shown) (map : DataMap) (story : Story) (stacks : StacksView) (races : RecordRaces) (sites : List Site) (pairs : List Race) (n : ℕ)
    (a b : Option (List ℕ)) → sites ≡ races.sites.items → pairs ≡ races.pairs.items → length pairs ≤ n
    → AreWritten (SaysRace shown map story stacks sites) pairs n a b → WritesEach shown map story stacks races a b
told_each shown map story stacks races sites pairs n a b same alike all (texts, says, wrote) =
    subst (λ (ks : List Site). (ts : List (List ℕ)) × AllZip (SaysRace shown map story stacks ks) races.pairs.items ts × Appends a b (concat ts)) same
    (subst (λ (ps : List Race). (ts : List (List ℕ)) × AllZip (SaysRace shown map story stacks sites) ps ts × Appends a b (concat ts)) alike
    (texts, subst (λ (ps : List Race). AllZip (SaysRace shown map story stacks sites) ps texts) (take_all n pairs all) says, wrote))

pub told_before : (shown : Shown) (map : DataMap) (story : Story) (stacks : StacksView) (races : RecordRaces) (text : ℕ → List ℕ) (count : ℕ)
    (a b c d : Option (List ℕ)) → count ≡ length races.pairs.items → WritesEach shown map story stacks races a b → Appends b c (text count)
    → Keeps c d → WritesBefore (text (length races.pairs.items)) shown map story stacks races a d
told_before shown map story stacks races text count a b c d counted (texts, says, wrote) more kept =
    subst (λ (n : ℕ). WritesBefore (text n) shown map story stacks races a d) counted
    (texts, says, appends_keeps a c d (concat texts ++ text count) (appends_then a b c (concat texts) (text count) wrote more) kept)
