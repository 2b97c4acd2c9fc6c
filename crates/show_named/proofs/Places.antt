-- What is said of the last entry that does something.
use Rattle.std.proofs.Common.{◌≡◌, ◌<◌, ℕ, List, length, slice_get, Option, Some, None, IfSome, inl, inr, refl, subst}
use Rattle.std.proofs.lemmas.Option.{slice_get_within}
use Rattle.types.specs.declared.event.Entry.{Entry}
use Rattle.show_rows.specs.declared.listing.Shown.{Shown}
use Rattle.show_rows.specs.declared.listing.Story.{Story}
use Rattle.show_named.specs.declared.data_map.DataMap.{DataMap}
use Rattle.show_named.specs.declared.lasts.Act.{Act}
use Rattle.show_named.specs.Lasts.{HasNone, IsLast, IsLastIfAny}
use Rattle.show_named.specs.LastTexts.{SaysLast, SaysPlace}

-- What is found is that, if there is one.
pub last_if_any : (act : Act) (log : List Entry) (before : ℕ) (place : Option ℕ) → IfSome place (IsLast act log before)
    → (place ≡ None → HasNone act log before) → IsLastIfAny act log before place
last_if_any act log before None found none = none refl
last_if_any act log before (Some k) found none = found

-- It stands in the log.
pub last_within : (act : Act) (log : List Entry) (before k : ℕ) → IsLast act log before k → k < length log
last_within act log before k last = slice_get_within log k last.entry last.at

pub says_last : (shown : Shown) (map : DataMap) (story : Story) (before : ℕ) (act : Act) (none : List ℕ) (place : Option ℕ)
    (text : List ℕ) → IsLastIfAny act shown.record.now.log before place → SaysPlace shown map story none place text
    → SaysLast shown map story before act none text
says_last shown map story before act none None text last says = inr (last, says)
says_last shown map story before act none (Some k) text last says =
    inl (record { at = k; last = last; is = says (last_within act shown.record.now.log before k last) })

-- The same of what is found in the log.
pub says_found : (shown : Shown) (map : DataMap) (story : Story) (log : List Entry) (before : ℕ) (act : Act) (none : List ℕ)
    (place : Option ℕ) (text : List ℕ) → log ≡ shown.record.now.log → IsLastIfAny act log before place
    → SaysPlace shown map story none place text → SaysLast shown map story before act none text
says_found shown map story log before act none place text same last =
    says_last shown map story before act none place text (subst (λ (l : List Entry). IsLastIfAny act l before place) same last)
