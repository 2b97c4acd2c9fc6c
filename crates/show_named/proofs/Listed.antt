-- Rows of entries, one behind the other.
use Rattle.std.proofs.Common.{◌≡◌, ℕ, ◌+◌, ◌<◌, List, [], ◌∷◌, ◌++◌, length, take, Option, Some, None, sym, ap, subst, ◌∙◌, get_or}
use Rattle.std.proofs.lemmas.List.{take_more}
use Rattle.std.specs.Io.KnownBytes.{Appends, Keeps}
use Rattle.show_rows.specs.declared.listing.Shown.{Shown}
use Rattle.show_rows.specs.declared.listing.Story.{Story}
use Rattle.show_rows.proofs.Chosen.{keeps_same}
use Rattle.show_named.specs.declared.data_map.DataMap.{DataMap}
use Rattle.show_named.specs.Rows.{AddsEntry, AddsEntries}

pub keeps_then : (a b c : Option (List ℕ)) (x : List ℕ) → Keeps a b → Appends b c x → Appends a c x
keeps_then None b c x p q = tt
keeps_then (Some a) None c x p q = absurd p
keeps_then (Some a) (Some b) None x p q = absurd q
keeps_then (Some a) (Some b) (Some c) x p q = q ∙ ap (λ (z : List ℕ). z ++ x) p

pub keeps_keeps : (a b c : Option (List ℕ)) → Keeps a b → Keeps b c → Keeps a c
keeps_keeps None b c p q = tt
keeps_keeps (Some a) None c p q = absurd p
keeps_keeps (Some a) (Some b) None p q = absurd q
keeps_keeps (Some a) (Some b) (Some c) p q = q ∙ p

module _ (shown : Shown) (map : DataMap) (story : Story) where
  pub entry_behind : (at : ℕ) (a b c : Option (List ℕ)) → Keeps a b → AddsEntry shown map story at b c
      → AddsEntry shown map story at a c
  entry_behind at a b c k (colored, row, says, wrote) = (colored, row, says, (wrote.0, keeps_then a b c _ k wrote.1))

  one_more : (ats : List ℕ) (at : ℕ) (a b c : Option (List ℕ)) → AddsEntries shown map story ats a b
      → AddsEntry shown map story at b c → AddsEntries shown map story (ats ++ at ∷ []) a c
  one_more [] at a b c k entry = (c, entry_behind at a b c k entry, keeps_same c)
  one_more (x ∷ ats) at a b c (middle, first, rest) entry = (middle, first, one_more ats at middle b c rest entry)

  pub flushed : (ats : List ℕ) (a b c : Option (List ℕ)) → AddsEntries shown map story ats a b → Keeps b c
      → AddsEntries shown map story ats a c
  flushed [] a b c p k = keeps_keeps a b c p k
  flushed (x ∷ ats) a b c (middle, first, rest) k = (middle, first, flushed ats middle b c rest k)

  pub entries_next : (ats : List ℕ) (k z at : ℕ) → k < length ats → at ≡ get_or ats k z
      → (a b c : Option (List ℕ)) → AddsEntries shown map story (take k ats) a b → AddsEntry shown map story at b c
      → AddsEntries shown map story (take (k + 1) ats) a c
  entries_next ats k z at lt is a b c before entry =
      let e : take (k + 1) ats ≡ take k ats ++ at ∷ [] =
      take_more ats k z lt ∙ ap (λ (y : ℕ). take k ats ++ y ∷ []) (sym is) in
      subst (λ (xs : List ℕ). AddsEntries shown map story xs a c) (sym e) (one_more (take k ats) at a b c before entry)
