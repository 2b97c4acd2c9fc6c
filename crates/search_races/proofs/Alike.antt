-- Rows at the same places are of the same instructions.
use Rattle.std.proofs.Common.{◌≡◌, ℕ, zero, suc, ◌<◌, ◌≤◌, List, ◌∷◌, [], ◌++◌, length, map, Option, Some}
use Rattle.std.proofs.Common.{option_and_then, option_map, slice_get, get_or, refl, sym, ap, ◌∙◌, arith, if◌then◌else◌}
use Rattle.std.proofs.Common.{Bool, false}
use Rattle.std.proofs.lemmas.Option.{slice_get-get_or, slice_get-map}
use Rattle.allowed_races.specs.declared.allowed.Allowed.{Allowed}
use Rattle.types.specs.declared.event.Entry.{Entry}
use Rattle.types.specs.declared.parts.Parts.{Parts}
use Rattle.interp.specs.declared.place.CodePlace.{CodePlace}
use Rattle.race_history.specs.declared.access.AccessKind.{AccessKind}
use Rattle.race_history.specs.declared.access.Site.{Site}
use Rattle.race_history.specs.declared.access.AccessKind.TheVariants.{Plain, Atomic}
use Rattle.show_rows.specs.declared.rows.Row.{Row}
use Rattle.show_rows.specs.Listing.{is_atomic_in, row_in}
use Rattle.show_rows.specs.Spots.{is_atomic}
use Rattle.show_races.specs.Sites.{bytes_at, code_in, code_of, kind_in, may_race, site_in, sites_in}
use Rattle.search_races.specs.Heard.{row_heard}
use Rattle.search_races.proofs.Stood.{Filled, RowHas}

module _ (allowed : Allowed) (m : Parts) (log : List Entry) (rows : Filled) (places : List CodePlace) (has : (j : ℕ) (z : CodePlace) → slice_get places j ≡ Some z → RowHas rows j z) where
  row_is : (j : ℕ) (z : CodePlace) → slice_get places j ≡ Some z → row_in (map row_heard places) j ≡ row_heard z
  row_is j z at = ap (λ (o : Option (Option Row)). option_and_then (λ x. x) o)
      (slice_get-map row_heard places j ∙ ap (λ (o : Option CodePlace). option_map row_heard o) at)

  kind_same : (j : ℕ) → j < length places → kind_in m rows j ≡ kind_in m (map row_heard places) j
  kind_same j lt =
      let z : CodePlace = get_or places j (record { function = 0; instr = 0 }) in
      let at = slice_get-get_or places j (record { function = 0; instr = 0 }) lt in
      let h = has j z at in
      let atomic : is_atomic_in m (row_in rows j) ≡ is_atomic_in m (row_in (map row_heard places) j) =
      ap (λ (o : Option Row). is_atomic_in m o) h.1
      ∙ (ap (λ (x : CodePlace). is_atomic m x) h.2 ∙ sym (ap (λ (o : Option Row). is_atomic_in m o) (row_is j z at))) in
      ap (λ (b : Bool). if b then Atomic else Plain) atomic

  code_same : (j : ℕ) → j < length places → code_in rows j ≡ code_in (map row_heard places) j
  code_same j lt =
      let z : CodePlace = get_or places j (record { function = 0; instr = 0 }) in
      let at = slice_get-get_or places j (record { function = 0; instr = 0 }) lt in
      let h = has j z at in
      ap (λ (o : Option Row). code_of (option_map (λ row. row.place) o)) h.1
      ∙ (ap (λ (x : CodePlace). code_of (Some x)) h.2
      ∙ sym (ap (λ (o : Option Row). code_of (option_map (λ row. row.place) o)) (row_is j z at)))

  abbrev with_allowed : ℕ → AccessKind → ℕ → Site
  with_allowed j k n = record {
    kind = k;
    code = n;
    is_allowed = may_race allowed (bytes_at log (record { kind = k; code = n; is_allowed = false }) j);
  }

  site_same : (j : ℕ) → j < length places → site_in allowed m rows log j ≡ site_in allowed m (map row_heard places) log j
  site_same j lt =
      ap (λ (k : AccessKind). with_allowed j k (code_in rows j)) (kind_same j lt)
      ∙ ap (λ (n : ℕ). with_allowed j (kind_in m (map row_heard places) j) n) (code_same j lt)

  pub sites_same : (n : ℕ) → n ≤ length places → sites_in allowed m rows log n ≡ sites_in allowed m (map row_heard places) log n
  sites_same zero few = refl
  sites_same (suc n) few =
      ap (λ (l : List Site). l ++ site_in allowed m rows log n ∷ []) (sites_same n (omega (arith, few)))
      ∙ ap (λ (x : Site). sites_in allowed m (map row_heard places) log n ++ x ∷ []) (site_same n (omega (arith, few)))
