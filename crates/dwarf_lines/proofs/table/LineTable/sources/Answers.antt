use Rattle.std.proofs.Common.{◌≡◌, ◌<◌, ◌⊎◌, inl, inr, List, sym, ◌∙◌, subst}
use Rattle.std.specs.Prelude.{All, Contains}
use Rattle.std.proofs.lemmas.List.{get_or-map, length-map}
use Rattle.dwarf_lines.specs.declared.header.Source.{Source}
use Rattle.dwarf_lines.specs.Lines.{source_of, IsSourceIn}
use Rattle.dwarf_lines.proofs.table.LineTable.sources.Goals as goal

one : (P : Source → Type 0) (old : List Source) (source s : Source) → All P old → P source → Contains old s ⊎ (s ≡ source) → P s
one P old source s all here (inl within) = subst P within.2 (all within.0 s within.1)
one P old source s all here (inr is) = subst P (sym is) here

pub loop-range-preserved : goal.loop-range-preserved
loop-range-preserved c =
    let ranges = c.args.self.now.ranges.items in
    let at = c.loop-range.range-index in
    let inside = rw c.deref-range-items.ensures.value at c.loop-range-test.true in
    let is = rw c.deref-range-items.ensures.value at c.source.ensures in
    let here : IsSourceIn ranges c.source.result = (
      at,
      subst (λ n. at < n) (sym (length-map ranges source_of)) inside,
      get_or-map source_of ranges at _ _ inside ∙ sym is,
    ) in (
      c.in_ok-add_source.ensures.few c.loop-range.invariant.0,
      λ k d within. one (IsSourceIn ranges) c.loop-range.sources.items c.source.result _ c.loop-range.invariant.1 here
          (c.in_ok-add_source.ensures.known k d within),
    )
