use Rattle.std.proofs.Common.{◌≡◌, ◌≤◌, length, map, drop, replicate, Some, None, ◌+◌, sym, ◌∙◌, ap, subst, slice_get, arith}
use Rattle.std.specs.List.{fold}
use Rattle.std.proofs.lemmas.List.{take_at, drop_all, length-map}
use Rattle.types.specs.declared.parts.ElementSegment.{ElementSegment}
use Rattle.validate_typing.specs.Image.{offset_of}
use Rattle.interp_machine.specs.Program.{with_elements, size_of_table}
use Rattle.interp.proofs.Starting.{wrote}
use Rattle.interp.proofs.opening.opening_table.Goals as goal
use Rattle.interp.proofs.opening.opening_table.Goals.{in-Some, in-None}

pub loop-segment-preserved : goal.loop-segment-preserved
loop-segment-preserved c =
    let elements = c.args.parts.now.elements in
    let i = c.loop-segment.segment-index in
    let segment = c.segment-item.result in
    let back = take_at c.write_at.new.items _ c.loop-segment.places.len (c.write_at.auto.items ∙ c.deref_mut.ensures.len) in
    let written = wrote elements i segment c.deref_mut.result.now c.write_at.new.items c.offset-start.result c.as_slice-in-loop-segment-3.result.now
    (rw c.as_slice-segment-items.ensures at c.loop-segment-test.true)
    (rw c.as_slice-segment-items.ensures at c.segment-item.is)
    (c.offset-start.ensures ∙ ap offset_of c.as_slice-in-loop-segment-2.ensures)
    (c.as_slice-in-loop-segment-3.ensures.value ∙ (c.in_ok-functions.ensures ∙ ap (map Some) c.as_slice-in-loop-segment.ensures))
    c.write_at.ensures in
    record {
      whole = ap (λ x. fold with_elements x (drop (i + 1) elements)) back ∙ written
          ∙ ap (λ x. fold with_elements x (drop i elements)) c.deref_mut.ensures.value ∙ c.loop-segment.invariant.whole;
      long = ap length back ∙ c.write_at.auto.items ∙ ap length c.deref_mut.ensures.value ∙ c.loop-segment.invariant.long;
    }

pub returns : goal.returns
returns c =
    let elements = c.args.parts.now.elements in
    let places = c.loop-segment.places.items in
    let first = ap (λ x. slice_get x 0) c.as_slice.ensures in
    let size : c.match-first.size ≡ size_of_table (slice_get c.args.parts.now.tables 0) = elim c.match-first.branch [
      | in-Some w ↦ w.size-is ∙ ap size_of_table (w.in-Some.ensures.value ∙ first)
      | in-None w ↦ w.size-is ∙ ap size_of_table (w.in-None.ensures.value ∙ first)
    ] in
    let all = drop_all c.loop-segment.segment-index elements (rw c.as_slice-segment-items.ensures at c.loop-segment-test.false) in
    sym (ap (fold with_elements places) all) ∙ c.loop-segment.invariant.whole
    ∙ ap (λ n. fold with_elements (replicate n None) elements) size

pub write_at-requires : goal.write_at-requires
write_at-requires c =
    let tables = c.args.parts.now.tables in
    let segment = c.segment-item.result in
    let first = ap (λ x. slice_get x 0) c.as_slice.ensures in
    let size : c.match-first.size ≡ size_of_table (slice_get tables 0) = elim c.match-first.branch [
      | in-Some w ↦ w.size-is ∙ ap size_of_table (w.in-Some.ensures.value ∙ first)
      | in-None w ↦ w.size-is ∙ ap size_of_table (w.in-None.ensures.value ∙ first)
    ] in
    let fits : offset_of segment.offset + length segment.functions ≤ size_of_table (slice_get tables 0) =
    subst (λ (e : ElementSegment). offset_of e.offset + length e.functions ≤ size_of_table (slice_get tables 0))
    (sym (rw c.as_slice-segment-items.ensures at c.segment-item.is))
    (c.requires c.loop-segment.segment-index segment (rw c.as_slice-segment-items.ensures at c.loop-segment-test.true)) in
    let start = c.offset-start.ensures ∙ ap offset_of c.as_slice-in-loop-segment-2.ensures in
    let count = ap length (c.as_slice-in-loop-segment-3.ensures.value ∙ (c.in_ok-functions.ensures ∙ ap (map Some) c.as_slice-in-loop-segment.ensures))
    ∙ length-map segment.functions Some in
    let long = ap length c.deref_mut.ensures.value ∙ c.loop-segment.invariant.long in
    omega arith
