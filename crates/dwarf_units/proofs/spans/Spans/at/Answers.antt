use Rattle.std.proofs.Common.{List, sym, subst, arith}
use Rattle.dwarf_units.specs.declared.spans.Spanned.{Spanned}
use Rattle.dwarf_units.specs.Spans.{AreInOrder}
use Rattle.dwarf_units.proofs.Search.{ended_before, not_ended_behind, one_has, all_ended, none_has}
use Rattle.dwarf_units.proofs.spans.Spans.at.Goals as goal
use Rattle.dwarf_units.proofs.spans.Spans.at.Goals.{else-low-items-via-then-low-items+else-items-low, else-low-items-via-else-low-items}

pub loop-low-preserved-then-items-middle : goal.loop-low-preserved-then-items-middle
loop-low-preserved-then-items-middle c =
    let order : AreInOrder c.as_slice-items.result.now = subst (λ (v : List Spanned). AreInOrder v) (sym c.as_slice-items.ensures.value)
    c.args.self.now.in_order in
    record {
      low_high = omega arith;
      high_end = omega arith;
      before = λ k d h. ended_before c.as_slice-items.result.now _ c.args.place _ order (omega arith) c.if-items-middle.true k d h;
      behind = c.loop-low.invariant.behind;
    }

pub loop-low-preserved : goal.loop-low-preserved
loop-low-preserved c =
    let order : AreInOrder c.as_slice-items.result.now = subst (λ (v : List Spanned). AreInOrder v) (sym c.as_slice-items.ensures.value)
    c.args.self.now.in_order in
    record {
      low_high = omega arith;
      high_end = omega arith;
      before = c.loop-low.invariant.before;
      behind = λ k d h len. not_ended_behind c.as_slice-items.result.now _ c.args.place _ order (omega arith) c.if-items-middle.false k d h len;
    }

pub returns-then-items-low : goal.returns-then-items-low
returns-then-items-low c =
    rw (← c.as_slice-items.ensures.value)
    (sym (one_has c.as_slice-items.result.now c.args.place c.loop-low.low _ c.if-low-items.true c.loop-low.invariant.before
    (c.loop-low.invariant.behind c.loop-low.low _ c.loop-low-test.false c.if-low-items.true) c.if-items-low.true))

pub returns : goal.returns
returns c =
    let order : AreInOrder c.as_slice-items.result.now = subst (λ (v : List Spanned). AreInOrder v) (sym c.as_slice-items.ensures.value)
    c.args.self.now.in_order in
    let none : Spanned = record { start = 0; end = 0; entry = 0 } in
    rw (← c.as_slice-items.ensures.value)
    (elim c.else-low-items.branch [
      | else-low-items-via-then-low-items+else-items-low w ↦
          sym (none_has c.as_slice-items.result.now c.args.place c.loop-low.low none order w.if-low-items.true c.loop-low.invariant.before w.if-items-low.false)
      | else-low-items-via-else-low-items w ↦
          sym (all_ended c.as_slice-items.result.now c.args.place c.loop-low.low none w.if-low-items.false c.loop-low.invariant.before)
    ])
