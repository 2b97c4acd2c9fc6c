use Rattle.std.proofs.Common.{◌+◌, List, sym, subst, take}
use Rattle.std.specs.List.{AllZip}
use Rattle.selection.specs.declared.choice.NumberSpan.{NumberSpan}
use Rattle.report_looks.specs.Addresses.{AreAddresses}
use Rattle.show_rows.proofs.Zipped.{zipped_more}
use Rattle.report_looks.proofs.wanted.spans_of.Goals as goal

pub loop-k-preserved : goal.loop-k-preserved
loop-k-preserved c =
    let are = AreAddresses c.args.map.now in
    subst (λ (spans : List NumberSpan). AllZip are (take (c.loop-k.k + 1) c.args.all.now) spans) (sym c.in-Ok-put.ensures)
    (zipped_more are c.args.all.now c.loop-k.spans.items c.loop-k.k _ c.in-Ok.span c.loop-k-test.true c.loop-k.invariant
    c.in-Ok.ensures.addresses)
