use Rattle.std.proofs.Common.{sym, ◌∙◌, arith}
use Rattle.report_telling.proofs.Counted.{one_more_cut}
use Rattle.report_telling.proofs.table.cut_of.Goals as goal

pub overflow_add-cut : goal.overflow_add-cut
overflow_add-cut c =
    let less = one_more_cut c.args.table.now.met.items c.deref-met-items.result.now c.loop-met.met-index c.met-item.result
    (sym c.deref-met-items.ensures.value) c.loop-met-test.true c.met-item.is (sym c.is_cut.ensures ∙ c.if-is_cut.true) in
    omega (arith, less, c.loop-met.invariant, c.requires)
