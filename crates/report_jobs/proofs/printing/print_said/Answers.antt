use Rattle.std.proofs.Common.{List, sym, subst}
use Rattle.std.proofs.lemmas.Result.{IfOk-weaker}
use Rattle.show_said.specs.declared.said.Said.{Said}
use Rattle.report_jobs.specs.Prints.{changed, IsSaid, PrintsEnd, PrintsSaid}
use Rattle.report_jobs.proofs.printing.print_said.Goals as goal

pub returns-clause-prints : goal.returns-clause-prints
returns-clause-prints g c =
    let bytes = c.args.whence.bytes.now in
    let r = c.args.recorded.now in
    let end = c.args.end.now in
    let look = c.args.look in
    let out = changed g.W.Write.contents c.args.out.now c.print_end-done.new.out in
    let err = changed g.E.Write.contents c.args.err.now c.print_end-done.new.err in
    let all = c.deref.result.now in
    let said = subst (λ (x : List Said). IsSaid bytes r look.text x) (sym c.deref.ensures.value) c.in-Ok.ensures in
    IfOk-weaker c.print_end-done.result (λ done. PrintsEnd end look all out err done.status) (λ done. PrintsSaid bytes r end look out err done.status)
    (λ done printed. record { all = all; said_is = said; printed = printed }) c.print_end-done.ensures.prints
