use Rattle.std.proofs.Common.{[]}
use Rattle.std.proofs.lemmas.Result.{err_from_is_err_and, IfOk-weaker}
use Rattle.report_jobs.specs.Prints.{written, PrintsAll, PrintsRun}
use Rattle.report_jobs.proofs.Calls.{of_words}
use Rattle.report_jobs.proofs.Printed.{printed_on_words}
use Rattle.report_jobs.proofs.running.print_on_words.Goals as goal

pub returns-in_err-end-clause-trouble : goal.returns-in_err-end-clause-trouble
returns-in_err-end-clause-trouble g c =
    let p = err_from_is_err_and c.from_residual.result c.from_residual.ensures.1 in
    let r = c.args.request.now in
    rw (p.1, p.2) (of_words r.parts _ _ r c.in_err-end.field-0.0 c.in_err-end.ensures.fault)

pub returns-clause-made : goal.returns-clause-made
returns-clause-made g c =
    let r = c.args.request.now in
    let job = c.args.job.now in
    let bytes = c.args.whence.bytes.now in
    let end = c.in_ok-end.end in
    let w = written g.W.Write.contents g.E.Write.contents g.S.Write.contents c.args.streams.now c.print_and_write-done.new.streams in
    IfOk-weaker c.print_and_write-done.result (λ done. PrintsAll job end [] w.out w.err w.memory done.status)
    (λ done. PrintsRun r.parts bytes job w done.status)
    (λ done all. printed_on_words r bytes job c.requires.asked w done.status end c.requires.memory c.in_ok-end.ensures.end all)
    c.print_and_write-done.ensures.made
