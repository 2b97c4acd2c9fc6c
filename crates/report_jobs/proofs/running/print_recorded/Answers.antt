use Rattle.std.proofs.Common.{◌≤◌, ℕ, sym, subst}
use Rattle.std.proofs.lemmas.Result.{err_from_is_err_and, IfOk-weaker}
use Rattle.types.specs.declared.limits.TheConstants.{MOST_FUEL}
use Rattle.report_jobs.specs.Prints.{written, PrintsAndKeeps, PrintsRun}
use Rattle.report_jobs.proofs.Calls.{of_recording}
use Rattle.report_jobs.proofs.Printed.{printed_recorded}
use Rattle.report_jobs.proofs.running.print_recorded.Goals as goal

pub record_request-requires-clause-fuel : goal.record_request-requires-clause-fuel
record_request-requires-clause-fuel g c κs within = subst (λ (fuel : ℕ). fuel ≤ MOST_FUEL) (sym c.requires.asked.fuel_is) c.requires.fuel

pub returns-in_err-record-clause-trouble : goal.returns-in_err-record-clause-trouble
returns-in_err-record-clause-trouble g c =
    let p = err_from_is_err_and c.from_residual.result c.from_residual.ensures.1 in
    let r = c.args.request.now in
    rw (p.1, p.2) (of_recording r.parts _ _ r c.args.job.now.limit c.in_err-record.field-0.0 c.in_err-record.ensures.fault)

pub returns-clause-made : goal.returns-clause-made
returns-clause-made g c =
    let r = c.args.request.now in
    let job = c.args.job.now in
    let w = written g.W.Write.contents g.E.Write.contents g.S.Write.contents c.args.streams.now c.print_and_keep-done.new.streams in
    let bytes = c.args.whence.bytes.now in
    let x = c.in_ok-record.record in
    let end = c.in_ok-record.end in
    IfOk-weaker c.print_and_keep-done.result (λ done. PrintsAndKeeps bytes job x end w done.status)
    (λ done. PrintsRun r.parts bytes job w done.status)
    (λ done made. printed_recorded r bytes job c.requires.asked w done.status end c.requires.memory x c.in_ok-record.ensures.record
    c.in_ok-record.ensures.run made) c.print_and_keep-done.ensures.made
