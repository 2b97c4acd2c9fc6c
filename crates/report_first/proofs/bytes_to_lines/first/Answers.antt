use Rattle.std.proofs.Common.{Ok, Err}
use Rattle.report_first.specs.declared.bytes_to_lines.FirstFault.TheVariants.{Memory, Writer}
use Rattle.report_first.proofs.Lines.{runs_by, here}
use Rattle.report_first.proofs.bytes_to_lines.first.Goals as goal

pub returns-in_default-run_first-clause-not_here : goal.returns-in_default-run_first-clause-not_here
returns-in_default-run_first-clause-not_here g c =
    here (Err Memory) c.args.bytes.now c.in-Some.address c.in-Some.addend c.in-Some.ensures (λ e. cc e)

pub returns-in-Ok-write_run-clause-runs : goal.returns-in-Ok-write_run-clause-runs
returns-in-Ok-write_run-clause-runs g c =
    runs_by c.in-Some.address c.in-Some.addend c.args.dump c.in-Ok.end c.in-Ok.ensures c.args.bytes.now
    (g.W.Write.contents c.args.out.now) (g.W.Write.contents c.write_run.new.out) c.in-Ok-write_run.status _ _ c.in-Some.ensures
    c.deref.ensures.value c.deref-2.ensures.value c.in-Ok-write_run.ensures.lines c.in-Ok-write_run.ensures.status

pub returns-in-Ok-write_run-clause-not_here : goal.returns-in-Ok-write_run-clause-not_here
returns-in-Ok-write_run-clause-not_here g c =
    here (Ok c.in-Ok-write_run.status) c.args.bytes.now c.in-Some.address c.in-Some.addend c.in-Some.ensures (λ e. cc e)

pub returns-clause-not_here : goal.returns-clause-not_here
returns-clause-not_here g c =
    here (Err Writer) c.args.bytes.now c.in-Some.address c.in-Some.addend c.in-Some.ensures (λ e. cc e)
