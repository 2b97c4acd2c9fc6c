use Rattle.std.proofs.Common.{[], subst}
use Rattle.std.specs.Prelude.{codes}
use Rattle.report_runs.specs.RunFaults.{IsRecordingFault}
use Rattle.report_first.specs.declared.bytes_to_lines.TheConstants.{LIMIT}
use Rattle.report_first.proofs.Lines.{end_by}
use Rattle.report_first.proofs.bytes_to_lines.run_valid.Goals as goal

pub returns-in-Ok : goal.returns-in-Ok
returns-in-Ok g c =
    end_by c.args.address c.args.addend c.args.valid.now.parts c.in-Ok.field-0-0.log c.in-Ok.end c.requires.parts
    c.requires.address_below c.requires.addend_below c.in-Ok.ensures.record.ends_run

pub not_run-requires : goal.not_run-requires
not_run-requires g c =
    subst (λ m. IsRecordingFault m (codes "f") [] LIMIT c.in-Err.fault) c.requires.parts c.in-Err.ensures.fault
