use Rattle.report_first.proofs.Faults.{none_called}
use Rattle.report_first.proofs.bytes_to_lines.not_begun.Goals as goal

pub unreachable-requires : goal.unreachable-requires
unreachable-requires c = none_called c.args.address c.args.addend c.args.fault _ c.requires c.in-Call.is
