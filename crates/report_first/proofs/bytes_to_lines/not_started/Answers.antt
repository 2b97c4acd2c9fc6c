use Rattle.report_first.proofs.Faults.{none_started}
use Rattle.report_first.proofs.bytes_to_lines.not_started.Goals as goal

pub unreachable-requires : goal.unreachable-requires
unreachable-requires c = none_started c.args.address c.args.addend c.args.fault c.requires c.in-NoThread.is
