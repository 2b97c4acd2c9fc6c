use Rattle.report_first.specs.First.{first_parts}
use Rattle.report_first.proofs.Text.{is_read}
use Rattle.report_first.proofs.bytes_to_lines.read_first.Goals as goal

pub unread-requires : goal.unread-requires
unread-requires c =
    c.in-Err.ensures.only (first_parts c.args.address c.args.addend) (is_read c.args.bytes.now c.args.address c.args.addend c.requires)

pub returns-in-Ok : goal.returns-in-Ok
returns-in-Ok c =
    c.in-Ok.ensures.only (first_parts c.args.address c.args.addend) (is_read c.args.bytes.now c.args.address c.args.addend c.requires)
