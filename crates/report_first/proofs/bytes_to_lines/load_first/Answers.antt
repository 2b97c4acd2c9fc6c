use Rattle.std.proofs.Common.{sym, subst}
use Rattle.validate_typing.specs.Validity.{IsValid}
use Rattle.report_first.proofs.Valid.{is_valid}
use Rattle.report_first.proofs.bytes_to_lines.load_first.Goals as goal

pub invalid-requires : goal.invalid-requires
invalid-requires c =
    c.in-Err.ensures.complete (subst IsValid (sym c.in_ok-module.ensures) (is_valid c.args.address c.args.addend))
