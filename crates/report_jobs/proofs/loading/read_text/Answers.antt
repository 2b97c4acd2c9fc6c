-- Where nothing was read for another cause than memory, the bytes spell no module.
use Rattle.std.proofs.Common.{sym, subst}
use Rattle.binary_wire.specs.Reading.{Refuses}
use Rattle.binary_wire.specs.declared.fault.ReadFault.{ReadFault}
use Rattle.report_jobs.proofs.loading.read_text.Goals as goal

pub returns-in-Err-Malformed-clause-err : goal.returns-in-Err-Malformed-clause-err
returns-in-Err-Malformed-clause-err c =
    let Other : ReadFault → Type 0 = λ e. Refuses e in
    λ parts text. c.in-Err-Malformed.ensures.only parts text (subst Other (sym c.in-Err-Malformed.field-0-is) tt)
