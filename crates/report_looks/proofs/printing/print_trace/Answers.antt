use Rattle.std.proofs.lemmas.Result.{on_ok_weaker}
use Rattle.report_looks.proofs.printing.print_trace.Goals as goal

pub returns : goal.returns
returns g c = on_ok_weaker c.write_trace.result (λ writes. (_, writes)) c.write_trace.ensures
