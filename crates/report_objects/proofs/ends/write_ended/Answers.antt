use Rattle.std.proofs.Common.{refl}
use Rattle.std.proofs.lemmas.Result.{on_ok_weaker}
use Rattle.report_objects.proofs.ends.write_ended.Goals as goal

pub returns : goal.returns
returns g c = on_ok_weaker c.write_end.result (λ wrote. record {
  end = record { threads = c.args.threads; cycles = c.args.cycles; memory = c.memory_of.result };
  threads_are = refl;
  cycles_are = refl;
  memory = c.memory_of.ensures;
  object = wrote;
}) c.write_end.ensures.object
