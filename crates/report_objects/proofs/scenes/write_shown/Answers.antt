use Rattle.std.proofs.Common.{refl}
use Rattle.std.proofs.lemmas.Result.{on_ok_weaker}
use Rattle.report_objects.proofs.scenes.write_shown.Goals as goal

pub returns : goal.returns
returns g c = on_ok_weaker c.write_moment.result (λ wrote. record {
  moment_is = record {
    line = c.line_of.result;
    threads = c.args.threads;
    races = c.args.races;
    asleep = c.asleep_in.result;
    memory = c.memory_of.result;
  };
  line = c.line_of.ensures;
  threads_are = refl;
  races_are = refl;
  asleep = c.asleep_in.ensures;
  memory = c.memory_of.ensures;
  writes = wrote;
}) c.write_moment.ensures.object
