use Rattle.std.proofs.Common.{refl}
use Rattle.report_telling.proofs.objects.write_told.Goals as goal

pub returns-in-Ok-clause-written : goal.returns-in-Ok-clause-written
returns-in-Ok-clause-written g c = record {
  complete = record {
    status = c.args.told.status;
    most = c.args.told.most;
    all = record { ref_ptr = (0, 0); now = c.args.told.whole.now.all };
    races = c.args.races;
    found = c.found_in.result;
  };
  status_is = refl;
  most_is = refl;
  all_is = refl;
  races_are = refl;
  found_is = c.found_in.ensures;
  object = c.in-Ok.ensures.object;
}
