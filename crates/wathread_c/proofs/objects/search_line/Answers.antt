use Rattle.std.proofs.Common.{None, refl}
use Rattle.wathread_c.proofs.objects.search_line.Goals as goal

pub returns : goal.returns
returns c = record {
  complete = record {
    status = c.status_of-status.result;
    most = c.args.most;
    all = record { ref_ptr = (0, 0); now = c.args.all.now };
    races = None;
    found = None;
  };
  all_is = refl;
  most_is = refl;
  races = refl;
  found = refl;
  status_said = refl;
  few = c.status_of-status.ensures.few;
  well = c.status_of-status.ensures.well;
  line_is = c.in_ok-text.ensures;
}
