use Rattle.std.proofs.Common.{refl, []}
use Rattle.wathread_c.proofs.objects.refusal_line.Goals as goal

pub returns : goal.returns
returns c = record {
  refusal = record { refused = c.args.refused; hints = record { ref_ptr = (0, 0); now = [] } };
  is = c.requires;
  hints = refl;
  status_is = c.status-status.ensures;
  line_is = c.in_ok-text.ensures;
}
