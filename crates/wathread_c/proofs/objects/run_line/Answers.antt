use Rattle.std.proofs.Common.{[], refl, ◌∙◌, ap}
use Rattle.search_endings.specs.Ends.{status_of}
use Rattle.wathread_c.proofs.objects.run_line.Goals as goal

pub returns : goal.returns
returns c = record {
  run = record {
    threads = record { ref_ptr = (0, 0); now = c.deref.result.now };
    places = record { ref_ptr = (0, 0); now = [] };
    pages = c.args.end.now.pages;
    dump = 0;
    bytes = record { ref_ptr = (0, 0); now = [] };
    said = record { ref_ptr = (0, 0); now = [] };
    hints = record { ref_ptr = (0, 0); now = [] };
  };
  threads = c.deref.ensures.value;
  places = refl;
  pages = refl;
  dump = refl;
  said = refl;
  hints = refl;
  status_is = c.in_ok-line.ensures.status ∙ ap status_of c.deref.ensures.value;
  line_is = c.in_ok-line.ensures.text;
}
