use Rattle.std.proofs.Common.{List, refl, sym, subst}
use Rattle.std.specs.List.{AllZip}
use Rattle.search_finds.specs.declared.met.Met.{Met}
use Rattle.report_json.specs.declared.drawn.MetEnding.{MetEnding}
use Rattle.report_telling.specs.SearchObjects.{IsMetOf}
use Rattle.report_telling.proofs.objects.write_drawn_runs.Goals as goal

pub returns-in-Ok-clause-written : goal.returns-in-Ok-clause-written
returns-in-Ok-clause-written g c =
    let s = c.args.drawn.sought.now in
    record {
      drawn = record {
        status = c.args.said.status;
        runs = record { made = c.args.drawn.table.now.runs; asked = s.runs; cut = c.cut_of.result; limit = s.limit };
        met = record { ref_ptr = (0, 0); now = c.as_slice-2.result.now };
        races = c.args.said.races;
        halt = c.args.said.halt;
      };
      met = subst (λ (all : List MetEnding). AllZip (IsMetOf s) c.args.drawn.table.now.met.items all) (sym c.as_slice-2.ensures.value)
          (subst (λ (rows : List Met). AllZip (IsMetOf s) rows c.in_ok-met.met.items) c.as_slice.ensures.value c.in_ok-met.ensures);
      runs = record { made = refl; asked = refl; cut = c.cut_of.ensures; limit = refl };
      status_is = refl;
      races_are = refl;
      halt_is = refl;
      object = c.in-Ok.ensures.object;
    }
