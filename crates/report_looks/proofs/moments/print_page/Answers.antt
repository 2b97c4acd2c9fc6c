use Rattle.std.proofs.Common.{List, false, refl, subst, sym}
use Rattle.std.proofs.lemmas.Result.{on_ok_weaker}
use Rattle.show_events.specs.declared.run.MomentText.{MomentText}
use Rattle.show_moments.specs.declared.scene.MomentView.{MomentView}
use Rattle.report_looks.specs.PageMoments.{AreMomentsOf}
use Rattle.report_looks.proofs.moments.print_page.Goals as goal

pub returns : goal.returns
returns g c =
    let seen = c.args.seen in
    let view : MomentView = record {
      valid = seen.valid;
      shown = seen.shown;
      map = seen.map;
      is_raw = false;
      left_out = seen.left_out;
    } in
    let raced = c.as_slice-raced.result.now in
    on_ok_weaker c.write_page.result (λ writes. (
      raced,
      c.as_slice.result.now,
      record {
        seen = view;
        view = record {
          of_record = refl;
          of_module = sym c.requires.of_module;
          of_data = refl;
          left_out = c.requires.left_out;
          raw = refl;
        };
        each = subst (λ (ms : List MomentText). AreMomentsOf view c.args.look.now raced ms) (sym c.as_slice.ensures.value)
            c.in_ok-moments.ensures;
      },
      writes,
    )) c.write_page.ensures.which
