use Rattle.std.proofs.Common.{refl}
use Rattle.show_moments.specs.declared.scene.MomentView.{MomentView}
use Rattle.report_looks.proofs.RunMoments.{end_here, on_ok_both, scene_here}
use Rattle.report_looks.proofs.printing.print_moment.Goals as goal

pub returns-then-here : goal.returns-then-here
returns-then-here g c =
    let seen = c.args.seen in
    let view : MomentView = record { valid = seen.valid; shown = seen.shown; map = seen.map; is_raw = c.args.here.is_raw; left_out = seen.left_out } in
    on_ok_both c.write_end.result
    (end_here seen.valid.now.parts seen.shown seen.map.now seen.left_out.now c.args.here c.args.moment.now
    (g.W.Write.contents c.args.out.now) (g.W.Write.contents c.write_end.new.out) view
    (record { of_record = refl; of_module = refl; of_data = refl; left_out = refl; raw = refl }) c.if-here.true)
    c.write_end.ensures.says c.write_end.ensures.whole

pub returns : goal.returns
returns g c =
    let seen = c.args.seen in
    let view : MomentView = record { valid = seen.valid; shown = seen.shown; map = seen.map; is_raw = c.args.here.is_raw; left_out = seen.left_out } in
    on_ok_both c.print_scene.result
    (scene_here seen.valid.now.parts seen.shown seen.map.now seen.left_out.now c.args.here c.args.moment.now
    (g.W.Write.contents c.args.out.now) (g.W.Write.contents c.print_scene.new.out) view
    (record { of_record = refl; of_module = refl; of_data = refl; left_out = refl; raw = refl }) c.if-here.false)
    c.print_scene.ensures.says c.print_scene.ensures.whole
