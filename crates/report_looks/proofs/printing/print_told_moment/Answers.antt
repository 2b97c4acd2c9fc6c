use Rattle.std.proofs.Common.{subst, sym}
use Rattle.std.proofs.lemmas.Result.{on_ok_weaker}
use Rattle.types.specs.declared.parts.Parts.{Parts}
use Rattle.report_looks.specs.RunMoments.{WritesHere}
use Rattle.report_looks.proofs.RunMoments.{moment_in}
use Rattle.report_looks.proofs.printing.print_told_moment.Goals as goal

pub returns : goal.returns
returns g c =
    let seen = c.args.seen in
    let writes = c.in_ok-print_moment.ensures in
    on_ok_weaker c.write_before.result (λ told. (
      c.in_ok-moment.moment,
      moment_in seen.valid.now.parts seen.shown.code.now.parts.now _ _ _ _ _ (sym c.requires.of_module) c.requires.of_record
          (c.in_ok-moment.ensures writes.whole),
      g.W.Write.contents c.print_moment.new.out,
      subst (λ (p : Parts). WritesHere p seen.shown seen.map.now seen.left_out.now c.args.here c.in_ok-moment.moment
          (g.W.Write.contents c.args.out.now) (g.W.Write.contents c.print_moment.new.out)) (sym c.requires.of_module) writes,
      told,
    )) c.write_before.ensures
