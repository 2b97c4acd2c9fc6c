use Rattle.replay_forms.proofs.Written.{appends_then}
use Rattle.report_telling.specs.Found.{run_lines, shrunk_text}
use Rattle.report_telling.proofs.lines.write_racy.Goals as goal

pub returns-in_ok-print-in-Ok-clause-tells : goal.returns-in_ok-print-in-Ok-clause-tells
returns-in_ok-print-in-Ok-clause-tells g c m racy =
    let contents = g.W.Write.contents in
    let kept = c.args.kept.now in
    let pair = c.in-Ok.ensures m racy in
    let before = contents c.args.out.now in
    let sized = contents c.write_shrunk.new.out in
    let paired = contents c.write.new.out in
    let after = contents c.print.new.out in
    record {
      pair = pair.0;
      says = pair.2;
      lines = appends_then before sized after (shrunk_text kept.shrunk) _ c.in_ok-write_shrunk.ensures
          (appends_then sized paired after pair.0 (run_lines c.args.dump kept.racy.made) pair.1 c.in_ok-print-in-Ok.ensures.prints.lines);
    }
