use Rattle.std.specs.Prelude.{codes}
use Rattle.replay_forms.proofs.Written.{appends_then}
use Rattle.report_lines.specs.Found.{entries_text}
use Rattle.report_lines.proofs.found.write_after.Goals as goal

pub returns : goal.returns
returns g c =
    let contents = g.W.Write.contents in
    appends_then (contents c.args.out.now) (contents c.write.new.self) (contents c.write_entries_count.new.out)
    (codes "found: after ") (entries_text c.args.entries) c.in_ok-write.ensures.bytes c.in_ok-write_entries_count.ensures
