use Rattle.std.proofs.Common.{◌++◌}
use Rattle.std.proofs.lemmas.Result.{on_ok_weaker}
use Rattle.std.specs.Prelude.{codes}
use Rattle.replay_forms.proofs.Written.{appends_then}
use Rattle.report_lines.specs.Found.{entries_text}
use Rattle.report_telling.proofs.complete.write_entries.Goals as goal

pub returns : goal.returns
returns g c =
    let contents = g.W.Write.contents in
    let front = codes "every run of up to " in
    let behind = codes " was gone through\n" in
    on_ok_weaker c.write-2.result (λ last. appends_then (contents c.args.out.now) (contents c.write.new.self) (contents c.write-2.new.self)
    front (entries_text c.args.entries ++ behind) c.in_ok-write.ensures.bytes
    (appends_then (contents c.write.new.self) (contents c.write_counted.new.out) (contents c.write-2.new.self)
    (entries_text c.args.entries) behind c.in_ok-write_counted.ensures last)) c.write-2.ensures.bytes
