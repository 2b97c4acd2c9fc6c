use Rattle.std.proofs.Common.{◌∙◌, ap}
use Rattle.show_moments.specs.Scenes.{seen}
use Rattle.show_moments.specs.Texts.{dump_text}
use Rattle.report_objects.proofs.ObjectParts.{lines_of}
use Rattle.report_objects.proofs.ends.write_lines.Goals as goal

pub returns : goal.returns
returns g c = lines_of (seen c.args.scene.now) c.args.ends.now _ _ _ _ _ _ _ c.in_ok-text.ensures c.in_ok-write.ensures.bytes
    c.in_ok-write_waits.ensures
    (c.in_ok-dump.ensures ∙ ap (dump_text c.args.scene.now.moment.now.wanted.addr) c.deref.ensures.value)
    c.in_ok-write-2.ensures.bytes c.in_ok-flush.ensures.bytes
