use Rattle.std.proofs.Common.{sym, ◌∙◌}
use Rattle.replay_text.proofs.Names.{name_written}
use Rattle.replay_text.proofs.write.write_invoke.Goals as goal

pub returns : goal.returns
returns g c = name_written c.write_items.result (g.W.Write.contents c.args.writer.now)
    (g.W.Write.contents c.write_items.new.writer) c.args.name.now (sym c.is_empty.ensures ∙ c.if-is_empty.false)
    (rw c.as_bytes.ensures.value at c.write_items.ensures)
