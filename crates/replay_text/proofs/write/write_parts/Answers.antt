use Rattle.replay_text.proofs.Written.{on_ok, parts_appends}
use Rattle.replay_text.proofs.write.write_parts.Goals as goal

pub returns : goal.returns
returns g c = on_ok c.write.result c.write.ensures.bytes
    (parts_appends c.args.parts.now _ _ _ _ _ c.in_ok-write_header.ensures
    (rw c.as_slice.ensures at c.in_ok-write_items.ensures)
    (rw c.as_slice-2.ensures at c.in_ok-write_items-2.ensures))
