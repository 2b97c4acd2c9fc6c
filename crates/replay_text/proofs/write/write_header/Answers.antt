use Rattle.replay_text.proofs.Written.{on_ok, header_appends}
use Rattle.replay_text.proofs.write.write_header.Goals as goal

pub returns : goal.returns
returns g c = on_ok c.write.result c.write.ensures.bytes
    (header_appends c.args.parts.now _ _ _ _ _ _ _ c.in_ok-write_scale.ensures c.in_ok-write_all.ensures.bytes
    (rw c.as_str.ensures at c.in_ok-write_invoke.ensures) c.in_ok-write_all-2.ensures.bytes
    (rw c.as_slice.ensures at c.in_ok-write_items.ensures))
