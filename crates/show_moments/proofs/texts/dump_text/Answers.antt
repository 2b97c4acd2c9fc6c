use Rattle.std.proofs.Common.{[], get_or, refl}
use Rattle.show_moments.specs.Texts.{byte_text}
use Rattle.show_moments.proofs.Listed.{numbered_next, dumped}
use Rattle.show_moments.proofs.texts.dump_text.Goals as goal

pub loop-place-preserved : goal.loop-place-preserved
loop-place-preserved c = numbered_next (byte_text c.args.addr) c.args.bytes.now c.loop-place.place 0
    (get_or c.args.bytes.now c.loop-place.place 0) [] _ _ c.loop-place-test.true refl c.loop-place.invariant
    c.in_ok-write.ensures.bytes

pub returns : goal.returns
returns c = dumped c.args.addr c.args.bytes.now c.loop-place.place _ _ c.is_empty.result c.is_empty.ensures c.if-is_empty.false
    c.loop-place-test.false
    c.loop-place.invariant c.in_ok-push_str.ensures.bytes
