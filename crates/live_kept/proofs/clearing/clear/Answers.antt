use Rattle.std.proofs.Common.{◌+◌, subst, sym, arith, slice_set}
use Rattle.live_kept.proofs.Words.{AreClearedBelow, cleared_more, cleared_whole}
use Rattle.live_kept.proofs.clearing.clear.Goals as goal

pub loop-local-preserved : goal.loop-local-preserved
loop-local-preserved c =
    subst (λ word. AreClearedBelow (c.loop-local.local + 1) c.args.row.now c.args.words.now (slice_set c.loop-local.words c.loop-local.local word))
    (sym c.word_by.ensures) (cleared_more c.loop-local.local c.args.row.now c.args.words.now c.loop-local.words (omega arith) c.loop-local.invariant)

pub returns : goal.returns
returns c = cleared_whole c.loop-local.local c.args.row.now c.args.words.now c.loop-local.words (let done = c.loop-local-test.false in omega arith) c.loop-local.invariant
