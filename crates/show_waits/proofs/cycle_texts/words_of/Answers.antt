use Rattle.std.proofs.Common.{◌+◌, drop, string_bytes, codes}
use Rattle.std.proofs.lemmas.List.{drop_all, drop_more}
use Rattle.show_waits.specs.CycleTexts.{chain_text}
use Rattle.show_waits.proofs.Chained.{last_one, one_more}
use Rattle.show_waits.proofs.cycle_texts.words_of.Goals as goal

pub loop-next-preserved : goal.loop-next-preserved
loop-next-preserved c =
    let i = c.loop-next.next-index in
    let others = c.args.others.now in
    one_more (string_bytes c.loop-next.text) _ c.loop-next.at _ c.args.n (drop i others) (drop (i + 1) others)
    (chain_text c.args.n others c.args.n) (drop_more others i 0 c.loop-next-test.true) c.in_ok-text.ensures.ok c.loop-next.invariant

pub returns : goal.returns
returns c =
    let i = c.loop-next.next-index in
    let others = c.args.others.now in
    last_one (string_bytes c.loop-next.text) (chain_text c.args.n others c.args.n)
    (codes ": a cycle; where each stands, the next one was the last of the others to write\n") _ c.loop-next.at c.args.n (drop i others)
    (drop_all i others c.loop-next-test.false) c.in_ok-text-2.ensures.ok c.loop-next.invariant
