use Rattle.show_race_words.proofs.Stacking.{block_line_by}
use Rattle.show_race_words.proofs.blocks.block_line.Goals as goal

pub returns : goal.returns
returns c = block_line_by c.args.shown c.args.stacks c.args.block c.as_slice.result.now _ c.own_place_at.result
    c.line_of-line.result _ _ c.as_slice.ensures c.requires c.own_place_at.ensures c.line_of-line.ensures
    c.in_ok-stack.ensures c.in_ok-text.ensures.ok
