use Rattle.interp_state.specs.Words.{word_of, AreInRange}
use Rattle.std.proofs.lemmas.List.{take_all}
use Rattle.std.proofs.Common.{◌++◌, map, ◌∙◌, ap, subst, arith}
use Rattle.interp.proofs.Pushing.{word_more, in_range_more, word_room}
use Rattle.interp.proofs.opening.push_words.Goals as goal

pub loop-value-preserved : goal.loop-value-preserved
loop-value-preserved c = record {
  items = word_more c.args.words.now.items c.loop-value.words.items c.push_reserved.new.self.items c.args.values.now c.loop-value.value-index c.word.result _
      c.loop-value-test.true c.word.ensures.word c.loop-value.invariant.items c.push_reserved.ensures.items;
  in_range = in_range_more c.args.values.now c.loop-value.value-index _ c.loop-value-test.true c.word.ensures.in_range c.loop-value.invariant.in_range;
  capacity = c.push_reserved.ensures.capacity ∙ c.loop-value.invariant.capacity;
}

pub returns-clause-items : goal.returns-clause-items
returns-clause-items c = c.loop-value.invariant.items ∙ ap (λ x. c.args.words.now.items ++ map word_of x) (take_all _ c.args.values.now c.loop-value-test.false)

pub returns-clause-in_range : goal.returns-clause-in_range
returns-clause-in_range c = subst AreInRange (take_all _ c.args.values.now c.loop-value-test.false) c.loop-value.invariant.in_range

pub returns-clause-capacity : goal.returns-clause-capacity
returns-clause-capacity c = c.loop-value.invariant.capacity

pub push_reserved-requires : goal.push_reserved-requires
push_reserved-requires c =
    let first = c.args.words.now.ok.0 in
    let now = c.loop-value.words.ok.0 in
    let room = c.requires in
    let more = word_room c.args.words.now.items c.loop-value.words.items c.args.values.now c.loop-value.value-index _ _ c.loop-value-test.true
    c.loop-value.invariant.items c.loop-value.invariant.capacity (omega arith) in omega arith
