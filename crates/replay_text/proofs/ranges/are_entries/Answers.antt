use Rattle.std.proofs.Common.{IsTrue, sym, refl, rules}
use Rattle.std.proofs.lemmas.List.{take_all}
use Rattle.std.proofs.lemmas.List.Elements.{All-more, All-same}
use Rattle.replay_text.specs.Conditions.{IsEntry}
use Rattle.replay_text.proofs.ranges.are_entries.Goals as goal

pub loop-entry-preserved : goal.loop-entry-preserved
loop-entry-preserved c =
    let holds : IsTrue c.is_entry.result = search rules in
    All-more (IsEntry c.args.threads) c.args.log.now c.loop-entry.entry-index _ c.loop-entry-test.true c.loop-entry.invariant (c.is_entry.ensures.0 holds)

pub returns : goal.returns
returns c = (
  λ t. All-same (IsEntry c.args.threads) c.args.log.now _
      (sym (take_all c.loop-entry.entry-index c.args.log.now c.loop-entry-test.false)) c.loop-entry.invariant,
  λ h. refl,
)
