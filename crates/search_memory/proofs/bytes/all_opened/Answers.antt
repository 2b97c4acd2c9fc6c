use Rattle.std.proofs.lemmas.List.{length-set}
use Rattle.std.proofs.Common.{◌∙◌, arith}
use Rattle.search_memory.proofs.Windows.{next_from}
use Rattle.search_memory.proofs.bytes.all_opened.Goals as goal

pub loop-i-preserved : goal.loop-i-preserved
loop-i-preserved c = record {
  long = length-set c.loop-i.bytes c.loop-i.i c.opened.result ∙ c.loop-i.invariant.long;
  are = next_from c.loop-i.bytes c.loop-i.i c.args.opening.now c.args.from c.opened.result
      (omega (arith, c.loop-i.invariant.long, c.loop-i-test.true, c.requires.narrow)) c.opened.ensures c.loop-i.invariant.are;
}
