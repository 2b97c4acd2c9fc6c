use Rattle.std.proofs.Common.{◌++◌, ◌∷◌, [], sym, ◌∙◌, ap, arith}
use Rattle.report_runs.proofs.Fronts.{front_more}
use Rattle.report_runs.proofs.words.copy_bytes.Goals as goal

pub loop-at-preserved : goal.loop-at-preserved
loop-at-preserved c = record {
  items = c.push_reserved.ensures.items ∙ ap (λ l. l ++ c.in-Some.byte ∷ []) c.loop-at.invariant.items
      ∙ sym (front_more c.args.closed.now.bytes c.loop-at.at c.in-Some.byte (sym c.byte.ensures ∙ c.in-Some.is));
  room = let k = c.push_reserved.ensures.capacity in let i = c.loop-at.invariant.room in omega arith;
}
