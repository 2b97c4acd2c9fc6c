use Rattle.std.proofs.Common.{◌++◌, ◌∷◌, [], arith, sym, subst}
use Rattle.search_reach.specs.Explored.{Gains}
use Rattle.search_reach.proofs.Searching.{gains-more, inserted-noted}
use Rattle.search_reach.proofs.plain.add_all.Goals as goal

pub loop-next-preserved : goal.loop-next-preserved
loop-next-preserved g c = record {
  gains = subst (λ l. Gains c.args.met.now.keys (c.loop-next.yielded ++ c.in-Some.next ∷ []) l) (sym c.in_ok-index.ensures.keys)
      (gains-more g.S.PartialEq.eq c.args.met.now.keys c.loop-next.met.keys c.loop-next.yielded c.in-Some.next c.loop-next.invariant.gains);
  notes = λ few. inserted-noted g.S.PartialEq.eq c.loop-next.met.keys c.insert_full.new.self.keys c.args.at c.loop-next.yielded c.in-Some.next
      c.args.moves.now.items c.loop-next.moves.items c.push.new.self.items c.in_ok-index.index c.min.result c.in_ok-push.ensures.items
      c.in_ok-index.ensures.keys
      c.in_ok-index.ensures.stored c.loop-next.invariant.notes few (λ less within. omega arith);
}
