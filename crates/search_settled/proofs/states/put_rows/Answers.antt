use Rattle.std.proofs.Common.{arith, ap, ◌∙◌}
use Rattle.std.specs.Prelude.{Some}
use Rattle.search_table.specs.Tables.{states_of, with_row}
use Rattle.search_settled.proofs.Putting.{puts-none, puts-more}
use Rattle.search_settled.proofs.states.put_rows.Goals as goal

pub loop-one-init : goal.loop-one-init
loop-one-init g c = record {
  are = c.requires;
  puts = puts-none g.S.PartialEq.eq g.T.PartialEq.eq c.args.parts.now c.args.states.now c.args.at c.args.moves.now.items;
}

pub put-requires : goal.put-requires
put-requires g c = let so = c.loop-one.invariant in so.are

pub loop-one-preserved : goal.loop-one-preserved
loop-one-preserved g c =
    let u = c.loop-one.states in
    let v = c.put.new.self in
    let so = c.loop-one.invariant in
    let put = c.in_ok-place.ensures in
    let row = c.as_slice.ensures.value in
    record {
      are = put.are;
      puts = puts-more g.S.PartialEq.eq g.T.PartialEq.eq g.met.S.Eq.laws.refl g.met.T.Eq.laws.refl c.args.parts.now c.args.states.now u v
          c.in-Some.one (put.states ∙ ap (with_row (states_of u)) row) c.args.at
          c.loop-one.yielded c.args.moves.now.items c.loop-one.moves.items c.push.new.self.items c.in_ok-place.place c.min.result
          (put.place ∙ ap (λ l. Some l) row) c.in_ok-push.ensures.items (λ low. omega arith) so.puts;
    }
