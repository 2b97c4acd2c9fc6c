use Rattle.std.proofs.Common.{◌≡◌, [], ◌∷◌, ◌++◌, ap, arith, length, subst, sym, ◌∙◌}
use Rattle.std.specs.Vec.Iter.{into_iter_len}
use Rattle.std.proofs.lemmas.List.{map-id}
use Rattle.std.proofs.lemmas.Iterator.Adapters.{YieldsList-from_vec}
use Rattle.std.proofs.lemmas.Iterator.Consumers.{YieldsList-end}
use Rattle.search_settled.proofs.Rows.{grows-self, grows-then}
use Rattle.search_settled.proofs.Nexting.{RowSoFar, row-first, row-more, row-done}
use Rattle.search_settled.proofs.next.row_of.Goals as goal

pub loop-thread-init : goal.loop-thread-init
loop-thread-init g c =
    let u = c.put_shared.new.self in
    record {
      grows = c.in_ok-first.ensures.grows;
      later = grows-self u;
      row = row-first g.T.PartialEq.eq u c.in_ok-first.first c.push.new.self.items
          (c.in_ok-push.ensures.items ∙ ap (λ l. l ++ c.in_ok-first.first ∷ []) c.in_ok-row.ensures.items);
    }

pub loop-thread-preserved : goal.loop-thread-preserved
loop-thread-preserved g c =
    let so = c.loop-thread.invariant in
    let t = c.loop-thread.parts in
    let u = c.put_thread.new.self in
    let one = c.in_ok-number.ensures in
    record {
      grows = grows-then c.args.parts.now t u so.grows one.grows;
      later = grows-then c.put_shared.new.self t u so.later one.grows;
      row = row-more g.T.PartialEq.eq t u one.grows c.in_ok-first.first c.loop-thread.yielded c.loop-thread.row.items c.push-in-loop-thread.new.self.items
          c.in-Some.thread c.in_ok-number.number so.row one.number c.in_ok-push-2.ensures.items;
    }

pub returns-clause-row : goal.returns-clause-row
returns-clause-row g c =
    let so = c.loop-thread.invariant in
    let gives = c.into_iter-thread-iterator.ensures.into_iter_gives in
    let len : into_iter_len c.into_iter-thread-iterator.result ≡ length c.args.flat.threads.items = (let l = gives.1 in omega arith) in
    let from_vec = YieldsList-from_vec c.args.flat.threads.items gives.0 len in
    let end = YieldsList-end from_vec c.loop-thread.yielded c.loop-thread.thread-iterator c.loop-thread.yielded_by c.next.result
    c.next.new.self c.in-None.is c.next.ensures.steps in
    let all : c.loop-thread.yielded ≡ c.args.flat.threads.items = sym (map-id c.loop-thread.yielded) ∙ end.0 in
    row-done g.S.PartialEq.eq g.T.PartialEq.eq c.put_shared.new.self c.loop-thread.parts so.later c.args.flat c.in_ok-first.first
    c.in_ok-first.ensures.number c.loop-thread.row.items
    (subst (λ l. RowSoFar g.T.PartialEq.eq c.loop-thread.parts c.in_ok-first.first l c.loop-thread.row.items) all so.row)
