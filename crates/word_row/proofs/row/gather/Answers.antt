use Rattle.std.proofs.Common.{◌≡◌, List, [], ◌∷◌, ◌∙◌, sym, subst, length, arith}
use Rattle.std.specs.Prelude.{All}
use Rattle.std.specs.Vec.Iter.{into_iter_len}
use Rattle.std.proofs.lemmas.List.{map-id}
use Rattle.std.proofs.lemmas.Iterator.Adapters.{YieldsList-from_vec}
use Rattle.std.proofs.lemmas.Iterator.Consumers.{YieldsList-end}
use Rattle.std.proofs.lemmas.List.Elements.{All-append, All-nil, All-cons}
use Rattle.shared_memory_on_table.specs.declared.view.Caller.{Caller}
use Rattle.shared_memory_on_table.specs.Callers.{GoesOn, AllGoOn}
use Rattle.word_row.specs.declared.seat.WordSeat.{WordSeat}
use Rattle.word_row.proofs.row.gather.Goals as goal

pub loop-seat-preserved : goal.loop-seat-preserved
loop-seat-preserved g c = record {
  here = c.give_up.ensures.host.0;
  all = λ log a.
      let goes : WordSeat g.row.B.Denot g.B.Naming → Type 0 = λ s. GoesOn s.caller log in
      let b : AllGoOn (c.in-Some.seat.caller ∷ c.loop-seat.host.me.0.callers) log = subst (λ (l : List Caller). AllGoOn l log) c.give_up.ensures.host.1 a in
      All-append goes c.loop-seat.yielded (c.in-Some.seat ∷ []) (c.loop-seat.invariant.all log b.1) (All-cons goes c.in-Some.seat [] b.0 (All-nil goes));
}

pub returns-clause-all : goal.returns-clause-all
returns-clause-all g c =
    λ log a.
    let goes : WordSeat g.row.B.Denot g.B.Naming → Type 0 = λ s. GoesOn s.caller log in
    let gives = c.into_iter-seat-iterator.ensures.into_iter_gives in
    let len : into_iter_len c.into_iter-seat-iterator.result ≡ length c.args.seats.items = (let l = gives.1 in omega arith) in
    let from_vec = YieldsList-from_vec c.args.seats.items gives.0 len in
    let end = YieldsList-end from_vec c.loop-seat.yielded c.loop-seat.seat-iterator c.loop-seat.yielded_by c.next.result
    c.next.new.self c.in-None.is c.next.ensures.steps in
    let all : c.loop-seat.yielded ≡ c.args.seats.items = sym (map-id c.loop-seat.yielded) ∙ end.0 in
    subst (All goes) all (c.loop-seat.invariant.all log a)
