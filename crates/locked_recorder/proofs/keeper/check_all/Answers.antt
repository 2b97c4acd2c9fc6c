use Rattle.std.proofs.Common.{◌≡◌, List, [], ◌∷◌, ◌∙◌, sym, subst, length, arith}
use Rattle.std.specs.Prelude.{All}
use Rattle.std.specs.Vec.Iter.{into_iter_len}
use Rattle.std.proofs.lemmas.List.{map-id}
use Rattle.std.proofs.lemmas.Iterator.Adapters.{YieldsList-from_vec}
use Rattle.std.proofs.lemmas.Iterator.Consumers.{YieldsList-end}
use Rattle.std.proofs.lemmas.List.Elements.{All-append, All-nil, All-cons}
use Rattle.types.specs.declared.event.Entry.{Entry}
use Rattle.shared_memory_on_table.specs.declared.seat.CallerSeat.{CallerSeat}
use Rattle.locked_recorder.specs.Promises.{Begins}
use Rattle.locked_recorder.proofs.keeper.check_all.Goals as goal

pub loop-seat-preserved : goal.loop-seat-preserved
loop-seat-preserved g c =
    let i = c.loop-seat.invariant in
    let starts : CallerSeat g.row.B.Denot g.B.Naming → Type 0 = λ s. Begins s.caller c.args.keeper.now in
    record {
      begins = All-append starts c.loop-seat.yielded (c.in-Some.seat ∷ []) i.begins
          (All-cons starts c.in-Some.seat [] (subst (λ (l : List Entry). Begins c.in-Some.seat.caller l) i.same c.check.ensures.begins) (All-nil starts));
      same = c.check.ensures.same ∙ i.same;
    }

pub returns-clause-begins : goal.returns-clause-begins
returns-clause-begins g c =
    let starts : CallerSeat g.row.B.Denot g.B.Naming → Type 0 = λ s. Begins s.caller c.args.keeper.now in
    let gives = c.into_iter-seat-iterator.ensures.into_iter_gives in
    let len : into_iter_len c.into_iter-seat-iterator.result ≡ length c.args.seats.items = (let l = gives.1 in omega arith) in
    let from_vec = YieldsList-from_vec c.args.seats.items gives.0 len in
    let end = YieldsList-end from_vec c.loop-seat.yielded c.loop-seat.seat-iterator c.loop-seat.yielded_by c.next.result
    c.next.new.self c.in-None.is c.next.ensures.steps in
    let all : c.loop-seat.yielded ≡ c.args.seats.items = sym (map-id c.loop-seat.yielded) ∙ end.0 in
    subst (All starts) all c.loop-seat.invariant.begins
