use Rattle.std.proofs.Common.{◌≡◌, ◌∙◌, ℕ, zero, suc, ◌+◌, refl, sym, ap, List, [], ◌∷◌, ◌++◌, length, map, arith}
use Rattle.std.specs.Vec.Iter.{into_iter_len}
use Rattle.std.proofs.lemmas.List.{map-id, map-append, length-map}
use Rattle.std.proofs.lemmas.Iterator.Adapters.{YieldsList-from_vec}
use Rattle.std.proofs.lemmas.Iterator.Consumers.{YieldsList-turn, YieldsList-end}
use Rattle.types.specs.declared.limits.TheConstants.{SEATS}
use Rattle.shared_memory_on_table.specs.declared.view.Caller.{Caller}
use Rattle.shared_memory_on_table.specs.Callers.{fresh_from}
use Rattle.shared_memory_on_table.specs.declared.seat.StandingCaller.{StandingCaller}
use Rattle.shared_memory_on_table.specs.declared.seat.CallerSeat.{CallerSeat}
use Rattle.word_row.specs.declared.seat.WordSeat.{WordSeat}
use Rattle.word_row.proofs.seat.take_seats.Goals as goal

-- so many callers
length_fresh : (count n : ℕ) → length (fresh_from count n) ≡ count
length_fresh zero n = refl
length_fresh (suc count) n = ap suc (length_fresh count (n + 1))

all_seats : {S : Type 0} (f : S → Caller) (xs : List S) → map f xs ≡ fresh_from SEATS 0 → length xs ≡ SEATS
all_seats {S} f xs e = sym (length-map xs f) ∙ ap (λ (l : List Caller). length l) e ∙ length_fresh SEATS 0

same_length : {S T C : Type 0} (f : S → C) (g : T → C) (xs : List S) (ys : List T) → map f xs ≡ map g ys → length xs ≡ length ys
same_length {S} {T} {C} f g xs ys e = sym (length-map xs f) ∙ ap (λ (l : List C). length l) e ∙ length-map ys g

pub loop-seat-init : goal.loop-seat-init
loop-seat-init g c =
    let all = all_seats (λ (s : CallerSeat g.row.B.Denot g.B.Naming). s.caller) c.in_ok-given.given.items c.in_ok-given.ensures.seats in record {
      same = ap (map (λ (s : WordSeat g.row.B.Denot g.B.Naming). s.caller)) c.in_ok-seats.ensures.items;
      room = let e = c.in_ok-seats.ensures.exact in let l = c.len.ensures in omega arith;
    }

pub push_reserved-requires : goal.push_reserved-requires
push_reserved-requires g c =
    let all = all_seats (λ (s : CallerSeat g.row.B.Denot g.B.Naming). s.caller) c.in_ok-given.given.items c.in_ok-given.ensures.seats in
    let gives = c.into_iter-seat-iterator.ensures.into_iter_gives in
    let len : into_iter_len c.into_iter-seat-iterator.result ≡ length c.in_ok-given.given.items = (let l = gives.1 in omega arith) in
    let from_vec = YieldsList-from_vec c.in_ok-given.given.items gives.0 len in
    let more = (YieldsList-turn from_vec c.loop-seat.yielded c.loop-seat.seat-iterator c.loop-seat.yielded_by c.next.result
    c.next.new.self c.in-Some.seat c.in-Some.is c.next.ensures.steps).0 in
    let same = same_length (λ (s : WordSeat g.row.B.Denot g.B.Naming). s.caller) (λ (s : CallerSeat g.row.B.Denot g.B.Naming). s.caller)
    c.loop-seat.seats.items c.loop-seat.yielded c.loop-seat.invariant.same in
    let room = c.loop-seat.invariant.room in
    omega arith

pub loop-seat-preserved : goal.loop-seat-preserved
loop-seat-preserved g c =
    let given : CallerSeat g.row.B.Denot g.B.Naming → StandingCaller g.row.B.Denot = λ s. s.caller in
    let kept : WordSeat g.row.B.Denot g.B.Naming → StandingCaller g.row.B.Denot = λ s. s.caller in
    record {
      same = ap (map kept) c.push_reserved.ensures.items
          ∙ map-append kept c.loop-seat.seats.items _
          ∙ ap (λ (l : List (StandingCaller g.row.B.Denot)). l ++ c.in-Some.seat.caller ∷ []) c.loop-seat.invariant.same
          ∙ sym (map-append given c.loop-seat.yielded (c.in-Some.seat ∷ []));
      room = c.push_reserved.ensures.capacity ∙ c.loop-seat.invariant.room;
    }

pub returns-clause-seats : goal.returns-clause-seats
returns-clause-seats g c =
    let gives = c.into_iter-seat-iterator.ensures.into_iter_gives in
    let len : into_iter_len c.into_iter-seat-iterator.result ≡ length c.in_ok-given.given.items = (let l = gives.1 in omega arith) in
    let from_vec = YieldsList-from_vec c.in_ok-given.given.items gives.0 len in
    let end = YieldsList-end from_vec c.loop-seat.yielded c.loop-seat.seat-iterator c.loop-seat.yielded_by c.next.result
    c.next.new.self c.in-None.is c.next.ensures.steps in
    let all : c.loop-seat.yielded ≡ c.in_ok-given.given.items = sym (map-id c.loop-seat.yielded) ∙ end.0 in
    c.loop-seat.invariant.same ∙ ap (map (λ (s : CallerSeat g.row.B.Denot g.B.Naming). s.caller)) all ∙ c.in_ok-given.ensures.seats
