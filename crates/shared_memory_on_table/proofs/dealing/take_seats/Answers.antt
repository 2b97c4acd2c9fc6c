use Rattle.std.proofs.Common.{ℕ, Bool, List, [], ◌∷◌, ◌++◌, ◌+◌, ◌-◌, ◌≡◌, ap, sym, ◌∙◌, arith, append_assoc, length, length-append, map}
use Rattle.std.proofs.lemmas.List.{map-append}
use Rattle.types.specs.declared.limits.TheConstants.{SEATS}
use Rattle.atomic_table.specs.Table.{Me}
use Rattle.shared_memory_on_table.specs.declared.view.Caller.{Caller}
use Rattle.shared_memory_on_table.specs.declared.view.View.{View}
use Rattle.shared_memory_on_table.specs.declared.seat.CallerSeat.{CallerSeat}
use Rattle.shared_memory_on_table.specs.Callers.{fresh, fresh_from}
use Rattle.shared_memory_on_table.specs.Moves.{others_of}
use Rattle.shared_memory_on_table.specs.Rule.{gathered}
use Rattle.shared_memory_on_table.proofs.Moves.{next_fresh}
use Rattle.shared_memory_on_table.proofs.dealing.take_seats.Goals as goal

pub loop-name-preserved : goal.loop-name-preserved
loop-name-preserved g c =
    let n : ℕ = c.loop-name.name in
    let i = c.loop-name.invariant in
    let keeps : Bool = g.H.History.has_keeper in
    let rest : List Caller = fresh_from (SEATS - (n + 1)) (n + 1) in
    let next : fresh_from (SEATS - n) n ≡ fresh n ∷ rest = next_fresh n (omega arith) in
    let of_seat : CallerSeat g.row.B.Denot g.B.Naming → Caller = λ s. s.caller in
    let old : List (CallerSeat g.row.B.Denot g.B.Naming) = c.loop-name.seats.items in
    let had : List Caller = map of_seat old in
    let grown = c.push_reserved.ensures.items in
    let one_more : map of_seat (old ++ c.take_seat.result ∷ []) ≡ had ++ fresh n ∷ [] =
    map-append of_seat old (c.take_seat.result ∷ []) ∙ ap (λ (x : Caller). had ++ x ∷ []) c.take_seat.ensures.seat in
    let pushed : map of_seat c.push_reserved.new.self.items ≡ had ++ fresh n ∷ [] = ap (map of_seat) grown ∙ one_more in
    record {
      place = c.take_seat.ensures.here;
      left = c.take_seat.ensures.all
          ∙ ap (λ (m : Me ℕ View). (gathered keeps (others_of m.0.callers), [])) i.left
          ∙ ap (λ (l : List Caller). (gathered keeps (others_of l), [])) next;
      taken = ap (λ (l : List Caller). l ++ rest) pushed
          ∙ append_assoc had (fresh n ∷ []) rest
          ∙ ap (λ (l : List Caller). had ++ l) (sym next)
          ∙ i.taken;
      count =
          let k = i.count in
          let p = ap (λ (l : List (CallerSeat g.row.B.Denot g.B.Naming)). length l) grown in
          let q = length-append old (c.take_seat.result ∷ []) in
          omega arith;
      room = let k = i.room in let q = c.push_reserved.ensures.capacity in omega arith;
    }
