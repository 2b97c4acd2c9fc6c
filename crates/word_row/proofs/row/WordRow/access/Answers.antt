use Rattle.std.proofs.Common.{ℕ, ◌≤◌, sym, subst}
use Rattle.types.specs.declared.limits.TheConstants.{DESK_NAME}
use Rattle.shared_memory_on_table.specs.declared.view.Caller.{Caller}
use Rattle.word_row.proofs.Counts.{accesses-HasPages}
use Rattle.word_row.proofs.row.WordRow.access.Goals as goal

pub invariant_of-seat : goal.invariant_of-seat
invariant_of-seat g c =
    let seat = c.args.seat.now in
    let who : Caller = seat.caller in
    record {
      known = subst (λ (n : ℕ). n ≤ DESK_NAME) (sym c.touch.ensures.tried.name_is) seat.known;
      few = seat.few;
      counted = accesses-HasPages g.B.Naming.opening who.name who.has_queue_right c.args.event who.seen c.touch.new.caller.seen c.touch.result seat.pages
          c.args.self.now.row.stored c.touch.ensures.tried.outcome seat.counted;
    }
