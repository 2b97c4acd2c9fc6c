use Rattle.std.proofs.Common.{ℕ, ◌≤◌, List, sym, subst}
use Rattle.types.specs.declared.event.Entry.{Entry}
use Rattle.types.specs.declared.limits.TheConstants.{DESK_NAME}
use Rattle.word_row.specs.Rows.{HasPages}
use Rattle.word_row.proofs.Counts.{prefix-HasPages}
use Rattle.word_row.proofs.row.WordRow.meet.Goals as goal

pub invariant_of-a : goal.invariant_of-a
invariant_of-a g c =
    let seat = c.args.a.now in
    let m = c.meet.ensures.longer in
    record {
      known = subst (λ (n : ℕ). n ≤ DESK_NAME) (sym c.meet.ensures.names.0) seat.known;
      few = seat.few;
      counted = prefix-HasPages g.B.Naming.opening seat.caller.seen c.meet.new.a.seen seat.pages c.args.self.now.row.stored
          m.seen.entries m.begins_a seat.counted;
    }

pub invariant_of-b : goal.invariant_of-b
invariant_of-b g c =
    let seat = c.args.b.now in
    let m = c.meet.ensures.longer in
    record {
      known = subst (λ (n : ℕ). n ≤ DESK_NAME) (sym c.meet.ensures.names.1) seat.known;
      few = seat.few;
      counted = subst (λ (l : List Entry). HasPages g.B.Naming.opening l seat.pages) (sym c.meet.ensures.one)
          (prefix-HasPages g.B.Naming.opening seat.caller.seen c.meet.new.a.seen seat.pages c.args.self.now.row.stored
          m.seen.entries m.begins_b seat.counted);
    }
