use Rattle.std.proofs.Common.{List, subst, sym}
use Rattle.interp_state.specs.declared.state.Caller.{Caller}
use Rattle.interp.specs.Places.{HasCallers}
use Rattle.show_moments.proofs.standing.standing_of.Goals as goal

pub returns : goal.returns
returns c = record {
  place = c.place.ensures.next;
  callers = λ config left stands.
      let Are : List Caller → Type 0 = λ xs. HasCallers c.args.thread.now.parts.now xs config in
      subst Are (sym c.in_ok-callers.ensures.items) (c.callers-open.ensures config left stands);
  kept = c.in_ok-kept.ensures.kept;
}
