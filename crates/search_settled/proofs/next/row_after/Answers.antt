use Rattle.std.proofs.Common.{sym, subst, refl, ◌∙◌}
use Rattle.search_settled.specs.Flat.{MovesSomewhere, IsStuckByMove}
use Rattle.search_settled.proofs.Threads.{if-some-at, all-come}
use Rattle.search_settled.proofs.next.row_after.Goals as goal

pub threads_after-requires : goal.threads_after-requires
threads_after-requires g c =
    let of = c.requires in
    subst (MovesSomewhere (g.M.Moves.threads c.args.system.now) c.args.shared c.args.made.now c.args.of.now.n)
    (sym (c.as_slice.ensures.value ∙ c.in_ok-threads.ensures of.0 of.1)) of.2

pub returns-in_default-clause-gives_up : goal.returns-in_default-clause-gives_up
returns-in_default-clause-gives_up g c _ xs are =
    subst (IsStuckByMove (g.M.Moves.threads c.args.system.now) (g.M.Moves.stuck c.args.system.now) c.args.shared c.args.made.now c.args.of.now.n)
    (c.as_slice.ensures.value ∙ c.in_ok-threads.ensures xs are) (c.in_ok-rested.ensures.gives_up c.in_default.is)

pub returns-clause-row : goal.returns-clause-row
returns-clause-row g c xs are = record {
  state = record { shared = c.args.shared; threads = c.in-Some.rested };
  shared = refl;
  come = all-come (g.M.Moves.threads c.args.system.now) c.args.shared c.args.made.now c.args.of.now.n c.as_slice.result.now xs c.in-Some.rested.items
      (c.as_slice.ensures.value ∙ c.in_ok-threads.ensures xs are) (if-some-at _ _ _ c.in-Some.is c.in_ok-rested.ensures.rests);
  row = c.in_ok-row.ensures.row;
}
