use Rattle.std.proofs.Common.{refl, sym, subst, ◌∙◌}
use Rattle.search_settled.specs.declared.turns.ThreadTurn.{ThreadTurn}
use Rattle.search_settled.specs.declared.met.QuietTurn.TheVariants.{Alone}
use Rattle.search_settled.specs.Known.{IsTurn, IsTurnOf}
use Rattle.search_settled.proofs.Rows.{grows-then}
use Rattle.search_settled.proofs.Knowing.{of-read, of-numbers, known-grows, alone-alike}
use Rattle.search_settled.proofs.turns.made_anew.Goals as goal

pub turn_of-requires-clause-of : goal.turn_of-requires-clause-of
turn_of-requires-clause-of g c =
    of-read (g.M.Moves.threads c.args.system.now) c.args.met.now.parts c.args.shared c.args.thread c.args.n c.requires.of c.in-Some.old.now
    c.in-Some-get_index.own.now
    (sym c.in-Some.ensures.key) (sym c.in-Some-get_index.ensures.key)

pub returns-in_ok-thread-in-Alone-clause-known : goal.returns-in_ok-thread-in-Alone-clause-known
returns-in_ok-thread-in-Alone-clause-known g c =
    let k = g.M.Moves.threads c.args.system.now in
    let t = c.args.met.now.parts in
    let u = c.put_shared.new.self in
    let v = c.put_thread.new.self in
    let one = c.in_ok-shared-in-Alone.ensures in
    let two = c.in_ok-thread-in-Alone.ensures in
    known-grows k c.args.met.now (record { parts = v; known = c.args.met.now.known }) c.requires.known (grows-then t u v one.grows two.grows) refl

pub returns-in_ok-thread-in-Alone-clause-made : goal.returns-in_ok-thread-in-Alone-clause-made
returns-in_ok-thread-in-Alone-clause-made g c =
    let m = c.args.system.now in
    let k = g.M.Moves.threads m in
    let v = c.put_thread.new.self in
    let one = c.in_ok-shared-in-Alone.ensures.number in
    let two = c.in_ok-thread-in-Alone.ensures.number in
    let old = c.in-Some.old.now in
    let own = c.in-Some-get_index.own.now in
    of-numbers k c.args.met.now.parts c.args.shared c.args.thread
    (λ x y. IsTurn k v x y c.args.n (Alone c.in_ok-shared-in-Alone.shared c.in_ok-thread-in-Alone.thread))
    old own (sym c.in-Some.ensures.key) (sym c.in-Some-get_index.ensures.key) (
      one.key,
      two.key,
      c.in_ok-thread-in-Alone.ensures.grows.shared c.in_ok-shared-in-Alone.shared one.key one.at,
      two.at,
      alone-alike k g.M.Shared.PartialEq.eq g.M.Thread.PartialEq.eq (λ x y e. sym (g.met.M.Shared.Eq.laws.symm x y) ∙ e) (g.met.M.Moves.same_shared m)
          (g.met.M.Moves.same_thread m) old own c.args.n c.in-Alone.new one.key c.in-Alone.rested two.key one.is two.is
          (subst (λ (r : ThreadTurn g.row.M-Shared.Denot g.row.M-Thread.Denot g.row.M-Effect.Denot). IsTurnOf k old own c.args.n r) c.in-Alone.is
          c.in_ok-turn_of.ensures.turn),
    )
