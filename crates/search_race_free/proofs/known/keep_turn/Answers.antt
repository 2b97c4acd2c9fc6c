use Rattle.std.proofs.Common.{arith}
use Rattle.search_settled.specs.declared.met.QuietTurn.TheVariants.{Alone}
use Rattle.search_settled.proofs.Rows.{grows-then}
use Rattle.search_settled.proofs.Knowing.{known-stays, known-put}
use Rattle.search_race_free.specs.Known.{Stills, GoesOnAlone}
use Rattle.search_race_free.proofs.Knowing.{stretch-alike}
use Rattle.search_race_free.proofs.Pieces.{found-few}
use Rattle.search_race_free.proofs.Rowing.{turn-new}
use Rattle.search_race_free.proofs.known.keep_turn.Goals as goal

pub overflow_cast-of : goal.overflow_cast-of
overflow_cast-of g c =
    let m = c.args._system.now in
    let few = found-few (g.M.Moves.threads m) (g.met.M.Moves.bounded m) c.args.parts.now c.args.turn c.requires.found in
    omega (arith, few)

pub returns-clause-known : goal.returns-clause-known
returns-clause-known g c =
    let m = c.args._system.now in
    let k = g.M.Moves.threads m in
    let t = c.args.parts.now in
    let u = c.put_shared.new.self in
    let v = c.put_thread.new.self in
    let held = c.in_ok-held.ensures in
    let thread = c.in_ok-thread.ensures in
    let grows = grows-then t u v held.grows thread.grows in
    let one = held.number in
    let two = thread.number in
    let of = c.args.turn.of in
    let to = c.args.turn.to in
    let found = c.requires.found in
    let from = found.from in
    known-put Stills (GoesOnAlone k) v c.args.known.now.items c.note.new.known.items
    (record { shared = of.held; thread = of.thread; n = of.n; turn = Alone c.in_ok-held.held c.in_ok-thread.thread })
    (known-stays Stills (GoesOnAlone k) t v grows c.args.known.now.items c.requires.known) c.note.ensures
    (record {
      shared_is = from.held_is;
      thread_is = from.thread_is;
      shared_at = grows.shared of.held from.held_is from.held_at;
      thread_at = grows.threads of.thread from.thread_is from.thread_at;
      so = (
        one.key,
        two.key,
        thread.grows.shared c.in_ok-held.held one.key one.at,
        two.at,
        stretch-alike k (g.met.M.Moves.tame m) (g.met.M.Moves.bounded m) (g.met.M.Accesses.plain m) g.M.Shared.PartialEq.eq g.M.Thread.PartialEq.eq
            g.met.M.Shared.Eq.laws g.met.M.Thread.Eq.laws (g.met.M.Moves.same_shared m) (g.met.M.Moves.same_thread m) from.held_is from.thread_is
            of.n to.held one.key to.thread two.key one.is two.is found.goes,
      );
    })

pub returns-clause-turn : goal.returns-clause-turn
returns-clause-turn g c =
    let m = c.args._system.now in
    let k = g.M.Moves.threads m in
    let thread = c.in_ok-thread.ensures in
    let one = c.in_ok-held.ensures.number in
    let two = thread.number in
    let of = c.args.turn.of in
    let to = c.args.turn.to in
    let found = c.requires.found in
    let from = found.from in
    turn-new k c.args.parts.now c.put_thread.new.self of (record { held = c.in_ok-held.held; thread = c.in_ok-thread.thread })
    from.held_is one.key from.thread_is two.key
    from.held_at from.thread_at (thread.grows.shared c.in_ok-held.held one.key one.at) two.at
    (stretch-alike k (g.met.M.Moves.tame m) (g.met.M.Moves.bounded m) (g.met.M.Accesses.plain m) g.M.Shared.PartialEq.eq g.M.Thread.PartialEq.eq
    g.met.M.Shared.Eq.laws g.met.M.Thread.Eq.laws (g.met.M.Moves.same_shared m) (g.met.M.Moves.same_thread m) from.held_is from.thread_is of.n
    to.held one.key to.thread two.key one.is two.is found.goes)
