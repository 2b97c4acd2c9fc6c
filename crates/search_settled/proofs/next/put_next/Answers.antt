use Rattle.std.proofs.Common.{◌+◌, refl, sym, subst}
use Rattle.search_settled.specs.Known.{AreNextBelow}
use Rattle.search_settled.proofs.Following.{asked, stuck-by}
use Rattle.search_settled.proofs.Threads.{if-some-at}
use Rattle.search_settled.proofs.Rows.{threads-grow}
use Rattle.search_settled.proofs.Knowing.{known-grows}
use Rattle.search_settled.proofs.Nexting.{of-thread, low-at, at-grows, below-grows, told-of, heard-of, more-heard, stuck-lost}
use Rattle.search_settled.proofs.next.put_next.Goals as goal

pub made_by-requires-clause-of : goal.made_by-requires-clause-of
made_by-requires-clause-of g c =
    let of = c.args.of.now in
    let at = c.requires.at in
    of-thread (g.M.Moves.threads c.args.system.now) c.args.met.now.parts of.shared of.threads.now of.thread of.n at.0 at.1

pub made_by-requires-clause-few : goal.made_by-requires-clause-few
made_by-requires-clause-few g c =
    let of = c.args.of.now in
    let at = c.requires.at in
    low-at (g.M.Moves.threads c.args.system.now) (g.met.M.Moves.bounded c.args.system.now) c.args.met.now.parts of.shared of.threads.now
    of.thread of.n at.0 at.1

pub put_turn-requires-clause-at : goal.put_turn-requires-clause-at
put_turn-requires-clause-at g c =
    let of = c.args.of.now in
    let k = g.M.Moves.threads c.args.system.now in
    let at = c.requires.at in (
      at.0,
      at-grows k c.args.met.now.parts c.made_by.new.met.parts c.in_ok-turn.ensures.grows of.shared of.threads.now of.thread
          of.n at.0 at.1,
    )

pub put_turn-requires-clause-turn : goal.put_turn-requires-clause-turn
put_turn-requires-clause-turn g c =
    let of = c.args.of.now in
    let k = g.M.Moves.threads c.args.system.now in
    let at = c.requires.at in
    told-of k c.args.met.now.parts c.made_by.new.met.parts c.in_ok-turn.ensures.grows of.shared of.threads.now of.thread of.n at.0 at.1
    c.in_ok-turn.turn
    c.in-Told.turn c.in-Told.is c.in_ok-turn.ensures.made

pub returns-in_ok-put_turn-in-Told-clause-next : goal.returns-in_ok-put_turn-in-Told-clause-next
returns-in_ok-put_turn-in-Told-clause-next g c _ flat at so =
    let of = c.args.of.now in
    let k = g.M.Moves.threads c.args.system.now in
    let t = c.args.met.now.parts in
    let u = c.made_by.new.met.parts in
    let grows = c.in_ok-turn.ensures.grows in
    c.in_ok-put_turn-in-Told.ensures flat (at-grows k t u grows of.shared of.threads.now of.thread of.n flat at)
    (below-grows k t u grows flat of.n c.args.all.now.items so)

pub returns-in_ok-put-in-Heard-clause-next : goal.returns-in_ok-put-in-Heard-clause-next
returns-in_ok-put-in-Heard-clause-next g c _ flat at so =
    let of = c.args.of.now in
    let k = g.M.Moves.threads c.args.system.now in
    let u = c.made_by.new.met.parts in
    let v = c.row_after.new.parts in
    let heard = heard-of k c.args.met.now.parts u of.shared of.thread of.n c.in_ok-turn.turn c.in-Heard.shared c.in-Heard.made
    c.in-Heard.is
    c.in_ok-turn.ensures.made in
    subst (AreNextBelow k v flat (of.n + 1)) (sym c.in_ok-put-in-Heard.ensures)
    (more-heard k (g.met.M.Moves.tame c.args.system.now) (g.met.M.Moves.bounded c.args.system.now)
    c.args.met.now.parts u v c.in_ok-turn.ensures.grows c.in_ok-next-in-Heard.ensures.grows
    of.shared of.threads.now of.thread of.n flat at c.args.all.now.items so g.M.Shared.PartialEq.eq g.M.Thread.PartialEq.eq
    (g.met.M.Moves.same_shared c.args.system.now) (g.met.M.Moves.same_thread c.args.system.now) c.in-Heard.shared c.in-Heard.made
    (record { thread = of.n; row = c.in-Some.next }) refl
    (heard flat.shared at.thread_is at.of.0 at.thread_at)
    (if-some-at _ _ _ c.in-Some.is c.in_ok-next-in-Heard.ensures.row flat.threads.items
    (threads-grow c.args.met.now.parts u c.in_ok-turn.ensures.grows of.threads.now flat.threads.items at.of.1)))

pub returns-in-Unknown-clause-gives_up : goal.returns-in-Unknown-clause-gives_up
returns-in-Unknown-clause-gives_up g c _ flat at =
    let of = c.args.of.now in
    stuck-lost (g.M.Moves.threads c.args.system.now) (g.M.Moves.stuck c.args.system.now) c.args.met.now.parts of.shared of.threads.now
    of.thread of.n flat at
    (c.in_ok-turn.ensures.gives_up c.in-Unknown.is)

pub row_after-requires : goal.row_after-requires
row_after-requires g c =
    let of = c.args.of.now in
    let k = g.M.Moves.threads c.args.system.now in
    let t = c.args.met.now.parts in
    let u = c.made_by.new.met.parts in
    let at = c.requires.at in
    let flat = at.0 in
    let heard = heard-of k t u of.shared of.thread of.n c.in_ok-turn.turn c.in-Heard.shared c.in-Heard.made c.in-Heard.is
    c.in_ok-turn.ensures.made in (
      flat.threads.items,
      threads-grow t u c.in_ok-turn.ensures.grows of.threads.now flat.threads.items at.1.of.1,
      asked k flat at.1.somewhere of.n at.1.thread_is at.1.among (c.in-Heard.shared, c.in-Heard.made) flat.threads.items refl
          (heard flat.shared at.1.thread_is at.1.of.0 at.1.thread_at),
    )

pub returns-in_default-clause-gives_up : goal.returns-in_default-clause-gives_up
returns-in_default-clause-gives_up g c _ flat at =
    let of = c.args.of.now in
    let k = g.M.Moves.threads c.args.system.now in
    let t = c.args.met.now.parts in
    let u = c.made_by.new.met.parts in
    let heard = heard-of k t u of.shared of.thread of.n c.in_ok-turn.turn c.in-Heard.shared c.in-Heard.made c.in-Heard.is
    c.in_ok-turn.ensures.made in
    stuck-by k (g.M.Moves.stuck c.args.system.now) flat of.n at.thread_is at.among (c.in-Heard.shared, c.in-Heard.made) flat.threads.items refl
    (heard flat.shared at.thread_is at.of.0 at.thread_at)
    (c.in_ok-next-in-Heard.ensures.gives_up c.in_default.is flat.threads.items
    (threads-grow t u c.in_ok-turn.ensures.grows of.threads.now flat.threads.items at.of.1))

pub returns-in_default-clause-known : goal.returns-in_default-clause-known
returns-in_default-clause-known g c =
    known-grows (g.M.Moves.threads c.args.system.now) c.made_by.new.met (record { parts = c.row_after.new.parts; known = c.made_by.new.met.known })
    c.in_ok-turn.ensures.known c.in_ok-next-in-Heard.ensures.grows refl

pub returns-in_ok-put-in-Heard-clause-known : goal.returns-in_ok-put-in-Heard-clause-known
returns-in_ok-put-in-Heard-clause-known g c =
    known-grows (g.M.Moves.threads c.args.system.now) c.made_by.new.met (record { parts = c.row_after.new.parts; known = c.made_by.new.met.known })
    c.in_ok-turn.ensures.known c.in_ok-next-in-Heard.ensures.grows refl
