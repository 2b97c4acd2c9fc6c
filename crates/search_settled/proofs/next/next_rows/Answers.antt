use Rattle.std.proofs.Common.{◌∷◌, arith, sym, subst}
use Rattle.search_settled.specs.Known.{AreNextBelow}
use Rattle.search_settled.proofs.Rows.{grows-self, grows-then, row-grows}
use Rattle.search_settled.proofs.Nexting.{below-first, thread-at, below-done}
use Rattle.search_settled.proofs.next.next_rows.Goals as goal

pub loop-n-init : goal.loop-n-init
loop-n-init g c = record {
  known = c.requires.known;
  grows = grows-self c.args.met.now.parts;
  next = λ flat of at. subst (AreNextBelow (g.M.Moves.threads c.args.system.now) c.args.met.now.parts flat 0) (sym c.new-all.ensures.items)
      (below-first (g.M.Moves.threads c.args.system.now) c.args.met.now.parts flat);
}

pub put_next-requires-clause-at : goal.put_next-requires-clause-at
put_next-requires-clause-at g c =
    let of = c.requires.of in
    let so = c.loop-n.invariant in
    let t = c.loop-n.met.parts in (
      of.0,
      thread-at (g.M.Moves.threads c.args.system.now) t c.args.shared c.args.threads.now of.0
          (row-grows c.args.met.now.parts t so.grows (c.args.shared ∷ c.args.threads.now) of.0.shared of.0.threads.items of.1) of.2 c.loop-n.n
          c.part_at-thread.result c.part_at-thread.ensures,
    )

pub loop-n-preserved : goal.loop-n-preserved
loop-n-preserved g c =
    let k = g.M.Moves.threads c.args.system.now in
    let so = c.loop-n.invariant in
    let t = c.loop-n.met.parts in
    let put = c.in_ok-put_next.ensures in
    record {
      known = put.known;
      grows = grows-then c.args.met.now.parts t c.put_next.new.met.parts so.grows put.grows;
      next = λ flat of at. put.next c.if-not-branch.false flat
          (thread-at k t c.args.shared c.args.threads.now flat
          (row-grows c.args.met.now.parts t so.grows (c.args.shared ∷ c.args.threads.now) flat.shared flat.threads.items of) at c.loop-n.n
          c.part_at-thread.result c.part_at-thread.ensures) (so.next flat of at);
    }

pub returns-then-not-branch-clause-gives_up : goal.returns-then-not-branch-clause-gives_up
returns-then-not-branch-clause-gives_up g c _ flat of at =
    let so = c.loop-n.invariant in
    let t = c.loop-n.met.parts in
    c.in_ok-put_next.ensures.gives_up c.if-not-branch.true flat
    (thread-at (g.M.Moves.threads c.args.system.now) t c.args.shared c.args.threads.now flat
    (row-grows c.args.met.now.parts t so.grows (c.args.shared ∷ c.args.threads.now) flat.shared flat.threads.items of) at c.loop-n.n
    c.part_at-thread.result c.part_at-thread.ensures)

pub returns-clause-next : goal.returns-clause-next
returns-clause-next g c flat of at =
    let so = c.loop-n.invariant in
    below-done (g.M.Moves.threads c.args.system.now) c.args.met.now.parts c.loop-n.met.parts c.args.shared c.args.threads.now flat of c.loop-n.n
    (omega arith) c.loop-n.all.items (so.next flat of at)
