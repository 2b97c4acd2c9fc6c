use Rattle.std.proofs.Common.{◌+◌, refl, arith, sym, subst}
use Rattle.search_settled.specs.declared.met.QuietTurn.{QuietTurn}
use Rattle.search_settled.specs.Known.{OfNumbers, IsTurn, AreNextBelow}
use Rattle.search_settled.proofs.Rows.{grows-self}
use Rattle.search_settled.proofs.Nexting.{low-at, within-at, more-still, more-alone}
use Rattle.search_settled.proofs.next.put_turn.Goals as goal

pub returns-in-Still : goal.returns-in-Still
returns-in-Still g c flat at so =
    let m = c.args.system.now in
    let k = g.M.Moves.threads m in
    let t = c.args.parts.now in
    let of = c.args.of.now in
    more-still k (g.met.M.Moves.tame m) (g.met.M.Moves.bounded m) t t t (grows-self t) (grows-self t) of.shared of.threads.now of.thread of.n flat at
    c.args.all.now.items so
    (subst (λ (x : QuietTurn). OfNumbers k t of.shared of.thread (λ x' y. IsTurn k t x' y of.n x)) c.in-Still.is c.requires.turn)

pub row_alone-requires : goal.row_alone-requires
row_alone-requires g c =
    let at = c.requires.at in
    let of = c.args.of.now in
    within-at (g.M.Moves.threads c.args.system.now) c.args.parts.now of.shared of.threads.now of.thread of.n at.0 at.1

pub put-requires : goal.put-requires
put-requires g c =
    let m = c.args.system.now in
    let k = g.M.Moves.threads m in
    let at = c.requires.at in
    let of = c.args.of.now in
    let low = low-at k (g.met.M.Moves.bounded m) c.args.parts.now of.shared of.threads.now of.thread of.n at.0 at.1 in
    let most = (g.met.M.Moves.bounded m).numbered in
    omega (arith, low, most)

pub returns-in_ok-put-in-Alone : goal.returns-in_ok-put-in-Alone
returns-in_ok-put-in-Alone g c flat at so =
    let m = c.args.system.now in
    let k = g.M.Moves.threads m in
    let t = c.args.parts.now in
    let of = c.args.of.now in
    subst (AreNextBelow k t flat (of.n + 1)) (sym c.in_ok-put-in-Alone.ensures)
    (more-alone k (g.met.M.Moves.tame m) (g.met.M.Moves.bounded m) t t t (grows-self t) (grows-self t)
    of.shared of.threads.now of.thread of.n flat at c.args.all.now.items so c.in-Alone.shared c.in-Alone.thread
    (subst (λ (x : QuietTurn). OfNumbers k t of.shared of.thread (λ x' y. IsTurn k t x' y of.n x)) c.in-Alone.is c.requires.turn)
    (record { thread = of.n; row = c.in_ok-next-in-Alone.next }) refl c.in_ok-next-in-Alone.ensures)
