use Rattle.std.proofs.Common.{◌≡◌, ◌+◌, ℕ, List, length, subst, sym, arith}
use Rattle.search_finds.specs.Drawing.{AreOfRunsBack, IsEndingAmong}
use Rattle.search_finds.specs.declared.search.JudgedEnding.{JudgedEnding}
use Rattle.search_finds.proofs.finder.Finder.endings.Goals as goal

pub loop-n-preserved : goal.loop-n-preserved
loop-n-preserved g c =
    let s = c.args.self.now.maker in
    let says = g.J.Judges.judges c.args.self.now.judge.now c.args.self.now.maker.request.now in
    let inv = c.loop-n.invariant in
    let met = rw c.in-Some.is at c.in_ok-ending.ensures.met in
    let count : c.args.from + c.loop-n.n ≡ c.args.from + length c.loop-n.endings.items = let n = inv.0 in omega (arith, n) in (
      subst (λ (l : List JudgedEnding). length l ≡ c.loop-n.n + 1) (sym {A = List JudgedEnding} c.in_ok-insert.ensures.items)
          (let n = inv.0 in omega (arith, n)),
      subst (AreOfRunsBack says s.request.now s.sought.now s.entries c.args.from) (sym {A = List JudgedEnding} c.in_ok-insert.ensures.items)
          (subst (λ (k : ℕ). IsEndingAmong says s.request.now s.sought.now s.entries k c.in-Some.ending) count met, inv.1),
      rw c.in-Some.is at c.in_ok-ending.ensures.spares,
    )
