use Rattle.std.proofs.Common.{◌≡◌, ◌+◌, false, IsTrue}
use Rattle.search_finds.specs.Drawing.{AreOfRunsBack}
use Rattle.search_finds.specs.Noted.{AreNotedBy}
use Rattle.search_finds.proofs.finder.Finder.first.Given as goal

abbrev pub invariant-loop-run : goal.invariant-loop-run
invariant-loop-run g l =
    let says = g.J.Judges.judges l.self.judge.now l.self.maker.request.now in
    let s = l.self.maker.sought.now in
    (l.table.runs + s.from ≡ l.run)
    × AreOfRunsBack says l.self.maker.request.now s l.self.maker.entries l.run l.ahead.items
    × AreNotedBy (λ run made. IsTrue s.stops → says made false) l.self.maker.request.now s l.table
