use Rattle.std.proofs.Common.{◌≡◌, length}
use Rattle.search_scheduled.specs.SpareThreads.{HoldsSpares}
use Rattle.search_finds.specs.Drawing.{AreOfRunsBack}
use Rattle.search_finds.proofs.finder.Finder.endings.Given as goal

abbrev pub invariant-loop-n : goal.invariant-loop-n
invariant-loop-n g l = (length l.endings.items ≡ l.n)
    × AreOfRunsBack (g.J.Judges.judges l.self.judge.now l.self.maker.request.now) l.self.maker.request.now
    l.self.maker.sought.now l.self.maker.entries l.from l.endings.items
    × HoldsSpares l.self.maker.request.now.parts l.self.maker.request.now.fuel l.spares
