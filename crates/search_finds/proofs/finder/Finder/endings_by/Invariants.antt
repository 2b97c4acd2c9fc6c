use Rattle.std.proofs.Common.{◌≡◌, length}
use Rattle.search_finds.specs.Searching.{AreMetIn, ArePiecesIn, first_of}
use Rattle.search_finds.proofs.finder.Finder.endings_by.Given as goal

abbrev pub invariant-loop-job : goal.invariant-loop-job
invariant-loop-job g l = (length l.pieces.items ≡ l.job)
    × AreMetIn (g.J.Judges.judges l.self.judge.now l.self.maker.request.now) l.self.maker (first_of l.ahead l.job) l.endings.items
    × ArePiecesIn (g.J.Judges.judges l.self.judge.now l.self.maker.request.now) l.self.maker l.ahead l.pieces.items
