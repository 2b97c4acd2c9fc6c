use Rattle.search_finds.specs.Judged.{IsFindBy}
use Rattle.search_finds.specs.Sizes.{size_in, IsNoLarger}
use Rattle.search_finds.proofs.shrinking.shrunk_by.Given as goal

abbrev pub invariant-loop-tries : goal.invariant-loop-tries
invariant-loop-tries g l = IsFindBy (g.J.Judges.judges l.fn.judge l.fn.request) l.fn.request l.fn.limit l.best
    × IsNoLarger (size_in l.best.record) (size_in l.fn.made.record)
