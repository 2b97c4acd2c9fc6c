use Rattle.search_finds.specs.Sizes.{size_in}
use Rattle.search_finds.proofs.Smaller.{no_larger}
use Rattle.search_finds.proofs.shrinking.shrunk_by.Goals as goal

pub returns-then-not-is_better-clause-size : goal.returns-then-not-is_better-clause-size
returns-then-not-is_better-clause-size g c =
    no_larger (size_in c.in_ok-best-2.best.record) (size_in c.in_ok-next.next.record) (size_in c.args.made.record)
    c.in_ok-best-2.ensures.size
    (no_larger (size_in c.in_ok-next.next.record) (size_in c.loop-tries.best.record) (size_in c.args.made.record)
    c.in_ok-next.ensures.size c.loop-tries.invariant.1)
