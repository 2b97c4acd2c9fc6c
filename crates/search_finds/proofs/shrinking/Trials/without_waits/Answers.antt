use Rattle.search_finds.specs.Sizes.{size_in}
use Rattle.search_finds.proofs.Smaller.{no_larger}
use Rattle.search_finds.proofs.shrinking.Trials.without_waits.Goals as goal

pub returns-clause-size : goal.returns-clause-size
returns-clause-size g c =
    no_larger (size_in c.in_ok-made-3.made.record) (size_in c.in_ok-made-2.made.record) (size_in c.args.made.record)
    c.in_ok-made-3.ensures.size
    (no_larger (size_in c.in_ok-made-2.made.record) (size_in c.in_ok-made.made.record) (size_in c.args.made.record)
    c.in_ok-made-2.ensures.size c.in_ok-made.ensures.size)
