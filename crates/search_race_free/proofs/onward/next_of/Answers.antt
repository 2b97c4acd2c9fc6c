use Rattle.std.proofs.Common.{None, sym}
use Rattle.search_race_free.proofs.Touching.{access-here, access-past}
use Rattle.search_race_free.proofs.onward.next_of.Goals as goal

pub returns-then-m-wanted : goal.returns-then-m-wanted
returns-then-m-wanted c = sym (access-here c.args.wanted.now c.args.m None c.if-m-wanted.true)

pub returns-else-m-wanted : goal.returns-else-m-wanted
returns-else-m-wanted c = sym (access-past c.args.wanted.now c.args.m c.if-m-wanted.false)
