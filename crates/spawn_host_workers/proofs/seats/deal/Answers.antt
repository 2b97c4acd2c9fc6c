use Rattle.std.proofs.Common.{arith}
use Rattle.spawn_host_workers.proofs.OneList.{Unpacked, unpacked}
use Rattle.spawn_host_workers.proofs.seats.deal.Given as given
use Rattle.spawn_host_workers.proofs.seats.deal.Goals as goal
use Rattle.spawn_host_workers.proofs.seats.deal.Goals.{After-remove-first}

-- the first seat and the last are taken off
dealt : (g : given.Over) (c : After-remove-first g)
    → Unpacked c.args.seats.items c.remove-first.result c.remove-first.new.self.items c.in-Some.desk
dealt g c =
    unpacked c.args.seats.items c.pop.new.self.items c.remove-first.new.self.items c.remove-first.result
    c.in-Some.desk c.in-Some.ensures.items (omega (arith, c.pop.new.self.ok.0, c.in-Some.ensures.cases, c.requires))
    c.remove-first.ensures.value c.remove-first.ensures.by_index.2

pub returns-clause-parts : goal.returns-clause-parts
returns-clause-parts g c = (dealt g (goal.at.returns-clause-parts g c).After-remove-first).parts

pub returns-clause-len : goal.returns-clause-len
returns-clause-len g c = (dealt g (goal.at.returns-clause-len g c).After-remove-first).len
