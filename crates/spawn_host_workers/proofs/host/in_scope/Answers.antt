use Rattle.spawn_host_workers.proofs.host.in_scope.Goals as goal

pub returns-clause-ends : goal.returns-clause-ends
returns-clause-ends g c = c.scoped.ensures.1.0

pub returns-clause-left : goal.returns-clause-left
returns-clause-left g c = c.scoped.ensures.1.1
