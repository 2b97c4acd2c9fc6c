use Rattle.spawn_host.proofs.request.Request.call.Goals as goal

pub returns-clause-takes : goal.returns-clause-takes
returns-clause-takes c = rw (← c.self.view_is) c.self.invariant.0
