use Rattle.spawn_host.proofs.request.Request.number.Goals as goal

pub returns : goal.returns
returns c = rw (← c.self.view_is) c.self.invariant
