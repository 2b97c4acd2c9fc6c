use Rattle.interp_accesses.proofs.accesses.wanted.Goals as goal

pub load-requires : goal.load-requires
load-requires c = rw c.in-Load.is at c.requires

pub store-requires : goal.store-requires
store-requires c = rw c.in-Store.is at c.requires

pub atomic-requires : goal.atomic-requires
atomic-requires c = rw c.in-Atomic.is at c.requires
