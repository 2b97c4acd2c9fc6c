use Rattle.interp_accesses.proofs.accesses.access_replied.Goals as goal

pub load_replied-requires : goal.load_replied-requires
load_replied-requires c = rw c.in-Load.is at c.requires

pub store_replied-requires : goal.store_replied-requires
store_replied-requires c = rw c.in-Store.is at c.requires

pub atomic_replied-requires : goal.atomic_replied-requires
atomic_replied-requires c = rw c.in-Atomic.is at c.requires

pub returns-in-Store : goal.returns-in-Store
returns-in-Store c = c.store_replied.ensures c.args.number
