use Rattle.interp_accesses.proofs.steps.request.Goals as goal

pub returns-in-Notify : goal.returns-in-Notify
returns-in-Notify c = λ p h. rw c.in-Notify.is (c.notify.ensures p)

pub returns-in-Load : goal.returns-in-Load
returns-in-Load c = λ p h. rw c.in-Load.is (c.load.ensures p)

pub returns-in-Store : goal.returns-in-Store
returns-in-Store c = λ p h. rw c.in-Store.is (c.store.ensures p)

pub returns-in-Rmw : goal.returns-in-Rmw
returns-in-Rmw c = λ p h. rw c.in-Rmw.is (c.rmw.ensures p)

pub returns-in-Cmpxchg : goal.returns-in-Cmpxchg
returns-in-Cmpxchg c = λ p h. rw c.in-Cmpxchg.is (c.cmpxchg.ensures p)
