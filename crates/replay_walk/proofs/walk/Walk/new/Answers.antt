use Rattle.std.proofs.Common.{◌<◌, ◌≤◌, ℕ, List, [], Option, sym, subst}
use Rattle.types.specs.declared.outcome.Outcome.{Outcome}
use Rattle.types.specs.declared.limits.TheConstants.{MOST_THREADS}
use Rattle.shared_memory.specs.WaitQueue.{WaitQueue, first_queue}
use Rattle.replay_walk.specs.Walked.{HasWalked}
use Rattle.replay_walk.proofs.Begin.{begun}
use Rattle.replay_walk.proofs.walk.Walk.new.Goals as goal

pub returns : goal.returns
returns g c = λ r ready same.
    let some : 0 < r.threads = subst (λ (k : ℕ). 0 < k) (sym same) c.requires.some in
    let few : r.threads ≤ MOST_THREADS = subst (λ (k : ℕ). k ≤ MOST_THREADS) (sym same) c.requires.few in
    subst (λ (q : WaitQueue). HasWalked g.T.TakesTurns.meaning r [] c.args.threads.items c.args.memory q
    c.new.result.started c.new.result.ends) (sym c.new.ensures.queue)
    (subst (λ (t : ℕ). HasWalked g.T.TakesTurns.meaning r [] c.args.threads.items c.args.memory (first_queue t) c.new.result.started c.new.result.ends) same
    (subst (λ (k : ℕ). HasWalked g.T.TakesTurns.meaning r [] c.args.threads.items c.args.memory (first_queue r.threads) k c.new.result.ends)
    (sym c.new.ensures.started)
    (subst (λ (l : List (Option Outcome)). HasWalked g.T.TakesTurns.meaning r [] c.args.threads.items c.args.memory (first_queue r.threads) 1 l)
    (sym c.new.ensures.ends)
    (begun g.T.TakesTurns.meaning r c.args.threads.items c.args.memory ready some few))))
