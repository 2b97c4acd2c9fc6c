use Rattle.std.proofs.Common.{false, refl, inl, inr}
use Rattle.std.proofs.lemmas.Bool.{both_ways}
use Rattle.std.proofs.lemmas.Result.{IfOk-weaker}
use Rattle.interp.specs.Threads.{meaning_in}
use Rattle.replay.specs.Threads.{AreOthers}
use Rattle.replay.proofs.Workers.{spawnable_are_spares}
use Rattle.replay.proofs.threads.others_of.Goals as goal

pub returns-then-starts_threads : goal.returns-then-starts_threads
returns-then-starts_threads c =
    let m = c.args.module.now.parts in
    IfOk-weaker c.spawnable_threads.result _ (λ others. AreOthers meaning_in m c.args.fuel others.items)
    (λ others s. inl (c.if-starts_threads.ensures.0 refl, s.count, spawnable_are_spares meaning_in m _ c.args.fuel others.items s))
    c.spawnable_threads.ensures

pub returns-else-starts_threads : goal.returns-else-starts_threads
returns-else-starts_threads c = inr (λ starts. absurd (both_ways false refl (c.if-starts_threads.ensures.1 starts)), c.new.ensures.items)
