use Rattle.std.proofs.Common.{inr, refl, subst, sym}
use Rattle.types.specs.declared.parts.Parts.{Parts}
use Rattle.interp.specs.Threads.{meaning_in}
use Rattle.spawn_host.specs.Entries.{StartsThreads}
use Rattle.spawn_host.proofs.Requested.{beside}
use Rattle.spawn_host.proofs.threads.other_threads.Goals as goal

pub returns-then-not-starts_threads : goal.returns-then-not-starts_threads
returns-then-not-starts_threads c =
    let here = sym c.module-module.ensures in
    inr (
      (λ starts. absurd (cc (c.if-not-starts_threads.ensures.1 (subst (λ (p : Parts). StartsThreads p) here starts)))),
      c.new.ensures.items,
    )

pub returns : goal.returns
returns c =
    beside meaning_in c.args.request.now c.module-module.result.now.parts c.call.result _ c.module-module.ensures c.call.ensures.call
    (c.if-not-starts_threads.ensures.0 refl) c.spawnable_threads.result c.spawnable_threads.ensures
