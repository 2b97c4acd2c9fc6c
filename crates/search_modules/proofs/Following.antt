-- Where a thread of a search comes to rest after an event.
use Rattle.std.specs.Prelude.{ℕ, ◌≤◌}
use Rattle.std.proofs.Common.{refl, sym, subst}
use Rattle.types.specs.declared.event.Event.{Event}
use Rattle.schedule.specs.System.{State}
use Rattle.schedule.specs.Scheduled.{after_event}
use Rattle.schedule_threads.specs.Shared.{Shared}
use Rattle.search_runs.specs.Called.{Walker as Thread, system_of}
use Rattle.search_runs.proofs.Tame.{missing}
use Rattle.search_settled.specs.Flat.{RestsAfter, ComesAfter, BeginsAfter}
use Rattle.search_parts.specs.Walkers.{RestsAt}
use Rattle.search_parts.specs.declared.walker.RestingThread.{RestingThread}
use Rattle.search_parts.specs.declared.walker.RestingThread.TheVariants as standings
use Rattle.search_parts.specs.Sharing.{started_in}
use Rattle.search_parts.specs.Parts.{IsRested, IsAfter}
use Rattle.search_parts.specs.declared.event.Effect.{Effect}
use Rattle.search_parts.specs.declared.shared.HashedThread.{HashedThread}
use Rattle.search_parts.proofs.AtRest.{rested_so}
use Rattle.search_modules.specs.Moved.{called, threads, IsEffectOf}
use Rattle.search_modules.specs.declared.called.Searched.{Searched}
use Rattle.search_modules.proofs.Begun.{missing_rests}
use Rattle.search_modules.proofs.Callable.{workers}

module _ (s : Searched) (made : Effect) (n m : ℕ) where
  pub is_after : (standing : RestingThread) (z : State Shared Thread) (e : Event) → IsEffectOf s made n z e
      → IsRested s.valid.now (called s) standing (z.threads m) → IsAfter s.valid.now s.worker made n standing m (called s) z e
  is_after standing z e by is = record {
    of = refl;
    workers = workers s.valid.now.parts s.opening.items s.max s.main s.args.items s.worker s.callable;
    reached = by.reached;
    calls = by.wants;
    makes = by.is;
    rested = is;
  }

  -- who wasn't started is missing
  pub is_new : (z : State Shared Thread) (e : Event) → IsEffectOf s made n z e → started_in z.shared ≤ m
      → IsAfter s.valid.now s.worker made n standings.Missing m (called s) z e
  is_new z e by past = is_after standings.Missing z e by
      (subst (λ (v : Thread). IsRested s.valid.now (called s) standings.Missing v) (sym (missing (called s) z by.reached m past))
      (missing_rests s.valid.now (called s)))

  abbrev Rests : RestingThread → RestingThread → Type 0
  Rests before standing = (z : State Shared Thread) (e : Event) → IsAfter s.valid.now s.worker made n before m (called s) z e
      → RestsAt s.valid.now (called s) ((after_event (system_of (called s)) z n e).threads m) standing

  rests_after : (before : RestingThread) (after : HashedThread) → Rests before after.standing → (z : State Shared Thread) (e : Event)
      → IsAfter s.valid.now s.worker made n before m (called s) z e
      → RestsAfter (threads s) z n e m after
  rests_after before after rests z e is =
      let at = rests z e is in
      record {
        settled = at.rested;
        rests = at.settles;
        is = rested_so s.valid.now (called s) after.standing ((after_event (system_of (called s)) z n e).threads m) at;
      }

  pub comes_after : (before after : HashedThread) → Rests before.standing after.standing
      → ComesAfter (threads s) made n before m after
  comes_after before after rests z e by is = rests_after before.standing after rests z e (is_after before.standing z e by is)

  pub begins_after : (new : HashedThread) → Rests standings.Missing new.standing
      → BeginsAfter (threads s) made n m new
  begins_after new rests z e by past = rests_after standings.Missing new rests z e (is_new z e by past)
