-- Who makes no event, hears no answer and doesn't begin is left as it was.
use Rattle.std.specs.Prelude.{ℕ, ◌≡◌, ◌≢◌, false, Option, Some, None}
use Rattle.std.specs.Option.{is_some}
use Rattle.std.proofs.Common.{refl, sym, ◌∙◌, subst}
use Rattle.types.specs.declared.event.Event.{Event}
use Rattle.validate_typing.specs.Tabled.{WithTables}
use Rattle.shared_memory.specs.WaitQueue.{answer_due}
use Rattle.schedule.specs.System.{State, put}
use Rattle.schedule.specs.Scheduled.{after_event, hears_any, or_started}
use Rattle.schedule.proofs.Basics.{put-other}
use Rattle.schedule_threads.specs.Shared.{Shared, queue_by}
use Rattle.search_threads.specs.Budgets.{started_without}
use Rattle.search_runs.specs.Called.{Called, Walker, system_of, reply_by, answer_by, begun_at}
use Rattle.search_parts.specs.Walkers.{RestsAt}
use Rattle.search_parts.specs.declared.walker.RestingThread.{RestingThread}
use Rattle.search_parts.specs.Parts.{IsAfter}
use Rattle.search_parts.specs.Sharing.{answer_in}
use Rattle.search_parts.specs.declared.event.Begun.{Begun}
use Rattle.search_parts.specs.declared.event.Effect.{Effect}
use Rattle.search_parts.proofs.AtRest.{at_rest}
use Rattle.search_parts.proofs.Events.{no_other}

-- nothing is there
pub not_some : {A : Type 0} (o : Option A) → is_some o ≡ false → o ≡ None
not_some None h = refl
not_some (Some x) h = absurd (cc h)

pub untouched : (made : Effect) (n m : ℕ) → n ≢ m → answer_in made m ≡ None → ((g : Begun) → made.begun ≡ Some g → g.id ≢ m)
    → (w : WithTables) (worker : Option ℕ) (s : RestingThread) (b : Called) (z : State Shared Walker) (e : Event) → IsAfter w worker made n s m b z e
    → RestsAt w b ((after_event (system_of b) z n e).threads m) s
untouched made n m apart due others w worker s b z e after =
    let taken : Walker = (system_of b).takes (z.threads n) (reply_by z.shared n e) in
    let v : Walker = put z.threads n taken m in
    let same : v ≡ z.threads m = put-other z.threads n taken m (λ same. apart (sym same)) in
    let at : RestsAt w b v s = subst (λ (u : Walker). RestsAt w b u s) (sym same) (at_rest w b s (z.threads m) after.rested) in
    let none : begun_at b z.shared e m ≡ None = no_other b z.shared e m (λ g is. others g (after.makes.begun ∙ is)) in
    let quiet : answer_due (queue_by z.shared n e) m ≡ None = sym (after.makes.answers m) ∙ due in
    subst (λ o. RestsAt w b (or_started (started_without o) (hears_any (system_of b) v (answer_by z.shared n e m))) s) (sym none)
    (subst (λ o. RestsAt w b (hears_any (system_of b) v o) s) (sym quiet) at)
