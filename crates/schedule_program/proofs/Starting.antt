-- The thread that a spawn starts, as the machine puts it among the others.
use Rattle.std.proofs.Common.{◌≡◌, ℕ, ◌<◌, ◌≤◌, ◌==◌, ◌&&◌, cond}
use Rattle.std.proofs.Common.{Option, Some, None, refl, sym, ◌∙◌, ap}
use Rattle.std.proofs.lemmas.Bool.{lt-ltb}
use Rattle.types.specs.declared.event.Question.{Question}
use Rattle.types.specs.declared.event.Question.TheVariants.{Wait, Notify, Spawn, Leave}
use Rattle.types.specs.declared.event.Answer.{Answer}
use Rattle.types.specs.declared.limits.TheConstants.{MOST_THREADS}
use Rattle.schedule.specs.System.{put}
use Rattle.schedule.specs.Scheduled.{hears_any, or_started}
use Rattle.schedule.specs.Machine.{Thread.Absent, Thread.Runs, thread_hears}
use Rattle.schedule.proofs.Basics.{put-same, put-other, at_each, same_is}
use Rattle.schedule_threads.specs.Threads.{machine_of}
use Rattle.interp_trait.specs.Turns.{Running, spawned_in}
use Rattle.schedule_machine.specs.Threads.{Setting}
use Rattle.schedule_machine.specs.Runs.{spawned_at, started_at, system_by, next_after}
use Rattle.schedule_machine.proofs.Starting.{spawned_apart, spawned_past}
use Rattle.schedule_program.specs.Runs.{with_spawned}

-- a question that is no spawn starts nobody, and gives no number out
pub started_none : (s : Setting) (next : ℕ) (question : Question) → ((arg : ℕ) → question ≡ Spawn arg → ⊥) → (m : ℕ) → started_at s next question m ≡ None
started_none s next (Wait addr width expected timeout) none m = refl
started_none s next (Notify addr count) none m = refl
started_none s next (Spawn arg) none m = absurd (none arg refl)
started_none s next Leave none m = refl

pub next_stays : (next : ℕ) (question : Question) → ((arg : ℕ) → question ≡ Spawn arg → ⊥) → next_after next question ≡ next
next_stays next (Wait addr width expected timeout) none = refl
next_stays next (Notify addr count) none = refl
next_stays next (Spawn arg) none = absurd (none arg refl)
next_stays next Leave none = refl

-- who isn't there hears nothing
pub absent_hears : (s : Setting) (t : Running) (o : Option Answer) → t ≡ Absent → hears_any (system_by s) t o ≡ Absent
absent_hears s t None is = is
absent_hears s t (Some a) is = ap (λ (u : Running). thread_hears (machine_of s.program) u a) is

-- a spawn starts the thread of the next number

spawned_here : (s : Setting) (next arg : ℕ) → next < MOST_THREADS → spawned_at s next arg next ≡ Some (Runs (spawned_in s.worker next arg) s.fuel)
spawned_here s next arg room =
    ap (λ b. cond (b && (next == next)) (Some (Runs (spawned_in s.worker next arg) s.fuel)) None) (lt-ltb next MOST_THREADS room)
    ∙ ap (λ b. cond b (Some (Runs (spawned_in s.worker next arg) s.fuel)) None) (same_is next)

pub spawned_put : (s : Setting) (next arg : ℕ) (f : ℕ → Running) → next < MOST_THREADS → (m : ℕ)
    → with_spawned s next arg f m ≡ put f next (Runs (spawned_in s.worker next arg) s.fuel) m
spawned_put s next arg f room =
    let new : Running = Runs (spawned_in s.worker next arg) s.fuel in
    at_each next (λ m. with_spawned s next arg f m ≡ put f next new m)
    (ap (λ o. or_started o (f next)) (spawned_here s next arg room) ∙ sym (put-same f next new))
    (λ m apart. ap (λ o. or_started o (f m)) (spawned_apart s next arg m apart) ∙ sym (put-other f next new m apart))

pub spawned_none : (s : Setting) (next arg : ℕ) (f : ℕ → Running) → MOST_THREADS ≤ next → (m : ℕ) → with_spawned s next arg f m ≡ f m
spawned_none s next arg f full =
    at_each next (λ m. with_spawned s next arg f m ≡ f m)
    (ap (λ o. or_started o (f next)) (spawned_past s next arg next full))
    (λ m apart. ap (λ o. or_started o (f m)) (spawned_apart s next arg m apart))
