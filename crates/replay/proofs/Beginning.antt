-- How every run of a module begins, and the laws of its threads.
use Rattle.std.proofs.Common.{◌≡◌, ℕ, sym, ◌∙◌, ap, subst}
use Rattle.types.specs.declared.event.Answer.{Answer}
use Rattle.types.specs.declared.outcome.Outcome.{Outcome}
use Rattle.schedule.specs.System.{Want.Gone}
use Rattle.schedule.specs.ThreadRun.{Laws}
use Rattle.schedule.specs.Histories.{Place, Place.Unstarted, Place.Free, IsClosed}
use Rattle.schedule.specs.Machine.{Thread, Thread.Absent, Thread.Runs, thread_wants}
use Rattle.schedule.proofs.Basics.{at_each, put-same, put-other}
use Rattle.interp_machine.specs.State.{State}
use Rattle.schedule_threads.specs.Threads.{machine_of}
use Rattle.schedule_threads.proofs.Threads.{system_laws}
use Rattle.schedule_threads.proofs.Asking.{machine_laws}
use Rattle.schedule_runs.specs.Runs.{Start, system_of, state_for, first_places}
use Rattle.replay_rules.specs.Theorems.{IsBeginning}

pub laws_of : (b : Start) → Laws (system_of b)
laws_of b = system_laws State (machine_of b.program) b.spawned b.fuel (machine_laws b.program)

abbrev nobody : ℕ → Place Answer
nobody m = Unstarted

abbrev nothing : ℕ → Thread State Outcome
nothing m = Absent

-- thread 0 alone is there, and no question is open
pub begins : (most : ℕ) (b : Start) → IsBeginning (system_of b) (state_for most b) first_places
begins most b = record {
  closed = at_each 0 (λ m. IsClosed (first_places m)) (subst IsClosed (sym (put-same nobody 0 Free)) tt)
      (λ m h. subst IsClosed (sym (put-other nobody 0 Free m h)) tt);
  idle = at_each 0 (λ m. first_places m ≡ Unstarted → thread_wants (machine_of b.program) ((state_for most b).threads m) ≡ Gone)
      (λ e. let bad : ◌≡◌ {A = Place Answer} Free Unstarted = sym (put-same nobody 0 Free) ∙ e in absurd (cc bad))
      (λ m h e. ap (thread_wants (machine_of b.program)) (put-other nothing 0 (Runs b.main b.fuel) m h));
}
