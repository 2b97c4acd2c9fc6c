-- Where a walk begins.
use Rattle.std.proofs.Common.{◌≡◌, ◌≢◌, ℕ, ◌<◌, ◌≤◌, true, List, [], ◌∷◌, length, replicate, Option, Some, None, refl, sym}
use Rattle.std.proofs.Common.{subst, ap, inl, inr, arith, get_or, slice_get}
use Rattle.std.proofs.lemmas.Bool.{cases_lt}
use Rattle.std.proofs.lemmas.List.{get_or-replicate, get_or_past, length-replicate}
use Rattle.types.specs.declared.event.Answer.{Answer}
use Rattle.types.specs.declared.outcome.Outcome.{Outcome}
use Rattle.types.specs.declared.limits.TheConstants.{MOST_THREADS}
use Rattle.shared_memory.specs.Memory.{Memory}
use Rattle.shared_memory.specs.WaitQueue.{first_queue, is_alive, next_id}
use Rattle.shared_memory.proofs.Soundness.{IsSound-opening}
use Rattle.schedule.specs.Histories.{Place, Place.Unstarted, Place.Free}
use Rattle.schedule.specs.Machine.{Thread.Absent, Thread.Runs}
use Rattle.schedule.proofs.Basics.{at_each, put-same, put-other}
use Rattle.interp_machine.specs.Program.{Program}
use Rattle.interp_machine.specs.State.{At}
use Rattle.schedule_threads.specs.Shared.{without_dues}
use Rattle.schedule_runs.specs.Runs.{state_for, first_places}
use Rattle.schedule_runs.proofs.Linked.{first_stand_for}
use Rattle.interp_trait.specs.Turns.{Running, Meaning}
use Rattle.replay_walk.specs.Standing.{StandsAt}
use Rattle.replay_walk.specs.Walked.{Run, HasThreads, start, IsReady, HasWalked}

none_ends : (m : ℕ) → get_or (replicate {A = Option Outcome} MOST_THREADS None) m None ≡ None
none_ends m = elim (cases_lt m MOST_THREADS) [
  | inl within ↦ get_or-replicate MOST_THREADS m None None within
  | inr past ↦
      get_or_past (replicate MOST_THREADS None) m None past
]

first_alone : (most : ℕ) → (is_alive (first_queue most) 0 ≡ true) × (1 ≡ next_id (first_queue most)) × (first_queue most ≡ without_dues (first_queue most))
unfolding first_queue
first_alone most = (
  refl,
  refl,
  ap (λ (k : ℕ). record (first_queue most) { due = replicate k None }) (sym (length-replicate {A = Option Answer} most None)),
)

first_of : {S : Type 0} (threads : List S) → 0 < length threads → (x : S) × (slice_get threads 0 ≡ Some x)
first_of [] h = absurd (omega arith)
first_of (x ∷ threads) h = (x, refl)

some_thread : (p : Program) (count : ℕ) → HasThreads p count → 0 < count
some_thread p count (inl all) = omega arith
some_thread p count (inr alone) = let one : count ≡ 1 = alone.1 in omega arith

module _ {S : Type 0} (meaning : S → Meaning)
    (r : Run) (threads : List S) (memory : Memory) (ready : IsReady meaning r threads memory) where
  abbrev Stands : ℕ → Place Answer → Running → Option Outcome → Type 0
  Stands m place t gone = StandsAt meaning r.program r.worker place t (slice_get threads m) gone (is_alive (first_queue r.threads) m)

  abbrev threads_at : ℕ → Running
  threads_at m = (state_for r.threads (start r)).threads m

  here : Stands 0 Free (Runs (At r.main) r.budget) None
  here =
      let x = first_of threads (some_thread r.program (length threads) ready.count) in
      (record { thread = x.0; at = x.1; standing = ready.first x.0 x.1; here = tt }, (first_alone r.threads).0)

  there : (m : ℕ) → m ≢ 0 → Stands m Unstarted Absent None
  there m h = (refl, λ x at. ready.others m x h at)

  each : (m : ℕ) → Stands m (first_places m) (threads_at m) (get_or (replicate MOST_THREADS None) m None)
  each m =
      subst (λ (o : Option Outcome). Stands m (first_places m) (threads_at m) o) (sym (none_ends m))
      (at_each 0 (λ m. Stands m (first_places m) (threads_at m) None)
      (subst (λ p. Stands 0 p (threads_at 0) None) (sym (put-same (λ (k : ℕ). Unstarted) 0 Free))
      (subst (λ t. Stands 0 Free t None) (sym (put-same (λ (k : ℕ). Absent) 0 (Runs (At r.main) r.budget))) here))
      (λ m h. subst (λ p. Stands m p (threads_at m) None) (sym (put-other (λ (k : ℕ). Unstarted) 0 Free m h))
      (subst (λ t. Stands m Unstarted t None) (sym (put-other (λ (k : ℕ). Absent) 0 (Runs (At r.main) r.budget) m h)) (there m h))) m)

  pub begun : 0 < r.threads → r.threads ≤ MOST_THREADS
      → HasWalked meaning r [] threads memory (first_queue r.threads) 1 (replicate MOST_THREADS None)
  begun some few = record {
    count = ready.count;
    state = state_for r.threads (start r);
    places = first_places;
    walks = (refl, refl);
    standing = record {
      shared = λ i. record { memory = sym ready.opening i; queue = (first_alone r.threads).2 i };
      places = first_stand_for r.threads;
      sound = IsSound-opening r.threads some few;
      started = (first_alone r.threads).1;
      slots = refl;
      alike = ready.alike;
      each = each;
    };
  }
