-- The threads that a course didn't start.
use Rattle.std.proofs.Common.{◌≡◌, ℕ, zero, suc, ◌≤◌, List, [], ◌∷◌, length, drop, Option, Some, None, All, refl, sym, ◌∙◌, subst, arith, get_or, slice_get}
use Rattle.std.proofs.lemmas.List.Elements.{All-nil, All-cons}
use Rattle.types.specs.declared.outcome.Outcome.{Outcome}
use Rattle.shared_memory.specs.WaitQueue.{WaitQueue, is_alive, next_id}
use Rattle.schedule.specs.Histories.{Place.Unstarted}
use Rattle.schedule_runs.proofs.Places.{place_unstarted}
use Rattle.interp_trait.specs.Turns.{Meaning, spawn_types}
use Rattle.replay_walk.specs.Standing.{StandsAt, Standing, IsStanding}
use Rattle.replay_walk.specs.Walked.{Run, standing_in}
use Rattle.search_scheduled.specs.declared.course.Course.{Course}
use Rattle.search_scheduled.specs.Courses.{CameAlong}
use Rattle.search_scheduled.specs.SpareThreads.{IsUnused}

-- nothing lies behind the end of a list
pub drop_past : {A : Type 0} (n : ℕ) (xs : List A) → length xs ≤ n → drop n xs ≡ []
drop_past zero [] h = refl
drop_past zero (x ∷ xs) h = absurd (omega (arith, h))
drop_past (suc n) [] h = refl
drop_past (suc n) (x ∷ xs) h = drop_past n xs (omega (arith, h))

module _ {A : Type 0} (P : A → Type 0) where
  each : (xs : List A) → ((k : ℕ) (x : A) → slice_get xs k ≡ Some x → P x) → All P xs
  each [] h = All-nil P
  each (x ∷ xs) h = All-cons P x xs (h 0 x refl) (each xs (λ k y at. h (suc k) y at))

  -- what holds at each place from one on
  each_behind : (n : ℕ) (xs : List A) → ((k : ℕ) (x : A) → n ≤ k → slice_get xs k ≡ Some x → P x) → All P (drop n xs)
  each_behind zero xs h = each xs (λ k x at. h k x (omega arith) at)
  each_behind (suc n) [] h = All-nil P
  each_behind (suc n) (x ∷ xs) h = each_behind n xs (λ k y le at. h (suc k) y (omega (arith, le)) at)

module _ {S : Type 0} (meaning : S → Meaning) where
  -- who isn't started is as it begins
  unstarted : (s : Standing) (threads : List S) (queue : WaitQueue) (begun : ℕ) (ends : List (Option Outcome)) → IsStanding meaning s threads queue begun ends
      → (k : ℕ) → begun ≤ k → (x : S) → slice_get threads k ≡ Some x → (meaning x).begins spawn_types s.worker
  unstarted s threads queue begun ends on k past x at =
      let started : begun ≡ next_id queue = on.started in
      let behind : next_id queue ≤ k = omega (arith, started, past) in
      go (get_or ends k None)
      (subst (λ p. StandsAt meaning s.program s.worker p (s.state.threads k) (slice_get threads k) (get_or ends k None) (is_alive queue k))
      (on.places k ∙ place_unstarted queue k behind) (on.each k))
    where
      go : (gone : Option Outcome) → StandsAt meaning s.program s.worker Unstarted (s.state.threads k) (slice_get threads k) gone (is_alive queue k)
          → (meaning x).begins spawn_types s.worker
      go None h = h.1 x at
      go (Some o) h = absurd h

  pub unused_are : (run : Run) (c : Course S) → CameAlong meaning run c → (unused : List S) → unused ≡ drop c.walk.stage.started c.walk.threads.items
      → All (IsUnused meaning run) unused
  unused_are run c came unused is =
      let w = came.walk in
      let s = standing_in run c.walk.memory w.state w.places in
      subst (All (IsUnused meaning run)) (sym is)
      (each_behind (IsUnused meaning run) c.walk.stage.started c.walk.threads.items (λ k x past at. record {
        program_is = (w.standing.alike k x at).0;
        fuel_is = (w.standing.alike k x at).1;
        begins_so = unstarted s c.walk.threads.items c.walk.stage.queue c.walk.stage.started c.walk.stage.ends w.standing k past x at;
      }))
