-- A run of a thread with a budget, its units aside.
use Rattle.std.proofs.Common.{◌≡◌, ◌⊎◌, inl, inr, ℕ, zero, suc, ◌-◌, Bool, true, false, List, [], ◌∷◌, refl, sym, ◌∙◌, ap, subst, Option, Some, None}
use Rattle.schedule.specs.Machine.{Machine, Thread, Thread.Absent, Thread.Runs, Thread.Over, Thread.Leaves, Thread.Left}
use Rattle.schedule.specs.Machine.{Wish, Wish.Asks, Wish.Ends, Wish.Goes, Wish.Waits, takes_by, thread_wants, wanted}
use Rattle.schedule.specs.System.{Act, Act.Made, Act.Heard, Step, Step.Own, Step.Lost, Step.Full, Step.Acts, Entry, System}
use Rattle.schedule.specs.System.{Want.Turns, Want.Calls, Want.Awaits, Want.Gone, put}
use Rattle.schedule.specs.ThreadRun.{IsThreadRun, acts}
use Rattle.schedule.specs.Histories.{Place, Place.Unstarted, placed, next_shared, next_places, places_after, IsLegalEntry, IsLegalHistory}
use Rattle.schedule.specs.Histories.{StartedRunAt, StartedRun}
use Rattle.schedule.specs.Schedules.{ThreadsRun}
use Rattle.schedule.proofs.Leaving as budgets
use Rattle.search_threads.specs.Unlimited.{Unlimited, Unlimited.Going}
use Rattle.search_threads.specs.Unlimited.{want_by, unlimited_wants, reply_by}
use Rattle.search_threads.specs.Budgets.{unmetered, started_with, started_without, first_with, first_without, with_budget, without_budget}
use Rattle.search_threads.specs.Budgets.{first_state_with, first_state_without, NobodyStops}

-- the steps but for lost tries
abbrev pub kept : {E V A : Type 0} → List (Step E V A) → List (Step E V A)
kept [] = []
kept (Own ∷ r) = Own ∷ kept r
kept (Lost e ∷ r) = kept r
kept (Full e ∷ r) = kept r
kept (Acts a ∷ r) = Acts a ∷ kept r

acts_kept : {E V A : Type 0} (r : List (Step E V A)) → acts (kept r) ≡ acts r
acts_kept [] = refl
acts_kept (Own ∷ r) = acts_kept r
acts_kept (Lost e ∷ r) = acts_kept r
acts_kept (Full e ∷ r) = acts_kept r
acts_kept (Acts a ∷ r) = ap (λ z. a ∷ z) (acts_kept r)

abbrev IsNotOver : {C O : Type 0} → Thread C O → Type 0
IsNotOver Absent = Unit {0}
IsNotOver (Runs c left) = Unit {0}
IsNotOver (Over o left) = ⊥
IsNotOver (Leaves o left) = Unit {0}
IsNotOver (Left o left) = Unit {0}

first_not_over : (C O : Type 0) (fuel : ℕ) (o : Option C) → IsNotOver {C = C} {O = O} (first_with fuel o)
first_not_over C O fuel None = tt
first_not_over C O fuel (Some c) = tt

first_same : (C O : Type 0) (fuel : ℕ) (o : Option C) → unmetered {C = C} {O = O} (first_with fuel o) ≡ first_without o
first_same C O fuel None = refl
first_same C O fuel (Some c) = refl

module _ {C E V A O : Type 0} (k : Machine C E V A O) where
  gone : (t : Thread C O) → thread_wants k t ≡ Gone → unlimited_wants k (unmetered t) ≡ Gone
  gone Absent h = refl
  gone (Runs c n) h = absurd (budgets.never_gone k n (k.wishes c) h)
  gone (Over o n) h = absurd (cc h)
  gone (Leaves o n) h = absurd (cc h)
  gone (Left o n) h = refl

  goes : (n : ℕ) (w : Wish E O) → wanted k (suc n) w ≡ Turns → want_by k w ≡ Turns
  goes n Waits h = absurd (cc h)
  goes n (Ends o) h = absurd (cc h)
  goes n Goes h = refl
  goes n (Asks e) h = absurd (cc h)

  waits : (n : ℕ) (w : Wish E O) → wanted k n w ≡ Awaits → want_by k w ≡ Awaits
  waits n Waits h = refl
  waits n (Ends o) h = absurd (cc h)
  waits n Goes h = absurd (cc h)
  waits zero (Asks e) h = absurd (cc h)
  waits (suc n) (Asks e) h = absurd (cc h)

  -- an event is made alike
  record IsMadeAlike (w : Wish E O) (c : C) (n : ℕ) (e : E) (v : V) : Type 0 where
    wants : want_by k w ≡ Calls e
    not_over : IsNotOver (takes_by k w c n v)
    same : unmetered (takes_by k w c n v) ≡ reply_by k w c v

  made : (w : Wish E O) (c : C) (n : ℕ) (e : E) (v : V) → wanted k n w ≡ Calls e → IsMadeAlike w c n e v
  made Waits c n e v h = absurd (cc h)
  made (Ends o) c n e v h = record { wants = h; not_over = tt; same = refl }
  made Goes c n e v h = absurd (cc h)
  made (Asks x) c zero e v h = absurd (cc h)
  made (Asks x) c (suc n) e v h = record { wants = h; not_over = tt; same = refl }

  abbrev IsFine : Thread C O → Type 0
  IsFine end = (left : ℕ) (o : O) → end ≡ Left o left → (o ≡ k.out_of_fuel) ⊎ (o ≡ k.record_full) → ⊥

  module _ {X : Type 0} (reply : X → ℕ → E → V) (after : X → ℕ → E → X) (gives : X → ℕ → E → ℕ → Option A)
      (starts : X → ℕ → E → ℕ → Option C) (fuel : ℕ) where
    abbrev s : System X (Thread C O) E V A
    s = with_budget k reply after gives starts fuel

    abbrev u : System X (Unlimited C O) E V A
    u = without_budget k reply after gives starts

    -- one that is over, or asked to leave, or left, ends as it was over
    left_is : (o : O) (n : ℕ) (r : List (Step E V A)) (end : Thread C O) → IsThreadRun s (Left o n) r end → end ≡ Left o n
    left_is o n [] end run = sym run.1
    left_is o n (Own ∷ r) end run = absurd (cc (run.0))
    left_is o n (Lost y ∷ r) end run = absurd (cc (run.0.0))
    left_is o n (Full y ∷ r) end run = absurd (cc (run.0.0))
    left_is o n (Acts (Made e v) ∷ r) end run = absurd (cc (run.0))
    left_is o n (Acts (Heard a) ∷ r) end run = absurd (cc (run.0))

    leaves_is : (o : O) (n : ℕ) (r : List (Step E V A)) (end : Thread C O) → IsThreadRun s (Leaves o n) r end → end ≡ Left o n
    leaves_is o n [] end run = absurd (cc (run.0))
    leaves_is o n (Own ∷ r) end run = absurd (cc (run.0))
    leaves_is o n (Lost y ∷ r) end run = absurd (cc (run.0.0))
    leaves_is o n (Full y ∷ r) end run = absurd (cc (run.0.0))
    leaves_is o n (Acts (Made e v) ∷ r) end run = absurd (cc (run.0))
    leaves_is o n (Acts (Heard a) ∷ r) end run = left_is o n r end run.1

    over_is : (o : O) (n : ℕ) (r : List (Step E V A)) (end : Thread C O) → IsThreadRun s (Over o n) r end → end ≡ Left o n
    over_is o n [] end run = absurd (cc (run.0))
    over_is o n (Own ∷ r) end run = absurd (cc (run.0))
    over_is o n (Lost y ∷ r) end run = absurd (cc (run.0.1))
    over_is o n (Full y ∷ r) end run = absurd (cc (run.0.1))
    over_is o n (Acts (Made e v) ∷ r) end run = leaves_is o n r end run.1
    over_is o n (Acts (Heard a) ∷ r) end run = absurd (cc (run.0))

    -- a thread's run
    pub unmet : (r : List (Step E V A)) (t end : Thread C O) → IsNotOver t → IsFine end → IsThreadRun s t r end
        → IsThreadRun u (unmetered t) (kept r) (unmetered end)
    unmet [] t end here fine run = (gone t run.0, ap unmetered run.1)
    unmet (Own ∷ r) Absent end here fine run = absurd (cc (run.0))
    unmet (Lost e ∷ r) Absent end here fine run = absurd (cc (run.0.0))
    unmet (Full e ∷ r) Absent end here fine run = absurd (cc (run.0.0))
    unmet (Acts (Made e v) ∷ r) Absent end here fine run = absurd (cc (run.0))
    unmet (Acts (Heard a) ∷ r) Absent end here fine run = absurd (cc (run.0))
    unmet (Own ∷ r) (Runs c zero) end here fine run = absurd (fine 0 k.out_of_fuel (over_is k.out_of_fuel 0 r end run.1) (inl refl))
    unmet (Own ∷ r) (Runs c (suc n)) end here fine run = (goes n (k.wishes c) run.0, unmet r (Runs (k.goes c) n) end tt fine run.1)
    unmet (Lost e ∷ r) (Runs c n) end here fine run = unmet r (Runs c (n - 1)) end tt fine run.1
    unmet (Full e ∷ r) (Runs c n) end here fine run = absurd (fine n k.record_full (over_is k.record_full n r end run.1) (inr refl))
    unmet (Acts (Made e v) ∷ r) (Runs c n) end here fine run =
        let m = made (k.wishes c) c n e v run.0 in (
          m.wants,
          subst (λ z. IsThreadRun u z (kept r) (unmetered end)) m.same
              (unmet r (takes_by k (k.wishes c) c n v) end m.not_over fine run.1),
        )
    unmet (Acts (Heard a) ∷ r) (Runs c n) end here fine run = (waits n (k.wishes c) run.0, unmet r (Runs (k.hears c a) n) end tt fine run.1)
    unmet (p ∷ r) (Over o n) end here fine run = absurd here
    unmet (Own ∷ r) (Leaves o n) end here fine run = absurd (cc (run.0))
    unmet (Lost e ∷ r) (Leaves o n) end here fine run = absurd (cc (run.0.0))
    unmet (Full e ∷ r) (Leaves o n) end here fine run = absurd (cc (run.0.0))
    unmet (Acts (Made e v) ∷ r) (Leaves o n) end here fine run = absurd (cc (run.0))
    unmet (Acts (Heard a) ∷ r) (Leaves o n) end here fine run = (refl, unmet r (Left o n) end tt fine run.1)
    unmet (Own ∷ r) (Left o n) end here fine run = absurd (cc (run.0))
    unmet (Lost e ∷ r) (Left o n) end here fine run = absurd (cc (run.0.0))
    unmet (Full e ∷ r) (Left o n) end here fine run = absurd (cc (run.0.0))
    unmet (Acts (Made e v) ∷ r) (Left o n) end here fine run = absurd (cc (run.0))
    unmet (Acts (Heard a) ∷ r) (Left o n) end here fine run = absurd (cc (run.0))

    -- the places of a history
    placed_same : (o : Option C) (g : Option A) (b : Bool) (p : Place A) → placed {A = A} {B = Thread C O} (started_with fuel o) g b p ≡ placed {A = A}
        {B = Unlimited C O}
        (started_without o) g b p
    placed_same (Some c) g b p = refl
    placed_same None (Some a) b p = refl
    placed_same None None true p = refl
    placed_same None None false p = refl

    next_same : (x : X) (q : ℕ → Place A) (n : ℕ) (a : Act E V A) → next_places s x q n a ≡ next_places u x q n a
    next_same x q n (Made e v) = λ i m. placed_same (starts x n e m) (gives x n e m) (put (λ (j : ℕ). false) n (k.opens e v) m) (q m) i
    next_same x q n (Heard a) = refl

    places_step : (x : X) (q : ℕ → Place A) (n : ℕ) (a : Act E V A) (H : List (Entry E V A))
        → ((x : X) (q : ℕ → Place A) → places_after s x q H ≡ places_after u x q H)
        → places_after s (next_shared s x n a) (next_places s x q n a) H ≡ places_after u (next_shared u x n a) (next_places u x q n a) H
    places_step x q n (Made e v) H on = on (after x n e) (next_places s x q n (Made e v))
        ∙ ap (λ z. places_after u (after x n e) z H) (next_same x q n (Made e v))
    places_step x q n (Heard a) H on = on x (put q n Place.Free)

    pub places_same : (H : List (Entry E V A)) (x : X) (q : ℕ → Place A) → places_after s x q H ≡ places_after u x q H
    places_same [] x q = refl
    places_same (h ∷ H) x q = places_step x q h.thread h.act H (λ y p. places_same H y p)

    -- it is legal
    starts_fresh : (o : Option C) (P : Type 0) → ((t : Thread C O) → started_with fuel o ≡ Some t → P)
        → (t : Unlimited C O) → started_without o ≡ Some t → P
    starts_fresh None P f t h = absurd (cc h)
    starts_fresh (Some c) P f t h = f (Runs c fuel) refl

    entry_same : (x : X) (q : ℕ → Place A) (n : ℕ) (a : Act E V A) → IsLegalEntry s x q n a → IsLegalEntry u x q n a
    entry_same x q n (Made e v) l = (l.0, l.1, (λ m t h. starts_fresh (starts x n e m) (q m ≡ Unstarted) (λ t h. l.2 m t h) t h), l.3)
    entry_same x q n (Heard a) l = l

    legal_step : (x : X) (q : ℕ → Place A) (n : ℕ) (a : Act E V A) (H : List (Entry E V A))
        → ((x : X) (q : ℕ → Place A) → IsLegalHistory s x q H → IsLegalHistory u x q H)
        → IsLegalHistory s (next_shared s x n a) (next_places s x q n a) H → IsLegalHistory u (next_shared u x n a) (next_places u x q n a) H
    legal_step x q n (Made e v) H on l = subst (λ z. IsLegalHistory u (after x n e) z H) (next_same x q n (Made e v))
        (on (after x n e) (next_places s x q n (Made e v)) l)
    legal_step x q n (Heard a) H on l = on x (put q n Place.Free) l

    legal_same : (H : List (Entry E V A)) (x : X) (q : ℕ → Place A) → IsLegalHistory s x q H → IsLegalHistory u x q H
    legal_same [] x q l = tt
    legal_same (h ∷ H) x q l = (entry_same x q h.thread h.act l.0, legal_step x q h.thread h.act H (λ y p. legal_same H y p) l.1)

    -- the threads that it starts
    module _ (steps : ℕ → List (Step E V A)) (ends : ℕ → Thread C O) (fine : NobodyStops k reply after gives starts ends) where
      abbrev steps_kept : ℕ → List (Step E V A)
      steps_kept m = kept (steps m)

      abbrev ends_kept : ℕ → Unlimited C O
      ends_kept m = unmetered (ends m)

      started_one : (o : Option C) (m : ℕ) → ((t : Thread C O) → started_with fuel o ≡ Some t → IsThreadRun s t (steps m) (ends m))
          → (t : Unlimited C O) → started_without o ≡ Some t → IsThreadRun u t (steps_kept m) (ends_kept m)
      started_one None m f t h = absurd (cc h)
      started_one (Some c) m f t h =
          let same : Going c ≡ t = cc h in
          subst (λ z. IsThreadRun u z (steps_kept m) (ends_kept m)) same
          (unmet (steps m) (Runs c fuel) (ends m) tt (λ left o. fine m left o) (f (Runs c fuel) refl))

      started_at : (x : X) (n : ℕ) (a : Act E V A) → StartedRunAt s steps ends x n a → StartedRunAt u steps_kept ends_kept x n a
      started_at x n (Made e v) f = λ m t h. started_one (starts x n e m) m (λ t h. f m t h) t h
      started_at x n (Heard a) f = tt

      started_step : (x : X) (n : ℕ) (a : Act E V A) (H : List (Entry E V A))
          → ((x : X) → StartedRun s steps ends x H → StartedRun u steps_kept ends_kept x H)
          → StartedRun s steps ends (next_shared s x n a) H → StartedRun u steps_kept ends_kept (next_shared u x n a) H
      started_step x n (Made e v) H on f = on (after x n e) f
      started_step x n (Heard a) H on f = on x f

      started_same : (H : List (Entry E V A)) (x : X) → StartedRun s steps ends x H → StartedRun u steps_kept ends_kept x H
      started_same [] x f = tt
      started_same (h ∷ H) x f = (started_at x h.thread h.act f.0, started_step x h.thread h.act H (λ y. started_same H y) f.1)

      -- all of it
      pub threads_run : (x : X) (first : ℕ → Option C) (places : ℕ → Place A) (H : List (Entry E V A))
          → ThreadsRun s (first_state_with k reply after gives starts fuel x first) places steps ends H
          → ThreadsRun u (first_state_without k reply after gives starts x first) places steps_kept ends_kept H
      threads_run x first places H run = record {
        legal = legal_same H x places run.legal;
        closed = run.closed;
        idle = λ m h. ap (unlimited_wants k) (sym (first_same C O fuel (first m))) ∙ gone (first_with fuel (first m)) (run.idle m h);
        runs = λ m h. subst (λ z. IsThreadRun u z (kept (steps m)) (unmetered (ends m))) (first_same C O fuel (first m))
            (unmet (steps m) (first_with fuel (first m)) (ends m) (first_not_over C O fuel (first m)) (λ left o. fine m left o) (run.runs m h));
        started = started_same H x run.started;
        entries = λ m. acts_kept (steps m) ∙ run.entries m;
        no_steps = λ m h. ap kept (run.no_steps m (ap (λ f. f m) (places_same H x places) ∙ h));
      }
