-- What threads without a budget make, threads with enough units make too.
use Rattle.std.proofs.Common.{◌≡◌, ℕ, zero, suc, ◌<◌, ◌-◌, List, [], ◌∷◌, ◌++◌, length, refl, sym, ◌∙◌, ap, subst, arith, Option, Some, None}
use Rattle.schedule.specs.Machine.{Machine, Thread, Thread.Absent, Thread.Runs, Thread.Leaves, Thread.Left}
use Rattle.schedule.specs.Machine.{Wish, Wish.Asks, Wish.Ends, Wish.Goes, Wish.Waits, takes_by, thread_wants, thread_goes, thread_takes, thread_hears, wanted}
use Rattle.schedule.specs.System.{Kind.Turn, System, State, Want, Want.Turns, Want.Calls, Want.Awaits, Want.Gone, put}
use Rattle.schedule.specs.Scheduled.{after_turn, after_mark, scheduled_run, entries_by, entries_at, entries_made, hears_any, or_started}
use Rattle.schedule.proofs.Basics.{at_each, put-same, put-other}
use Rattle.search_threads.specs.Unlimited.{Unlimited, Unlimited.Missing, Unlimited.Going, Unlimited.Leaving, Unlimited.Away}
use Rattle.search_threads.specs.Unlimited.{want_by, unlimited_wants, unlimited_goes, unlimited_takes, unlimited_hears, reply_by}
use Rattle.search_threads.specs.Budgets.{IsSame, started_with, started_without, first_with, first_without, with_budget, without_budget}
use Rattle.search_threads.specs.Budgets.{turns_of, RunsWithBudget}

-- the same thread, with more units than this
abbrev HasMore : {C O : Type 0} → ℕ → Unlimited C O → Thread C O → Type 0
HasMore j Missing t = t ≡ Absent
HasMore j (Going c) t = (left : ℕ) × (t ≡ Runs c left) × (j < left)
HasMore j (Leaving o) t = (left : ℕ) × (t ≡ Leaves o left)
HasMore j (Away o) t = (left : ℕ) × (t ≡ Left o left)

less : {C O : Type 0} (j : ℕ) (v : Unlimited C O) (t : Thread C O) → HasMore (suc j) v t → HasMore j v t
less j Missing t h = h
less j (Going c) t h = let more = h.2 in (h.0, h.1, omega (arith, more))
less j (Leaving o) t h = h
less j (Away o) t h = h

is_same : {C O : Type 0} (j : ℕ) (v : Unlimited C O) (t : Thread C O) → HasMore j v t → IsSame v t
is_same j Missing t h = h
is_same j (Going c) t h = (h.0, h.1)
is_same j (Leaving o) t h = h
is_same j (Away o) t h = h

first_more : (C O : Type 0) (j fuel : ℕ) (o : Option C) → j < fuel → HasMore {C = C} {O = O} j (first_without o) (first_with fuel o)
first_more C O j fuel None h = refl
first_more C O j fuel (Some c) h = (fuel, refl, h)

module _ {C E V A O : Type 0} (k : Machine C E V A O) where
  wanted_same : (n : ℕ) (w : Wish E O) → 0 < n → wanted k n w ≡ want_by k w
  wanted_same n Waits h = refl
  wanted_same n (Ends o) h = refl
  wanted_same n Goes h = refl
  wanted_same zero (Asks e) h = absurd (omega (arith, h))
  wanted_same (suc n) (Asks e) h = refl

  wants_same : (j : ℕ) (v : Unlimited C O) (t : Thread C O) → HasMore j v t → thread_wants k t ≡ unlimited_wants k v
  wants_same j Missing t h = ap (thread_wants k) h
  wants_same j (Going c) t h = let more = h.2 in ap (thread_wants k) h.1 ∙ wanted_same h.0 (k.wishes c) (omega (arith, more))
  wants_same j (Leaving o) t h = ap (thread_wants k) h.1
  wants_same j (Away o) t h = ap (thread_wants k) h.1

  went : (j : ℕ) (c : C) (left : ℕ) → suc j < left → HasMore {C = C} {O = O} j (Going (k.goes c)) (thread_goes k (Runs c left))
  went j c zero h = absurd (omega (arith, h))
  went j c (suc n) h = (n, refl, omega (arith, h))

  goes_more : (j : ℕ) (v : Unlimited C O) (t : Thread C O) → HasMore (suc j) v t → HasMore j (unlimited_goes k v) (thread_goes k t)
  goes_more j Missing t h = ap (thread_goes k) h
  goes_more j (Going c) t h =
      subst (λ z. HasMore j (Going (k.goes c)) (thread_goes k z)) (sym h.1)
      (went j c h.0 h.2)
  goes_more j (Leaving o) t h = (h.0, ap (thread_goes k) h.1)
  goes_more j (Away o) t h = (h.0, ap (thread_goes k) h.1)

  took : (j : ℕ) (w : Wish E O) (c : C) (left : ℕ) (v : V) → suc j < left → HasMore j (reply_by k w c v) (takes_by k w c left v)
  took j Waits c left v h = (left, refl, omega (arith, h))
  took j (Ends o) c left v h = (left, refl)
  took j Goes c left v h = (left, refl, omega (arith, h))
  took j (Asks e) c left v h = (left - 1, refl, omega (arith, h))

  takes_more : (j : ℕ) (v : Unlimited C O) (t : Thread C O) (r : V) → HasMore (suc j) v t → HasMore j (unlimited_takes k v r) (thread_takes k t r)
  takes_more j Missing t r h = ap (λ z. thread_takes k z r) h
  takes_more j (Going c) t r h =
      subst (λ z. HasMore j (reply_by k (k.wishes c) c r) (thread_takes k z r)) (sym h.1) (took j (k.wishes c) c h.0 r h.2)
  takes_more j (Leaving o) t r h = (h.0, ap (λ z. thread_takes k z r) h.1)
  takes_more j (Away o) t r h = (h.0, ap (λ z. thread_takes k z r) h.1)

  hears_more : (j : ℕ) (v : Unlimited C O) (t : Thread C O) (a : A) → HasMore j v t → HasMore j (unlimited_hears k v a) (thread_hears k t a)
  hears_more j Missing t a h = ap (λ z. thread_hears k z a) h
  hears_more j (Going c) t a h = (h.0, ap (λ z. thread_hears k z a) h.1, h.2)
  hears_more j (Leaving o) t a h = (h.0, ap (λ z. thread_hears k z a) h.1)
  hears_more j (Away o) t a h = (h.0, ap (λ z. thread_hears k z a) h.1)

  module _ {X : Type 0} (reply : X → ℕ → E → V) (after : X → ℕ → E → X) (gives : X → ℕ → E → ℕ → Option A)
      (starts : X → ℕ → E → ℕ → Option C) (fuel : ℕ) where
    abbrev s : System X (Thread C O) E V A
    s = with_budget k reply after gives starts fuel

    abbrev u : System X (Unlimited C O) E V A
    u = without_budget k reply after gives starts

    abbrev metered : X → (ℕ → Thread C O) → State X (Thread C O)
    metered x f = record { shared = x; threads = f }

    abbrev free : X → (ℕ → Unlimited C O) → State X (Unlimited C O)
    free x g = record { shared = x; threads = g }

    abbrev AllHaveMore : ℕ → (ℕ → Thread C O) → (ℕ → Unlimited C O) → Type 0
    AllHaveMore j f g = (m : ℕ) → HasMore j (g m) (f m)

    hears_any_more : (j : ℕ) (v : Unlimited C O) (t : Thread C O) (o : Option A) → HasMore j v t → HasMore j (hears_any u v o) (hears_any s t o)
    hears_any_more j v t None h = h
    hears_any_more j v t (Some a) h = hears_more j v t a h

    started_more : (j : ℕ) (o : Option C) (v : Unlimited C O) (t : Thread C O) → j < fuel → HasMore j v t
        → HasMore j (or_started (started_without o) v) (or_started (started_with fuel o) t)
    started_more j None v t within h = h
    started_more j (Some c) v t within h = (fuel, refl, within)

    put_more : (j n : ℕ) (f : ℕ → Thread C O) (g : ℕ → Unlimited C O) (v : Unlimited C O) (t : Thread C O) → AllHaveMore (suc j) f g
        → HasMore j v t → AllHaveMore j (put f n t) (put g n v)
    put_more j n f g v t all h =
        at_each n (λ m. HasMore j (put g n v m) (put f n t m))
        (subst (λ z. HasMore j z (put f n t n)) (sym (put-same g n v)) (subst (λ z. HasMore j v z) (sym (put-same f n t)) h))
        (λ m apart. subst (λ z. HasMore j z (put f n t m)) (sym (put-other g n v m apart))
        (subst (λ z. HasMore j (g m) z) (sym (put-other f n t m apart)) (less j (g m) (f m) (all m))))

    -- along some turns the same comes of both
    record Agree (w : State X (Thread C O)) (v : State X (Unlimited C O)) (turns : List ℕ) : Type 0 where
      pub entries : entries_made s w (turns_of turns) ≡ entries_made u v (turns_of turns)
      pub shared : (scheduled_run s w (turns_of turns)).shared ≡ (scheduled_run u v (turns_of turns)).shared
      pub threads : (m : ℕ) → IsSame ((scheduled_run u v (turns_of turns)).threads m) ((scheduled_run s w (turns_of turns)).threads m)

    abbrev On : ℕ → List ℕ → Type 0
    On j turns = (x : X) (f : ℕ → Thread C O) (g : ℕ → Unlimited C O) → AllHaveMore j f g → Agree (metered x f) (free x g) turns

    -- what comes of one turn, by what its thread wants
    by_want : (want : Want E) (x : X) (f : ℕ → Thread C O) (g : ℕ → Unlimited C O) (n : ℕ) (turns : List ℕ) → length turns < fuel
        → AllHaveMore (suc (length turns)) f g → On (length turns) turns
        → Agree (after_turn s (metered x f) n want) (after_turn u (free x g) n want) turns
    by_want Turns x f g n turns within all on =
        on x (put f n (thread_goes k (f n))) (put g n (unlimited_goes k (g n)))
        (put_more (length turns) n f g (unlimited_goes k (g n)) (thread_goes k (f n)) all (goes_more (length turns) (g n) (f n) (all n)))
    by_want (Calls e) x f g n turns within all on =
        on (after x n e)
        (λ m. or_started (started_with fuel (starts x n e m)) (hears_any s (put f n (thread_takes k (f n) (reply x n e)) m) (gives x n e m)))
        (λ m. or_started (started_without (starts x n e m)) (hears_any u (put g n (unlimited_takes k (g n) (reply x n e)) m) (gives x n e m)))
        (λ m. let took = put_more (length turns) n f g (unlimited_takes k (g n) (reply x n e)) (thread_takes k (f n) (reply x n e)) all
        (takes_more (length turns) (g n) (f n) (reply x n e) (all n)) in
        started_more (length turns) (starts x n e m)
        (hears_any u (put g n (unlimited_takes k (g n) (reply x n e)) m) (gives x n e m))
        (hears_any s (put f n (thread_takes k (f n) (reply x n e)) m) (gives x n e m)) within
        (hears_any_more (length turns) (put g n (unlimited_takes k (g n) (reply x n e)) m) (put f n (thread_takes k (f n) (reply x n e)) m)
        (gives x n e m) (took m)))
    by_want Awaits x f g n turns within all on = on x f g (λ m. less (length turns) (g m) (f m) (all m))
    by_want Gone x f g n turns within all on = on x f g (λ m. less (length turns) (g m) (f m) (all m))

    entries_by_want : (want : Want E) (x : X) (f : ℕ → Thread C O) (g : ℕ → Unlimited C O) (n : ℕ)
        → entries_by s (metered x f) n want ≡ entries_by u (free x g) n want
    entries_by_want Turns x f g n = refl
    entries_by_want (Calls e) x f g n = refl
    entries_by_want Awaits x f g n = refl
    entries_by_want Gone x f g n = refl

    one_more : (w : State X (Thread C O)) (v : State X (Unlimited C O)) (n : ℕ) (turns : List ℕ) → entries_at s w n Turn ≡ entries_at u v n Turn
        → Agree (after_mark s w n Turn) (after_mark u v n Turn) turns → Agree w v (n ∷ turns)
    one_more w v n turns e a = record { entries = λ i. e i ++ a.entries i; shared = a.shared; threads = a.threads }

    agree : (turns : List ℕ) → length turns < fuel → On (length turns) turns
    agree [] within x f g all = record { entries = refl; shared = refl; threads = λ m. is_same 0 (g m) (f m) (all m) }
    agree (n ∷ turns) within x f g all =
        let same : thread_wants k (f n) ≡ unlimited_wants k (g n) = wants_same (suc (length turns)) (g n) (f n) (all n) in
        let want = unlimited_wants k (g n) in
        one_more (metered x f) (free x g) n turns
        (ap (entries_by s (metered x f) n) same ∙ entries_by_want want x f g n)
        (subst (λ z. Agree (after_turn s (metered x f) n z) (after_turn u (free x g) n want) turns) (sym same)
        (by_want want x f g n turns (omega (arith, within)) all (agree turns (omega (arith, within)))))

    pub runs_with_budget : (x : X) (first : ℕ → Option C) (turns : List ℕ) → length turns < fuel
        → RunsWithBudget k reply after gives starts fuel x first turns
    runs_with_budget x first turns within =
        let a = agree turns within x (λ m. first_with fuel (first m)) (λ m. first_without (first m)) (λ m. first_more C O (length turns) fuel (first m) within)
        in
        record { entries = a.entries; shared = a.shared; threads = a.threads }
