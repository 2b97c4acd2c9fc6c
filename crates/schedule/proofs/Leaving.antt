-- A thread with a budget enters a leave and its answer last.
use Rattle.std.proofs.Common.{◌≡◌, ℕ, zero, suc, ◌-◌, List, [], ◌∷◌, refl, sym, ap, subst, Option}
use Rattle.schedule.specs.Machine.{Machine, Thread, Thread.Leaves, Thread.Left, Thread.Over, Thread.Runs, Wish}
use Rattle.schedule.specs.Machine.{Wish.Asks, Wish.Ends, Wish.Goes, Wish.Waits, system, takes_by, wanted}
use Rattle.schedule.specs.System.{Act, Act.Heard, Act.Made, Step, Step.Acts, Step.Full, Step.Lost, Step.Own, System, Want.Calls, Want.Gone}
use Rattle.schedule.specs.ThreadRun.{IsThreadRun, acts}
use Rattle.schedule.specs.Theorems.{LeavesLast}

module _ {C E V A O : Type 0} (k : Machine C E V A O) where
  pub never_gone : (n : ℕ) (w : Wish E O) → wanted k n w ≡ Gone → ⊥
  never_gone n Waits h = cc
  never_gone n (Ends o) h = cc
  never_gone n Goes h = cc
  never_gone zero (Asks e) h = cc
  never_gone (suc n) (Asks e) h = cc

  one_more : (a : Act E V A) (acts : List (Act E V A)) (end : Thread C O) → LeavesLast k acts end → LeavesLast k (a ∷ acts) end
  one_more a acts end h = record {
    before = a ∷ h.before;
    reply = h.reply;
    answer = h.answer;
    outcome = h.outcome;
    left = h.left;
    entries = ap (λ z. a ∷ z) h.entries;
    ends = h.ends;
  }

  module _ {X : Type 0} (reply : X → ℕ → E → V) (after : X → ℕ → E → X) (gives : X → ℕ → E → ℕ → Option A) (starts : X → ℕ → E → ℕ → Option (Thread C O)) where
    abbrev s : System X (Thread C O) E V A
    s = system k reply after gives starts

    left_ends : (o : O) (n : ℕ) (r : List (Step E V A)) (end : Thread C O) → IsThreadRun s (Left o n) r end → (acts r ≡ []) × (end ≡ Left o n)
    left_ends o n [] end run = (refl, sym run.1)
    left_ends o n (Own ∷ r) end run = absurd (cc (run.0))
    left_ends o n (Lost y ∷ r) end run = absurd (cc (run.0.0))
    left_ends o n (Full y ∷ r) end run = absurd (cc (run.0.0))
    left_ends o n (Acts (Made e v) ∷ r) end run = absurd (cc (run.0))
    left_ends o n (Acts (Heard a) ∷ r) end run = absurd (cc (run.0))

    leaves_ends : (o : O) (n : ℕ) (v : V) (r : List (Step E V A)) (end : Thread C O)
        → IsThreadRun s (Leaves o n) r end → LeavesLast k (Made k.leave v ∷ acts r) end
    leaves_ends o n v [] end run = absurd (cc (run.0))
    leaves_ends o n v (Own ∷ r) end run = absurd (cc (run.0))
    leaves_ends o n v (Lost y ∷ r) end run = absurd (cc (run.0.0))
    leaves_ends o n v (Full y ∷ r) end run = absurd (cc (run.0.0))
    leaves_ends o n v (Acts (Made e v') ∷ r) end run = absurd (cc (run.0))
    leaves_ends o n v (Acts (Heard a) ∷ r) end run =
        let rest = left_ends o n r end run.1 in
        record { before = []; reply = v; answer = a; outcome = o; left = n; entries = ap (λ z. Made k.leave v ∷ Heard a ∷ z) rest.0; ends = rest.1 }

    over_ends : (o : O) (n : ℕ) (r : List (Step E V A)) (end : Thread C O) → IsThreadRun s (Over o n) r end → LeavesLast k (acts r) end
    over_ends o n [] end run = absurd (cc (run.0))
    over_ends o n (Own ∷ r) end run = absurd (cc (run.0))
    over_ends o n (Lost y ∷ r) end run = absurd (cc (run.0.1))
    over_ends o n (Full y ∷ r) end run = absurd (cc (run.0.1))
    over_ends o n (Acts (Made e v) ∷ r) end run =
        let same : k.leave ≡ e = cc (run.0) in
        subst (λ z. LeavesLast k (Made z v ∷ acts r) end) same (leaves_ends o n v r end run.1)
    over_ends o n (Acts (Heard a) ∷ r) end run = absurd (cc (run.0))

    made_ends : (w : Wish E O) (c : C) (n : ℕ) (e : E) (v : V) (r : List (Step E V A)) (end : Thread C O)
        → wanted k n w ≡ Calls e → IsThreadRun s (takes_by k w c n v) r end
        → (IsThreadRun s (Runs (k.takes c v) (n - 1)) r end → LeavesLast k (acts r) end) → LeavesLast k (Made e v ∷ acts r) end
    made_ends Goes c n e v r end fits run more = absurd (cc (fits))
    made_ends Waits c n e v r end fits run more = absurd (cc (fits))
    made_ends (Ends o) c n e v r end fits run more =
        let same : k.leave ≡ e = cc (fits) in
        subst (λ z. LeavesLast k (Made z v ∷ acts r) end) same (leaves_ends o n v r end run)
    made_ends (Asks x) c n e v r end fits run more = one_more (Made e v) (acts r) end (more run)

    pub leaves_last : (r : List (Step E V A)) (c : C) (n : ℕ) (end : Thread C O) → IsThreadRun s (Runs c n) r end → LeavesLast k (acts r) end
    leaves_last [] c n end run = absurd (never_gone n (k.wishes c) run.0)
    leaves_last (Own ∷ r) c zero end run = over_ends k.out_of_fuel 0 r end run.1
    leaves_last (Own ∷ r) c (suc n) end run = leaves_last r (k.goes c) n end run.1
    leaves_last (Lost y ∷ r) c n end run = leaves_last r c (n - 1) end run.1
    leaves_last (Full y ∷ r) c n end run = over_ends k.record_full n r end run.1
    leaves_last (Acts (Made e v) ∷ r) c n end run = made_ends (k.wishes c) c n e v r end run.0 run.1 (λ z. leaves_last r (k.takes c v) (n - 1) end z)
    leaves_last (Acts (Heard a) ∷ r) c n end run = one_more (Heard a) (acts r) end (leaves_last r (k.hears c a) n end run.1)
