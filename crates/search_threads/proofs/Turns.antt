-- A schedule of threads that lose no try and find no log full is one of turns.
use Rattle.std.proofs.Common.{◌≡◌, ℕ, List, [], ◌∷◌, ◌++◌, refl, sym, ◌∙◌, ap, subst}
use Rattle.schedule.specs.System.{Act, Act.Made, Act.Heard, Step, Step.Own, Step.Lost, Step.Full, Step.Acts, Entry, Mark, put}
use Rattle.schedule.specs.ThreadRun.{after_first_act}
use Rattle.schedule.specs.Schedules.{marks_before_act, marks_of_entry, schedule_of}
use Rattle.schedule.proofs.Basics.{at_each, put-same, put-other}
use Rattle.search_threads.specs.Budgets.{turn_of, turns_of}
use Rattle.search_threads.proofs.Unmetering.{kept}

-- turns alone, of some threads
pub record AreTurns (S : List Mark) : Type 0 where
  pub turns : List ℕ
  pub are : turns_of turns ≡ S

turns_append : (ns ms : List ℕ) → turns_of (ns ++ ms) ≡ turns_of ns ++ turns_of ms
turns_append [] ms = refl
turns_append (n ∷ ns) ms = ap (λ z. turn_of n ∷ z) (turns_append ns ms)

both : (S R : List Mark) → AreTurns S → AreTurns R → AreTurns (S ++ R)
both S R s r = record {
  turns = s.turns ++ r.turns;
  are = turns_append s.turns r.turns ∙ (ap (λ z. z ++ turns_of r.turns) s.are ∙ ap (λ z. S ++ z) r.are);
}

module _ {E V A : Type 0} where
  abbrev HasNoTries : List (Step E V A) → Type 0
  HasNoTries [] = Unit {0}
  HasNoTries (Own ∷ r) = HasNoTries r
  HasNoTries (Lost e ∷ r) = ⊥
  HasNoTries (Full e ∷ r) = ⊥
  HasNoTries (Acts a ∷ r) = HasNoTries r

  pub kept_no_tries : (r : List (Step E V A)) → HasNoTries (kept r)
  kept_no_tries [] = tt
  kept_no_tries (Own ∷ r) = kept_no_tries r
  kept_no_tries (Lost e ∷ r) = kept_no_tries r
  kept_no_tries (Full e ∷ r) = kept_no_tries r
  kept_no_tries (Acts a ∷ r) = kept_no_tries r

  before : (n : ℕ) (r : List (Step E V A)) → HasNoTries r → AreTurns (marks_before_act n r)
  before n [] h = record { turns = []; are = refl }
  before n (Own ∷ r) h = let on = before n r h in record { turns = n ∷ on.turns; are = ap (λ z. turn_of n ∷ z) on.are }
  before n (Lost e ∷ r) h = absurd h
  before n (Full e ∷ r) h = absurd h
  before n (Acts a ∷ r) h = record { turns = []; are = refl }

  later : (r : List (Step E V A)) → HasNoTries r → HasNoTries (after_first_act r)
  later [] h = tt
  later (Own ∷ r) h = later r h
  later (Lost e ∷ r) h = absurd h
  later (Full e ∷ r) h = absurd h
  later (Acts a ∷ r) h = h

  of_entry : (n : ℕ) (a : Act E V A) (r : List (Step E V A)) → HasNoTries r → AreTurns (marks_of_entry n a r)
  of_entry n (Made e v) r h = both (marks_before_act n r) (turn_of n ∷ []) (before n r h) (record { turns = n ∷ []; are = refl })
  of_entry n (Heard a) r h = record { turns = []; are = refl }

  pub schedule_turns : (H : List (Entry E V A)) (steps : ℕ → List (Step E V A)) → ((m : ℕ) → HasNoTries (steps m)) → AreTurns (schedule_of H steps)
  schedule_turns [] steps h = record { turns = []; are = refl }
  schedule_turns (x ∷ H) steps h =
      both (marks_of_entry x.thread x.act (steps x.thread)) (schedule_of H (put steps x.thread (after_first_act (steps x.thread))))
      (of_entry x.thread x.act (steps x.thread) (h x.thread))
      (schedule_turns H (put steps x.thread (after_first_act (steps x.thread)))
      (at_each x.thread (λ m. HasNoTries (put steps x.thread (after_first_act (steps x.thread)) m))
      (subst HasNoTries (sym (put-same steps x.thread (after_first_act (steps x.thread)))) (later (steps x.thread) (h x.thread)))
      (λ m apart. subst HasNoTries (sym (put-other steps x.thread (after_first_act (steps x.thread)) m apart)) (h m))))
