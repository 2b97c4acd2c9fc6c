-- The answers that threads take.
use Rattle.std.proofs.Common.{ℕ, ◌+◌, ◌<◌, ◌≤◌, ◌≡◌, ◌⊎◌, List, [], ◌∷◌, ◌++◌, length, map, refl, sym, ◌∙◌, ap, subst}
use Rattle.std.proofs.Common.{inl, inr, append_assoc, append-nil, below_more, arith}
use Rattle.std.proofs.Common.{Option, Some, None, All, get_or, set, length-set}
use Rattle.std.proofs.lemmas.Bool.{cases_lt}
use Rattle.std.proofs.lemmas.List.{map-append, get_or-set_same, get_or-set_other, get_or_past}
use Rattle.std.proofs.lemmas.List.Elements.{All-nil, All-push}
use Rattle.types.specs.declared.event.Answer.{Answer}
use Rattle.types.specs.declared.event.Entry.{Entry}
use Rattle.types.specs.declared.event.Event.{Event}
use Rattle.types.specs.declared.event.Event.TheVariants as events
use Rattle.types.specs.declared.event.Question.{Question}
use Rattle.shared_memory.specs.Sound.{IsSound}
use Rattle.shared_memory.specs.WaitQueue.{WaitQueue, answer_due, after_answer, next_id}
use Rattle.waiters.specs.Queue.{TakesAnswerIfDue}
use Rattle.interp_trait.specs.Turns.{Meaning}
use Rattle.replay_walk.specs.Walked.{Run}
use Rattle.replay_walk.specs.declared.stage.Stage.{Stage}
use Rattle.search_scheduled.specs.Courses.{AreAscending, CameAlong, GoesOn, HearsAt, Hears, IsAnswerBy, StaysOnItsRuns, Steps}
use Rattle.search_scheduled.specs.Settled.{KeepsStage, TakesDue}
use Rattle.search_scheduled.specs.declared.course.Course.{Course}
use Rattle.search_scheduled.proofs.Ascending.{AreBelow, ascends, below_on, below_then}

set_none : (n : ℕ) (due : List (Option Answer)) → get_or (set due n None) n None ≡ None
set_none n due =
    elim (cases_lt n (length due)) [
      | inl within ↦ get_or-set_same due n None None within
      | inr past ↦ get_or_past (set due n None) n None (omega (arith, length-set due n None))
    ]

-- who took its answer is owed none, and all others what they were owed
pub takes_due : (n : ℕ) (answer : Option Answer) (before after : WaitQueue) → answer ≡ answer_due before n
    → TakesAnswerIfDue answer n before after → TakesDue n before after
unfolding after_answer
takes_due n None before after is h = record {
  taken = ap (λ (q : WaitQueue). answer_due q n) h ∙ sym is;
  others = λ m apart. ap (λ (q : WaitQueue). answer_due q m) h;
}
takes_due n (Some a) before after is h = record {
  taken = ap (λ (q : WaitQueue). answer_due q n) h ∙ set_none n before.due;
  others = λ m apart. ap (λ (q : WaitQueue). answer_due q m) h ∙ get_or-set_other before.due n m None None apart;
}

-- to whom has no number yet no answer is due
owed_none : (q : WaitQueue) → IsSound q → (m : ℕ) → next_id q ≤ m → answer_due q m ≡ None
owed_none q sound m past = go (answer_due q m) refl
  where
    go : (o : Option Answer) → answer_due q m ≡ o → o ≡ None
    go None e = refl
    go (Some a) e = let less = sound.owed m a e in absurd (omega (arith, less, past))

-- an event that is no question keeps the stage
pub keeps_itself : (e : Event) (s : Stage) → KeepsStage e s s
keeps_itself (events.Ask question) s = tt
keeps_itself (events.Told a) s = refl
keeps_itself events.Size s = refl
keeps_itself (events.Grow more) s = refl
keeps_itself (events.Load addr width reach) s = refl
keeps_itself (events.Store addr width reach value) s = refl
keeps_itself (events.Rmw op addr width value) s = refl
keeps_itself (events.Cmpxchg addr width expected replacement) s = refl

kept_by : (e : Event) (before after : Stage) → ((question : Question) → e ≡ events.Ask question → ⊥) → KeepsStage e before after → after ≡ before
kept_by (events.Ask question) before after other h = absurd (other question refl)
kept_by (events.Told a) before after other h = h
kept_by events.Size before after other h = h
kept_by (events.Grow more) before after other h = h
kept_by (events.Load addr width reach) before after other h = h
kept_by (events.Store addr width reach value) before after other h = h
kept_by (events.Rmw op addr width value) before after other h = h
kept_by (events.Cmpxchg addr width expected replacement) before after other h = h

abbrev threads_in : List Entry → List ℕ
threads_in = map (λ (e : Entry). e.thread)

module _ {S : Type 0} (meaning : S → Meaning) where
  -- The threads below a number have taken what was due to them.
  pub record HeardBelow (n : ℕ) (before after : Course S) : Type 0 where
    pub runs : StaysOnItsRuns meaning before after
    pub answers : List Entry
    pub each : All (λ e. IsAnswerBy e.thread e) answers
    pub order : AreAscending (map (λ (e : Entry). e.thread) answers)
    pub below : AreBelow n (map (λ (e : Entry). e.thread) answers)
    pub log : after.log.items ≡ before.log.items ++ answers
    pub none : (m : ℕ) → m < n → answer_due after.walk.stage.queue m ≡ None
    pub others : (m : ℕ) → n ≤ m → answer_due after.walk.stage.queue m ≡ answer_due before.walk.stage.queue m

  pub heard_none : (c : Course S) → HeardBelow 0 c c
  heard_none c = record {
    runs = λ r came. came;
    answers = [];
    each = All-nil (λ (e : Entry). IsAnswerBy e.thread e);
    order = tt;
    below = All-nil (λ (m : ℕ). m < 0);
    log = sym (append-nil c.log.items);
    none = λ m less. absurd (omega (arith, less));
    others = λ m past. refl;
  }

  module _ (n : ℕ) (a b c : Course S) (x : HeardBelow n a b) (y : HearsAt meaning n b c) where
    owed : (m : ℕ) → m < n + 1 → answer_due c.walk.stage.queue m ≡ None
    owed = below_more (λ (m : ℕ). answer_due c.walk.stage.queue m ≡ None) n
        (λ m less. y.queue.others m (λ same. absurd (omega (arith, less, same))) ∙ x.none m less) y.queue.taken

    kept : (m : ℕ) → n + 1 ≤ m → answer_due c.walk.stage.queue m ≡ answer_due a.walk.stage.queue m
    kept m past = y.queue.others m (λ same. absurd (omega (arith, past, same))) ∙ x.others m (omega (arith, past))

    more_by : (y.answers ≡ []) ⊎ ((e : Entry) × IsAnswerBy n e × (y.answers ≡ e ∷ [])) → HeardBelow (n + 1) a c
    more_by (inl none) = record {
      runs = λ r came. y.runs r (x.runs r came);
      answers = x.answers;
      each = x.each;
      order = x.order;
      below = below_on n _ x.below;
      log = y.log ∙ (ap (λ (l : List Entry). b.log.items ++ l) none ∙ (append-nil b.log.items ∙ x.log));
      none = owed;
      others = kept;
    }
    more_by (inr (e, by, is)) =
        let thread : e.thread ≡ n = ap (λ (d : Entry). d.thread) by.1 in
        let all = map-append (λ (d : Entry). d.thread) x.answers (e ∷ []) in
        record {
          runs = λ r came. y.runs r (x.runs r came);
          answers = x.answers ++ e ∷ [];
          each = All-push (λ (d : Entry). IsAnswerBy d.thread d) x.answers e x.each (subst (λ (k : ℕ). IsAnswerBy k e) (sym thread) by);
          order = subst AreAscending (sym all)
              (subst (λ (k : ℕ). AreAscending (threads_in x.answers ++ k ∷ [])) (sym thread) (ascends (threads_in x.answers) n x.order x.below));
          below = subst (AreBelow (n + 1)) (sym all)
              (subst (λ (k : ℕ). AreBelow (n + 1) (threads_in x.answers ++ k ∷ [])) (sym thread) (below_then n (threads_in x.answers) x.below));
          log = y.log ∙ (ap (λ (l : List Entry). b.log.items ++ l) is
              ∙ (ap (λ (l : List Entry). l ++ e ∷ []) x.log ∙ append_assoc a.log.items x.answers (e ∷ [])));
          none = owed;
          others = kept;
        }

    pub heard_more : HeardBelow (n + 1) a c
    heard_more = more_by y.own

  pub heard_all : (n : ℕ) (r : Run) (a b : Course S) → CameAlong meaning r a → n ≡ a.walk.stage.started → HeardBelow n a b → Hears meaning a b
  heard_all n r a b came all x = record {
    runs = x.runs;
    answers = x.answers;
    taken = record { each = x.each; order = x.order };
    log = x.log;
    none = λ m. elim (cases_lt m n) [
      | inl less ↦ x.none m less
      | inr past ↦ (let st = came.walk.standing in let started = st.started in
          x.others m past ∙ owed_none a.walk.stage.queue st.sound m (omega (arith, started, all, past)))
    ];
  }

  -- an entry, and the answers that are taken behind it
  pub goes_heard : (n : ℕ) (e : Entry) (a b c : Course S) → Steps meaning n e a b → Hears meaning b c → GoesOn meaning n e a c
  goes_heard n e a b c x y = record {
    runs = λ r came. y.runs r (x.runs r came);
    thread = x.thread;
    answers = y.answers;
    taken = y.taken;
    log = y.log ∙ (ap (λ (l : List Entry). l ++ y.answers) x.log ∙ append_assoc a.log.items (e ∷ []) y.answers);
    none = λ _. y.none;
  }

  pub goes_alone : (n : ℕ) (e : Entry) (a b : Course S) → Steps meaning n e a b → ((question : Question) → e.event ≡ events.Ask question → ⊥)
      → GoesOn meaning n e a b
  goes_alone n e a b x other = record {
    runs = x.runs;
    thread = x.thread;
    answers = [];
    taken = record { each = All-nil (λ (d : Entry). IsAnswerBy d.thread d); order = tt };
    log = x.log;
    none = λ none m. ap (λ (s : Stage). answer_due s.queue m) (kept_by e.event a.walk.stage b.walk.stage other x.stage) ∙ none m;
  }
