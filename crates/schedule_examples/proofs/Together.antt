-- The worked run.
use Rattle.std.proofs.Common.{◌≡◌, ◌≢◌, ℕ, zero, suc, ◌==◌, false, List, [], ◌∷◌, ◌++◌, Some, None, refl, ◌∙◌, subst, arith}
use Rattle.std.proofs.lemmas.Bool.{cond-false, ne_eqb}
use Rattle.types.specs.declared.event.Event.TheVariants as events
use Rattle.types.specs.declared.event.Question.TheVariants.{Spawn, Leave}
use Rattle.types.specs.declared.event.Reply.TheVariants as replies
use Rattle.types.specs.declared.event.Answer.TheVariants.{Number}
use Rattle.types.specs.declared.event.Entry as entries
use Rattle.shared_memory.specs.WaitQueue.{first_queue, after_question, after_answer}
use Rattle.shared_memory.specs.History.{entry, entries_of, queue_after}
use Rattle.shared_memory.specs.Legal.{IsMemoryLegal, IsQueueLegal}
use Rattle.schedule.specs.System.{Act.Made, Act.Heard, Step.Own, Step.Acts}
use Rattle.interp_machine.specs.State.{State}
use Rattle.schedule_runs.specs.Runs.{begins_in, HasRun, AllHaveRun, AreOfThreads}
use Rattle.schedule_examples.specs.TwoThreads.{main, spawned_example, start, spawning, history, outcomes_of, lefts_of, TwoThreadsRanTogether}

queue_legal : IsQueueLegal history
unfolding IsQueueLegal first_queue after_question after_answer
queue_legal = (
  record { alive = refl; awake = refl; told = refl },
  (refl, (record { alive = refl; awake = refl; told = refl }, (refl, (record { alive = refl; awake = refl; told = refl }, (refl, tt))))),
)

memory_legal : IsMemoryLegal start.opening history
memory_legal = (refl, (refl, (refl, (refl, (refl, (refl, tt))))))

begins_first : begins_in start [] 0 ≡ Some main
begins_first = refl

begins_other : begins_in start spawning 1 ≡ Some (spawned_example 1 7)
unfolding queue_after first_queue after_question after_answer
begins_other = refl

-- what thread 1 enters
abbrev others : List entries.Entry
others = entry 1 (events.Ask Leave) replies.Done ∷ entry 1 (events.Told (Number 0)) replies.Done ∷ []

abbrev leaving : List entries.Entry
leaving = entry 0 (events.Ask Leave) replies.Done ∷ []

first_run : HasRun start false (Some 2) history 0 main (outcomes_of 0) 7
first_run = record {
  before = [];
  last = history;
  unseen = [];
  begun = refl;
  fresh = refl;
  run = record {
    steps = Acts (Made (events.Ask (Spawn 7)) replies.Done) ∷ Acts (Heard (Number 1)) ∷ Own ∷ Own ∷ Acts
        (Made (events.Ask Leave) replies.Done) ∷ Acts (Heard (Number 0)) ∷ [];
    run = λ start fuel. (refl, (refl, (refl, (refl, (refl, (refl, (refl, refl)))))));
    sees = (
      entry 0 (events.Ask (Spawn 7)) replies.Done ∷ [],
      record { others = []; so_far = []; behind = []; gains = refl; apart = refl; list = refl; apart_behind = refl; room = λ is. omega arith },
      (
        spawning,
        record {
          others = [];
          so_far = entry 0 (events.Ask (Spawn 7)) replies.Done ∷ [];
          behind = [];
          gains = refl;
          apart = refl;
          list = refl;
          apart_behind = refl;
          room = λ is. absurd (cc is);
        },
        (
          spawning,
          refl,
          (
            spawning,
            refl,
            (
              (spawning ++ others) ++ leaving,
              record {
                others = others;
                so_far = spawning ++ others;
                behind = [];
                gains = refl;
                apart = refl;
                list = refl;
                apart_behind = refl;
                room = λ is. absurd (cc is);
              },
              (
                history,
                record {
                  others = [];
                  so_far = (spawning ++ others) ++ leaving;
                  behind = [];
                  gains = refl;
                  apart = refl;
                  list = refl;
                  apart_behind = refl;
                  room = λ is. absurd (cc is);
                },
                refl,
              ),
            ),
          ),
        ),
      ),
    );
  };
  history = refl;
  apart = refl;
}

other_run : HasRun start false (Some 2) history 1 (spawned_example 1 7) (outcomes_of 1) 10
other_run = record {
  before = spawning;
  last = spawning ++ others;
  unseen = entry 0 (events.Ask Leave) replies.Done ∷ entry 0 (events.Told (Number 0)) replies.Done ∷ [];
  begun = begins_other;
  fresh = refl;
  run = record {
    steps = Acts (Made (events.Ask Leave) replies.Done) ∷ Acts (Heard (Number 0)) ∷ [];
    run = λ start fuel. (refl, (refl, (refl, refl)));
    sees = (
      spawning ++ entry 1 (events.Ask Leave) replies.Done ∷ [],
      record { others = []; so_far = spawning; behind = []; gains = refl; apart = refl; list = refl; apart_behind = refl; room = λ is. absurd (cc is) },
      (
        spawning ++ others,
        record {
          others = [];
          so_far = spawning ++ entry 1 (events.Ask Leave) replies.Done ∷ [];
          behind = [];
          gains = refl;
          apart = refl;
          list = refl;
          apart_behind = refl;
          room = λ is. absurd (cc is);
        },
        refl,
      ),
    );
  };
  history = refl;
  apart = refl;
}

begins_last : begins_in start history 1 ≡ Some (spawned_example 1 7)
unfolding queue_after first_queue after_question after_answer
begins_last = refl

nobody_else : (k : ℕ) → begins_in start history (suc (suc k)) ≡ None
unfolding queue_after first_queue after_question after_answer
nobody_else k = refl

all_ran : AllHaveRun start false (Some 2) history outcomes_of lefts_of
all_ran zero c is = let same : main ≡ c = cc is in subst (λ (d : State). HasRun start false (Some 2) history 0 d (outcomes_of 0) 7) same first_run
all_ran (suc zero) c is =
    let same : spawned_example 1 7 ≡ c = cc (is, begins_last) in subst (λ (d : State). HasRun start false (Some 2) history 1 d (outcomes_of 1) 10)
    same other_run
all_ran (suc (suc k)) c is = absurd (cc (is, nobody_else k))

abbrev AreApart : ℕ → List entries.Entry → Type 0
AreApart m [] = Unit {0}
AreApart m (e ∷ xs) = (e.thread ≢ m) × AreApart m xs

none_of : (m : ℕ) (xs : List entries.Entry) → AreApart m xs → entries_of m xs ≡ []
none_of m [] apart = refl
none_of m (e ∷ xs) apart = cond-false (e.thread == m) (e ∷ entries_of m xs) (entries_of m xs) (ne_eqb e.thread m apart.0) ∙ none_of m xs apart.1

no_others : AreOfThreads start history
no_others zero none = absurd (cc none)
no_others (suc zero) none = absurd (cc (none, begins_last))
no_others (suc (suc k)) none =
    let first : 0 ≢ suc (suc k) = omega arith in
    let other : 1 ≢ suc (suc k) = omega arith in
    none_of (suc (suc k)) history (first, (first, (other, (other, (first, (first, tt))))))

pub ran_together : TwoThreadsRanTogether
ran_together = record { memory = memory_legal; queue = queue_legal; threads = all_ran; entries = no_others }
