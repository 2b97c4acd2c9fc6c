-- A question in a system of threads over the memory and the wait queue: whom it starts, whom it gives an answer, and where
-- all threads are after it.
use Rattle.std.proofs.Common.{◌≡◌, ◌≢◌, ℕ, ◌+◌, ◌<◌, ◌≤◌, ◌==◌, ◌&&◌, true, false, cond, [], ◌∷◌, ◌++◌, length, Option}
use Rattle.std.proofs.Common.{Some, None, refl, sym, ◌∙◌, ap, inl, inr, arith, length-append}
use Rattle.std.specs.Prelude.{nat_lt}
use Rattle.std.proofs.lemmas.Bool.{cases_eq, cases_lt, cond-true, cond-false, cond_both, lt-ltb, le-ltb, and_from, and_left, and_right, eq-eqb, ne_eqb}
use Rattle.std.proofs.lemmas.List.{length-replicate}
use Rattle.types.specs.declared.event.Event.{Event}
use Rattle.types.specs.declared.event.Event.TheVariants as events
use Rattle.types.specs.declared.event.Question.{Question}
use Rattle.types.specs.declared.event.Question.TheVariants.{Wait, Notify, Spawn, Leave}
use Rattle.types.specs.declared.event.Answer.{Answer}
use Rattle.types.specs.declared.outcome.Outcome.{Outcome}
use Rattle.shared_memory.specs.Memory.{Memory}
use Rattle.shared_memory.specs.WaitQueue.{WaitQueue, answer_due, next_id, after_question, IsFree}
use Rattle.shared_memory.specs.Sound.{IsSound}
use Rattle.shared_memory.proofs.Others.{IsQuiet, Keeps}
use Rattle.shared_memory.proofs.Standing.{IsAbsent}
use Rattle.shared_memory.proofs.Spawning.{unborn}
use Rattle.schedule.specs.System.{put}
use Rattle.schedule.specs.Histories.{Place, Place.Unstarted, Place.Free, placed}
use Rattle.schedule.specs.Machine.{Thread, Thread.Runs}
use Rattle.schedule.proofs.Basics.{put-other}
use Rattle.interp_machine.specs.State.{State}
use Rattle.schedule_threads.specs.Shared.{Shared, starts_by, without_dues}
use Rattle.schedule_threads.specs.Threads.{machine_of}
use Rattle.schedule_runs.specs.Runs.{Start}
use Rattle.schedule_runs.proofs.Dues.{none_due}
use Rattle.schedule_runs.specs.Places.{place_of}
use Rattle.schedule_runs.proofs.Places.{place_unstarted, place_free, place_given, args_by, question_args, given_none, kept, known_asker}

-- what is shared beside a queue
abbrev pub shared_of : Memory → WaitQueue → Shared
shared_of m q = record { memory = m; queue = without_dues q }

abbrev pub Begun : Type 0
Begun = Thread State Outcome

-- the thread that an event starts under a number
abbrev pub started : Start → Memory → WaitQueue → Event → ℕ → Option Begun
started b mem q event m = starts_by (machine_of b.program) b.spawned b.fuel (shared_of mem q) event m

-- a spawn starts whom the queue has room for
pub started_is : (b : Start) (mem : Memory) (q : WaitQueue) (arg m : ℕ) → started b mem q (events.Ask (Spawn arg)) m
    ≡ cond (nat_lt m (length q.due) && (m == next_id q)) (Some (Runs (b.spawned m arg) b.fuel)) None
started_is b mem q arg m =
    ap (λ (k : ℕ). cond (nat_lt m k && (m == next_id q)) (Some (Runs (b.spawned m arg) b.fuel)) None)
    (length-replicate {A = Option Answer} (length q.due) None)

-- who is given nothing, and asks nothing, stays
pub placed_same : (B : Type 0) (q : WaitQueue) (n m : ℕ) (p : Place Answer)
    → placed {B = B} None (answer_due (without_dues q) m) (put (λ (k : ℕ). false) n false m) p ≡ p
unfolding put
placed_same B q n m p =
    ap (λ o. placed {B = B} None o (put (λ (k : ℕ). false) n false m) p) (none_due q m)
    ∙ ap (λ b. placed {B = B} None None b p) (cond_both (m == n) false false (λ b. b ≡ false) (λ e. refl) (λ e. refl))

-- a question with a value

module _ (b : Start) (mem : Memory) (q : WaitQueue) (n : ℕ) (question : Question) (v : ℕ) (sound : IsSound q) (free : IsFree q n) where
  abbrev after : WaitQueue
  after = after_question q n question v

  abbrev given : ℕ → Option Answer
  given m = answer_due (after_question (without_dues q) n question v) m

  -- where it leaves a thread, by what it starts and gives
  abbrev place_after : Option Begun → ℕ → Place Answer
  place_after o m = placed o (given m) (put (λ (k : ℕ). false) n true m) (place_of q m)

  next_after : next_id after ≡ length (args_by q question) + 1
  next_after = ap (λ w. length w + 1) (question_args q n question v)

  -- a number that isn't given out, before and after
  past_after : (m : ℕ) → next_id q ≤ m → next_id after ≤ m → place_after None m ≡ place_of after m
  past_after m past past' =
      let absent : IsAbsent q m = unborn q sound m past in
      let known : n < next_id q = known_asker q n question v sound free in
      let apart : m ≢ n = omega arith in
      let unstarted : place_of q m ≡ Unstarted = place_unstarted q m past in
      ap (λ o. placed {B = Begun} None o (put (λ (k : ℕ). false) n true m) (place_of q m)) (given_none q n question v sound free m apart absent.awake)
      ∙ (ap (λ c. placed {B = Begun} None None c (place_of q m)) (put-other (λ (k : ℕ). false) n true m apart)
      ∙ (unstarted ∙ sym (place_unstarted after m past')))

  -- the number that is given out
  new_after : (m : ℕ) → next_id q ≤ m → m < next_id after → Free ≡ place_of after m
  new_after m past known' =
      let absent : IsAbsent q m = unborn q sound m past in
      let known : n < next_id q = known_asker q n question v sound free in
      let apart : m ≢ n = omega arith in
      let keeps : Keeps m q after = kept q n question v sound free m apart in
      let quiet : IsQuiet after m = keeps.quiet (record { awake = absent.awake; told = absent.told }) in
      sym (place_free after m known' quiet.awake quiet.told)

  -- one that was given out before
  known_after : (m : ℕ) → m < next_id q → next_id q ≤ next_id after → place_after None m ≡ place_of after m
  known_after m known more = place_given q n question v sound free Begun m known (omega arith) (given m) refl

  -- where nobody is started
  same_after : next_id after ≡ next_id q → (m : ℕ) → place_after None m ≡ place_of after m
  same_after same m =
      elim (cases_lt m (next_id q)) [
        | inl known ↦ known_after m known (omega arith)
        | inr past ↦ past_after m past (omega arith)
      ]

-- where a spawn leaves each thread
module _ (b : Start) (mem : Memory) (q : WaitQueue) (n arg v : ℕ) (sound : IsSound q) (free : IsFree q n) where
  abbrev spawned : WaitQueue
  spawned = after_question q n (Spawn arg) v

  next_room : next_id q < length q.due → next_id spawned ≡ next_id q + 1
  next_room room =
      next_after b mem q n (Spawn arg) v sound free
      ∙ ap (λ w. length w + 1) (cond-true (nat_lt (next_id q) (length q.due)) (q.args ++ arg ∷ []) q.args (lt-ltb (next_id q) (length q.due) room))
      ∙ omega (arith, length-append q.args (arg ∷ []))

  next_none : length q.due ≤ next_id q → next_id spawned ≡ next_id q
  next_none none =
      next_after b mem q n (Spawn arg) v sound free
      ∙ ap (λ w. length w + 1) (cond-false (nat_lt (next_id q) (length q.due)) (q.args ++ arg ∷ []) q.args (le-ltb (next_id q) (length q.due) none))

  abbrev new : Begun
  new = Runs (b.spawned (next_id q) arg) b.fuel

  starts_none : (m : ℕ) → (nat_lt m (length q.due) && (m == next_id q)) ≡ false → started b mem q (events.Ask (Spawn arg)) m ≡ None
  starts_none m isnt = started_is b mem q arg m ∙ cond-false (nat_lt m (length q.due) && (m == next_id q)) (Some (Runs (b.spawned m arg) b.fuel)) None isnt

  starts_new : (m : ℕ) → m ≡ next_id q → m < length q.due → started b mem q (events.Ask (Spawn arg)) m ≡ Some (Runs (b.spawned m arg) b.fuel)
  starts_new m is room =
      started_is b mem q arg m
      ∙ cond-true (nat_lt m (length q.due) && (m == next_id q))
      (Some (Runs (b.spawned m arg) b.fuel)) None (and_from (nat_lt m (length q.due)) (m == next_id q)
      (lt-ltb m (length q.due) room) (eq-eqb m (next_id q) is))

  spawn_after : (m : ℕ) → place_after b mem q n (Spawn arg) v sound free (started b mem q (events.Ask (Spawn arg)) m) m ≡ place_of spawned m
  spawn_after m =
      elim (cases_lt m (next_id q)) [
        | inl known ↦ with_none m (and_right (nat_lt m (length q.due)) (m == next_id q) (ne_eqb m (next_id q) (λ e. omega arith)))
            (known_after b mem q n (Spawn arg) v sound free m known more)
        | inr past ↦ elim (cases_eq m (next_id q)) [
          | inl is ↦ elim (cases_lt (next_id q) (length q.due)) [
            | inl room ↦ ap (λ o. place_after b mem q n (Spawn arg) v sound free o m) (starts_new m is (omega arith))
                ∙ new_after b mem q n (Spawn arg) v sound free m past (omega (arith, next_room room))
            | inr none ↦ with_none m (and_left (nat_lt m (length q.due)) (m == next_id q) (le-ltb m (length q.due) (omega arith)))
                (past_after b mem q n (Spawn arg) v sound free m past (omega (arith, next_none none)))
          ]
          | inr isnt ↦ with_none m (and_right (nat_lt m (length q.due)) (m == next_id q) (ne_eqb m (next_id q) isnt))
              (past_after b mem q n (Spawn arg) v sound free m past (omega (arith, below)))
        ]
      ]
    where
      more : next_id q ≤ next_id spawned
      more = elim (cases_lt (next_id q) (length q.due)) [ inl room ↦ omega (arith, next_room room) | inr none ↦ omega (arith, next_none none) ]

      below : next_id spawned ≤ next_id q + 1
      below = elim (cases_lt (next_id q) (length q.due)) [ inl room ↦ omega (arith, next_room room) | inr none ↦ omega (arith, next_none none) ]

      with_none : (m : ℕ) → (nat_lt m (length q.due) && (m == next_id q)) ≡ false → place_after b mem q n (Spawn arg) v sound free None m ≡ place_of spawned m
          → place_after b mem q n (Spawn arg) v sound free (started b mem q (events.Ask (Spawn arg)) m) m ≡ place_of spawned m
      with_none m isnt is = ap (λ o. place_after b mem q n (Spawn arg) v sound free o m) (starts_none m isnt) ∙ is

-- where any question with a value leaves each thread
pub question_after : (b : Start) (mem : Memory) (q : WaitQueue) (n : ℕ) (question : Question) (v : ℕ) → IsSound q → IsFree q n → (m : ℕ)
    → placed (started b mem q (events.Ask question) m) (answer_due (after_question (without_dues q) n question v) m)
    (put (λ (k : ℕ). false) n true m) (place_of q m)
    ≡ place_of (after_question q n question v) m
question_after b mem q n (Wait addr width expected timeout) v sound free m =
    same_after b mem q n (Wait addr width expected timeout) v sound free (next_after b mem q n (Wait addr width expected timeout) v sound free) m
question_after b mem q n (Notify addr count) v sound free m =
    same_after b mem q n (Notify addr count) v sound free (next_after b mem q n (Notify addr count) v sound free) m
question_after b mem q n (Spawn arg) v sound free m = spawn_after b mem q n arg v sound free m
question_after b mem q n Leave v sound free m = same_after b mem q n Leave v sound free (next_after b mem q n Leave v sound free) m

-- whom an event starts

-- under the next number, where it has room
pub record IsSpawn (b : Start) (q : WaitQueue) (event : Event) (m : ℕ) (t : Begun) : Type 0 where
  pub arg : ℕ
  pub event_is : event ≡ events.Ask (Spawn arg)
  pub number : m ≡ next_id q
  pub room : m < length q.due
  pub thread : t ≡ Runs (b.spawned m arg) b.fuel
