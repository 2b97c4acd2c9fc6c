-- A question within bounds: what every state keeps to still holds after it.
use Rattle.std.proofs.Common.{◌≡◌, ◌≢◌, ℕ, ◌+◌, ◌<◌, ◌≤◌, ◌⊎◌, inl, inr, true, false, length, Option, Some, None, refl, sym, ◌∙◌, ap, subst, arith}
use Rattle.std.specs.Prelude.{nat_lt}
use Rattle.std.proofs.lemmas.Bool.{cases_Bool, cases_lt, both_ways, cond_both, cond-true, lt-ltb, false_from_ne_true}
use Rattle.std.proofs.lemmas.List.{length-replicate}
use Rattle.types.specs.declared.event.Event.TheVariants as events
use Rattle.types.specs.declared.event.Question.{Question}
use Rattle.types.specs.declared.event.Question.TheVariants.{Wait, Notify, Spawn, Leave}
use Rattle.types.specs.declared.event.Answer.{Answer}
use Rattle.types.specs.declared.limits.TheConstants.{MOST_THREADS}
use Rattle.shared_memory.specs.WaitQueue.{WaitQueue, is_alive, is_asleep, answer_due, next_id, after_question, IsFree}
use Rattle.shared_memory.proofs.Lengths.{due_length_question}
use Rattle.shared_memory.proofs.Others.{IsQuiet}
use Rattle.schedule.specs.System.{Want.Calls, Want.Awaits, put}
use Rattle.schedule.specs.Scheduled.{hears_any, or_started}
use Rattle.schedule.specs.Machine.{Thread.Absent, Thread.Runs, Thread.Over, Thread.Leaves, Thread.Left}
use Rattle.schedule.proofs.Basics.{put-same, put-other, at_each, same_or_not}
use Rattle.schedule_threads.specs.Shared.{without_dues}
use Rattle.schedule_runs.proofs.Dues.{without_twice}
use Rattle.schedule_runs.proofs.Places.{IsSound-without}
use Rattle.interp_trait.specs.Turns.{Running, wants_of, IsHere}
use Rattle.schedule_machine.specs.Threads.{Setting}
use Rattle.schedule_machine.specs.Runs.{IsOrderly, all_hear, system_by, MayHear, next_after, started_at, started_by}
use Rattle.schedule_machine.proofs.Orderly.{nothing_due, free_asker}
use Rattle.schedule_machine.proofs.Starting.{next_question, spawned_apart, spawned_past}
use Rattle.schedule_machine.proofs.Asked.{sound_after, keeps_others, still_alive, newborn_alive}

here_before : (s : Setting) (t : Running) (o : Option Answer) → IsHere (hears_any (system_by s) t o) → IsHere t
here_before s t None h = h
here_before s Absent (Some a) h = h
here_before s (Runs c left) (Some a) h = tt
here_before s (Over o left) (Some a) h = tt
here_before s (Leaves o left) (Some a) h = absurd h
here_before s (Left o left) (Some a) h = absurd h

module _ (s : Setting) (q : WaitQueue) (f : ℕ → Running) (n : ℕ) (question : Question) (v : ℕ) (t : Running)
    (orderly : IsOrderly s.program q f) (calls : wants_of s.program (f n) ≡ Calls (events.Ask question)) (awaits : wants_of s.program t ≡ Awaits) where
  abbrev after : WaitQueue
  after = after_question q n question v

  free : IsFree q n
  free = free_asker s.program q f n (events.Ask question) orderly calls

  known : n < next_id q
  known = orderly.sound.named n free.alive

  -- of another thread that doesn't sleep nothing changes
  quiet_other : (m : ℕ) → m ≢ n → is_asleep q m ≡ false → IsQuiet after m
  quiet_other m apart awake = (keeps_others q n question v orderly.sound free m apart).quiet
      (record { awake = awake; told = nothing_due s.program q f orderly m })

  asleep_before : (m : ℕ) → m ≢ n → is_asleep after m ≡ true → is_asleep q m ≡ true
  asleep_before m apart asleep =
      elim (cases_Bool (is_asleep q m)) [ inl is ↦ is | inr awake ↦ absurd (both_ways (is_asleep after m) (quiet_other m apart awake).awake asleep) ]

  -- to whom an answer is due awaits it
  pub may_hear : MayHear s (put f n t) after
  may_hear = at_each n (λ m. (a : Answer) → answer_due after m ≡ Some a → wants_of s.program (put f n t m) ≡ Awaits)
      (λ a due. ap (wants_of s.program) (put-same f n t) ∙ awaits)
      (λ m apart a due. ap (wants_of s.program) (put-other f n t m apart) ∙ elim (cases_Bool (is_asleep q m)) [
        | inl asleep ↦ orderly.awaiting m asleep
        | inr awake ↦ (let none : answer_due after m ≡ None = (quiet_other m apart awake).told in absurd (cc (none, due)))
      ])

  -- a thread that isn't there yet stays away
  pub away : (m : ℕ) → next_id q ≤ m → all_hear s (put f n t) after m ≡ Absent
  away m past =
      let apart : m ≢ n = λ e. absurd (omega (arith, past, known, e)) in
      let awake : is_asleep q m ≡ false = false_from_ne_true (is_asleep q m)
      (λ asleep. let low : m < next_id q = orderly.sound.named m (orderly.sound.living m asleep) in absurd
      (omega (arith, low, past))) in
      let none : answer_due after m ≡ None = (quiet_other m apart awake).told in
      ap (λ o. hears_any (system_by s) (put f n t m) o) none ∙ (put-other f n t m apart ∙ orderly.unstarted m past)

-- whom a question starts: one thread, by a spawn, under the next number
pub record IsStart (q : WaitQueue) (question : Question) (m : ℕ) : Type 0 where
  pub arg : ℕ
  pub spawn : question ≡ Spawn arg
  pub number : m ≡ next_id q
  pub room : m < MOST_THREADS

spawn_cases : (s : Setting) (q : WaitQueue) (arg m : ℕ) → (started_at s (next_id q) (Spawn arg) m ≡ None) ⊎ IsStart q (Spawn arg) m
spawn_cases s q arg m =
    elim (same_or_not m (next_id q)) [
      | inl same ↦ elim (cases_lt m MOST_THREADS) [
        | inl room ↦ inr (record { arg = arg; spawn = refl; number = same; room = room })
        | inr past ↦ inl (spawned_past s (next_id q) arg m past)
      ]
      | inr apart ↦ inl (spawned_apart s (next_id q) arg m apart)
    ]

start_cases : (s : Setting) (q : WaitQueue) (question : Question) (m : ℕ) → (started_at s (next_id q) question m ≡ None) ⊎ IsStart q question m
start_cases s q (Wait addr width expected timeout) m = inl refl
start_cases s q (Notify addr count) m = inl refl
start_cases s q (Spawn arg) m = spawn_cases s q arg m
start_cases s q Leave m = inl refl

-- the next number after it
after_grows : (next : ℕ) (question : Question) → next ≤ next_after next question
after_grows next (Wait addr width expected timeout) = omega arith
after_grows next (Notify addr count) = omega arith
after_grows next (Spawn arg) = cond_both (nat_lt next MOST_THREADS) (next + 1) next (λ k. next ≤ k) (λ e. omega arith) (λ e. omega arith)
after_grows next Leave = omega arith

pub next_grows : (q : WaitQueue) → length q.due ≡ MOST_THREADS → (n : ℕ) (question : Question) (v : ℕ) → next_id q ≤ next_id (after_question q n question v)
next_grows q dues n question v = omega (arith, next_question q dues n question v, after_grows (next_id q) question)

pub next_spawned : (q : WaitQueue) → length q.due ≡ MOST_THREADS → (n arg v : ℕ) → next_id q < MOST_THREADS
    → next_id (after_question q n (Spawn arg) v) ≡ next_id q + 1
next_spawned q dues n arg v room = next_question q dues n (Spawn arg) v
    ∙ cond-true (nat_lt (next_id q) MOST_THREADS) (next_id q + 1) (next_id q) (lt-ltb (next_id q) MOST_THREADS room)

module _ (s : Setting) (q : WaitQueue) (f : ℕ → Running) (n : ℕ) (question : Question) (v : ℕ) (t : Running)
    (orderly : IsOrderly s.program q f) (calls : wants_of s.program (f n) ≡ Calls (events.Ask question)) (awaits : wants_of s.program t ≡ Awaits)
    (leaving : question ≡ Leave → IsHere t → ⊥) where
  abbrev later : WaitQueue
  later = after_question q n question v

  abbrev threads : ℕ → Running
  threads = started_by s (put f n t) q n question v

  asker : IsFree q n
  asker = free_asker s.program q f n (events.Ask question) orderly calls

  unstarted_after : (m : ℕ) → next_id later ≤ m → threads m ≡ Absent
  unstarted_after m past =
      elim (start_cases s q question m) [
        | inl none ↦ ap (λ o. or_started o (all_hear s (put f n t) later m)) none
            ∙ away s q f n question v t orderly calls awaits m (omega (arith, past, next_grows q orderly.dues n question v))
        | inr start ↦ (let grown : next_id later ≡ next_id q + 1 = subst (λ z. next_id (after_question q n z v) ≡ next_id q + 1) (sym start.spawn)
            (next_spawned q orderly.dues n start.arg v (subst (λ k. k < MOST_THREADS) start.number start.room)) in
            absurd (omega (arith, past, grown, start.number)))
      ]

  asker_lives : (z : Question) → question ≡ z → IsHere t → is_alive (after_question q n z v) n ≡ true
  asker_lives (Wait addr width expected timeout) is h =
      still_alive q n (Wait addr width expected timeout) v n orderly.sound asker (λ e. absurd (cc e)) asker.alive
  asker_lives (Notify addr count) is h = still_alive q n (Notify addr count) v n orderly.sound asker (λ e. absurd (cc e)) asker.alive
  asker_lives (Spawn arg) is h = still_alive q n (Spawn arg) v n orderly.sound asker (λ e. absurd (cc e)) asker.alive
  asker_lives Leave is h = absurd (leaving is h)

  lives : (m : ℕ) → IsHere (put f n t m) → is_alive later m ≡ true
  lives = at_each n (λ m. IsHere (put f n t m) → is_alive later m ≡ true)
      (λ h. asker_lives question refl (subst IsHere (put-same f n t) h))
      (λ m apart h. (keeps_others q n question v orderly.sound asker m apart).alive (orderly.living m (subst IsHere (put-other f n t m apart) h)))

  living_after : (m : ℕ) → IsHere (threads m) → is_alive later m ≡ true
  living_after m h =
      elim (start_cases s q question m) [
        | inl none ↦ lives m (here_before s (put f n t m) (answer_due later m) (subst IsHere (ap (λ o. or_started o (all_hear s (put f n t) later m)) none) h))
        | inr start ↦ subst (λ k. is_alive later k ≡ true) (sym start.number)
            (subst (λ z. is_alive (after_question q n z v) (next_id q) ≡ true) (sym start.spawn)
            (newborn_alive q n start.arg v orderly.sound asker (omega (arith, start.number, start.room, orderly.dues))))
      ]

  slept : (m : ℕ) → is_asleep later m ≡ true → (wants_of s.program (put f n t m) ≡ Awaits) × (m < next_id q)
  slept = at_each n (λ m. is_asleep later m ≡ true → (wants_of s.program (put f n t m) ≡ Awaits) × (m < next_id q))
      (λ asleep. (ap (wants_of s.program) (put-same f n t) ∙ awaits, orderly.sound.named n asker.alive))
      (λ m apart asleep.
      let before = asleep_before s q f n question v t orderly calls awaits m apart asleep in
      (ap (wants_of s.program) (put-other f n t m apart) ∙ orderly.awaiting m before, orderly.sound.named m (orderly.sound.living m before)))

  awaiting_after : (m : ℕ) → is_asleep later m ≡ true → wants_of s.program (threads m) ≡ Awaits
  awaiting_after m asleep =
      elim (start_cases s q question m) [
        | inl none ↦ (let nothing : answer_due later m ≡ None = (sound_after q n question v orderly.sound asker).unanswered m asleep in
            ap (λ o. wants_of s.program (or_started o (all_hear s (put f n t) later m))) none
            ∙ (ap (λ o. wants_of s.program (hears_any (system_by s) (put f n t m) o)) nothing ∙ (slept m asleep).0))
        | inr start ↦ (let low : m < next_id q = (slept m asleep).1 in absurd (omega (arith, low, start.number)))
      ]

  -- the states go on so
  pub orderly_question : IsOrderly s.program (without_dues later) threads
  orderly_question = record {
    sound = IsSound-without later (sound_after q n question v orderly.sound asker);
    dues = length-replicate {A = Option Answer} (length later.due) None ∙ (due_length_question q n question v ∙ orderly.dues);
    heard = without_twice later;
    unstarted = unstarted_after;
    living = living_after;
    awaiting = awaiting_after;
  }
