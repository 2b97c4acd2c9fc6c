-- The first thread of a program without imported functions runs alone.
use Rattle.std.proofs.Common.{◌≡◌, ◌≢◌, ℕ, zero, suc, ◌<◌, ◌==◌, Bool, true, not, cond, List, [], ◌∷◌, ◌++◌, length}
use Rattle.std.proofs.Common.{Option, refl, sym, ◌∙◌, ap, subst, arith, slice_get, get_or, below_more}
use Rattle.std.proofs.lemmas.Bool.{cond_both, both_ways}
use mathlib.Core.List.{IsPrefix}
use Rattle.types.specs.declared.event.Entry.{Entry}
use Rattle.types.specs.declared.event.Event.{Event}
use Rattle.types.specs.declared.event.Event.TheVariants.{Ask, Told}
use Rattle.types.specs.declared.event.Question.{Question}
use Rattle.types.specs.declared.event.Question.TheVariants.{Wait, Notify, Spawn, Leave}
use Rattle.types.specs.declared.event.Answer.{Answer}
use Rattle.types.specs.declared.event.Answer.TheVariants.{Number}
use Rattle.types.specs.declared.event.Reply.{Reply}
use Rattle.types.specs.declared.event.Reply.TheVariants.{Value as ValueReply, Done, OutOfBounds, Again, Full}
use Rattle.types.specs.declared.outcome.ThreadReport.{ThreadReport}
use Rattle.types.specs.declared.limits.TheConstants.{MOST_THREADS, DESK_NAME, SEATS}
use Rattle.shared_memory.specs.declared.sleeper.Sleeper.{Sleeper}
use Rattle.shared_memory.specs.Memory.{Memory}
use Rattle.shared_memory.specs.Events.{is_of_queue}
use Rattle.shared_memory.specs.WaitQueue.{WaitQueue, first_queue, next_id, tells, wakes, sleeps, ends_at_once, ended}
use Rattle.shared_memory.specs.WaitQueue.{end_answer, is_stuck, settled, asked, after_question, after_answer}
use Rattle.shared_memory.specs.History.{entries_of, of_queue, queue_step, queue_from, queue_after}
use Rattle.shared_memory.specs.Legal.{IsAllowed, IsQueueLegalFrom, IsQueueLegal}
use Rattle.shared_memory.specs.Sound.{IsSound}
use Rattle.shared_memory.proofs.Soundness.{IsSound-step, IsSound-first}
use Rattle.schedule.specs.System.{Act, Act.Made, Act.Heard, Step, Step.Own, Step.Lost, Step.Full, Step.Acts}
use Rattle.schedule.specs.ThreadRun.{Fits, IsThreadRun}
use Rattle.interp_machine.specs.Program.{Program}
use Rattle.interp_machine.specs.State.{State, Over}
use Rattle.schedule_threads.specs.Shared.{over_memory_and_queue}
use Rattle.schedule_threads.specs.Threads.{machine_of}
use Rattle.schedule_threads.specs.Seeing.{Sees, SeesAll, event_of, entered}
use Rattle.schedule_threads.proofs.Asking.{wants_spawn}
use Rattle.interp_trait.specs.Turns.{Running, Meaning, IsHere}
use Rattle.spawn_host_workers.specs.Ends.{RunsOut}
use Rattle.spawn_host_workers.specs.OverMemory.{OverMemory}
use Rattle.spawn_host_workers.specs.Level.{Level}
use Rattle.spawn_host_workers.specs.Composed.{IsReport, IsComposed}
use Rattle.spawn_host_workers.proofs.Home.{IsHome, come_home}
use Rattle.spawn_host_workers.proofs.OneList.{silent_more, report_by, Unpacked, first_name, first_new, work_name, work_new}

-- entries of a thread that spawns nobody

abbrev pub IsSpawn : Event → Type 0
IsSpawn (Ask (Spawn arg)) = Unit {0}
IsSpawn _ = ⊥

abbrev pub SpawnsNone : ℕ → List Entry → Type 0
SpawnsNone n [] = Unit {0}
SpawnsNone n (e ∷ xs) = (e.thread ≡ n → IsSpawn e.event → ⊥) × SpawnsNone n xs

pub none_in_both : (n : ℕ) (xs ys : List Entry) → SpawnsNone n xs → SpawnsNone n ys → SpawnsNone n (xs ++ ys)
none_in_both n [] ys h k = k
none_in_both n (e ∷ xs) ys h k = (h.0, none_in_both n xs ys h.1 k)

pub none_of_others : (n : ℕ) (xs : List Entry) → entries_of n xs ≡ [] → SpawnsNone n xs
none_of_others n [] apart = tt
none_of_others n (e ∷ xs) apart =
    cond_both (e.thread == n) (e ∷ entries_of n xs) (entries_of n xs) (λ w. w ≡ [] → SpawnsNone n (e ∷ xs)) (λ is is_none. absurd (cc is_none))
    (λ isnt is_none. (
      (λ same spawn. let is : (e.thread == n) ≡ true = grind (arith, same) in
          both_ways (e.thread == n) isnt is),
      none_of_others n xs is_none,
    )) apart

none_of_queue : (n : ℕ) (xs : List Entry) → SpawnsNone n xs → SpawnsNone n (of_queue xs)
none_of_queue n [] h = tt
none_of_queue n (e ∷ xs) h =
    cond_both (is_of_queue e.event) (e ∷ of_queue xs) (of_queue xs) (λ w. SpawnsNone n w) (λ is. (h.0, none_of_queue n xs h.1)) (λ isnt. none_of_queue n xs h.1)

-- a run of such a program

module _ (p : Program) (alone : p.imported ≡ 0) (loses : Bool) (opening : Memory) (limit : Option ℕ) (n : ℕ) (start : ℕ → ℕ → State) (fuel : ℕ) where
  no_spawn : (t : Running) (act : Act Event Reply Answer) → Fits (over_memory_and_queue (machine_of p) start fuel) t (Acts act) → IsSpawn (event_of act) → ⊥
  no_spawn t (Made (Ask (Spawn arg)) reply) fits spawn = let some : 0 < p.imported = wants_spawn p t arg fits in absurd (omega (arith, some, alone))
  no_spawn t (Made _ reply) fits spawn = spawn
  no_spawn t (Heard answer) fits spawn = spawn

  step_spawns_none : (t : Running) (x : Step Event Reply Answer) (before after : List Entry)
      → Fits (over_memory_and_queue (machine_of p) start fuel) t x → Sees loses opening limit n x before after
      → SpawnsNone n before → SpawnsNone n after
  step_spawns_none t Own before after fits sees h = subst (λ w. SpawnsNone n w) (sym sees) h
  step_spawns_none t (Lost e) before after fits sees h = subst (λ w. SpawnsNone n w) (sym sees.list)
      (none_in_both n before sees.others h (none_of_others n sees.others sees.apart))
  step_spawns_none t (Full e) before after fits sees h = subst (λ w. SpawnsNone n w) (sym sees.list)
      (none_in_both n before sees.others h (none_of_others n sees.others sees.apart))
  step_spawns_none t (Acts act) before after fits sees h =
      let so_far : SpawnsNone n sees.so_far
      = subst (λ w. SpawnsNone n w) (sym sees.gains) (none_in_both n before sees.others h (none_of_others n sees.others sees.apart)) in
      subst (λ w. SpawnsNone n w) (sym sees.list)
      (none_in_both n sees.so_far (entered n act ∷ sees.behind) so_far (
        (λ same spawn. no_spawn t act fits spawn),
        none_of_others n sees.behind sees.apart_behind,
      ))

  pub run_spawns_none : (steps : List (Step Event Reply Answer)) (t end : Running) (before last : List Entry)
      → IsThreadRun (over_memory_and_queue (machine_of p) start fuel) t steps end
      → SeesAll loses opening limit n before steps last → SpawnsNone n before → SpawnsNone n last
  run_spawns_none [] t end before last run sees h = subst (λ w. SpawnsNone n w) sees h
  run_spawns_none (x ∷ steps) t end before last run sees h =
      run_spawns_none steps _ end sees.0 last run.1 sees.2 (step_spawns_none t x before sees.0 run.0 sees.1 h)

-- while nobody is spawned thread 0 alone is alive

settled_args : (q : WaitQueue) → WaitQueue.args (settled q) ≡ q.args
settled_args q = cond_both (is_stuck q) (wakes (ended q.sleepers) (end_answer q.sleepers) q) q (λ w. WaitQueue.args w ≡ q.args) (λ e. refl) (λ e. refl)

asked_args : (q : WaitQueue) (t : ℕ) (question : Question) (v : ℕ) → (IsSpawn (Ask question) → ⊥) → WaitQueue.args (asked q t question v) ≡ q.args
asked_args q t (Wait addr width expected timeout) v none =
    let s : Sleeper = record { thread = t; addr = addr; timeout = timeout } in
    cond_both (not (v == expected)) (tells t (Number 1) q)
    (cond (ends_at_once timeout) (tells t (Number 2) q) (sleeps s q)) (λ w. WaitQueue.args w ≡ q.args) (λ e. refl)
    (λ e. cond_both (ends_at_once timeout) (tells t (Number 2) q) (sleeps s q) (λ w. WaitQueue.args w ≡ q.args) (λ d. refl) (λ d. refl))
asked_args q t (Notify addr count) v none = refl
asked_args q t (Spawn arg) v none = absurd (none tt)
asked_args q t Leave v none = refl

question_args : (q : WaitQueue) (t : ℕ) (question : Question) (v : ℕ) → (IsSpawn (Ask question) → ⊥) → WaitQueue.args (after_question q t question v) ≡ q.args
unfolding after_question
question_args q t question v none = settled_args (asked q t question v) ∙ asked_args q t question v none

answer_args : (q : WaitQueue) (t : ℕ) → WaitQueue.args (after_answer q t) ≡ q.args
unfolding after_answer
answer_args q t = refl

ask_args : (q : WaitQueue) (t : ℕ) (question : Question) (reply : Reply) → (IsSpawn (Ask question) → ⊥)
    → WaitQueue.args (queue_step q t (Ask question) reply) ≡ q.args
ask_args q t question OutOfBounds none = refl
ask_args q t question (ValueReply v) none = question_args q t question v none
ask_args q t question Done none = question_args q t question 0 none
ask_args q t question Again none = question_args q t question 0 none
ask_args q t question Full none = question_args q t question 0 none

step_args : (q : WaitQueue) (t : ℕ) (event : Event) (reply : Reply) → IsSound q → q.args ≡ [] → IsAllowed q t event
    → (t ≡ 0 → IsSpawn event → ⊥) → WaitQueue.args (queue_step q t event reply) ≡ []
step_args q t (Ask question) reply sound unspawned allowed none =
    let known : t < next_id q = sound.named t allowed.alive in
    let count : length q.args ≡ 0 = ap length unspawned in
    let first : t ≡ 0 = omega (arith, known, count) in ask_args q t question reply (none first) ∙ unspawned
step_args q t (Told answer) reply sound unspawned allowed none = answer_args q t ∙ unspawned
step_args q t _ reply sound unspawned allowed none = unspawned

args_from : (q : WaitQueue) (xs : List Entry) → IsSound q → q.args ≡ [] → IsQueueLegalFrom q xs → SpawnsNone 0 xs → WaitQueue.args (queue_from q xs) ≡ []
args_from q [] sound unspawned legal none = unspawned
args_from q (e ∷ xs) sound unspawned legal none =
    args_from (queue_step q e.thread e.event e.reply) xs (IsSound-step q e.thread e.event e.reply legal.0 sound)
    (step_args q e.thread e.event e.reply sound unspawned legal.0 none.0) legal.1 none.1

pub none_spawned : (history : List Entry) → IsQueueLegal history → SpawnsNone 0 history → WaitQueue.args (queue_after history) ≡ []
unfolding queue_after IsQueueLegal first_queue
none_spawned history legal none = args_from (first_queue MOST_THREADS) (of_queue history) IsSound-first refl legal (none_of_queue 0 history none)

-- from a run of the first thread to one history

module _
    {S T : Type 0} (mem : OverMemory S) (right : S → Bool) (meaning : T → Meaning) (first : T)
    (here : (t : Running) × (meaning first).stands t × IsHere t)
    (alone : Program.imported (meaning first).program ≡ 0) (seats0 : List S) (seat desk : S) (work : List S) (places : Unpacked seats0 seat work desk)
    (names : (k : ℕ) (d : S) → k < SEATS → mem.name (get_or seats0 k d) ≡ k) (fresh : (k : ℕ) (d : S) → k < SEATS → mem.seen (get_or seats0 k d) ≡ [])
    (report : ThreadReport) (seat' : S) (name_is : mem.name seat' ≡ mem.name seat)
    (ran : (t : Running) → (meaning first).stands t → IsHere t
    → RunsOut (meaning first).program mem.loses mem.opening mem.limit (mem.name seat) t report.outcome report.spent
    (meaning first).fuel (mem.seen seat)
    (mem.seen seat'))
    (hub hub' : S) (home home' all : List S) (home_is : home ≡ seat' ∷ work) (all_are : all ≡ home' ++ hub' ∷ [])
    (level : Level mem.opening mem.name right mem.seen hub hub' home home')
    (legal : IsQueueLegal (mem.seen hub)) (hub_name : mem.name hub ≡ DESK_NAME)
    (hub_silent : entries_of DESK_NAME (mem.seen hub) ≡ []) (threads : List ThreadReport)
    (threads_are : threads ≡ report ∷ []) where
  abbrev history : List Entry
  history = mem.seen hub'

  seat_name : mem.name seat ≡ 0
  seat_name = first_name mem.name mem.seen seats0 seat work desk places names fresh

  seat_new : mem.seen seat ≡ []
  seat_new = first_new mem.name mem.seen seats0 seat work desk places names fresh

  home_name : (k : ℕ) → k < MOST_THREADS → mem.name (get_or home k desk) ≡ k
  home_name zero lt = ap (λ l. mem.name (get_or l 0 desk)) home_is ∙ (name_is ∙ seat_name)
  home_name (suc k) lt = ap (λ l. mem.name (get_or l (suc k) desk)) home_is
      ∙ work_name mem.name mem.seen seats0 seat work desk places names fresh k desk (omega (arith, lt, places.len))

  came : IsHome mem.opening mem.name mem.seen desk home all history
  came = come_home mem.opening mem.name right mem.seen desk hub hub' home home' all (ap length home_is
      ∙ ap suc places.len) home_name all_are level legal hub_name hub_silent

  head_is : get_or home 0 desk ≡ seat'
  head_is = ap (λ l. get_or l 0 desk) home_is

  owned : entries_of 0 history ≡ entries_of 0 (mem.seen seat')
  owned = came.owned 0 (omega arith) ∙ ap (λ s. entries_of 0 (mem.seen s)) head_is

  holds : IsPrefix (mem.seen seat') history
  holds = subst (λ s. IsPrefix (mem.seen s) history) head_is (came.holds 0 (omega arith))

  runs : (t : Running) → (meaning first).stands t → IsHere t
      → RunsOut (meaning first).program mem.loses mem.opening mem.limit 0 t report.outcome report.spent (meaning first).fuel []
      (mem.seen seat')
  runs t stands_so here_so =
      let named = rw seat_name at ran t stands_so here_so in
      subst (λ b. RunsOut (meaning first).program mem.loses mem.opening mem.limit 0 t report.outcome report.spent (meaning first).fuel b (mem.seen seat'))
      seat_new named

  spawns_none : SpawnsNone 0 history
  spawns_none =
      let run = RunsOut.run (runs here.0 here.1 here.2) in
      let start : ℕ → ℕ → State = λ m arg. Over report.outcome in
      subst (λ w. SpawnsNone 0 w) holds.1
      (none_in_both 0 (mem.seen seat') holds.0 (run_spawns_none (meaning first).program alone mem.loses mem.opening mem.limit 0 start 0
      run.steps here.0 _ [] (mem.seen seat') (run.run start 0) run.sees tt)
      (none_of_others 0 holds.0 (silent_more mem.loses mem.opening mem.limit 0 history (mem.seen seat') holds owned)))

  unspawned : WaitQueue.args (queue_after history) ≡ []
  unspawned = none_spawned history came.queue spawns_none

  others : (k : ℕ) → k < MOST_THREADS → k ≢ 0 → entries_of k history ≡ []
  others zero lt apart = absurd (apart refl)
  others (suc k) lt apart =
      came.owned (suc k) lt
      ∙ ap (entries_of (suc k)) (ap (λ l. mem.seen (get_or l (suc k) desk)) home_is
      ∙ work_new mem.name mem.seen seats0 seat work desk places names fresh k desk (omega (arith, lt, places.len)))

  pub composed_alone : IsComposed mem meaning first [] threads all
  composed_alone = record {
    history = history;
    len = came.len;
    names = came.names;
    seen_by = came.seen_by;
    legal = came.legal;
    queue = came.queue;
    silent = λ n le some none. below_more (λ (j : ℕ). j ≢ 0 → entries_of j history ≡ []) MOST_THREADS others (λ apart. came.desk) n (omega (arith, le)) some;
    count = ap length threads_are ∙ (let e = ap length unspawned in omega (arith, e));
    leads = λ d t stands_so here_so.
        subst (λ l. IsReport mem.loses mem.opening mem.limit 0 (meaning first).program t (meaning first).fuel (get_or l 0 d) [] history) (sym threads_are)
        (report_by mem.loses mem.opening mem.limit 0 history (meaning first).program t (meaning first).fuel report [] (mem.seen seat')
        refl holds owned (runs t stands_so here_so));
    works = λ k arg d e has. let none = ap (λ l. slice_get l k) unspawned in absurd (cc (none, has));
  }
