-- Which threads a history starts, and that they run.
use Rattle.std.proofs.Common.{◌≡◌, ℕ, ◌<◌, List, [], ◌∷◌, ◌++◌, length, Option, Some, None, refl, sym, ◌∙◌, ap, subst, arith, zero, suc, append-nil}
use Rattle.std.specs.Prelude.{nat_lt, slice_get}
use Rattle.std.proofs.lemmas.Bool.{cond-true, cond_both, lt-ltb}
use Rattle.std.proofs.lemmas.Option.{slice_get_within, slice_get-get_or}
use Rattle.types.specs.declared.event.Event.{Event}
use Rattle.types.specs.declared.event.Event.TheVariants as events
use Rattle.types.specs.declared.event.Question.{Question}
use Rattle.types.specs.declared.event.Question.TheVariants.{Wait, Notify, Spawn, Leave}
use Rattle.types.specs.declared.event.Answer.{Answer}
use Rattle.types.specs.declared.event.Reply.{Reply}
use Rattle.types.specs.declared.event.Reply.TheVariants as replies
use Rattle.types.specs.declared.event.Entry as entries
use Rattle.types.specs.declared.limits.TheConstants.{MOST_THREADS}
use Rattle.shared_memory.specs.Memory.{Memory, reply_of, state_after}
use Rattle.shared_memory.specs.WaitQueue.{WaitQueue, first_queue, next_id, after_question, after_answer}
use Rattle.shared_memory.specs.History.{queue_step, queue_from, queue_after}
use Rattle.shared_memory.specs.Sound.{IsSound}
use Rattle.shared_memory.proofs.Soundness.{IsSound-first}
use Rattle.waiters.specs.Queue.{arg_of}
use Rattle.schedule.specs.System.{Step}
use Rattle.schedule.specs.ThreadRun.{IsThreadRun}
use Rattle.schedule.specs.Histories.{Place, next_shared, next_places, StartedRunAt, StartedRun}
use Rattle.schedule.specs.Machine.{Thread.Runs}
use Rattle.interp_machine.specs.State.{State}
use Rattle.schedule_threads.specs.Shared.{Shared, act_by}
use Rattle.schedule_runs.specs.Runs.{Start, system_of, first_shared, first_places, as_acts, if_spawned, begins_in}
use Rattle.schedule_runs.proofs.Places.{args_by, question_args}
use Rattle.schedule_runs.proofs.Asked.{Begun, IsSpawn, started, shared_of}
use Rattle.schedule_runs.proofs.Entries.{StandAt, EntryStep, is_spawn}
use Rattle.schedule_runs.proofs.Linked.{IsStarted, IsLegalFrom, legal_from, head_step, tail_legal, tail_sound, first_is, first_stand, queue_after-all}

-- lists that grow

slice_get-more : (xs ys : List ℕ) (k x : ℕ) → slice_get xs k ≡ Some x → slice_get (xs ++ ys) k ≡ Some x
slice_get-more [] ys k x is = absurd (cc is)
slice_get-more (y ∷ xs) ys zero x is = is
slice_get-more (y ∷ xs) ys (suc k) x is = slice_get-more xs ys k x is

slice_get-last : (xs : List ℕ) (x : ℕ) → slice_get (xs ++ x ∷ []) (length xs) ≡ Some x
slice_get-last [] x = refl
slice_get-last (y ∷ xs) x = slice_get-last xs x

-- arguments of spawns stay

abbrev pub Grows : List ℕ → List ℕ → Type 0
Grows xs ys = (more : List ℕ) × (ys ≡ xs ++ more)

grows_same : (xs ys : List ℕ) → ys ≡ xs → Grows xs ys
grows_same xs ys e = ([], e ∙ sym (append-nil xs))

grows_by : (q : WaitQueue) (question : Question) → Grows q.args (args_by q question)
grows_by q (Wait addr width expected timeout) = grows_same q.args q.args refl
grows_by q (Notify addr count) = grows_same q.args q.args refl
grows_by q (Spawn arg) = cond_both (nat_lt (next_id q) (length q.due)) (q.args ++ arg ∷ []) q.args (λ w. Grows q.args w)
    (λ e. (arg ∷ [], refl)) (λ e. grows_same q.args q.args refl)
grows_by q Leave = grows_same q.args q.args refl

grows_question : (q : WaitQueue) (n : ℕ) (question : Question) (v : ℕ) → Grows q.args (after_question q n question v).args
grows_question q n question v = subst (λ w. Grows q.args w) (sym (question_args q n question v)) (grows_by q question)

grows_ask : (q : WaitQueue) (n : ℕ) (question : Question) (reply : Reply) → Grows q.args (queue_step q n (events.Ask question) reply).args
grows_ask q n question replies.OutOfBounds = grows_same q.args q.args refl
grows_ask q n question (replies.Value v) = grows_question q n question v
grows_ask q n question replies.Done = grows_question q n question 0
grows_ask q n question replies.Again = grows_question q n question 0
grows_ask q n question replies.Full = grows_question q n question 0

pub grows_step : (q : WaitQueue) (n : ℕ) (event : Event) (reply : Reply) → Grows q.args (queue_step q n event reply).args
unfolding after_answer
grows_step q n (events.Ask question) reply = grows_ask q n question reply
grows_step q n event reply = grows_same q.args q.args refl

arg_step : (q : WaitQueue) (n : ℕ) (event : Event) (reply : Reply) (m arg : ℕ) → arg_of q m ≡ Some arg → arg_of (queue_step q n event reply) m ≡ Some arg
arg_step q n event reply zero arg is = absurd (cc is)
arg_step q n event reply (suc k) arg is =
    let grows : Grows q.args (queue_step q n event reply).args = grows_step q n event reply in
    ap (λ w. slice_get w k) grows.1 ∙ slice_get-more q.args grows.0 k arg is

pub arg_from : (q : WaitQueue) (H : List entries.Entry) (m arg : ℕ) → arg_of q m ≡ Some arg → arg_of (queue_from q H) m ≡ Some arg
arg_from q [] m arg is = is
arg_from q (e ∷ H) m arg is = arg_from (queue_step q e.thread e.event e.reply) H m arg (arg_step q e.thread e.event e.reply m arg is)

-- a spawn with room has its argument
arg_spawned : (q : WaitQueue) (n arg : ℕ) → next_id q < length q.due → arg_of (after_question q n (Spawn arg) 0) (suc (length q.args)) ≡ Some arg
arg_spawned q n arg room =
    ap (λ w. slice_get w (length q.args)) (question_args q n (Spawn arg) 0
    ∙ cond-true (nat_lt (next_id q) (length q.due))
    (q.args ++ arg ∷ []) q.args (lt-ltb (next_id q) (length q.due) room))
    ∙ slice_get-last q.args arg

-- Who begins, and that it has a number that was given out.

pub begins_known : (b : Start) (H : List entries.Entry) (n : ℕ) (c : State) → begins_in b H n ≡ Some c → n < next_id (queue_after H)
begins_known b H zero c is = omega arith
begins_known b H (suc k) c is = known (arg_of (queue_after H) (suc k)) refl is
  where
    known : (o : Option ℕ) → arg_of (queue_after H) (suc k) ≡ o → if_spawned (b.spawned (suc k)) o ≡ Some c → suc k < next_id (queue_after H)
    known None e is = absurd (cc is)
    known (Some arg) e is = let within : k < length (WaitQueue.args (queue_after H)) =
        slice_get_within (WaitQueue.args (queue_after H)) k arg e in omega (arith, within)

pub known_begins : (b : Start) (H : List entries.Entry) (n : ℕ) → n < next_id (queue_after H) → (c : State) × (begins_in b H n ≡ Some c)
known_begins b H zero known = (b.main, refl)
known_begins b H (suc k) known =
    let within : k < length (WaitQueue.args (queue_after H)) = omega (arith, known) in
    (b.spawned (suc k) _, ap (if_spawned (b.spawned (suc k))) (slice_get-get_or (WaitQueue.args (queue_after H)) k 0 within))

-- Each thread that the history starts runs.

-- whoever has an argument in the end
abbrev pub RunBy : Start → WaitQueue → (ℕ → List (Step Event Reply Answer)) → (ℕ → Begun) → Type 0
RunBy b last steps ends = (m arg : ℕ) → arg_of last m ≡ Some arg → IsThreadRun (system_of b) (Runs (b.spawned m arg) b.fuel) (steps m) (ends m)

module _ (b : Start) (last : WaitQueue) (steps : ℕ → List (Step Event Reply Answer)) (ends : ℕ → Begun) (runs : RunBy b last steps ends) where
  -- a thread that an entry starts
  started_runs : (mem : Memory) (q : WaitQueue) (n : ℕ) (event : Event) (reply : Reply) (H : List entries.Entry)
      → last ≡ queue_from (queue_step q n event reply) H
      → reply ≡ reply_of mem event → (m : ℕ) (t : Begun) → started b mem q event m ≡ Some t → IsThreadRun (system_of b) t (steps m) (ends m)
  started_runs mem q n event reply H is same m t starts =
      let spawn : IsSpawn b q event m t = is_spawn b mem q event m t starts in
      let done : reply ≡ replies.Done = same ∙ ap (reply_of mem) spawn.event_is in
      let step : queue_step q n event reply ≡ after_question q n (Spawn spawn.arg) 0 =
      ap (λ e. queue_step q n e reply) spawn.event_is ∙ ap (λ r. queue_step q n (events.Ask (Spawn spawn.arg)) r) done in
      let number : suc (length q.args) ≡ m = omega (arith, spawn.number) in
      let room : next_id q < length q.due = omega (arith, spawn.number, spawn.room) in
      let here : arg_of (queue_step q n event reply) m ≡ Some spawn.arg =
      ap (λ w. arg_of w m) step ∙ subst (λ (k : ℕ). arg_of (after_question q n (Spawn spawn.arg) 0) k ≡ Some spawn.arg)
      number (arg_spawned q n spawn.arg room) in
      let there : arg_of last m ≡ Some spawn.arg = ap (λ w. arg_of w m) is ∙ arg_from (queue_step q n event reply) H m spawn.arg here in
      subst (λ (u : Begun). IsThreadRun (system_of b) u (steps m) (ends m)) (sym spawn.thread) (runs m spawn.arg there)

  started_at : (mem : Memory) (q : WaitQueue) (n : ℕ) (event : Event) (reply : Reply) (H : List entries.Entry)
      → last ≡ queue_from (queue_step q n event reply) H
      → reply ≡ reply_of mem event → StartedRunAt (system_of b) steps ends (shared_of mem q) n (act_by event reply)
  started_at mem q n (events.Told a) reply H is same = tt
  started_at mem q n event reply H is same = started_runs mem q n event reply H is same

  started_from : (mem : Memory) (q : WaitQueue) (places : ℕ → Place Answer) (x : Shared) (H : List entries.Entry)
      → IsLegalFrom mem q H → IsSound q → StandAt q places
      → x ≡ shared_of mem q → last ≡ queue_from q H → StartedRun (system_of b) steps ends x (as_acts H)
  started_from mem q places x [] legal sound stand same is = tt
  started_from mem q places x (e ∷ H) legal sound stand same is =
      let step : EntryStep b mem q places e.thread e.event e.reply = head_step mem q e H legal b places sound stand in
      subst (λ (y : Shared). StartedRun (system_of b) steps ends y (as_acts (e ∷ H))) (sym same) (
        started_at mem q e.thread e.event e.reply H is legal.memory.0,
        started_from (state_after mem e.event) (queue_step q e.thread e.event e.reply)
            (next_places (system_of b) (shared_of mem q) places e.thread (act_by e.event e.reply))
            (next_shared (system_of b) (shared_of mem q) e.thread (act_by e.event e.reply)) H
            (tail_legal mem q e H legal) (tail_sound mem q e H legal sound) step.stand step.shared is,
      )

pub started_run : (b : Start) (H : List entries.Entry) (steps : ℕ → List (Step Event Reply Answer))
    (ends : ℕ → Begun) → IsStarted b.opening H → RunBy b (queue_after H) steps ends
    → StartedRun (system_of b) steps ends (first_shared b) (as_acts H)
started_run b H steps ends legal runs =
    started_from b (queue_after H) steps ends runs b.opening (first_queue MOST_THREADS) first_places (first_shared b) H
    (legal_from b.opening H legal) IsSound-first first_stand (first_is b) (queue_after-all H)
