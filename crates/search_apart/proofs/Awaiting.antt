-- A thread that awaits an answer sleeps in the queue, where nobody is stuck.
use Rattle.std.proofs.Common.{◌≡◌, ◌≢◌, ◌⊎◌, inl, inr, ℕ, ℤ, ◌+◌, ◌<◌, ◌==◌, ◌||◌, ◌&&◌, Bool, true, false, not, true≢false, [], ◌∷◌, length, cond}
use Rattle.std.proofs.Common.{Option, Some, None, refl, sym, ap, ◌∙◌, subst, arith, get_or-set_same}
use Rattle.std.specs.Prelude.{nat_lt, nat_le, is_some, if◌then◌else◌}
use Rattle.std.proofs.lemmas.Bool.{cases_Bool, or_left, or_right, or_cases, and_parts, eq-eqb, eqb-true, both_ways}
use Rattle.std.proofs.lemmas.List.Folds.{list_any-append}
use Rattle.types.specs.declared.event.Event.{Event}
use Rattle.types.specs.declared.event.Event.TheVariants as events
use Rattle.types.specs.declared.event.Question.TheVariants.{Wait, Notify, Spawn, Leave}
use Rattle.types.specs.declared.event.Answer.{Answer}
use Rattle.types.specs.declared.event.Answer.TheVariants as answers
use Rattle.types.specs.declared.event.Reply.{Reply}
use Rattle.types.specs.declared.event.Reply.TheVariants as replies
use Rattle.types.specs.declared.outcome.Outcome.{Outcome}
use Rattle.types.specs.declared.value.Value.TheVariants as values
use Rattle.shared_memory.specs.declared.sleeper.Sleeper.{Sleeper}
use Rattle.shared_memory.specs.Memory.{Memory, loaded, reply_of}
use Rattle.shared_memory.specs.WaitQueue.{WaitQueue, is_asleep, answer_due, next_id, has_slot, woken_at, due_after}
use Rattle.shared_memory.specs.WaitQueue.{settled, IsFree, has_open_question, ends_at_once}
use Rattle.shared_memory.specs.Legal.{IsAllowed}
use Rattle.shared_memory.specs.Sound.{IsSound}
use Rattle.shared_memory.proofs.Sleepers.{length-due_after}
use Rattle.shared_memory.proofs.Others.{Keeps, Keeps-same, Keeps-step, Keeps-settled}
use Rattle.schedule.specs.System.{Want.Turns, Want.Calls, Want.Awaits, put}
use Rattle.schedule.specs.Scheduled.{or_started}
use Rattle.schedule.proofs.Basics.{put-same, put-other, at_each, same_or_not}
use Rattle.schedule_threads.specs.Shared.{is_question}
use Rattle.schedule_threads.specs.Threads.{machine_of, wish_of}
use Rattle.schedule_threads.proofs.Asking.{LeavesWaiting, leaves_waiting, waits_by, wants_spawn}
use Rattle.schedule_machine.specs.Threads.{IsMadeReply}
use Rattle.schedule_machine.proofs.Accesses.{memory_made}
use Rattle.interp_machine.specs.Program.{Program}
use Rattle.interp_machine.specs.Config.{Config, Asked, Next, Stuck, Goes, Traps, Finishes, Asks, Hears}
use Rattle.interp_machine.specs.Step.{with_rest, next}
use Rattle.interp_machine.specs.State.{At, Over, gone_by, replied, replied_by, heard_by}
use Rattle.interp_trait.specs.Turns.{spawned_in}
use Rattle.interp_laws.specs.NeverStuck.{IsDefined}
use Rattle.search_threads.specs.Unlimited.{Unlimited.Missing, Unlimited.Going, Unlimited.Leaving, Unlimited.Away}
use Rattle.search_threads.specs.Unlimited.{unlimited_wants, unlimited_goes, unlimited_takes, unlimited_hears, want_by, reply_by}
use Rattle.search_threads.specs.Budgets.{started_without, first_without}
use Rattle.search_reach.proofs.Paths.{stays}
use Rattle.search_settled.specs.Settled.{StepsBy}
use Rattle.search_runs.specs.Called.{Called, Walker, system_of, first_state}
use Rattle.search_runs.specs.Theorems.{CanReach}
use Rattle.search_runs.proofs.Tame.{given, given_wants, answers_fit}
use Rattle.search_apart.specs.Theorems.{NobodyIsStuck}
use Rattle.search_apart.proofs.Stepping.{IsFreed, IsFreedBy, IsFine, step_fine, asked_or_not, hears_next, fresh}
use Rattle.search_apart.proofs.Calls.{Call, Rests, Tells, Sleeps, Wakes, Begins, Quits, applied, applied-sound}
use Rattle.search_apart.proofs.Calls.{call_of, wait_call, IsMade, quiet-settled, step-is}
use Rattle.search_apart.proofs.Doing.{World, Doing, Own, Makes, wanting, call_in, wants_at, after, self_in, starts_in, hears, reach-next, along, by-want}
use Rattle.search_apart.proofs.Doing.{sound, free, made, room, nothing, gives-are, queue-after, threads-after}

-- It has an open question; or it has none.
abbrev IsAsking : Walker → Type 0
IsAsking Missing = ⊥
IsAsking (Going (At c)) = c.progress ≡ Asked
IsAsking (Going (Over o)) = ⊥
IsAsking (Leaving o) = Unit {0}
IsAsking (Away o) = ⊥

abbrev pub IsDone : Walker → Type 0
IsDone Missing = Unit {0}
IsDone (Going (At c)) = IsFreed c
IsDone (Going (Over o)) = Unit {0}
IsDone (Leaving o) = ⊥
IsDone (Away o) = Unit {0}

-- ---- A step of a thread

-- who asks hears
heard-done : (p : Program) (c : Config) (a : Answer) (x : Next) → ((n : ℕ) (go : ℕ → Config) → x ≡ Hears go → IsFreed (go n)) → (go : ℕ → Config) → x ≡ Hears go
    → IsDone (Going (heard_by c x a))
heard-done p c a Stuck freed go is = absurd (cc is)
heard-done p c a (Goes later) freed go is = absurd (cc is)
heard-done p c a (Traps trap) freed go is = absurd (cc is)
heard-done p c a (Finishes result) freed go is = absurd (cc is)
heard-done p c a (Asks e later) freed go is = absurd (cc is)
heard-done p c (answers.Number n) (Hears later) freed go is = freed n later refl
heard-done p c answers.ForGood (Hears later) freed go is = tt

hears-freed : (p : Program) (c : Config) → c.progress ≡ Asked → (n : ℕ) (go : ℕ → Config) → next p c ≡ Hears go → IsFreed (go n)
hears-freed p c asked n go is =
    let same : (λ (k : ℕ). with_rest c c.frame.code (values.I32 k ∷ c.frame.operands)) ≡ go = (let h = hears_next p c asked in cc (h, is)) in
    subst (λ (f : ℕ → Config). IsFreed (f n)) same fresh

told-done : (p : Program) (t : Walker) (a : Answer) → IsAsking t → IsDone (unlimited_hears (machine_of p) t a)
told-done p Missing a h = absurd h
told-done p (Going (At c)) a h = heard-done p c a (next p c) (hears-freed p c h) (λ k. with_rest c c.frame.code (values.I32 k ∷ c.frame.operands))
    (hears_next p c h)
told-done p (Going (Over o)) a h = absurd h
told-done p (Leaving o) a h = tt
told-done p (Away o) a h = absurd h

-- after a turn of its own
gone-done : (p : Program) (c : Config) (x : Next) → want_by (machine_of p) (wish_of x) ≡ Turns → IsFine x → IsDone (Going (gone_by c x))
gone-done p c Stuck wants fine = absurd (cc wants)
gone-done p c (Goes later) wants fine = fine
gone-done p c (Traps trap) wants fine = tt
gone-done p c (Finishes result) wants fine = tt
gone-done p c (Asks e go) wants fine = absurd (cc wants)
gone-done p c (Hears go) wants fine = absurd (cc wants)

-- who wants something has isnt open question
wants-freed : (p : Program) (c : Config) → (want_by (machine_of p) (wish_of (next p c)) ≡ Awaits → ⊥) → IsFreed c
wants-freed p c h asked = h (ap (λ x. want_by (machine_of p) (wish_of x)) (hears_next p c asked))

own-done : (p : Program) (t : Walker) → unlimited_wants (machine_of p) t ≡ Turns → IsDone (unlimited_goes (machine_of p) t)
own-done p Missing wants = tt
own-done p (Going (At c)) wants = gone-done p c (next p c) wants (step_fine p c (wants-freed p c (λ a. absurd (cc (a, wants)))))
own-done p (Going (Over o)) wants = tt
own-done p (Leaving o) wants = absurd (cc wants)
own-done p (Away o) wants = tt

-- after an event
abbrev IsBehind : Event → Reply → Walker → Type 0
IsBehind e reply t = (is_question e reply ≡ true → IsAsking t) × (is_question e reply ≡ false → IsDone t)

freed-by : (e : Event) (go : ℕ → Config) (reply : Reply) → IsMadeReply reply → IsFreedBy e go → is_question e reply ≡ false → (c : Config)
    → IsDone (Going (replied_by c (Asks e go) reply))
freed-by events.Size go (replies.Value n) answered freed isnt c = freed n
freed-by (events.Grow more) go (replies.Value n) answered freed isnt c = freed n
freed-by (events.Load addr width reach) go (replies.Value n) answered freed isnt c = freed n
freed-by (events.Store addr width reach value) go (replies.Value n) answered freed isnt c = freed n
freed-by (events.Rmw op addr width value) go (replies.Value n) answered freed isnt c = freed n
freed-by (events.Cmpxchg addr width expected replacement) go (replies.Value n) answered freed isnt c = freed n
freed-by (events.Ask question) go (replies.Value n) answered freed isnt c = absurd (true≢false isnt)
freed-by (events.Told answer) go (replies.Value n) answered freed isnt c = freed n
freed-by events.Size go replies.Done answered freed isnt c = freed 0
freed-by (events.Grow more) go replies.Done answered freed isnt c = freed 0
freed-by (events.Load addr width reach) go replies.Done answered freed isnt c = freed 0
freed-by (events.Store addr width reach value) go replies.Done answered freed isnt c = freed 0
freed-by (events.Rmw op addr width value) go replies.Done answered freed isnt c = freed 0
freed-by (events.Cmpxchg addr width expected replacement) go replies.Done answered freed isnt c = freed 0
freed-by (events.Ask question) go replies.Done answered freed isnt c = absurd (true≢false isnt)
freed-by (events.Told answer) go replies.Done answered freed isnt c = freed 0
freed-by e go replies.OutOfBounds answered freed isnt c = tt
freed-by e go replies.Again answered freed isnt c = absurd answered
freed-by e go replies.Full answered freed isnt c = absurd answered

asks-by : (p : Program) (e : Event) (go : ℕ → Config) (reply : Reply) (c : Config) → next p c ≡ Asks e go → is_question e reply ≡ true
    → IsAsking (Going (replied_by c (Asks e go) reply))
asks-by p (events.Ask question) go (replies.Value n) c is so =
    (waits_by p question go (subst (LeavesWaiting p) is (leaves_waiting p c)) n).1
asks-by p (events.Ask question) go replies.Done c is so =
    (waits_by p question go (subst (LeavesWaiting p) is (leaves_waiting p c)) 0).1
asks-by p e go reply c is so = absurd (cc so)

replied-behind : (p : Program) (c : Config) (e : Event) (reply : Reply) → IsMadeReply reply → (x : Next) → next p c ≡ x → IsFine x
    → want_by (machine_of p) (wish_of x) ≡ Calls e → IsBehind e reply (reply_by (machine_of p) (wish_of x) (At c) reply)
replied-behind p c e reply answered Stuck is fine wants = absurd (cc wants)
replied-behind p c e reply answered (Goes later) is fine wants = absurd (cc wants)
replied-behind p c e reply answered (Traps trap) is fine wants = absurd (cc wants)
replied-behind p c e reply answered (Finishes result) is fine wants = absurd (cc wants)
replied-behind p c e reply answered (Hears go) is fine wants = absurd (cc wants)
replied-behind p c e reply answered (Asks this go) is fine wants =
    let same : this ≡ e = cc wants in
    subst (λ (d : Event). IsBehind d reply (Going (replied p (At c) reply))) same (
      λ so. subst (λ x. IsAsking (Going (replied_by c x reply))) (sym is) (asks-by p this go reply c is so),
      λ isnt. subst (λ x. IsDone (Going (replied_by c x reply))) (sym is) (freed-by this go reply answered fine.1 isnt c),
    )

pub takes-behind : (p : Program) (m : Memory) (t : Walker) (e : Event) → unlimited_wants (machine_of p) t ≡ Calls e
    → IsBehind e (reply_of m e) (unlimited_takes (machine_of p) t (reply_of m e))
takes-behind p m Missing e wants = absurd (cc wants)
takes-behind p m (Going (At c)) e wants =
    replied-behind p c e (reply_of m e) (memory_made m e) (next p c) refl (step_fine p c (wants-freed p c (λ a. absurd (cc (a, wants))))) wants
takes-behind p m (Going (Over o)) e wants =
    let same : events.Ask Leave ≡ e = cc wants in
    (λ so. tt, λ isnt. true≢false (subst (λ (d : Event). is_question d (reply_of m d) ≡ false) (sym same) isnt))
takes-behind p m (Leaving o) e wants = absurd (cc wants)
takes-behind p m (Away o) e wants = absurd (cc wants)

-- ---- A question is open behind it

abbrev rests : Call → Bool
rests Rests = true
rests (Tells a) = false
rests (Sleeps addr timeout) = false
rests (Wakes addr count) = false
rests (Begins arg) = false
rests Quits = false

due-open : (q : WaitQueue) (n : ℕ) (a : Answer) → answer_due q n ≡ Some a → has_open_question q n ≡ true
due-open q n a h = or_right (is_asleep q n) (is_some (answer_due q n)) (ap is_some h)

pub open-call : (n : ℕ) (q : WaitQueue) (c : Call) → n < length q.due → rests c ≡ false → has_open_question (applied n q c) n ≡ true
open-call n q Rests within h = absurd (true≢false h)
open-call n q (Tells a) within h = due-open (applied n q (Tells a)) n a (get_or-set_same q.due n (Some a) None within)
open-call n q (Sleeps addr timeout) within h =
    or_left (is_asleep (applied n q (Sleeps addr timeout)) n) (is_some (answer_due (applied n q (Sleeps addr timeout)) n))
    (list_any-append (λ (s : Sleeper). s.thread == n) q.sleepers (record { thread = n; addr = addr; timeout = timeout } ∷ [])
    ∙ or_right (is_asleep q n) ((n == n) || false) (or_left (n == n) false (eq-eqb n n refl)))
open-call n q (Wakes addr count) within h =
    let woken = woken_at addr count q.sleepers in
    let long = length-due_after woken (answers.Number 0) q.due in
    due-open (applied n q (Wakes addr count)) n (answers.Number (length woken))
    (get_or-set_same (due_after woken (answers.Number 0) q.due) n (Some (answers.Number (length woken))) None (omega (arith, within, long)))
open-call n q (Begins arg) within h =
    due-open (applied n q (Begins arg)) n (answers.Number (next_id q)) (get_or-set_same q.due n (Some (answers.Number (next_id q))) None within)
open-call n q Quits within h = due-open (applied n q Quits) n (answers.Number 0) (get_or-set_same q.due n (Some (answers.Number 0)) None within)

-- the call of a question doesn't rest, and that of another event does
abbrev IsCallOfIt : Bool → Call → Type 0
IsCallOfIt so c = (so ≡ true → rests c ≡ false) × (so ≡ false → c ≡ Rests)

no-call : IsCallOfIt false Rests
no-call = (λ so. absurd (true≢false (sym so)), λ isnt. refl)

wait-rests : (addr : ℕ) (timeout : ℤ) (s t : Bool)
    → rests (if s then Tells (answers.Number 1) else if t then Tells (answers.Number 2) else Sleeps addr timeout) ≡ false
wait-rests addr timeout true t = refl
wait-rests addr timeout false true = refl
wait-rests addr timeout false false = refl

wait-call : (addr width expected : ℕ) (timeout : ℤ) (v : ℕ) (t : Bool)
    → IsCallOfIt (is_question (events.Ask (Wait addr width expected timeout)) (if t then replies.Value v else replies.OutOfBounds))
    (if t then wait_call addr expected timeout v else Rests)
wait-call addr width expected timeout v true =
    (λ so. wait-rests addr timeout (not (v == expected)) (ends_at_once timeout), λ isnt. absurd (true≢false isnt))
wait-call addr width expected timeout v false = no-call

notify-call : (addr count : ℕ) (t : Bool)
    → IsCallOfIt (is_question (events.Ask (Notify addr count)) (if t then replies.Done else replies.OutOfBounds)) (if t then Wakes addr count else Rests)
notify-call addr count true = (λ so. refl, λ isnt. absurd (true≢false isnt))
notify-call addr count false = no-call

spawn-rests : (arg : ℕ) (t : Bool) → rests (if t then Begins arg else Tells (answers.Number 4294967295)) ≡ false
spawn-rests arg true = refl
spawn-rests arg false = refl

abbrev IsNoQuestion : Event → Type 0
IsNoQuestion (events.Ask question) = ⊥
IsNoQuestion _ = Unit {0}

no-question : (e : Event) (reply : Reply) → IsNoQuestion e → is_question e reply ≡ false
no-question events.Size reply h = refl
no-question (events.Grow more) reply h = refl
no-question (events.Load addr width reach) reply h = refl
no-question (events.Store addr width reach value) reply h = refl
no-question (events.Rmw op addr width value) reply h = refl
no-question (events.Cmpxchg addr width expected replacement) reply h = refl
no-question (events.Ask question) reply h = absurd h
no-question (events.Told answer) reply h = refl

pub question-call : (q : WaitQueue) (m : Memory) (e : Event) → IsCallOfIt (is_question e (reply_of m e)) (call_of q m e)
question-call q m events.Size = no-call
question-call q m (events.Grow more) = no-call
question-call q m (events.Load addr width reach) = (
  λ so. absurd
      (both_ways (is_question (events.Load addr width reach) (reply_of m (events.Load addr width reach)))
      (no-question (events.Load addr width reach) (reply_of m (events.Load addr width reach)) tt) so),
  λ isnt. refl,
)
question-call q m (events.Store addr width reach value) = (
  λ so. absurd
      (both_ways (is_question (events.Store addr width reach value) (reply_of m (events.Store addr width reach value)))
      (no-question (events.Store addr width reach value) (reply_of m (events.Store addr width reach value)) tt) so),
  λ isnt. refl,
)
question-call q m (events.Rmw op addr width value) = (
  λ so. absurd
      (both_ways (is_question (events.Rmw op addr width value) (reply_of m (events.Rmw op addr width value)))
      (no-question (events.Rmw op addr width value) (reply_of m (events.Rmw op addr width value)) tt) so),
  λ isnt. refl,
)
question-call q m (events.Cmpxchg addr width expected replacement) = (
  λ so. absurd (both_ways (is_question (events.Cmpxchg addr width expected replacement)
      (reply_of m (events.Cmpxchg addr width expected replacement)))
      (no-question (events.Cmpxchg addr width expected replacement) (reply_of m (events.Cmpxchg addr width expected replacement)) tt) so),
  λ isnt. refl,
)
question-call q m (events.Ask (Wait addr width expected timeout)) = wait-call addr width expected timeout (loaded m addr width)
    (nat_le (addr + width) (length m.bytes))
question-call q m (events.Ask (Notify addr count)) = notify-call addr count (nat_le (addr + 4) (length m.bytes))
question-call q m (events.Ask (Spawn arg)) = (λ so. spawn-rests arg (has_slot q (next_id q)), λ isnt. absurd (true≢false isnt))
question-call q m (events.Ask Leave) = (λ so. refl, λ isnt. absurd (true≢false isnt))
question-call q m (events.Told answer) = no-call

-- ---- Wherever threads come

open-asleep : (q : WaitQueue) (k : ℕ) → has_open_question q k ≡ true → answer_due q k ≡ None → is_asleep q k ≡ true
open-asleep q k open_is none = elim (or_cases (is_asleep q k) (is_some (answer_due q k)) open_is) [
  | inl asleep ↦ asleep
  | inr due ↦ absurd (both_ways (is_some (answer_due q k)) (ap is_some none) due)
]

allowed-of : (q : WaitQueue) (n : ℕ) (e : Event) → IsFree q n → IsMade e → IsAllowed q n e
allowed-of q n events.Size is_free h = tt
allowed-of q n (events.Grow more) is_free h = tt
allowed-of q n (events.Load addr width reach) is_free h = tt
allowed-of q n (events.Store addr width reach value) is_free h = tt
allowed-of q n (events.Rmw op addr width value) is_free h = tt
allowed-of q n (events.Cmpxchg addr width expected replacement) is_free h = tt
allowed-of q n (events.Ask question) is_free h = is_free
allowed-of q n (events.Told answer) is_free h = absurd h

-- Thread k is started so: by a spawn, with its argument, under the next number, where there is room for it.
pub record IsBegun (b : Called) (q : WaitQueue) (e : Event) (k : ℕ) (t : Walker) : Type 0 where
  pub arg : ℕ
  pub event : e ≡ events.Ask (Spawn arg)
  pub is : t ≡ Going (spawned_in b.worker k arg)
  pub room : has_slot q k ≡ true
  pub number : k ≡ next_id q

spawned-if : (b : Called) (q : WaitQueue) (arg k : ℕ) (t : Walker) (s : Bool) → (nat_lt k (length q.due) && (k == next_id q)) ≡ s
    → started_without {O = Outcome} (cond s (Some (spawned_in b.worker k arg)) None) ≡ Some t → IsBegun b q (events.Ask (Spawn arg)) k t
spawned-if b q arg k t true is h =
    let parts = and_parts (nat_lt k (length q.due)) (k == next_id q) is in
    let same : Going (spawned_in b.worker k arg) ≡ t = cc h in
    record { arg = arg; event = refl; is = sym same; room = parts.0; number = eqb-true k (next_id q) parts.1 }
spawned-if b q arg k t false is h = absurd (cc h)

pub begun-as : (b : Called) (w : World) (e : Event) (k : ℕ) (t : Walker) → starts_in b w.shared (Makes e) k ≡ Some t → IsBegun b w.shared.queue e k t
begun-as b w events.Size k t h = absurd (cc h)
begun-as b w (events.Grow more) k t h = absurd (cc h)
begun-as b w (events.Load addr width reach) k t h = absurd (cc h)
begun-as b w (events.Store addr width reach value) k t h = absurd (cc h)
begun-as b w (events.Rmw op addr width value) k t h = absurd (cc h)
begun-as b w (events.Cmpxchg addr width expected replacement) k t h = absurd (cc h)
begun-as b w (events.Ask (Wait addr width expected timeout)) k t h = absurd (cc h)
begun-as b w (events.Ask (Notify addr count)) k t h = absurd (cc h)
begun-as b w (events.Ask (Spawn arg)) k t h =
    spawned-if b w.shared.queue arg k t (nat_lt k (length w.shared.queue.due) && (k == next_id w.shared.queue)) refl h
begun-as b w (events.Ask Leave) k t h = absurd (cc h)
begun-as b w (events.Told answer) k t h = absurd (cc h)

module _ (b : Called) (nobody : NobodyIsStuck b) where
  fine-not : (x : Next) → IsDefined x → IsFine x → want_by (machine_of b.program) (wish_of x) ≡ Awaits → ⊥
  fine-not Stuck defined fine h = defined
  fine-not (Goes later) defined fine h = absurd (cc h)
  fine-not (Traps trap) defined fine h = absurd (cc h)
  fine-not (Finishes result) defined fine h = absurd (cc h)
  fine-not (Asks e go) defined fine h = absurd (cc h)
  fine-not (Hears go) defined fine h = fine

  done-by : (w : World) → CanReach b w → (k : ℕ) (t : Walker) → w.threads k ≡ t → IsDone t → unlimited_wants (machine_of b.program) t ≡ Awaits → ⊥
  done-by w reach k Missing is done h = absurd (cc h)
  done-by w reach k (Going (At c)) is done h = fine-not (next b.program c) (nobody.defined w reach k c is) (step_fine b.program c done) h
  done-by w reach k (Going (Over o)) is done h = absurd (cc h)
  done-by w reach k (Leaving o) is done h = done
  done-by w reach k (Away o) is done h = absurd (cc h)

  -- who has no open question awaits nothing
  pub never : (w : World) → CanReach b w → (k : ℕ) → IsDone (w.threads k) → wants_at b w k ≡ Awaits → ⊥
  never w reach k done h = done-by w reach k (w.threads k) refl done h

  asking-by : (w : World) → CanReach b w → (k : ℕ) (t : Walker) → w.threads k ≡ t → unlimited_wants (machine_of b.program) t ≡ Awaits → IsAsking t
  asking-by w reach k Missing is h = absurd (cc h)
  asking-by w reach k (Going (At c)) is h = elim (asked_or_not c.progress) [
    | inl asked ↦ asked
    | inr freed ↦ absurd (done-by w reach k (Going (At c)) is freed h)
  ]
  asking-by w reach k (Going (Over o)) is h = absurd (cc h)
  asking-by w reach k (Leaving o) is h = tt
  asking-by w reach k (Away o) is h = absurd (cc h)

  asking : (w : World) → CanReach b w → (k : ℕ) → wants_at b w k ≡ Awaits → IsAsking (w.threads k)
  asking w reach k h = asking-by w reach k (w.threads k) refl h

  abbrev IsSleeping : World → Type 0
  IsSleeping w = (k : ℕ) → wants_at b w k ≡ Awaits → is_asleep w.shared.queue k ≡ true

  -- whom a spawn starts has no open question
  pub begun-done : (w : World) → CanReach b w → (n : ℕ) (e : Event) → wants_at b w n ≡ Calls e → (k : ℕ) (t : Walker)
      → IsBegun b w.shared.queue e k t → IsDone t
  begun-done w reach n e h k t is =
      let some : 0 < b.program.imported =
      wants_spawn b.program (given (w.threads n)) is.arg (given_wants b.program (w.threads n) ∙ (h ∙ ap Calls is.event)) in
      subst IsDone (sym is.is) (λ asked. fresh (sym (nobody.worker some k is.arg) ∙ asked))

  module _ (v : World) (reach : CanReach b v) (here : IsSleeping v) (n : ℕ) where
    abbrev behind : Doing → WaitQueue
    behind d = applied n v.shared.queue (call_in v.shared.queue v.shared.memory d)

    abbrev told : Doing → ℕ → Option Answer
    told d k = answer_due (settled (behind d)) k

    sound_behind : (d : Doing) → wants_at b v n ≡ wanting d → IsSound (behind d)
    sound_behind d h =
        applied-sound n v.shared.queue (call_in v.shared.queue v.shared.memory d) (free b v reach n d h) (room b v reach d) (sound b v reach)

    within : (d : Doing) → wants_at b v n ≡ wanting d → n < length v.shared.queue.due
    within d h =
        let known : n < next_id v.shared.queue = (sound b v reach).named n (free b v reach n d h).alive in
        let few = (sound b v reach).few in
        omega (arith, known, few)

    -- a turn of its own tells nobody anything
    own_told : wants_at b v n ≡ Turns → (k : ℕ) → told Own k ≡ None
    own_told h k = sym (ap (λ z. answer_due z k) (quiet-settled v.shared.queue n (free b v reach n Own h))) ∙ nothing b v reach k

    -- nor does an event that isn't a question
    event_told : (e : Event) → wants_at b v n ≡ Calls e → is_question e (reply_of v.shared.memory e) ≡ false → (k : ℕ) → told (Makes e) k ≡ None
    event_told e h isnt k =
        ap (λ c. answer_due (settled (applied n v.shared.queue c)) k) ((question-call v.shared.queue v.shared.memory e).1 isnt)
        ∙ (sym (ap (λ z. answer_due z k) (quiet-settled v.shared.queue n (free b v reach n (Makes e) h))) ∙ nothing b v reach k)

    -- who isn't told anything sleeps on
    keeps : (d : Doing) → wants_at b v n ≡ wanting d → (k : ℕ) → k ≢ n → Keeps k v.shared.queue (settled (behind d))
    keeps Own h k apart =
        subst (λ z. Keeps k v.shared.queue z) (quiet-settled v.shared.queue n (free b v reach n Own h)) (Keeps-same k v.shared.queue)
    keeps (Makes e) h k apart =
        subst (λ z. Keeps k v.shared.queue z) (step-is v.shared.queue n v.shared.memory e (free b v reach n (Makes e) h) (made b v reach n e h))
        (Keeps-step k n v.shared.queue e (reply_of v.shared.memory e) (λ x. apart (sym x))
        (allowed-of v.shared.queue n e (free b v reach n (Makes e) h) (made b v reach n e h)) (sound b v reach))

    sleeps-on : (d : Doing) → wants_at b v n ≡ wanting d → (k : ℕ) → k ≢ n → wants_at b v k ≡ Awaits → told d k ≡ None → is_asleep (settled (behind d)) k ≡ true
    sleeps-on d h k apart awaits none =
        open-asleep (settled (behind d)) k
        ((keeps d h k apart).waits (or_left (is_asleep v.shared.queue k) (is_some (answer_due v.shared.queue k)) (here k awaits))) none

    -- the thread itself, where it isn't told anything: it is done, or sleeps
    itself : (d : Doing) → wants_at b v n ≡ wanting d → told d n ≡ None → IsDone (self_in b v n d) ⊎ (is_asleep (settled (behind d)) n ≡ true)
    itself Own h none = inl (own-done b.program (v.threads n) h)
    itself (Makes e) h none = elim (cases_Bool (is_question e (reply_of v.shared.memory e))) [
      | inl so ↦ inr (open-asleep (settled (behind (Makes e))) n
          ((Keeps-settled n (behind (Makes e)) (sound_behind (Makes e) h)).waits
          (open-call n v.shared.queue (call_of v.shared.queue v.shared.memory e) (within (Makes e) h)
          ((question-call v.shared.queue v.shared.memory e).0 so))) none)
      | inr isnt ↦ inl ((takes-behind b.program v.shared.memory (v.threads n) e h).1 isnt)
    ]

    -- where it is told something, it has asked
    itself-asks : (d : Doing) → wants_at b v n ≡ wanting d → (a : Answer) → told d n ≡ Some a → IsAsking (self_in b v n d)
    itself-asks Own h a is = absurd (let none = own_told h n in cc (none, is))
    itself-asks (Makes e) h a is = elim (cases_Bool (is_question e (reply_of v.shared.memory e))) [
      | inl so ↦ (takes-behind b.program v.shared.memory (v.threads n) e h).0 so
      | inr isnt ↦ absurd (let none = event_told e h isnt n in cc (none, is))
    ]

    -- and so has another thread
    other-asks : (d : Doing) → wants_at b v n ≡ wanting d → (k : ℕ) → k ≢ n → (a : Answer) → told d k ≡ Some a → IsAsking (v.threads k)
    other-asks Own h k apart a is = absurd (let none = own_told h k in cc (none, is))
    other-asks (Makes e) h k apart a is =
        asking v reach k (answers_fit b v reach n k e a h (gives-are b v reach n (Makes e) h k ∙ is) apart)

    abbrev later : World
    later = after b v n

    reach_later : CanReach b later
    reach_later = reach-next b v n reach

    module _ (d : Doing) (h : wants_at b v n ≡ wanting d) (k : ℕ) (awaits : wants_at b later k ≡ Awaits) where
      abbrev before : Walker
      before = put v.threads n (self_in b v n d) k

      abbrev started : Option Walker
      started = starts_in b v.shared d k

      is-later : later.threads k ≡ or_started started (hears b before (told d k))
      is-later = threads-after b v reach n d h k

      -- nobody awaits an answer that began there
      by-start : (f : Doing) → wants_at b v n ≡ wanting f → (t : Walker) → starts_in b v.shared f k ≡ Some t → IsDone t
      by-start Own g t is = absurd (cc is)
      by-start (Makes e) g t is = begun-done v reach n e g k t (begun-as b v e k t is)

      -- nor who was told one
      by-told : (a : Answer) → told d k ≡ Some a → IsDone (hears b before (Some a))
      by-told a is = elim (same_or_not k n) [
        | inl same ↦ told-done b.program before a
            (subst IsAsking (sym (ap (put v.threads n (self_in b v n d)) same ∙ put-same v.threads n (self_in b v n d)))
            (itself-asks d h a (ap (told d) (sym same) ∙ is)))
        | inr apart ↦ told-done b.program before a
            (subst IsAsking (sym (put-other v.threads n (self_in b v n d) k apart)) (other-asks d h k apart a is))
      ]

      -- and who wasn't sleeps
      by-rest : later.threads k ≡ before → told d k ≡ None → is_asleep (settled (behind d)) k ≡ true
      by-rest is none = elim (same_or_not k n) [
        | inl same ↦ (let itself_is : later.threads k ≡ self_in b v n d =
            is ∙ (ap (put v.threads n (self_in b v n d)) same ∙ put-same v.threads n (self_in b v n d)) in
            elim (itself d h (ap (told d) (sym same) ∙ none)) [
              | inl done ↦ absurd (never later reach_later k (subst IsDone (sym itself_is) done) awaits)
              | inr asleep ↦ ap (is_asleep (settled (behind d))) same ∙ asleep
            ])
        | inr apart ↦ sleeps-on d h k apart
            (ap (unlimited_wants (machine_of b.program)) (sym (is ∙ put-other v.threads n (self_in b v n d) k apart)) ∙ awaits) none
      ]

      by-answer : (o : Option Answer) → told d k ≡ o → later.threads k ≡ hears b before o → is_asleep (settled (behind d)) k ≡ true
      by-answer None told_is is = by-rest is told_is
      by-answer (Some a) told_is is = absurd (never later reach_later k (subst IsDone (sym is) (by-told a told_is)) awaits)

      by-started : (o : Option Walker) → started ≡ o → later.threads k ≡ or_started o (hears b before (told d k)) → is_asleep (settled (behind d)) k ≡ true
      by-started None started_is is = by-answer (told d k) refl is
      by-started (Some t) started_is is = absurd (never later reach_later k (subst IsDone (sym is) (by-start d h t started_is)) awaits)

      pub asleep-later : is_asleep later.shared.queue k ≡ true
      asleep-later = ap (λ z. is_asleep z k) (queue-after b v reach n d h) ∙ by-started started refl is-later

  step : (v : World) → CanReach b v → IsSleeping v → (n : ℕ) → IsSleeping (after b v n)
  step v reach here n = by-want b IsSleeping v n here (λ d h k awaits. asleep-later v reach here n d h k awaits)

  -- at first no thread has an open question
  first-done : (k : ℕ) → IsDone ((first_state b).threads k)
  first-done = at_each 0 (λ k. IsDone ((first_state b).threads k))
      (subst (λ o. IsDone (first_without o)) (sym (put-same (λ (m : ℕ). None) 0 (Some (At b.main)))) (λ asked. fresh (sym nobody.main ∙ asked)))
      (λ k apart. subst (λ o. IsDone (first_without o)) (sym (put-other (λ (m : ℕ). None) 0 (Some (At b.main)) k apart)) tt)

  pub awaits-asleep : (w : World) → CanReach b w → (k : ℕ) → wants_at b w k ≡ Awaits → is_asleep w.shared.queue k ≡ true
  awaits-asleep = along b IsSleeping
      (λ k awaits. absurd (never (first_state b) (stays (StepsBy (system_of b)) (first_state b)) k (first-done k) awaits)) step
