-- Whom a question starts, and the number that comes next then.
use Rattle.std.proofs.Common.{◌≡◌, ◌≢◌, ℕ, ◌+◌, ◌≤◌, ◌==◌, ◌&&◌, Bool, true, false, cond, [], ◌∷◌, ◌++◌, length}
use Rattle.std.proofs.Common.{Some, None, refl, ◌∙◌, ap, length-append}
use Rattle.std.specs.Prelude.{nat_lt}
use Rattle.std.proofs.lemmas.Bool.{le-ltb}
use Rattle.types.specs.declared.event.Event.TheVariants as events
use Rattle.types.specs.declared.event.Question.{Question}
use Rattle.types.specs.declared.event.Question.TheVariants.{Wait, Notify, Spawn, Leave}
use Rattle.types.specs.declared.limits.TheConstants.{MOST_THREADS}
use Rattle.shared_memory.specs.WaitQueue.{WaitQueue, next_id, after_question}
use Rattle.schedule.specs.Machine.{Thread.Runs}
use Rattle.schedule.proofs.Basics.{other_is}
use Rattle.schedule_threads.specs.Shared.{Shared, starts_by}
use Rattle.schedule_threads.specs.Threads.{machine_of}
use Rattle.schedule_runs.proofs.Places.{args_by, question_args}
use Rattle.interp_trait.specs.Turns.{spawned_in}
use Rattle.schedule_machine.specs.Threads.{Setting}
use Rattle.schedule_machine.specs.Runs.{spawned_at, started_at, next_after}

-- as the definition has it
pub starts_is : (s : Setting) (x : Shared) → length x.queue.due ≡ MOST_THREADS → (question : Question) (m : ℕ)
    → starts_by (machine_of s.program) (spawned_in s.worker) s.fuel x (events.Ask question) m ≡ started_at s (next_id x.queue) question m
starts_is s x dues (Wait addr width expected timeout) m = refl
starts_is s x dues (Notify addr count) m = refl
starts_is s x dues (Spawn arg) m =
    ap (λ (k : ℕ). cond (nat_lt m k && (m == next_id x.queue)) (Some (Runs (spawned_in s.worker m arg) s.fuel)) None) dues
starts_is s x dues Leave m = refl

-- the number that comes next

next_args : (q : WaitQueue) → length q.due ≡ MOST_THREADS → (question : Question) → length (args_by q question) + 1 ≡ next_after (next_id q) question
next_args q dues (Wait addr width expected timeout) = refl
next_args q dues (Notify addr count) = refl
next_args q dues (Spawn arg) =
    ap (λ (k : ℕ). length (cond (nat_lt (next_id q) k) (q.args ++ arg ∷ []) q.args) + 1) dues ∙ go (nat_lt (next_id q) MOST_THREADS)
  where
    go : (b : Bool) → length (cond b (q.args ++ arg ∷ []) q.args) + 1 ≡ cond b (next_id q + 1) (next_id q)
    go true = ap (λ k. k + 1) (length-append q.args (arg ∷ []))
    go false = refl
next_args q dues Leave = refl

pub next_question : (q : WaitQueue) → length q.due ≡ MOST_THREADS → (n : ℕ) (question : Question) (v : ℕ)
    → next_id (after_question q n question v) ≡ next_after (next_id q) question
next_question q dues n question v = ap (λ args. length args + 1) (question_args q n question v) ∙ next_args q dues question

-- a spawn starts no thread but that of the next number

and_false : (b : Bool) → (b && false) ≡ false
and_false true = refl
and_false false = refl

pub spawned_apart : (s : Setting) (next arg m : ℕ) → m ≢ next → spawned_at s next arg m ≡ None
spawned_apart s next arg m apart =
    ap (λ b. cond (nat_lt m MOST_THREADS && b) (Some (Runs (spawned_in s.worker m arg) s.fuel)) None) (other_is m next apart)
    ∙ ap (λ b. cond b (Some (Runs (spawned_in s.worker m arg) s.fuel)) None) (and_false (nat_lt m MOST_THREADS))

pub spawned_past : (s : Setting) (next arg m : ℕ) → MOST_THREADS ≤ m → spawned_at s next arg m ≡ None
spawned_past s next arg m past = ap (λ b. cond (b && (m == next)) (Some (Runs (spawned_in s.worker m arg) s.fuel)) None) (le-ltb m MOST_THREADS past)
