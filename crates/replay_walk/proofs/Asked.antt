-- A thread that makes a question.
use Rattle.std.proofs.Common.{◌≡◌, ℕ, ◌+◌, ◌<◌, ◌≤◌, ◌==◌, ◌&&◌, false, List, [], ◌∷◌, ◌++◌, length, arith, Option}
use Rattle.std.proofs.Common.{Some, None, refl, sym, ◌∙◌, ap, subst, ◌⊎◌, inl, inr, slice_get}
use Rattle.std.specs.Prelude.{nat_lt}
use Rattle.std.proofs.lemmas.Bool.{cases_lt, cond-false, le-ltb, ltb-true, eqb-true, and_parts, cond_both}
use Rattle.types.specs.declared.value.Value.{Value}
use Rattle.types.specs.declared.event.Event.{Event}
use Rattle.types.specs.declared.event.Event.TheVariants as events
use Rattle.types.specs.declared.event.Question.{Question}
use Rattle.types.specs.declared.event.Question.TheVariants.{Wait, Notify, Spawn, Leave}
use Rattle.types.specs.declared.event.Reply.{Reply}
use Rattle.types.specs.declared.outcome.Outcome.{Outcome}
use Rattle.shared_memory.specs.Memory.{reply_of}
use Rattle.shared_memory.specs.Events.{is_exempt}
use Rattle.shared_memory.specs.WaitQueue.{WaitQueue, next_id}
use Rattle.schedule.specs.Machine.{Thread.Runs}
use Rattle.schedule_runs.proofs.Places.{args_by, question_args}
use Rattle.types.specs.declared.event.Reply.TheVariants as replies
use Rattle.types.specs.declared.limits.TheConstants.{MOST_THREADS}
use Rattle.shared_memory.specs.History.{queue_step}
use Rattle.schedule.specs.System.{Want.Calls}
use Rattle.interp_machine.specs.Config.{Config}
use Rattle.interp_trait.specs.Turns.{Running, outcome_of, wants_of, Meaning, spawn_types, spawned_in}
use Rattle.replay_walk.specs.Standing.{Standing, IsStanding, IsSettledOn, IsStartedAt, system_at, made_by, is_spawn}
use Rattle.replay_walk.proofs.Made.{HasTaken, made_plain}
use Rattle.replay_walk.proofs.Spawned.{count_is, dues_are, made_spawn}

-- a question that starts nobody
pub asks_nobody : (s : Standing) (n : ℕ) (question : Question) → (is_spawn question ≡ false)
    ⊎ (length s.state.shared.queue.due ≤ next_id s.state.shared.queue) → (m : ℕ) (x : Running)
    → (system_at s).starts (s.state.shared) n (events.Ask question) m ≡ Some x → ⊥
asks_nobody s n (Wait addr width expected timeout) h m x k = absurd (cc k)
asks_nobody s n (Notify addr count) h m x k = absurd (cc k)
asks_nobody s n Leave h m x k = absurd (cc k)
asks_nobody s n (Spawn arg) (inl h) m x k = absurd (cc h)
asks_nobody s n (Spawn arg) (inr h) m x k =
    cond_both (nat_lt m (length s.state.shared.queue.due) && (m == next_id s.state.shared.queue))
    (Some (Runs (spawned_in s.worker m arg) s.budget)) None (λ w. w ≡ Some x → ⊥)
    (λ both e. let parts = and_parts (nat_lt m (length s.state.shared.queue.due)) (m == next_id s.state.shared.queue) both in
    let below : m < length s.state.shared.queue.due = ltb-true m (length s.state.shared.queue.due) parts.0 in
    let is : m ≡ next_id s.state.shared.queue = eqb-true m (next_id s.state.shared.queue) parts.1 in
    let no : ⊥ = omega arith in no)
    (λ isnt e. absurd (cc e)) k

same_args : (q : WaitQueue) (question : Question) → (is_spawn question ≡ false) ⊎ (length q.due ≤ next_id q) → args_by q question ≡ q.args
same_args q (Wait addr width expected timeout) h = refl
same_args q (Notify addr count) h = refl
same_args q Leave h = refl
same_args q (Spawn arg) (inl h) = absurd (cc h)
same_args q (Spawn arg) (inr h) = cond-false (nat_lt (next_id q) (length q.due)) (q.args ++ arg ∷ []) q.args (le-ltb (next_id q) (length q.due) h)

pub same_count : (q : WaitQueue) (n : ℕ) (question : Question) (v : Reply) → (is_spawn question ≡ false)
    ⊎ (length q.due ≤ next_id q) → next_id q ≡ next_id (queue_step q n (events.Ask question) v)
same_count q n question (replies.Value k) h = ap (λ w. length w + 1) (sym (question_args q n question k ∙ same_args q question h))
same_count q n question replies.Done h = ap (λ w. length w + 1) (sym (question_args q n question 0 ∙ same_args q question h))
same_count q n question replies.OutOfBounds h = refl
same_count q n question replies.Again h = ap (λ w. length w + 1) (sym (question_args q n question 0 ∙ same_args q question h))
same_count q n question replies.Full h = ap (λ w. length w + 1) (sym (question_args q n question 0 ∙ same_args q question h))

module _ {S : Type 0} (meaning : S → Meaning) where
  module _ (s : Standing) (threads : List S) (queue : WaitQueue) (begun : ℕ) (ends : List (Option Outcome)) (n : ℕ) (t : Running)
      (on : IsSettledOn meaning s threads queue begun ends n t) (e : Event) (v : Reply) (reply : v ≡ reply_of s.memory e)
      (kind : is_exempt e ≡ false) (none : outcome_of t ≡ None) (wants : wants_of s.program t ≡ Calls e)
      (after : List S) (taken : HasTaken meaning s threads queue begun ends n t on v after) where
    -- how all stand with other threads, and with how many started
    abbrev After : List S → ℕ → Type 0
    After threads' begun' = IsStanding meaning (made_by s n e v t) threads' (queue_step queue n e v) begun' ends

    same_after : (threads' : List S) (begun' b : ℕ) (l : List S) → begun' ≡ b → threads' ≡ l → After l b → After threads' begun'
    same_after threads' begun' b l same_begun same_threads h = subst (λ k. After threads' k) (sym same_begun) (subst (λ k. After k b) (sym same_threads) h)

    -- nobody is started
    asked_plain : (question : Question) → e ≡ events.Ask question → (is_spawn question ≡ false) ⊎ (length queue.due ≤ begun) → After after begun
    asked_plain question is h =
        let few : (is_spawn question ≡ false) ⊎ (length queue.due ≤ next_id queue) = elim h [
          | inl a ↦ inl a
          | inr b ↦ inr (omega (arith, b, (on.standing).started))
        ] in
        let few_shared : (is_spawn question ≡ false) ⊎ (length s.state.shared.queue.due ≤ next_id s.state.shared.queue) = elim h [
          | inl a ↦ inl a
          | inr b ↦ inr (omega (arith, b, count_is meaning s on.before queue begun ends on.standing, dues_are meaning s on.before queue begun ends on.standing))
        ] in
        made_plain meaning s threads queue begun ends n t on e v kind reply none wants after taken
        (λ m x k. asks_nobody s n question few_shared m x (sym (ap (λ (y : Event). (system_at s).starts (s.state.shared) n y m) is) ∙ k))
        ((on.standing).started ∙ (same_count queue n question v few ∙ ap (λ (y : Event). next_id (queue_step queue n y v)) (sym is)))

    pub made_question : (question : Question) → e ≡ events.Ask question
        → ((arg : ℕ) → e ≡ events.Ask (Spawn arg) → length threads ≡ MOST_THREADS) → (threads' : List S) (begun' : ℕ)
        → ((arg : ℕ) → question ≡ Spawn arg → begun < length queue.due → (begun' ≡ begun + 1)
        × ((x : S) (worker : List Value → Config) → slice_get after begun ≡ Some x
        → (meaning x).begins spawn_types worker → IsStartedAt meaning x worker arg after begun threads'))
        → (length queue.due ≤ begun → (begun' ≡ begun) × (threads' ≡ after)) → (is_spawn question ≡ false → (begun' ≡ begun) × (threads' ≡ after))
        → After threads' begun'
    made_question (Wait addr width expected timeout) is room threads' begun' started full other =
        same_after threads' begun' begun after (other refl).0 (other refl).1 (asked_plain (Wait addr width expected timeout) is (inl refl))
    made_question (Notify addr count) is room threads' begun' started full other =
        same_after threads' begun' begun after (other refl).0 (other refl).1 (asked_plain (Notify addr count) is (inl refl))
    made_question Leave is room threads' begun' started full other =
        same_after threads' begun' begun after (other refl).0 (other refl).1 (asked_plain Leave is (inl refl))
    made_question (Spawn arg) is room threads' begun' started full other =
        elim (cases_lt begun (length queue.due)) [
          | inl lt ↦ (let new = started arg refl lt in
              subst (λ k. After threads' k) (sym new.0)
              (made_spawn meaning s threads queue begun ends n t on arg e is v reply kind none wants after taken lt (room arg is) threads' new.1))
          | inr le ↦ same_after threads' begun' begun after (full le).0 (full le).1 (asked_plain (Spawn arg) is (inr le))
        ]
