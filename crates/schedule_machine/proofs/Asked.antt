-- After a question: who is alive, who sleeps, and to whom an answer is given.
use Rattle.std.proofs.Common.{◌≡◌, ◌≢◌, ℕ, ◌<◌, ◌==◌, ◌||◌, true, false, not, cond, [], ◌∷◌, length, refl, sym, ◌∙◌, subst}
use Rattle.std.specs.Prelude.{nat_lt}
use Rattle.std.proofs.lemmas.Bool.{cond_both, cond-true, or_left, or_right, eq-eqb, lt-ltb}
use Rattle.std.proofs.lemmas.List.Folds.{list_any-append}
use Rattle.types.specs.declared.event.Question.{Question}
use Rattle.types.specs.declared.event.Question.TheVariants.{Wait, Notify, Spawn, Leave}
use Rattle.types.specs.declared.event.Answer.TheVariants.{Number}
use Rattle.shared_memory.specs.declared.sleeper.Sleeper.{Sleeper}
use Rattle.shared_memory.specs.WaitQueue.{WaitQueue, is_alive, next_id, tells, starts, sleeps, ends_at_once, asked, after_question, IsFree}
use Rattle.shared_memory.specs.Sound.{IsSound}
use Rattle.shared_memory.proofs.Soundness.{IsSound-asked, IsSound-question}
use Rattle.shared_memory.proofs.Others.{Keeps, Keeps-settled, Keeps-step}
use Rattle.types.specs.declared.event.Event.TheVariants as events
use Rattle.types.specs.declared.event.Reply.TheVariants as replies

module _ (q : WaitQueue) (n : ℕ) (question : Question) (v : ℕ) (sound : IsSound q) (free : IsFree q n) where
  abbrev after : WaitQueue
  after = after_question q n question v

  pub sound_after : IsSound after
  sound_after = IsSound-question q n question v free sound

  pub keeps_others : (m : ℕ) → m ≢ n → Keeps m q after
  keeps_others m apart = Keeps-step m n q (events.Ask question) (replies.Value v) (λ e. apart (sym e)) free sound

asked_alive : (q : WaitQueue) (n : ℕ) (question : Question) (v m : ℕ) → (question ≡ Leave → ⊥) → is_alive q m ≡ true → is_alive (asked q n question v) m ≡ true
asked_alive q n (Wait addr width expected timeout) v m stays h =
    let s : Sleeper = record { thread = n; addr = addr; timeout = timeout } in
    cond_both (not (v == expected)) (tells n (Number 1) q) (cond (ends_at_once timeout) (tells n (Number 2) q) (sleeps s q)) (λ w. is_alive w m ≡ true) (λ e. h)
    (λ e. cond_both (ends_at_once timeout) (tells n (Number 2) q) (sleeps s q) (λ w. is_alive w m ≡ true) (λ d. h) (λ d. h))
asked_alive q n (Notify addr count) v m stays h = h
asked_alive q n (Spawn arg) v m stays h =
    cond_both (nat_lt (next_id q) (length q.due)) (tells n (Number (next_id q)) (starts arg q)) (tells n (Number 4294967295) q) (λ w. is_alive w m ≡ true)
    (λ e. list_any-append (λ k. k == m) q.alive (next_id q ∷ []) ∙ or_left (is_alive q m) ((next_id q == m) || false) h) (λ e. h)
asked_alive q n Leave v m stays h = absurd (stays refl)

-- who was alive stays so, but for one that leaves
pub still_alive : (q : WaitQueue) (n : ℕ) (question : Question) (v m : ℕ) → IsSound q → IsFree q n
    → (question ≡ Leave → ⊥) → is_alive q m ≡ true → is_alive (after_question q n question v) m ≡ true
unfolding after_question
still_alive q n question v m sound free stays h =
    (Keeps-settled m (asked q n question v) (IsSound-asked q n question v free sound)).alive (asked_alive q n question v m stays h)

-- who is spawned is alive
pub newborn_alive : (q : WaitQueue) (n arg v : ℕ) → IsSound q → IsFree q n → next_id q < length q.due
    → is_alive (after_question q n (Spawn arg) v) (next_id q) ≡ true
unfolding after_question
newborn_alive q n arg v sound free room =
    (Keeps-settled (next_id q) (asked q n (Spawn arg) v) (IsSound-asked q n (Spawn arg) v free sound)).alive
    (subst (λ w. is_alive w (next_id q) ≡ true)
    (sym (cond-true (nat_lt (next_id q) (length q.due)) (tells n (Number (next_id q)) (starts arg q))
    (tells n (Number 4294967295) q)
    (lt-ltb (next_id q) (length q.due) room)))
    (list_any-append (λ k. k == next_id q) q.alive (next_id q ∷ [])
    ∙ or_right (is_alive q (next_id q)) ((next_id q == next_id q) || false) (or_left (next_id q == next_id q) false (eq-eqb (next_id q) (next_id q) refl))))
