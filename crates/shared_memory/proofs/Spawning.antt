-- A thread that is spawned: it wasn't there before, and is free after.
use Rattle.std.proofs.Common.{◌≡◌, ◌≢◌, ℕ, ◌<◌, ◌≤◌, ◌==◌, false, ◌||◌, List, [], ◌∷◌, ◌++◌, length, Option, Some, None}
use Rattle.std.proofs.Common.{refl, sym, ◌∙◌, ap, subst, arith, get_or-set_same, get_or-set_other}
use Rattle.std.specs.Prelude.{nat_lt}
use Rattle.std.proofs.lemmas.Bool.{or_left, or_right, cond-true, lt-ltb, eq-eqb, false_from_ne_true}
use Rattle.std.proofs.lemmas.List.Folds.{list_any-append}
use Rattle.types.specs.declared.event.Entry.{Entry}
use Rattle.types.specs.declared.event.Event.TheVariants.{Ask}
use Rattle.types.specs.declared.event.Question.TheVariants.{Spawn}
use Rattle.types.specs.declared.event.Answer.{Answer}
use Rattle.types.specs.declared.event.Answer.TheVariants.{Number}
use Rattle.types.specs.declared.event.Reply.{Reply}
use Rattle.types.specs.declared.event.Reply.TheVariants.{Value, Done, OutOfBounds, Again, Full}
use Rattle.types.specs.declared.limits.TheConstants.{MOST_THREADS}
use Rattle.shared_memory.specs.WaitQueue.{WaitQueue, is_alive, is_asleep, answer_due, next_id, tells, starts, settled, asked, after_question, IsFree}
use Rattle.shared_memory.specs.History.{entry, queue_step, queue_after}
use Rattle.shared_memory.specs.Legal.{IsQueueLegal}
use Rattle.shared_memory.specs.Sound.{IsSound}
use Rattle.shared_memory.proofs.Histories.{IsQueueLegal-prefix}
use Rattle.shared_memory.proofs.Lengths.{due_length_after}
use Rattle.shared_memory.proofs.Soundness.{IsSound-after}
use Rattle.shared_memory.proofs.Settling.{awake_unstuck, settled_same}
use Rattle.shared_memory.proofs.Standing.{IsAbsent}
use Rattle.shared_memory.proofs.Turns.{queue_after-one, last_allowed}

nothing : (q : WaitQueue) → IsSound q → (n : ℕ) → next_id q ≤ n → (o : Option Answer) → answer_due q n ≡ o → o ≡ None
nothing q sound n unknown None is = refl
nothing q sound n unknown (Some a) is = let known : n < next_id q = sound.owed n a is in absurd (omega arith)

-- whose number isn't given out is absent
pub unborn : (q : WaitQueue) → IsSound q → (n : ℕ) → next_id q ≤ n → IsAbsent q n
unborn q sound n unknown = record {
  alive = false_from_ne_true (is_alive q n) (λ is. let known : n < next_id q = sound.named n is in absurd (omega arith));
  awake = false_from_ne_true (is_asleep q n) (λ is. let known : n < next_id q = sound.named n (sound.living n is) in absurd (omega arith));
  told = nothing q sound n unknown (answer_due q n) refl;
}

-- What a spawn by thread t leaves: its answer is the number of the new thread, which is free, and has its argument.
pub record Spawns (t arg : ℕ) (before after : WaitQueue) : Type 0 where
  pub answer : answer_due after t ≡ Some (Number (next_id before))
  pub args : after.args ≡ before.args ++ arg ∷ []
  pub free : IsFree after (next_id before)

module _ (t arg : ℕ) (q : WaitQueue) (sound : IsSound q) (free : IsFree q t) (room : next_id q < length q.due) where
  -- who spawns is awake, so there is nothing to settle
  unsettled_spawn : (v : ℕ) → after_question q t (Spawn arg) v ≡ tells t (Number (next_id q)) (starts arg q)
  unfolding after_question
  unsettled_spawn v =
      let step : asked q t (Spawn arg) v ≡ tells t (Number (next_id q)) (starts arg q) =
      cond-true (nat_lt (next_id q) (length q.due)) (tells t (Number (next_id q)) (starts arg q))
      (tells t (Number 4294967295) q) (lt-ltb (next_id q) (length q.due) room) in
      ap settled step
      ∙ settled_same (tells t (Number (next_id q)) (starts arg q))
      (awake_unstuck (tells t (Number (next_id q)) (starts arg q)) t
      (list_any-append (λ m. m == t) q.alive (next_id q ∷ []) ∙ or_left (is_alive q t) ((next_id q == t) || false) free.alive) free.awake)

  spawn_told : Spawns t arg q (tells t (Number (next_id q)) (starts arg q))
  spawn_told =
      let absent : IsAbsent q (next_id q) = unborn q sound (next_id q) (omega arith) in
      let known : t < next_id q = sound.named t free.alive in
      let apart : next_id q ≢ t = omega arith in
      let within : t < length q.due = omega (arith, room) in
      record {
        answer = get_or-set_same q.due t (Some (Number (next_id q))) None within;
        args = refl;
        free = record {
          alive = list_any-append (λ m. m == next_id q) q.alive (next_id q ∷ [])
              ∙ or_right (is_alive q (next_id q)) ((next_id q == next_id q) || false)
              (or_left (next_id q == next_id q) false (eq-eqb (next_id q) (next_id q) refl));
          awake = absent.awake;
          told = get_or-set_other q.due t (next_id q) (Some (Number (next_id q))) None apart ∙ absent.told;
        };
      }

  spawns_question : (v : ℕ) → Spawns t arg q (after_question q t (Spawn arg) v)
  spawns_question v = subst (λ w. Spawns t arg q w) (sym (unsettled_spawn v)) spawn_told

  spawns_step : (reply : Reply) → reply ≢ OutOfBounds → Spawns t arg q (queue_step q t (Ask (Spawn arg)) reply)
  spawns_step OutOfBounds inside = absurd (inside refl)
  spawns_step (Value v) inside = spawns_question v
  spawns_step Done inside = spawns_question 0
  spawns_step Again inside = spawns_question 0
  spawns_step Full inside = spawns_question 0

-- where fewer than 63 threads were spawned before
pub spawned : (history : List Entry) (t arg : ℕ) (reply : Reply) → reply ≢ OutOfBounds → next_id (queue_after history) < MOST_THREADS
    → IsQueueLegal (history ++ entry t (Ask (Spawn arg)) reply ∷ [])
    → Spawns t arg (queue_after history) (queue_after (history ++ entry t (Ask (Spawn arg)) reply ∷ []))
spawned history t arg reply inside room legal =
    subst (λ w. Spawns t arg (queue_after history) w) (sym (queue_after-one history t (Ask (Spawn arg)) reply))
    (spawns_step t arg (queue_after history) (IsSound-after history (IsQueueLegal-prefix history (entry t (Ask (Spawn arg)) reply ∷ []) legal))
    (last_allowed history t (Ask (Spawn arg)) reply legal)
    (subst (λ (k : ℕ). next_id (queue_after history) < k) (sym (due_length_after history)) room) reply inside)
