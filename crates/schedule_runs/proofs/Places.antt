-- The place of a thread, as the wait queue has it, and what a question makes of it.
use Rattle.std.proofs.Common.{◌≡◌, ◌≢◌, ℕ, ◌<◌, ◌≤◌, ◌==◌, Bool, true, false, not, cond, List, [], ◌∷◌, ◌++◌, length, Option}
use Rattle.std.proofs.Common.{Some, None, refl, sym, ◌∙◌, ap, subst, inl, inr}
use Rattle.std.specs.Prelude.{nat_lt, is_some}
use Rattle.std.proofs.lemmas.Bool.{cases_eq, cases_Bool, both_ways, cond-true, cond-false, cond_both, lt-ltb, le-ltb, or_cases, or_left}
use Rattle.std.proofs.lemmas.List.{length-replicate}
use Rattle.types.specs.declared.event.Event.TheVariants as events
use Rattle.types.specs.declared.event.Question.{Question}
use Rattle.types.specs.declared.event.Question.TheVariants.{Wait, Notify, Spawn, Leave}
use Rattle.types.specs.declared.event.Answer.{Answer}
use Rattle.types.specs.declared.event.Answer.TheVariants.{Number}
use Rattle.types.specs.declared.event.Reply.TheVariants as replies
use Rattle.types.specs.declared.limits.TheConstants.{MOST_THREADS}
use Rattle.shared_memory.specs.declared.sleeper.Sleeper.{Sleeper}
use Rattle.shared_memory.specs.WaitQueue.{WaitQueue, is_asleep, answer_due, next_id, tells, wakes, sleeps, starts}
use Rattle.shared_memory.specs.WaitQueue.{ends_at_once, ended, end_answer, is_stuck, settled, asked, after_question}
use Rattle.shared_memory.specs.WaitQueue.{IsFree, has_open_question}
use Rattle.shared_memory.specs.Sound.{IsSound}
use Rattle.shared_memory.proofs.Soundness.{IsSound-step, awake_if_due}
use Rattle.shared_memory.proofs.Others.{IsQuiet, Keeps, Keeps-step}
use Rattle.shared_memory.proofs.Turns.{open_step}
use Rattle.schedule.specs.System.{put}
use Rattle.schedule.specs.Histories.{Place, Place.Unstarted, Place.Free, Place.Open, Place.Due, placed}
use Rattle.schedule.proofs.Basics.{put-same, put-other}
use Rattle.schedule_threads.specs.Shared.{without_dues}
use Rattle.schedule_runs.specs.Places.{place_due, place_of}
use Rattle.schedule_runs.proofs.Dues.{or_due, none_due, question_due}

pub place_unstarted : (q : WaitQueue) (n : ℕ) → next_id q ≤ n → place_of q n ≡ Unstarted
unfolding place_of
place_unstarted q n past = cond-false (nat_lt n (next_id q)) (cond (is_asleep q n) Open (place_due (answer_due q n))) Unstarted (le-ltb n (next_id q) past)

place_there : (q : WaitQueue) (n : ℕ) → n < next_id q → place_of q n ≡ cond (is_asleep q n) Open (place_due (answer_due q n))
unfolding place_of
place_there q n known = cond-true (nat_lt n (next_id q)) (cond (is_asleep q n) Open (place_due (answer_due q n))) Unstarted (lt-ltb n (next_id q) known)

pub place_open : (q : WaitQueue) (n : ℕ) → n < next_id q → is_asleep q n ≡ true → place_of q n ≡ Open
place_open q n known asleep = place_there q n known ∙ cond-true (is_asleep q n) Open (place_due (answer_due q n)) asleep

pub place_awake : (q : WaitQueue) (n : ℕ) → n < next_id q → is_asleep q n ≡ false → place_of q n ≡ place_due (answer_due q n)
place_awake q n known awake = place_there q n known ∙ cond-false (is_asleep q n) Open (place_due (answer_due q n)) awake

pub place_told : (q : WaitQueue) (n : ℕ) (a : Answer) → n < next_id q → is_asleep q n ≡ false → answer_due q n ≡ Some a → place_of q n ≡ Due a
place_told q n a known awake due = place_awake q n known awake ∙ ap place_due due

pub place_free : (q : WaitQueue) (n : ℕ) → n < next_id q → is_asleep q n ≡ false → answer_due q n ≡ None → place_of q n ≡ Free
place_free q n known awake none = place_awake q n known awake ∙ ap place_due none

-- who is started has another place than who isn't
pub started_place : (q : WaitQueue) (n : ℕ) → n < next_id q → place_of q n ≡ Unstarted → ⊥
started_place q n known is =
    elim (cases_Bool (is_asleep q n)) [
      | inl asleep ↦ (let bad : ◌≡◌ {A = Place Answer} Open Unstarted = sym (place_open q n known asleep) ∙ is in absurd (cc bad))
      | inr awake ↦ due_not (answer_due q n) (sym (place_awake q n known awake) ∙ is)
    ]
  where
    due_not : (o : Option Answer) → place_due o ≡ Unstarted → ⊥
    due_not None e = absurd (cc e)
    due_not (Some a) e = absurd (cc e)

-- without the answers due

pub IsSound-without : (q : WaitQueue) → IsSound q → IsSound (without_dues q)
IsSound-without q sound = record {
  named = sound.named;
  distinct = sound.distinct;
  living = sound.living;
  once = sound.once;
  unanswered = λ n is. none_due q n;
  owed = λ n a due. absurd (cc (due, none_due q n));
  due_length = subst (λ (k : ℕ). k ≤ MOST_THREADS) (sym (length-replicate {A = Option Answer} (length q.due) None)) sound.due_length;
  few = subst (λ (k : ℕ). length q.args < k) (sym (length-replicate {A = Option Answer} (length q.due) None)) sound.few;
}

pub IsFree-without : (q : WaitQueue) (n : ℕ) → IsFree q n → IsFree (without_dues q) n
IsFree-without q n free = record { alive = free.alive; awake = free.awake; told = none_due q n }

-- how many are spawned

settled_args : (q : WaitQueue) → (settled q).args ≡ q.args
settled_args q = cond_both (is_stuck q) (wakes (ended q.sleepers) (end_answer q.sleepers) q) q (λ w. w.args ≡ q.args) (λ e. refl) (λ e. refl)

wait_args : (q : WaitQueue) (n addr width expected : ℕ) (timeout : _) (v : ℕ) → (asked q n (Wait addr width expected timeout) v).args ≡ q.args
wait_args q n addr width expected timeout v =
    let s : Sleeper = record { thread = n; addr = addr; timeout = timeout } in
    cond_both (not (v == expected)) (tells n (Number 1) q) (cond (ends_at_once timeout) (tells n (Number 2) q) (sleeps s q)) (λ w. w.args ≡ q.args) (λ e. refl)
    (λ e. cond_both (ends_at_once timeout) (tells n (Number 2) q) (sleeps s q) (λ w. w.args ≡ q.args) (λ d. refl) (λ d. refl))

abbrev pub args_by : WaitQueue → Question → List ℕ
args_by q (Spawn arg) = cond (nat_lt (next_id q) (length q.due)) (q.args ++ arg ∷ []) q.args
args_by q question = q.args

spawn_args : (q : WaitQueue) (n arg v : ℕ) → (asked q n (Spawn arg) v).args ≡ cond (nat_lt (next_id q) (length q.due)) (q.args ++ arg ∷ []) q.args
spawn_args q n arg v = go (nat_lt (next_id q) (length q.due))
  where
    go : (b : Bool) → WaitQueue.args (cond b (tells n (Number (next_id q)) (starts arg q)) (tells n (Number 4294967295) q)) ≡ cond b (q.args ++ arg ∷ []) q.args
    go true = refl
    go false = refl

pub question_args : (q : WaitQueue) (n : ℕ) (question : Question) (v : ℕ) → (after_question q n question v).args ≡ args_by q question
unfolding after_question
question_args q n (Wait addr width expected timeout) v =
    settled_args (asked q n (Wait addr width expected timeout) v) ∙ wait_args q n addr width expected timeout v
question_args q n (Notify addr count) v = settled_args (asked q n (Notify addr count) v)
question_args q n (Spawn arg) v = settled_args (asked q n (Spawn arg) v) ∙ spawn_args q n arg v
question_args q n Leave v = settled_args (asked q n Leave v)

-- a question with a value

module _ (q : WaitQueue) (n : ℕ) (question : Question) (v : ℕ) (sound : IsSound q) (free : IsFree q n) where
  abbrev pub after : WaitQueue
  after = after_question q n question v

  -- the answer that it gives a thread
  abbrev pub given : ℕ → Option Answer
  given m = answer_due (after_question (without_dues q) n question v) m

  pub after_sound : IsSound after
  after_sound = IsSound-step q n (events.Ask question) (replies.Value v) free sound

  pub kept : (m : ℕ) → m ≢ n → Keeps m q after
  kept m apart = Keeps-step m n q (events.Ask question) (replies.Value v) (λ e. apart (sym e)) free sound

  pub known_asker : n < next_id q
  known_asker = sound.named n free.alive

  -- only the asker and sleepers are given one
  pub given_none : (m : ℕ) → m ≢ n → is_asleep q m ≡ false → given m ≡ None
  given_none m apart awake =
      let left : Keeps m (without_dues q) (after_question (without_dues q) n question v) =
      Keeps-step m n (without_dues q) (events.Ask question) (replies.Value v) (λ e. apart (sym e)) (IsFree-without q n free) (IsSound-without q sound) in
      IsQuiet.told (left.quiet (record { awake = awake; told = none_due q m }))

  pub given_open : (m : ℕ) (a : Answer) → given m ≡ Some a → m ≢ n → place_of q m ≡ Open
  given_open m a is apart =
      elim (cases_Bool (is_asleep q m)) [
        | inl asleep ↦ place_open q m (sound.named m (sound.living m asleep)) asleep
        | inr awake ↦ (let none : given m ≡ None = given_none m apart awake in absurd (cc (is, none)))
      ]

  due_after_given : (m : ℕ) (o : Option Answer) → given m ≡ o → answer_due after m ≡ or_due o (answer_due q m)
  due_after_given m o is = question_due q n question v m ∙ ap (λ w. or_due w (answer_due q m)) is

  -- who isn't given one, and isn't the asker, stays where it is
  place_stays : (m : ℕ) → m ≢ n → m < next_id q → m < next_id after → given m ≡ None → place_of q m ≡ place_of after m
  place_stays m apart known known' none =
      let keeps : Keeps m q after = kept m apart in
      let due : answer_due after m ≡ answer_due q m = due_after_given m None none in
      elim (cases_Bool (is_asleep q m)) [
        | inl asleep ↦ (let waits : has_open_question after m ≡ true = keeps.waits (or_left (is_asleep q m) (is_some (answer_due q m)) asleep) in
            let nothing : answer_due after m ≡ None = due ∙ sound.unanswered m asleep in
            place_open q m known asleep ∙ sym (place_open after m known' (sleeps_on m waits nothing)))
        | inr awake ↦ stays_awake m known known' keeps awake due (answer_due q m) refl
      ]
    where
      sleeps_on : (m : ℕ) → has_open_question after m ≡ true → answer_due after m ≡ None → is_asleep after m ≡ true
      sleeps_on m waits nothing =
          elim (or_cases (is_asleep after m) (is_some (answer_due after m)) waits) [
            | inl is ↦ is
            | inr some ↦ (let bad : is_some (answer_due after m) ≡ false = ap is_some nothing in absurd (both_ways (is_some (answer_due after m)) bad some))
          ]

      stays_awake : (m : ℕ) → m < next_id q → m < next_id after → Keeps m q after → is_asleep q m ≡ false
          → answer_due after m ≡ answer_due q m → (o : Option Answer) → answer_due q m ≡ o
          → place_of q m ≡ place_of after m
      stays_awake m known known' keeps awake due None is =
          let quiet : IsQuiet after m = keeps.quiet (record { awake = awake; told = is }) in
          place_free q m known awake is ∙ sym (place_free after m known' quiet.awake quiet.told)
      stays_awake m known known' keeps awake due (Some a) is =
          place_told q m a known awake is ∙ sym (place_told after m a known' (awake_if_due after after_sound m a (due ∙ is)) (due ∙ is))

  -- the asker's question is open or answered
  place_asker : given n ≡ None → n < next_id after → Open ≡ place_of after n
  place_asker none known =
      let waits : has_open_question after n ≡ true = open_step q n question (replies.Value v) (λ e. absurd (cc e)) free sound in
      let nothing : answer_due after n ≡ None = due_after_given n None none ∙ free.told in
      elim (or_cases (is_asleep after n) (is_some (answer_due after n)) waits) [
        | inl is ↦ sym (place_open after n known is)
        | inr some ↦ (let bad : is_some (answer_due after n) ≡ false = ap is_some nothing in absurd (both_ways (is_some (answer_due after n)) bad some))
      ]

  pub place_given : (B : Type 0) (m : ℕ) → m < next_id q → m < next_id after → (o : Option Answer) → given m ≡ o
      → placed {B = B} None o (put (λ (k : ℕ). false) n true m) (place_of q m) ≡ place_of after m
  place_given B m known known' (Some a) is =
      let due : answer_due after m ≡ Some a = due_after_given m (Some a) is in sym (place_told after m a known' (awake_if_due after after_sound m a due) due)
  place_given B m known known' None is =
      elim (cases_eq m n) [
        | inl e ↦ subst (λ (k : ℕ). placed {B = B} None None (put (λ (j : ℕ). false) n true k) (place_of q k) ≡ place_of after k) (sym e)
            (ap (λ b. placed {B = B} None None b (place_of q n)) (put-same (λ (j : ℕ). false) n true)
            ∙ place_asker (subst (λ (k : ℕ). given k ≡ None) e is) (subst (λ (k : ℕ). k < next_id after) e known'))
        | inr apart ↦ ap (λ b. placed {B = B} None None b (place_of q m)) (put-other (λ (j : ℕ). false) n true m apart) ∙ place_stays m apart known known' is
      ]
