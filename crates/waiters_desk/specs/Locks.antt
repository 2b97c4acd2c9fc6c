-- What authors of locks rest on: a wait that is taken after a notify reads its word after all that the notifier had
-- seen.
use Rattle.std.specs.Prelude.{ℕ, ℤ, ◌≡◌, ◌≢◌, List, [], ◌∷◌, ◌++◌}
use mathlib.Core.List.{IsPrefix}
use Rattle.types.specs.declared.event.Entry.{Entry}
use Rattle.types.specs.declared.event.Question.TheVariants.{Wait, Notify}
use Rattle.types.specs.declared.event.Reply.{Reply}
use Rattle.types.specs.declared.event.Reply.TheVariants.{Value}
use Rattle.shared_memory.specs.Memory.{Memory, loaded}
use Rattle.shared_memory.specs.History.{memory_after}
use Rattle.shared_memory.specs.Legal.{IsMemoryLegal}
use Rattle.waiters_desk.specs.declared.answers.Asked.{Asked}
use Rattle.waiters_desk.specs.declared.answers.Asked.TheVariants as asked
use Rattle.waiters_desk.specs.Calls.{asked_with, IsAtOnce}

-- In a history, a wait's question that stands after a notify's question. What the notifier had seen begins the list in
-- front of its question.
pub record WaitAfterNotify (history : List Entry) : Type 0 where
  -- the notify
  pub notifier : ℕ
  pub addr : ℕ
  pub count : ℕ
  pub reply : Reply
  pub seen : List Entry
  pub before : List Entry
  pub had_seen : IsPrefix seen before
  -- the wait
  pub waiter : ℕ
  pub at : ℕ
  pub width : ℕ
  pub expected : ℕ
  pub timeout : ℤ
  pub value : ℕ
  pub between : List Entry
  pub after : List Entry
  pub stands : history ≡ before ++ asked_with notifier (Notify addr count) reply
      ∷ (between ++ asked_with waiter (Wait at width expected timeout) (Value value) ∷ after)

-- The word at an address had another value, and one of these entries stored this one there.
pub record IsStoredAgain (m : Memory) (at width value : ℕ) (since : List Entry) : Type 0 where
  pub front : List Entry
  pub changing : Entry
  pub back : List Entry
  pub among : since ≡ front ++ changing ∷ back
  pub before : loaded (memory_after m front) at width ≢ value
  pub stored : loaded (memory_after m (front ++ changing ∷ [])) at width ≡ value

-- The value was read behind all that was seen: from the memory after it and the entries since. So where the word had
-- another value after what was seen, one of the entries since stored the value that was read.
pub record ReadsAfter (opening : Memory) (seen upto : List Entry) (at width value : ℕ) : Type 0 where
  pub since : List Entry
  pub list : upto ≡ seen ++ since
  pub read : value ≡ loaded (memory_after opening upto) at width
  pub fresh : loaded (memory_after opening seen) at width ≢ value
      → IsStoredAgain (memory_after opening seen) at width value since

-- Each wait of a history that stands after a notify read its word behind all that the notifier had seen.
abbrev pub WaitsReadWhatNotifiersSaw : Memory → List Entry → Type 0
WaitsReadWhatNotifiersSaw opening history =
    (w : WaitAfterNotify history)
    → ReadsAfter opening w.seen (w.before ++ asked_with w.notifier (Notify w.addr w.count) w.reply ∷ w.between)
    w.at w.width w.value

-- It is so in every history that is legal for the memory.
abbrev pub AWaitAfterANotifyReadsWhatItSaw : Type 0
AWaitAfterANotifyReadsWhatItSaw =
    (opening : Memory) (history : List Entry) → IsMemoryLegal opening history
    → WaitsReadWhatNotifiersSaw opening history

-- A call's own wait stands in the list that its caller then has, and read its word behind all that the caller had seen
-- before.
pub record ReadsBehind (opening : Memory) (n addr width expected : ℕ) (timeout : ℤ) (value : ℕ)
    (before after : List Entry) : Type 0 where
  pub upto : List Entry
  pub rest : List Entry
  pub stands : after ≡ upto ++ asked_with n (Wait addr width expected timeout) (Value value) ∷ rest
  pub reads : ReadsAfter opening before upto addr width value

-- By that value it was answered at once, or sleeps.
abbrev pub WaitReads : Memory → ℕ → ℕ → ℕ → ℕ → ℤ → List Entry → List Entry → Asked → Type 0
WaitReads opening n addr width expected timeout before after asked.OutOfBounds = Unit {0}
WaitReads opening n addr width expected timeout before after (asked.Told number) =
    (value : ℕ) × ReadsBehind opening n addr width expected timeout value before after
    × IsAtOnce expected timeout value number
WaitReads opening n addr width expected timeout before after asked.Asleep =
    ReadsBehind opening n addr width expected timeout expected before after

-- A call's own notify stands in the list that its caller then has; and in whatever history goes on from that list, each
-- wait behind it reads its word behind all that the caller had seen before.
pub record NotifiesBehind (opening : Memory) (n addr count : ℕ) (before after : List Entry) : Type 0 where
  pub reply : Reply
  pub upto : List Entry
  pub rest : List Entry
  pub had_seen : IsPrefix before upto
  pub stands : after ≡ upto ++ asked_with n (Notify addr count) reply ∷ rest
  pub read_later : (between later : List Entry) (waiter at width expected : ℕ) (timeout : ℤ) (value : ℕ)
      → IsMemoryLegal opening (upto ++ asked_with n (Notify addr count) reply
      ∷ (between ++ asked_with waiter (Wait at width expected timeout) (Value value) ∷ later))
      → ReadsAfter opening before (upto ++ asked_with n (Notify addr count) reply ∷ between) at width value
