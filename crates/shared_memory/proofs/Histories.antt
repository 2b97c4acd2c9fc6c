-- Histories: what an append, a prefix and an entry do to what is said of them.
use Rattle.std.proofs.Common.{◌≡◌, ◌≢◌, ℕ, ◌==◌, true, false, List, [], ◌∷◌, ◌++◌, refl, sym, ◌∙◌, ap, subst, ◌⊎◌, inl, inr, arith, append-nil}
use Rattle.std.proofs.lemmas.Bool.Decides.{nat_tests}
use Rattle.std.proofs.lemmas.List.Elements.{filter-append, All-append, All-nil, All-cons, All-head, All-tail}
use mathlib.Core.List.{IsPrefix}
use Rattle.types.specs.declared.event.Entry.{Entry}
use Rattle.types.specs.declared.event.Event.{Event}
use Rattle.types.specs.declared.event.Reply.{Reply}
use Rattle.types.specs.declared.limits.TheConstants.{MOST_THREADS}
use Rattle.shared_memory.specs.Events.{is_of_queue}
use Rattle.shared_memory.specs.Memory.{Memory, reply_of, state_after}
use Rattle.shared_memory.specs.WaitQueue.{WaitQueue, first_queue}
use Rattle.shared_memory.specs.History.{entry, entries_of, of_queue, IsEntry, AreEntries, memory_after, queue_step, queue_from, queue_after}
use Rattle.shared_memory.specs.Legal.{IsMemoryLegal, IsQueueLegalFrom, IsQueueLegal, IsWellFormedFrom, IsWellFormed, MayEnter}

-- one thread's entries

pub entries_of-append : (n : ℕ) (xs ys : List Entry) → entries_of n (xs ++ ys) ≡ entries_of n xs ++ entries_of n ys
entries_of-append n xs ys = filter-append (λ (e : Entry). e.thread == n) xs ys

-- a thread's own entry is one of its
pub entries_of-own : (n : ℕ) (event : Event) (reply : Reply) → entries_of n (entry n event reply ∷ []) ≡ entry n event reply ∷ []
entries_of-own n event reply = grind (arith, nat_tests)

-- another's entry is none of its
pub entries_of-other : (m n : ℕ) (event : Event) (reply : Reply) → n ≢ m → entries_of m (entry n event reply ∷ []) ≡ []
entries_of-other m n event reply apart = grind (arith, nat_tests)

pub entries_of-quiet : (n : ℕ) (xs ys : List Entry) → entries_of n ys ≡ [] → entries_of n (xs ++ ys) ≡ entries_of n xs
entries_of-quiet n xs ys quiet = entries_of-append n xs ys ∙ ap (λ w. entries_of n xs ++ w) quiet ∙ append-nil (entries_of n xs)

-- the wait queue's entries

pub of_queue-append : (xs ys : List Entry) → of_queue (xs ++ ys) ≡ of_queue xs ++ of_queue ys
of_queue-append xs ys = filter-append (λ (e : Entry). is_of_queue e.event) xs ys

pub of_queue-quiet : (xs ys : List Entry) → of_queue ys ≡ [] → of_queue (xs ++ ys) ≡ of_queue xs
of_queue-quiet xs ys quiet = of_queue-append xs ys ∙ ap (λ w. of_queue xs ++ w) quiet ∙ append-nil (of_queue xs)

-- one entry, by whether it is of the queue
pub of_queue-one : (e : Entry) → is_of_queue e.event ≡ true → of_queue (e ∷ []) ≡ e ∷ []
of_queue-one e is = rw is

pub of_queue-none : (e : Entry) → is_of_queue e.event ≡ false → of_queue (e ∷ []) ≡ []
of_queue-none e is = rw is

-- the memory

pub memory_after-append : (m : Memory) (xs ys : List Entry) → memory_after m (xs ++ ys) ≡ memory_after (memory_after m xs) ys
memory_after-append m [] ys = refl
memory_after-append m (x ∷ xs) ys = memory_after-append (state_after m x.event) xs ys

pub IsMemoryLegal-append : (m : Memory) (xs ys : List Entry) → IsMemoryLegal m xs → IsMemoryLegal (memory_after m xs) ys → IsMemoryLegal m (xs ++ ys)
IsMemoryLegal-append m [] ys h k = k
IsMemoryLegal-append m (x ∷ xs) ys h k = (h.0, IsMemoryLegal-append (state_after m x.event) xs ys h.1 k)

-- a prefix of a legal history is legal
pub IsMemoryLegal-prefix : (m : Memory) (xs ys : List Entry) → IsMemoryLegal m (xs ++ ys) → IsMemoryLegal m xs
IsMemoryLegal-prefix m [] ys h = tt
IsMemoryLegal-prefix m (x ∷ xs) ys h = (h.0, IsMemoryLegal-prefix (state_after m x.event) xs ys h.1)

-- and the rest is legal from the memory after it
pub IsMemoryLegal-rest : (m : Memory) (xs ys : List Entry) → IsMemoryLegal m (xs ++ ys) → IsMemoryLegal (memory_after m xs) ys
IsMemoryLegal-rest m [] ys h = h
IsMemoryLegal-rest m (x ∷ xs) ys h = IsMemoryLegal-rest (state_after m x.event) xs ys h.1

-- one more entry, with the memory's reply
pub IsMemoryLegal-entry : (m : Memory) (xs : List Entry) (n : ℕ) (event : Event) (reply : Reply) → IsMemoryLegal m xs
    → reply ≡ reply_of (memory_after m xs) event
    → IsMemoryLegal m (xs ++ entry n event reply ∷ [])
IsMemoryLegal-entry m xs n event reply h is = IsMemoryLegal-append m xs (entry n event reply ∷ []) h (is, tt)

-- the conditions on entries

pub AreEntries-prefix : (xs ys : List Entry) → AreEntries (xs ++ ys) → AreEntries xs
AreEntries-prefix [] ys h = All-nil IsEntry
AreEntries-prefix (x ∷ xs) ys h = All-cons IsEntry x xs (All-head IsEntry x (xs ++ ys) h) (AreEntries-prefix xs ys (All-tail IsEntry x (xs ++ ys) h))

pub AreEntries-rest : (xs ys : List Entry) → AreEntries (xs ++ ys) → AreEntries ys
AreEntries-rest [] ys h = h
AreEntries-rest (x ∷ xs) ys h = AreEntries-rest xs ys (All-tail IsEntry x (xs ++ ys) h)

pub AreEntries-append : (xs ys : List Entry) → AreEntries xs → AreEntries ys → AreEntries (xs ++ ys)
AreEntries-append xs ys h k = All-append IsEntry xs ys h k

-- the wait queue

pub queue_from-append : (q : WaitQueue) (xs ys : List Entry) → queue_from q (xs ++ ys) ≡ queue_from (queue_from q xs) ys
queue_from-append q [] ys = refl
queue_from-append q (x ∷ xs) ys = queue_from-append (queue_step q x.thread x.event x.reply) xs ys

pub IsQueueLegalFrom-append : (q : WaitQueue) (xs ys : List Entry) → IsQueueLegalFrom q xs
    → IsQueueLegalFrom (queue_from q xs) ys → IsQueueLegalFrom q (xs ++ ys)
IsQueueLegalFrom-append q [] ys h k = k
IsQueueLegalFrom-append q (x ∷ xs) ys h k = (h.0, IsQueueLegalFrom-append (queue_step q x.thread x.event x.reply) xs ys h.1 k)

pub IsQueueLegalFrom-prefix : (q : WaitQueue) (xs ys : List Entry) → IsQueueLegalFrom q (xs ++ ys) → IsQueueLegalFrom q xs
IsQueueLegalFrom-prefix q [] ys h = tt
IsQueueLegalFrom-prefix q (x ∷ xs) ys h = (h.0, IsQueueLegalFrom-prefix (queue_step q x.thread x.event x.reply) xs ys h.1)

pub IsQueueLegalFrom-rest : (q : WaitQueue) (xs ys : List Entry) → IsQueueLegalFrom q (xs ++ ys) → IsQueueLegalFrom (queue_from q xs) ys
IsQueueLegalFrom-rest q [] ys h = h
IsQueueLegalFrom-rest q (x ∷ xs) ys h = IsQueueLegalFrom-rest (queue_step q x.thread x.event x.reply) xs ys h.1

-- lists with the same questions and answers leave the same queue, and are legal for it alike
module _ (xs ys : List Entry) (same : of_queue xs ≡ of_queue ys) where
  pub same_queue : queue_after xs ≡ queue_after ys
  unfolding queue_after
  same_queue = ap (queue_from (first_queue MOST_THREADS)) same

  pub same_queue_legal : IsQueueLegal ys → IsQueueLegal xs
  unfolding IsQueueLegal
  same_queue_legal h = subst (IsQueueLegalFrom (first_queue MOST_THREADS)) (sym same) h

-- an entry of the queue is its next step
pub queue_after-entry : (xs : List Entry) (n : ℕ) (event : Event) (reply : Reply) → is_of_queue event ≡ true
    → queue_after (xs ++ entry n event reply ∷ []) ≡ queue_step (queue_after xs) n event reply
unfolding queue_after
queue_after-entry xs n event reply is =
    ap (queue_from (first_queue MOST_THREADS)) (of_queue-append xs (entry n event reply ∷ []) ∙ ap (λ w. of_queue xs ++ w)
    (of_queue-one (entry n event reply) is))
    ∙ queue_from-append (first_queue MOST_THREADS) (of_queue xs) (entry n event reply ∷ [])

pub IsQueueLegal-entry : (xs : List Entry) (n : ℕ) (event : Event) (reply : Reply) → is_of_queue event ≡ true → IsQueueLegal xs → MayEnter n event xs
    → IsQueueLegal (xs ++ entry n event reply ∷ [])
unfolding IsQueueLegal MayEnter queue_after
IsQueueLegal-entry xs n event reply is legal may =
    let split : of_queue (xs ++ entry n event reply ∷ []) ≡ of_queue xs ++ entry n event reply ∷ [] =
    of_queue-append xs (entry n event reply ∷ []) ∙ ap (λ w. of_queue xs ++ w) (of_queue-one (entry n event reply) is) in
    subst (IsQueueLegalFrom (first_queue MOST_THREADS)) (sym split) (IsQueueLegalFrom-append (first_queue MOST_THREADS) (of_queue xs) (entry n event reply ∷ [])
    legal (may, tt))

-- a prefix of a history that is legal for the queue is legal for it
pub IsQueueLegal-prefix : (xs ys : List Entry) → IsQueueLegal (xs ++ ys) → IsQueueLegal xs
unfolding IsQueueLegal
IsQueueLegal-prefix xs ys h = IsQueueLegalFrom-prefix (first_queue MOST_THREADS) (of_queue xs) (of_queue ys)
    (subst (IsQueueLegalFrom (first_queue MOST_THREADS)) (of_queue-append xs ys) h)

-- and one that is well formed is well formed
IsWellFormedFrom-prefix : (q : WaitQueue) (xs ys : List Entry) → IsWellFormedFrom q (xs ++ ys) → IsWellFormedFrom q xs
IsWellFormedFrom-prefix q [] ys h = tt
IsWellFormedFrom-prefix q (x ∷ xs) ys h = (h.0, IsWellFormedFrom-prefix (queue_step q x.thread x.event x.reply) xs ys h.1)

pub IsWellFormed-prefix : (xs ys : List Entry) → IsWellFormed (xs ++ ys) → IsWellFormed xs
unfolding IsWellFormed
IsWellFormed-prefix xs ys h = IsWellFormedFrom-prefix (first_queue MOST_THREADS) xs ys h

-- of two prefixes of one list one begins the other
pub prefixes_nest : (xs ys zs : List Entry) → IsPrefix xs zs → IsPrefix ys zs → IsPrefix xs ys ⊎ IsPrefix ys xs
prefixes_nest [] ys zs p q = inl (ys, refl)
prefixes_nest (x ∷ xs) [] zs p q = inr (x ∷ xs, refl)
prefixes_nest (x ∷ xs) (y ∷ ys) [] p q = let bad : x ∷ (xs ++ p.0) ≡ [] = p.1 in absurd (cc bad)
prefixes_nest (x ∷ xs) (y ∷ ys) (z ∷ zs) p q =
    let ex : x ∷ (xs ++ p.0) ≡ z ∷ zs = p.1 in
    let ey : y ∷ (ys ++ q.0) ≡ z ∷ zs = q.1 in
    let hx : x ≡ z = cc in
    let hy : y ≡ z = cc in
    let tx : xs ++ p.0 ≡ zs = cc in
    let ty : ys ++ q.0 ≡ zs = cc in
    let same : x ≡ y = cc in
    elim (prefixes_nest xs ys zs (p.0, tx) (q.0, ty)) [
      | inl r ↦ (let e : (x ∷ xs) ++ r.0 ≡ y ∷ ys = let f : xs ++ r.0 ≡ ys = r.1 in cc in inl (r.0, e))
      | inr r ↦ (let e : (y ∷ ys) ++ r.0 ≡ x ∷ xs = let f : ys ++ r.0 ≡ xs = r.1 in cc in inr (r.0, e))
    ]
