-- What an entry and a full log leave, over plain variables.
use Rattle.std.proofs.Common.{◌≡◌, ℕ, ◌+◌, ◌<◌, ◌≤◌, Bool, true, false, true≢false, cond, List, [], ◌∷◌, ◌++◌, length}
use Rattle.std.proofs.Common.{refl, sym, ap, ◌∙◌, subst, arith, eqb, ne_eqb}
use Rattle.std.specs.Prelude.{Some, nat_le}
use Rattle.std.proofs.lemmas.List.Elements.{All-nil, All-cons, All-head, All-tail}
use Rattle.types.specs.declared.event.Entry.{Entry}
use Rattle.types.specs.declared.event.Event.{Event}
use Rattle.types.specs.declared.event.Event.TheVariants.{Size, Grow, Load, Store, Rmw, Cmpxchg, Ask, Told}
use Rattle.types.specs.declared.event.Question.TheVariants.{Wait, Notify, Spawn, Leave}
use Rattle.types.specs.declared.event.Reply.{Reply}
use Rattle.types.specs.declared.event.Reply.TheVariants.{Value, Done, OutOfBounds, Again, Full}
use Rattle.types.specs.declared.limits.TheConstants.{DESK_NAME, SEATS, PAST_LIMIT, MOST_LIMIT}
use Rattle.shared_memory.specs.Events.{IsEvent, is_of_queue, is_exempt}
use Rattle.shared_memory.specs.Memory.{Memory, pages, reply_of, state_after, if_within}
use Rattle.shared_memory.specs.History.{entry, entries_of, IsEntry, AreEntries, memory_after}
use Rattle.shared_memory.specs.Legal.{IsAllowed, MayEnter}
use Rattle.shared_memory.specs.Access.{IsSeen, Answers, Accesses, lost_after}
use Rattle.shared_memory.proofs.Histories.{memory_after-append, IsMemoryLegal-entry, AreEntries-append, same_queue}
use Rattle.shared_memory_sequential.specs.Opening.{IsSized}
use Rattle.shared_memory_on_table.specs.declared.view.Caller.{Caller}
use Rattle.shared_memory_on_table.specs.Callers.{GoesOn}
use Rattle.shared_memory_on_table.proofs.GoingOn.{goes_on-queue}
use Rattle.locked_recorder.specs.Promises.{KeepsLog, IsRecord, IsBounded}
use Rattle.locked_recorder.proofs.Room.{pushed, first_spare, first_legal}

abbrev L : Type 0
L = List Entry

-- the sequential memory always answers

answers : Reply → Bool
answers (Value v) = true
answers Done = true
answers OutOfBounds = true
answers Again = false
answers Full = false

answers_within : (m : Memory) (end : ℕ) (a b : Reply) → answers a ≡ true → answers b ≡ true → answers (if_within m end a b) ≡ true
unfolding answers
answers_within m end a b p q = by_test (nat_le end (length m.bytes))
  where
    by_test : (t : Bool) → answers (cond t a b) ≡ true
    by_test true = p
    by_test false = q

reply_answers : (m : Memory) (event : Event) → answers (reply_of m event) ≡ true
unfolding answers
reply_answers m Size = refl
reply_answers m (Grow more) = refl
reply_answers m (Load addr width reach) = answers_within m reach _ _ refl refl
reply_answers m (Store addr width reach value) = answers_within m reach _ _ refl refl
reply_answers m (Rmw op addr width value) = answers_within m (addr + width) _ _ refl refl
reply_answers m (Cmpxchg addr width expected replacement) = answers_within m (addr + width) _ _ refl refl
reply_answers m (Ask (Wait addr width expected timeout)) = answers_within m (addr + width) _ _ refl refl
reply_answers m (Ask (Notify addr count)) = answers_within m (addr + 4) _ _ refl refl
reply_answers m (Ask (Spawn arg)) = refl
reply_answers m (Ask Leave) = refl
reply_answers m (Told answer) = refl

answered : (opening : Memory) (limit : ℕ) (n : ℕ) (right : Bool) (event : Event) (before after : L) (m : Memory) (reply : Reply) → reply ≡ reply_of m event
    → Answers opening (Some limit) n right event reply before after → Accesses false opening (Some limit) n right event before after reply
unfolding answers
answered opening limit n right event before after m reply is a = by_reply reply (ap answers is ∙ reply_answers m event) a
  where
    by_reply : (r : Reply) → answers r ≡ true → Answers opening (Some limit) n right event r before after
        → Accesses false opening (Some limit) n right event before after r
    by_reply (Value v) t a = a
    by_reply Done t a = a
    by_reply OutOfBounds t a = a
    by_reply Again t a = absurd (true≢false (sym t))
    by_reply Full t a = absurd (true≢false (sym t))

-- so no try is lost
pub never_lost : (m : Memory) (event : Event) (reply : Reply) (lost : ℕ) → reply ≡ reply_of m event → lost ≡ lost_after reply lost
unfolding answers
never_lost m event reply lost is = by_reply reply (ap answers is ∙ reply_answers m event)
  where
    by_reply : (r : Reply) → answers r ≡ true → lost ≡ lost_after r lost
    by_reply (Value v) t = refl
    by_reply Done t = refl
    by_reply OutOfBounds t = refl
    by_reply Again t = absurd (true≢false (sym t))
    by_reply Full t = refl

-- the event that a caller may hand in after its list it may hand in after the log
may_enter : (c : Caller) (log : L) (event : Event) → GoesOn c log → c.has_queue_right ≡ true → MayEnter c.name event c.seen → MayEnter c.name event log
unfolding MayEnter
may_enter c log event goes right may = subst (λ q. IsAllowed q c.name event) (sym (same_queue log c.seen (goes_on-queue c log goes right))) may

pub record Entered (opening : Memory) (limit capacity : ℕ) (m : Memory) (c : Caller) (event : Event) (reply : Reply) (log : L) : Type 0 where
  pub room : length log < capacity
  pub keeps : KeepsLog opening limit capacity (state_after m event) (log ++ entry c.name event reply ∷ [])
  pub outcome : Accesses false opening (Some limit) c.name c.has_queue_right event c.seen (log ++ entry c.name event reply ∷ []) reply

pub enters_log : (opening : Memory) (limit capacity : ℕ) (m : Memory) (c : Caller) (event : Event) (reply : Reply)
    (log : L) → KeepsLog opening limit capacity m log → GoesOn c log
    → c.name ≤ DESK_NAME → IsEvent event → (is_of_queue event ≡ true → c.has_queue_right ≡ true) → (is_of_queue event ≡ true → MayEnter c.name event c.seen)
    → (is_exempt event ≡ false → length log < limit) → reply ≡ reply_of m event → Entered opening limit capacity m c event reply log
enters_log opening limit capacity m c event reply log k goes known is right allowed below answer =
    let e : Entry = entry c.name event reply in
    let now : L = log ++ e ∷ [] in
    let may : is_of_queue event ≡ true → MayEnter c.name event log = λ q. may_enter c log event goes (right q) (allowed q) in
    let p = pushed limit m log c.name event reply k.spare k.queue answer may below in
    let reply_is : reply ≡ reply_of (memory_after opening log) event = answer ∙ ap (λ (x : Memory). reply_of x event) k.after in
    let seen : IsSeen opening now = record {
      legal = IsMemoryLegal-entry opening log c.name event reply k.seen.legal reply_is;
      entries = AreEntries-append log (e ∷ []) k.seen.entries (All-cons IsEntry e [] (record { named = known; event = is }) (All-nil IsEntry));
    } in
    record {
      room = let r = p.fits in let s = k.reserved in omega arith;
      keeps = record {
        after = ap (λ (x : Memory). state_after x event) k.after ∙ sym (memory_after-append opening log (e ∷ []));
        seen = seen;
        queue = p.legal;
        spare = p.spare;
        reserved = k.reserved;
        small = k.small;
      };
      outcome = answered opening limit c.name c.has_queue_right event c.seen now m reply answer
          (record { others = goes.0; so_far = log; gains = goes.1; list = refl; seen = seen; room = below });
    }

-- a new log
pub opened_keeps : (opening : Memory) (limit capacity : ℕ) (m : Memory) (log : L) → log ≡ [] → m ≡ opening
    → capacity ≡ limit + PAST_LIMIT → limit ≤ MOST_LIMIT → KeepsLog opening limit capacity m log
opened_keeps opening limit capacity m log none same reserved small = subst (λ (l : L). KeepsLog opening limit capacity m l) (sym none) (record {
  after = same;
  seen = record { legal = tt; entries = All-nil IsEntry };
  queue = first_legal;
  spare = first_spare limit;
  reserved = reserved;
  small = small;
})

-- what is left
no_others : (log : L) (n : ℕ) → AreEntries log → SEATS ≤ n → entries_of n log ≡ []
no_others [] n all le = refl
no_others (e ∷ log) n all le =
    let first = All-head IsEntry e log all in
    let named = first.named in
    let other : eqb e.thread n ≡ false = ne_eqb e.thread n (λ h. omega arith) in
    let rest = no_others log n (All-tail IsEntry e log all) le in
    rw other rest

pub recorded : (opening : Memory) (limit capacity : ℕ) (m : Memory) (log : L) (count : ℕ) (contents : List ℕ)
    → KeepsLog opening limit capacity m log → count ≡ pages m → contents ≡ m.bytes
    → IsRecord opening log count contents
recorded opening limit capacity m log count contents k p b = record {
  seen = k.seen;
  queue = k.queue;
  others = λ n le. no_others log n k.seen.entries le;
  pages_after = p ∙ ap pages k.after;
  bytes_after = b ∙ ap (λ (x : Memory). x.bytes) k.after;
}

pub bounded : (opening : Memory) (limit capacity named : ℕ) (m : Memory) (log : L) (count : ℕ)
    → KeepsLog opening limit capacity m log → limit ≡ named → count ≡ pages m → IsSized m
    → IsBounded named log count
bounded opening limit capacity named m log count k same p sized =
    let spare = k.spare in
    let within = sized.within in
    let small = sized.small in
    record { room = omega (arith, spare, same); small = omega (arith, p, within, small) }
