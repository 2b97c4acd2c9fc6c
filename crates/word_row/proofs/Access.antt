-- What a try leaves of its caller's list, from what its steps tell.
use Rattle.std.proofs.Common.{◌≡◌, ◌≢◌, ℕ, suc, ◌+◌, ◌*◌, ◌<◌, ◌≤◌, Bool, true, false, cond, List, [], ◌∷◌, ◌++◌, length}
use Rattle.std.proofs.Common.{take, drop, get_or, Option, Some, None, refl, sym, ap, ◌∙◌, subst, arith, append_assoc, eqb, ne_eqb}
use native.Mathlib.Decide.{ℕ_discrete}
use mathlib.Core.Logic.{dite}
use Rattle.types.specs.declared.event.Entry.{Entry}
use Rattle.types.specs.declared.event.Event.{Event}
use Rattle.types.specs.declared.event.Event.TheVariants.{Size, Grow, Load, Store, Rmw, Cmpxchg, Ask, Told}
use Rattle.types.specs.declared.event.Reply.{Reply}
use Rattle.types.specs.declared.event.Reply.TheVariants.{Value, Done, OutOfBounds, Again, Full}
use Rattle.types.specs.declared.limits.TheConstants.{MOST_PAGES}
use Rattle.shared_memory.specs.Numbers.{le_number}
use Rattle.shared_memory.specs.Events.{IsEvent, is_of_queue}
use Rattle.shared_memory.specs.Memory.{Memory, pages, state_after, touched}
use Rattle.shared_memory.specs.History.{entry, AreEntries, memory_after}
use Rattle.shared_memory.specs.Access.{Gains, IsSeen, Answers, Changes, WasThere, WasExpected, LosesTry, Accesses, lost_after}
use Rattle.shared_memory.proofs.Histories.{memory_after-append, AreEntries-prefix}
use Rattle.shared_memory_on_table.specs.declared.view.Caller.{Caller}
use Rattle.shared_memory_on_table.specs.Callers.{GoesOn, seeing, losing_if}
use Rattle.shared_memory_on_table.specs.Rule.{MakesTry}
use Rattle.shared_memory_on_table.proofs.GoingOn.{none_of}
use Rattle.word_row.specs.Words.{words_of, IsStored}
use Rattle.word_row.specs.Answers.{end_of, place_of, size_answer, Makes, made_reply, exchange_answer}
use Rattle.word_row.specs.Rule.{caller_after, Steps}
use Rattle.word_row.proofs.Memories.{outlasts}
use Rattle.word_row.proofs.Settling.{IsAnswer, touched_is, expected_there, makes_may_lose, open_within, place_within}
use Rattle.word_row.proofs.Moves.{later_than}

abbrev L : Type 0
L = List Entry

-- lists that go on, one from the other
gains-trans : (n : ℕ) (right : Bool) (a xs b ys c : L) → Gains n right a xs b → Gains n right b ys c → Gains n right a (xs ++ ys) c
gains-trans n right a xs b ys c g h = record {
  list = h.list ∙ ap (λ (l : L). l ++ ys) g.list ∙ append_assoc a xs ys;
  apart = none_of (λ (x : Entry). eqb x.thread n) xs ys g.apart h.apart;
  quiet = λ r. none_of (λ (x : Entry). is_of_queue x.event) xs ys (g.quiet r) (h.quiet r);
}

-- a change among later entries is one among all
changes-later : (m : Memory) (xs ys : L) (event : Event) → Changes (memory_after m xs) event ys → Changes m event (xs ++ ys)
changes-later m xs ys event ch = record {
  front = xs ++ ch.front;
  changing = ch.changing;
  back = ch.back;
  among = ap (λ (l : L). xs ++ l) ch.among ∙ sym (append_assoc xs ch.front (ch.changing ∷ ch.back));
  changed = λ e. ch.changed (ap (λ (x : Memory). touched x event) (sym (memory_after-append m xs (ch.front ++ ch.changing ∷ [])))
      ∙ ap (λ (l : L). touched (memory_after m l) event) (sym (append_assoc xs ch.front (ch.changing ∷ [])))
      ∙ e ∙ ap (λ (x : Memory). touched x event) (memory_after-append m xs ch.front));
}

there-later : (m : Memory) (xs ys : L) (addr width expected : ℕ) → WasThere (memory_after m xs) addr width expected ys
    → WasThere m addr width expected (xs ++ ys)
there-later m xs ys addr width expected w = record {
  front = xs ++ w.front;
  back = w.back;
  among = ap (λ (l : L). xs ++ l) w.among ∙ sym (append_assoc xs w.front w.back);
  found = subst (λ (x : Memory). WasFound x) (sym (memory_after-append m xs w.front)) w.found;
}
  where
    WasFound : Memory → Type 0
    WasFound x = le_number (take width (drop addr x.bytes)) ≡ expected

expected-later : (m : Memory) (xs ys : L) (event : Event) → WasExpected (memory_after m xs) event ys → WasExpected m event (xs ++ ys)
expected-later m xs ys Size w = tt
expected-later m xs ys (Grow more) w = tt
expected-later m xs ys (Load addr width reach) w = tt
expected-later m xs ys (Store addr width reach value) w = tt
expected-later m xs ys (Rmw op addr width value) w = tt
expected-later m xs ys (Cmpxchg addr width expected replacement) w = there-later m xs ys addr width expected w
expected-later m xs ys (Ask question) w = tt
expected-later m xs ys (Told answer) w = tt

-- A try from a list that the caller's went on to is a try from the caller's.
pub accesses-later : (opening : Memory) (n : ℕ) (right : Bool) (event : Event) (before xs middle after : L) (reply : Reply) → Gains n right before xs middle
    → Accesses true opening None n right event middle after reply → Accesses true opening None n right event before after reply
accesses-later opening n right event before xs middle after reply g = by_reply reply
  where
    answered : (r : Reply) → Answers opening None n right event r middle after → Answers opening None n right event r before after
    answered r a = record {
      others = xs ++ a.others;
      so_far = a.so_far;
      gains = gains-trans n right before xs middle a.others a.so_far g a.gains;
      list = a.list;
      seen = a.seen;
      room = tt;
    }

    start : memory_after opening middle ≡ memory_after (memory_after opening before) xs
    start = ap (memory_after opening) g.list ∙ memory_after-append opening before xs

    by_reply : (r : Reply) → Accesses true opening None n right event middle after r → Accesses true opening None n right event before after r
    by_reply (Value v) a = answered (Value v) a
    by_reply Done a = answered Done a
    by_reply OutOfBounds a = answered OutOfBounds a
    by_reply Again a = record {
      others = xs ++ a.others;
      gains = gains-trans n right before xs middle a.others after g a.gains;
      seen = a.seen;
      may = refl;
      kind = a.kind;
      cause = changes-later (memory_after opening before) xs a.others event (subst (λ (m : Memory). Changes m event a.others) start a.cause);
      expected = expected-later (memory_after opening before) xs a.others event (subst (λ (m : Memory). WasExpected m event a.others) start a.expected);
    }
    by_reply Full a = elim a.reached [ ]

-- A step that settles the reply answers.
answered : (opening : Memory) (loses : Bool) (event : Event) (answer : Option Reply) (place found : ℕ) (c w : Caller)
    (reply : Reply) → Steps opening loses event answer place c found w → answer ≡ Some reply
    → IsAnswer answer
    → Accesses true opening None c.name c.has_queue_right event c.seen w.seen reply
answered opening loses event answer place found c w reply s is kind = by_reply reply (subst IsAnswer is kind) (record {
  others = s.goes_on.0;
  so_far = s.log;
  gains = s.goes_on.1;
  list = ap (λ (x : Caller). x.seen) s.list ∙ ap (λ (a : Option Reply). (caller_after loses event a s.log c).seen) is;
  seen = s.seen;
  room = tt;
})
  where
    by_reply : (r : Reply) → IsAnswer (Some r) → Answers opening None c.name c.has_queue_right event r c.seen w.seen
        → Accesses true opening None c.name c.has_queue_right event c.seen w.seen r
    by_reply (Value v) k a = a
    by_reply Done k a = a
    by_reply OutOfBounds k a = a
    by_reply Again k a = elim k [ ]
    by_reply Full k a = elim k [ ]

-- It loses no try.
answered_tries : (opening : Memory) (loses : Bool) (event : Event) (answer : Option Reply) (place found : ℕ) (c w : Caller)
    (reply : Reply) → Steps opening loses event answer place c found w → answer ≡ Some reply
    → IsAnswer answer
    → w.lost ≡ lost_after reply c.lost
answered_tries opening loses event answer place found c w reply s is kind =
    by_reply reply (subst IsAnswer is kind)
    (ap (λ (x : Caller). x.lost) s.list ∙ ap (λ (a : Option Reply). (caller_after loses event a s.log c).lost) is)
  where
    by_reply : (r : Reply) → IsAnswer (Some r) → w.lost ≡ c.lost → w.lost ≡ lost_after r c.lost
    by_reply (Value v) k same = same
    by_reply Done k same = same
    by_reply OutOfBounds k same = same
    by_reply Again k same = elim k [ ]
    by_reply Full k same = elim k [ ]

-- So it is a try that was made.
pub answered_try : (opening : Memory) (loses : Bool) (event : Event) (answer : Option Reply) (place found : ℕ) (c w : Caller)
    (reply : Reply) → Steps opening loses event answer place c found w → answer ≡ Some reply
    → IsAnswer answer
    → MakesTry true opening None event reply c w
answered_try opening loses event answer place found c w reply s is kind = record {
  name_is = ap (λ (x : Caller). x.name) s.list ∙ ap (λ (a : Option Reply). (caller_after loses event a s.log c).name) is;
  right_is = ap (λ (x : Caller). x.has_queue_right) s.list
      ∙ ap (λ (a : Option Reply). (caller_after loses event a s.log c).has_queue_right) is;
  outcome = answered opening loses event answer place found c w reply s is kind;
  lost_is = answered_tries opening loses event answer place found c w reply s is kind;
}

-- A step that settles nothing shows the history, and what follows is a try from before it.
pub record Shows (opening : Memory) (loses : Bool) (place : ℕ) (c : Caller) (found : ℕ) (w : Caller) : Type 0 where
  pub goes_on : GoesOn c w.seen
  pub same : w ≡ losing_if loses (seeing w.seen c)
  pub seen : IsSeen opening w.seen
  pub word : get_or (words_of (memory_after opening w.seen)) place 0 ≡ found

pub shows : (opening : Memory) (loses : Bool) (event : Event) (answer : Option Reply) (place found : ℕ) (c w : Caller)
    → Steps opening loses event answer place c found w → answer ≡ None → Shows opening loses place c found w
shows opening loses event answer place found c w s is =
    let list : w ≡ losing_if loses (seeing s.log c) = s.list ∙ ap (λ (a : Option Reply). caller_after loses event a s.log c) is in
    let log : s.log ≡ w.seen = sym (ap (λ (x : Caller). x.seen) list) in
    record {
      goes_on = subst (GoesOn c) log s.goes_on;
      same = list ∙ ap (λ (l : L). losing_if loses (seeing l c)) log;
      seen = s.seen;
      word = subst (λ (l : L). get_or (words_of (memory_after opening l)) place 0 ≡ found) log s.word;
    }

accesses-after : (opening : Memory) (event : Event) (place found : ℕ) (c w : Caller) (after : L) (reply : Reply) → Shows opening false place c found w
    → Accesses true opening None w.name w.has_queue_right event w.seen after reply
    → Accesses true opening None c.name c.has_queue_right event c.seen after reply
accesses-after opening event place found c w after reply s a =
    let name : w.name ≡ c.name = ap (λ (x : Caller). x.name) s.same in
    let right : w.has_queue_right ≡ c.has_queue_right = ap (λ (x : Caller). x.has_queue_right) s.same in
    accesses-later opening c.name c.has_queue_right event c.seen s.goes_on.0 w.seen after reply s.goes_on.1
    (subst (λ (r : Bool). Accesses true opening None c.name r event w.seen after reply) right
    (subst (λ (n : ℕ). Accesses true opening None n w.has_queue_right event w.seen after reply) name a))

-- So are the tries that it loses.
tries-after : (opening : Memory) (place found : ℕ) (c w : Caller) (lost : ℕ) (reply : Reply) → Shows opening false place c found w
    → lost ≡ lost_after reply w.lost → lost ≡ lost_after reply c.lost
tries-after opening place found c w lost reply s is = is ∙ ap (λ (x : Caller). lost_after reply x.lost) s.same

pub try-after : (opening : Memory) (event : Event) (place found : ℕ) (c w after : Caller) (reply : Reply) → Shows opening false place c found w
    → MakesTry true opening None event reply w after
    → MakesTry true opening None event reply c after
try-after opening event place found c w after reply s t = record {
  name_is = t.name_is ∙ ap (λ (x : Caller). x.name) s.same;
  right_is = t.right_is ∙ ap (λ (x : Caller). x.has_queue_right) s.same;
  outcome = accesses-after opening event place found c w after.seen reply s t.outcome;
  lost_is = tries-after opening place found c w after.lost reply s t.lost_is;
}

-- What an event touches is another where it spells another number, so some entry changed it.
changed : (m : Memory) (event : Event) (others : L) → le_number (touched (memory_after m others) event) ≢ le_number (touched m event) → Changes m event others
changed m event [] ne = absurd (ne refl)
changed m event (e ∷ others) ne = dite (ℕ_discrete (le_number (touched (state_after m e.event) event)) (le_number (touched m event)))
    (λ same.
    let r = changed (state_after m e.event) event others (λ k. ne (k ∙ same)) in record {
      front = e ∷ r.front;
      changing = r.changing;
      back = r.back;
      among = ap (λ (l : L). e ∷ l) r.among;
      changed = r.changed;
    })
    (λ differ. record { front = []; changing = e; back = others; among = refl; changed = λ k. differ (ap le_number k) })

-- An exchange that found another word isn't made, and counts as a lost try.
not_made : (event : Event) (old found : ℕ) → found ≢ old → exchange_answer event old found ≡ None
not_made event old found miss = ap (λ (b : Bool). cond b (Some (made_reply event old)) None) (ne_eqb found old miss)

lost_tries : (opening : Memory) (event : Event) (old found : ℕ) (c w : Caller)
    → Steps opening true event (exchange_answer event old found) (place_of event) c found w → found ≢ old → w.lost ≡ suc c.lost
lost_tries opening event old found c w s miss =
    ap (λ (x : Caller). x.lost)
    (shows opening true event (exchange_answer event old found) (place_of event) found c w s (not_made event old found miss)).same

-- A try that found another word than the one that the list seen leaves was lost.
lost : (opening : Memory) (event : Event) (old found new : ℕ) (c w : Caller) → IsStored opening → IsEvent event
    → end_of event ≤ length (memory_after opening c.seen).bytes → Makes opening.max event old new
    → get_or (words_of (memory_after opening c.seen)) (place_of event) 0 ≡ old
    → Steps opening true event (exchange_answer event old found) (place_of event) c found w → found ≢ old
    → LosesTry true opening c.name c.has_queue_right event c.seen w.seen
lost opening event old found new c w stored is within makes word s miss =
    let none = not_made event old found miss in
    let sh = shows opening true event (exchange_answer event old found) (place_of event) found c w s none in
    let others : L = sh.goes_on.0 in
    let first : Memory = memory_after opening c.seen in
    let last : Memory = memory_after opening w.seen in
    let entries : AreEntries c.seen = AreEntries-prefix c.seen others (subst AreEntries sh.goes_on.1.list sh.seen.entries) in
    let o = outlasts opening c.seen stored entries in
    let p = outlasts opening w.seen stored sh.seen.entries in
    let more = later_than opening c w.seen stored sh.seen.entries sh.goes_on in
    let kind = makes_may_lose opening.max event old new makes in
    let at_first : old ≡ le_number (touched first event) = sym word ∙ touched_is first event o.stored is within kind in
    let now : found ≡ le_number (touched last event) = sym sh.word ∙ touched_is last event p.stored is (omega arith) kind in
    let split : last ≡ memory_after first others = ap (memory_after opening) sh.goes_on.1.list ∙ memory_after-append opening c.seen others in
    record {
      others = others;
      gains = sh.goes_on.1;
      seen = sh.seen;
      may = refl;
      kind = kind;
      cause = changed first event others (λ k. miss (now ∙ ap (λ (m : Memory). le_number (touched m event)) split ∙ k ∙ sym at_first));
      expected = by_event others entries event is within makes word;
    }
  where
    by_event : (others : L) → AreEntries c.seen → (e : Event) → IsEvent e → end_of e ≤ length (memory_after opening c.seen).bytes → Makes opening.max e old new
        → get_or (words_of (memory_after opening c.seen)) (place_of e) 0 ≡ old
        → WasExpected (memory_after opening c.seen) e others
    by_event others entries Size is within makes word = tt
    by_event others entries (Grow more) is within makes word = tt
    by_event others entries (Load addr width reach) is within makes word = tt
    by_event others entries (Store addr width reach value) is within makes word = tt
    by_event others entries (Rmw op addr width value) is within makes word = tt
    by_event others entries (Cmpxchg addr width expected replacement) is within makes word = record {
      front = [];
      back = others;
      among = refl;
      found = expected_there (memory_after opening c.seen) addr width expected replacement opening.max old new
          (outlasts opening c.seen stored entries).stored is within makes word;
    }
    by_event others entries (Ask question) is within makes word = tt
    by_event others entries (Told answer) is within makes word = tt

pub lost_try : (opening : Memory) (event : Event) (old found new : ℕ) (c w : Caller) → IsStored opening → IsEvent event
    → end_of event ≤ length (memory_after opening c.seen).bytes → Makes opening.max event old new
    → get_or (words_of (memory_after opening c.seen)) (place_of event) 0 ≡ old
    → Steps opening true event (exchange_answer event old found) (place_of event) c found w → found ≢ old
    → MakesTry true opening None event Again c w
lost_try opening event old found new c w stored is within makes word s miss =
    let same = (shows opening true event (exchange_answer event old found) (place_of event) found c w s (not_made event old found miss)).same in
    record {
      name_is = ap (λ (x : Caller). x.name) same;
      right_is = ap (λ (x : Caller). x.has_queue_right) same;
      outcome = lost opening event old found new c w stored is within makes word s miss;
      lost_is = lost_tries opening event old found c w s miss;
    }

-- The place of an access within the memory seen is one of the row's.
pub place_in : (opening : Memory) (seen : L) (event : Event) → IsStored opening → AreEntries seen → IsEvent event
    → end_of event ≤ length (memory_after opening seen).bytes
    → place_of event < 8192 * opening.max + 1
place_in opening seen event stored all is within =
    let o = outlasts opening seen stored all in
    let p = place_within (memory_after opening seen) event o.stored is within in
    let same = o.max in
    omega (arith, p, same)

-- What a history shows of the page count is at most 256.
pub few_pages : (opening : Memory) (loses : Bool) (event : Event) (answer : Option Reply) (found : ℕ) (c w : Caller)
    → IsStored opening → Steps opening loses event answer 0 c found w → found ≤ MOST_PAGES
few_pages opening loses event answer found c w stored s = by_list answer s.list
  where
    by_log : (log : L) → AreEntries log → pages (memory_after opening log) ≡ found → found ≤ MOST_PAGES
    by_log log all e =
        let o = outlasts opening log stored all in
        let sized = o.stored.sized in
        let within = sized.within in
        let small = sized.small in
        omega (arith, e)

    by_list : (a : Option Reply) → w ≡ caller_after loses event a s.log c → found ≤ MOST_PAGES
    by_list None e = by_log s.log (subst AreEntries (ap (λ (x : Caller). x.seen) e) s.seen.entries) s.word
    by_list (Some r) e = by_log s.log (AreEntries-prefix s.log (entry c.name event r ∷ [])
        (subst AreEntries (ap (λ (x : Caller). x.seen) e) s.seen.entries)) s.word

-- What the page count leaves open lies within the memory seen.
pub noted_within : (opening : Memory) (event : Event) (count : ℕ) (c w : Caller) → Shows opening false 0 c count w → size_answer opening.max event count ≡ None
    → end_of event ≤ length (memory_after opening w.seen).bytes
noted_within opening event count c w sh none =
    let end = open_within opening.max event count none in
    let word : pages (memory_after opening w.seen) ≡ count = sh.word in
    omega (arith, end, word)

-- What lay within the memory seen lies within the memory seen later.
pub still_within : (opening : Memory) (event : Event) (place found : ℕ) (c w : Caller) → IsStored opening
    → Shows opening false place c found w → end_of event ≤ length (memory_after opening c.seen).bytes
    → end_of event ≤ length (memory_after opening w.seen).bytes
still_within opening event place found c w stored sh within =
    let more = later_than opening c w.seen stored sh.seen.entries sh.goes_on in
    omega (arith, within, more)
