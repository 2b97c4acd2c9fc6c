-- The page count that a seat remembers: no longer list leaves fewer pages, so it stays one that the seat's list has.
use Rattle.std.proofs.Common.{◌≡◌, ℕ, ◌*◌, ◌≤◌, Bool, true, List, [], ◌∷◌, ◌++◌, length, Option, Some, None, sym, ap, ◌∙◌, subst, append_assoc, arith}
use mathlib.Core.List.{IsPrefix}
use Rattle.types.specs.declared.event.Entry.{Entry}
use Rattle.types.specs.declared.event.Event.{Event}
use Rattle.types.specs.declared.event.Reply.{Reply}
use Rattle.types.specs.declared.event.Reply.TheVariants.{Value, Done, OutOfBounds, Again, Full}
use Rattle.types.specs.declared.limits.TheConstants.{PAGE_SIZE, MOST_PAGES}
use Rattle.shared_memory.specs.Memory.{Memory, pages}
use Rattle.shared_memory.specs.History.{entry, AreEntries, memory_after}
use Rattle.shared_memory.specs.Access.{Answers, Accesses}
use Rattle.shared_memory.proofs.Histories.{memory_after-append, AreEntries-prefix, AreEntries-rest}
use Rattle.shared_memory_on_table.specs.declared.view.Caller.{Caller}
use Rattle.word_row.specs.Words.{IsStored}
use Rattle.word_row.specs.Rule.{caller_after, Steps}
use Rattle.word_row.proofs.Memories.{outlasts}
use Rattle.word_row.specs.Rows.{HasPages}

abbrev L : Type 0
L = List Entry

-- a list that goes on leaves no fewer pages
more_pages : (opening : Memory) (before others after : L) → IsStored opening → AreEntries after → after ≡ before ++ others
    → pages (memory_after opening before) ≤ pages (memory_after opening after)
more_pages opening before others after stored all is =
    let entries : AreEntries (before ++ others) = subst AreEntries is all in
    let first = outlasts opening before stored (AreEntries-prefix before others entries) in
    let step = outlasts (memory_after opening before) others first.stored (AreEntries-rest before others entries) in
    let same : memory_after opening after ≡ memory_after (memory_after opening before) others =
    ap (memory_after opening) is ∙ memory_after-append opening before others in
    let more = step.length in
    subst (λ (m : Memory). pages (memory_after opening before) ≤ pages m) (sym same) (omega arith)

later : (opening : Memory) (before others after : L) (count : ℕ) → IsStored opening → AreEntries after → after ≡ before ++ others
    → HasPages opening before count → HasPages opening after count
later opening before others after count stored all is has = let more = more_pages opening before others after stored all is in omega arith

pub prefix-HasPages : (opening : Memory) (before after : L) (count : ℕ) → IsStored opening → AreEntries after → IsPrefix before after
    → HasPages opening before count → HasPages opening after count
prefix-HasPages opening before after count stored all begins = later opening before begins.0 after count stored all (sym begins.1)

-- what an access leaves has as many pages
pub accesses-HasPages : (opening : Memory) (n : ℕ) (right : Bool) (event : Event) (before after : L) (reply : Reply) (count : ℕ) → IsStored opening
    → Accesses true opening None n right event before after reply → HasPages opening before count → HasPages opening after count
accesses-HasPages opening n right event before after reply count stored = by_reply reply
  where
    answered : (r : Reply) → Answers opening None n right event r before after → HasPages opening before count → HasPages opening after count
    answered r a =
        let e : Entry = entry n event r in
        later opening before (a.others ++ e ∷ []) after count stored a.seen.entries
        (a.list ∙ ap (λ (l : L). l ++ e ∷ []) a.gains.list ∙ append_assoc before a.others (e ∷ []))

    by_reply : (r : Reply) → Accesses true opening None n right event before after r → HasPages opening before count → HasPages opening after count
    by_reply (Value v) a = answered (Value v) a
    by_reply Done a = answered Done a
    by_reply OutOfBounds a = answered OutOfBounds a
    by_reply Again a = later opening before a.others after count stored a.seen.entries a.gains.list
    by_reply Full a = later opening before a.others after count stored a.seen.entries a.gains.list

-- the page count that a step found
pub found-HasPages : (opening : Memory) (loses : Bool) (event : Event) (answer : Option Reply) (found : ℕ) (c w : Caller) → IsStored opening
    → Steps opening loses event answer 0 c found w → HasPages opening w.seen found
found-HasPages opening loses event answer found c w stored s = by_list answer s.list
  where
    by_list : (a : Option Reply) → w ≡ caller_after loses event a s.log c → HasPages opening w.seen found
    by_list None e =
        let word : pages (memory_after opening s.log) ≡ found = s.word in
        subst (λ (l : L). HasPages opening l found) (sym (ap (λ (x : Caller). x.seen) e)) (omega arith)
    by_list (Some r) e =
        let word : pages (memory_after opening s.log) ≡ found = s.word in
        later opening s.log (entry c.name event r ∷ []) w.seen found stored s.seen.entries (ap (λ (x : Caller). x.seen) e) (omega arith)

-- it is at most 256, and what lies within it lies within the memory seen
pub few-HasPages : (opening : Memory) (seen : L) (count : ℕ) → IsStored opening → AreEntries seen → HasPages opening seen count → count ≤ MOST_PAGES
few-HasPages opening seen count stored all has =
    let o = outlasts opening seen stored all in
    let sized = o.stored.sized in
    let within = sized.within in
    let small = sized.small in
    omega arith

pub within-HasPages : (opening : Memory) (seen : L) (count end : ℕ) → HasPages opening seen count → end ≤ PAGE_SIZE * count
    → end ≤ length (memory_after opening seen).bytes
within-HasPages opening seen count end has h = omega arith
