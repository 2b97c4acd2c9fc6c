-- The memory along a history: its sizes and bytes are kept, its maximum stays, and it never shrinks.
use Rattle.std.proofs.Common.{◌≡◌, ℕ, ◌+◌, ◌*◌, ◌/◌, ◌%◌, ◌<◌, ◌≤◌, Bool, true, false, cond, List, [], ◌∷◌, ◌++◌}
use Rattle.std.proofs.Common.{length, take, drop, replicate, refl, ap, ◌∙◌, arith, length-append, eqb}
use Rattle.std.specs.Prelude.{nat_le}
use Rattle.std.proofs.Math.Dec.{leb}
use Rattle.std.proofs.lemmas.Bool.{leb-true}
use Rattle.std.proofs.lemmas.List.{length-take-le, length-drop, length-replicate}
use Rattle.std.proofs.lemmas.List.Elements.{All-append, All-replicate, All-head, All-tail}
use Rattle.types.specs.declared.event.Entry.{Entry}
use Rattle.types.specs.declared.event.Event.{Event}
use Rattle.types.specs.declared.event.Event.TheVariants.{Size, Grow, Load, Store, Rmw, Cmpxchg, Ask, Told}
use Rattle.types.specs.declared.limits.TheConstants.{PAGE_SIZE}
use Rattle.shared_memory.specs.Numbers.{le_bytes}
use Rattle.shared_memory.specs.Memory.{Memory, pages, loaded, written, combined, can_grow, grown, if_within, state_after}
use Rattle.shared_memory.specs.Events.{IsEvent}
use Rattle.shared_memory.specs.History.{IsEntry, AreEntries, memory_after}
use Rattle.shared_memory.proofs.Numbers.{length-le_bytes}
use Rattle.shared_memory_sequential.proofs.Joined.{All-le_bytes}
use Rattle.word_row.specs.Words.{data_words, words_of, bytes_of, memory_of, IsStored}
use Rattle.word_row.proofs.Words.{AreBytes-take, AreBytes-drop, bytes_of-data_words, length-data_words}

-- What one memory is to a later one: it has the same maximum, and no more bytes.
pub record Outlasts (m later : Memory) : Type 0 where
  pub max : later.max ≡ m.max
  pub length : length m.bytes ≤ length later.bytes
  pub stored : IsStored later

same : (m : Memory) → IsStored m → Outlasts m m
same m s = record { max = refl; length = omega arith; stored = s }

-- as many bytes replaced as are written
pub length-written : (m : Memory) (addr width n : ℕ) → addr + width ≤ length m.bytes → length (written m addr width n).bytes ≡ length m.bytes
length-written m addr width n within =
    let front = length-take-le addr m.bytes (omega arith) in
    let middle = length-le_bytes width n in
    let back = length-drop (addr + width) m.bytes in
    let inner = length-append (le_bytes width n) (drop (addr + width) m.bytes) in
    let outer = length-append (take addr m.bytes) (le_bytes width n ++ drop (addr + width) m.bytes) in
    omega (arith, front, middle, back, inner, outer)

outlasts-written : (m : Memory) (addr width n : ℕ) → IsStored m → addr + width ≤ length m.bytes → Outlasts m (written m addr width n)
outlasts-written m addr width n s within =
    let long = length-written m addr width n within in
    let sized = s.sized in
    let is_byte : ℕ → Type 0 = λ byte. byte < 256 in
    record {
      max = refl;
      length = omega arith;
      stored = record {
        sized = record {
          whole = ap (λ k. k % PAGE_SIZE) long ∙ sized.whole;
          within = let w = sized.within in omega (arith, long);
          small = sized.small;
        };
        bytes = All-append is_byte (take addr m.bytes) (le_bytes width n ++ drop (addr + width) m.bytes) (AreBytes-take addr m.bytes s.bytes)
            (All-append is_byte (le_bytes width n) (drop (addr + width) m.bytes) (All-le_bytes width n) (AreBytes-drop (addr + width) m.bytes s.bytes));
      };
    }

-- a write within bounds, or none
outlasts-within : (m w : Memory) (end : ℕ) → IsStored m → (end ≤ length m.bytes → Outlasts m w) → Outlasts m (if_within m end w m)
outlasts-within m w end s inside = by_test (nat_le end (length m.bytes)) refl
  where
    by_test : (b : Bool) → nat_le end (length m.bytes) ≡ b → Outlasts m (cond b w m)
    by_test true e = inside (leb-true end (length m.bytes) e)
    by_test false e = same m s

pub length-grown : (m : Memory) (more : ℕ) → length (grown m more).bytes ≡ length m.bytes + PAGE_SIZE * more
length-grown m more = length-append m.bytes (replicate (PAGE_SIZE * more) 0) ∙ ap (λ k. length m.bytes + k) (length-replicate (PAGE_SIZE * more) 0)

outlasts-grown : (m : Memory) (more : ℕ) → IsStored m → pages m + more ≤ m.max → Outlasts m (grown m more)
outlasts-grown m more s fits =
    let long = length-grown m more in
    let whole = s.sized.whole in
    let within = s.sized.within in
    record {
      max = refl;
      length = omega (arith, long);
      stored = record {
        sized = record { whole = omega (arith, long, whole); within = omega (arith, long, whole, fits); small = s.sized.small };
        bytes = All-append (λ byte. byte < 256) m.bytes (replicate (PAGE_SIZE * more) 0) s.bytes
            (All-replicate (λ byte. byte < 256) (PAGE_SIZE * more) 0 (omega arith));
      };
    }

pub outlasts-event : (m : Memory) (event : Event) → IsStored m → IsEvent event → Outlasts m (state_after m event)
outlasts-event m Size s is = same m s
outlasts-event m (Grow more) s is = by_test (can_grow m more) refl
  where
    by_test : (b : Bool) → can_grow m more ≡ b → Outlasts m (cond b (grown m more) m)
    by_test true e = outlasts-grown m more s (leb-true (pages m + more) m.max e)
    by_test false e = same m s
outlasts-event m (Load addr width reach) s is = same m s
outlasts-event m (Store addr width reach value) s is =
    let part = is.0 in
    let ends = part.ends in
    outlasts-within m (written m addr width value) reach s (λ h. outlasts-written m addr width value s (omega arith))
outlasts-event m (Rmw op addr width value) s is =
    outlasts-within m (written m addr width (combined op width (loaded m addr width) value)) (addr + width) s
    (λ h. outlasts-written m addr width (combined op width (loaded m addr width) value) s h)
outlasts-event m (Cmpxchg addr width expected replacement) s is =
    outlasts-within m _ (addr + width) s (λ h. by_test h (eqb (loaded m addr width) expected))
  where
    by_test : addr + width ≤ length m.bytes → (b : Bool) → Outlasts m (cond b (written m addr width replacement) m)
    by_test h true = outlasts-written m addr width replacement s h
    by_test h false = same m s
outlasts-event m (Ask question) s is = same m s
outlasts-event m (Told answer) s is = same m s

pub outlasts-trans : (a b c : Memory) → Outlasts a b → Outlasts b c → Outlasts a c
outlasts-trans a b c h k = record { max = k.max ∙ h.max; length = let x = h.length in let y = k.length in omega arith; stored = k.stored }

-- The memory after a history: the page count never falls.
pub outlasts : (m : Memory) (history : List Entry) → IsStored m → AreEntries history → Outlasts m (memory_after m history)
outlasts m [] s all = same m s
outlasts m (e ∷ history) s all =
    let first = All-head IsEntry e history all in
    let step = outlasts-event m e.event s first.event in
    outlasts-trans m (state_after m e.event)
    (memory_after (state_after m e.event) history) step
    (outlasts (state_after m e.event) history step.stored (All-tail IsEntry e history all))

-- A whole memory has as many bytes as its pages.
pub whole_pages : (m : Memory) → IsStored m → PAGE_SIZE * pages m ≡ length m.bytes
whole_pages m s = let w = s.sized.whole in omega arith

-- The words of a memory stand for it.
pub memory_of-words_of : (m : Memory) → IsStored m → memory_of m.max (words_of m) ≡ m
memory_of-words_of m s =
    let whole = s.sized.whole in
    let within = s.sized.within in
    let bytes : take (PAGE_SIZE * pages m) (bytes_of (data_words (8192 * m.max) m.bytes)) ≡ m.bytes =
    ap (λ n. take n (bytes_of (data_words (8192 * m.max) m.bytes))) (whole_pages m s)
    ∙ bytes_of-data_words (8192 * m.max) (length m.bytes / 8) m.bytes s.bytes (omega arith) (omega arith) in
    ap with_bytes bytes
  where
    with_bytes : List ℕ → Memory
    with_bytes l = record { bytes = l; max = m.max }

-- as many words as there may be
pub length-words_of : (m : Memory) → length (words_of m) ≡ 8192 * m.max + 1
length-words_of m = let e = length-data_words (8192 * m.max) m.bytes in omega arith
