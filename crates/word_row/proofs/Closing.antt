-- What the words of a closed row stand for.
use Rattle.std.proofs.Common.{◌≡◌, ℕ, zero, suc, ◌+◌, ◌*◌, ◌/◌, ◌<◌, ◌≤◌, List, [], ◌∷◌, length, take, get_or, Some, None, sym, ap, ◌∙◌, subst, arith}
use Rattle.std.specs.Prelude.{slice_get}
use Rattle.std.proofs.lemmas.List.{drop_more}
use Rattle.std.proofs.lemmas.Option.{slice_get_past, slice_get-get_or}
use mathlib.Core.Option.{some, some-injective, some-ne-none}
use lib.ListN.{get_elem?}
use Rattle.types.specs.declared.limits.TheConstants.{PAGE_SIZE}
use Rattle.atomic_table.specs.Table.{State}
use Rattle.shared_memory.specs.Numbers.{le_number}
use Rattle.shared_memory.specs.Memory.{Memory, pages, loaded}
use Rattle.shared_memory.specs.History.{memory_after}
use Rattle.shared_memory_on_table.specs.declared.view.View.{View}
use Rattle.shared_memory_sequential.specs.Words.{lane_of}
use Rattle.shared_memory_sequential.specs.Opening.{IsSized}
use Rattle.word_row.specs.Words.{memory_of, words_of, IsStored}
use Rattle.word_row.specs.Rule.{KeptRow}
use Rattle.word_row.proofs.Memories.{outlasts, whole_pages, memory_of-words_of}
use Rattle.word_row.proofs.Settling.{InWord, lane_is_loaded}

-- The words that the rule was kept of stand for the memory after the history.
pub record StandsFor (max : ℕ) (words : List ℕ) (m : Memory) : Type 0 where
  pub memory : memory_of max words ≡ m
  pub again : words ≡ words_of (memory_of max words)
  pub stored : IsStored (memory_of max words)

pub stands_for : (opening : Memory) (max : ℕ) (words : List ℕ) (s : State ℕ View) → max ≡ opening.max
    → (r : KeptRow opening s) → s.words ≡ words → StandsFor max words (memory_after opening r.log)
stands_for opening max words s most r is =
    let o = outlasts opening r.log r.words.stored r.words.seen.entries in
    let all : words ≡ words_of (memory_after opening r.log) = sym is ∙ r.words.are in
    let memory : memory_of max words ≡ memory_after opening r.log =
    ap (memory_of max) all ∙ ap (λ k. memory_of k (words_of (memory_after opening r.log))) (most ∙ sym o.max)
    ∙ memory_of-words_of (memory_after opening r.log) o.stored in
    record { memory = memory; again = all ∙ ap words_of (sym memory); stored = subst IsStored (sym memory) o.stored }

-- A byte is a lane of one byte.

pub byte_within : (m : Memory) (addr : ℕ) → IsStored m → addr < PAGE_SIZE * pages m → addr < length m.bytes
byte_within m addr s h = let e = whole_pages m s in omega arith

pub byte_past : (m : Memory) (addr : ℕ) → IsSized m → PAGE_SIZE * pages m ≤ addr → None ≡ slice_get m.bytes addr
byte_past m addr s h = let whole = s.whole in sym (slice_get_past m.bytes addr (omega arith))

one_byte : (m : Memory) (addr : ℕ) → addr < length m.bytes → loaded m addr 1 ≡ get_or m.bytes addr 0
one_byte m addr h = ap (λ l. le_number (take 1 l)) (drop_more m.bytes addr 0 h)
    ∙ (let e : get_or m.bytes addr 0 + 256 * 0 ≡ get_or m.bytes addr 0 = omega arith in e)

pub record IsByte (m : Memory) (addr lane : ℕ) : Type 0 where
  pub is : Some lane ≡ slice_get m.bytes addr
  pub fits : lane < 256

pub byte_is : (m : Memory) (addr word : ℕ) → IsStored m → addr < length m.bytes
    → get_or (words_of m) (addr / 8 + 1) 0 ≡ word → IsByte m addr (lane_of word addr 1)
byte_is m addr word s h is =
    let lies : InWord addr 1 = record { some = omega arith; one_word = omega arith } in
    let byte : lane_of word addr 1 ≡ get_or m.bytes addr 0 = lane_is_loaded m addr 1 word s lies (omega arith) is ∙ one_byte m addr h in
    record {
      is = ap Some byte ∙ sym (slice_get-get_or m.bytes addr 0 h);
      fits = subst (λ (n : ℕ). n < 256) (sym byte) (s.bytes addr 0 h);
    }

-- the word at an index
pub found_at : (ws : List ℕ) (i n : ℕ) → get_elem? ws i ≡ some n → (i < length ws) × (get_or ws i 0 ≡ n)
found_at [] i n e = absurd (some-ne-none n (sym e))
found_at (x ∷ ws) zero n e = (omega arith, some-injective _ _ e)
found_at (x ∷ ws) (suc i) n e = let r = found_at ws i n e in let h = r.0 in (omega arith, r.1)
