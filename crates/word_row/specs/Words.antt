-- A memory as a row of 64-bit words.
use Rattle.std.specs.Prelude.{ℕ, zero, suc, ◌*◌, ◌<◌, List, [], ◌∷◌, ◌++◌, All, take, drop}
use Rattle.types.specs.declared.limits.TheConstants.{PAGE_SIZE}
use Rattle.shared_memory.specs.Numbers.{le_number, le_bytes}
use Rattle.shared_memory.specs.Memory.{Memory, pages}
use Rattle.shared_memory_sequential.specs.Opening.{IsSized}

-- So many words, each of eight bytes, the lowest first; past the end of the bytes they are zero.
abbrev pub data_words : ℕ → List ℕ → List ℕ
data_words zero bytes = []
data_words (suc count) bytes = le_number (take 8 bytes) ∷ data_words count (drop 8 bytes)

-- The words that stand for a memory: the page count, and one word for each eight bytes of its maximum.
abbrev pub words_of : Memory → List ℕ
words_of m = pages m ∷ data_words (8192 * m.max) m.bytes

-- The bytes of words.
abbrev pub bytes_of : List ℕ → List ℕ
bytes_of [] = []
bytes_of (word ∷ words) = le_bytes 8 word ++ bytes_of words

-- The memory of so many pages at most for which words stand.
abbrev pub memory_of : ℕ → List ℕ → Memory
memory_of max [] = record { bytes = []; max = max }
memory_of max (count ∷ words) = record { bytes = take (PAGE_SIZE * count) (bytes_of words); max = max }

-- A memory that can stand in words: it has the sizes of an open one, and each of its bytes is one.
pub record IsStored (m : Memory) : Type 0 where
  pub sized : IsSized m
  pub bytes : All (λ byte. byte < 256) m.bytes
