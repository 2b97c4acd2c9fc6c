-- What is told of threads that wait for one another in a cycle.
use Rattle.std.specs.Prelude.{ℕ, ◌≡◌, ◌⊎◌, ◌++◌, [], ◌∷◌, List, Option, codes, length}
use Rattle.std.specs.Fmt.{decimal}
use Rattle.std.specs.List.{AllZip, concat, range_with_len}
use Rattle.std.specs.Io.KnownBytes.{Appends}
use Rattle.selection.specs.declared.spans.Spans.{Spans}
use Rattle.show_rows.specs.declared.listing.Shown.{Shown}
use Rattle.show_waits.specs.Cycles.{AreWaits, IsCycle}

abbrev pub wait_text : ℕ → ℕ → List ℕ
wait_text n m = codes "t" ++ (decimal n ++ (codes " waits for t" ++ decimal m))

-- Thread n waits for the first of these, each of them for the next, and the last for thread `to`.
abbrev pub chain_text : ℕ → List ℕ → ℕ → List ℕ
chain_text n [] to = wait_text n to
chain_text n (m ∷ ms) to = wait_text n m ++ (codes ", " ++ chain_text m ms to)

abbrev pub cycle_text : ℕ → List ℕ → List ℕ
cycle_text n others = chain_text n others n ++ codes ": a cycle; where each stands, the next one was the last of the others to write\n"

-- A cycle is told at its thread of the lowest number; where a thread is that of none, nothing is.
abbrev pub SaysCycle : List (Option ℕ) → ℕ → List ℕ → Type 0
SaysCycle waits n text = ((others : List ℕ) × IsCycle waits n others × (text ≡ cycle_text n others))
    ⊎ (((others : List ℕ) → IsCycle waits n others → ⊥) × (text ≡ []))

-- These are told of the threads in order, by whom each waits for.
abbrev pub AreCycles : Shown → Option Spans → List (List ℕ) → Type 0
AreCycles shown out texts = (waits : List (Option ℕ)) × AreWaits shown.record.now.log shown.record.now.ends out waits
    × AllZip (SaysCycle waits) (range_with_len 0 (length shown.record.now.ends)) texts

abbrev pub WritesCycles : Shown → Option Spans → Option (List ℕ) → Option (List ℕ) → Type 0
WritesCycles shown out old new = (texts : List (List ℕ)) × AreCycles shown out texts × Appends old new (concat texts)
