-- A lane in a longer list of bytes, by the aligned word that holds it.
use Rattle.std.proofs.Common.{◌≡◌, ℕ, ◌+◌, ◌*◌, ◌/◌, ◌%◌, ◌≤◌, List, ◌++◌, take, drop, sym, ap, ap₂, ◌∙◌, append_assoc, take-append-drop, arith}
use Rattle.std.proofs.lemmas.List.{take-take, drop-take, drop-drop, drop-append-le}
use Rattle.std.proofs.Math.Seq.{take-add}
use Rattle.std.specs.List.{splice}
use Rattle.shared_memory.specs.Numbers.{le_number, le_bytes}
use Rattle.shared_memory_sequential.specs.Words.{lane_of, IsWithLane}
use Rattle.shared_memory.proofs.Numbers.{length-le_bytes}

-- the place of an address: its word's first address, and the rest
place : (addr : ℕ) → addr ≡ addr / 8 * 8 + addr % 8
place addr = omega arith

-- the bytes at an address, so many, taken out of the bytes of its word
within_word : (bytes : List ℕ) (addr width : ℕ) → addr % 8 + width ≤ 8
    → take width (drop addr bytes) ≡ take width (drop (addr % 8) (take 8 (drop (addr / 8 * 8) bytes)))
within_word bytes addr width within =
    let rest : List ℕ = drop (addr / 8 * 8) bytes in
    let apart : drop addr bytes ≡ drop (addr % 8) rest = ap (λ n. drop n bytes) (place addr) ∙ sym (drop-drop (addr % 8) (addr / 8 * 8) bytes) in
    ap (take width) apart ∙ sym (drop-take (addr % 8) width rest)
    ∙ ap (drop (addr % 8)) (sym (take-take (addr % 8 + width) 8 rest within))
    ∙ drop-take (addr % 8) width (take 8 rest)

-- the number of the bytes at an address, so many, is the lane of its word
pub loaded_is_lane : (bytes : List ℕ) (word addr width : ℕ) → addr % 8 + width ≤ 8 → take 8 (drop (addr / 8 * 8) bytes) ≡ le_bytes 8 word
    → le_number (take width (drop addr bytes)) ≡ lane_of word addr width
unfolding lane_of
loaded_is_lane bytes word addr width within is_word =
    ap le_number (within_word bytes addr width within) ∙ ap (λ eight. le_number (take width (drop (addr % 8) eight))) is_word

-- to replace the bytes at an address, so many, is to replace the word that holds them by the one with that lane
pub splice_is_with_lane : (bytes : List ℕ) (word addr width value written : ℕ) → addr % 8 + width ≤ 8
    → take 8 (drop (addr / 8 * 8) bytes) ≡ le_bytes 8 word → IsWithLane word addr width value written
    → splice bytes addr (addr + width) (le_bytes width value) ≡ splice bytes (addr / 8 * 8) (addr / 8 * 8 + 8) (le_bytes 8 written)
unfolding IsWithLane
splice_is_with_lane bytes word addr width value written within is_word is =
    let i : ℕ = addr % 8 in
    let base : ℕ = addr / 8 * 8 in
    let rest : List ℕ = drop base bytes in
    let old : List ℕ = le_bytes 8 word in
    let new : List ℕ = le_bytes width value in
    let behind : List ℕ = drop (base + 8) bytes in
    let front : take addr bytes ≡ take base bytes ++ take i old = ap (λ n. take n bytes) (place addr) ∙ take-add base i bytes
    ∙ ap (λ part. take base bytes ++ part) (sym (take-take i 8 rest (omega arith)) ∙ ap (take i) is_word) in
    let whole : rest ≡ old ++ behind = sym (take-append-drop 8 rest) ∙ ap₂ (λ a b. a ++ b) is_word (drop-drop 8 base bytes) in
    let end : addr + width ≡ base + (i + width) = omega (arith, place addr) in
    let back : drop (addr + width) bytes ≡ drop (i + width) old ++ behind = ap (λ n. drop n bytes) end
    ∙ sym (drop-drop (i + width) base bytes) ∙ ap (drop (i + width)) whole
    ∙ drop-append-le (i + width) old behind (omega (arith, length-le_bytes 8 word)) in
    let joined : (take base bytes ++ take i old) ++ (new ++ (drop (i + width) old ++ behind)) ≡ take base bytes ++
    ((take i old ++ (new ++ drop (i + width) old)) ++ behind) = simp append_assoc in
    ap₂ (λ a b. a ++ (new ++ b)) front back ∙ joined ∙ ap (λ eight. take base bytes ++ (eight ++ behind)) (sym is)
