-- Some bytes of a list, byte by byte.
use Rattle.std.proofs.Common.{◌≡◌, ◌≢◌, ℕ, ◌+◌, ◌-◌, ◌<◌, ◌≤◌, List, length, take, get_or, set}
use Rattle.std.proofs.Common.{sym, ◌∙◌, subst, arith, inl, inr}
use Rattle.std.proofs.lemmas.Bool.{cases_lt}
use Rattle.std.proofs.lemmas.List.{get_or-set_same, get_or-set_other}
use Rattle.search_memory.specs.declared.beside.ChangedByte.{ChangedByte}
use Rattle.search_memory.specs.Memories.{changed_bytes, AreFrom}
use Rattle.search_memory.proofs.Putting.{byte_here, byte_elsewhere}

-- one byte more
pub next_from : (bytes : List ℕ) (width : ℕ) (all : List ℕ) (from b : ℕ) → width < length bytes → b ≡ get_or all (from + width) 0
    → AreFrom bytes width all from → AreFrom (set bytes width b) (width + 1) all from
next_from bytes width all from b room is are i low =
    elim (cases_lt i width) [
      | inl lt ↦ get_or-set_other bytes width i b 0 (λ e. absurd (omega (arith, e, lt))) ∙ are i lt
      | inr le ↦ (let last : i ≡ width = omega (arith, le, low) in
          subst (λ k. get_or (set bytes width b) k 0 ≡ get_or all (from + k) 0) (sym last) (get_or-set_same bytes width b 0 room ∙ is))
    ]

module _ (opening : List ℕ) (len : ℕ) (changes : List ChangedByte) (k : ℕ) (d : ChangedByte) (lt : k < length changes) (bytes : List ℕ)
    (width from : ℕ) (inside : from + width ≤ len) (are : AreFrom bytes width (changed_bytes opening len (take k changes)) from) where
  abbrev one : ChangedByte
  one = get_or changes k d

  abbrev After : List ℕ → Type 0
  After now = AreFrom now width (changed_bytes opening len (take (k + 1) changes)) from

  -- a change elsewhere leaves them
  pub changed_outside : ((i : ℕ) → i < width → one.at ≢ from + i) → After bytes
  changed_outside apart i low =
      are i low ∙ byte_elsewhere opening len (from + i) (omega (arith, low, inside)) changes k d lt (apart i low)

  -- one at a byte of them changes it
  pub changed_within : from ≤ one.at → one.at - from < length bytes → After (set bytes (one.at - from) one.byte)
  changed_within since room i low =
      let there : from + i < len = omega (arith, low, inside) in
      elim (cases_lt i (one.at - from)) [
        | inl less ↦ other i low there (omega (arith, less))
        | inr more ↦ elim (cases_lt (one.at - from) i) [
          | inl less ↦ other i low there (omega (arith, less))
          | inr same ↦ here i there (omega (arith, more, same))
        ]
      ]
    where
      other : (i : ℕ) → i < width → from + i < len → i ≢ one.at - from
          → get_or (set bytes (one.at - from) one.byte) i 0 ≡ get_or (changed_bytes opening len (take (k + 1) changes)) (from + i) 0
      other i low there apart =
          get_or-set_other bytes (one.at - from) i one.byte 0 apart
          ∙ (are i low ∙ byte_elsewhere opening len (from + i) there changes k d lt (λ e. apart (omega (arith, e))))

      here : (i : ℕ) → from + i < len → i ≡ one.at - from
          → get_or (set bytes (one.at - from) one.byte) i 0 ≡ get_or (changed_bytes opening len (take (k + 1) changes)) (from + i) 0
      here i there is =
          subst (λ j. get_or (set bytes (one.at - from) one.byte) j 0 ≡ one.byte) (sym is) (get_or-set_same bytes (one.at - from) one.byte 0 room)
          ∙ byte_here opening len (from + i) there changes k d lt (omega (arith, is, since))
