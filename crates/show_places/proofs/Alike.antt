-- Places and instructions are read alike.
use Rattle.std.proofs.Common.{◌≡◌, ℕ, zero, suc, Bool, List, [], ◌∷◌, length, Result, Ok, Err, refl, ap, ◌∙◌}
use Rattle.types.specs.declared.instr.Instr.{Instr}
use Rattle.binary_wire.specs.declared.bounds.Bounds.{Bounds}
use Rattle.binary_wire.specs.declared.fault.Refusal.{Refusal}
use Rattle.binary_wire.specs.Faults.{offset_of}
use Rattle.binary_wire.specs.Reading.{◌>>=◌}
use Rattle.binary_instructions.specs.Reading.{instr_at, kept_at, code_at}
use Rattle.show_places.specs.Places.{places_at}

-- what is read by two readers, one after the other
bind_ok : {A B : Type 0} (r : Result A Refusal) (f : A → Result B Refusal) (y : B) → (r >>= f) ≡ Ok y → (x : A) × (r ≡ Ok x) × (f x ≡ Ok y)
bind_ok (Ok x) f y h = (x, refl, h)
bind_ok (Err e) f y h = absurd (cc h)

abbrev read_as : List ℕ → List ℕ → Result (List ℕ × List ℕ) Refusal
read_as places rest = Ok (places, rest)

one_more : (most : ℕ) (b : Bool) (opens : List Bool) (s : Bounds) (bytes : List ℕ) (x : (Instr × List Bool) × List ℕ) (places rest : List ℕ)
    → instr_at (b ∷ opens) s bytes ≡ Ok x → places_at most x.0.1 s x.1 ≡ Ok (places, rest)
    → places_at (suc most) (b ∷ opens) s bytes ≡ Ok (offset_of s bytes ∷ places, rest)
unfolding kept_at
one_more most b opens s bytes x places rest first others = rw (first, others) refl

abbrev pub Alike : ℕ → List Bool → Bounds → List ℕ → List Instr → List ℕ → Type 0
Alike most opens s bytes code rest = (places : List ℕ) × (places_at most opens s bytes ≡ Ok (places, rest)) × (length places ≡ length code)

pub alike : (most : ℕ) (opens : List Bool) (s : Bounds) (bytes : List ℕ) (code : List Instr) (rest : List ℕ)
    → code_at most opens s bytes ≡ Ok (code, rest) → Alike most opens s bytes code rest
unfolding kept_at
alike most [] s bytes code rest h =
    let e : ([], bytes) ≡ (code, rest) = cc h in
    ([], ap (λ (r : List ℕ). read_as [] r) (ap (λ (x : List Instr × List ℕ). x.1) e), ap (λ (x : List Instr × List ℕ). length x.0) e)
alike zero (b ∷ opens) s bytes code rest h = absurd (cc h)
alike (suc most) (b ∷ opens) s bytes code rest h =
    let first = bind_ok (instr_at (b ∷ opens) s bytes) _ (code, rest) h in
    let others = bind_ok (code_at most (first.0).0.1 s (first.0).1) _ (code, rest) first.2 in
    let more = alike most (first.0).0.1 s (first.0).1 (others.0).0 (others.0).1 others.1 in
    let e : ((first.0).0.0 ∷ (others.0).0, (others.0).1) ≡ (code, rest) = cc others.2 in (
      offset_of s bytes ∷ more.0,
      one_more most b opens s bytes first.0 more.0 (others.0).1 first.1 more.1
          ∙ ap (λ (r : List ℕ). read_as (offset_of s bytes ∷ more.0) r) (ap (λ (x : List Instr × List ℕ). x.1) e),
      ap (λ (k : ℕ). suc k) more.2 ∙ ap (λ (x : List Instr × List ℕ). length x.0) e,
    )
