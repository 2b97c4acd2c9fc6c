-- Reading instructions one after the other, as a loop does.
use Rattle.std.proofs.Common.{◌≡◌, ℕ, suc, ◌-◌, ◌+◌, ◌≤◌, ◌<◌, Bool, true, false, eqb, List, [], ◌∷◌, ◌++◌, length}
use Rattle.std.proofs.Common.{reverse, Result, Ok, refl, sym, ap, subst, ◌∙◌, arith}
use Rattle.std.proofs.lemmas.List.{append-nil, length-reverse, nil_from_length}
use Rattle.std.proofs.lemmas.Bool.{eqb-true, eqb-false}
use Rattle.types.specs.declared.instr.Instr.{Instr}
use Rattle.binary_wire.specs.declared.bounds.Bounds.{Bounds}
use Rattle.binary_wire.specs.declared.fault.Refusal.{Refusal}
use Rattle.binary_wire.specs.declared.fault.ReadFault.{ReadFault}
use Rattle.binary_wire.specs.declared.fault.ReadFault.TheVariants.{OutOfMemory, Malformed}
use Rattle.binary_wire.specs.Faults.{refusal, missing, offset_of}
use Rattle.binary_wire.specs.Reading.{Fails}
use Rattle.binary_wire.proofs.Laws.{gives, bad}
use Rattle.binary_wire.proofs.Loop.{with_front, regroup_one}
use Rattle.binary_instructions.specs.Reading.{instr_at, kept_at}

pub one_goes_on : {A : Type 0} (kept : ℕ → Instr → A) (front : List A) (count i : ℕ) (opens : List Bool) (s t : Bounds)
    (bytes : List ℕ) (n : Instr) (inside : List Bool) (after : List ℕ) (total : Result (List A × List ℕ) Refusal)
    → i < count → 0 < length opens → t ≡ s → instr_at opens t bytes ≡ Ok ((n, inside), after)
    → with_front front (kept_at kept (count - i) opens s bytes) ≡ total
    → with_front (front ++ kept (offset_of t bytes) n ∷ []) (kept_at kept (count - (i + 1)) inside s after) ≡ total
unfolding kept_at
one_goes_on kept front count i [] s t bytes n inside after total lt pos same read so_far = absurd (omega arith)
one_goes_on {A} kept front count i (b ∷ opens) s t bytes n inside after total lt pos same read so_far =
    let h = subst (λ (u : Bounds). instr_at (b ∷ opens) u bytes ≡ Ok ((n, inside), after)) same read in
    let k : count - i ≡ suc (count - (i + 1)) = omega arith in
    let more = kept_at kept (count - (i + 1)) inside s after in
    let one : with_front front (kept_at kept (count - i) (b ∷ opens) s bytes) ≡ with_front (front ++ kept (offset_of s bytes) n ∷ []) more =
    rw (k, h) (regroup_one front (kept (offset_of s bytes) n) more) in
    ap (λ (u : Bounds). with_front (front ++ kept (offset_of u bytes) n ∷ []) more) same ∙ sym one ∙ so_far

pub ends : {A : Type 0} (kept : ℕ → Instr → A) (e : ReadFault) (front : List A) (count i : ℕ) (opens : List Bool) (s t : Bounds)
    (bytes : List ℕ) (total : Result (List A × List ℕ) Refusal)
    → i < count → 0 < length opens → t ≡ s → Fails e (instr_at opens t bytes)
    → with_front front (kept_at kept (count - i) opens s bytes) ≡ total → Fails e total
unfolding kept_at
ends kept OutOfMemory front count i opens s t bytes total lt pos same read so_far = tt
ends kept (Malformed kind offset) front count i [] s t bytes total lt pos same read so_far = absurd (omega arith)
ends kept (Malformed kind offset) front count i (b ∷ opens) s t bytes total lt pos same read so_far =
    let h = subst (λ (u : Bounds). Fails (Malformed kind offset) (instr_at (b ∷ opens) u bytes)) same read in
    let k : count - i ≡ suc (count - (i + 1)) = omega arith in
    let one : with_front front (kept_at kept (count - i) (b ∷ opens) s bytes) ≡ bad (refusal kind offset) = rw (k, h) refl in
    sym so_far ∙ one

pub is_short : {A : Type 0} (kept : ℕ → Instr → A) (front : List A) (count i : ℕ) (opens : List Bool) (s : Bounds) (bytes : List ℕ)
    (total : Result (List A × List ℕ) Refusal) → count ≤ i → 0 < length opens
    → with_front front (kept_at kept (count - i) opens s bytes) ≡ total → total ≡ bad (missing s)
unfolding kept_at
is_short kept front count i [] s bytes total le pos so_far = absurd (omega arith)
is_short kept front count i (b ∷ opens) s bytes total le pos so_far =
    let k : count - i ≡ 0 = omega arith in
    let one : with_front front (kept_at kept (count - i) (b ∷ opens) s bytes) ≡ bad (missing s) = rw k refl in
    sym so_far ∙ one

pub is_done : {A : Type 0} (kept : ℕ → Instr → A) (front : List A) (most : ℕ) (s : Bounds) (bytes : List ℕ) (inside : List Bool)
    (total : Result (List A × List ℕ) Refusal) → inside ≡ []
    → with_front front (kept_at kept most inside s bytes) ≡ total → total ≡ Ok (front, bytes)
unfolding kept_at
is_done {A} kept front most s bytes inside total z so_far =
    let one : with_front front (kept_at kept most inside s bytes) ≡ gives front bytes =
    rw z (ap (λ (ns : List A). gives ns bytes) (append-nil front)) in
    sym so_far ∙ one

-- ---- the open blocks, as the code keeps them

pub none_open : (v : List Bool) (n : ℕ) (r : Bool) → n ≡ length v → r ≡ eqb n 0 → r ≡ true → reverse v ≡ []
none_open v n r l e t =
    let z : n ≡ 0 = eqb-true n 0 (sym e ∙ t) in
    rw (nil_from_length v (sym l ∙ z)) refl

pub some_open : (v : List Bool) (n : ℕ) (r : Bool) → n ≡ length v → r ≡ eqb n 0 → r ≡ false → 0 < length (reverse v)
some_open v n r l e t =
    let z = eqb-false n 0 (sym e ∙ t) in
    omega (arith, length-reverse v, z, l)
