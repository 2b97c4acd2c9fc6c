-- Reading groups of locals, bodies and custom sections one after the other, as loops do.
use Rattle.std.proofs.Common.{◌≡◌, ℕ, suc, ◌-◌, ◌+◌, ◌≤◌, ◌<◌, Bool, true, false, List, [], ◌∷◌, ◌++◌, length, drop}
use Rattle.std.proofs.Common.{replicate, Result, Ok, Err, refl, sym, ap, subst, ◌∙◌, arith}
use Rattle.std.proofs.lemmas.List.{append-nil, drop_more, drop_all}
use Rattle.std.specs.Prelude.{slice_index_or}
use Rattle.binary_wire.specs.declared.bounds.Bounds.{Bounds}
use Rattle.binary_wire.specs.declared.fault.Refusal.{Refusal}
use Rattle.binary_wire.specs.declared.fault.ReadFault.{ReadFault}
use Rattle.binary_wire.specs.declared.fault.ReadFault.TheVariants.{OutOfMemory, Malformed}
use Rattle.binary_wire.specs.Faults.{refusal}
use Rattle.binary_wire.specs.Reading.{Fails, front_is, u32_within_at}
use Rattle.binary_wire.proofs.Laws.{good, bad, gives}
use Rattle.binary_wire.proofs.Loop.{with_front, regroup, regroup_one}
use Rattle.types.specs.declared.value.ValType.{ValType}
use Rattle.types.specs.declared.parts.FuncType.{FuncType}
use Rattle.types.specs.declared.parts.Body.{Body}
use Rattle.binary_instructions.specs.Reading.{val_type_at}
use Rattle.types.specs.Within.{param_count}
use Rattle.binary.specs.Reading.{groups_at, body_at, bodies_at, custom_at, customs_at}

-- ---- what is read within bounds that a reader has kept

pub kept : {A : Type 0} (reading : Bounds → List ℕ → A) (s t : Bounds) (bytes : List ℕ) (x : A)
    → t ≡ s → reading t bytes ≡ x → reading s bytes ≡ x
kept reading s t bytes x same read = subst (λ (b : Bounds). reading b bytes ≡ x) same read

pub fails_kept : {A : Type 0} (reading : Bounds → List ℕ → Result A Refusal) (s t : Bounds) (bytes : List ℕ)
    (e : ReadFault) → t ≡ s → Fails e (reading t bytes) → Fails e (reading s bytes)
fails_kept reading s t bytes e same read = subst (λ (b : Bounds). Fails e (reading b bytes)) same read

-- ---- groups of locals

abbrev pub Locals : Type 0
Locals = Result (List ValType × List ℕ) Refusal

pub groups_on : (front : List ValType) (count i room n : ℕ) (s : Bounds) (bytes a b : List ℕ) (t : ValType)
    (total : Locals) → i < count → u32_within_at room s bytes ≡ Ok (n, a) → val_type_at s a ≡ Ok (t, b)
    → with_front front (groups_at (count - i) room s bytes) ≡ total
    → with_front (front ++ replicate n t) (groups_at (count - (i + 1)) (room - n) s b) ≡ total
unfolding groups_at
groups_on front count i room n s bytes a b t total lt h1 h2 so_far =
    let k : count - i ≡ suc (count - (i + 1)) = omega arith in
    let one : with_front front (groups_at (count - i) room s bytes) ≡ with_front (front ++ replicate n t)
    (groups_at (count - (i + 1)) (room - n) s b) = rw (k, h1, h2)
    (regroup front (replicate n t) (groups_at (count - (i + 1)) (room - n) s b)) in
    sym one ∙ so_far

pub groups_end_number : (e : Refusal) (front : List ValType) (count i room : ℕ) (s : Bounds) (bytes : List ℕ)
    (total : Locals) → i < count → u32_within_at room s bytes ≡ Err e
    → with_front front (groups_at (count - i) room s bytes) ≡ total → total ≡ Err e
unfolding groups_at
groups_end_number e front count i room s bytes total lt h so_far =
    let k : count - i ≡ suc (count - (i + 1)) = omega arith in
    let one : with_front front (groups_at (count - i) room s bytes) ≡ bad e = rw (k, h) refl in
    sym so_far ∙ one

pub groups_end_type : (e : Refusal) (front : List ValType) (count i room n : ℕ) (s : Bounds) (bytes a : List ℕ)
    (total : Locals) → i < count → u32_within_at room s bytes ≡ Ok (n, a) → val_type_at s a ≡ Err e
    → with_front front (groups_at (count - i) room s bytes) ≡ total → total ≡ Err e
unfolding groups_at
groups_end_type e front count i room n s bytes a total lt h1 h so_far =
    let k : count - i ≡ suc (count - (i + 1)) = omega arith in
    let one : with_front front (groups_at (count - i) room s bytes) ≡ bad e = rw (k, h1, h) refl in
    sym so_far ∙ one

pub groups_done : (front : List ValType) (count i room : ℕ) (s : Bounds) (bytes : List ℕ) (total : Locals)
    → count ≤ i → with_front front (groups_at (count - i) room s bytes) ≡ total → total ≡ Ok (front, bytes)
unfolding groups_at
groups_done front count i room s bytes total le so_far =
    let k : count - i ≡ 0 = omega arith in
    let one : with_front front (groups_at (count - i) room s bytes) ≡ gives front bytes =
    rw k (ap (λ (ns : List ValType). gives ns bytes) (append-nil front)) in
    sym so_far ∙ one

-- ---- bodies

abbrev pub Bodies : Type 0
Bodies = Result (List Body × List ℕ) Refusal

pub bodies_on : (types : List FuncType) (functions : List ℕ) (d : ℕ) (front : List Body) (i : ℕ) (s : Bounds)
    (bytes : List ℕ) (b : Body) (after : List ℕ) (total : Bodies) → i < length functions
    → body_at (param_count types (slice_index_or functions i d)) s bytes ≡ Ok (b, after)
    → with_front front (bodies_at types (drop i functions) s bytes) ≡ total
    → with_front (front ++ b ∷ []) (bodies_at types (drop (i + 1) functions) s after) ≡ total
unfolding bodies_at
bodies_on types functions d front i s bytes b after total lt h so_far =
    let k : drop i functions ≡ slice_index_or functions i d ∷ drop (i + 1) functions = drop_more functions i d lt in
    let one : with_front front (bodies_at types (drop i functions) s bytes) ≡ with_front (front ++ b ∷ [])
    (bodies_at types (drop (i + 1) functions) s after) = rw (k, h)
    (regroup_one front b (bodies_at types (drop (i + 1) functions) s after)) in
    sym one ∙ so_far

pub bodies_end : (types : List FuncType) (functions : List ℕ) (d : ℕ) (e : ReadFault) (front : List Body) (i : ℕ)
    (s : Bounds) (bytes : List ℕ) (total : Bodies) → i < length functions
    → Fails e (body_at (param_count types (slice_index_or functions i d)) s bytes)
    → with_front front (bodies_at types (drop i functions) s bytes) ≡ total → Fails e total
unfolding bodies_at
bodies_end types functions d OutOfMemory front i s bytes total lt h so_far = tt
bodies_end types functions d (Malformed kind offset) front i s bytes total lt h so_far =
    let k : drop i functions ≡ slice_index_or functions i d ∷ drop (i + 1) functions = drop_more functions i d lt in
    let one : with_front front (bodies_at types (drop i functions) s bytes) ≡ bad (refusal kind offset) = rw (k, h) refl in
    sym so_far ∙ one

pub bodies_done : (types : List FuncType) (functions : List ℕ) (front : List Body) (i : ℕ) (s : Bounds) (bytes : List ℕ)
    (total : Bodies) → length functions ≤ i
    → with_front front (bodies_at types (drop i functions) s bytes) ≡ total → total ≡ Ok (front, bytes)
unfolding bodies_at
bodies_done types functions front i s bytes total le so_far =
    let one : with_front front (bodies_at types (drop i functions) s bytes) ≡ gives front bytes =
    rw (drop_all i functions le) (ap (λ (ns : List Body). gives ns bytes) (append-nil front)) in
    sym so_far ∙ one

-- ---- custom sections

abbrev pub Rest : Type 0
Rest = Result (List ℕ) Refusal

pub customs_on : (count i : ℕ) (s : Bounds) (bytes : List ℕ) (y : Bool) (after : List ℕ) (total : Rest) → i < count
    → true ≡ front_is 0 bytes → custom_at s bytes ≡ Ok (y, after) → customs_at (count - i) s bytes ≡ total
    → customs_at (count - (i + 1)) s after ≡ total
unfolding customs_at
customs_on count i s bytes y after total lt front h so_far =
    let k : count - i ≡ suc (count - (i + 1)) = omega arith in
    let one : customs_at (count - i) s bytes ≡ customs_at (count - (i + 1)) s after = rw (k, ← front, h) refl in
    sym one ∙ so_far

pub customs_end : (e : Refusal) (count i : ℕ) (s : Bounds) (bytes : List ℕ) (total : Rest) → i < count
    → true ≡ front_is 0 bytes → custom_at s bytes ≡ Err e → customs_at (count - i) s bytes ≡ total → total ≡ Err e
unfolding customs_at
customs_end e count i s bytes total lt front h so_far =
    let k : count - i ≡ suc (count - (i + 1)) = omega arith in
    let one : customs_at (count - i) s bytes ≡ bad e = rw (k, ← front, h) refl in
    sym so_far ∙ one

pub customs_stop : (count i : ℕ) (s : Bounds) (bytes : List ℕ) (total : Rest) → i < count → false ≡ front_is 0 bytes
    → customs_at (count - i) s bytes ≡ total → total ≡ Ok bytes
unfolding customs_at
customs_stop count i s bytes total lt front so_far =
    let k : count - i ≡ suc (count - (i + 1)) = omega arith in
    let one : customs_at (count - i) s bytes ≡ good bytes = rw (k, ← front) refl in
    sym so_far ∙ one

pub customs_done : (count i : ℕ) (s : Bounds) (bytes : List ℕ) (total : Rest) → count ≤ i → customs_at (count - i) s bytes ≡ total → total ≡ Ok bytes
unfolding customs_at
customs_done count i s bytes total le so_far =
    let k : count - i ≡ 0 = omega arith in
    let one : customs_at (count - i) s bytes ≡ good bytes = rw k refl in
    sym so_far ∙ one
