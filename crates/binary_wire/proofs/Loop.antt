-- Reading items one after the other, as a loop does.
use Rattle.std.proofs.Common.{◌≡◌, ℕ, suc, ◌-◌, ◌+◌, ◌≤◌, ◌<◌, List, [], ◌∷◌, ◌++◌, Result, Ok, Err, refl, sym, ap, subst, ◌∙◌, append_assoc, arith}
use Rattle.std.proofs.lemmas.List.{append-nil}
use Rattle.binary_wire.specs.declared.bounds.Bounds.{Bounds}
use Rattle.binary_wire.specs.declared.fault.Refusal.{Refusal}
use Rattle.binary_wire.specs.declared.fault.ReadFault.{ReadFault}
use Rattle.binary_wire.specs.declared.fault.ReadFault.TheVariants.{OutOfMemory, Malformed}
use Rattle.binary_wire.specs.Faults.{refusal}
use Rattle.binary_wire.specs.Reading.{Reading, ◌>>=◌, Fails, items_at}
use Rattle.binary_wire.proofs.Laws.{gives, bad}

-- what was read before, and what is still read
abbrev pub with_front : {A : Type 0} → List A → Result (List A × List ℕ) Refusal → Result (List A × List ℕ) Refusal
with_front front read = read >>= λ x. Ok (front ++ x.0, x.1)

pub regroup : {A : Type 0} (front more : List A) (read : Result (List A × List ℕ) Refusal)
    → with_front front (read >>= λ x. Ok (more ++ x.0, x.1)) ≡ with_front (front ++ more) read
regroup {A} front more (Ok x) = ap (λ (ns : List A). gives ns x.1) (simp append_assoc)
regroup front more (Err e) = refl

pub regroup_one : {A : Type 0} (front : List A) (n : A) (read : Result (List A × List ℕ) Refusal)
    → with_front front (read >>= λ x. Ok (n ∷ x.0, x.1)) ≡ with_front (front ++ n ∷ []) read
regroup_one {A} front n (Ok x) = ap (λ (ns : List A). gives ns x.1) (simp append_assoc)
regroup_one front n (Err e) = refl

pub goes_on : {A : Type 0} (item : Reading A) (front : List A) (count i : ℕ) (s t : Bounds) (bytes : List ℕ)
    (n : A) (after : List ℕ) (total : Result (List A × List ℕ) Refusal) → i < count → t ≡ s → item t bytes ≡ Ok (n, after)
    → with_front front (items_at item (count - i) s bytes) ≡ total → with_front (front ++ n ∷ []) (items_at item (count - (i + 1)) s after) ≡ total
unfolding items_at
goes_on item front count i s t bytes n after total lt same read so_far =
    let k : count - i ≡ suc (count - (i + 1)) = omega arith in
    let h = subst (λ (b : Bounds). item b bytes ≡ Ok (n, after)) same read in
    let one : with_front front (items_at item (count - i) s bytes) ≡ with_front (front ++ n ∷ [])
    (items_at item (count - (i + 1)) s after) = rw (k, h)
    (regroup_one front n (items_at item (count - (i + 1)) s after)) in
    sym one ∙ so_far

pub ends : {A : Type 0} (item : Reading A) (e : ReadFault) (front : List A) (count i : ℕ) (s t : Bounds)
    (bytes : List ℕ) (total : Result (List A × List ℕ) Refusal) → i < count → t ≡ s → Fails e (item t bytes)
    → with_front front (items_at item (count - i) s bytes) ≡ total → Fails e total
unfolding items_at
ends item OutOfMemory front count i s t bytes total lt same read so_far = tt
ends item (Malformed kind offset) front count i s t bytes total lt same read so_far =
    let k : count - i ≡ suc (count - (i + 1)) = omega arith in
    let h = subst (λ (b : Bounds). Fails (Malformed kind offset) (item b bytes)) same read in
    let one : with_front front (items_at item (count - i) s bytes) ≡ bad (refusal kind offset) = rw (k, h) refl in
    sym so_far ∙ one

pub is_done : {A : Type 0} (item : Reading A) (front : List A) (count i : ℕ) (s : Bounds) (bytes : List ℕ)
    (total : Result (List A × List ℕ) Refusal) → count ≤ i → with_front front (items_at item (count - i) s bytes) ≡ total
    → total ≡ Ok (front, bytes)
unfolding items_at
is_done {A} item front count i s bytes total le so_far =
    let k : count - i ≡ 0 = omega arith in
    let one : with_front front (items_at item (count - i) s bytes) ≡ gives front bytes =
    rw k (ap (λ (ns : List A). gives ns bytes) (append-nil front)) in
    sym so_far ∙ one
