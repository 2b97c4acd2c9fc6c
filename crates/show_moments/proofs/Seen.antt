-- What a moment sees behind an entry.
use Rattle.std.proofs.Common.{◌≡◌, ◌∙◌, ◌≤◌, ◌++◌, ℕ, ◌+◌, ◌-◌, List, length, take, drop, Some, ap, arith, sym}
use Rattle.std.proofs.lemmas.List.{take-append-le, take_all}
use Rattle.std.specs.List.{slice_get}
use Rattle.types.specs.declared.event.Entry.{Entry}

-- What was written to all of a list.
pub written_back : {X : Type 0} (xs ys : List X) (n : ℕ) → length xs ≡ length ys → n ≡ length ys
    → take n (xs ++ drop (length xs) ys) ≡ xs
written_back xs ys n long is =
    let within : n ≤ length xs = omega (arith, long, is) in
    let whole : length xs ≤ n = omega (arith, long, is) in
    rw take-append-le (take_all n xs whole)

same_Some : {X : Type 0} (x y : X) → Some x ≡ Some y → x ≡ y
same_Some x y e = cc

-- The last of so many entries is the one before that number.
pub last_is : (log : List Entry) (entries last : ℕ) (made entry : Entry) → entries ≡ last + 1 → slice_get log last ≡ Some made
    → slice_get log (entries - 1) ≡ Some entry → entry ≡ made
last_is log entries last made entry is there here =
    let e : entries - 1 ≡ last = omega (arith, is) in
    same_Some entry made (sym here ∙ (ap (slice_get log) e ∙ there))
