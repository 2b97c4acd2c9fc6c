-- Steps, one behind the other.
use Rattle.std.proofs.Common.{◌≡◌, ◌∙◌, ℕ, ◌+◌, ◌<◌, ◌≤◌, List, [], ◌∷◌, ◌++◌, length, take, get_or, refl, sym, ap, subst, arith}
use Rattle.std.proofs.lemmas.List.{take_more, take_all}
use Rattle.std.proofs.lemmas.List.FromFn.{length-enumerate_from, get_or-enumerate_from}
use Rattle.std.specs.List.{enumerate_from}
use Rattle.show_events.specs.Events.{InTurn}

in_turn_one : {X S : Type 0} (does : X → S → S → Type 0) (xs : List X) (x : X) (a b c : S) → InTurn does xs a b
    → does x b c → InTurn does (xs ++ x ∷ []) a c
in_turn_one {X} {S} does [] x a b c same step = (c, subst (λ (s : S). does x s c) same step, refl)
in_turn_one does (y ∷ xs) x a b c (middle, first, rest) step = (middle, first, in_turn_one does xs x middle b c rest step)

pub in_turn_next : {X S : Type 0} (does : X → S → S → Type 0) (xs : List X) (k : ℕ) (z x : X) → k < length xs
    → x ≡ get_or xs k z → (a b c : S) → InTurn does (take k xs) a b → does x b c → InTurn does (take (k + 1) xs) a c
in_turn_next {X} {S} does xs k z x lt is a b c before step =
    let e : take (k + 1) xs ≡ take k xs ++ x ∷ [] = take_more xs k z lt ∙ ap (λ (y : X). take k xs ++ y ∷ []) (sym is) in
    subst (λ (ys : List X). InTurn does ys a c) (sym e) (in_turn_one does (take k xs) x a b c before step)

pub in_turn_all : {X S : Type 0} (does : X → S → S → Type 0) (xs : List X) (k : ℕ) (a b : S) → length xs ≤ k
    → InTurn does (take k xs) a b → InTurn does xs a b
in_turn_all {X} does xs k a b le all = subst (λ (ys : List X). InTurn does ys a b) (take_all k xs le) all

-- The same of items with their numbers.
pub numbered_next : {X S : Type 0} (does : ℕ × X → S → S → Type 0) (xs : List X) (k : ℕ) (z x : X) → k < length xs
    → x ≡ get_or xs k z → (a b c : S) → InTurn does (take k (enumerate_from 0 xs)) a b → does (k, x) b c
    → InTurn does (take (k + 1) (enumerate_from 0 xs)) a c
numbered_next {X} does xs k z x lt is a b c before step =
    let number : k ≡ 0 + k = omega arith in
    let pair : X → ℕ × X = λ y. (k, y) in
    let zero_pair : ℕ → ℕ × X = λ n. (n, get_or xs k z) in
    let e : pair x ≡ get_or (enumerate_from 0 xs) k (0, z) = ap pair is ∙ (ap zero_pair number ∙ sym (get_or-enumerate_from 0 xs k (0, z) lt)) in
    in_turn_next does (enumerate_from 0 xs) k (0, z) (k, x) (omega (arith, lt, length-enumerate_from 0 xs)) e a b c before step

pub numbered_all : {X S : Type 0} (does : ℕ × X → S → S → Type 0) (xs : List X) (k : ℕ) (a b : S) → length xs ≤ k
    → InTurn does (take k (enumerate_from 0 xs)) a b → InTurn does (enumerate_from 0 xs) a b
numbered_all does xs k a b le all =
    in_turn_all does (enumerate_from 0 xs) k a b (omega (arith, le, length-enumerate_from 0 xs)) all
