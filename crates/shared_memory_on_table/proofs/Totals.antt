-- Totals over callers and views.
use Rattle.std.proofs.Common.{◌≡◌, ◌≢◌, ℕ, zero, suc, ◌+◌, ◌≤◌, Bool, true, false, List, [], ◌∷◌, ◌++◌, set, refl, sym, ap, arith}
use mathlib.Core.Option.{some, some-injective, some-ne-none}
use lib.ListN.{get_elem?}
use Rattle.shared_memory_on_table.specs.declared.view.Caller.{Caller}
use Rattle.shared_memory_on_table.specs.declared.view.View.{View}
use Rattle.shared_memory_on_table.specs.Callers.{one_if, total_of, total}
use Rattle.shared_memory_on_table.specs.Moves.{first_of, others_of}

pub one_of_true : (b : Bool) → b ≡ true → one_if b ≡ 1
one_of_true b e = ap one_if e

pub not_one : (b : Bool) → one_if b ≡ 0 → b ≡ false
not_one true h = absurd (omega arith)
not_one false h = refl

pub total_of-append : (f : Caller → ℕ) (cs ds : List Caller) → total_of f (cs ++ ds) ≡ total_of f cs + total_of f ds
total_of-append f [] ds = omega arith
total_of-append f (c ∷ cs) ds = let r = total_of-append f cs ds in omega arith

-- the first caller and the others
pub total_of-parts : (f : Caller → ℕ) (cs : List Caller) → total_of f (others_of cs) + total_of f (first_of cs) ≡ total_of f cs
total_of-parts f [] = omega arith
total_of-parts f (c ∷ cs) = omega arith

-- after a change of one view
pub total-set : (f : View → ℕ) (views : List View) (id : ℕ) (v w : View) → get_elem? views id ≡ some v → total f (set views id w) + f v ≡ total f views + f w
total-set f [] id v w e = absurd (some-ne-none v (sym e))
total-set f (x ∷ xs) zero v w e = let same : f x ≡ f v = ap f (some-injective _ _ e) in omega arith
total-set f (x ∷ xs) (suc id) v w e = let r = total-set f xs id v w e in omega arith

-- with one view more
pub total-push : (f : View → ℕ) (views : List View) (w : View) → total f (views ++ w ∷ []) ≡ total f views + f w
total-push f [] w = omega arith
total-push f (x ∷ xs) w = let r = total-push f xs w in omega arith

-- one view is a part of it
pub total-at : (f : View → ℕ) (views : List View) (id : ℕ) (v : View) → get_elem? views id ≡ some v → f v ≤ total f views
total-at f [] id v e = absurd (some-ne-none v (sym e))
total-at f (x ∷ xs) zero v e = let same : f x ≡ f v = ap f (some-injective _ _ e) in omega arith
total-at f (x ∷ xs) (suc id) v e = let r = total-at f xs id v e in omega arith

-- and two are
pub total-two : (f : View → ℕ) (views : List View) (i j : ℕ) (v u : View) → j ≢ i → get_elem? views i ≡ some v
    → get_elem? views j ≡ some u → f v + f u ≤ total f views
total-two f [] i j v u n e d = absurd (some-ne-none v (sym e))
total-two f (x ∷ xs) zero zero v u n e d = absurd (n refl)
total-two f (x ∷ xs) zero (suc j) v u n e d = let same : f x ≡ f v = ap f (some-injective _ _ e) in let r = total-at f xs j u d in omega arith
total-two f (x ∷ xs) (suc i) zero v u n e d = let same : f x ≡ f u = ap f (some-injective _ _ d) in let r = total-at f xs i v e in omega arith
total-two f (x ∷ xs) (suc i) (suc j) v u n e d = let r = total-two f xs i j v u (λ h. n (ap suc h)) e d in omega arith

-- a cut keeps it
pub total-cut : (f : View → ℕ) (views : List View) (id : ℕ) (v l r : View) → get_elem? views id ≡ some v
    → f l + f r ≡ f v → total f (set views id l ++ r ∷ []) ≡ total f views
total-cut f views id v l r at e = let a = total-set f views id v l at in let b = total-push f (set views id l) r in omega arith

-- a union keeps it, but for what the two views come to
pub total-union : (f : View → ℕ) (views : List View) (id other : ℕ) (v w b s : View) → get_elem? views id ≡ some v → get_elem? (set views id b) other ≡ some w
    → total f (set (set views id b) other s) + (f v + f w) ≡ total f views + (f b + f s)
total-union f views id other v w b s at there = let p = total-set f views id v b at in let q = total-set f (set views id b) other w s there in omega arith
