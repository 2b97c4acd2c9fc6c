-- Marks of what is live, and locals that agree by them.
use Rattle.std.proofs.Common.{◌≡◌, ℕ, zero, suc, ◌⊎◌, Bool, List, [], ◌∷◌, length, map}
use Rattle.std.proofs.Common.{Some, None, slice_get, slice_set, refl, sym, ◌∙◌, ap, subst, inl, inr, arith}
use Rattle.std.proofs.lemmas.Bool.{cases_eq}
use Rattle.types.specs.declared.value.ValType.{ValType}
use Rattle.types.specs.declared.value.Value.{Value}
use Rattle.types.specs.Nesting.{Code, Empty, Then, BlockThen, LoopThen, IfThen, IfElseThen}
use Rattle.types.specs.Values.{type_of}
use Rattle.live_locals.specs.Live.{IsLive, Covers}
use Rattle.live_locals.specs.Lives.{Includes, Lives}
use Rattle.live_locals.specs.Alike.{Agree}

-- ---- Rows

pub includes_itself : (row : List Bool) → Includes row row
includes_itself row local h = h

-- what is live behind what writes nothing
pub plainly : (row behind : List Bool) → Covers row behind None → Includes row behind
plainly row behind h local live = h local live (λ e. absurd (no e))
  where
    no : {X : Type 0} {x : X} → None ≡ Some x → ⊥
    no e = cc

-- where all is live, each code goes on alike
pub all_lives : (outs : List (List Bool)) (code : Code) → Lives outs [] code []
all_lives outs Empty = λ local h. h
all_lives outs (Then op rest) = (
  [],
  record { reads = λ local e. refl; next = λ e local h o. refl; labels = λ k out i e local h. refl },
  all_lives outs rest,
)
all_lives outs (BlockThen t body rest) = ([], [], includes_itself [], all_lives ([] ∷ outs) body, all_lives outs rest)
all_lives outs (LoopThen t body rest) = ([], [], includes_itself [], all_lives ([] ∷ outs) body, all_lives outs rest)
all_lives outs (IfThen t first rest) =
    ([], [], includes_itself [], includes_itself [], all_lives ([] ∷ outs) first, all_lives outs rest)
all_lives outs (IfElseThen t first second rest) =
    ([], [], [], includes_itself [], includes_itself [], all_lives ([] ∷ outs) first, all_lives ([] ∷ outs) second, all_lives outs rest)

-- ---- Locals

pub agree_itself : (row : List Bool) (xs : List Value) → Agree row xs xs
agree_itself row xs = record { types = refl; same = λ local h. refl }

pub agree_back : (row : List Bool) (xs ys : List Value) → Agree row xs ys → Agree row ys xs
agree_back row xs ys a = record { types = sym a.types; same = λ local h. sym (a.same local h) }

pub agree_less : (row other : List Bool) (xs ys : List Value) → Includes row other → Agree row xs ys → Agree other xs ys
agree_less row other xs ys i a = record { types = a.types; same = λ local h. a.same local (i local h) }

pub agree_long : (row : List Bool) (xs ys : List Value) → Agree row xs ys → length xs ≡ length ys
agree_long row xs ys a = long xs ys a.types
  where
    long : (us vs : List Value) → map type_of us ≡ map type_of vs → length us ≡ length vs
    long [] [] e = refl
    long [] (v ∷ vs) e = absurd cc
    long (u ∷ us) [] e = absurd cc
    long (u ∷ us) (v ∷ vs) e = let t : map type_of us ≡ map type_of vs = cc in ap suc (long us vs t)

set_types : (xs : List Value) (x : ℕ) (v : Value) → map type_of (slice_set xs x v) ≡ slice_set (map type_of xs) x (type_of v)
set_types [] x v = refl
set_types (u ∷ xs) zero v = refl
set_types (u ∷ xs) (suc x) v = ap (λ (ts : List ValType). type_of u ∷ ts) (set_types xs x v)

-- what is written in both
get_set_it : (xs ys : List Value) (x : ℕ) (v : Value) → length xs ≡ length ys → slice_get (slice_set xs x v) x ≡ slice_get (slice_set ys x v) x
get_set_it [] [] x v e = refl
get_set_it [] (y ∷ ys) x v e = absurd (omega arith)
get_set_it (u ∷ xs) [] x v e = absurd (omega arith)
get_set_it (u ∷ xs) (y ∷ ys) zero v e = refl
get_set_it (u ∷ xs) (y ∷ ys) (suc x) v e = get_set_it xs ys x v (omega arith)

get_set_other : (xs : List Value) (x k : ℕ) (v : Value) → (k ≡ x → ⊥) → slice_get (slice_set xs x v) k ≡ slice_get xs k
get_set_other [] x k v n = refl
get_set_other (u ∷ xs) zero zero v n = absurd (n refl)
get_set_other (u ∷ xs) zero (suc k) v n = refl
get_set_other (u ∷ xs) (suc x) zero v n = refl
get_set_other (u ∷ xs) (suc x) (suc k) v n = get_set_other xs x k v (λ e. n (ap suc e))

pub agree_written : (row behind : List Bool) (xs ys : List Value) (x : ℕ) (v : Value) → Covers row behind (Some x) → Agree row xs ys →
    Agree behind (slice_set xs x v) (slice_set ys x v)
agree_written row behind xs ys x v c a = record {
  types = set_types xs x v ∙ ap (λ (ts : List ValType). slice_set ts x (type_of v)) a.types ∙ sym (set_types ys x v);
  same = λ local h. by local h (cases_eq local x);
}
  where
    by : (local : ℕ) → IsLive behind local → (local ≡ x) ⊎ (local ≡ x → ⊥) → slice_get (slice_set xs x v) local ≡ slice_get (slice_set ys x v) local
    by local h (inl p) =
        subst (λ k. slice_get (slice_set xs x v) k ≡ slice_get (slice_set ys x v) k) (sym p) (get_set_it xs ys x v (agree_long row xs ys a))
    by local h (inr n) =
        get_set_other xs x local v n ∙ a.same local (c local h (λ e. n (let p : x ≡ local = cc in sym p))) ∙ sym (get_set_other ys x local v n)
