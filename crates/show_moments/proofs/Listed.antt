-- Texts of items, one behind the other.
use Rattle.std.proofs.Common.{◌≡◌, ◌==◌, ◌∙◌, ℕ, ◌+◌, ◌<◌, ◌≤◌, Bool, true, false, List, [], ◌∷◌, ◌++◌, length, take, get_or, codes, sym, ap, arith}
use Rattle.std.specs.List.{enumerate_from, flat_map}
use Rattle.std.proofs.lemmas.List.{take_more, take_all, flat_map_more}
use Rattle.std.proofs.lemmas.List.FromFn.{length-enumerate_from, get_or-enumerate_from}
use Rattle.show_moments.specs.Texts.{byte_text, dump_text}

-- One more item.
pub item_next : {X : Type 0} (f : X → List ℕ) (xs : List X) (k : ℕ) (z x : X) (a b c : List ℕ) → k < length xs
    → x ≡ get_or xs k z → b ≡ a ++ flat_map f (take k xs) → c ≡ b ++ f x → c ≡ a ++ flat_map f (take (k + 1) xs)
item_next {X} f xs k z x a b c lt is before adds =
    let e : take (k + 1) xs ≡ take k xs ++ x ∷ [] = take_more xs k z lt ∙ ap (λ (y : X). take k xs ++ y ∷ []) (sym is) in
    adds ∙ (ap (λ (t : List ℕ). t ++ f x) before
    ∙ (flat_map_more f a (take k xs) x ∙ ap (λ (ys : List X). a ++ flat_map f ys) (sym e)))

-- The same of items with their numbers.
pub numbered_next : {X : Type 0} (f : ℕ × X → List ℕ) (xs : List X) (k : ℕ) (z x : X) (a b c : List ℕ) → k < length xs
    → x ≡ get_or xs k z → b ≡ a ++ flat_map f (take k (enumerate_from 0 xs)) → c ≡ b ++ f (k, x)
    → c ≡ a ++ flat_map f (take (k + 1) (enumerate_from 0 xs))
numbered_next {X} f xs k z x a b c lt is before adds =
    let number : k ≡ 0 + k = omega arith in
    let pair : X → ℕ × X = λ y. (k, y) in
    let zero_pair : ℕ → ℕ × X = λ n. (n, get_or xs k z) in
    let e : pair x ≡ get_or (enumerate_from 0 xs) k (0, z) =
    ap pair is ∙ (ap zero_pair number ∙ sym (get_or-enumerate_from 0 xs k (0, z) lt)) in
    item_next f (enumerate_from 0 xs) k (0, z) (k, x) a b c (omega (arith, lt, length-enumerate_from 0 xs)) e before adds

none : {P : Type 0} (b : Bool) → b ≡ true → b ≡ false → P
none b empty not = absurd (cc (sym empty ∙ not))

pub dumped : (addr : ℕ) (bytes : List ℕ) (k : ℕ) (text all : List ℕ) (b : Bool) → b ≡ (length bytes == 0) → b ≡ false → length bytes ≤ k
    → text ≡ flat_map (byte_text addr) (take k (enumerate_from 0 bytes)) → all ≡ text ++ codes "\n" → all ≡ dump_text addr bytes
dumped addr [] k text all b empty not le is last = none b empty not
dumped addr (x ∷ bytes) k text all b empty not le is last =
    last ∙ ap (λ (t : List ℕ). t ++ codes "\n") (is ∙ ap (λ (xs : List (ℕ × ℕ)). flat_map (byte_text addr) xs)
    (take_all k (enumerate_from 0 (x ∷ bytes)) (omega (arith, le, length-enumerate_from 0 (x ∷ bytes)))))
