-- Writing one text after another.
use Rattle.std.proofs.Common.{◌≡◌, ℕ, ◌+◌, ◌<◌, List, [], ◌∷◌, ◌++◌, Option, Some, None, refl, sym, ap, subst, ◌∙◌, append_assoc, arith, take, get_or, length}
use Rattle.std.proofs.lemmas.List.{take_more, append-nil, length-take}
use Rattle.std.specs.Io.KnownBytes.{Appends}
use Rattle.replay_forms.specs.Texts.{pieces, texts, words_line, line}

pub appends_then : (a b c : Option (List ℕ)) (x y : List ℕ) → Appends a b x → Appends b c y → Appends a c (x ++ y)
appends_then None b c x y p q = tt
appends_then (Some a) None c x y p q = absurd p
appends_then (Some a) (Some b) None x y p q = absurd q
appends_then (Some a) (Some b) (Some c) x y p q = q ∙ ap (λ (z : List ℕ). z ++ y) p ∙ append_assoc a x y

pieces_more : {A : Type 0} (piece : ℕ → A → List ℕ) (i k : ℕ) (xs : List A) (x : A) → k ≡ i + length xs
    → pieces piece i (xs ++ x ∷ []) ≡ pieces piece i xs ++ piece k x
pieces_more {A} piece i k [] x e =
    let same : k ≡ i = omega arith in
    append-nil (piece i x) ∙ ap (λ (n : ℕ). piece n x) (sym same)
pieces_more {A} piece i k (y ∷ ys) x e =
    ap (λ (z : List ℕ). piece i y ++ z) (pieces_more piece (i + 1) k ys x (omega arith)) ∙ sym (append_assoc (piece i y) (pieces piece (i + 1) ys) (piece k x))

pub pieces_next : {A : Type 0} (piece : ℕ → A → List ℕ) (xs : List A) (k : ℕ) (z x : A) → k < length xs
    → x ≡ get_or xs k z → (a b c : Option (List ℕ)) → Appends a b (pieces piece 0 (take k xs))
    → Appends b c (piece k x) → Appends a c (pieces piece 0 (take (k + 1) xs))
pieces_next {A} piece xs k z x lt is a b c p q =
    let n : length (take k xs) ≡ k = omega (arith, length-take k xs) in
    let m : k ≡ 0 + length (take k xs) = omega arith in
    let e : pieces piece 0 (take (k + 1) xs) ≡ pieces piece 0 (take k xs) ++ piece k x =
    ap (pieces piece 0) (take_more xs k z lt ∙ ap (λ (y : A). take k xs ++ y ∷ []) (sym is)) ∙ pieces_more piece 0 k (take k xs) x m in
    subst (λ (t : List ℕ). Appends a c t) (sym e) (appends_then a b c _ _ p q)

-- pieces, and the same texts in front of other bytes
pub pieces_texts : {A : Type 0} (piece : ℕ → A → List ℕ) (text : ℕ → A → List ℕ → List ℕ)
    → ((i : ℕ) (x : A) (rest : List ℕ) → piece i x ++ rest ≡ text i x rest) → (i : ℕ) (xs : List A) (rest : List ℕ)
    → pieces piece i xs ++ rest ≡ texts text i xs rest
pieces_texts piece text same i [] rest = refl
pieces_texts piece text same i (x ∷ xs) rest = append_assoc (piece i x) (pieces piece (i + 1) xs) rest
    ∙ same i x (pieces piece (i + 1) xs ++ rest) ∙ ap (text i x) (pieces_texts piece text same (i + 1) xs rest)

words_line_front : (words : List (List ℕ)) (rest : List ℕ) → words_line words [] ++ rest ≡ words_line words rest
words_line_front [] rest = refl
words_line_front (w ∷ words) rest = ap (λ (t : List ℕ). 32 ∷ t)
    (append_assoc w (words_line words []) rest ∙ ap (λ (t : List ℕ). w ++ t) (words_line_front words rest))

pub line_front : (words : List (List ℕ)) (rest : List ℕ) → line words [] ++ rest ≡ line words rest
line_front [] rest = refl
line_front (w ∷ words) rest = append_assoc w (words_line words []) rest ∙ ap (λ (t : List ℕ). w ++ t) (words_line_front words rest)
