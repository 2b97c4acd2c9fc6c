-- The words of a cycle, one wait after the other.
use Rattle.std.proofs.Common.{◌≡◌, ℕ, List, [], ◌∷◌, ◌++◌, codes, append_assoc, sym, ap, ◌∙◌}
use Rattle.std.specs.Fmt.{decimal}
use Rattle.show_waits.specs.CycleTexts.{chain_text}

regroup : (x a b c d e f : List ℕ) → (x ++ (a ++ (b ++ (c ++ (d ++ e))))) ++ f ≡ x ++ ((a ++ (b ++ (c ++ d))) ++ (e ++ f))
regroup x a b c d e f = simp append_assoc

at_end : (x a b c d e : List ℕ) → x ++ (a ++ (b ++ (c ++ (d ++ e)))) ≡ (x ++ (a ++ (b ++ (c ++ d)))) ++ e
at_end x a b c d e = simp append_assoc

-- a wait more
pub one_more : (text more : List ℕ) (at next n : ℕ) (xs rest whole : List ℕ) → xs ≡ next ∷ rest
    → more ≡ text ++ (codes "t" ++ (decimal at ++ (codes " waits for t" ++ (decimal next ++ codes ", "))))
    → text ++ chain_text at xs n ≡ whole → more ++ chain_text next rest n ≡ whole
one_more text more at next n xs rest whole split is so =
    ap (λ (t : List ℕ). t ++ chain_text next rest n) is
    ∙ (regroup text (codes "t") (decimal at) (codes " waits for t") (decimal next) (codes ", ") (chain_text next rest n)
    ∙ (ap (λ (l : List ℕ). text ++ chain_text at l n) (sym split) ∙ so))

-- the last one
pub last_one : (text whole end all : List ℕ) (at n : ℕ) (xs : List ℕ) → xs ≡ []
    → all ≡ text ++ (codes "t" ++ (decimal at ++ (codes " waits for t" ++ (decimal n ++ end))))
    → text ++ chain_text at xs n ≡ whole → all ≡ whole ++ end
last_one text whole end all at n xs none is so =
    is ∙ (at_end text (codes "t") (decimal at) (codes " waits for t") (decimal n) end
    ∙ ap (λ (t : List ℕ). t ++ end) (ap (λ (l : List ℕ). text ++ chain_text at l n) (sym none) ∙ so))
