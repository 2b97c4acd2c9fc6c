-- Lines of words.
use Rattle.std.proofs.Common.{◌≡◌, ℕ, ◌+◌, List, [], ◌∷◌, ◌++◌, refl, ap, ◌∙◌, map}
use Rattle.replay_forms.specs.Texts.{words_line, line, lines_text, spaced, texts}

-- a space stands before the words, or behind them
pub words_line_spaced : (words : List (List ℕ)) (word : List ℕ) (more : List (List ℕ)) (rest : List ℕ)
    → words_line (words ++ word ∷ more) rest ≡ 32 ∷ spaced words (word ++ words_line more rest)
words_line_spaced [] word more rest = refl
words_line_spaced (w ∷ words) word more rest = ap (λ (t : List ℕ). 32 ∷ (w ++ t)) (words_line_spaced words word more rest)

-- the lines of items
pub lines_of_items : {A : Type 0} (words : A → List (List ℕ)) (text : ℕ → A → List ℕ → List ℕ)
    → ((i : ℕ) (x : A) (rest : List ℕ) → line (words x) rest ≡ text i x rest)
    → (i : ℕ) (xs : List A) (more : List (List (List ℕ))) → lines_text (map words xs ++ more) ≡ texts text i xs (lines_text more)
lines_of_items words text same i [] more = refl
lines_of_items words text same i (x ∷ xs) more = same i x (lines_text (map words xs ++ more)) ∙ ap (text i x) (lines_of_items words text same (i + 1) xs more)
