use Rattle.std.proofs.Common.{◌≡◌, ℕ, List, [], ◌∷◌, ◌++◌, length, take, rules, inr, sym, ap, ◌∙◌, refl, codes}
use Rattle.report_command.proofs.lines.is_spelled.Goals as goal

-- The first elements of a list, as many as it has, are the list.
take_all : (xs : List ℕ) → take (length xs) xs ≡ xs
take_all [] = refl
take_all (x ∷ xs) = ap (λ ys. x ∷ ys) (take_all xs)

pub returns-then-eq-2 : goal.returns-then-eq-2
returns-then-eq-2 c = λ t. inr (
    let same : c.as_str-2.result.now ≡ c.as_str-3.result.now = search rules in
    sym (c.as_str-2.ensures.value ∙ c.in_ok-text.ensures.ok) ∙ (same ∙ (c.as_str-3.ensures.value ∙ (c.in_ok-behind.ensures.ok
    ∙ ap (λ (words : List ℕ). codes "ok " ++ words) (take_all c.args.words.now)))))
