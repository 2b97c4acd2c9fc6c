-- Texts of items in a row, one after the other.
use Rattle.std.proofs.Common.{◌≡◌, ℕ, suc, ◌+◌, ◌<◌, List, [], ◌∷◌, ◌++◌, length, take, get_or, Option}
use Rattle.std.proofs.Common.{sym, ◌∙◌, ap, subst, arith, append_assoc, append-nil}
use Rattle.std.proofs.lemmas.List.{length-take-le, take_more}
use Rattle.std.specs.Io.KnownBytes.{Appends}
use Rattle.replay_forms.proofs.Written.{appends_then}
use Rattle.report_lines.specs.Lines.{numbered}

module _ {A : Type 0} (text : ℕ → A → List ℕ) where
  pub one_more : (n : ℕ) (xs : List A) (x : A)
      → numbered text n (xs ++ x ∷ []) ≡ numbered text n xs ++ text (n + length xs) x
  one_more n [] x = let e : n + 0 ≡ n = omega arith in append-nil (text n x) ∙ ap (λ k. text k x) (sym e)
  one_more n (y ∷ xs) x =
      let e : n + 1 + length xs ≡ n + suc (length xs) = omega arith in
      ap (λ l. text n y ++ l) (one_more (n + 1) xs x)
      ∙ sym (append_assoc (text n y) (numbered text (n + 1) xs) (text (n + 1 + length xs) x))
      ∙ ap (λ k. (text n y ++ numbered text (n + 1) xs) ++ text k x) e

  pub texts_go_on : (a b c : Option (List ℕ)) (xs : List A) (i : ℕ) (d : A)
      → i < length xs → Appends a b (numbered text 0 (take i xs))
      → Appends b c (text i (get_or xs i d)) → Appends a c (numbered text 0 (take (i + 1) xs))
  texts_go_on a b c xs i d less before one =
      let x = get_or xs i d in
      let long : length (take i xs) ≡ i = length-take-le i xs (search arith) in
      let more : take (i + 1) xs ≡ take i xs ++ x ∷ [] = take_more xs i d less in
      let texts : numbered text 0 (take i xs) ++ text i x ≡ numbered text 0 (take (i + 1) xs) =
      ap (λ k. numbered text 0 (take i xs) ++ text k x)
      (sym (let z : 0 + length (take i xs) ≡ i = omega (arith, long) in z))
      ∙ sym (one_more 0 (take i xs) x) ∙ ap (numbered text 0) (sym more) in
      subst (λ (l : List ℕ). Appends a c l) texts (appends_then a b c (numbered text 0 (take i xs)) (text i x) before one)
