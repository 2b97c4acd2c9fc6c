-- Paragraphs, one behind the other.
use Rattle.std.proofs.Common.{◌≡◌, ℕ, ◌+◌, ◌<◌, ◌≤◌, List, [], ◌∷◌, ◌++◌, Option, None, Some, length, take, get_or, sym, ap, subst, ◌∙◌}
use Rattle.std.proofs.lemmas.List.{append-nil, take_all}
use Rattle.std.proofs.lemmas.List.Folds.{concat-append}
use Rattle.std.specs.List.{AllZip, concat}
use Rattle.std.specs.Io.KnownBytes.{Appends, Keeps}
use Rattle.replay_forms.proofs.Written.{appends_then}
use Rattle.show_rows.proofs.Chosen.{appends_keeps}
use Rattle.show_rows.proofs.Zipped.{zip_next}

nothing : (a : Option (List ℕ)) → Appends a a []
nothing None = tt
nothing (Some xs) = sym (append-nil xs)

-- The texts of the first so many.
abbrev pub AreWritten : {X : Type 0} → (X → List ℕ → Type 0) → List X → ℕ → Option (List ℕ) → Option (List ℕ) → Type 0
AreWritten Q xs n a b = (texts : List (List ℕ)) × AllZip Q (take n xs) texts × Appends a b (concat texts)

pub none_yet : {X : Type 0} (Q : X → List ℕ → Type 0) (xs : List X) (a : Option (List ℕ)) → AreWritten Q xs 0 a a
none_yet Q xs a = ([], tt, nothing a)

pub text_next : {X : Type 0} (Q : X → List ℕ → Type 0) (xs : List X) (k : ℕ) (z x : X) (text : List ℕ) (a b c : Option (List ℕ))
    → k < length xs → x ≡ get_or xs k z → AreWritten Q xs k a b → Q x text → Appends b c text → AreWritten Q xs (k + 1) a c
text_next Q xs k z x text a b c lt is (texts, all, wrote) says more = (
  texts ++ text ∷ [],
  zip_next Q xs texts k z x text lt is all says,
  subst (Appends a c) (sym (concat-append texts (text ∷ []) ∙ ap (λ (t : List ℕ). concat texts ++ t) (append-nil text)))
      (appends_then a b c (concat texts) text wrote more),
)

-- All of them, and what stands behind them.
pub all_written : {X : Type 0} (Q : X → List ℕ → Type 0) (xs : List X) (n : ℕ) (e : List ℕ) (a b c d : Option (List ℕ)) → length xs ≤ n
    → AreWritten Q xs n a b → Appends b c e → Keeps c d → (texts : List (List ℕ)) × AllZip Q xs texts × Appends a d (concat texts ++ e)
all_written {X} Q xs n e a b c d le (texts, all, wrote) more last = (
  texts,
  subst (λ (ys : List X). AllZip Q ys texts) (take_all n xs le) all,
  appends_keeps a c d (concat texts ++ e) (appends_then a b c (concat texts) e wrote more) last,
)
