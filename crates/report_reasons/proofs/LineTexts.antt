-- The line behind some lines of a text.
use Rattle.std.proofs.Common.{◌≡◌, ◌⊎◌, ◌∙◌, ℕ, zero, suc, ◌+◌, ◌<◌, ◌≤◌, ◌==◌, ◌||◌, Bool, true, false, cond, inl, inr, List, [], ◌∷◌, ◌++◌}
use Rattle.std.proofs.Common.{length, take, drop, get_or, refl, sym, ap, rules, append_assoc, arith}
use Rattle.std.specs.List.{list_any}
use Rattle.std.proofs.Common.{subst}
use Rattle.std.proofs.lemmas.List.{take-append-drop, take_all, length-drop}
use Rattle.report_reasons.specs.Lines.{IsLine, IsLineEnd}
use Rattle.replay_text.specs.Breaks.{is_feed, line_feeds}
use Rattle.replay_text.proofs.Free.{feeds_append, free_feeds}

-- The rest of a text begins with the line of this number.
pub record IsBehind (text rest : List ℕ) (n : ℕ) : Type 0 where
  pub before : List ℕ
  pub is : text ≡ before ++ rest
  pub begins : (before ≡ []) ⊎ ((other : List ℕ) × (before ≡ other ++ 10 ∷ []))
  pub number : line_feeds before + 1 ≡ n

suc_plus : (n : ℕ) → suc n + 1 ≡ suc (n + 1)
suc_plus n = omega arith

-- The first byte of what is left.
drop_at : (xs : List ℕ) (n : ℕ) → n < length xs → drop n xs ≡ get_or xs n 0 ∷ drop (n + 1) xs
drop_at [] n lt = absurd (omega (arith, lt))
drop_at (x ∷ xs) zero lt = refl
drop_at (x ∷ xs) (suc n) lt = rw (suc_plus n) (drop_at xs n (omega (arith, lt)))

-- The first line of a text, and what stands behind it.
parts : (text : List ℕ) (n : ℕ) → IsLineEnd text n → n < length text → text ≡ take n text ++ 10 ∷ drop (n + 1) text
parts text n ends lt =
    sym (take-append-drop n text) ∙ ap (λ (t : List ℕ). take n text ++ t)
    (drop_at text n lt ∙ ap (λ (b : ℕ). b ∷ drop (n + 1) text) (ends.2 lt))

-- Behind the first line of the rest the next one begins.
pub behind : (text rest : List ℕ) (n end : ℕ) → IsBehind text rest n → IsLineEnd rest end → end < length rest
    → IsBehind text (drop (end + 1) rest) (n + 1)
behind text rest n end b ends lt = record {
  before = b.before ++ (take end rest ++ 10 ∷ []);
  is = b.is ∙ ap (λ (t : List ℕ). b.before ++ t) (parts rest end ends lt ∙ sym (append_assoc (take end rest) (10 ∷ []) (drop (end + 1) rest)))
      ∙ sym (append_assoc b.before (take end rest ++ 10 ∷ []) (drop (end + 1) rest));
  begins = inr (b.before ++ take end rest, sym (append_assoc b.before (take end rest) (10 ∷ [])));
  number = omega (
    arith,
    b.number,
    feeds_append b.before (take end rest ++ 10 ∷ []),
    feeds_append (take end rest) (10 ∷ []),
    free_feeds (take end rest) ends.1,
  );
}

-- Where no line feed is left, the text has no line behind this one.
pub last : (text rest : List ℕ) (n end : ℕ) → IsBehind text rest n → IsLineEnd rest end → end ≡ length rest → line_feeds text + 1 ≡ n
last text rest n end b ends is =
    let all : take end rest ≡ rest = take_all end rest (omega (arith, is)) in
    let none : line_feeds rest ≡ 0 = free_feeds rest (subst (λ (t : List ℕ). list_any is_feed t ≡ false) all ends.1) in
    omega (arith, b.number, none, ap line_feeds b.is, feeds_append b.before rest)

-- A line feed stands behind a line, or nothing.
what_ends : (rest : List ℕ) (end : ℕ) → IsLineEnd rest end → (d : List ℕ) → drop end rest ≡ d
    → (d ≡ []) ⊎ ((other : List ℕ) × (d ≡ 10 ∷ other))
what_ends rest end ends [] is = inl refl
what_ends rest end ends (b ∷ d) is =
    let lt : end < length rest = omega (arith, length-drop end rest, ap length is) in
    inr (drop (end + 1) rest, sym is ∙ drop_at rest end lt ∙ ap (λ (c : ℕ). c ∷ drop (end + 1) rest) (ends.2 lt))

pub first : (text rest : List ℕ) (n end : ℕ) → IsBehind text rest n → IsLineEnd rest end → IsLine text n (take end rest)
first text rest n end b ends = record {
  before = b.before;
  behind = drop end rest;
  is = b.is ∙ ap (λ (t : List ℕ). b.before ++ t) (sym (take-append-drop end rest));
  begins = b.begins;
  number = b.number;
  free = ends.1;
  ends = what_ends rest end ends (drop end rest) refl;
}
