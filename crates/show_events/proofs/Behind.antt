-- Lines behind lines.
use Rattle.std.proofs.Common.{◌≡◌, ℕ, zero, suc, ◌+◌, ◌≤◌, List, [], Option, None, Some, sym, subst, arith}
use Rattle.std.proofs.lemmas.List.{append-nil}
use Rattle.std.specs.Io.KnownBytes.{Appends}
use Rattle.replay_forms.proofs.Written.{appends_then}
use Rattle.show_events.specs.Lines.{AddsLine, AddsLines}

nothing_behind : (n : ℕ) (a b c : Option (List ℕ)) → AddsLines n a b → Appends b c [] → AddsLines n a c
nothing_behind zero a b c p q = appends_then a b c [] [] p q
nothing_behind (suc n) a b c (middle, p, (text, line, wrote)) q =
    (middle, p, (text, line, subst (λ (t : List ℕ). Appends middle c t) (append-nil text) (appends_then middle b c text [] wrote q)))

-- Nothing is no line.
no_line : (a : Option (List ℕ)) → AddsLines 0 a a
no_line None = tt
no_line (Some xs) = sym (append-nil xs)

pub lines_then : (n m : ℕ) (a b c : Option (List ℕ)) → AddsLines n a b → AddsLines m b c → AddsLines (n + m) a c
lines_then n zero a b c p q =
    let e : n ≡ n + 0 = omega arith in
    subst (λ (k : ℕ). AddsLines k a c) e (nothing_behind n a b c p q)
lines_then n (suc m) a b c p (middle, q, line) =
    let e : suc (n + m) ≡ n + suc m = omega arith in
    subst (λ (k : ℕ). AddsLines k a c) e (middle, lines_then n m a b middle p q, line)

-- A line, some lines, k lines, some lines, and a line.
pub whole : (k n m : ℕ) (a b c d e f : Option (List ℕ)) → AddsLine a b → AddsLines n b c → AddsLines k c d
    → AddsLines m d e → AddsLine e f → (x : ℕ) × (k ≤ x) × AddsLines x a f
whole k n m a b c d e f first names entries links last =
    let most : AddsLines (n + k + m) b e = lines_then (n + k) m b d e (lines_then n k b c d names entries) links in
    let front : AddsLines 1 a b = (a, no_line a, first) in
    let all : AddsLines (1 + (n + k + m)) a e = lines_then 1 (n + k + m) a b e front most in
    (suc (1 + (n + k + m)), omega arith, (e, all, last))

pub none_at_all : (a : Option (List ℕ)) → (x : ℕ) × AddsLines x a a
none_at_all a = (0, no_line a)

pub two_lines : (a b c : Option (List ℕ)) → AddsLine a b → AddsLine b c → (x : ℕ) × AddsLines x a c
two_lines a b c first second = (2, (b, (a, no_line a, first), second))

pub some_more : (n m : ℕ) (a b c : Option (List ℕ)) → AddsLines n a b → AddsLines m b c → (x : ℕ) × AddsLines x a c
some_more n m a b c p q = (n + m, lines_then n m a b c p q)

pub lines_more : (n : ℕ) (a b c : Option (List ℕ)) → AddsLines n a b → AddsLine b c → AddsLines (n + 1) a c
lines_more n a b c p line =
    let e : suc n ≡ n + 1 = omega arith in
    subst (λ (k : ℕ). AddsLines k a c) e (b, p, line)
