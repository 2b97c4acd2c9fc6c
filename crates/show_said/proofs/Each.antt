-- What one thread says is its own lines.
use Rattle.std.proofs.Common.{◌≡◌, ◌≢◌, ◌∙◌, ℕ, zero, suc, ◌+◌, ◌<◌, ◌≤◌, ◌⊎◌, inl, inr, Bool, true, false, List, [], ◌∷◌, ◌++◌, cond, length}
use Rattle.std.proofs.Common.{replicate}
use Rattle.std.proofs.Common.{refl, sym, ap, subst, append_assoc, arith, nat_eq, nat_lt, map}
use Rattle.std.proofs.lemmas.Bool.{eqb-true, eq-eqb, eqb-false, ne_eqb}
use Rattle.std.proofs.lemmas.List.{map-append, append-nil, length-set, get_or-set_same, get_or-set_other, get_or_past}
use Rattle.std.proofs.lemmas.List.Elements.{filter-append}
use Rattle.std.specs.List.{filter}
use Rattle.types.specs.declared.event.Entry.{Entry}
use Rattle.show_said.specs.Lines.{lines_in, left_of, some_line, line_text}
use Rattle.show_said.specs.Said.{items, line_at, line_of, letters_by, letters_in, lines_behind, said_by, said_last, said_from, letters_of_thread}
use Rattle.show_said.specs.Said.{texts_of}
use Rattle.show_said.specs.declared.said.Said.{Said}
use Rattle.show_said.proofs.Entries.{puts_nothing, side}
use Rattle.show_said.proofs.Hearing.{lines_append, left_append}

texts_append : (t : ℕ) (xs ys : List Said) → texts_of t (xs ++ ys) ≡ texts_of t xs ++ texts_of t ys
texts_append t xs ys =
    ap (λ (l : List Said). map (λ (s : Said). s.text) l) (filter-append (λ (s : Said). nat_eq s.thread t) xs ys)
    ∙ map-append (λ (s : Said). s.text) (filter (λ (s : Said). nat_eq s.thread t) xs) (filter (λ (s : Said). nat_eq s.thread t) ys)

texts_own : (t line : ℕ) (ls : List (List ℕ)) → texts_of t (items t line ls) ≡ map line_text ls
texts_own t line [] = refl
texts_own t line (l ∷ ls) =
    let more = texts_own t line ls in
    let same : nat_eq t t ≡ true = eq-eqb t t refl in
    rw same (ap (λ (k : List (List ℕ)). line_text l ∷ k) more)

texts_other : (k t line : ℕ) (ls : List (List ℕ)) → nat_eq k t ≡ false → texts_of t (items k line ls) ≡ []
texts_other k t line [] other = refl
texts_other k t line (l ∷ ls) other = rw other (texts_other k t line ls other)

last_later : (k t line : ℕ) (lines : List (List ℕ)) → t < k → texts_of t (said_last k line lines) ≡ []
last_later k t line [] less = refl
last_later k t line (l ∷ lines) less =
    let other : nat_eq k t ≡ false = ne_eqb k t (λ (e : k ≡ t). absurd (omega (arith, e, less))) in
    let later : t < k + 1 = omega (arith, less) in
    texts_append t (items k line (some_line l)) (said_last (k + 1) line lines)
    ∙ ap (λ (x : List (List ℕ)). x ++ texts_of t (said_last (k + 1) line lines)) (texts_other k t line (some_line l) other)
    ∙ last_later (k + 1) t line lines later

last_at : (k j t line : ℕ) (lines : List (List ℕ)) → t ≡ k + j
    → texts_of t (said_last k line lines) ≡ map line_text (some_line (line_at lines j))
last_at k j t line [] is = refl
last_at k zero t line (l ∷ lines) is =
    let same : t ≡ k = omega (arith, is) in
    let later : t < k + 1 = omega (arith, same) in
    texts_append t (items k line (some_line l)) (said_last (k + 1) line lines)
    ∙ ap (λ (x : List (List ℕ)). texts_of t (items k line (some_line l)) ++ x) (last_later (k + 1) t line lines later)
    ∙ append-nil (texts_of t (items k line (some_line l)))
    ∙ ap (λ (x : ℕ). texts_of t (items x line (some_line l))) (sym same)
    ∙ texts_own t line (some_line l)
last_at k (suc j) t line (l ∷ lines) is =
    let other : nat_eq k t ≡ false = ne_eqb k t (λ (e : k ≡ t). absurd (omega (arith, e, is))) in
    let behind : t ≡ k + 1 + j = omega (arith, is) in
    texts_append t (items k line (some_line l)) (said_last (k + 1) line lines)
    ∙ ap (λ (x : List (List ℕ)). x ++ texts_of t (said_last (k + 1) line lines)) (texts_other k t line (some_line l) other)
    ∙ last_at (k + 1) j t line lines behind

-- A thread without a port has no letters.
no_letters : (ports : List ℕ) (e : Entry) → length ports ≤ e.thread → letters_by ports e ≡ []
no_letters ports e past = ap letters_in (puts_nothing ports e past)

own_line : (ports : List ℕ) (lines : List (List ℕ)) (e : Entry) → length lines ≡ length ports
    → (e.thread < length lines) ⊎ (length lines ≤ e.thread)
    → line_at (lines_behind ports lines e) e.thread ≡ left_of (line_at lines e.thread) (letters_by ports e)
own_line ports lines e long (inl within) = get_or-set_same lines e.thread (left_of (line_at lines e.thread) (letters_by ports e)) [] within
own_line ports lines e long (inr past) =
    let made = left_of (line_at lines e.thread) (letters_by ports e) in
    let none : letters_by ports e ≡ [] = no_letters ports e (omega (arith, long, past)) in
    let behind : length (lines_behind ports lines e) ≤ e.thread = omega (arith, past, length-set lines e.thread made) in
    get_or_past (lines_behind ports lines e) e.thread [] behind
    ∙ sym (ap (λ (x : List ℕ). left_of (line_at lines e.thread) x) none ∙ get_or_past lines e.thread [] past)

-- The lines that letters make behind a line so far.
abbrev pub behind : List ℕ → List ℕ → List (List ℕ)
behind line letters = lines_in line letters ++ some_line (left_of line letters)

two_parts : (line xs ys : List ℕ)
    → behind line (xs ++ ys) ≡ lines_in line xs ++ behind (left_of line xs) ys
two_parts line xs ys =
    ap (λ (l : List (List ℕ)). l ++ some_line (left_of line (xs ++ ys))) (lines_append line xs ys)
    ∙ ap (λ (l : List ℕ). (lines_in line xs ++ lines_in (left_of line xs) ys) ++ some_line l) (left_append line xs ys)
    ∙ append_assoc (lines_in line xs) (lines_in (left_of line xs) ys) (some_line (left_of (left_of line xs) ys))

module _ (ports : List ℕ) (first t : ℕ) where
  abbrev Goes : ℕ → List (List ℕ) → List Entry → Type 0
  Goes at lines log = texts_of t (said_from ports first at lines log)
      ≡ map line_text (behind (line_at lines t) (letters_of_thread ports t log))

  -- the first entry, by whether it is the thread's
  step : (at : ℕ) (lines : List (List ℕ)) (e : Entry) (log : List Entry) (b : Bool) → nat_eq e.thread t ≡ b
      → length lines ≡ length ports → Goes (at + 1) (lines_behind ports lines e) log
      → texts_of t (said_from ports first at lines (e ∷ log))
      ≡ map line_text (behind (line_at lines t) (cond b (letters_by ports e) [] ++ letters_of_thread ports t log))
  step at lines e log true is long more =
      let mine : e.thread ≡ t = eqb-true e.thread t is in
      let letters = letters_by ports e in
      let rest = letters_of_thread ports t log in
      let own : line_at (lines_behind ports lines e) t ≡ left_of (line_at lines t) letters =
      subst (λ (k : ℕ). line_at (lines_behind ports lines e) k ≡ left_of (line_at lines k) letters) mine
      (own_line ports lines e long (side e.thread (length lines) (nat_lt e.thread (length lines)) refl)) in
      let here : texts_of t (said_by ports lines (line_of first at) e) ≡ map line_text (lines_in (line_at lines t) letters) =
      subst (λ (k : ℕ). texts_of t (items k (line_of first at) (lines_in (line_at lines k) letters)) ≡ map line_text (lines_in (line_at lines t) letters))
      (sym mine) (texts_own t (line_of first at) (lines_in (line_at lines t) letters)) in
      texts_append t (said_by ports lines (line_of first at) e) (said_from ports first (at + 1) (lines_behind ports lines e) log)
      ∙ ap (λ (x : List (List ℕ)). x ++ texts_of t (said_from ports first (at + 1) (lines_behind ports lines e) log)) here
      ∙ ap (λ (x : List (List ℕ)). map line_text (lines_in (line_at lines t) letters) ++ x) more
      ∙ ap (λ (x : List ℕ). map line_text (lines_in (line_at lines t) letters) ++ map line_text (behind x rest)) own
      ∙ sym (map-append line_text (lines_in (line_at lines t) letters) (behind (left_of (line_at lines t) letters) rest))
      ∙ ap (λ (x : List (List ℕ)). map line_text x) (sym (two_parts (line_at lines t) letters rest))
  step at lines e log false is long more =
      let other : t ≢ e.thread = λ (same : t ≡ e.thread). eqb-false e.thread t is (sym same) in
      let rest = letters_of_thread ports t log in
      let stays : line_at (lines_behind ports lines e) t ≡ line_at lines t =
      get_or-set_other lines e.thread t (left_of (line_at lines e.thread) (letters_by ports e)) [] other in
      texts_append t (said_by ports lines (line_of first at) e) (said_from ports first (at + 1) (lines_behind ports lines e) log)
      ∙ ap (λ (x : List (List ℕ)). x ++ texts_of t (said_from ports first (at + 1) (lines_behind ports lines e) log))
      (texts_other e.thread t (line_of first at) (lines_in (line_at lines e.thread) (letters_by ports e)) is)
      ∙ more
      ∙ ap (λ (x : List ℕ). map line_text (behind x rest)) stays

  pub goes : (at : ℕ) (lines : List (List ℕ)) (log : List Entry) → length lines ≡ length ports → Goes at lines log
  goes at lines [] long = last_at 0 t t (line_of first at) lines (sym (let z : 0 + t ≡ t = omega arith in z))
  goes at lines (e ∷ log) long =
      let made = left_of (line_at lines e.thread) (letters_by ports e) in
      step at lines e log (nat_eq e.thread t) refl long
      (goes (at + 1) (lines_behind ports lines e) log (length-set lines e.thread made ∙ long))

-- At first no thread has a line.
pub no_line : (count thread : ℕ) → line_at (replicate count []) thread ≡ []
no_line zero thread = refl
no_line (suc count) zero = refl
no_line (suc count) (suc thread) = no_line count thread
