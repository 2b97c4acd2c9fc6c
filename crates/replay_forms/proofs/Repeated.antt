-- Items one after the other: what is read are their texts, and the loop that reads them.
use Rattle.std.proofs.Common.{◌≡◌, ℕ, zero, suc, ◌+◌, ◌-◌, ◌<◌, ◌≤◌, List, [], ◌∷◌, ◌++◌, Option, Some, None, refl, sym, ap, ◌∙◌, append_assoc, arith}
use Rattle.std.specs.Prelude.{length}
use Rattle.std.proofs.lemmas.List.{append-nil}
use Rattle.replay_forms.specs.Reading.{◌>>=◌, Reader, more_of, several, listed, after}
use Rattle.replay_forms.specs.Texts.{texts}
use Rattle.replay_forms.proofs.Laws.{Law, bind_some, move, after_takes, after_again}

-- each item fits its place
abbrev pub AllFit : {A : Type 0} → (ℕ → A → Type 0) → ℕ → List A → Type 0
AllFit Fits i [] = Unit {0}
AllFit Fits i (x ∷ xs) = Fits i x × AllFit Fits (i + 1) xs

-- what was read before, and what is still read
abbrev pub prepend : {A : Type 0} → List A → List A × List ℕ → List A × List ℕ
prepend front p = (front ++ p.0, p.1)

several_next : {A : Type 0} (at : ℕ → Reader A) (i n : ℕ) (bytes : List ℕ) (x : A) (rest : List ℕ)
    → at i bytes ≡ Some (x, rest) → several at i (suc n) bytes ≡ (
      x ∷ (several at (i + 1) n rest).0,
      (several at (i + 1) n rest).1,
    )
unfolding several
several_next at i n bytes x rest e = ap (λ o. more_of o bytes (λ r. several at (i + 1) n r)) e

several_stop : {A : Type 0} (at : ℕ → Reader A) (i n : ℕ) (bytes : List ℕ) → at i bytes ≡ None → several at i n bytes ≡ ([], bytes)
unfolding several
several_stop at i zero bytes e = refl
several_stop at i (suc n) bytes e = ap (λ o. more_of o bytes (λ r. several at (i + 1) n r)) e

several_none : {A : Type 0} (at : ℕ → Reader A) (i n : ℕ) (bytes : List ℕ) → n ≡ 0 → several at i n bytes ≡ ([], bytes)
unfolding several
several_none at i zero bytes e = refl
several_none at i (suc n) bytes e = absurd (omega arith)

pub goes_on : {A : Type 0} (at : ℕ → Reader A) (front : List A) (most i : ℕ) (bytes : List ℕ) (x : A) (rest : List ℕ)
    (whole : List A × List ℕ) → i < most → at i bytes ≡ Some (x, rest)
    → prepend front (several at i (most - i) bytes) ≡ whole → prepend (front ++ x ∷ []) (several at (i + 1) (most - (i + 1)) rest) ≡ whole
goes_on {A} at front most i bytes x rest whole lt e h =
    let n : most - i ≡ suc (most - (i + 1)) = omega arith in
    let s = several_next at i (most - (i + 1)) bytes x rest e in
    let others = several at (i + 1) (most - (i + 1)) rest in
    let split : (front ++ x ∷ []) ++ others.0 ≡ front ++ (x ∷ others.0) = append_assoc front (x ∷ []) others.0 in
    ap (λ (z : List A). (z, others.1)) split ∙ sym (ap (prepend front) (ap (λ (k : ℕ). several at i k bytes) n ∙ s)) ∙ h

pub stops_here : {A : Type 0} (at : ℕ → Reader A) (front : List A) (most i : ℕ) (bytes : List ℕ)
    (whole : List A × List ℕ) → at i bytes ≡ None → prepend front (several at i (most - i) bytes) ≡ whole
    → (front, bytes) ≡ whole
stops_here {A} at front most i bytes whole e h = ap (λ (z : List A). (z, bytes)) (sym (append-nil front))
    ∙ sym (ap (prepend front) (several_stop at i (most - i) bytes e)) ∙ h

pub is_done : {A : Type 0} (at : ℕ → Reader A) (front : List A) (most i : ℕ) (bytes : List ℕ)
    (whole : List A × List ℕ) → most ≤ i → prepend front (several at i (most - i) bytes) ≡ whole
    → (front, bytes) ≡ whole
is_done {A} at front most i bytes whole le h = ap (λ (z : List A). (z, bytes)) (sym (append-nil front))
    ∙ sym (ap (prepend front) (several_none at i (most - i) bytes (omega arith))) ∙ h

-- what was read, and what is left
pub record IsSeveral {A : Type 0} (text : ℕ → A → List ℕ → List ℕ) (Fits : ℕ → A → Type 0) (i n : ℕ) (bytes : List ℕ) (p : List A × List ℕ) : Type 0 where
  pub spelled : bytes ≡ texts text i p.0 p.1
  pub fit : AllFit Fits i p.0
  pub few : length p.0 ≤ n

several_step : {A : Type 0} (text : ℕ → A → List ℕ → List ℕ) (Fits : ℕ → A → Type 0) (at : ℕ → Reader A)
    → ((i : ℕ) (bytes : List ℕ) (x : A) (rest : List ℕ) → at i bytes ≡ Some (x, rest) → (bytes ≡ text i x rest)
    × Fits i x)
    → (i n : ℕ) (bytes : List ℕ) (o : Option (A × List ℕ)) → at i bytes ≡ o → ((rest : List ℕ) → IsSeveral text Fits (i + 1) n rest (several at (i + 1) n rest))
    → IsSeveral text Fits i (suc n) bytes (more_of o bytes (λ r. several at (i + 1) n r))
several_step text Fits at takes i n bytes None e so = record { spelled = refl; fit = tt; few = omega arith }
several_step text Fits at takes i n bytes (Some x) e so =
    let t = takes i bytes x.0 x.1 e in
    let u = so x.1 in
    record { spelled = t.0 ∙ ap (text i x.0) u.spelled; fit = (t.1, u.fit); few = omega (arith, u.few) }

pub several_takes : {A : Type 0} (text : ℕ → A → List ℕ → List ℕ) (Fits : ℕ → A → Type 0) (at : ℕ → Reader A)
    → ((i : ℕ) (bytes : List ℕ) (x : A) (rest : List ℕ) → at i bytes ≡ Some (x, rest) → (bytes ≡ text i x rest)
    × Fits i x)
    → (i n : ℕ) (bytes : List ℕ) → IsSeveral text Fits i n bytes (several at i n bytes)
unfolding several
several_takes text Fits at takes i zero bytes = record { spelled = refl; fit = tt; few = omega arith }
several_takes text Fits at takes i (suc n) bytes =
    several_step text Fits at takes i n bytes (at i bytes) refl
    (λ rest. several_takes text Fits at takes (i + 1) n rest)

texts_guarded : {A : Type 0} (Guard : List ℕ → Type 0) (text : ℕ → A → List ℕ → List ℕ)
    → ((i : ℕ) (x : A) (rest : List ℕ) → Guard (text i x rest)) → (i : ℕ) (xs : List A) (rest : List ℕ) → Guard rest
    → Guard (texts text i xs rest)
texts_guarded Guard text guarded i [] rest guard = guard
texts_guarded Guard text guarded i (x ∷ xs) rest guard = guarded i x (texts text (i + 1) xs rest)

-- Guard is what the bytes behind an item have to be, and what the texts of items are
pub several_again : {A : Type 0} (Guard : List ℕ → Type 0) (text : ℕ → A → List ℕ → List ℕ) (Fits : ℕ → A → Type 0) (at : ℕ → Reader A)
    → ((i : ℕ) (x : A) (rest : List ℕ) → Guard rest → Fits i x → at i (text i x rest) ≡ Some (x, rest))
    → ((i : ℕ) (x : A) (rest : List ℕ) → Guard (text i x rest))
    → (i n : ℕ) (xs : List A) (rest : List ℕ) → Guard rest → AllFit Fits i xs → length xs ≤ n
    → ((k : ℕ) → at k rest ≡ None) → several at i n (texts text i xs rest) ≡ (xs, rest)
several_again Guard text Fits at again guarded i n [] rest guard fit le stop = several_stop at i n rest (stop i)
several_again Guard text Fits at again guarded i zero (x ∷ xs) rest guard fit le stop = absurd (omega arith)
several_again {A} Guard text Fits at again guarded i (suc n) (x ∷ xs) rest guard fit le stop =
    let others = texts text (i + 1) xs rest in
    let a = again i x others (texts_guarded Guard text guarded (i + 1) xs rest guard) fit.0 in
    let b = several_again Guard text Fits at again guarded (i + 1) n xs rest guard fit.1 (omega arith) stop in
    several_next at i n (text i x others) x others a ∙ ap (λ (z : List A × List ℕ). (x ∷ z.0, z.1)) b

texts_length : {A : Type 0} (text : ℕ → A → List ℕ → List ℕ)
    → ((i : ℕ) (x : A) (rest : List ℕ) → 1 + length rest ≤ length (text i x rest))
    → (i : ℕ) (xs : List A) (rest : List ℕ) → length xs + length rest ≤ length (texts text i xs rest)
texts_length text longer i [] rest = omega arith
texts_length text longer i (x ∷ xs) rest = omega (arith, longer i x (texts text (i + 1) xs rest), texts_length text longer (i + 1) xs rest)

-- a list up to a word that no item begins
pub listed_law : {A : Type 0} (Guard : List ℕ → Type 0) (text : ℕ → A → List ℕ → List ℕ) (Fits : ℕ → A → Type 0) (at : ℕ → Reader A) (word : List ℕ)
    → ((i : ℕ) (bytes : List ℕ) (x : A) (rest : List ℕ) → at i bytes ≡ Some (x, rest) → (bytes ≡ text i x rest) × Fits i x)
    → ((i : ℕ) (x : A) (rest : List ℕ) → Guard rest → Fits i x → at i (text i x rest) ≡ Some (x, rest))
    → ((i : ℕ) (x : A) (rest : List ℕ) → Guard (text i x rest))
    → ((i : ℕ) (x : A) (rest : List ℕ) → 1 + length rest ≤ length (text i x rest))
    → ((rest : List ℕ) → Guard (word ++ rest))
    → ((k : ℕ) (rest : List ℕ) → at k (word ++ rest) ≡ None)
    → Law (λ xs rest. texts text 0 xs (word ++ rest)) (AllFit Fits 0) (listed at word)
listed_law {A} Guard text Fits at word takes again guarded longer ends stops = record {
  takes = λ bytes xs rest e.
      let n = length bytes in
      let p = bind_some (after word (several at 0 n bytes).1) (λ r. Some ((several at 0 n bytes).0, r)) (xs, rest) e in
      let t = several_takes text Fits at takes 0 n bytes in
      let a = after_takes word (several at 0 n bytes).1 p.0 p.1 in
      move (λ (ys : List A) (r : List ℕ). (bytes ≡ texts text 0 ys (word ++ r)) × AllFit Fits 0 ys)
      (several at 0 n bytes).0 xs p.0 rest p.2 (t.spelled ∙ ap (texts text 0 (several at 0 n bytes).0) a, t.fit);
  again = λ xs rest fit.
      let bytes = texts text 0 xs (word ++ rest) in
      let enough : length xs ≤ length bytes = omega (arith, texts_length text longer 0 xs (word ++ rest)) in
      let s = several_again Guard text Fits at again guarded 0 (length bytes) xs (word ++ rest) (ends rest) fit enough (λ k. stops k rest) in
      ap (λ (z : List A × List ℕ). after word z.1 >>= λ r. Some (z.0, r)) s ∙ rw (after_again word rest) refl;
}
