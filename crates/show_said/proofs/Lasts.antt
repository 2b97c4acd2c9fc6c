-- The last one of some, one item after the other.
use Rattle.std.proofs.Common.{◌≡◌, ◌∙◌, ℕ, ◌+◌, ◌<◌, Bool, true, false, List, [], ◌∷◌, ◌++◌, Option, Some, cond, length, take, get_or, refl}
use Rattle.std.proofs.Common.{sym, ap, subst, is_some}
use Rattle.std.proofs.lemmas.List.{append-nil}
use Rattle.std.proofs.lemmas.List.Elements.{filter_more}
use Rattle.std.specs.List.{filter}
use Rattle.types.specs.declared.event.Entry.{Entry}
use Rattle.show_said.specs.Said.{put_by}
use Rattle.show_said.specs.Last.{last_of, puts_last, is_deed, ends_saying, is_by, last_line}
use Rattle.show_said.specs.declared.said.Said.{Said}

module _ {A : Type 0} where
  last_added : (xs : List A) (x : A) → last_of (xs ++ x ∷ []) ≡ Some x
  last_added [] x = refl
  last_added (y ∷ []) x = refl
  last_added (y ∷ z ∷ xs) x = last_added (z ∷ xs) x

  last_either : (xs : List A) (x : A) (b : Bool) → last_of (xs ++ cond b (x ∷ []) []) ≡ cond b (Some x) (last_of xs)
  last_either xs x true = last_added xs x
  last_either xs x false = ap (λ (l : List A). last_of l) (append-nil xs)

  pub last_more : (test : A → Bool) (xs : List A) (i : ℕ) (d : A) → i < length xs
      → last_of (filter test (take (i + 1) xs)) ≡ cond (test (get_or xs i d)) (Some (get_or xs i d)) (last_of (filter test (take i xs)))
  last_more test xs i d less =
      ap (λ (l : List A). last_of l) (filter_more test xs i d less)
      ∙ last_either (filter test (take i xs)) (get_or xs i d) (test (get_or xs i d))

either : (ports : List ℕ) (e : Entry) (last : Option Entry) (b : Bool)
    → cond b (is_some (put_by ports e)) (puts_last ports last) ≡ puts_last ports (cond b (Some e) last)
either ports e last true = refl
either ports e last false = refl

pub deed_more : (ports : List ℕ) (log : List Entry) (thread i : ℕ) (d : Entry) → i < length log → (says next : Bool)
    → says ≡ ends_saying ports (take i log) thread
    → next ≡ cond (is_deed thread (get_or log i d)) (is_some (put_by ports (get_or log i d))) says
    → next ≡ ends_saying ports (take (i + 1) log) thread
deed_more ports log thread i d less says next before is =
    let e = get_or log i d in
    is ∙ ap (λ (b : Bool). cond (is_deed thread e) (is_some (put_by ports e)) b) before
    ∙ either ports e (last_of (filter (is_deed thread) (take i log))) (is_deed thread e)
    ∙ ap (λ (last : Option Entry). puts_last ports last) (sym (last_more (is_deed thread) log i d less))

pub line_more : (all : List Said) (thread i : ℕ) (x : Said) → x ≡ get_or all i x → i < length all → (last next : Option Said)
    → last ≡ last_line (take i all) thread → next ≡ cond (is_by thread x) (Some x) last
    → next ≡ last_line (take (i + 1) all) thread
line_more all thread i x at less last next before is =
    let behind = last_line (take i all) thread in
    is ∙ ap (λ (l : Option Said). cond (is_by thread x) (Some x) l) before
    ∙ subst (λ (y : Said). cond (is_by thread y) (Some y) behind ≡ last_line (take (i + 1) all) thread) (sym at)
    (sym (last_more (is_by thread) all i x less))
