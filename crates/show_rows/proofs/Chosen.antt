-- Entries that are chosen, and rows of entries, one behind the other.
use Rattle.std.proofs.Common.{◌≡◌, ℕ, ◌+◌, ◌<◌, ◌≤◌, Bool, true, false, cond, List, [], ◌∷◌, ◌++◌, length, map, filter, take}
use Rattle.std.proofs.Common.{Option, Some, None, All, refl, sym, ap, subst, ◌∙◌, arith, get_or}
use Rattle.std.proofs.lemmas.List.{append-nil, map-append, take_all, take_more, length-take}
use Rattle.std.proofs.lemmas.List.Elements.{filter-append, All-push}
use Rattle.std.specs.List.{enumerate_from}
use Rattle.std.specs.Io.KnownBytes.{Appends, Keeps}
use Rattle.show_rows.specs.declared.listing.Shown.{Shown}
use Rattle.show_rows.specs.declared.listing.Story.{Story}
use Rattle.types.specs.declared.event.Entry.{Entry}
use Rattle.selection.specs.declared.choice.Look.{Look}
use Rattle.selection.specs.Choices.{is_chosen}
use Rattle.show_rows.specs.Listing.{line_at, is_shown, AddsEntry, AddsEntries}

-- The places from one on of the items that pass.
abbrev pub picked : {X : Type 0} → (ℕ × X → Bool) → ℕ → List X → List ℕ
picked p n xs = map (λ x. x.0) (filter p (enumerate_from n xs))

keeps_then : (a b c : Option (List ℕ)) (x : List ℕ) → Keeps a b → Appends b c x → Appends a c x
keeps_then None b c x p q = tt
keeps_then (Some a) None c x p q = absurd p
keeps_then (Some a) (Some b) None x p q = absurd q
keeps_then (Some a) (Some b) (Some c) x p q = q ∙ ap (λ (z : List ℕ). z ++ x) p

pub appends_keeps : (a b c : Option (List ℕ)) (x : List ℕ) → Appends a b x → Keeps b c → Appends a c x
appends_keeps None b c x p q = tt
appends_keeps (Some a) None c x p q = absurd p
appends_keeps (Some a) (Some b) None x p q = absurd q
appends_keeps (Some a) (Some b) (Some c) x p q = q ∙ p

keeps_keeps : (a b c : Option (List ℕ)) → Keeps a b → Keeps b c → Keeps a c
keeps_keeps None b c p q = tt
keeps_keeps (Some a) None c p q = absurd p
keeps_keeps (Some a) (Some b) None p q = absurd q
keeps_keeps (Some a) (Some b) (Some c) p q = q ∙ p

pub keeps_same : (a : Option (List ℕ)) → Keeps a a
keeps_same None = tt
keeps_same (Some a) = refl

entry_behind : (shown : Shown) (story : Story) (at : ℕ) (a b c : Option (List ℕ)) → Keeps a b
    → AddsEntry shown story at b c → AddsEntry shown story at a c
entry_behind shown story at a b c k (colored, row, says, wrote) =
    (colored, row, says, (wrote.0, keeps_then a b c _ k wrote.1))

pub one_more : (shown : Shown) (story : Story) (ats : List ℕ) (at : ℕ) (a b c : Option (List ℕ))
    → AddsEntries shown story ats a b → AddsEntry shown story at b c → AddsEntries shown story (ats ++ at ∷ []) a c
one_more shown story [] at a b c k entry = (c, entry_behind shown story at a b c k entry, keeps_same c)
one_more shown story (x ∷ ats) at a b c (middle, first, rest) entry =
    (middle, first, one_more shown story ats at middle b c rest entry)

pub flushed : (shown : Shown) (story : Story) (ats : List ℕ) (a b c : Option (List ℕ))
    → AddsEntries shown story ats a b → Keeps b c → AddsEntries shown story ats a c
flushed shown story [] a b c p k = keeps_keeps a b c p k
flushed shown story (x ∷ ats) a b c (middle, first, rest) k = (middle, first, flushed shown story ats middle b c rest k)

enumerate_more : {X : Type 0} (n : ℕ) (xs : List X) (x : X)
    → enumerate_from n (xs ++ x ∷ []) ≡ enumerate_from n xs ++ (n + length xs, x) ∷ []
enumerate_more {X} n [] x =
    let pair : ℕ → List (ℕ × X) = λ k. (k, x) ∷ [] in
    let same : n ≡ n + 0 = omega arith in
    ap pair same
enumerate_more {X} n (y ∷ ys) x =
    let same : n + 1 + length ys ≡ n + length (y ∷ ys) = omega arith in
    ap (λ (zs : List (ℕ × X)). (n, y) ∷ zs) (enumerate_more (n + 1) ys x
    ∙ ap (λ (k : ℕ). enumerate_from (n + 1) ys ++ (k, x) ∷ []) same)

picked_more : {X : Type 0} (p : ℕ × X → Bool) (xs : List X) (k : ℕ) (x : X) → length xs ≡ k
    → picked p 0 (xs ++ x ∷ []) ≡ picked p 0 xs ++ map (λ z. z.0) (filter p ((k, x) ∷ []))
picked_more {X} p xs k x e =
    let same : 0 + length xs ≡ k = omega (arith, e) in
    ap (λ (zs : List (ℕ × X)). map (λ z. z.0) (filter p zs)) (enumerate_more 0 xs x
    ∙ ap (λ (n : ℕ). enumerate_from 0 xs ++ (n, x) ∷ []) same)
    ∙ ap (map (λ (z : ℕ × X). z.0)) (filter-append p (enumerate_from 0 xs) ((k, x) ∷ []))
    ∙ map-append (λ (z : ℕ × X). z.0) (filter p (enumerate_from 0 xs)) (filter p ((k, x) ∷ []))

picked_next : {X : Type 0} (p : ℕ × X → Bool) (log : List X) (at : ℕ) (d : X) → at < length log
    → picked p 0 (take (at + 1) log) ≡ picked p 0 (take at log) ++ map (λ z. z.0) (filter p ((at, get_or log at d) ∷ []))
picked_next p log at d lt =
    let long : length (take at log) ≡ at = omega (arith, length-take at log) in
    ap (picked p 0) (take_more log at d lt) ∙ picked_more p (take at log) at (get_or log at d) long

place_if : {X : Type 0} (b : Bool) (at : ℕ) (x : X) → map (λ (z : ℕ × X). z.0) (cond b ((at, x) ∷ []) []) ≡ cond b (at ∷ []) []
place_if true at x = refl
place_if false at x = refl

-- An entry that is chosen goes behind those before it, and no other entry does.
picked_step : {X : Type 0} (p : ℕ × X → Bool) (log : List X) (at : ℕ) (d : X) (xs : List ℕ) (b : Bool) → at < length log
    → b ≡ p (at, get_or log at d) → xs ≡ picked p 0 (take at log) → xs ++ cond b (at ∷ []) [] ≡ picked p 0 (take (at + 1) log)
picked_step p log at d xs b lt test is = ap (λ (z : List ℕ). z ++ cond b (at ∷ []) []) is
    ∙ ap (λ (c : Bool). picked p 0 (take at log) ++ cond c (at ∷ []) []) test
    ∙ sym (picked_next p log at d lt ∙ ap (λ (ys : List ℕ). picked p 0 (take at log) ++ ys) (place_if (p (at, get_or log at d)) at (get_or log at d)))

pub All_if : (P : ℕ → Type 0) (xs : List ℕ) (b : Bool) (at : ℕ) → All P xs → P at → All P (xs ++ cond b (at ∷ []) [])
All_if P xs true at all here = All-push P xs at all here
All_if P xs false at all here = subst (λ (ys : List ℕ). All P ys) (sym (append-nil xs)) all

pub entries_next : (shown : Shown) (story : Story) (ats : List ℕ) (k z at : ℕ) → k < length ats → at ≡ get_or ats k z
    → (a b c : Option (List ℕ)) → AddsEntries shown story (take k ats) a b → AddsEntry shown story at b c
    → AddsEntries shown story (take (k + 1) ats) a c
entries_next shown story ats k z at lt is a b c before entry =
    let e : take (k + 1) ats ≡ take k ats ++ at ∷ [] =
    take_more ats k z lt ∙ ap (λ (y : ℕ). take k ats ++ y ∷ []) (sym is) in
    subst (λ (xs : List ℕ). AddsEntries shown story xs a c) (sym e) (one_more shown story (take k ats) at a b c before entry)

-- All entries that are chosen, where all were gone through.
pub picked_all : {X : Type 0} (p : ℕ × X → Bool) (log whole : List X) (at : ℕ) (xs : List ℕ) → length log ≤ at → log ≡ whole
    → xs ≡ picked p 0 (take at log) → xs ≡ picked p 0 whole
picked_all p log whole at xs le same is = is ∙ ap (picked p 0) (take_all at log le ∙ same)

pub shown_step : (shown : Shown) (look : Look) (log : List Entry) (at : ℕ) (d : Entry) (xs : List ℕ) (b : Bool) (line : ℕ)
    → at < length log → b ≡ is_chosen look.choice line (get_or log at d) → line ≡ line_at shown at
    → xs ≡ picked (is_shown shown look) 0 (take at log)
    → xs ++ cond b (at ∷ []) [] ≡ picked (is_shown shown look) 0 (take (at + 1) log)
shown_step shown look log at d xs b line lt test is so_far = picked_step (is_shown shown look) log at d xs b lt
    (test ∙ ap (λ (n : ℕ). is_chosen look.choice n (get_or log at d)) is) so_far
