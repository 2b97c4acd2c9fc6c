-- The first section of a kind.
use Rattle.std.proofs.Common.{◌≡◌, ◌∙◌, ℕ, ◌+◌, ◌-◌, ◌/◌, ◌<◌, List, [], ◌∷◌, ◌++◌, length, take, drop, Result, Ok, Err, refl, sym, ap, subst}
use Rattle.std.proofs.Common.{inl, inr, append_assoc, arith}
use Rattle.std.proofs.Math.Seq.{take-length}
use Rattle.std.proofs.lemmas.List.{length-append, drop_at}
use Rattle.binary_wire.specs.declared.bounds.Bounds.{Bounds}
use Rattle.binary_wire.specs.declared.fault.Refusal.{Refusal}
use Rattle.binary_wire.specs.Faults.{input, missing, offset_of}
use Rattle.binary_wire.specs.Reading.{block_at}
use Rattle.binary_wire.specs.Grammar.{IsUnsigned, IsBlock}
use Rattle.binary_wire.proofs.Laws.{bind_case, good_pair, block_takes, block_within}
use Rattle.show_places.specs.Sections.{Part, section_at, Behind, HasFirst, HasNone, IsNamed, IsUnnamed, IsCustom, HasCustom}

pub further : (P : Part → Type 0) (s : Bounds) (xs : List Part) (a b c : List ℕ) (x : Part)
    → Behind P s xs a b → (P x → ⊥) → section_at s b ≡ Ok (x, c) → Behind P s (xs ++ x ∷ []) a c
further P s [] a b c x h n e = (n, c, subst (λ v. section_at s v ≡ Ok (x, c)) h e, refl)
further P s (y ∷ ys) a b c x h n e = (h.0, h.1, h.2, further P s ys h.1 b c x h.3 n e)

-- No section so far was such a one.
abbrev pub Passed : (Part → Type 0) → Bounds → List ℕ → List ℕ → Type 0
Passed P s bytes left = (xs : List Part) × Behind P s xs bytes left

pub passed_on : (P : Part → Type 0) (s t : Bounds) (bytes left next : List ℕ) (x : Part)
    → t ≡ s → Passed P s bytes left → section_at t left ≡ Ok (x, next) → (P x → ⊥) → Passed P s bytes next
passed_on P s t bytes left next x e h stands n =
    (h.0 ++ x ∷ [], further P s h.0 bytes left next x h.1 n (subst (λ (b : Bounds). section_at b left ≡ Ok (x, next)) e stands))

pub found : (P : Part → Type 0) (s t : Bounds) (bytes left next : List ℕ) (x : Part)
    → t ≡ s → Passed P s bytes left → section_at t left ≡ Ok (x, next) → P x → HasFirst P s bytes x
found P s t bytes left next x e h stands is = record {
  before = h.0;
  left = left;
  rest = next;
  behind = h.1;
  stands = subst (λ (b : Bounds). section_at b left ≡ Ok (x, next)) e stands;
  is = is;
}

abbrev Read : Type 0
Read = Result (Part × List ℕ) Refusal

same_read : (r : Read) (x y : Part) (a b : List ℕ) → r ≡ Ok (x, a) → r ≡ Ok (y, b) → (x ≡ y) × (a ≡ b)
same_read r x y a b e f = let p = good_pair x y a b (sym e ∙ f) in (sym p.0, sym p.1)

not_both : (r : Read) (x : Part × List ℕ) (e : Refusal) → r ≡ Ok x → r ≡ Err e → ⊥
not_both r x e g h = absurd (let n : Ok x ≡ Err e = sym g ∙ h in cc)

-- Where no section is left, none was such a one.
ended : (P : Part → Type 0) (s : Bounds) (xs ys : List Part) (bytes left other rest : List ℕ) (e : Refusal) (x : Part) →
    Behind P s xs bytes left → section_at s left ≡ Err e → Behind P s ys bytes other → section_at s other ≡ Ok (x, rest) → P x → ⊥
ended P s [] [] bytes left other rest e x h n k f p =
    not_both (section_at s bytes) (x, rest) e (subst (λ v. section_at s v ≡ Ok (x, rest)) k f) (subst (λ v. section_at s v ≡ Err e) h n)
ended P s [] (y ∷ ys) bytes left other rest e x h n k f p = not_both (section_at s bytes) (y, k.1) e k.2 (subst (λ v. section_at s v ≡ Err e) h n)
ended P s (z ∷ xs) [] bytes left other rest e x h n k f p =
    let same = same_read (section_at s bytes) x z rest h.1 (subst (λ v. section_at s v ≡ Ok (x, rest)) k f) h.2 in h.0 (subst P same.0 p)
ended P s (z ∷ xs) (y ∷ ys) bytes left other rest e x h n k f p =
    let same = same_read (section_at s bytes) y z k.1 h.1 k.2 h.2 in
    ended P s xs ys h.1 left other rest e x h.3 n (subst (λ v. Behind P s ys v other) same.1 k.3) f p

pub none_left : (P : Part → Type 0) (s t : Bounds) (bytes left : List ℕ) (e : Refusal)
    → t ≡ s → Passed P s bytes left → section_at t left ≡ Err e → HasNone P s bytes
none_left P s t bytes left e same h n x f =
    ended P s h.0 f.before bytes left f.left f.rest e x h.1 (subst (λ (b : Bounds). section_at b left ≡ Err e) same n) f.behind f.stands f.is

-- Without bytes there is no section.
pub nothing : (P : Part → Type 0) (s : Bounds) → HasNone P s []
unfolding section_at
nothing P s = none_left P s s [] [] (missing s) refl ([], refl) refl

-- There is one first section.
only : (P : Part → Type 0) (s : Bounds) (xs ys : List Part) (bytes left other rest after : List ℕ) (x y : Part) →
    Behind P s xs bytes left → section_at s left ≡ Ok (x, rest) → P x →
    Behind P s ys bytes other → section_at s other ≡ Ok (y, after) → P y → x ≡ y
only P s [] [] bytes left other rest after x y h f p k g q =
    (same_read (section_at s bytes) x y rest after (subst (λ v. section_at s v ≡ Ok (x, rest)) h f) (subst (λ v. section_at s v ≡ Ok (y, after)) k g)).0
only P s [] (z ∷ ys) bytes left other rest after x y h f p k g q =
    let same = same_read (section_at s bytes) x z rest k.1 (subst (λ v. section_at s v ≡ Ok (x, rest)) h f) k.2 in absurd (k.0 (subst P same.0 p))
only P s (z ∷ xs) [] bytes left other rest after x y h f p k g q =
    let same = same_read (section_at s bytes) y z after h.1 (subst (λ v. section_at s v ≡ Ok (y, after)) k g) h.2 in absurd (h.0 (subst P same.0 q))
only P s (z ∷ xs) (w ∷ ys) bytes left other rest after x y h f p k g q =
    let same = same_read (section_at s bytes) w z k.1 h.1 k.2 h.2 in
    only P s xs ys h.1 left other rest after x y h.3 f p (subst (λ v. Behind P s ys v other) same.1 k.3) g q

pub one_first : (P : Part → Type 0) (s : Bounds) (bytes : List ℕ) (x y : Part) → HasFirst P s bytes x → HasFirst P s bytes y → x ≡ y
one_first P s bytes x y a b = only P s a.before b.before bytes a.left b.left a.rest b.rest x y a.behind a.stands a.is b.behind b.stands b.is

pub one_custom : (bytes name a b : List ℕ) → HasCustom bytes name a → HasCustom bytes name b → a ≡ b
one_custom bytes name a b h k =
    let x = one_first (IsCustom name) (input bytes) (drop 8 bytes) h.0 k.0 h.1 k.1 in
    let there : IsNamed (k.0).2 name a = subst (λ (p : Part). IsNamed p.2 name a) x h.2 in
    (good_pair name name b a (sym k.2 ∙ there)).1

-- A section has a byte at least.
pub shorter : (s : Bounds) (bytes rest : List ℕ) (x : Part) → section_at s bytes ≡ Ok (x, rest) → length rest < length bytes
unfolding section_at
shorter s [] rest x e = absurd cc
shorter s (b ∷ bytes) rest x e =
    bind_case (block_at s bytes) (λ contents. Ok ((b, offset_of s contents.1 - length contents.0, contents.0), contents.1)) (x, rest) e (λ contents mid e1 e2.
    let p = good_pair (b, offset_of s mid - length contents, contents) x mid rest e2 in
    let le = block_within bytes contents mid (block_takes s bytes contents mid (sym e1)) in
    rw p.1 (omega (arith, le)))

-- A section that isn't of this name.

pub unnamed : (name : List ℕ) (x : Part) → IsUnnamed x.2 → IsCustom name x → ⊥
unnamed name x n h = n name h.1 h.2

pub other_name : (name other contents : List ℕ) (x : Part) → IsNamed x.2 other contents → (other ≡ name → ⊥) → IsCustom name x → ⊥
other_name name other contents x e n h = n (let p = good_pair other name contents h.1 (sym e ∙ h.2) in sym p.0)

-- What is behind a name is the rest of the bytes.

number_front : (top : ℕ) (bytes : List ℕ) (n : ℕ) (rest : List ℕ) → IsUnsigned top bytes n rest → (front : List ℕ) × (bytes ≡ front ++ rest)
number_front top [] n rest h = absurd h
number_front top (b ∷ bytes) n rest (inl h) = (b ∷ [], ap (λ v. b ∷ v) (sym h.3))
number_front top (b ∷ bytes) n rest (inr h) =
    let f = number_front (top / 128) bytes h.2.0 rest h.2.1 in (b ∷ f.0, ap (λ v. b ∷ v) f.1)

block_front : (bytes block rest : List ℕ) → IsBlock bytes block rest → (front : List ℕ) × (bytes ≡ front ++ rest)
block_front bytes block rest h =
    let f = number_front 0xffff_ffff bytes (length block) h.0 h.1 in
    (f.0 ++ block, f.1 ∙ ap (λ v. f.0 ++ v) h.2 ∙ sym (append_assoc f.0 block rest))

pub behind_name : (bytes name rest : List ℕ) (n : ℕ) → IsNamed bytes name rest → n ≡ length bytes - length rest →
    take (length bytes - n) (drop n bytes) ≡ rest
behind_name bytes name rest n e at =
    let f = block_front bytes name rest (block_takes (input bytes) bytes name rest e) in
    let all : length bytes ≡ length f.0 + length rest = ap (λ (v : List ℕ). length v) f.1 ∙ length-append f.0 rest in
    let long : n ≡ length f.0 = omega (arith, all, at) in
    let left : length bytes - n ≡ length rest = omega (arith, all, long) in
    let there : drop n bytes ≡ rest = rw long (subst (λ (v : List ℕ). drop (length f.0) v ≡ rest) (sym f.1) (drop_at f.0 rest (length f.0) refl)) in
    rw (there, left) (take-length rest)
