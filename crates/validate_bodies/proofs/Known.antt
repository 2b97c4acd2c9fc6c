-- The types of the operands at a place, from the open blocks there.
use Rattle.std.proofs.Common.{◌≡◌, inr, ℕ, zero, suc, ◌+◌, ◌<◌, ◌≤◌, List, [], ◌∷◌, ◌++◌, length, map, take, reverse, get_or, slice_get}
use Rattle.std.proofs.Common.{Option, Some, None, Bool, true, false, refl, sym, ◌∙◌, ap, subst, arith, append-nil, add-one, ⊎_elim}
use Rattle.std.proofs.Common.{Result, Ok, Err, IfOk}
use Rattle.std.specs.Option.{MatchOption}
use Rattle.std.specs.List.{flat_map, Contains}
use Rattle.std.proofs.lemmas.List.{append_cancel_left, reverse-append, reverse-reverse, take-take, take_more, map-append}
use Rattle.std.proofs.lemmas.List.Concat.{flat_map-append}
use Rattle.std.proofs.lemmas.List.Elements.{Contains-append_cases}
use Rattle.types.specs.declared.value.ValType.{ValType}
use Rattle.types.specs.declared.value.ValType.TheVariants.{I32, I64}
use Rattle.types.specs.declared.instr.Instr.{Instr}
use Rattle.types.specs.Nesting.{Code, Empty, IsExpression}
use Rattle.validate_typing.specs.declared.fault.Fault.{Fault}
use Rattle.validate_typing.specs.Context.{Context}
use Rattle.validate_instructions.specs.declared.block.Flow.{Flow}
use Rattle.validate_instructions.specs.declared.block.Flow.TheVariants.{Live, Idle, Free}
use Rattle.validate_instructions.specs.declared.block.OpenBlock.{OpenBlock}
use Rattle.validate_bodies.specs.declared.ends.BlockEnd.{BlockEnd}
use Rattle.validate_instructions.specs.declared.problem.Problem.TheVariants.{Wrong}
use Rattle.validate_instructions.specs.Blocks.{MayHave, Known}
use Rattle.validate_bodies.specs.Passes.{Starts}
use Rattle.validate_bodies.specs.Ends.{Close}
use Rattle.validate_bodies.specs.Onward.{Stuck}
use Rattle.validate_bodies.specs.Reached.{Done, InBody, InBlock, carried, condition, labels_in, Leaves, goes_through, is_reached, Reached}
use Rattle.validate_bodies.specs.Reached.{BeginsNone, Unreached}
use Rattle.validate_bodies.specs.Forth.{Fills, Stands, AreDone, Comes, Forth, goes_on_in}
use Rattle.validate_bodies.proofs.Forth.{stands_live}
use Rattle.validate_bodies.proofs.Begun.{fill, filled_known}
use Rattle.validate_bodies.proofs.Unique.{reached_before, same_types}
use Rattle.validate_bodies.proofs.Endings.{some_open}
use Rattle.validate_bodies.proofs.Whole.{CheckedOn, none_begins}

-- The pass up to a place.

starts_bare : (c : Context) (size : ℕ) (own : OpenBlock) (ts : List ValType) → Starts c size own → Known own ts → ts ≡ []
starts_bare c size own ts s h = rw (s.flow, s.operands) at h

pub comes_first : (c : Context) (code : List Instr) (size : ℕ) (own : OpenBlock) → Starts c size own → Comes c (take 0 code) (own ∷ [])
comes_first c code size own s = (
  InBody Empty,
  refl,
  (refl, s.carries, s.arm, record { typed = λ ts k. sym (starts_bare c size own ts s k); live = rw s.flow refl }),
)

take_next : (code : List Instr) (n : ℕ) (i : Instr) → slice_get code n ≡ Some i → take (suc n) code ≡ take n code ++ (i ∷ [])
take_next [] n i e = absurd cc
take_next (x ∷ code) zero i e = let h : x ≡ i = cc in ap (λ y. y ∷ []) h
take_next (x ∷ code) (suc n) i e = ap (λ (y : List Instr). x ∷ y) (take_next code n i e)

pub comes_next : (c : Context) (code : List Instr) (place : ℕ) (i : Instr) (old new : List OpenBlock) → slice_get code place ≡ Some i →
    Forth c i old new → Comes c (take place code) (reverse old) → Comes c (take (place + 1) code) (reverse new)
comes_next c code place i old new at f h =
    subst (λ (front : List Instr). Comes c front (reverse new)) (sym (ap (λ n. take n code) (add-one place) ∙ take_next code place i at))
    (f (take place code) h)

-- a block is open before the last end
pub comes_done : (c : Context) (code : List Instr) (place : ℕ) (blocks : List OpenBlock) (later : List BlockEnd) → IsExpression code → place < length code →
    CheckedOn c code blocks later place → Comes c (take place code) blocks → AreDone c (take place code) blocks
comes_done c code place [] later x l k h =
    let o = some_open code place x l in
    let n : Close [] (o.0 ∷ o.1) = rw o.2 at k.close in absurd n
comes_done c code place (block ∷ blocks) later x l k h = h

pub begins_none : (c : Context) (code : List Instr) (here place : ℕ) (i : Instr) (old : List OpenBlock) (later : List BlockEnd) (kind : Fault) →
    IsExpression code →
    CheckedOn c code (reverse old) later here → slice_get code here ≡ Some i → Stuck c i here (slice_get later 0) old (Wrong kind) → here < place →
    BeginsNone c code place
begins_none c code here place i old later kind x k at s l other t y =
    let b = none_begins c code old later here i kind x k at s in
    let le : here + 1 ≤ place = omega arith in
    b other (sym (take-take (here + 1) place other le) ∙ ap (take (here + 1)) t ∙ take-take (here + 1) place code le) y

-- Where all operands are known.

map_some : (ts : List ValType) (front back : List (Option ValType)) → map Some ts ≡ front ++ back →
    (xs ys : List ValType) × (ts ≡ xs ++ ys) × (map Some xs ≡ front) × (map Some ys ≡ back)
map_some ts [] back e = ([], ts, refl, refl, e)
map_some [] (k ∷ front) back e = absurd cc
map_some (t ∷ ts) (k ∷ front) back e =
    let h : Some t ≡ k = cc in
    let g : map Some ts ≡ front ++ back = cc in
    let r = map_some ts front back g in
    (t ∷ r.0, r.1, ap (λ (x : List ValType). t ∷ x) r.2, (let m = r.3 in cc), r.4)

reverse_first : {A : Type 0} (x : A) (xs : List A) → reverse (x ∷ xs) ≡ reverse xs ++ (x ∷ [])
reverse_first x xs = reverse-append (x ∷ []) xs

map_reverse : {A B : Type 0} (f : A → B) (xs : List A) → map f (reverse xs) ≡ reverse (map f xs)
map_reverse f [] = refl
map_reverse f (x ∷ xs) =
    ap (map f) (reverse_first x xs) ∙ map_last f (reverse xs) x ∙ ap (λ ys. ys ++ (f x ∷ [])) (map_reverse f xs) ∙ sym (reverse_first (f x) (map f xs))
  where
    map_last : {A B : Type 0} (f : A → B) (xs : List A) (x : A) → map f (xs ++ (x ∷ [])) ≡ map f xs ++ (f x ∷ [])
    map_last f [] x = refl
    map_last f (y ∷ xs) x = ap (λ ys. f y ∷ ys) (map_last f xs x)

all_have : (flow : Flow) (ts : List ValType) → MayHave flow (map Some ts) ts
all_have Live [] = refl
all_have Idle [] = refl
all_have Free [] = tt
all_have Live (t ∷ ts) = (refl, all_have Live ts)
all_have Idle (t ∷ ts) = (refl, all_have Idle ts)
all_have Free (t ∷ ts) = (refl, all_have Free ts)

all_known : (block : OpenBlock) (ts : List ValType) → map Some ts ≡ block.operands.items → Known block (reverse ts)
all_known block ts e =
    let same : map Some (reverse ts) ≡ reverse block.operands.items = map_reverse Some ts ∙ ap reverse e in
    subst (λ (ks : List (Option ValType)). MayHave block.flow ks (reverse ts)) same (all_have block.flow (reverse ts))

abbrev pub operands_of : List OpenBlock → List (Option ValType)
operands_of blocks = flat_map (λ (b : OpenBlock). b.operands.items) blocks

-- the operands of the innermost block lie above all others
operands_last : (block : OpenBlock) (blocks : List OpenBlock) → operands_of (reverse (block ∷ blocks)) ≡ operands_of (reverse blocks) ++ block.operands.items
operands_last block blocks =
    ap operands_of (reverse_first block blocks) ∙ flat_map-append (λ (b : OpenBlock). b.operands.items) (reverse blocks) (block ∷ [])
    ∙ ap (λ x. operands_of (reverse blocks) ++ x) (append-nil block.operands.items)

leaves_known : (c : Context) (taken : List ValType) (blocks : List OpenBlock) (d : Done) (ts : List ValType) → Stands c taken blocks d →
    map Some ts ≡ operands_of (reverse blocks) → Leaves c d taken (reverse ts)
leaves_known c taken [] d ts h e = absurd h
leaves_known c taken (block ∷ blocks) (InBody code) ts h e =
    let own : map Some ts ≡ block.operands.items = e ∙ operands_last block blocks ∙
    ap (λ (bs : List OpenBlock). operands_of (reverse bs) ++ block.operands.items) h.0 in
    h.3.typed (reverse ts) (all_known block ts own)
leaves_known c taken (block ∷ blocks) (InBlock around o code) ts h e =
    let s = map_some ts (operands_of (reverse blocks)) block.operands.items (e ∙ operands_last block blocks) in (
      reverse s.1,
      reverse s.0,
      ap reverse s.2 ∙ reverse-append s.0 s.1,
      leaves_known c (condition o) blocks around s.0 h.0 s.3,
      h.1.first,
      h.2.typed (reverse s.1) (all_known block s.1 s.4),
    )

live_reached : (c : Context) (blocks : List OpenBlock) (d : Done) → Stands c [] blocks d → goes_on_in blocks ≡ is_reached d
live_reached c [] d h = absurd h
live_reached c (block ∷ blocks) d h = stands_live c [] block blocks d h

pub known_reached : (c : Context) (code : List Instr) (place : ℕ) (blocks : List OpenBlock) (ts : List ValType) → place < length code →
    AreDone c (take place code) (reverse blocks) → goes_on_in (reverse blocks) ≡ true → map Some ts ≡ operands_of blocks → Reached c code place ts
known_reached c code place blocks ts l h g e = record {
  done = h.0;
  within = l;
  before = h.1;
  reached = sym (live_reached c (reverse blocks) h.0 h.2) ∙ g;
  leaves = leaves_known c [] (reverse blocks) h.0 ts h.2 (e ∙ ap operands_of (sym (reverse-reverse blocks)));
}

pub cut_off : (c : Context) (code : List Instr) (place : ℕ) (blocks : List OpenBlock) → AreDone c (take place code) (reverse blocks) →
    goes_on_in (reverse blocks) ≡ false → Unreached c code place
cut_off c code place blocks h g = inr (inr (record { done = h.0; before = h.1; unreached = sym (live_reached c (reverse blocks) h.0 h.2) ∙ g }))

-- Where one isn't known the place can't be reached: two types would do.

filled_differ : (ks : List (Option ValType)) (n : ℕ) → n < length ks → get_or ks n None ≡ None → map (fill I32) ks ≡ map (fill I64) ks → ⊥
unfolding fill
filled_differ [] n l e h = absurd (let k = l in omega arith)
filled_differ (None ∷ ks) zero l e h = let n : I32 ≡ I64 = cc in cc
filled_differ (Some k ∷ ks) zero l e h = cc
filled_differ (k ∷ ks) (suc n) l e h =
    let t : map (fill I32) ks ≡ map (fill I64) ks = cc in filled_differ ks n (omega arith) e t

unknown_here : (c : Context) (labels : List (List ValType)) (taken : List ValType) (code : Code) (live : Bool) (block : OpenBlock) →
    Fills c labels taken code live block → goes_through code live ≡ true → Contains block.operands.items None → ⊥
unknown_here c labels taken code live block f g u =
    let ks = reverse block.operands.items in
    let on : live ≡ true = reached_before code live g in
    let same = same_types c labels code [] (taken ++ map (fill I32) ks) (taken ++ map (fill I64) ks) (rw on at g)
    (f.typed (map (fill I32) ks) (filled_known block I32)) (f.typed (map (fill I64) ks) (filled_known block I64)) in
    let own = append_cancel_left taken (map (fill I32) ks) (map (fill I64) ks) same in
    filled_differ block.operands.items u.0 u.1 u.2 (back (map (fill I32) block.operands.items) (map (fill I64) block.operands.items)
    (sym (map_reverse (fill I32) block.operands.items) ∙ own ∙ map_reverse (fill I64) block.operands.items))
  where
    back : (xs ys : List ValType) → reverse xs ≡ reverse ys → xs ≡ ys
    back xs ys e = sym (reverse-reverse xs) ∙ ap reverse e ∙ reverse-reverse ys

unknown_nowhere : (c : Context) (taken : List ValType) (blocks : List OpenBlock) (d : Done) → Stands c taken blocks d → is_reached d ≡ true →
    Contains (operands_of (reverse blocks)) None → ⊥
unknown_nowhere c taken [] d h g u = absurd h
unknown_nowhere c taken (block ∷ blocks) (InBody code) h g u =
    let own = operands_last block blocks ∙ ap (λ (bs : List OpenBlock). operands_of (reverse bs) ++ block.operands.items) h.0 in
    unknown_here c (c.results ∷ []) taken code true block h.3 g (subst (λ (ks : List (Option ValType)). Contains ks None) own u)
unknown_nowhere c taken (block ∷ blocks) (InBlock around o code) h g u =
    let u' = subst (λ (ks : List (Option ValType)). Contains ks None) (operands_last block blocks) u in
    ⊎_elim (λ a. unknown_nowhere c (condition o) blocks around h.0 (reached_before code (is_reached around) g) a)
    (λ b. unknown_here c (carried o ∷ labels_in c around) taken code (is_reached around) block h.2 g b)
    (Contains-append_cases (operands_of (reverse blocks)) block.operands.items None u')

pub never_unknown : (c : Context) (code : List Instr) (place : ℕ) (blocks : List OpenBlock) → AreDone c (take place code) (reverse blocks) →
    goes_on_in (reverse blocks) ≡ true → Contains (operands_of blocks) None → ⊥
never_unknown c code place blocks h g u =
    unknown_nowhere c [] (reverse blocks) h.0 h.2 (sym (live_reached c (reverse blocks) h.0 h.2) ∙ g)
    (subst (λ (bs : List OpenBlock). Contains (operands_of bs) None) (sym (reverse-reverse blocks)) u)

pub types_known : {V E : Type 0} (c : Context) (code : List Instr) (place : ℕ) (blocks : List OpenBlock) (operands : List (Option ValType))
    (items : V → List ValType) (r : Result (Option V) E) → place < length code → AreDone c (take place code) (reverse blocks) →
    goes_on_in (reverse blocks) ≡ true →
    operands ≡ operands_of blocks → IfOk r (λ o. MatchOption o (Contains operands None) (λ v. map Some (items v) ≡ operands)) →
    IfOk r (λ o. MatchOption o (Unreached c code place) (λ v. Reached c code place (items v)))
types_known c code place blocks operands items (Ok (Some v)) l h g e k = known_reached c code place blocks (items v) l h g (k ∙ e)
types_known c code place blocks operands items (Ok None) l h g e k =
    absurd (never_unknown c code place blocks h g (subst (λ (ks : List (Option ValType)). Contains ks None) e k))
types_known c code place blocks operands items (Err x) l h g e k = tt

-- the operands of one block more
pub operands_more : (blocks : List OpenBlock) (i : ℕ) (b : OpenBlock) (before own after : List (Option ValType)) → i < length blocks → b ≡ get_or blocks i b →
    before ≡ flat_map (λ (b : OpenBlock). b.operands.items) (take i blocks) → own ≡ b.operands.items → after ≡ before ++ own →
    after ≡ flat_map (λ (b : OpenBlock). b.operands.items) (take (i + 1) blocks)
operands_more blocks i b before own after h e k o a =
    let f : OpenBlock → List (Option ValType) = λ x. x.operands.items in
    let split : take (i + 1) blocks ≡ take i blocks ++ (b ∷ []) = take_more blocks i b h ∙ ap (λ x. take i blocks ++ (x ∷ [])) (sym e) in
    let more : flat_map f (take (i + 1) blocks) ≡ flat_map f (take i blocks) ++ (b.operands.items ++ []) =
    ap (flat_map f) split ∙ flat_map-append f (take i blocks) (b ∷ []) in
    a ∙ rw (k, o) (sym (more ∙ ap (λ xs. flat_map f (take i blocks) ++ xs) (append-nil b.operands.items)))

-- one type more is known
pub known_more : (ks : List (Option ValType)) (i : ℕ) (d : Option ValType) (t : ValType) (old new : List ValType) → i < length ks → get_or ks i d ≡ Some t →
    map Some old ≡ take i ks → new ≡ old ++ (t ∷ []) → map Some new ≡ take (i + 1) ks
known_more ks i d t old new h e k a =
    ap (map Some) a ∙ map-append Some old (t ∷ []) ∙ ap (λ xs. xs ++ (Some t ∷ [])) k ∙ ap (λ o. take i ks ++ (o ∷ [])) (sym e) ∙ sym (take_more ks i d h)
