-- Words with those of dead locals cleared, and the values that they mean.
use Rattle.std.proofs.Common.{◌≡◌, ℕ, zero, suc, ◌+◌, ◌-◌, ◌<◌, ◌≤◌, nat_le, if◌then◌else◌, Bool, true, false, List, [], ◌∷◌, ◌++◌, length, map, take, drop, get_or, set, ◌⊎◌, ◌≢◌, inl, inr}
use Rattle.std.proofs.Common.{reverse, refl, sym, ◌∙◌, ap, subst, arith, append_assoc, length-append}
use Rattle.std.proofs.lemmas.List.{map-append, reverse-append, reverse-reverse, take-append-le, drop-append-le, length-take-le, length-drop}
use Rattle.std.proofs.lemmas.Bool.{cases_eq}
use Rattle.std.proofs.lemmas.Grind.{same_number_lists}
use Rattle.std.proofs.lemmas.List.{get_or-set_same, get_or-set_other, length-set}
use Rattle.std.proofs.Math.Seq.{take-append_seam, drop-append_seam, drop-append-add}
use Rattle.std.specs.List.{splice, fold, slice_get}
use Rattle.types.specs.declared.value.ValType.{ValType}
use Rattle.types.specs.declared.value.ValType.TheVariants as types
use Rattle.types.specs.declared.value.Value.{Value}
use Rattle.types.specs.Values.{type_of}
use Rattle.interp_machine.specs.Program.{zero_of}
use Rattle.interp_machine.specs.Config.{Frame}
use Rattle.interp_state.specs.declared.state.Caller.{Caller}
use Rattle.interp_state.specs.Stands.{belows, values_on}
use Rattle.interp_state.specs.Words.{word_of, IsWord, AreInRange}
use Rattle.live_locals.specs.Live.{IsLive, is_live_by, row_at}
use Rattle.live_locals.specs.Alike.{Agree}
use Rattle.live_kept.specs.Cleared.{cleared, has_locals, locals_of, cleared_at}

-- ---- One list

pub cleared_long : (row : List Bool) (ws : List ℕ) → length (cleared row ws) ≡ length ws
cleared_long row [] = refl
cleared_long [] (w ∷ ws) = refl
cleared_long (true ∷ row) (w ∷ ws) = ap suc (cleared_long row ws)
cleared_long (false ∷ row) (w ∷ ws) = ap suc (cleared_long row ws)

pub cleared_get : (row : List Bool) (ws : List ℕ) (k : ℕ) → get_or (cleared row ws) k 0 ≡ (if is_live_by row k then get_or ws k 0 else 0)
cleared_get [] [] k = refl
cleared_get [] (w ∷ ws) k = refl
cleared_get (true ∷ row) [] zero = refl
cleared_get (false ∷ row) [] zero = refl
cleared_get (b ∷ row) [] (suc k) = cleared_get row [] k
cleared_get (true ∷ row) (w ∷ ws) zero = refl
cleared_get (false ∷ row) (w ∷ ws) zero = refl
cleared_get (true ∷ row) (w ∷ ws) (suc k) = cleared_get row ws k
cleared_get (false ∷ row) (w ∷ ws) (suc k) = cleared_get row ws k

-- the words are cleared as far as the first ones go
pub record AreClearedBelow (n : ℕ) (row : List Bool) (old words : List ℕ) : Type 0 where
  pub long : length words ≡ length old
  pub before : (k : ℕ) → k < n → get_or words k 0 ≡ get_or (cleared row old) k 0
  pub behind : (k : ℕ) → n ≤ k → get_or words k 0 ≡ get_or old k 0

pub cleared_none : (row : List Bool) (old : List ℕ) → AreClearedBelow 0 row old old
cleared_none row old = record { long = refl; before = λ k l. absurd (omega arith); behind = λ k l. refl }

pub cleared_more : (n : ℕ) (row : List Bool) (old words : List ℕ) → n < length words → AreClearedBelow n row old words →
    AreClearedBelow (n + 1) row old (set words n (if is_live_by row n then get_or words n 0 else 0))
cleared_more n row old words less h = record {
  long = length-set words n (if is_live_by row n then get_or words n 0 else 0) ∙ h.long;
  before = λ k l. by k l (cases_eq k n);
  behind = λ k l. get_or-set_other words n k (if is_live_by row n then get_or words n 0 else 0) 0 (λ e. absurd (omega (arith, e, l))) ∙ h.behind k (omega arith);
}
  where
    at_it : get_or (set words n (if is_live_by row n then get_or words n 0 else 0)) n 0 ≡ get_or (cleared row old) n 0
    at_it =
        get_or-set_same words n (if is_live_by row n then get_or words n 0 else 0) 0 less
        ∙ ap (λ (v : ℕ). if is_live_by row n then v else 0) (h.behind n (omega arith)) ∙ sym (cleared_get row old n)

    by : (k : ℕ) → k < n + 1 → (k ≡ n) ⊎ (k ≡ n → ⊥) → get_or (set words n (if is_live_by row n then get_or words n 0 else 0)) k 0 ≡ get_or (cleared row old) k 0
    by k l (inl e) = subst (λ j. get_or (set words n (if is_live_by row n then get_or words n 0 else 0)) j 0 ≡ get_or (cleared row old) j 0) (sym e) at_it
    by k l (inr other) =
        get_or-set_other words n k (if is_live_by row n then get_or words n 0 else 0) 0 other ∙ h.before k (let d : k ≢ n = other in omega arith)

pub cleared_whole : (n : ℕ) (row : List Bool) (old words : List ℕ) → length old ≤ n → AreClearedBelow n row old words → words ≡ cleared row old
cleared_whole n row old words all h =
    let l = h.long in
    same_number_lists words (cleared row old) (l ∙ sym (cleared_long row old)) (λ k less. h.before k (omega arith))

-- the values that are meant
abbrev pub cleared_values : List Bool → List Value → List Value
cleared_values row [] = []
cleared_values [] (v ∷ vs) = v ∷ vs
cleared_values (true ∷ row) (v ∷ vs) = v ∷ cleared_values row vs
cleared_values (false ∷ row) (v ∷ vs) = zero_of (type_of v) ∷ cleared_values row vs

zero_word : (t : ValType) → word_of (zero_of t) ≡ 0
zero_word types.I32 = refl
zero_word types.I64 = refl

zero_type : (t : ValType) → type_of (zero_of t) ≡ t
zero_type types.I32 = refl
zero_type types.I64 = refl

zero_range : (t : ValType) → IsWord (type_of (zero_of t)) (word_of (zero_of t))
zero_range types.I32 = search arith
zero_range types.I64 = tt

pub values_cleared : (row : List Bool) (vs : List Value) → map word_of (cleared_values row vs) ≡ cleared row (map word_of vs)
values_cleared row [] = refl
values_cleared [] (v ∷ vs) = refl
values_cleared (true ∷ row) (v ∷ vs) = ap (λ (ws : List ℕ). word_of v ∷ ws) (values_cleared row vs)
values_cleared (false ∷ row) (v ∷ vs) = (let z = zero_word (type_of v) in let r = values_cleared row vs in λ i. z i ∷ r i)

pub types_cleared : (row : List Bool) (vs : List Value) → map type_of (cleared_values row vs) ≡ map type_of vs
types_cleared row [] = refl
types_cleared [] (v ∷ vs) = refl
types_cleared (true ∷ row) (v ∷ vs) = ap (λ (ts : List ValType). type_of v ∷ ts) (types_cleared row vs)
types_cleared (false ∷ row) (v ∷ vs) = (let z = zero_type (type_of v) in let r = types_cleared row vs in λ i. z i ∷ r i)

pub range_cleared : (row : List Bool) (vs : List Value) → AreInRange vs → AreInRange (cleared_values row vs)
range_cleared row [] h = tt
range_cleared [] (v ∷ vs) h = h
range_cleared (true ∷ row) (v ∷ vs) h = (h.0, range_cleared row vs h.1)
range_cleared (false ∷ row) (v ∷ vs) h = (zero_range (type_of v), range_cleared row vs h.1)

same_where_live : (row : List Bool) (vs : List Value) (k : ℕ) → IsLive row k → slice_get (cleared_values row vs) k ≡ slice_get vs k
same_where_live row [] k h = refl
same_where_live [] (v ∷ vs) k h = refl
same_where_live (true ∷ row) (v ∷ vs) zero h = refl
same_where_live (false ∷ row) (v ∷ vs) zero h = absurd cc
same_where_live (true ∷ row) (v ∷ vs) (suc k) h = same_where_live row vs k h
same_where_live (false ∷ row) (v ∷ vs) (suc k) h = same_where_live row vs k h

pub agree_cleared : (row : List Bool) (vs : List Value) → Agree row (cleared_values row vs) vs
agree_cleared row vs = record { types = types_cleared row vs; same = same_where_live row vs }

-- ---- The words of several functions

-- the words of a frame on top of others
abbrev pub tops_of : Frame → List Value
tops_of f = reverse (f.operands ++ belows f.labels)

pub layout : (f : Frame) (lower : List Value) → reverse (values_on f lower) ≡ reverse lower ++ (f.locals ++ tops_of f)
layout f lower =
    ap reverse (sym (append_assoc f.operands (belows f.labels) (reverse f.locals ++ lower)))
    ∙ reverse-append (f.operands ++ belows f.labels) (reverse f.locals ++ lower)
    ∙ ap (λ (vs : List Value). vs ++ tops_of f) (reverse-append (reverse f.locals) lower ∙ ap (λ (vs : List Value). reverse lower ++ vs) (reverse-reverse f.locals))
    ∙ append_assoc (reverse lower) f.locals (tops_of f)

pub words_laid : (f : Frame) (lower : List Value) →
    map word_of (reverse (values_on f lower)) ≡ map word_of (reverse lower) ++ (map word_of f.locals ++ map word_of (tops_of f))
words_laid f lower =
    ap (map word_of) (layout f lower) ∙ map-append word_of (reverse lower) (f.locals ++ tops_of f)
    ∙ ap (λ (ws : List ℕ). map word_of (reverse lower) ++ ws) (map-append word_of f.locals (tops_of f))

module _ (tables : List (List (List Bool))) where
  abbrev row_of : Caller → List Bool
  row_of k = row_at (row_at tables k.function) k.pc

  is_within : (words : List ℕ) (k : Caller) → k.base ≤ k.operands → k.operands ≤ length words → has_locals words k ≡ true
  is_within words k a b =
      let x : nat_le k.base k.operands ≡ true = search arith in
      let y : nat_le k.operands (length words) ≡ true = search arith in
      rw (x, y) refl

  pub cleared_in : (words : List ℕ) (k : Caller) → k.base ≤ k.operands → k.operands ≤ length words →
      cleared_at tables words k ≡ splice words k.base k.operands (cleared (row_of k) (locals_of words k))
  cleared_in words k a b = rw (is_within words k a b) refl

  -- the locals between what lies below and what lies above
  pub cleared_between : (L X T : List ℕ) (k : Caller) → k.base ≡ length L → k.operands ≡ length L + length X →
      cleared_at tables (L ++ (X ++ T)) k ≡ L ++ (cleared (row_of k) X ++ T)
  cleared_between L X T k b o =
      let l = length-append L (X ++ T) in
      let m = length-append X T in
      let lower : take k.base (L ++ (X ++ T)) ≡ L = ap (λ n. take n (L ++ (X ++ T))) b ∙ take-append_seam L (X ++ T) in
      let rest : drop k.base (L ++ (X ++ T)) ≡ X ++ T = ap (λ n. drop n (L ++ (X ++ T))) b ∙ drop-append_seam L (X ++ T) in
      let upper : drop k.operands (L ++ (X ++ T)) ≡ T =
      ap (λ n. drop n (L ++ (X ++ T))) o ∙ drop-append-add L (X ++ T) (length X) ∙ drop-append_seam X T in
      let many : k.operands - k.base ≡ length X = omega arith in
      let middle : locals_of (L ++ (X ++ T)) k ≡ X = ap (take (k.operands - k.base)) rest ∙ ap (λ n. take n (X ++ T)) many ∙ take-append_seam X T in
      cleared_in (L ++ (X ++ T)) k (omega arith) (omega arith) ∙ (λ i. lower i ++ (cleared (row_of k) (middle i) ++ upper i))

  -- what lies above stays
  pub cleared_below : (L R : List ℕ) (k : Caller) → k.base ≤ k.operands → k.operands ≤ length L → cleared_at tables (L ++ R) k ≡ cleared_at tables L k ++ R
  cleared_below L R k a b =
      let l = length-append L R in
      let n = length-drop k.base L in
      let lower : take k.base (L ++ R) ≡ take k.base L = take-append-le k.base L R (omega arith) in
      let rest : drop k.base (L ++ R) ≡ drop k.base L ++ R = drop-append-le k.base L R (omega arith) in
      let upper : drop k.operands (L ++ R) ≡ drop k.operands L ++ R = drop-append-le k.operands L R b in
      let middle : locals_of (L ++ R) k ≡ locals_of L k =
      ap (take (k.operands - k.base)) rest ∙ take-append-le (k.operands - k.base) (drop k.base L) R (omega arith) in
      cleared_in (L ++ R) k a (omega arith) ∙ (λ i. lower i ++ (cleared (row_of k) (middle i) ++ upper i))
      ∙ ap (λ (ws : List ℕ). take k.base L ++ ws) (sym (append_assoc (cleared (row_of k) (locals_of L k)) (drop k.operands L) R))
      ∙ sym (append_assoc (take k.base L) (cleared (row_of k) (locals_of L k) ++ drop k.operands L) R)
      ∙ ap (λ (ws : List ℕ). ws ++ R) (sym (cleared_in L k a b))

  pub cleared_at_long : (words : List ℕ) (k : Caller) → k.base ≤ k.operands → k.operands ≤ length words → length (cleared_at tables words k) ≡ length words
  cleared_at_long words k a b =
      let x = length-append (take k.base words) (cleared (row_of k) (locals_of words k) ++ drop k.operands words) in
      let y = length-append (cleared (row_of k) (locals_of words k)) (drop k.operands words) in
      let z = cleared_long (row_of k) (locals_of words k) in
      let t = length-take-le k.base words (omega arith) in
      let n = length-drop k.base words in
      let u = length-take-le (k.operands - k.base) (drop k.base words) (omega arith) in
      let v = length-drop k.operands words in
      ap length (cleared_in words k a b) ∙ omega arith

  -- of functions from the innermost on
  abbrev pub cleared_open : List Caller → List ℕ → List ℕ
  cleared_open [] words = words
  cleared_open (k ∷ ks) words = cleared_at tables (cleared_open ks words) k

  open_behind : (ks : List Caller) (k : Caller) (words : List ℕ) → cleared_open (ks ++ (k ∷ [])) words ≡ cleared_open ks (cleared_at tables words k)
  open_behind [] k words = refl
  open_behind (j ∷ ks) k words = ap (λ (ws : List ℕ). cleared_at tables ws j) (open_behind ks k words)

  pub folded : (ks : List Caller) (words : List ℕ) → fold (cleared_at tables) words ks ≡ cleared_open (reverse ks) words
  folded [] words = refl
  folded (k ∷ ks) words =
      folded ks (cleared_at tables words k) ∙ sym (open_behind (reverse ks) k words)
      ∙ ap (λ (js : List Caller). cleared_open js words) (sym (reverse-append (k ∷ []) ks))

  -- all of them lie within so many words
  abbrev pub AreWithin : ℕ → List Caller → Type 0
  AreWithin n [] = Unit {0}
  AreWithin n (k ∷ ks) = (k.base ≤ k.operands) × (k.operands ≤ n) × AreWithin n ks

  pub open_long : (ks : List Caller) (words : List ℕ) → AreWithin (length words) ks → length (cleared_open ks words) ≡ length words
  open_long [] words h = refl
  open_long (k ∷ ks) words h =
      let r = open_long ks words h.2 in
      let a = h.0 in
      let b = h.1 in
      cleared_at_long (cleared_open ks words) k a (omega arith) ∙ r

  pub open_below : (ks : List Caller) (L R : List ℕ) → AreWithin (length L) ks → cleared_open ks (L ++ R) ≡ cleared_open ks L ++ R
  open_below [] L R h = refl
  open_below (k ∷ ks) L R h =
      let r = open_long ks L h.2 in
      let a = h.0 in
      let b = h.1 in
      ap (λ (ws : List ℕ). cleared_at tables ws k) (open_below ks L R h.2) ∙ cleared_below (cleared_open ks L) R k a (omega arith)
