-- Exports: distinct names, and the function that a name stands for.
use Rattle.std.proofs.Common.{◌≡◌, ℕ, ◌+◌, ◌-◌, ◌<◌, List, [], ◌∷◌, ◌++◌, length, Bool, true, false, ◌&&◌, ◌||◌, not}
use Rattle.std.proofs.Common.{nat_le, nat_lt, Option, Some, None, find, refl, sym, ◌∙◌, ap, subst, arith, zero, suc}
use Rattle.std.proofs.Common.{cond, append_assoc, length-append}
use Rattle.std.specs.Bool.{Decides, ⊤}
use Rattle.std.specs.List.{All, list_any, slice_get}
use Rattle.std.proofs.lemmas.Bool.Decides.{nat_tests}
use Rattle.std.proofs.lemmas.List.Elements.{All-nil, All-cons, All-head, All-tail}
use Rattle.std.proofs.lemmas.Option.{slice_get_within}
use Rattle.std.proofs.lemmas.Slice.Eq.{bytes_eq-Decides}
use Rattle.types.specs.declared.parts.Export.{Export}
use Rattle.types.specs.declared.parts.ExportDesc.{ExportDesc}
use Rattle.types.specs.declared.parts.ExportDesc.TheVariants as exports
use Rattle.types.specs.declared.parts.Parts.{Parts}
use Rattle.validate_typing.specs.declared.fault.Fault.TheVariants as faults
use Rattle.validate_typing.specs.Context.{imported_functions, functions_of, memories_of}
use Rattle.validate_typing.specs.Validity.{IsThere, HasDistinctNames}
use Rattle.validate_module_rules.specs.Faults.{is_named, desc_fault, exports_fault, own_index, own_function, own_function_of, exported_in}
use Rattle.validate_module_rules.specs.Exported.{IsExported}
use Rattle.validate_module_rules.proofs.Rules.{Tells, Tells-like, Tells-unless, Tells-both, Decides-lt}

-- places in joined lists

get_left : {X : Type 0} (xs ys : List X) (k : ℕ) (x : X) → slice_get xs k ≡ Some x → slice_get (xs ++ ys) k ≡ Some x
get_left [] ys k x h = let never : None ≡ Some x = h in cc
get_left (y ∷ xs) ys zero x h = h
get_left (y ∷ xs) ys (suc k) x h = get_left xs ys k x h

get_before : {X : Type 0} (xs ys : List X) (k : ℕ) (x : X) → k < length xs → slice_get (xs ++ ys) k ≡ Some x → slice_get xs k ≡ Some x
get_before [] ys k x l h = absurd (omega arith)
get_before (y ∷ xs) ys zero x l h = h
get_before (y ∷ xs) ys (suc k) x l h = get_before xs ys k x (omega arith) h

get_next : {X : Type 0} (xs : List X) (y : X) (ys : List X) → slice_get (xs ++ (y ∷ ys)) (length xs) ≡ Some y
get_next [] y ys = refl
get_next (x ∷ xs) y ys = get_next xs y ys

-- names

Decides-named : (name : List ℕ) (e : Export) → Decides (is_named name e) (e.name ≡ name)
Decides-named name e = bytes_eq-Decides e.name name

or_right : (a b : Bool) → b ≡ true → (a || b) ≡ true
or_right true b h = refl
or_right false b h = h

named_there : (name : List ℕ) (es : List Export) (k : ℕ) (a : Export) → slice_get es k ≡ Some a → a.name ≡ name → list_any (is_named name) es ≡ true
named_there name [] k a h e = let never : None ≡ Some a = h in cc
named_there name (b ∷ es) zero a h e =
    let same : b ≡ a = cc in
    let yes' : is_named name b ≡ true = (Decides-named name b).1 (ap (λ (x : Export). x.name) same ∙ e) in
    ap (λ t. t || list_any (is_named name) es) yes'
named_there name (b ∷ es) (suc k) a h e = or_right (is_named name b) (list_any (is_named name) es) (named_there name es k a h e)

record IsNamedAt (name : List ℕ) (es : List Export) : Type 0 where
  place : ℕ
  entry : Export
  at_place : slice_get es place ≡ Some entry
  named : entry.name ≡ name

later : (name : List ℕ) (b : Export) (es : List Export) → IsNamedAt name es → IsNamedAt name (b ∷ es)
later name b es h = record { place = suc h.place; entry = h.entry; at_place = h.at_place; named = h.named }

there_named : (name : List ℕ) (es : List Export) → list_any (is_named name) es ≡ true → IsNamedAt name es
there_named name [] h = let never : false ≡ true = h in absurd (let n : ⊥ = cc in n)
there_named name (b ∷ es) h =
    elim (is_named name b) as (λ t. Decides t (b.name ≡ name) → (t || list_any (is_named name) es) ≡ true → IsNamedAt name (b ∷ es)) [
      | true ↦ λ d _. record { place = 0; entry = b; at_place = refl; named = d.0 refl }
      | false ↦ λ d k. later name b es (there_named name es k)
    ] (Decides-named name b) h

-- each name differs from those before it
abbrev pub AreFresh : List Export → List Export → Type 0
AreFresh before [] = ⊤
AreFresh before (e ∷ es) = (list_any (is_named e.name) before ≡ false) × AreFresh (before ++ (e ∷ [])) es

apart : (before es : List Export) → AreFresh before es → (i j : ℕ) (a b : Export) → i < length before + j →
    slice_get (before ++ es) i ≡ Some a → slice_get es j ≡ Some b → a.name ≡ b.name → ⊥
apart before [] f i j a b l h k e = let never : None ≡ Some b = k in cc
apart before (x ∷ es) f i zero a b l h k e =
    let here = get_before before (x ∷ es) i a (omega arith) h in
    let same : x ≡ b = cc in
    let yes' = named_there x.name before i a here (e ∙ ap (λ (y : Export). y.name) (sym same)) in
    let no' = f.0 in cc
apart before (x ∷ es) f i (suc j) a b l h k e =
    let n = length-append before (x ∷ []) in
    apart (before ++ (x ∷ [])) es f.1 i j a b (omega (arith, n))
    (subst (λ (xs : List Export). slice_get xs i ≡ Some a) (sym (append_assoc before (x ∷ []) es)) h) k e

distinct_from_fresh : (es : List Export) → AreFresh [] es → HasDistinctNames es
distinct_from_fresh es f i j a b l h k e = apart [] es f i j a b (omega arith) h k e

is_false : (b : Bool) → (b ≡ true → ⊥) → b ≡ false
is_false true h = absurd (h refl)
is_false false h = refl

fresh_from_distinct : (before es : List Export) → HasDistinctNames (before ++ es) → AreFresh before es
fresh_from_distinct before [] d = tt
fresh_from_distinct before (x ∷ es) d = (
  is_false (list_any (is_named x.name) before) (λ h.
      let w = there_named x.name before h in
      let within = slice_get_within before w.place w.entry w.at_place in
      d w.place (length before) w.entry x within (get_left before (x ∷ es) w.place w.entry w.at_place) (get_next before x es) w.named),
  fresh_from_distinct (before ++ (x ∷ [])) es (subst HasDistinctNames (sym (append_assoc before (x ∷ []) es)) d),
)

Tells-desc : (m : Parts) (d : ExportDesc) → Tells (desc_fault m d) (IsThere m d)
Tells-desc m (exports.Func f) = Tells-unless _ faults.UnknownFunction (Decides-lt f (length (functions_of m)))
Tells-desc m (exports.Table t) = Tells-unless _ faults.UnknownTable (Decides-lt t (length m.tables))
Tells-desc m (exports.Memory k) = Tells-unless _ faults.UnknownMemory (Decides-lt k (length (memories_of m)))
Tells-desc m (exports.Global g) = Tells-unless _ faults.UnknownGlobal (Decides-lt g (length m.globals))

Decides-fresh : (b : Bool) → Decides (not b) (b ≡ false)
Decides-fresh true = (λ h. cc, λ h. cc)
Decides-fresh false = (λ _. refl, λ _. refl)

Tells-from : (m : Parts) (before es : List Export) → Tells (exports_fault m before es) (AreFresh before es × All (λ e. IsThere m e.desc) es)
Tells-from m before [] = (λ _. (tt, All-nil (λ e. IsThere m e.desc)), λ _. refl)
Tells-from m before (e ∷ es) =
    let P : Export → Type 0 = λ e. IsThere m e.desc in
    Tells-like _ (λ h. ((h.0.0, h.1.0), All-cons P e es h.0.1 h.1.1)) (λ h. ((h.0.0, All-head P e es h.1), (h.0.1, All-tail P e es h.1)))
    (Tells-both _ _ (Tells-both _ _ (Tells-unless _ faults.DuplicateExport
    (Decides-fresh (list_any (is_named e.name) before))) (Tells-desc m e.desc))
    (Tells-from m (before ++ (e ∷ [])) es))

pub Tells-exports : (m : Parts) → Tells (exports_fault m [] m.exports) (HasDistinctNames m.exports × All (λ e. IsThere m e.desc) m.exports)
Tells-exports m = Tells-like _ (λ h. (distinct_from_fresh m.exports h.0, h.1)) (λ h. (fresh_from_distinct [] m.exports h.0, h.1)) (Tells-from m [] m.exports)

-- the function that a name stands for

found_named : (name : List ℕ) (es : List Export) (e : Export) → find (is_named name) es ≡ Some e → (k : ℕ) × (slice_get es k ≡ Some e) × (e.name ≡ name)
found_named name [] e h = let never : None ≡ Some e = h in absurd (let n : ⊥ = cc in n)
found_named name (b ∷ es) e h =
    elim (is_named name b) as (λ t. Decides t (b.name ≡ name) → cond t (Some b) (find (is_named name) es) ≡ Some e
    → (k : ℕ) × (slice_get (b ∷ es) k ≡ Some e) × (e.name ≡ name)) [
      | true ↦ λ d k. let same : b ≡ e = cc in (0, k, ap (λ (x : Export). x.name) (sym same) ∙ d.0 refl)
      | false ↦ λ d k. let w = found_named name es e k in (suc w.0, w.1, w.2)
    ] (Decides-named name b) h

not_found : (name : List ℕ) (es : List Export) (k : ℕ) (e : Export) → find (is_named name) es ≡ None → slice_get es k ≡ Some e → e.name ≡ name → ⊥
not_found name [] k e h at' n = let never : None ≡ Some e = at' in cc
not_found name (b ∷ es) zero e h at' n =
    elim (is_named name b) as (λ t. Decides t (b.name ≡ name) → cond t (Some b) (find (is_named name) es) ≡ None → ⊥) [
      | true ↦ λ d c. cc
      | false ↦ λ d c. let same : b ≡ e = cc in let never = d.1 (ap (λ (x : Export). x.name) same ∙ n) in cc
    ] (Decides-named name b) h
not_found name (b ∷ es) (suc k) e h at' n =
    elim (is_named name b) as (λ t. cond t (Some b) (find (is_named name) es) ≡ None → ⊥) [
      | true ↦ λ c. cc
      | false ↦ λ c. not_found name es k e c at' n
    ] h

-- with distinct names, one name is one place
one_place : (es : List Export) (i j : ℕ) (a b : Export) → HasDistinctNames es → slice_get es i ≡ Some a → slice_get es j ≡ Some b → a.name ≡ b.name → a ≡ b
one_place es i j a b d h k e = by (nat_lt i j) (nat_lt j i) refl refl
  where
    by : (s t : Bool) → nat_lt i j ≡ s → nat_lt j i ≡ t → a ≡ b
    by true t p q = absurd (d i j a b (grind (arith, nat_tests)) h k e)
    by false true p q = absurd (d j i b a (grind (arith, nat_tests)) k h (sym e))
    by false false p q = let same : i ≡ j = grind (arith, nat_tests) in let k' = subst (λ n. slice_get es n ≡ Some b) (sym same) k in cc

found_is : (name : List ℕ) (es : List Export) (k : ℕ) (e : Export) → HasDistinctNames es → slice_get es k ≡ Some e
    → e.name ≡ name → find (is_named name) es ≡ Some e
found_is name es k e d h n = by (find (is_named name) es) refl
  where
    by : (f : Option Export) → find (is_named name) es ≡ f → find (is_named name) es ≡ Some e
    by None p = absurd (not_found name es k e p h n)
    by (Some x) p =
        let w = found_named name es x p in
        let same : x ≡ e = one_place es w.0 k x e d w.1 h (w.2 ∙ sym n) in cc

own_is : (imported own f i : ℕ) → own_index imported own f ≡ Some i → (f ≡ imported + i) × (i < own)
own_is imported own f i h = by (nat_le imported f) (nat_lt (f - imported) own) refl refl h
  where
    by : (s t : Bool) → nat_le imported f ≡ s → nat_lt (f - imported) own ≡ t
        → cond (s && t) (Some (f - imported)) None ≡ Some i → (f ≡ imported + i) × (i < own)
    by true true p q r = let same : f - imported ≡ i = cc in (grind (arith, nat_tests), grind (arith, nat_tests))
    by true false p q r = let n : ⊥ = cc in absurd n
    by false t p q r = let n : ⊥ = cc in absurd n

own_at : (imported own i : ℕ) → i < own → own_index imported own (imported + i) ≡ Some i
own_at imported own i h =
    let a : nat_le imported (imported + i) ≡ true = grind (arith, nat_tests) in
    let e : imported + i - imported ≡ i = omega arith in
    let b : nat_lt i own ≡ true = grind (arith, nat_tests) in
    rw (a, e, b) refl

exported_of : (m : Parts) (name : List ℕ) (own k : ℕ) (e : Export) (d : ExportDesc) → e.desc ≡ d → slice_get m.exports k ≡ Some e → e.name ≡ name →
    own_function_of (length (imported_functions m)) (length m.functions) d ≡ Some own → IsExported m name own
exported_of m name own k e (exports.Func f) is at' n h =
    let w = own_is (length (imported_functions m)) (length m.functions) f own h in
    record { place = k; entry = e; exported = at'; named = n; desc = is ∙ ap exports.Func w.0; function = w.1 }
exported_of m name own k e (exports.Table t) is at' n h = let x : ⊥ = cc in absurd x
exported_of m name own k e (exports.Memory t) is at' n h = let x : ⊥ = cc in absurd x
exported_of m name own k e (exports.Global t) is at' n h = let x : ⊥ = cc in absurd x

pub exported_from : (m : Parts) (name : List ℕ) (own : ℕ) → exported_in m name ≡ Some own → IsExported m name own
exported_from m name own h = by (find (is_named name) m.exports) refl h
  where
    by : (f : Option Export) → find (is_named name) m.exports ≡ f
        → own_function (length (imported_functions m)) (length m.functions) f ≡ Some own → IsExported m name own
    by None p r = let x : ⊥ = cc in absurd x
    by (Some e) p r = let w = found_named name m.exports e p in exported_of m name own w.0 e e.desc refl w.1 w.2 r

pub exported_is : (m : Parts) (name : List ℕ) (own : ℕ) → HasDistinctNames m.exports → IsExported m name own → exported_in m name ≡ Some own
exported_is m name own d x =
    ap (own_function (length (imported_functions m)) (length m.functions)) (found_is name m.exports x.place x.entry d x.exported x.named)
    ∙ (ap (own_function_of (length (imported_functions m)) (length m.functions)) x.desc
    ∙ own_at (length (imported_functions m)) (length m.functions) own x.function)
