-- Which wakes are those of an entry, by how many come before.
use Rattle.std.proofs.Common.{◌≡◌, ◌∙◌, ℕ, zero, suc, ◌+◌, ◌-◌, ◌<◌, List, [], ◌∷◌, ◌++◌, length, map, take, drop, get_or, append_assoc, sym, ap, arith}
use Rattle.std.specs.List.{flat_map, range_with_len}
use Rattle.std.proofs.lemmas.List.{append-nil, take_at, drop_at, length-append}
use Rattle.std.proofs.lemmas.List.FromFn.{get_or-map-range_with_len, map-range_with_len_more}
use Rattle.std.proofs.lemmas.Option.{unwrap_or-slice_get}
use Rattle.types.specs.declared.event.Entry.{Entry}
use Rattle.show_text.specs.declared.context.Context.{Context}
use Rattle.show_text.specs.declared.woken.Wake.{Wake}
use Rattle.show_text.specs.declared.woken.Wakes.{Wakes}
use Rattle.show_text.specs.Woken.{woken_by, start_in, woken_in, AreWakes}
use Rattle.show_text.proofs.Line.{all_more}

-- How many come before those of a number.
abbrev pub how_many : {X : Type 0} → (ℕ → List X) → ℕ → ℕ
how_many f n = length (flat_map f (range_with_len 0 n))

front : {X : Type 0} (f : ℕ → List X) (at d : ℕ)
    → (rest : List X) × (flat_map f (range_with_len 0 (at + d)) ≡ flat_map f (range_with_len 0 at) ++ rest)
front {X} f at zero =
    let e : at + 0 ≡ at = omega arith in
    ([], ap (λ (n : ℕ). flat_map f (range_with_len 0 n)) e ∙ sym (append-nil (flat_map f (range_with_len 0 at))))
front {X} f at (suc d) =
    let before = front f at d in
    let e : at + suc d ≡ at + d + 1 = omega arith in (
      before.0 ++ f (at + d),
      ap (λ (n : ℕ). flat_map f (range_with_len 0 n)) e ∙ (all_more f (at + d)
          ∙ (ap (λ (xs : List X). xs ++ f (at + d)) before.1 ∙ append_assoc (flat_map f (range_with_len 0 at)) before.0 (f (at + d)))),
    )

own : {X : Type 0} (f : ℕ → List X) (at n : ℕ) (all : List X) → at < n → all ≡ flat_map f (range_with_len 0 n)
    → take (how_many f (at + 1) - how_many f at) (drop (how_many f at) all) ≡ f at
own {X} f at n all lt is =
    let past : List X = flat_map f (range_with_len 0 at) in
    let e : n ≡ at + 1 + (n - (at + 1)) = omega (arith, lt) in
    let more = front f (at + 1) (n - (at + 1)) in
    let parts : all ≡ past ++ (f at ++ more.0) = is ∙ (ap (λ (k : ℕ). flat_map f (range_with_len 0 k)) e ∙ (more.1
    ∙ (ap (λ (xs : List X). xs ++ more.0) (all_more f at) ∙ append_assoc past (f at) more.0))) in
    let long : how_many f (at + 1) ≡ length past + length (f at) = ap length (all_more f at) ∙ length-append past (f at) in
    let size : length (f at) ≡ how_many f (at + 1) - how_many f at = omega (arith, long) in
    let m : ℕ = how_many f (at + 1) - how_many f at in
    ap (λ (xs : List X). take m (drop (how_many f at) xs)) parts
    ∙ (ap (take m) (drop_at past (f at ++ more.0) (how_many f at) (omega arith)) ∙ take_at (f at) more.0 m size)

start_is : (f : ℕ → List Wake) (n at : ℕ) (wakes : Wakes) → at < n → wakes.starts.items ≡ map (how_many f) (range_with_len 0 n)
    → start_in wakes at ≡ how_many f at
start_is f n at wakes lt is =
    let zero_at : 0 + at ≡ at = omega arith in
    unwrap_or-slice_get wakes.starts.items at (length wakes.all.items)
    ∙ (ap (λ (xs : List ℕ). get_or xs at (length wakes.all.items)) is
    ∙ get_or-map-range_with_len (how_many f) 0 n at at (length wakes.all.items) lt zero_at)

each_own : (f : ℕ → List Wake) (n at : ℕ) (wakes : Wakes) → at < n → wakes.all.items ≡ flat_map f (range_with_len 0 n)
    → wakes.starts.items ≡ map (how_many f) (range_with_len 0 (n + 1)) → woken_in wakes at ≡ f at
each_own f n at wakes lt all starts =
    let a : start_in wakes at ≡ how_many f at = start_is f (n + 1) at wakes (omega (arith, lt)) starts in
    let b : start_in wakes (at + 1) ≡ how_many f (at + 1) = start_is f (n + 1) (at + 1) wakes (omega (arith, lt)) starts in
    ap (λ (k : ℕ). take (k - start_in wakes at) (drop (start_in wakes at) wakes.all.items)) b
    ∙ (ap (λ (k : ℕ). take (how_many f (at + 1) - k) (drop k wakes.all.items)) a ∙ own f at n wakes.all.items lt all)

pub are_wakes : (log : List Entry) (contexts : List Context) (k : ℕ) (wakes : Wakes) → k ≡ length log
    → wakes.all.items ≡ flat_map (woken_by log contexts) (range_with_len 0 k)
    → wakes.starts.items ≡ map (how_many (woken_by log contexts)) (range_with_len 0 (k + 1)) → AreWakes log contexts wakes
are_wakes log contexts k wakes is all starts = record {
  all = all ∙ ap (λ (n : ℕ). flat_map (woken_by log contexts) (range_with_len 0 n)) is;
  each = λ at lt. each_own (woken_by log contexts) k at wakes (omega (arith, is, lt)) all starts;
}

pub starts_next : {X : Type 0} (f : ℕ → List X) (n count : ℕ) (all : List X) (starts new : List ℕ)
    → starts ≡ map (how_many f) (range_with_len 0 n) → all ≡ flat_map f (range_with_len 0 n) → count ≡ length all
    → new ≡ starts ++ count ∷ [] → new ≡ map (how_many f) (range_with_len 0 (n + 1))
starts_next f n count all starts new was are is adds =
    let here : count ≡ how_many f n = is ∙ ap length are in
    adds ∙ (ap (λ (xs : List ℕ). xs ++ count ∷ []) was
    ∙ (ap (λ (k : ℕ). map (how_many f) (range_with_len 0 n) ++ k ∷ []) here
    ∙ sym (map-range_with_len_more (how_many f) 0 n n (omega arith))))
