-- Numbers that are drawn one after another.
use Rattle.std.proofs.Common.{◌≡◌, ℕ, suc, ◌+◌, ◌-◌, ◌<◌, ◌++◌, List, [], ◌∷◌, length, get_or, ap, sym, ◌∙◌, append_assoc, arith}
use Rattle.rand_pcg.specs.Lcg.{Lcg}
use Rattle.search_strategies.specs.Draws.{number_below, behind}
use Rattle.std.specs.Prelude.{swap, Option, ◌==◌, slice_index}
use Rattle.std.specs.List.{range_with_len}
use Rattle.std.proofs.lemmas.List.{ext_get_or}
use Rattle.std.proofs.lemmas.List.FromFn.{length-range_with_len, get_or-range_with_len}
use Rattle.search_strategies.specs.Priorities.{Priorities, drawn_numbers, shuffled, highest, fall, fallen, by_priority}

-- One more of them.
pub drawn_more : (changes all : List ℕ) (depth counter count : ℕ) (g : Lcg) → counter < depth
    → changes ++ drawn_numbers (depth - counter) count g ≡ all
    → (changes ++ number_below count g ∷ []) ++ drawn_numbers (depth - (counter + 1)) count (behind g) ≡ all
drawn_more changes all depth counter count g less is =
    let left : depth - counter ≡ suc (depth - (counter + 1)) = omega arith in
    append_assoc changes (number_below count g ∷ []) (drawn_numbers (depth - (counter + 1)) count (behind g))
    ∙ ap (λ n. changes ++ drawn_numbers n count g) (sym left) ∙ is

-- One more place that is exchanged, and none is left.
pub shuffled_more : (xs : List ℕ) (g : Lcg) (all : List ℕ × Lcg) (place : ℕ) → place < 64 → shuffled (64 - place) place (xs, g) ≡ all
    → shuffled (64 - (place + 1)) (place + 1) (swap xs place (number_below (place + 1) g), behind g) ≡ all
unfolding shuffled
shuffled_more xs g all place less is =
    let left : 64 - place ≡ suc (64 - (place + 1)) = omega arith in ap (λ n. shuffled n place (xs, g)) (sym left) ∙ is

pub shuffled_last : (x all : List ℕ × Lcg) (place : ℕ) → 64 - place ≡ 0 → shuffled (64 - place) place x ≡ all → x ≡ all
unfolding shuffled
shuffled_last x all place none is = ap (λ n. shuffled n place x) (sym none) ∙ is

-- Numbers that count up from one are those in a row from it on.
pub in_a_row : (xs : List ℕ) (first n : ℕ) → length xs ≡ n → ((k : ℕ) → k < n → get_or xs k 0 ≡ first + k) → xs ≡ range_with_len first n
in_a_row xs first n len each =
    ext_get_or 0 xs (range_with_len first n) (len ∙ sym (length-range_with_len first n))
    (λ i within. let h : i < n = omega arith in each i h ∙ sym (get_or-range_with_len first n i 0 h))

-- Whoever has the highest rank, by the parts of its definition.
pub by_priority_is : (s : Priorities) (ready : List ℕ) (place : ℕ) (o : Option ℕ) (t : Priorities) (r : Option ℕ) (u : Priorities)
    → place ≡ highest s.ranks ready
    → o ≡ (fall s (slice_index ready place) (length ready == 1)).0 → t ≡ (fall s (slice_index ready place) (length ready == 1)).1
    → r ≡ (fallen place ready (o, t)).0 → u ≡ (fallen place ready (o, t)).1
    → (r ≡ (by_priority s ready).0) × (u ≡ (by_priority s ready).1)
by_priority_is s ready place o t r u at p q x y = rw (← at) (rw (p, q) at x, rw (p, q) at y)
