-- The seats of a new memory, place by place.
use Rattle.std.proofs.Common.{◌≡◌, ℕ, zero, suc, ◌+◌, ◌<◌, true, List, [], ◌∷◌, map, slice_index_or, length, ◌∙◌, refl, ap, arith}
use Rattle.types.specs.declared.limits.TheConstants.{DESK_NAME, SEATS}
use Rattle.shared_memory_on_table.specs.declared.view.Caller.{Caller}
use Rattle.shared_memory_on_table.specs.Callers.{fresh, fresh_from}

fresh_at : {S : Type 0} (caller : S → Caller) (count n : ℕ) (seats : List S) → map caller seats ≡ fresh_from count n →
    (k : ℕ) (d : S) → k < count → caller (slice_index_or seats k d) ≡ fresh (n + k)
fresh_at caller zero n seats h k d less = absurd (omega arith)
fresh_at caller (suc count) n [] h k d less = absurd (cc h)
fresh_at caller (suc count) n (s ∷ seats) h zero d less =
    let is : caller s ≡ fresh n = cc h in let e : n ≡ n + 0 = omega arith in is ∙ ap fresh e
fresh_at caller (suc count) n (s ∷ seats) h (suc k) d less =
    let t : map caller seats ≡ fresh_from count (n + 1) = cc h in
    let e : n + 1 + k ≡ n + suc k = omega arith in let l : k < count = omega arith in
    fresh_at caller count (n + 1) seats t k d l ∙ ap fresh e

fresh_count : {S : Type 0} (caller : S → Caller) (count n : ℕ) (seats : List S) → map caller seats ≡ fresh_from count n → length seats ≡ count
fresh_count caller zero n [] h = refl
fresh_count caller zero n (s ∷ seats) h = absurd (cc h)
fresh_count caller (suc count) n [] h = absurd (cc h)
fresh_count caller (suc count) n (s ∷ seats) h =
    let t : map caller seats ≡ fresh_from count (n + 1) = cc h in
    let rest = fresh_count caller count (n + 1) seats t in omega arith

-- each of the 65 has its place as its name, and has seen nothing; the last has the queue right
module _ {S : Type 0} (caller : S → Caller) (seats : List S) (new : map caller seats ≡ fresh_from SEATS 0) where
  pub seat_name : (k : ℕ) (d : S) → k < SEATS → (caller (slice_index_or seats k d)).name ≡ k
  seat_name k d less = let e : 0 + k ≡ k = omega arith in ap (λ (c : Caller). c.name) (fresh_at caller SEATS 0 seats new k d less) ∙ e

  pub seat_new : (k : ℕ) (d : S) → k < SEATS → (caller (slice_index_or seats k d)).seen ≡ []
  seat_new k d less = ap (λ (c : Caller). c.seen) (fresh_at caller SEATS 0 seats new k d less)

  pub seat_right : (d : S) → (caller (slice_index_or seats DESK_NAME d)).has_queue_right ≡ true
  seat_right d = ap (λ (c : Caller). c.has_queue_right) (fresh_at caller SEATS 0 seats new DESK_NAME d (search arith))

  pub seat_many : length seats ≡ SEATS
  seat_many = fresh_count caller SEATS 0 seats new
