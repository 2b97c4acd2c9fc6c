-- A wish that was obeyed is so to the end.
use Rattle.std.specs.Prelude.{ℕ, Result, IfOk}
use Rattle.std.proofs.lemmas.Result.{IfOk-weaker}
use Rattle.search_reach.specs.declared.follows.Wish.{Wish}
use Rattle.search_reach.specs.declared.ending.Ended.{Ended}
use Rattle.search_reach.specs.Told.{Obeys, StillObeys}

module _ {E F : Type 0} (r : Result (Ended E) F) (after : Wish) (told_at : ℕ) (so : Wish → Type 0)
    (still : IfOk r (λ (x : Ended E). StillObeys so after told_at x.verdict x.states)) where
  pub obeys-still : (before : Wish) → so before → IfOk r (λ (x : Ended E). Obeys before after told_at x.verdict x.states)
  obeys-still before is =
      IfOk-weaker r (λ (x : Ended E). StillObeys so after told_at x.verdict x.states) (λ (x : Ended E). Obeys before after told_at x.verdict x.states)
      (λ x all. all before is) still

  pub still-obeys : (others : Wish → Type 0) → ((before : Wish) → others before → so before)
      → IfOk r (λ (x : Ended E). StillObeys others after told_at x.verdict x.states)
  still-obeys others each =
      IfOk-weaker r (λ (x : Ended E). StillObeys so after told_at x.verdict x.states) (λ (x : Ended E). StillObeys others after told_at x.verdict x.states)
      (λ x all before is. all before (each before is)) still
