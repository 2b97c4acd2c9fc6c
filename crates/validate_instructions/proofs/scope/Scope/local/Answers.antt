use Rattle.std.proofs.Common.{◌≡◌, ℕ, zero, suc, ◌-◌, ◌<◌, ◌≤◌, ◌∙◌, List, [], ◌∷◌, ◌++◌, length, slice_get, refl}
use Rattle.std.proofs.Common.{arith}
use Rattle.std.proofs.lemmas.Option.{slice_get-get_or}
use Rattle.validate_instructions.proofs.scope.Scope.local.Goals as goal

in_front : {X : Type 0} (xs ys : List X) (k : ℕ) → k < length xs → slice_get (xs ++ ys) k ≡ slice_get xs k
in_front [] ys k h = absurd (omega arith)
in_front (x ∷ xs) ys zero h = refl
in_front (x ∷ xs) ys (suc k) h = in_front xs ys k (omega arith)

behind : {X : Type 0} (xs ys : List X) (k : ℕ) → length xs ≤ k → slice_get (xs ++ ys) k ≡ slice_get ys (k - length xs)
behind [] ys k h = let e : k - 0 ≡ k = omega arith in rw e refl
behind (x ∷ xs) ys zero h = absurd (omega arith)
behind (x ∷ xs) ys (suc k) h = let e : suc k - length (x ∷ xs) ≡ k - length xs = omega arith in rw e (behind xs ys k (omega arith))

pub returns-then-index-self : goal.returns-then-index-self
returns-then-index-self c =
    in_front c.args.self.now.params.now c.args.self.now.locals.now c.args.index c.if-index-self.true
    ∙ slice_get-get_or c.args.self.now.params.now c.args.index _ c.if-index-self.true

pub returns : goal.returns
returns c = behind c.args.self.now.params.now c.args.self.now.locals.now c.args.index (omega arith) ∙ c.in_ok-local.ensures
