use Rattle.std.proofs.Common.{◌≡◌, ℕ, ◌+◌, ◌≤◌, ◌<◌, List, [], ◌∷◌, length, take, reverse, Bool, ap, ◌∙◌, arith}
use Rattle.std.proofs.Math.ListN.{set}
use Rattle.std.proofs.lemmas.List.{length-reverse, length-take, reverse-append, take_more_set}
use Rattle.types.proofs.nesting.OpenBlocks.push.Goals as goal

-- the open blocks are as many as their places
count : (places opens : List Bool) (n : ℕ) → reverse (take n places) ≡ opens → n ≤ 256 → length places ≡ 256 → length opens ≡ n
count places opens n e few all = omega (arith, ap length e, length-reverse (take n places), length-take n places)

-- a block put behind their places is the innermost one
innermost : (places opens : List Bool) (n : ℕ) (block : Bool) → reverse (take n places) ≡ opens → n < length places
    → reverse (take (n + 1) (set places n block)) ≡ block ∷ opens
innermost places opens n block e h =
    ap reverse (take_more_set places n block h) ∙ (reverse-append (take n places) (block ∷ []) ∙ ap (λ k. block ∷ k) e)

pub bounds-self-inside-self-inside : goal.bounds-self-inside-self-inside
bounds-self-inside-self-inside c = let n = count c.self.inside.may_divide _ _ c.self.view_is c.self.invariant c.self.told in omega arith

pub overflow_add-self : goal.overflow_add-self
overflow_add-self c = omega (arith, c.self.invariant)

pub invariant_of-self : goal.invariant_of-self
invariant_of-self c = let n = count c.self.inside.may_divide _ _ c.self.view_is c.self.invariant c.self.told in omega arith

pub returns : goal.returns
returns c =
    let n = count c.self.inside.may_divide _ _ c.self.view_is c.self.invariant c.self.told in
    innermost c.self.inside.may_divide _ _ _ c.self.view_is (omega arith)
