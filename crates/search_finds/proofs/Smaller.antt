-- Sizes of runs.
use Rattle.std.proofs.Common.{inl, inr, ◌∙◌, arith}
use Rattle.search_finds.specs.Sizes.{IsNoLarger}
use Rattle.search_finds.specs.declared.size.Size.{Size}

-- what is no larger than one that is no larger is no larger
pub no_larger : (a b c : Size) → IsNoLarger a b → IsNoLarger b c → IsNoLarger a c
no_larger a b c (inl x) (inl y) = inl (omega (arith, x, y))
no_larger a b c (inl x) (inr y) = inl (omega (arith, x, y.0))
no_larger a b c (inr x) (inl y) = inl (omega (arith, x.0, y))
no_larger a b c (inr x) (inr y) = inr (x.0 ∙ y.0, omega (arith, x.1, y.1))
