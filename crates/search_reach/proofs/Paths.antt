-- Paths, one after another.
use Rattle.std.specs.Prelude.{ℕ, zero, suc, refl}
use Rattle.std.proofs.Common.{subst, sym}
use Rattle.search_graph.specs.Paths.{Goes, Reaches}

module _ {W : Type 0} (steps : W → W → Type 0) where
  pub stays : (w : W) → Reaches steps w w
  stays w = record { count = 0; path = refl }

  pub one_step : (w z : W) → steps w z → Reaches steps w z
  one_step w z h = record { count = suc zero; path = (z, h, refl) }

  step_first : (w v z : W) → steps w v → Reaches steps v z → Reaches steps w z
  step_first w v z h r = record { count = suc r.count; path = (v, h, r.path) }

  goes_on : (count : ℕ) (w v z : W) → Goes steps count w v → Reaches steps v z → Reaches steps w z
  goes_on zero w v z e r = subst (λ x. Reaches steps x z) (sym e) r
  goes_on (suc count) w v z p r = step_first w p.0 z p.1 (goes_on count p.0 v z p.2 r)

  pub onward : (w v z : W) → Reaches steps w v → Reaches steps v z → Reaches steps w z
  onward w v z p r = goes_on p.count w v z p.path r

module _ {W : Type 0} (steps others : W → W → Type 0) where
  -- by other steps
  along : ((w z : W) → steps w z → Reaches others w z) → (count : ℕ) (w z : W) → Goes steps count w z → Reaches others w z
  along each zero w z e = subst (λ v. Reaches others w v) e (stays others w)
  along each (suc count) w z p = onward others w p.0 z (each w p.0 p.1) (along each count p.0 z p.2)

  pub by_others : ((w z : W) → steps w z → Reaches others w z) → (w z : W) → Reaches steps w z → Reaches others w z
  by_others each w z r = along each r.count w z r.path
