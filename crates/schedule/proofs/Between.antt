-- The same acts, and as many lost tries between neighbouring ones, are the same acts and lost tries in order.
use Rattle.std.proofs.Common.{◌≡◌, ℕ, zero, suc, List, [], ◌∷◌, refl, sym, ◌∙◌, ap, Option, Some, None}
use Rattle.schedule.specs.System.{Act, Step, Step.Own, Step.Lost, Step.Full, Step.Acts}
use Rattle.schedule.specs.ThreadRun.{acts, losses_from, losses_between}
use Rattle.schedule.proofs.Standing.{tries}

module _ {E V A : Type 0} where
  -- so many lost tries, and then these
  abbrev nones : ℕ → List (Option (Act E V A)) → List (Option (Act E V A))
  nones zero more = more
  nones (suc n) more = None ∷ nones n more

  nones_last : (n : ℕ) (more : List (Option (Act E V A))) → nones n (None ∷ more) ≡ None ∷ nones n more
  nones_last zero more = refl
  nones_last (suc n) more = ap (λ z. None ∷ z) (nones_last n more)

  -- acts with lost tries between them
  abbrev merged : List ℕ → List (Act E V A) → List (Option (Act E V A))
  merged [] done = []
  merged (c ∷ counts) [] = nones c []
  merged (c ∷ counts) (a ∷ done) = nones c (Some a ∷ merged counts done)

  tries_merged : (steps : List (Step E V A)) (c : ℕ) → nones c (tries steps) ≡ merged (losses_from c steps) (acts steps)
  tries_merged [] c = refl
  tries_merged (Own ∷ steps) c = tries_merged steps c
  tries_merged (Lost e ∷ steps) c = nones_last c (tries steps) ∙ tries_merged steps (suc c)
  tries_merged (Full e ∷ steps) c = tries_merged steps c
  tries_merged (Acts a ∷ steps) c = ap (λ z. nones c (Some a ∷ z)) (tries_merged steps 0)

  pub same_tries : (steps steps' : List (Step E V A)) → acts steps ≡ acts steps' → losses_between steps ≡ losses_between steps' → tries steps ≡ tries steps'
  same_tries steps steps' a l = tries_merged steps 0 ∙ ((λ i. merged (l i) (a i)) ∙ sym (tries_merged steps' 0))
