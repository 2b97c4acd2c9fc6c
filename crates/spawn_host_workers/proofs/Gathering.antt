-- Gates are gathered, one after the other.
use Rattle.std.proofs.Common.{◌≡◌, ℕ, ◌+◌, ◌<◌, List, [], ◌∷◌, ◌++◌, length, map, take, get_or, refl, sym, subst}
use Rattle.std.proofs.lemmas.List.{take_more, map-append}
use Rattle.interp_trait.specs.declared.gate.Gate.{Ghosts}
use Rattle.spawn_host_workers.specs.declared.worker.WorkerEnd.{WorkerEnd}
use Rattle.spawn_host_workers.specs.Gated.{Gathers, GathersIf, Passage, passage_of}

module _ {G : Type 0} (gate : Ghosts G) where
  one_more : (xs : List (Passage G)) (x : Passage G) (old middle new : G) → Gathers gate xs old middle → GathersIf gate x.report x.gate middle new
      → Gathers gate (xs ++ x ∷ []) old new
  one_more [] x old middle new h k = (new, subst (λ (g : G). GathersIf gate x.report x.gate g new) h k, refl)
  one_more (y ∷ xs) x old middle new h k = (h.0, h.1, one_more xs x h.0 middle new h.2 k)

  pub gathers_more : {S : Type 0} (ends : List (WorkerEnd S G)) (i : ℕ) (e : WorkerEnd S G) (old middle new : G) → i < length ends
      → e ≡ get_or ends i e → Gathers gate (map passage_of (take i ends)) old middle → GathersIf gate e.report e.gate middle new
      → Gathers gate (map passage_of (take (i + 1) ends)) old new
  gathers_more {S = S} ends i e old middle new lt is h k =
      let here = subst (λ (x : WorkerEnd S G). GathersIf gate x.report x.gate middle new) is k in
      subst (λ (l : List (WorkerEnd S G)). Gathers gate (map passage_of l) old new) (sym (take_more ends i e lt))
      (subst (λ (l : List (Passage G)). Gathers gate l old new) (sym (map-append passage_of (take i ends) (get_or ends i e ∷ [])))
      (one_more (map passage_of (take i ends)) (passage_of (get_or ends i e)) old middle new h here))
