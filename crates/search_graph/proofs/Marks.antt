-- Marks on states.
use Rattle.std.specs.Prelude.{◌≡◌, ◌≢◌, ◌<◌, ◌≤◌, ◌⊎◌, ℕ, zero, suc, Bool, true, false, List, All, length, take, slice_index_or, refl}
use Rattle.std.proofs.Common.{ap, subst, sym, ◌∙◌, inl, inr, true≢false, get_or-set_other, get_or-set_same}
use Rattle.std.proofs.lemmas.Bool.{cases_eq}
use Rattle.std.proofs.lemmas.List.{take_all}
use Rattle.std.proofs.lemmas.List.Elements.{All-same, Contains-get_or}
use lib.ListN.{replicate, set}
use Rattle.search_graph.specs.declared.graph.Move.{Move}
use Rattle.search_graph.specs.Graph.{IsMarked, CanMove, move_at}

pub can-move : (moves : List Move) (k t : ℕ) → k < length moves → (move_at moves k).thread ≡ t → CanMove moves (move_at moves k).from t
can-move moves k t h e =
    subst (λ v. CanMove moves (move_at moves k).from v) e
    (record { next = (move_at moves k).next; is = Contains-get_or moves k (record { from = 0; thread = 0; next = 0 }) h })

no_mark : (n s : ℕ) → slice_index_or (replicate n false) s false ≡ false
no_mark zero s = refl
no_mark (suc n) zero = refl
no_mark (suc n) (suc s) = no_mark n s

-- Nothing is marked at first.
pub unmarked : (marks : List Bool) (n s : ℕ) → marks ≡ replicate n false → IsMarked marks s → ⊥
unmarked marks n s e h = true≢false (sym h ∙ (ap (λ l. slice_index_or l s false) e ∙ no_mark n s))

-- One more is marked.
pub mark-more : (P : ℕ → Type 0) (marks new : List Bool) (i : ℕ) → new ≡ set marks i true → ((s : ℕ) → IsMarked marks s → P s) → P i →
    (s : ℕ) → IsMarked new s → P s
mark-more P marks new i e old here s h = by (cases_eq s i)
  where
    by : (s ≡ i) ⊎ (s ≢ i) → P s
    by (inl q) = subst P (sym q) here
    by (inr n) = old s (sym (get_or-set_other marks i s true false n) ∙ (sym (ap (λ l. slice_index_or l s false) e) ∙ h))

-- What is marked now was not before.
pub newly : (P : ℕ → Type 0) (marks : List Bool) (n s : ℕ) → marks ≡ replicate n false → IsMarked marks s ⊎ P s → P s
newly P marks n s e (inl h) = absurd (unmarked marks n s e h)
newly P marks n s e (inr h) = h

-- A mark more takes none off.
pub mark-keeps : (marks : List Bool) (i s : ℕ) → i < length marks → IsMarked marks s → IsMarked (set marks i true) s
mark-keeps marks i s within h = by (cases_eq s i)
  where
    by : (s ≡ i) ⊎ (s ≢ i) → IsMarked (set marks i true) s
    by (inl q) = ap (λ j. slice_index_or (set marks i true) j false) q ∙ get_or-set_same marks i true false within
    by (inr n) = get_or-set_other marks i s true false n ∙ h

-- What holds of those before the end holds of all.
pub past : {X : Type 0} (P : X → Type 0) (n : ℕ) (xs : List X) → length xs ≤ n → All P (take n xs) → All P xs
past P n xs h all = All-same P xs (take n xs) (sym (take_all n xs h)) all
