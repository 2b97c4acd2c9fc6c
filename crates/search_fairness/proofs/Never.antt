-- Which threads leave a component.
use Rattle.std.proofs.Common.{◌≡◌, ◌<◌, ◌+◌, ◌∙◌, ℕ, List, [], ◌∷◌, ◌++◌, length, get_or, Some, sym, subst, ap, arith, below_more}
use Rattle.std.specs.List.{slice_get, Contains, Any}
use Rattle.std.proofs.Math.ListN.{get_or-append}
use Rattle.std.proofs.Math.Seq.{get_or-append_seam}
use Rattle.std.proofs.lemmas.List.{get_or_default, length-append}
use Rattle.std.proofs.lemmas.List.Elements.{All-contains}
use Rattle.search_graph.specs.declared.graph.Move.{Move}
use Rattle.search_graph.specs.declared.grouped.Grouped.{Grouped}
use Rattle.search_graph.specs.Groups.{group_of}
use Rattle.search_fairness.specs.declared.components.Components.{Components}
use Rattle.search_fairness.specs.Leaving.{members_in, IsOf, LeavesAt, Leaves, HasNoLeaver, IsMover, IsNeverLeft}

-- no thread leaves a component, where none of those with moves at one of its states does
pub never-left : (moves : List Move) (out : Grouped) (found : Components) (c s : ℕ) → Contains (members_in found c) s
    → ((k : ℕ) → k < length (group_of out s) → HasNoLeaver moves out found c (get_or (group_of out s) k 0))
    → IsNeverLeft moves out found c
never-left moves out found c s here passed t leaves =
    let at : LeavesAt moves out found.of.items c t s = All-contains (LeavesAt moves out found.of.items c t) (members_in found c) s leaves.at here in
    let one : Any (IsOf moves t) (group_of out s) = at.can in
    let is : IsOf moves t one.1 = one.4 in
    passed one.0 one.2 is.0
    (subst (λ (k : ℕ). slice_get moves k ≡ Some is.0) (sym (get_or_default (group_of out s) one.0 0 one.1 one.2 ∙ one.3)) is.1)
    (subst (λ (u : ℕ). Leaves moves out found c u) (sym is.2) leaves)

-- one more thread for one component more
pub length-more : (xs ys : List ℕ) (c t : ℕ) → length xs ≡ c → ys ≡ xs ++ t ∷ [] → length ys ≡ c + 1
length-more xs ys c t len is =
    let e = ap length is in
    let f = length-append xs (t ∷ []) in
    omega (arith, e, f, len)

pub movers-more : (moves : List Move) (out : Grouped) (found : Components) (xs ys : List ℕ) (c t : ℕ) → length xs ≡ c → ys ≡ xs ++ t ∷ []
    → ((k : ℕ) → k < c → IsMover moves out found k (get_or xs k 0)) → IsMover moves out found c t
    → (k : ℕ) → k < c + 1 → IsMover moves out found k (get_or ys k 0)
movers-more moves out found xs ys c t len is so one =
    subst (λ (zs : List ℕ). (k : ℕ) → k < c + 1 → IsMover moves out found k (get_or zs k 0)) (sym is)
    (below_more (λ (k : ℕ). IsMover moves out found k (get_or (xs ++ t ∷ []) k 0)) c
    (λ k low. subst (IsMover moves out found k) (sym (get_or-append xs (t ∷ []) 0 k (omega (arith, low, len)))) (so k low))
    (subst (IsMover moves out found c) (sym (subst (λ (n : ℕ). get_or (xs ++ t ∷ []) n 0 ≡ t) len (get_or-append_seam xs t [] 0))) one))
