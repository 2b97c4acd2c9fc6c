use Rattle.std.proofs.Common.{arith, ◌<◌, ◌≡◌, ◌+◌, ◌++◌, ◌∷◌, [], ◌∙◌, ℕ, List, slice_index, take, length, map, sym, ap}
use Rattle.std.proofs.lemmas.List.{take_more, map-append}
use Rattle.std.proofs.lemmas.List.Elements.{All-more}
use Rattle.search_graph.specs.declared.graph.Move.{Move}
use Rattle.search_graph.specs.Graph.{move_at}
use Rattle.search_graph.proofs.cycles.walk_of.Goals as goal

longer : (f : ℕ → Move) (done : List Move) (xs : List ℕ) (i : ℕ) (m : Move) → i < length xs → done ≡ map f (take i xs) → m ≡ f (slice_index xs i)
    → done ++ m ∷ [] ≡ map f (take (i + 1) xs)
longer f done xs i m within is this =
    ap (λ l. l ++ m ∷ []) is ∙ (ap (λ v. map f (take i xs) ++ v ∷ []) this ∙
    (sym (map-append f (take i xs) (slice_index xs i ∷ [])) ∙ ap (map f) (sym (take_more xs i 0 within))))

pub loop-index-preserved : goal.loop-index-preserved
loop-index-preserved c =
    let moves = c.args.moves.now in
    let indices = c.args.indices.now in
    let i = c.loop-index.index-index in
    let within : i < length indices = omega arith in
    let at = c.in-Some.ensures.lookup.3 in
    record {
      is = c.in_ok-push.ensures.items ∙ longer (move_at moves) c.loop-index.walk.items indices i c.in-Some.m.now within c.loop-index.invariant.is
          (at.1 (record { from = 0; thread = 0; next = 0 }));
      within = All-more (λ k. k < length moves) indices i 0 within c.loop-index.invariant.within at.0;
    }
