-- Choices among moves lead from state to state.
use Rattle.std.specs.Prelude.{◌≡◌, ◌<◌, ℕ, zero, suc, Bool, true, false, List, [], ◌∷◌, ◌++◌, length, Some, refl, if◌then◌else◌}
use Rattle.std.specs.Prelude.{All, Contains}
use Rattle.std.specs.Global.{Vec}
use Rattle.std.specs.List.{slice_get, AllZip, list_any}
use Rattle.std.proofs.Common.{ap, subst, sym, ◌∙◌, arith}
use Rattle.std.proofs.lemmas.List.{length-map}
use Rattle.std.proofs.lemmas.List.Elements.{All-head, All-tail, Contains-get_or}
use Rattle.std.proofs.lemmas.Option.{none-some, same_Some, slice_get_within, slice_get-get_or}
use Rattle.std.proofs.lemmas.Slice.Zip.{all_zipped_more, AllZip-long}
use Rattle.indexmap.specs.IndexSet.{insert_key}
use Rattle.search_graph.specs.Graph.{move_at}
use Rattle.search_graph.specs.Round.{moves_at, came, IsFairRound}
use Rattle.search_graph.specs.declared.graph.Move.{Move}
use Rattle.search_reach.specs.Search.{StepSystem}
use Rattle.search_reach.specs.Explored.{moves_from, IsNoted}
use Rattle.search_reach.specs.Moved.{GoesBy, IsChoiceOf, AreChoicesOf, IsPathTo, ArePathsTo, IsMoved, HasEndedAt, AreFirsts, insert_first}
use Rattle.search_reach.specs.Ways.{Leads, IsWay, AreWays, GoesRound}
use Rattle.search_reach.specs.declared.liveness.FairCycle.{FairCycle}
use Rattle.search_reach.proofs.Searching.{here}
use Rattle.search_reach.proofs.Moving.{at-some}
use Rattle.search_reach.proofs.Choosing.{from-of, from-among}

-- what stands beside it
zip-at : {A B : Type 0} (R : A → B → Type 0) (xs : List A) (ys : List B) → AllZip R xs ys → (i : ℕ) (y : B) → slice_get ys i ≡ Some y
    → (x : A) × (slice_get xs i ≡ Some x) × R x y
zip-at R [] [] h i y at = absurd (none-some y at)
zip-at R [] (z ∷ ys) h i y at = absurd h
zip-at R (x ∷ xs) [] h i y at = absurd h
zip-at R (x ∷ xs) (z ∷ ys) h zero y at = (x, refl, subst (R x) (same_Some z y at) h.0)
zip-at R (x ∷ xs) (z ∷ ys) h (suc i) y at = zip-at R xs ys h.1 i y at

-- where a walk stands behind its first move
came-on : (at : ℕ) (m : Move) (walk : List Move) (j : ℕ) → came at (m ∷ walk) (suc j) ≡ came m.next walk j
came-on at m walk zero = refl
came-on at m walk (suc j) = refl

module _ {S W E : Type 0} (k : StepSystem S W E) (eq : S → S → Bool) (ks : List S) (moves : List Move) (is : IsMoved k eq ks moves) where
  pub leads-by : (at to : ℕ) (choices : List ℕ) (s t : S) → slice_get ks at ≡ Some s → slice_get ks to ≡ Some t → GoesBy moves at choices to
      → Leads k eq s choices t
  leads-by at to [] s t here there same = same_Some s t (sym here ∙ (ap (slice_get ks) same ∙ there))
  leads-by at to (choice ∷ choices) s t at-s there goes =
      let m = goes.0 in
      let c : Contains (moves_from at moves) m = here (moves_from at moves) choice m goes.1 in
      let from : m.from ≡ at = from-of at moves m c in
      let gone = is.gone_on m s (from-among at moves m c) (ap (slice_get ks) from ∙ at-s) in
      let n = zip-at (IsNoted eq ks m.from) gone.next (moves_from m.from moves) gone.noted choice m
      (ap (λ (f : ℕ). slice_get (moves_from f moves) choice) from ∙ goes.1) in
      let next = n.2.next in (
        next.key,
        record { next = gone.next; are = gone.are; chosen = n.0; at = n.1; is = next.is },
        leads-by m.next to choices next.key t next.at there goes.2,
      )

  pub way-to : (to : ℕ) (choices : List ℕ) (t : S) → slice_get ks to ≡ Some t → IsPathTo moves (length ks) choices to → IsWay k eq choices t
  way-to to choices t at path =
      let low = slice_get_within ks to t at in
      let first = at-some ks 0 (omega (arith, low)) in
      record { first = first.0; begins = is.first first.0 first.1; leads = leads-by 0 to choices first.0 t first.1 at (path is.ordered low) }

  -- the choices of a walk go along it
  goes-along : (at to : ℕ) (places choices : List ℕ) → All (λ p. p < length moves) places → AreChoicesOf moves places choices
      → ((j : ℕ) → j < length (moves_at moves places) → (move_at (moves_at moves places) j).from ≡ came at (moves_at moves places) j)
      → came at (moves_at moves places) (length (moves_at moves places)) ≡ to → GoesBy moves at choices to
  goes-along at to [] [] low are joined closed = closed
  goes-along at to [] (c ∷ cs) low are joined closed = absurd are
  goes-along at to (p ∷ ps) [] low are joined closed = absurd are
  goes-along at to (p ∷ ps) (c ∷ cs) low are joined closed =
      let m = move_at moves p in
      let walk = moves_at moves ps in
      let from : m.from ≡ at = joined 0 (omega arith) in
      let chosen = are.0 m (slice_get-get_or moves p _ (All-head (λ q. q < length moves) p ps low)) (is.ordered.together m.from) in (
        m,
        ap (λ (f : ℕ). slice_get (moves_from f moves) c) (sym from) ∙ chosen,
        goes-along m.next to ps cs (All-tail (λ q. q < length moves) p ps low) are.1
            (λ j inside. joined (suc j) (omega (arith, inside)) ∙ came-on at m walk j) (sym (came-on at m walk (length walk)) ∙ closed),
      )

  pub round-by : ((m : Move) → Contains moves m → m.from < length ks) → (c : FairCycle) (start : ℕ) (places : List ℕ) → IsFairRound moves start places
      → IsPathTo moves (length ks) c.path.items start → AreChoicesOf moves places c.walk.items → GoesRound k eq c
  round-by within c start places round path walk = record {
    start = state.0;
    way = way-to start c.path.items state.0 state.1 path;
    some = omega (arith, long);
    round = leads-by start start c.walk.items state.0 state.0 state.1 state.1
        (goes-along start start places c.walk.items round.within walk round.round.joined round.round.closed);
  }
    where
      long : 0 < length c.walk.items
      long =
          let some = round.round.some in
          omega (arith, some, length-map places (move_at moves), AllZip-long (IsChoiceOf moves) places c.walk.items walk)

      start-low : (places : List ℕ) → IsFairRound moves start places → start < length ks
      start-low [] round = let some = round.round.some in absurd (omega (arith, some))
      start-low (p ∷ ps) round =
          let m = move_at moves p in
          let low : p < length moves = All-head (λ q. q < length moves) p ps round.within in
          subst (λ (n : ℕ). n < length ks) (round.round.joined 0 (omega arith)) (within m (Contains-get_or moves p _ low))

      state : (s : S) × (slice_get ks start ≡ Some s)
      state = at-some ks start (start-low places round)

  pub ways-are : (paths : List (Vec ℕ)) (firsts : List ℕ) (es : List E) → ArePathsTo moves (length ks) paths firsts → AreFirsts k ks firsts es
      → AreWays k eq paths es
  ways-are [] [] [] paths ended = tt
  ways-are [] [] (e ∷ es) paths ended = ended
  ways-are [] (f ∷ firsts) es paths ended = absurd paths
  ways-are (p ∷ ps) [] es paths ended = absurd paths
  ways-are (p ∷ ps) (f ∷ firsts) [] paths ended = absurd ended
  ways-are (p ∷ ps) (f ∷ firsts) (e ∷ es) paths ended =
      let h : HasEndedAt k ks f e = ended.0 in (
        record {
          last = h.state;
          way = way-to f p.items h.state h.at paths.0;
          ended = h.ended;
        },
        ways-are ps firsts es paths.1 ended.1,
      )

module _ {S W E : Type 0} (k : StepSystem S W E) (eq : E → E → Bool) (ks : List S) where
  -- one more ending
  pub firsts-more : (es fs : List E) (firsts more : List ℕ) (at : ℕ) (e : E) → AreFirsts k ks firsts es → HasEndedAt k ks at e
      → fs ≡ insert_key eq es e → more ≡ insert_first eq es e firsts at → AreFirsts k ks more fs
  firsts-more es fs firsts more at e was h keys is =
      subst (λ l. AreFirsts k ks l fs) (sym is) (subst (AreFirsts k ks (insert_first eq es e firsts at)) (sym keys) (by (list_any (eq e) es)))
    where
      by : (b : Bool) → AreFirsts k ks (if b then firsts else firsts ++ at ∷ []) (if b then es else es ++ e ∷ [])
      by true = was
      by false = all_zipped_more (HasEndedAt k ks) firsts es at e was h
