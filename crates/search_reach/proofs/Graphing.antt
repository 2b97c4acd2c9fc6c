-- The moves that a search noted, as a graph of its states.
use Rattle.std.specs.Prelude.{◌≡◌, ◌==◌, ◌⊎◌, ℕ, zero, suc, Bool, true, false, List, [], ◌∷◌, length, Contains, slice_get, Some, refl, cond}
use Rattle.std.proofs.Common.{ap, subst, sym, ◌∙◌, inl, inr, arith}
use Rattle.std.proofs.lemmas.List.Elements.{Contains-push_cases, Contains-append_cases}
use Rattle.std.proofs.lemmas.Bool.{eq-eqb, cond-true}
use Rattle.std.proofs.lemmas.Option.{slice_get_within, get_or_from_slice_get, slice_get-get_or}
use Rattle.search_graph.specs.Paths.{Goes, Reaches}
use Rattle.search_graph.specs.Graph.{Moves, Steps as MoveSteps}
use Rattle.search_graph.specs.declared.graph.Move.{Move}
use Rattle.search_reach.specs.declared.explores.NextState.{NextState}
use Rattle.search_reach.specs.Search.{StepSystem, Steps, Covers, IsAll, StaysIn, LeadsOn}
use Rattle.search_reach.specs.Explored.{moves_from, IsGoneOn, ExploredTo}
use Rattle.search_reach.proofs.Paths.{stays, one_step, onward}
use Rattle.search_reach.proofs.Searching.{Contains-head, Contains-tail, noted-each, noted-all, comes-next}

-- a move from a state is one of all
pub of-all : (at : ℕ) (ms : List Move) (m : Move) → Contains (moves_from at ms) m → Contains ms m
of-all at [] m c = c
of-all at (n ∷ ms) m c = by (n.from == at) c (λ d. of-all at ms m d)
  where
    found : Contains (n ∷ []) m ⊎ Contains (moves_from at ms) m → (Contains (moves_from at ms) m → Contains ms m) → Contains (n ∷ ms) m
    found (inl d) rest = one (Contains-push_cases [] n m d)
      where
        one : Contains [] m ⊎ (n ≡ m) → Contains (n ∷ ms) m
        one (inl x) = absurd (omega (arith, x.1))
        one (inr e) = subst (λ v. Contains (n ∷ ms) v) e (Contains-head n ms)
    found (inr d) rest = Contains-tail n m ms (rest d)

    by : (b : Bool) → Contains (cond b (n ∷ moves_from at ms) (moves_from at ms)) m → (Contains (moves_from at ms) m → Contains ms m) → Contains (n ∷ ms) m
    by true d rest = found (Contains-append_cases (n ∷ []) (moves_from at ms) m d) rest
    by false d rest = Contains-tail n m ms (rest d)

-- and one of all that is from it is among them
pub of-those : (at : ℕ) (ms : List Move) (m : Move) → m.from ≡ at → Contains ms m → Contains (moves_from at ms) m
of-those at [] m is c = c
of-those at (n ∷ ms) m is c = by (Contains-append_cases (n ∷ []) ms m c) (λ d. of-those at ms m is d)
  where
    kept : (b : Bool) → Contains (moves_from at ms) m → Contains (cond b (n ∷ moves_from at ms) (moves_from at ms)) m
    kept true d = Contains-tail n m (moves_from at ms) d
    kept false d = d

    one : Contains [] m ⊎ (n ≡ m) → Contains (moves_from at (n ∷ ms)) m
    one (inl d) = absurd (omega (arith, d.1))
    one (inr e) =
        let from : n.from ≡ at = ap (λ (v : Move). v.from) e ∙ is in
        let here : moves_from at (n ∷ ms) ≡ n ∷ moves_from at ms = cond-true (n.from == at) (n ∷ moves_from at ms) (moves_from at ms) (eq-eqb n.from at from) in
        subst (λ l. Contains l m) (sym here) (subst (λ v. Contains (n ∷ moves_from at ms) v) e (Contains-head n (moves_from at ms)))

    by : Contains (n ∷ []) m ⊎ Contains ms m → (Contains ms m → Contains (moves_from at ms) m) → Contains (moves_from at (n ∷ ms)) m
    by (inl d) rest = one (Contains-push_cases [] n m d)
    by (inr d) rest = kept (n.from == at) (rest d)

module _ {S W E : Type 0} (k : StepSystem S W E) (eq : S → S → Bool) (ks : List S) (moves : List Move) where
  module _ (same : (x y : S) → eq x y ≡ true → (w : W) (left : ℕ → ℕ) → k.stands x w left → k.stands y w left) where
    -- what was noted to a next state
    pub record MoveTo (index : ℕ) (x : NextState S) : Type 0 where
      pub to : ℕ
      pub move : Moves moves index x.thread to
      pub state : S
      pub at : slice_get ks to ≡ Some state
      pub alike : (w : W) (left : ℕ → ℕ) → k.stands x.state w left → k.stands state w left

    pub move_to : (index : ℕ) (s : S) → (g : IsGoneOn k eq ks moves index s) → (x : NextState S) → Contains g.next x → MoveTo index x
    move_to index s g x c =
        let f = noted-all eq ks index g.next (moves_from index moves) g.noted x c in
        let m = f.0 in
        let is = f.2 in
        let whole : m ≡ record { from = index; thread = x.thread; next = m.next } = λ i. record { from = is.from i; thread = is.thread i; next = m.next } in
        record {
          to = m.next;
          move = subst (λ (v : Move). Contains moves v) whole (of-all index moves m f.1);
          state = is.next.key;
          at = is.next.at;
          alike = same x.state is.next.key is.next.is;
        }

    -- and from where a move comes
    pub record MoveBy (index t to : ℕ) (xs : List (NextState S)) : Type 0 where
      pub next : NextState S
      pub among : Contains xs next
      pub by : next.thread ≡ t
      pub state : S
      pub at : slice_get ks to ≡ Some state
      pub alike : (w : W) (left : ℕ → ℕ) → k.stands next.state w left → k.stands state w left

    pub move_by : (index t to : ℕ) (s : S) (g : IsGoneOn k eq ks moves index s) → Moves moves index t to → MoveBy index t to g.next
    move_by index t to s g h =
        let f = noted-each eq ks index g.next (moves_from index moves) g.noted (record { from = index; thread = t; next = to })
        (of-those index moves (record { from = index; thread = t; next = to }) refl h) in
        record {
          next = f.0;
          among = f.1;
          by = sym f.2.thread;
          state = f.2.next.key;
          at = f.2.next.at;
          alike = same f.0.state f.2.next.key f.2.next.is;
        }

    module _ (e : ExploredTo k eq ks moves (length ks)) where
      -- the state of this index stands for it
      pub record Stands (index : ℕ) (w : W) : Type 0 where
        pub state : S
        pub at : slice_get ks index ≡ Some state
        pub left : ℕ → ℕ
        pub is : k.stands state w left

      pub gone_on : (index : ℕ) (s : S) → slice_get ks index ≡ Some s → IsGoneOn k eq ks moves index s
      gone_on index s at = e.gone_on index s (slice_get_within ks index s at) at

      pub covered : (w : W) → Covers k ks w → (index : ℕ) × Stands index w
      covered w c =
          let at : slice_get ks c.among.0 ≡ Some c.state = slice_get-get_or ks c.among.0 c.state c.among.1 ∙ ap Some c.among.2 in
          (c.among.0, record { state = c.state; at = at; left = c.is.0; is = c.is.1 })

      pub covers : (index : ℕ) (w : W) → Stands index w → Covers k ks w
      covers index w st = record {
        state = st.state;
        among = (index, slice_get_within ks index st.state st.at, get_or_from_slice_get ks index st.state st.state st.at);
        is = (st.left, st.is);
      }

      -- a step stays, or a move leads on
      pub record Follows (index : ℕ) (z : W) : Type 0 where
        pub to : ℕ
        pub path : Reaches (MoveSteps moves) index to
        pub is : Stands to z

      pub follow : (index : ℕ) (w z : W) → Stands index w → Steps k w z → Follows index z
      follow index w z st step = by ((g.are).orderly.idles w z step.0 (st.left, st.is) step.1)
        where
          g : IsGoneOn k eq ks moves index st.state
          g = gone_on index st.state st.at

          stay : (left : ℕ → ℕ) → k.stands st.state z left → Follows index z
          stay left is = record {
            to = index;
            path = stays (MoveSteps moves) index;
            is = record { state = st.state; at = st.at; left = left; is = is };
          }

          go : StaysIn k st.state step.0 z st.left ⊎ LeadsOn k g.next step.0 z st.left → Follows index z
          go (inl r) = stay r.after r.is
          go (inr r) =
              let m = move_to index st.state g r.next r.among in
              record {
                to = m.to;
                path = one_step (MoveSteps moves) index m.to (record { thread = r.next.thread; is = m.move });
                is = record { state = m.state; at = m.at; left = r.after; is = m.alike z r.after r.is };
              }

          by : k.worlds.can w step.0 ⊎ (z ≡ w) → Follows index z
          by (inl can) = go ((g.are).step w z st.left step.0 st.is can step.1)
          by (inr e) = stay st.left (subst (λ v. k.stands st.state v st.left) (sym e) st.is)

      follow_all : (count : ℕ) (index : ℕ) (w z : W) → Stands index w → Goes (Steps k) count w z → Follows index z
      follow_all zero index w z st p = record {
        to = index;
        path = stays (MoveSteps moves) index;
        is = record { state = st.state; at = st.at; left = st.left; is = subst (λ v. k.stands st.state v st.left) p st.is };
      }
      follow_all (suc count) index w z st p =
          let f = follow index w p.0 st p.1 in
          let g = follow_all count f.to p.0 z f.is p.2 in
          record { to = g.to; path = onward (MoveSteps moves) index f.to g.to f.path g.path; is = g.is }

      -- a path of steps is one of moves
      pub followed : (index : ℕ) (w z : W) → Stands index w → Reaches (Steps k) w z → Follows index z
      followed index w z st r = follow_all r.count index w z st r.path

      -- and the other way round
      pub record Leads (to : ℕ) (w : W) : Type 0 where
        pub end : W
        pub path : Reaches (Steps k) w end
        pub is : Stands to end

      lead : (index to : ℕ) (w : W) → Stands index w → MoveSteps moves index to → Leads to w
      lead index to w st step =
          let g = gone_on index st.state st.at in
          let m = move_by index step.thread to st.state g step.is in
          let c = comes-next eq k st.state g.next g.are w (st.left, st.is) m.next m.among in
          record {
            end = c.end;
            path = c.path;
            is = record { state = m.state; at = m.at; left = c.is.0; is = m.alike c.end c.is.0 c.is.1 };
          }

      lead_all : (count : ℕ) (index to : ℕ) (w : W) → Stands index w → Goes (MoveSteps moves) count index to → Leads to w
      lead_all zero index to w st p = record { end = w; path = stays (Steps k) w; is = subst (λ i. Stands i w) p st }
      lead_all (suc count) index to w st p =
          let f = lead index p.0 w st p.1 in
          let g = lead_all count p.0 to f.end f.is p.2 in
          record { end = g.end; path = onward (Steps k) w f.end g.end f.path g.path; is = g.is }

      pub leads : (index to : ℕ) (w : W) → Stands index w → Reaches (MoveSteps moves) index to → Leads to w
      leads index to w st r = lead_all r.count index to w st r.path

      -- all that can be reached is stood for
      pub explored-all : IsAll k ks
      explored-all w z b r =
          let c = covered w (e.begun w b) in
          let f = followed c.0 w z c.1 r in
          covers f.to z f.is
