-- What is said of the graph of all states, said of the worlds that they stand for.
use Rattle.std.specs.Prelude.{◌≡◌, ◌<◌, ◌⊎◌, ◌↔◌, ℕ, zero, suc, Bool, true, false, List, [], ◌∷◌, length, All, Contains}
use Rattle.std.specs.Prelude.{Option, Some, None, refl, slice_index_or}
use Rattle.std.proofs.Common.{ap, subst, sym, ◌∙◌, inl, inr, true≢false}
use Rattle.std.specs.List.{slice_get, AllZip, IsDistinct}
use Rattle.std.specs.List.Sorted.{IsStrictlyIncreasing}
use Rattle.std.specs.Option.{is_some, IfSome}
use Rattle.search_graph.specs.Paths.{Goes, Reaches}
use Rattle.std.proofs.lemmas.Option.{slice_get_within, none-some}
use Rattle.std.proofs.lemmas.List.Elements.{All-weaker, All-contains_itself}
use Rattle.search_graph.specs.Graph.{Moves, IsWithin, IsMarked, CanMove, CanEnd as PathEnds, CannotEnd}
use Rattle.search_graph.specs.Runs.{Turns, EveryFairRunEnds, HasFairCycle}
use Rattle.search_graph.specs.Round.{moves_at}
use Rattle.search_graph.specs.Worlds.{FairRun, CanStep, Persists, MakesMove, IsGraphOf, IsMadeOf}
use Rattle.search_graph.specs.Worlds as worlds
use Rattle.search_graph.specs.declared.graph.Graph.{Graph}
use Rattle.search_graph.specs.declared.graph.Move.{Move}
use Rattle.search_graph.proofs.Shadow.{no-fair-run}
use Rattle.search_graph.proofs.Rounds.{fair-run-along, fair-run-round}
use Rattle.search_reach.specs.Search.{StepSystem, Steps, StandsFor, RestsIn, HasOf, IsMet, IsMarkedSo, StaysIn, LeadsOn, ComesBy}
use Rattle.search_reach.specs.Explored.{IsGoneOn, ExploredTo}
use Rattle.search_reach.specs.Liveness.{CanEndSomehow, NeverEnds, StillEnds, AreEndless, LeadsToEndless, SaysOf, IsLive}
use Rattle.search_reach.specs.Liveness.{IsLiveWhereAll, SaysOfGraph, IsGraphLive, IsJudged}
use Rattle.search_reach.specs.Found.{Claims, IsFound}
use Rattle.search_reach.specs.Moved.{IsPathTo, IsMoved}
use Rattle.search_reach.specs.Ways.{AreNumbered, GoRound}
use Rattle.search_reach.specs.declared.follows.Wish.{Wish}
use Rattle.search_reach.specs.declared.search.Verdict.{Verdict}
use Rattle.search_reach.specs.declared.search.Verdict.TheVariants as verdicts
use Rattle.search_reach.specs.declared.liveness.FairRuns.{FairRuns}
use Rattle.search_reach.specs.declared.liveness.FairRuns.TheVariants.{AllEnd, GoOn, Unknown}
use Rattle.search_reach.specs.declared.liveness.Liveness.{Liveness}
use Rattle.search_reach.proofs.Paths.{stays, one_step, onward}
use Rattle.search_reach.proofs.Searching.{here}
use Rattle.search_reach.proofs.Moving.{at-some}
use Rattle.search_reach.proofs.Leading.{way-to, round-by}
use Rattle.search_reach.proofs.Graphing.{move_to, move_by, Stands, gone_on, follow, covered, followed, leads, explored-all}

-- the mark of a state
mark_at : {S : Type 0} (R : S → Bool → Type 0) (ks : List S) (marks : List Bool) (p : ℕ) (s : S) → AllZip R ks marks → slice_get ks p ≡ Some s
    → R s (slice_index_or marks p false)
mark_at R [] marks p s h at = absurd (none-some s at)
mark_at R (k ∷ ks) [] p s h at = absurd h
mark_at R (k ∷ ks) (m ∷ marks) zero s h at = let same : k ≡ s = cc at in subst (λ x. R x m) same h.0
mark_at R (k ∷ ks) (m ∷ marks) (suc p) s h at = mark_at R ks marks p s h.1 at

some_of : {A : Type 0} (o : Option A) → is_some o ≡ true → (x : A) × (o ≡ Some x)
some_of None h = absurd (true≢false (sym h))
some_of (Some x) h = (x, refl)

module _ {S W E : Type 0} (k : StepSystem S W E) (eq : S → S → Bool) (ks : List S) (moves : List Move)
    (same : (x y : S) → eq x y ≡ true → (w : W) (left : ℕ → ℕ) → k.stands x w left → k.stands y w left) (e : ExploredTo k eq ks moves (length ks)) where
  abbrev StandsAt : ℕ → W → Type 0
  StandsAt p w = Stands k eq ks moves same e p w

  -- the state of this place stands for it, with so many steps left
  pub record Stood (p : ℕ) (w : W) (left : ℕ → ℕ) : Type 0 where
    pub state : S
    pub at : slice_get ks p ≡ Some state
    pub is : k.stands state w left

  of_stood : (p : ℕ) (w : W) (left : ℕ → ℕ) → Stood p w left → StandsAt p w
  of_stood p w left st = record { state = st.state; at = st.at; left = left; is = st.is }

  gone : (p : ℕ) (s : S) → slice_get ks p ≡ Some s → IsGoneOn k eq ks moves p s
  gone p s at = gone_on k eq ks moves same e p s at

  has_of : (p u : ℕ) (s : S) (at : slice_get ks p ≡ Some s) → CanMove moves p u → HasOf (gone p s at).next u
  has_of p u s at can =
      let m = move_by k eq ks moves same p u can.next s (gone p s at) can.is in
      record { next = m.next; among = m.among; is = m.by }

  can_move : (p u : ℕ) (s : S) (at : slice_get ks p ≡ Some s) → HasOf (gone p s at).next u → CanMove moves p u
  can_move p u s at has =
      let m = move_to k eq ks moves same p s (gone p s at) has.next has.among in
      record { next = m.to; is = subst (λ (n : ℕ). Moves moves p n m.to) has.is m.move }

  -- the graph has the steps of the worlds
  graph_step : (p t : ℕ) (w z : W) (left : ℕ → ℕ) → Stood p w left → k.worlds.can w t → k.worlds.steps t w z
      → worlds.Stays k.worlds Stood p t z left ⊎ worlds.Leads k.worlds Stood moves p t z left
  graph_step p t w z left st can step = by (((gone p st.state st.at).are).step w z left t st.is can step)
    where
      by : StaysIn k st.state t z left ⊎ LeadsOn k (gone p st.state st.at).next t z left
          → worlds.Stays k.worlds Stood p t z left ⊎ worlds.Leads k.worlds Stood moves p t z left
      by (inl r) = inl (record {
        after = r.after;
        within = record { state = st.state; at = st.at; is = r.is };
        fewer = r.fewer;
        others = r.others;
      })
      by (inr r) =
          let m = move_to k eq ks moves same p st.state (gone p st.state st.at) r.next r.among in
          inr (record {
            next = m.to;
            move = subst (λ (n : ℕ). Moves moves p n m.to) r.by m.move;
            after = r.after;
            within = record { state = m.state; at = m.at; is = m.alike z r.after r.is };
            others = λ u apart can. r.others u apart (has_of p u st.state st.at can);
          })

  graph_of : IsGraphOf k.worlds Stood k.most moves
  graph_of = record {
    few = λ p t w left st can. ((gone p st.state st.at).are).orderly.few w t (left, st.is) can;
    step = graph_step;
    goes_on = λ p t w left st can.
        let has = has_of p t st.state st.at can in
        subst (λ (n : ℕ). k.worlds.can w n) has.is (((gone p st.state st.at).are).goes_on w (left, st.is) has.next has.among);
  }

  -- and the worlds make its moves
  abbrev Rested : ℕ → W → Type 0
  Rested p w = Stood p w (λ (n : ℕ). 0)

  abbrev Among : W → Type 0
  Among w = (p : ℕ) × StandsAt p w

  persists : Persists k.worlds Among
  persists = record {
    kept = λ t w z among can step. (let f = follow k eq ks moves same e among.0 w z among.1 (t, step) in (f.to, f.is));
    still = λ t u w z among can step apart going.
        let st = among.1 in
        ((gone among.0 st.state st.at).are).orderly.persists w z t u (st.left, st.is) can step apart going;
  }

  makes : (p t next : ℕ) (w : W) → Moves moves p t next → Rested p w → MakesMove k.worlds Rested t next w
  makes p t next w move st =
      let g = gone p st.state st.at in
      let m = move_by k eq ks moves same p t next st.state g move in
      let c = subst (λ (n : ℕ). ComesBy k n w m.next.state) m.by ((g.are).comes w st.is m.next m.among) in
      record {
        can = c.can;
        second = c.second;
        is = c.is;
        end = c.end;
        path = c.path;
        rest = record { state = m.state; at = m.at; is = m.alike c.end (λ (n : ℕ). 0) c.rest };
      }

  made_of : IsMadeOf k.worlds Rested Among moves
  made_of = record {
    persists = persists;
    inside = λ p w st. (p, of_stood p w (λ (n : ℕ). 0) st);
    makes = makes;
    all = λ p u w st can. can_move p u st.state st.at (((gone p st.state st.at).are).all w st.is u can);
  }

  -- threads that can go on come wherever threads come
  going : (count p : ℕ) (w z : W) → StandsAt p w → Goes (Steps k) count w z → Reaches (CanStep k.worlds) w z
  going zero p w z st path = subst (λ v. Reaches (CanStep k.worlds) w v) path (stays (CanStep k.worlds) w)
  going (suc count) p w z st path =
      let step = path.1 in
      let f = follow k eq ks moves same e p w path.0 st step in
      onward (CanStep k.worlds) w path.0 z (one (((gone p st.state st.at).are).orderly.idles w path.0 step.0 (st.left, st.is) step.1))
      (going count f.to path.0 z f.is path.2)
    where
      one : k.worlds.can w (path.1).0 ⊎ (path.0 ≡ w) → Reaches (CanStep k.worlds) w path.0
      one (inl can) = one_step (CanStep k.worlds) w path.0 (record { thread = (path.1).0; can = can; is = (path.1).1 })
      one (inr e) = subst (λ v. Reaches (CanStep k.worlds) w v) (sym e) (stays (CanStep k.worlds) w)

  -- a fair run from where it begins
  pub fair_run : (start : ℕ) (walk : List Move) → HasFairCycle moves start walk → (w : W) × k.begins w × FairRun k.worlds w
  fair_run start walk cycle = (met.from, met.begun, run)
    where
      within : start < length ks
      within = subst (λ (n : ℕ). n < length ks) cycle.starts
          (e.from _ (subst (λ o. Turns moves (cycle.run.at 0) o (cycle.run.at 1)) (cycle.makes 0).thread (cycle.run.turns 0))).0

      state : (s : S) × (slice_get ks start ≡ Some s)
      state = at-some ks start within

      met : IsMet k state.0
      met = e.sound state.0 (here ks start state.0 state.1)

      first : (p : ℕ) × StandsAt p met.from
      first = covered k eq ks moves same e met.from (e.begun met.from met.begun)

      rest : (z : W) × Reaches (CanStep k.worlds) met.comes.end z × RestsIn k state.0 z
      rest = ((gone start state.0 state.1).are).orderly.settles met.comes.end met.comes.is

      path : Reaches (CanStep k.worlds) met.from rest.0
      path = onward (CanStep k.worlds) met.from met.comes.end rest.0
          (going met.comes.path.count first.0 met.from met.comes.end first.1 met.comes.path.path) rest.1

      run : FairRun k.worlds met.from
      run = fair-run-along k.worlds Among persists met.from rest.0 first path
          (fair-run-round k.worlds Rested Among moves made_of start walk cycle rest.0 (record { state = state.0; at = state.1; is = rest.2 }))

  -- none where each fair run of the graph ends
  pub no_fair_run : EveryFairRunEnds moves → (w : W) → k.begins w → FairRun k.worlds w → ⊥
  no_fair_run all w begins =
      let first = covered k eq ks moves same e w (e.begun w begins) in
      let st = first.1 in
      no-fair-run k.worlds Stood k.most moves graph_of all first.0 w st.left (record { state = st.state; at = st.at; is = st.is })

  -- from which states no ending can be reached
  module _ (marks : List Bool) (marked : AllZip (IsMarkedSo k) ks marks) where
    is_marked : (p : ℕ) (w : W) (en : E) → StandsAt p w → k.ends w en → IsMarked marks p
    is_marked p w en st ends =
        let m = mark_at (IsMarkedSo k) ks marks p st.state marked st.at in
        m.mark_is ∙ ap (λ o. is_some o) (m.is.all w en (st.left, st.is) ends)

    path_ends : (p : ℕ) (w : W) → StandsAt p w → CanEndSomehow k w → PathEnds moves marks p
    path_ends p w st can =
        let f = followed k eq ks moves same e p w can.1.end st can.1.path in
        record { end = f.to; path = f.path; is = is_marked f.to can.1.end can.0 f.is can.1.is }

    ends_so : (p : ℕ) (w : W) → StandsAt p w → PathEnds moves marks p → CanEndSomehow k w
    ends_so p w st path =
        let f = leads k eq ks moves same e p path.end w st path.path in
        let to = f.is in
        let m = mark_at (IsMarkedSo k) ks marks path.end to.state marked to.at in
        let en = some_of m.ending (sym m.mark_is ∙ path.is) in
        let can = m.is.sound f.end en.0 (to.left, to.is) en.1 in
        (en.0, record { end = can.end; path = onward (Steps k) w f.end can.end f.path can.path; is = can.is })

    standing : (p : ℕ) (s : S) (w : W) → slice_get ks p ≡ Some s → StandsFor k s w → StandsAt p w
    standing p s w at stands = record { state = s; at = at; left = stands.0; is = stands.1 }

    module _ (places : List ℕ) (order : IsStrictlyIncreasing places)
        (exact : (p : ℕ) → Contains places p ↔ CannotEnd moves marks (length ks) p)
        (others : (p : ℕ) → p < length ks → Contains places p ⊎ PathEnds moves marks p) where
      each : (p : ℕ) (s : S) → slice_get ks p ≡ Some s → Contains places p ⊎ PathEnds moves marks p
          → (Contains places p × NeverEnds k s) ⊎ ((Contains places p → ⊥) × StillEnds k s)
      each p s at (inl c) = inl (c, λ w stands can. ((exact p).0 c).never (path_ends p w (standing p s w at stands) can))
      each p s at (inr path) = inr (λ c. ((exact p).0 c).never path, λ w stands. ends_so p w (standing p s w at stands) path)

      pub endless_are : AreEndless k ks places
      endless_are = record {
        order = order;
        within = λ p c. ((exact p).0 c).state;
        each = λ p s at. each p s at (others p (slice_get_within ks p s at));
      }

-- each move is from a state to a state
pub moves-within : {S W E : Type 0} (k : StepSystem S W E) (eq : S → S → Bool) (ks : List S) (moves : List Move) (states : ℕ) → states ≡ length ks
    → ExploredTo k eq ks moves (length ks) → All (IsWithin states) moves
moves-within k eq ks moves states is e =
    All-weaker (Contains moves) (IsWithin states)
    (λ m c. (let f = e.from m c in record { from = subst (λ (n : ℕ). m.from < n) (sym is) f.1; next = subst (λ (n : ℕ). m.next < n) (sym is) f.2 }))
    moves (All-contains_itself moves)

-- what is said of the graph is said of the worlds
module _ {S W E : Type 0} (k : StepSystem S W E) (eq : S → S → Bool) (ks : List S) (g : Graph)
    (same : (x y : S) → eq x y ≡ true → (w : W) (left : ℕ → ℕ) → k.stands x w left → k.stands y w left)
    (e : ExploredTo k eq ks g.moves.items (length ks)) where
  says : (f : FairRuns) → SaysOfGraph g f → SaysOf k f
  says AllEnd all = no_fair_run k eq ks g.moves.items same e all
  says (GoOn c) round = fair_run k eq ks g.moves.items same e round.cycle.start (moves_at g.moves.items round.cycle.walk.items) round.is.runs
  says Unknown h = tt

  go_round : IsMoved k eq ks g.moves.items → g.states ≡ length ks → (f : FairRuns) → SaysOfGraph g f → GoRound k eq f
  go_round moved is AllEnd all = tt
  go_round moved is (GoOn c) round =
      round-by k eq ks g.moves.items moved (λ m among. (e.from m among).1) c round.cycle.start round.cycle.walk.items (round.is).round
      (subst (λ (n : ℕ). IsPathTo g.moves.items n c.path.items round.cycle.start) is round.path) round.walk
  go_round moved is Unknown h = tt

  pub live : (marks : List Bool) → g.states ≡ length ks → IsDistinct eq ks → AllZip (IsMarkedSo k) ks marks → IsMoved k eq ks g.moves.items
      → (l : Liveness) → IsGraphLive g marks l → IsLive k eq g.states l
  live marks is distinct marked moved l said = record {
    keys = ks;
    counted = record { len = sym is; distinct = distinct; sound = e.sound };
    all = explored-all k eq ks g.moves.items same e;
    endless = endless_are k eq ks g.moves.items same e marks marked l.endless.items said.order
        (subst (λ (n : ℕ). (p : ℕ) → Contains l.endless.items p ↔ CannotEnd g.moves.items marks n p) is said.exact)
        (subst (λ (n : ℕ). (p : ℕ) → p < n → Contains l.endless.items p ⊎ PathEnds g.moves.items marks p) is said.others);
    path = λ p s first at. way-to k eq ks g.moves.items moved p l.path.items s at
        (subst (λ (n : ℕ). IsPathTo g.moves.items n l.path.items p) is (said.path p first));
    fair_runs = says l.fair_runs said.fair_runs;
    round = go_round moved is l.fair_runs said.fair_runs;
  }

-- by the verdict and the wish in the end
module _ (g : Graph) (ended : List Bool) (before : Verdict) (old : Wish) (after : Verdict) (new : Wish) (o : Option Liveness)
    (judged : IsJudged g ended before old after new o) where
  pub found-after : {A B : Type 0} (claims : Claims A) (others : Claims B) (most states : ℕ) (ks : List A) (es : List B) →
      IsFound claims most old before states ks
      → (claims.complete ks → others.complete es) → others.sound es → (claims.lost → others.lost) → IsFound others most new after states es
  found-after claims others most states ks es found complete sound lost = record {
    all = λ v. elim judged.verdict [
      | inl same ↦ complete (found.all (sym same ∙ v))
      | inr told ↦ (let t = told.0 in absurd (cc (t, v)))
    ];
    sound = sound;
    bound = λ v. elim judged.verdict [
      | inl same ↦ found.bound (sym same ∙ v)
      | inr told ↦ (let t = told.0 in absurd (cc (t, v)))
    ];
    gives_up = λ v. elim judged.verdict [
      | inl same ↦ lost (found.gives_up (sym same ∙ v))
      | inr told ↦ (let t = told.0 in absurd (cc (t, v)))
    ];
    told = λ v. elim judged.verdict [
      | inl same ↦ (let was = sym same ∙ v in (judged.unasked (λ all. cc (was, all))).0 ∙ found.told was)
      | inr told ↦ told.1
    ];
  }

  pub numbered-before : (states : ℕ) → AreNumbered after states → AreNumbered before states
  numbered-before states (inl all) = elim judged.verdict [
    | inl same ↦ inl (sym same ∙ all)
    | inr told ↦ (let t = told.0 in absurd (cc (t, all)))
  ]
  numbered-before states (inr few) = inr few

  pub all-back : after ≡ verdicts.All → before ≡ verdicts.All
  all-back v = elim judged.verdict [
    | inl same ↦ sym same ∙ v
    | inr told ↦ (let t = told.0 in absurd (cc (t, v)))
  ]

  pub sought-back : after ≡ verdicts.Sought → before ≡ verdicts.Sought
  sought-back v = elim judged.verdict [
    | inl same ↦ sym same ∙ v
    | inr told ↦ (let t = told.0 in absurd (cc (t, v)))
  ]

  pub sought-forth : before ≡ verdicts.Sought → after ≡ verdicts.Sought
  sought-forth v = (judged.unasked (λ all. cc (v, all))).1 ∙ v

pub live-after : {S W E : Type 0} (k : StepSystem S W E) (eq : S → S → Bool) (states : ℕ) (g : Graph) (ended : List Bool) (before : Verdict) (old : Wish)
    (after : Verdict) (new : Wish) (o : Option Liveness) → IsJudged g ended before old after new o
    → (before ≡ verdicts.All → (l : Liveness) → IsGraphLive g ended l → IsLive k eq states l) → IsLiveWhereAll k eq states after o
live-after k eq states g ended before old after new None judged lives = judged.unsaid refl
live-after k eq states g ended before old after new (Some l) judged lives =
    let said = judged.said in
    (said.1, lives said.0 l said.2)

-- where the choices lead that are said with it
module _ {S W E : Type 0} (k : StepSystem S W E) (eq : S → S → Bool) (states : ℕ) (verdict : Verdict) where
  pub leads-endless : (o : Option Liveness) → IsLiveWhereAll k eq states verdict o → IfSome o (LeadsToEndless k eq)
  leads-endless None unsaid = tt
  leads-endless (Some l) said = λ p first. (
      let live = said.1 in
      let among = here l.endless.items 0 p first in
      let s = at-some live.keys p (live.endless.within p among) in
      (s.0, never p s.0 among (live.endless.each p s.0 s.1), live.path p s.0 first s.1))
    where
      never : (p : ℕ) (s : S) → Contains l.endless.items p → (Contains l.endless.items p × NeverEnds k s) ⊎ ((Contains l.endless.items p → ⊥) × StillEnds k s)
          → NeverEnds k s
      never p s among (inl is) = is.1
      never p s among (inr other) = absurd (other.0 among)

  pub leads-round : (o : Option Liveness) → IsLiveWhereAll k eq states verdict o → IfSome o (λ l. GoRound k eq l.fair_runs)
  leads-round None unsaid = tt
  leads-round (Some l) said = said.1.round
