-- A run of the worlds is a run of the graph that has their steps.
use Rattle.std.specs.Prelude.{◌≡◌, ◌≢◌, ◌<◌, ◌≤◌, ◌+◌, ◌-◌, ◌⊎◌, ℕ, zero, suc, List, Option, Some, None, refl}
use Rattle.std.proofs.Common.{ap, subst, sym, inl, inr, arith}
use Rattle.std.proofs.lemmas.Bool.{cases_eq}
use Rattle.search_graph.specs.declared.graph.Move.{Move}
use Rattle.search_graph.specs.Graph.{CanMove, IsStill}
use Rattle.search_graph.specs.Runs.{Turns, Run, GetsTurn, IsFair, EveryFairRunEnds}
use Rattle.search_graph.specs.Worlds.{Worlds, EndlessRun, GetsStep, IsFairRun, FairRun, Stays, Leads, IsGraphOf}
use Rattle.search_graph.proofs.Having.{decide}

-- The sum of f at the numbers below n.
abbrev sum_below : (ℕ → ℕ) → ℕ → ℕ
sum_below f zero = 0
sum_below f (suc n) = f n + sum_below f n

sum-le : (f g : ℕ → ℕ) (n : ℕ) → ((u : ℕ) → u < n → f u ≤ g u) → sum_below f n ≤ sum_below g n
sum-le f g zero h = omega arith
sum-le f g (suc n) h = omega (arith, h n (omega arith), sum-le f g n (λ u l. h u (omega arith)))

-- It falls where one of them does and none rises.
sum-falls : (f g : ℕ → ℕ) (n t : ℕ) → t < n → f t < g t → ((u : ℕ) → u ≢ t → f u ≤ g u) → sum_below f n < sum_below g n
sum-falls f g zero t l less h = absurd (omega arith)
sum-falls f g (suc n) t l less h = by (cases_eq t n) (λ q. sum-falls f g n t q less h)
  where
    by : (t ≡ n) ⊎ (t ≢ n) → (t < n → sum_below f n < sum_below g n) → f n + sum_below f n < g n + sum_below g n
    by (inl e) rest =
        let here : f n < g n = subst (λ v. f v < g v) e less in
        omega (arith, here, sum-le f g n (λ u b. h u (omega arith)))
    by (inr m) rest = omega (arith, h n (omega (arith, m)), rest (omega (arith, m)))

module _ {W : Type 0} (worlds : Worlds W) (stands : ℕ → W → (ℕ → ℕ) → Type 0) (most : ℕ) (moves : List Move) (graph : IsGraphOf worlds stands most moves) where
  -- What the graph does at a step of thread t: it makes the thread's move, or nothing, and then the thread has fewer steps left.
  record Follows (s t : ℕ) (z : W) (left : ℕ → ℕ) : Type 0 where
    next : ℕ
    by : Option ℕ
    turns : Turns moves s by next
    after : ℕ → ℕ
    within : stands next z after
    own : (by ≡ Some t) ⊎ ((next ≡ s) × (after t < left t))
    others : (u : ℕ) → u ≢ t → CanMove moves s u ⊎ IsStill moves s → after u ≤ left u

  follows : (s t : ℕ) (z : W) (left : ℕ → ℕ) → Stays worlds stands s t z left ⊎ Leads worlds stands moves s t z left → Follows s t z left
  follows s t z left (inl r) = record {
    next = s;
    by = None;
    turns = refl;
    after = r.after;
    within = r.within;
    own = inr (refl, r.fewer);
    others = λ u n _. r.others u n;
  }
  follows s t z left (inr r) = record {
    next = r.next;
    by = Some t;
    turns = r.move;
    after = r.after;
    within = r.within;
    own = inl refl;
    others = λ u n h. here u n h;
  }
    where
      here : (u : ℕ) → u ≢ t → CanMove moves s u ⊎ IsStill moves s → r.after u ≤ left u
      here u n (inl c) = r.others u n c
      here u n (inr still) = absurd (still t (record { next = r.next; is = r.move }))

  module _ (run : EndlessRun worlds) (s : ℕ) (first : ℕ → ℕ) (begins : stands s (run.at 0) first) where
    record Here (k : ℕ) : Type 0 where
      state : ℕ
      left : ℕ → ℕ
      within : stands state (run.at k) left

    abbrev step : (k : ℕ) (h : Here k) → Follows h.state (run.by k) (run.at (suc k)) h.left
    step k h = follows h.state (run.by k) (run.at (suc k)) h.left (graph.step h.state (run.by k) (run.at k) (run.at (suc k)) h.left h.within (run.goes k)
        (run.makes k))

    abbrev here : (k : ℕ) → Here k
    here zero = record { state = s; left = first; within = begins }
    here (suc k) = record { state = (step k (here k)).next; left = (step k (here k)).after; within = (step k (here k)).within }

    -- The run of the graph.
    abbrev shadow : Run moves
    shadow = record { at = λ k. (here k).state; by = λ k. (step k (here k)).by; turns = λ k. (step k (here k)).turns }

    -- At this moment it moves, or has no move, or has no more steps left.
    rests-or-falls : (k t : ℕ) → GetsTurn moves shadow k t ⊎ ((here (suc k)).left t ≤ (here k).left t)
    rests-or-falls k t = by (cases_eq t (run.by k)) (decide moves (here k).state t)
      where
        mine : t ≡ run.by k → (shadow.by k ≡ Some (run.by k)) ⊎ (((here (suc k)).state ≡ (here k).state) ×
            ((here (suc k)).left (run.by k) < (here k).left (run.by k)))
            → GetsTurn moves shadow k t ⊎ ((here (suc k)).left t ≤ (here k).left t)
        mine e (inl q) = inl (record { later = k; since = omega arith; is = inl (subst (λ v. shadow.by k ≡ Some v) (sym e) q) })
        mine e (inr p) =
            let less : (here (suc k)).left t < (here k).left t = subst (λ v. (here (suc k)).left v < (here k).left v) (sym e) p.1 in
            inr (omega arith)

        by : (t ≡ run.by k) ⊎ (t ≢ run.by k) → CanMove moves (here k).state t ⊎ (CanMove moves (here k).state t → ⊥)
            → GetsTurn moves shadow k t ⊎ ((here (suc k)).left t ≤ (here k).left t)
        by (inl e) d = mine e ((step k (here k)).own)
        by (inr n) (inl c) = inr ((step k (here k)).others t n (inl c))
        by (inr n) (inr m) = inl (record { later = k; since = omega arith; is = inr m })

    -- Until then the thread has moved or has had no move, or it has no more steps left than now.
    waits : (more k j t : ℕ) → j ≡ k + more → GetsTurn moves shadow k t ⊎ ((here j).left t ≤ (here k).left t)
    waits zero k j t e = let p : j ≡ k = omega arith in inr (omega (arith, ap (λ i. (here i).left t) p))
    waits (suc more) k j t e = by (rests-or-falls k t) (waits more (suc k) j t (omega arith))
      where
        by : GetsTurn moves shadow k t ⊎ ((here (suc k)).left t ≤ (here k).left t) → GetsTurn moves shadow (suc k) t ⊎ ((here j).left t ≤ (here (suc k)).left t)
            → GetsTurn moves shadow k t ⊎ ((here j).left t ≤ (here k).left t)
        by (inl g) r = inl g
        by (inr h) (inl g) = inl (record { later = g.later; since = omega (arith, g.since); is = g.is })
        by (inr h) (inr r) = inr (omega arith)

    module _ (fair : IsFairRun worlds run) where
      -- By induction on a bound of the steps that the thread has left.
      gets : (bound k t : ℕ) → (here k).left t < bound → CanMove moves (here k).state t → GetsTurn moves shadow k t
      gets zero k t b c = absurd (omega arith)
      gets (suc bound) k t b c =
          found (fair k t (graph.goes_on (here k).state t (run.at k) (here k).left (here k).within c)) (λ i h d. gets bound i t h d)
        where
          after : (j : ℕ) → k ≤ j → (here j).left t ≤ (here k).left t → CanMove moves (here j).state t
              → (shadow.by j ≡ Some t) ⊎ (((here (suc j)).state ≡ (here j).state) × ((here (suc j)).left t < (here j).left t))
              → ((i : ℕ) → (here i).left t < bound → CanMove moves (here i).state t → GetsTurn moves shadow i t) → GetsTurn moves shadow k t
          after j h l d (inl q) rest = record { later = j; since = h; is = inl q }
          after j h l d (inr p) rest =
              let less = p.1 in
              let g = rest (suc j) (omega arith) (subst (λ v. CanMove moves v t) (sym p.0) d) in
              record { later = g.later; since = omega (arith, g.since); is = g.is }

          mine : (j : ℕ) → run.by j ≡ t → (shadow.by j ≡ Some t) ⊎ (((here (suc j)).state ≡ (here j).state) × ((here (suc j)).left t < (here j).left t))
          mine j e =
              subst (λ v. (shadow.by j ≡ Some v) ⊎ (((here (suc j)).state ≡ (here j).state) × ((here (suc j)).left v < (here j).left v))) e
              ((step j (here j)).own)

          still : (j : ℕ) → k ≤ j → run.by j ≡ t → (here j).left t ≤ (here k).left t → CanMove moves (here j).state t ⊎ (CanMove moves (here j).state t → ⊥)
              → ((i : ℕ) → (here i).left t < bound → CanMove moves (here i).state t → GetsTurn moves shadow i t) → GetsTurn moves shadow k t
          still j h e l (inl d) rest = after j h l d (mine j e) rest
          still j h e l (inr n) rest = record { later = j; since = h; is = inr n }

          waited : (g : GetsStep worlds run k t) → GetsTurn moves shadow k t ⊎ ((here g.later).left t ≤ (here k).left t)
              → ((i : ℕ) → (here i).left t < bound → CanMove moves (here i).state t → GetsTurn moves shadow i t) → GetsTurn moves shadow k t
          waited g (inl r) rest = r
          waited g (inr l) rest = still g.later g.since g.is l (decide moves (here g.later).state t) rest

          found : GetsStep worlds run k t → ((i : ℕ) → (here i).left t < bound → CanMove moves (here i).state t → GetsTurn moves shadow i t) →
              GetsTurn moves shadow k t
          found g rest = waited g (let since = g.since in waits (g.later - k) k g.later t (omega arith)) rest

      shadow-fair : IsFair moves shadow
      shadow-fair k t c = gets (suc ((here k).left t)) k t (omega arith) c

    -- Where no thread has a move, each step leaves the state, and the steps that are left get fewer.
    falls-there : (k : ℕ) → IsStill moves (here k).state → ((here (suc k)).state ≡ (here k).state) ×
        (sum_below (here (suc k)).left most < sum_below (here k).left most)
    falls-there k still = by ((step k (here k)).own)
      where
        by : (shadow.by k ≡ Some (run.by k)) ⊎ (((here (suc k)).state ≡ (here k).state) × ((here (suc k)).left (run.by k) < (here k).left (run.by k)))
            → ((here (suc k)).state ≡ (here k).state) × (sum_below (here (suc k)).left most < sum_below (here k).left most)
        by (inl q) = absurd (still (run.by k) (record {
          next = (here (suc k)).state;
          is = subst (λ o. Turns moves (here k).state o (here (suc k)).state) q
              (shadow.turns k);
        }))
        by (inr p) = (
          p.0,
          sum-falls (here (suc k)).left (here k).left most (run.by k)
              (graph.few (here k).state (run.by k) (run.at k) (here k).left (here k).within (run.goes k)) p.1 (λ u n. (step k (here k)).others u n (inr still)),
        )

    never-still : (bound k : ℕ) → sum_below (here k).left most < bound → IsStill moves (here k).state → ⊥
    never-still zero k b still = omega arith
    never-still (suc bound) k b still =
        let f = falls-there k still in
        let less = f.1 in
        never-still bound (suc k) (omega arith) (subst (IsStill moves) (sym f.0) still)

    shadow-ends : EveryFairRunEnds moves → IsFairRun worlds run → ⊥
    shadow-ends all fair =
        let e = all shadow (shadow-fair fair) in
        never-still (suc (sum_below (here e.moment).left most)) e.moment (omega arith) e.is

-- Where the graph has the steps of the worlds and each fair run of it ends, no fair run of the worlds goes on for ever.
pub no-fair-run : {W : Type 0} (worlds : Worlds W) (stands : ℕ → W → (ℕ → ℕ) → Type 0) (most : ℕ) (moves : List Move)
    → IsGraphOf worlds stands most moves → EveryFairRunEnds moves → (s : ℕ) (w : W) (left : ℕ → ℕ) → stands s w left → FairRun worlds w → ⊥
no-fair-run worlds stands most moves graph all s w left h f =
    shadow-ends worlds stands most moves graph f.run s left (subst (λ v. stands s v left) (sym f.begins) h) all f.fair
