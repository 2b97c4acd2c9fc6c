-- What becomes of a run where only some threads go on: one of them steps first, or beside it.
use Rattle.std.specs.Prelude.{◌≡◌, ◌≢◌, ◌<◌, ◌≤◌, ◌+◌, ◌⊎◌, ℕ, zero, suc, Bool, true, false, List, [], ◌∷◌, ◌++◌, Contains, length, refl}
use Rattle.std.proofs.Common.{ap, subst, sym, ◌∙◌, inl, inr, arith, true≢false, length-append}
use Rattle.std.proofs.lemmas.Bool.{cases_Bool}
use Rattle.search_graph.specs.Graph.{Moves}
use Rattle.search_ample.specs.Systems.{System, CanGo, Runs, Minds, IsSame, AreIndependent}
use Rattle.search_ample.specs.Explored.{Explored, Meaning, IsExploredOf}
use Rattle.search_ample.specs.Ample.{IsAmple, Nears}
use Rattle.search_ample.specs.Found.{IsRun, IsInFootprint}
use Rattle.search_ample.proofs.Runs.{IsClear, runs-from, runs-join, runs-split, kept-along, comes-first}

-- None of these threads goes on.
abbrev pub NoneGoes : (ℕ → Bool) → List ℕ → Type 0
NoneGoes goes [] = Unit {0}
NoneGoes goes (n ∷ ns) = (goes n ≡ false) × NoneGoes goes ns

-- The first one that does.
pub record FirstGoing (goes : ℕ → Bool) (ns : List ℕ) : Type 0 where
  pub before : List ℕ
  pub thread : ℕ
  pub rest : List ℕ
  pub is : ns ≡ before ++ thread ∷ rest
  pub goes_on : goes thread ≡ true
  pub none : NoneGoes goes before

pub first_going : (goes : ℕ → Bool) (ns : List ℕ) → FirstGoing goes ns ⊎ NoneGoes goes ns
first_going goes [] = inr tt
first_going goes (n ∷ ns) = by (cases_Bool (goes n)) (first_going goes ns)
  where
    by : (goes n ≡ true) ⊎ (goes n ≡ false) → FirstGoing goes ns ⊎ NoneGoes goes ns → FirstGoing goes (n ∷ ns) ⊎ NoneGoes goes (n ∷ ns)
    by (inl h) r = inl (record { before = []; thread = n; rest = ns; is = refl; goes_on = h; none = tt })
    by (inr h) (inl f) = inl (record {
      before = n ∷ f.before;
      thread = f.thread;
      rest = f.rest;
      is = ap (λ l. n ∷ l) f.is;
      goes_on = f.goes_on;
      none = (h, f.none);
    })
    by (inr h) (inr f) = inr (h, f)

-- The rank that the state has for the first thread.
abbrev pub rank_of : (ℕ → ℕ) → List ℕ → ℕ
rank_of rank [] = 0
rank_of rank (n ∷ ns) = rank n

module _ {S A : Type 0} (k : System S A) (laws : AreIndependent k) (mean : Meaning S A) (e : Explored) (x : IsExploredOf k mean e) (c : IsAmple e) where
  -- What threads want at the ends of runs shorter than this was in their footprints.
  abbrev pub HoldsBelow : ℕ → Type 0
  HoldsBelow n = (i : ℕ) (s : S) (ns : List ℕ) (z : S) → length ns < n → IsRun k mean e i s ns z
      → (u : ℕ) (a : A) → k.wants z u a → IsInFootprint k mean e i u a

  -- The step of a thread that goes on comes first.
  pub record ComesFirst (i : ℕ) (s : S) (ns : List ℕ) (z : S) : Type 0 where
    pub thread : ℕ
    pub next : ℕ
    pub move : Moves e.moves i thread next
    pub world : S
    pub before : List ℕ
    pub behind : List ℕ
    pub is : ns ≡ before ++ thread ∷ behind
    pub none : NoneGoes (λ u. e.goes i u) before
    pub run : IsRun k mean e next world (before ++ behind) z

  -- The run has none, and leaves those that go on as they are; one of them may step before it as behind it.
  pub record ComesBeside (i : ℕ) (s : S) (ns : List ℕ) (z : S) : Type 0 where
    pub kept : (u : ℕ) → u < e.threads → e.goes i u ≡ true → IsSame k s z u
    pub thread : ℕ
    pub few : thread < e.threads
    pub goes_on : e.goes i thread ≡ true
    pub next : ℕ
    pub move : Moves e.moves i thread next
    pub world : S
    pub end : S
    pub last : k.steps thread z end
    pub run : IsRun k mean e next world ns end
    pub rank : rank_of (λ u. e.rank next u) ns < rank_of (λ u. e.rank i u) ns

  pub goes-apart : (i m n : ℕ) → e.goes i m ≡ true → e.goes i n ≡ false → n ≢ m
  goes-apart i m n h g q = true≢false (sym h ∙ (ap (λ v. e.goes i v) (sym q) ∙ g))

  -- What a thread that goes on minds where it begins conflicts with nothing in the footprint of one that doesn't.
  pub apart-of : (i m u : ℕ) (s : S) (a b : A) → mean.stands i s → m < e.threads → u < e.threads → e.goes i m ≡ true → e.goes i u ≡ false
      → Minds k s m a → IsInFootprint k mean e i u b → k.conflict a b → ⊥
  apart-of i m u s a b at few_m few_u gm gu minds may cf = by minds
    where
      so : (p : ℕ) → mean.names p a → Contains (e.wants i m) p ⊎ Contains (e.heeds i m) p → ⊥
      so p name among =
          c.apart i m u p may.number (x.state i s at) few_m few_u gm gu among may.may (x.conflicts p may.number a b name may.names cf)

      by : k.wants s m a ⊎ k.heeds s m a → ⊥
      by (inl w) = let l = x.wants i m s a at w in so l.number l.names (inl l.among)
      by (inr h) = let l = x.heeds i m s a at h in so l.number l.names (inr l.among)

  -- Where one that doesn't go on can, one that does nears it.
  pub near : (i t : ℕ) (s : S) → mean.stands i s → CanGo k s t → e.goes i t ≡ false → Nears e i t
  near i t s at can g = c.nears i t (record {
    state = x.state i s at;
    few = x.few s t (x.among i s at) can;
    can = x.can i t s at can;
    waits = g;
  })

  pub near-can : (i t : ℕ) (s : S) (at : mean.stands i s) (r : Nears e i t) → CanGo k s r.thread
  near-can i t s at r = let step = x.leads i r.thread r.next s at r.move in (step.0, step.1)

  module _ (n : ℕ) (below : HoldsBelow n) where
    module _ (i : ℕ) (s : S) (begins : mean.stands i s) (m : ℕ) (few : m < e.threads) (h : e.goes i m ≡ true) where
      -- What the others do behind some of their steps doesn't conflict with what it minds.
      clear-behind : (ns ps : List ℕ) (v z : S) → length ps + length ns ≤ n → Runs k s ps v → k.among v → (r : Runs k v ns z) → NoneGoes (λ u. e.goes i u) ns
          → IsClear k laws m (λ a. Minds k s m a) v ns z r
      clear-behind [] ps v z len b y r g = tt
      clear-behind (t ∷ ns) ps v z len b y r g =
          let y' = laws.states.among t v r.0 y r.1 in (
            goes-apart i m t h g.0,
            λ a d p w f. apart-of i m t s a d begins few (x.few_want v t d y w) h g.0 p
                (below i s ps v (omega arith) (record { begins = begins; runs = b; among = y }) t d w) f,
            clear-behind ns (ps ++ t ∷ []) r.0 z (omega (arith, length-append ps (t ∷ [])))
                (runs-join k laws ps (t ∷ []) s v r.0 (x.among i s begins) y b (r.0, r.1, laws.states.itself r.0)) y' r.2 g.1,
          )

      clear : (ns : List ℕ) (z : S) → length ns ≤ n → (r : Runs k s ns z) → NoneGoes (λ u. e.goes i u) ns → IsClear k laws m (λ a. Minds k s m a) s ns z r
      clear ns z len r g = clear-behind ns [] s z (omega arith) (laws.states.itself s) (x.among i s begins) r g

    -- Steps of others leave it as it is.
    kept-so : (i : ℕ) (s : S) (ns : List ℕ) (z : S) → mean.stands i s → k.among z → length ns ≤ n → (r : Runs k s ns z) → NoneGoes (λ u. e.goes i u) ns
        → (m : ℕ) → m < e.threads → e.goes i m ≡ true → IsSame k s z m
    kept-so i s [] z at y len r g m few h = laws.states.same s z m (x.among i s at) y r
    kept-so i s (t ∷ ns) z at y len r g m few h =
        let by = near i t s at (r.0, r.1) g.0 in
        kept-along k laws by.thread m (λ a. Minds k s by.thread a) (λ a. Minds k s m a) (t ∷ ns) s z (x.among i s at) y r (near-can i t s at by)
        (λ a p. p) (λ a p. p) (clear i s at by.thread by.few by.goes (t ∷ ns) z len r g) (clear i s at m few h (t ∷ ns) z len r g)

    -- A thread that goes on, and makes a step where the run has come, can make it at once.
    pub first : (i : ℕ) (s : S) (ns : List ℕ) (z : S) → length ns ≤ n → IsRun k mean e i s ns z → FirstGoing (λ u. e.goes i u) ns → ComesFirst i s ns z
    first i s ns z len f g =
        let m = g.thread in
        let at = f.begins in
        let among = x.among i s at in
        let parts = runs-split k laws g.before (m ∷ g.rest) s z among (subst (λ l. Runs k s l z) g.is f.runs) in
        let there = parts.middle in
        let step = parts.second in
        let few = x.few there m parts.among (step.0, step.1) in
        let counted : length ns ≡ length (g.before ++ m ∷ g.rest) = ap length g.is in
        let lengths = length-append g.before (m ∷ g.rest) in
        let within : length g.before ≤ n = omega arith in
        let same = kept-so i s g.before there at parts.among within parts.first g.none m few g.goes_on in
        let can = same.can.1 (step.0, step.1) in
        let go = c.followed i m (x.state i s at) few g.goes_on (x.can i m s at can) in
        let led = x.leads i m go.next s at go.is in
        let on = x.among go.next led.0 led.2 in
        let moved = comes-first k laws m (λ a. Minds k s m a) g.before s led.0 there among parts.among parts.first led.1 (λ a p. p)
        (clear i s at m few g.goes_on g.before there within parts.first g.none) in
        let beyond = laws.states.among m there moved.end parts.among moved.last in
        let beyond' = laws.states.among m there step.0 parts.among step.1 in
        let then = runs-from k laws g.rest moved.end step.0 z beyond beyond'
        (laws.states.one m there moved.end step.0 parts.among moved.last step.1) step.2 in
        record {
          thread = m;
          next = go.next;
          move = go.is;
          world = led.0;
          before = g.before;
          behind = g.rest;
          is = g.is;
          none = g.none;
          run = record { begins = led.2; runs = runs-join k laws g.before g.rest led.0 moved.end z on beyond moved.runs then; among = f.among };
        }

    -- Where none of them steps, each is left as it is; and where the first thread waits, one of them steps before.
    beside : (i : ℕ) (s : S) (t : ℕ) (ns : List ℕ) (z : S) → length (t ∷ ns) ≤ n → IsRun k mean e i s (t ∷ ns) z → NoneGoes (λ u. e.goes i u) (t ∷ ns)
        → ComesBeside i s (t ∷ ns) z
    beside i s t ns z len f g =
        let at = f.begins in
        let by = near i t s at (f.runs.0, f.runs.1) g.0 in
        let m = by.thread in
        let led = x.leads i m by.next s at by.move in
        let moved = comes-first k laws m (λ a. Minds k s m a) (t ∷ ns) s led.0 z (x.among i s at) f.among f.runs led.1 (λ a p. p)
        (clear i s at m by.few by.goes (t ∷ ns) z len f.runs g) in
        record {
          kept = kept-so i s (t ∷ ns) z at f.among len f.runs g;
          thread = m;
          few = by.few;
          goes_on = by.goes;
          next = by.next;
          move = by.move;
          world = led.0;
          end = moved.end;
          last = moved.last;
          run = record { begins = led.2; runs = moved.runs; among = laws.states.among m z moved.end f.among moved.last };
          rank = by.falls;
        }

    -- What holds of no steps, and of a run where it holds of what becomes of it, holds of each run.
    module _ (Q : ℕ → S → List ℕ → S → Type 0) (none : (i : ℕ) (s z : S) → IsRun k mean e i s [] z → Q i s [] z)
        (by_first : (i : ℕ) (s : S) (ns : List ℕ) (z : S) → IsRun k mean e i s ns z → (w : ComesFirst i s ns z) → Q w.next w.world (w.before ++ w.behind) z → Q i s ns z)
        (by_beside : (i : ℕ) (s : S) (ns : List ℕ) (z : S) → IsRun k mean e i s ns z → (w : ComesBeside i s ns z) → Q w.next w.world ns w.end → Q i s ns z)
      where
        -- By induction on a bound of the rank, where it holds of shorter runs.
        with-rank : (most : ℕ) → most ≤ n → ((i : ℕ) (s : S) (ns : List ℕ) (z : S) → length ns < most → IsRun k mean e i s ns z → Q i s ns z)
            → (bound i : ℕ) (s : S) (ns : List ℕ) (z : S) → length ns ≤ most → rank_of (λ u. e.rank i u) ns < bound → IsRun k mean e i s ns z → Q i s ns z
        with-rank most within shorter zero i s ns z len r f = absurd (omega arith)
        with-rank most within shorter (suc bound) i s ns z len r f =
            go ns len r f (λ j v us y l q h. with-rank most within shorter bound j v us y l q h)
          where
            go : (ns : List ℕ) → length ns ≤ most → rank_of (λ u. e.rank i u) ns < suc bound → IsRun k mean e i s ns z
                → ((j : ℕ) (v : S) (us : List ℕ) (y : S) → length us ≤ most → rank_of (λ u. e.rank j u) us < bound → IsRun k mean e j v us y → Q j v us y)
                → Q i s ns z
            go [] len r f rest = none i s z f
            go (t ∷ ns) len r f rest = by (first_going (λ u. e.goes i u) (t ∷ ns))
              where
                by : FirstGoing (λ u. e.goes i u) (t ∷ ns) ⊎ NoneGoes (λ u. e.goes i u) (t ∷ ns) → Q i s (t ∷ ns) z
                by (inl g) =
                    let w = first i s (t ∷ ns) z (omega arith) f g in
                    let counted : length (t ∷ ns) ≡ length (w.before ++ w.thread ∷ w.behind) = ap length w.is in
                    let lengths = length-append w.before (w.thread ∷ w.behind) in
                    by_first i s (t ∷ ns) z f w
                    (shorter w.next w.world (w.before ++ w.behind) z (omega (arith, length-append w.before w.behind)) w.run)
                by (inr g) =
                    let w = beside i s t ns z (omega arith) f g in
                    let falls = w.rank in
                    by_beside i s (t ∷ ns) z f w (rest w.next w.world (t ∷ ns) w.end len (omega arith) w.run)

        up-to : (most : ℕ) → most ≤ n → (i : ℕ) (s : S) (ns : List ℕ) (z : S) → length ns ≤ most → IsRun k mean e i s ns z → Q i s ns z
        up-to zero within i s ns z len f =
            with-rank zero within (λ j v us y l g. absurd (omega arith)) (suc (rank_of (λ u. e.rank i u) ns)) i s ns z len (omega arith) f
        up-to (suc most) within i s ns z len f =
            with-rank (suc most) within (λ j v us y l g. up-to most (omega arith) j v us y (omega arith) g) (suc (rank_of (λ u. e.rank i u) ns)) i s ns z len
            (omega arith) f

        pub by-ways : (i : ℕ) (s : S) (ns : List ℕ) (z : S) → length ns ≤ n → IsRun k mean e i s ns z → Q i s ns z
        by-ways i s ns z len f = up-to n (omega arith) i s ns z len f
