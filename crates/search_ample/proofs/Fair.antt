-- A fair run without end makes a fair run of what was explored: of what is left of it, the first step of a thread that goes
-- on is always made first.
use Rattle.std.specs.Prelude.{◌≡◌, ◌≢◌, ◌<◌, ◌≤◌, ◌+◌, ◌-◌, ◌⊎◌, ℕ, zero, suc, Bool, true, false, Some, List, [], ◌∷◌, ◌++◌, length, refl}
use Rattle.std.proofs.Common.{ap, subst, sym, ◌∙◌, inl, inr, arith, true≢false, length-append}
use Rattle.std.proofs.lemmas.Bool.{cases_Bool, cases_eq}
use Rattle.search_graph.specs.Graph.{Moves, CanMove}
use Rattle.search_graph.specs.Runs.{Run, GetsTurn, IsFair, EveryFairRunEnds}
use Rattle.search_graph.specs.Worlds.{Persists, EndlessRun, IsFairRun}
use Rattle.search_graph.proofs.Having.{decide}
use Rattle.search_ample.specs.Systems.{System, CanGo, Runs, AreIndependent}
use Rattle.search_ample.specs.Explored.{Explored, Meaning, IsExploredOf}
use Rattle.search_ample.specs.Ample.{IsAmple}
use Rattle.search_ample.specs.Fair.{worlds_of, OnlyTheseGo, NoFairRunGoesOn}
use Rattle.search_ample.proofs.Runs.{runs-join}
use Rattle.search_ample.proofs.Ways.{NoneGoes, FirstGoing, first_going, ComesFirst, near, near-can, first}
use Rattle.search_ample.proofs.Finding.{holds-below}

-- Who steps next, so many later: threads that were put off, and then those of a run from a moment on.
abbrev turn_at : (ℕ → ℕ) → List ℕ → ℕ → ℕ → ℕ
turn_at by [] n x = by (n + x)
turn_at by (p ∷ ps) n zero = p
turn_at by (p ∷ ps) n (suc x) = turn_at by ps n x

-- Those of the run from a moment on, so many.
abbrev part_of : (ℕ → ℕ) → ℕ → ℕ → List ℕ
part_of by n zero = []
part_of by n (suc d) = by n ∷ part_of by (suc n) d

part-length : (by : ℕ → ℕ) (n d : ℕ) → length (part_of by n d) ≡ d
part-length by n zero = refl
part-length by n (suc d) = ap suc (part-length by (suc n) d)

part-turn : (by : ℕ → ℕ) (n d m x : ℕ) → x < d → turn_at by (part_of by n d) m x ≡ by (n + x)
part-turn by n zero m x h = absurd (omega arith)
part-turn by n (suc d) m zero h = let e : n ≡ n + 0 = omega arith in ap by e
part-turn by n (suc d) m (suc x) h = let e : suc n + x ≡ n + suc x = omega arith in part-turn by (suc n) d m x (omega arith) ∙ ap by e

-- The same of more of them.
longer-turn : (by : ℕ → ℕ) (ps : List ℕ) (n d m x : ℕ) → m ≡ n + d → x < length ps + d → turn_at by (ps ++ part_of by n d) m x ≡ turn_at by ps n x
longer-turn by [] n d m x e h = part-turn by n d m x (omega arith)
longer-turn by (p ∷ ps) n d m zero e h = refl
longer-turn by (p ∷ ps) n d m (suc x) e h = longer-turn by ps n d m x e (omega arith)

longest-turn : (by : ℕ → ℕ) (ps : List ℕ) (n d m x : ℕ) → m ≡ n + d → turn_at by (ps ++ part_of by n d) m x ≡ turn_at by ps n x
longest-turn by [] n zero m x e = let q : m + x ≡ n + x = omega arith in ap by q
longest-turn by [] n (suc d) m zero e = let q : n ≡ n + 0 = omega arith in ap by q
longest-turn by [] n (suc d) m (suc x) e =
    let q : suc n + x ≡ n + suc x = omega arith in
    longest-turn by [] (suc n) d m x (omega arith) ∙ ap by q
longest-turn by (p ∷ ps) n d m zero e = refl
longest-turn by (p ∷ ps) n d m (suc x) e = longest-turn by ps n d m x e

-- None of them goes on.
none-at : (goes : ℕ → Bool) (by : ℕ → ℕ) (ps : List ℕ) (n x : ℕ) → NoneGoes goes ps → x < length ps → goes (turn_at by ps n x) ≡ false
none-at goes by [] n x g h = absurd (omega arith)
none-at goes by (p ∷ ps) n zero g h = g.0
none-at goes by (p ∷ ps) n (suc x) g h = none-at goes by ps n x g.1 (omega arith)

-- Without the first step of those that go on, that of another one of them comes earlier.
earlier : (goes : ℕ → Bool) (by : ℕ → ℕ) (before : List ℕ) (m : ℕ) (rest : List ℕ) (n x t : ℕ) → NoneGoes goes before → goes t ≡ true
    → turn_at by (before ++ m ∷ rest) n x ≡ t → (m ≡ t) ⊎ ((y : ℕ) × (x ≡ suc y) × (turn_at by (before ++ rest) n y ≡ t))
earlier goes by [] m rest n zero t g h e = inl e
earlier goes by [] m rest n (suc x) t g h e = inr (x, refl, e)
earlier goes by (b ∷ before) m rest n zero t g h e = absurd (true≢false (sym h ∙ (ap goes (sym e) ∙ g.0)))
earlier goes by (b ∷ before) m rest n (suc x) t g h e = on (earlier goes by before m rest n x t g.1 h e)
  where
    on : (m ≡ t) ⊎ ((y : ℕ) × (x ≡ suc y) × (turn_at by (before ++ rest) n y ≡ t))
        → (m ≡ t) ⊎ ((y : ℕ) × (suc x ≡ suc y) × (turn_at by (b ∷ before ++ rest) n y ≡ t))
    on (inl same) = inl same
    on (inr r) = inr (suc r.0, ap suc r.1, r.2)

module _ {S A : Type 0} (k : System S A) (laws : AreIndependent k) (mean : Meaning S A) (e : Explored) (x : IsExploredOf k mean e) (c : IsAmple e)
    (persists : Persists (worlds_of k) k.among) (only : OnlyTheseGo e) (run : EndlessRun (worlds_of k)) (fair : IsFairRun (worlds_of k) run)
    (among : k.among (run.at 0)) where
  among-at : (n : ℕ) → k.among (run.at n)
  among-at zero = among
  among-at (suc n) = laws.states.among (run.by n) (run.at n) (run.at (suc n)) (among-at n) (run.makes n)

  part-runs : (d n m : ℕ) → m ≡ n + d → Runs k (run.at n) (part_of run.by n d) (run.at m)
  part-runs zero n m q = let same : m ≡ n = omega arith in subst (λ v. k.alike (run.at n) (run.at v)) (sym same) (laws.states.itself (run.at n))
  part-runs (suc d) n m q = (run.at (suc n), run.makes n, part-runs d (suc n) m (omega arith))

  -- A state that was come to: some threads were put off there, behind whom the run goes on from a moment on.
  record Here : Type 0 where
    state : ℕ
    world : S
    stands : mean.stands state world
    off : List ℕ
    moment : ℕ
    runs : Runs k world off (run.at moment)

  -- A thread that can go on gets a turn.
  occurs : (ps : List ℕ) (v : S) (n t : ℕ) → k.among v → Runs k v ps (run.at n) → CanGo k v t → (y : ℕ) × (turn_at run.by ps n y ≡ t)
  occurs [] v n t a r can =
      let g = fair n t ((laws.states.same v (run.at n) t a (among-at n) r).can.0 can) in
      let since : n ≤ g.later = g.since in
      let q : n + (g.later - n) ≡ g.later = omega arith in
      (g.later - n, ap run.by q ∙ g.is)
  occurs (p ∷ ps) v n t a r can =
      by (cases_eq p t)
      (λ d. occurs ps r.0 n t (laws.states.among p v r.0 a r.1) r.2 (persists.still p t v r.0 a (r.0, r.1) r.1 (λ q. d (sym q)) can))
    where
      by : (p ≡ t) ⊎ (p ≡ t → ⊥) → (p ≢ t → (y : ℕ) × (turn_at run.by ps n y ≡ t)) → (y : ℕ) × (turn_at run.by (p ∷ ps) n y ≡ t)
      by (inl same) rest = (0, same)
      by (inr d) rest = let l = rest d in (suc l.0, l.1)

  -- Somebody can go on there.
  somebody : (ps : List ℕ) (v : S) (n : ℕ) → k.among v → Runs k v ps (run.at n) → (t : ℕ) × CanGo k v t
  somebody [] v n a r = (run.by n, (laws.states.same v (run.at n) (run.by n) a (among-at n) r).can.1 (run.goes n))
  somebody (p ∷ ps) v n a r = (p, (r.0, r.1))

  -- So one that goes on at the state can.
  record Goer (i : ℕ) (v : S) : Type 0 where
    thread : ℕ
    goes_on : e.goes i thread ≡ true
    can : CanGo k v thread

  goer : (i : ℕ) (v : S) → mean.stands i v → (t : ℕ) × CanGo k v t → Goer i v
  goer i v at some = by (cases_Bool (e.goes i some.0))
    where
      by : (e.goes i some.0 ≡ true) ⊎ (e.goes i some.0 ≡ false) → Goer i v
      by (inl g) = record { thread = some.0; goes_on = g; can = some.1 }
      by (inr g) =
          let n = near k laws mean e x c i some.0 v at some.1 g in
          record { thread = n.thread; goes_on = n.goes; can = near-can k laws mean e x c i some.0 v at n }

  -- What comes of it: the first step of those that go on is made, and what else was gone past is put off.
  record On (h : Here) : Type 0 where
    past : ℕ
    moment : ℕ
    until : moment ≡ h.moment + past
    way : ComesFirst k laws mean e x c h.state h.world (h.off ++ part_of run.by h.moment past) (run.at moment)

  on : (h : Here) → On h
  on h = by (first_going (λ u. e.goes h.state u) ps)
    where
      a : k.among h.world
      a = x.among h.state h.world h.stands

      g : Goer h.state h.world
      g = goer h.state h.world h.stands (somebody h.off h.world h.moment a h.runs)

      o : (y : ℕ) × (turn_at run.by h.off h.moment y ≡ g.thread)
      o = occurs h.off h.world h.moment g.thread a h.runs g.can

      past : ℕ
      past = suc o.0

      moment : ℕ
      moment = h.moment + past

      ps : List ℕ
      ps = h.off ++ part_of run.by h.moment past

      runs : Runs k h.world ps (run.at moment)
      runs =
          runs-join k laws h.off (part_of run.by h.moment past) h.world (run.at h.moment) (run.at moment) a (among-at h.moment) h.runs
          (part-runs past h.moment moment refl)

      there : turn_at run.by ps moment o.0 ≡ g.thread
      there = longest-turn run.by h.off h.moment past moment o.0 refl ∙ o.1

      by : FirstGoing (λ u. e.goes h.state u) ps ⊎ NoneGoes (λ u. e.goes h.state u) ps → On h
      by (inl f) = record {
        past = past;
        moment = moment;
        until = refl;
        way = first k laws mean e x c (length ps) (holds-below k laws mean e x c (length ps)) h.state h.world ps (run.at moment) (omega arith)
            (record { begins = h.stands; runs = runs; among = among-at moment }) f;
      }
      by (inr none) =
          let len : length ps ≡ length h.off + length (part_of run.by h.moment past) = length-append h.off (part_of run.by h.moment past) in
          absurd (true≢false (sym g.goes_on
          ∙ (ap (λ u. e.goes h.state u) (sym there)
          ∙ none-at (λ u. e.goes h.state u) run.by ps moment o.0 none (omega (arith, part-length run.by h.moment past)))))

  abbrev following : (h : Here) → On h → Here
  following h o = record {
    state = o.way.next;
    world = o.way.world;
    stands = o.way.run.begins;
    off = o.way.before ++ o.way.behind;
    moment = o.moment;
    runs = o.way.run.runs;
  }

  -- Who is to step so many later is to step one earlier then, or steps.
  stays-or-steps : (h : Here) (o : On h) (y t : ℕ) → e.goes h.state t ≡ true → turn_at run.by h.off h.moment y ≡ t
      → (o.way.thread ≡ t) ⊎ ((z : ℕ) × (y ≡ suc z) × (turn_at run.by (o.way.before ++ o.way.behind) o.moment z ≡ t))
  stays-or-steps h o y t g is =
      earlier (λ u. e.goes h.state u) run.by o.way.before o.way.thread o.way.behind o.moment y t o.way.none g
      (ap (λ l. turn_at run.by l o.moment y) (sym o.way.is) ∙ (longest-turn run.by h.off h.moment o.past o.moment y o.until ∙ is))

  module _ (i : ℕ) (at : mean.stands i (run.at 0)) where
    abbrev here : ℕ → Here
    here zero = record { state = i; world = run.at 0; stands = at; off = []; moment = 0; runs = laws.states.itself (run.at 0) }
    here (suc n) = following (here n) (on (here n))

    abbrev state-at : ℕ → ℕ
    state-at n = (here n).state

    abbrev mover-at : ℕ → ℕ
    mover-at n = (on (here n)).way.thread

    moves : (n : ℕ) → Moves e.moves (state-at n) (mover-at n) (state-at (suc n))
    moves n = (on (here n)).way.move

    abbrev explored : Run e.moves
    explored = record { at = state-at; by = λ n. Some (mover-at n); turns = moves }

    steps-now : (n t : ℕ) → mover-at n ≡ t → GetsTurn e.moves explored n t
    steps-now n t same = record { later = n; since = omega arith; is = inl (ap Some same) }

    gets : (y n t : ℕ) → turn_at run.by (here n).off (here n).moment y ≡ t → CanMove e.moves (state-at n) t → GetsTurn e.moves explored n t
    gets zero n t is can = by (stays-or-steps (here n) (on (here n)) zero t (only (state-at n) t can.next can.is) is)
      where
        by : (mover-at n ≡ t)
            ⊎ ((z : ℕ) × (zero ≡ suc z) × (turn_at run.by ((on (here n)).way.before ++ (on (here n)).way.behind) (on (here n)).moment z ≡ t))
            → GetsTurn e.moves explored n t
        by (inl same) = steps-now n t same
        by (inr r) = let never = r.1 in absurd (omega arith)
    gets (suc y) n t is can =
        by (stays-or-steps (here n) (on (here n)) (suc y) t (only (state-at n) t can.next can.is) is) (decide e.moves (state-at (suc n)) t)
        (λ same further. gets y (suc n) t same further)
      where
        later : GetsTurn e.moves explored (suc n) t → GetsTurn e.moves explored n t
        later g = record { later = g.later; since = omega (arith, g.since); is = g.is }

        by : (mover-at n ≡ t)
            ⊎ ((z : ℕ) × (suc y ≡ suc z) × (turn_at run.by ((on (here n)).way.before ++ (on (here n)).way.behind) (on (here n)).moment z ≡ t))
            → CanMove e.moves (state-at (suc n)) t ⊎ (CanMove e.moves (state-at (suc n)) t → ⊥)
            → (turn_at run.by (here (suc n)).off (here (suc n)).moment y ≡ t → CanMove e.moves (state-at (suc n)) t → GetsTurn e.moves explored (suc n) t)
            → GetsTurn e.moves explored n t
        by (inl same) d rest = steps-now n t same
        by (inr r) (inl further) rest =
            let q : r.0 ≡ y = let up = r.1 in omega arith in
            later (rest (subst (λ z. turn_at run.by (here (suc n)).off (here (suc n)).moment z ≡ t) q r.2) further)
        by (inr r) (inr not) rest = record { later = suc n; since = omega arith; is = inr not }

    explored-fair : IsFair e.moves explored
    explored-fair n t can =
        let h = here n in
        let step = x.leads h.state t can.next h.world h.stands can.is in
        let o = occurs h.off h.world h.moment t (x.among h.state h.world h.stands) h.runs (step.0, step.1) in
        gets o.0 n t o.1 can

    never : EveryFairRunEnds e.moves → ⊥
    never ends =
        let end = ends explored explored-fair in
        end.is (mover-at end.moment) (record { next = state-at (suc end.moment); is = moves end.moment })

pub no-fair-run : {S A : Type 0} (k : System S A) → AreIndependent k → (mean : Meaning S A) (e : Explored) → IsExploredOf k mean e → IsAmple e
    → NoFairRunGoesOn k mean e
no-fair-run k laws mean e x c persists only ends i s at f =
    never k laws mean e x c persists only f.run f.fair (subst k.among (sym f.begins) (x.among i s at)) i (subst (λ v. mean.stands i v) (sym f.begins) at) ends
