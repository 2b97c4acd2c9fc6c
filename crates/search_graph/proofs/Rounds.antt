-- A fair run of the graph that idles never is a fair run of the worlds that make its moves.
use Rattle.std.specs.Prelude.{◌≡◌, ◌≢◌, ◌≤◌, ◌+◌, ◌-◌, ◌⊎◌, ℕ, zero, suc, List, Some, refl}
use Rattle.std.proofs.Common.{ap, subst, sym, inl, inr, arith}
use Rattle.std.proofs.lemmas.Bool.{cases_eq}
use Rattle.search_graph.specs.declared.graph.Move.{Move}
use Rattle.search_graph.specs.Graph.{Moves, CanMove}
use Rattle.search_graph.specs.Paths.{Goes, Reaches}
use Rattle.search_graph.specs.Runs.{Turns, Run, GetsTurn, IsFair, HasFairCycle}
use Rattle.search_graph.specs.Worlds.{Worlds, EndlessRun, GetsStep, IsFairRun, FairRun, CanStep, Persists, IsMadeOf}

-- A step before a fair run.
module _ {W : Type 0} (worlds : Worlds W) (among : W → Type 0) (persists : Persists worlds among) where
  module _ (w v : W) (lives : among w) (step : CanStep worlds w v) (f : FairRun worlds v) where
    abbrev at : ℕ → W
    at zero = w
    at (suc k) = f.run.at k

    abbrev who : ℕ → ℕ
    who zero = step.thread
    who (suc k) = f.run.by k

    goes : (k : ℕ) → worlds.can (at k) (who k)
    goes zero = step.can
    goes (suc k) = f.run.goes k

    makes : (k : ℕ) → worlds.steps (who k) (at k) (at (suc k))
    makes zero = subst (worlds.steps step.thread w) (sym f.begins) step.is
    makes (suc k) = f.run.makes k

    abbrev longer : EndlessRun worlds
    longer = record { at = at; by = who; goes = goes; makes = makes }

    later-on : (k t : ℕ) → GetsStep worlds f.run k t → GetsStep worlds longer (suc k) t
    later-on k t g = record { later = suc g.later; since = omega (arith, g.since); is = g.is }

    at-first : (t : ℕ) → worlds.can w t → (t ≡ step.thread) ⊎ (t ≢ step.thread) → GetsStep worlds longer 0 t
    at-first t c (inl e) = record { later = 0; since = omega arith; is = sym e }
    at-first t c (inr n) =
        let can = persists.still step.thread t w v lives step.can step.is n c in
        let g = later-on 0 t (f.fair 0 t (subst (λ x. worlds.can x t) (sym f.begins) can)) in
        record { later = g.later; since = omega arith; is = g.is }

    longer-fair : IsFairRun worlds longer
    longer-fair zero t c = at-first t c (cases_eq t step.thread)
    longer-fair (suc k) t c = later-on k t (f.fair k t c)

    before : FairRun worlds w
    before = record { run = longer; begins = refl; fair = longer-fair }

  along : (count : ℕ) (w z : W) → among w → Goes (CanStep worlds) count w z → FairRun worlds z → FairRun worlds w
  along zero w z lives e f = subst (FairRun worlds) (sym e) f
  along (suc count) w z lives p f =
      before w p.0 lives p.1 (along count p.0 z (persists.kept p.1.thread w p.0 lives p.1.can p.1.is) p.2 f)

  -- Where a fair run begins to which threads that can go on come, one begins where they come from.
  pub fair-run-along : (w z : W) → among w → Reaches (CanStep worlds) w z → FairRun worlds z → FairRun worlds w
  fair-run-along w z lives r f = along r.count w z lives r.path f

module _ {W : Type 0} (worlds : Worlds W) (rests : ℕ → W → Type 0) (among : W → Type 0) (moves : List Move) (made : IsMadeOf worlds rests among moves)
    (run : Run moves) (busy : (k : ℕ) → (t : ℕ) × (run.by k ≡ Some t)) (fair : IsFair moves run) where
  -- On the way of the move at a moment: the next step, and those that are left to where the next state rests.
  record Going (w : W) : Type 0 where
    moment : ℕ
    thread : ℕ
    can : worlds.can w thread
    second : W
    is : worlds.steps thread w second
    end : W
    count : ℕ
    path : Goes (CanStep worlds) count second end
    rest : rests (run.at (suc moment)) end
    lives : among w

  moved : (k : ℕ) → Moves moves (run.at k) (busy k).0 (run.at (suc k))
  moved k = subst (λ o. Turns moves (run.at k) o (run.at (suc k))) (busy k).1 (run.turns k)

  abbrev start_of : (k : ℕ) (w : W) → rests (run.at k) w → Going w
  start_of k w r =
      let m = made.makes (run.at k) (busy k).0 (run.at (suc k)) w (moved k) r in
      record {
        moment = k;
        thread = (busy k).0;
        can = m.can;
        second = m.second;
        is = m.is;
        end = m.end;
        count = m.path.count;
        path = m.path.path;
        rest = m.rest;
        lives = made.inside (run.at k) w r;
      }

  abbrev go : {w : W} (g : Going w) (count : ℕ) → Goes (CanStep worlds) count g.second g.end → Going g.second
  go g zero e = start_of (suc g.moment) g.second (subst (rests (run.at (suc g.moment))) (sym e) g.rest)
  go g (suc count) p = record {
    moment = g.moment;
    thread = p.1.thread;
    can = p.1.can;
    second = p.0;
    is = p.1.is;
    end = g.end;
    count = count;
    path = p.2;
    rest = g.rest;
    lives = made.persists.kept g.thread _ g.second g.lives g.can g.is;
  }

  module _ (first : W) (begins : rests (run.at 0) first) where
    record Place : Type 0 where
      world : W
      going : Going world

    abbrev place : ℕ → Place
    place zero = record { world = first; going = start_of 0 first begins }
    place (suc n) = record { world = (place n).going.second; going = go (place n).going (place n).going.count (place n).going.path }

    abbrev world-run : EndlessRun worlds
    world-run = record {
      at = λ n. (place n).world;
      by = λ n. (place n).going.thread;
      goes = λ n. (place n).going.can;
      makes = λ n. (place n).going.is;
    }

    -- The move at moment k begins at a time from n on, and thread u can still go on there.
    record Fresh (n k u : ℕ) : Type 0 where
      later : ℕ
      since : n ≤ later
      can : worlds.can (place later).world u
      rest : rests (run.at k) (place later).world
      moment : (place later).going.moment ≡ k
      mine : run.by k ≡ Some ((place later).going.thread)

    sooner : (n u : ℕ) → GetsStep worlds world-run (suc n) u → GetsStep worlds world-run n u
    sooner n u g = record { later = g.later; since = omega (arith, g.since); is = g.is }

    fresh-sooner : (n k j u : ℕ) → j ≡ k → Fresh (suc n) j u → Fresh n k u
    fresh-sooner n k j u e f =
        subst (λ i. Fresh n i u) e (record { later = f.later; since = omega (arith, f.since); can = f.can; rest = f.rest; moment = f.moment; mine = f.mine })

    -- The way goes on behind the next step, or the next move begins there.
    passes : {w : W} (g : Going w) (count : ℕ) (p : Goes (CanStep worlds) count g.second g.end)
        → (count ≡ 0) ⊎ ((c : ℕ) × (count ≡ suc c) × ((go g count p).count ≡ c) × ((go g count p).moment ≡ g.moment))
    passes g zero p = inl refl
    passes g (suc c) p = inr (c, refl, refl, refl)

    begun : {w : W} (g : Going w) (count : ℕ) (p : Goes (CanStep worlds) count g.second g.end) → count ≡ 0
        → rests (run.at (suc g.moment)) g.second × ((go g count p).moment ≡ suc g.moment) × (run.by (suc g.moment) ≡ Some ((go g count p).thread))
    begun g zero p e = (subst (rests (run.at (suc g.moment))) (sym p) g.rest, refl, (busy (suc g.moment)).1)
    begun g (suc c) p e = absurd (omega arith)

    can-after : (n u : ℕ) → u ≢ (place n).going.thread → worlds.can (place n).world u → worlds.can (place (suc n)).world u
    can-after n u m can =
        made.persists.still (place n).going.thread u (place n).world (place n).going.second (place n).going.lives (place n).going.can (place n).going.is m can

    fresh-next : (n u : ℕ) → worlds.can (place (suc n)).world u → (place n).going.count ≡ 0 → Fresh n (suc ((place n).going.moment)) u
    fresh-next n u can e =
        let b = begun (place n).going (place n).going.count (place n).going.path e in
        record { later = suc n; since = omega arith; can = can; rest = b.0; moment = b.1; mine = b.2 }

    -- A thread that can go on makes a step before the next move begins, or can go on there.
    to-end : (left n u : ℕ) → (place n).going.count ≤ left → worlds.can (place n).world u → GetsStep worlds world-run n u ⊎ Fresh n
        (suc ((place n).going.moment)) u
    to-end zero n u b can = by (cases_eq u (place n).going.thread)
      where
        by : (u ≡ (place n).going.thread) ⊎ (u ≢ (place n).going.thread) → GetsStep worlds world-run n u ⊎ Fresh n (suc ((place n).going.moment)) u
        by (inl e) = inl (record { later = n; since = omega arith; is = sym e })
        by (inr m) = inr (fresh-next n u (can-after n u m can) (omega arith))
    to-end (suc left) n u b can = by (cases_eq u (place n).going.thread) (λ l c. to-end left (suc n) u l c)
      where
        carry : (place (suc n)).going.moment ≡ (place n).going.moment → GetsStep worlds world-run (suc n) u ⊎ Fresh (suc n)
            (suc ((place (suc n)).going.moment)) u
            → GetsStep worlds world-run n u ⊎ Fresh n (suc ((place n).going.moment)) u
        carry e (inl g) = inl (sooner n u g)
        carry e (inr f) = inr (fresh-sooner n (suc ((place n).going.moment)) (suc ((place (suc n)).going.moment)) u (ap suc e) f)

        on : worlds.can (place (suc n)).world u
            → ((place n).going.count ≡ 0) ⊎ ((c : ℕ) × ((place n).going.count ≡ suc c) × ((place (suc n)).going.count ≡ c) ×
            ((place (suc n)).going.moment ≡ (place n).going.moment))
            → ((place (suc n)).going.count ≤ left → worlds.can (place (suc n)).world u → GetsStep worlds world-run (suc n) u ⊎ Fresh (suc n)
            (suc ((place (suc n)).going.moment)) u)
            → GetsStep worlds world-run n u ⊎ Fresh n (suc ((place n).going.moment)) u
        on c (inl e) rest = inr (fresh-next n u c e)
        on c (inr p) rest = let e = p.1 in let i = p.2 in carry p.3 (rest (omega arith) c)

        by : (u ≡ (place n).going.thread) ⊎ (u ≢ (place n).going.thread)
            → ((place (suc n)).going.count ≤ left → worlds.can (place (suc n)).world u → GetsStep worlds world-run (suc n) u ⊎ Fresh (suc n)
            (suc ((place (suc n)).going.moment)) u)
            → GetsStep worlds world-run n u ⊎ Fresh n (suc ((place n).going.moment)) u
        by (inl e) rest = inl (record { later = n; since = omega arith; is = sym e })
        by (inr m) rest = on (can-after n u m can) (passes (place n).going (place n).going.count (place n).going.path) rest

    -- It makes one before the move at a later moment begins, or can go on there.
    to-move : (more k j n u : ℕ) → j ≡ k + more → Fresh n k u → GetsStep worlds world-run n u ⊎ Fresh n j u
    to-move zero k j n u e f = let p : k ≡ j = omega arith in inr (subst (λ i. Fresh n i u) p f)
    to-move (suc more) k j n u e f =
        by (to-end (place f.later).going.count f.later u (omega arith) f.can) (λ f'. to-move more (suc k) j n u (omega arith) f')
      where
        by : GetsStep worlds world-run f.later u ⊎ Fresh f.later (suc ((place f.later).going.moment)) u
            → (Fresh n (suc k) u → GetsStep worlds world-run n u ⊎ Fresh n j u) → GetsStep worlds world-run n u ⊎ Fresh n j u
        by (inl g) rest = inl (record { later = g.later; since = omega (arith, f.since, g.since); is = g.is })
        by (inr g) rest =
            rest (subst (λ i. Fresh n (suc i) u) f.moment
            (record { later = g.later; since = omega (arith, f.since, g.since); can = g.can; rest = g.rest; moment = g.moment; mine = g.mine }))

    world-fair : IsFairRun worlds world-run
    world-fair n u can = by (to-end (place n).going.count n u (omega arith) can)
      where
        -- The graph's thread has moved there, or has no move.
        there : (k : ℕ) → (f : Fresh n k u) → (run.by k ≡ Some u) ⊎ (CanMove moves (run.at k) u → ⊥) → GetsStep worlds world-run n u
        there k f (inl q) = record { later = f.later; since = f.since; is = let a = f.mine in cc }
        there k f (inr not) = absurd (not (made.all (run.at k) u (place f.later).world f.rest f.can))

        turned : (k : ℕ) (g : GetsTurn moves run k u) → GetsStep worlds world-run n u ⊎ Fresh n g.later u → GetsStep worlds world-run n u
        turned k g (inl s) = s
        turned k g (inr f) = there g.later f g.is

        by : GetsStep worlds world-run n u ⊎ Fresh n (suc ((place n).going.moment)) u → GetsStep worlds world-run n u
        by (inl g) = g
        by (inr f) =
            let k = suc ((place n).going.moment) in
            let g = fair k u (made.all (run.at k) u (place f.later).world f.rest f.can) in
            turned k g (let since = g.since in to-move (g.later - k) k g.later n u (omega arith) f)

    fair-run : FairRun worlds first
    fair-run = record { run = world-run; begins = refl; fair = world-fair }

-- Where a fair run of the graph idles never, there is a fair run of the worlds that make its moves.
pub fair-run-round : {W : Type 0} (worlds : Worlds W) (rests : ℕ → W → Type 0) (among : W → Type 0) (moves : List Move) → IsMadeOf worlds rests among moves
    → (start : ℕ) (walk : List Move) → HasFairCycle moves start walk → (w : W) → rests start w → FairRun worlds w
fair-run-round worlds rests among moves made start walk c w r =
    fair-run worlds rests among moves made c.run (λ k. (_, (c.makes k).thread)) c.fair w (subst (λ s. rests s w) (sym c.starts) r)
