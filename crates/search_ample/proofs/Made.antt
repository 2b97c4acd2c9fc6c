-- What explored moves make of the states that are stood for: runs to an end, and fair runs without one.
use Rattle.std.specs.Prelude.{◌≡◌, ◌≤◌, ◌+◌, ◌-◌, ◌⊎◌, ℕ, zero, suc, Bool, false, Some, List, [], ◌∷◌, ◌++◌, refl}
use Rattle.std.proofs.Common.{subst, sym, ◌∙◌, inl, inr, arith, true≢false}
use Rattle.std.proofs.lemmas.Bool.{cases_eq}
use Rattle.search_graph.specs.Paths.{Goes}
use Rattle.search_graph.specs.Graph.{Moves, Steps, CanEnd, IsMarked}
use Rattle.search_graph.specs.Runs.{Turns, Run}
use Rattle.search_graph.specs.Worlds.{Persists, EndlessRun, GetsStep, IsFairRun}
use Rattle.search_ample.specs.Systems.{System, CanGo, AreIndependent}
use Rattle.search_ample.specs.Explored.{Explored, Meaning, IsExploredOf}
use Rattle.search_ample.specs.Ample.{IsAmple}
use Rattle.search_ample.specs.Ending.{ComesToEnd, MarkEnds, EndsAreExact, AllComeToEnds}
use Rattle.search_ample.specs.Fair.{worlds_of, IsFairAsSeen, FairRunsAreMade}
use Rattle.search_ample.proofs.Runs.{runs-from, runs-join}
use Rattle.search_ample.proofs.Finding.{ends-are-found, all-come-back}

module _ {S A : Type 0} (k : System S A) (laws : AreIndependent k) (mean : Meaning S A) (e : Explored) (x : IsExploredOf k mean e) where
  -- A path of explored moves is a run.
  path-ends : (ended : List Bool) → MarkEnds k mean e ended → (count i j : ℕ) (s : S) → mean.stands i s → Goes (Steps e.moves) count i j → IsMarked ended j
      → ComesToEnd k mean e s
  path-ends ended marks zero i j s at p end = record {
    run = [];
    end = s;
    among = x.among i s at;
    runs = laws.states.itself s;
    over = (marks i s at).0 (subst (IsMarked ended) (sym p) end);
  }
  path-ends ended marks (suc count) i j s at p end =
      let step = x.leads i p.1.thread p.0 s at p.1.is in
      let rest = path-ends ended marks count p.0 j step.0 step.2 p.2 end in
      record { run = p.1.thread ∷ rest.run; end = rest.end; among = rest.among; runs = (step.0, step.1, rest.runs); over = rest.over }

  can-end : (ended : List Bool) → MarkEnds k mean e ended → (i : ℕ) (s : S) → mean.stands i s → CanEnd e.moves ended i → ComesToEnd k mean e s
  can-end ended marks i s at c = path-ends ended marks c.path.count i c.end s at c.path.path c.is

  pub ends-are-exact : IsAmple e → EndsAreExact k mean e
  ends-are-exact c ended marks i s at = (can-end ended marks i s at, back)
    where
      back : ComesToEnd k mean e s → CanEnd e.moves ended i
      back r =
          let f = ends-are-found k laws mean e x c i s r.run r.end (record { begins = at; runs = r.runs; among = r.among }) r.over in
          let same = λ (n : ℕ) (can : CanGo k f.world n). r.over n ((laws.states.same r.end f.world n r.among (x.among f.state f.world f.is) f.alike).can.1 can) in
          record { end = f.state; path = f.path; is = (marks f.state f.world f.is).1 same }

  pub all-come-to-ends : IsAmple e → AllComeToEnds k mean e
  all-come-to-ends c ended marks i s ns z r all =
      let b = all-come-back k laws mean e x c i s ns z r in
      let f = b.found in
      let there = can-end ended marks f.state f.world f.is (all f.state f.path) in
      let on = runs-from k laws there.run b.end f.world there.end b.among (x.among f.state f.world f.is) f.alike there.runs in
      record {
        run = b.run ++ there.run;
        end = there.end;
        among = there.among;
        runs = runs-join k laws b.run there.run z b.end there.end r.among b.among b.runs on;
        over = there.over;
      }

  -- The world at each moment of a run of what was explored.
  module _ (run : Run e.moves) (busy : (n : ℕ) → (t : ℕ) × (run.by n ≡ Some t)) (s : S) (at : mean.stands (run.at 0) s) where
    record There (n : ℕ) : Type 0 where
      world : S
      stands : mean.stands (run.at n) world

    move-at : (n : ℕ) → Moves e.moves (run.at n) ((busy n).0) (run.at (suc n))
    move-at n = subst (λ o. Turns e.moves (run.at n) o (run.at (suc n))) (busy n).1 (run.turns n)

    abbrev step-at : (n : ℕ) (w : There n) → (z : S) × k.steps (busy n).0 w.world z × mean.stands (run.at (suc n)) z
    step-at n w = x.leads (run.at n) (busy n).0 (run.at (suc n)) w.world w.stands (move-at n)

    abbrev there : (n : ℕ) → There n
    there zero = record { world = s; stands = at }
    there (suc n) = record { world = (step-at n (there n)).0; stands = (step-at n (there n)).2 }

    abbrev made : EndlessRun (worlds_of k)
    made = record {
      at = λ n. (there n).world;
      by = λ n. (busy n).0;
      goes = λ n. ((step-at n (there n)).0, (step-at n (there n)).1);
      makes = λ n. (step-at n (there n)).1;
    }

    module _ (persists : Persists (worlds_of k) k.among) (fair : IsFairAsSeen e run) where
      -- Until then a thread that can go on makes a step, or can still.
      waits : (more n later t : ℕ) → later ≡ n + more → CanGo k (there n).world t → GetsStep (worlds_of k) made n t ⊎ CanGo k (there later).world t
      waits zero n later t q can = let p : n ≡ later = omega arith in inr (subst (λ v. CanGo k (there v).world t) p can)
      waits (suc more) n later t q can =
          by (cases_eq (busy n).0 t) (λ on. waits more (suc n) later t (omega arith) on)
        where
          on : GetsStep (worlds_of k) made (suc n) t ⊎ CanGo k (there later).world t → GetsStep (worlds_of k) made n t ⊎ CanGo k (there later).world t
          on (inl g) = inl (record { later = g.later; since = omega (arith, g.since); is = g.is })
          on (inr c) = inr c

          by : ((busy n).0 ≡ t) ⊎ ((busy n).0 ≡ t → ⊥)
              → (CanGo k (there (suc n)).world t → GetsStep (worlds_of k) made (suc n) t ⊎ CanGo k (there later).world t)
              → GetsStep (worlds_of k) made n t ⊎ CanGo k (there later).world t
          by (inl same) rest = inl (record { later = n; since = omega arith; is = same })
          by (inr d) rest =
              on (rest (persists.still (busy n).0 t (there n).world (there (suc n)).world (x.among (run.at n) (there n).world (there n).stands)
              (made.goes n) (made.makes n) (λ q. d (sym q)) can))

      made-fair : IsFairRun (worlds_of k) made
      made-fair n t can = by (fair.turns n t (x.can (run.at n) t (there n).world (there n).stands can))
        where
          till : (later : ℕ) → n ≤ later → e.can (run.at later) t ≡ false → GetsStep (worlds_of k) made n t ⊎ CanGo k (there later).world t
              → GetsStep (worlds_of k) made n t
          till later since not (inl g) = g
          till later since not (inr c) = absurd (true≢false (sym (x.can (run.at later) t (there later).world (there later).stands c) ∙ not))

          by : (later : ℕ) × (n ≤ later) × ((run.by later ≡ Some t) ⊎ (e.can (run.at later) t ≡ false)) → GetsStep (worlds_of k) made n t
          by r = which r.0 r.1 r.2
            where
              which : (later : ℕ) → n ≤ later → (run.by later ≡ Some t) ⊎ (e.can (run.at later) t ≡ false) → GetsStep (worlds_of k) made n t
              which later since (inl q) =
                  let both : Some ((busy later).0) ≡ Some t = sym (busy later).1 ∙ q in
                  record { later = later; since = since; is = cc both }
              which later since (inr not) = till later since not (waits (later - n) n later t (omega arith) can)

pub fair-runs-are-made : {S A : Type 0} (k : System S A) → AreIndependent k → (mean : Meaning S A) (e : Explored) → IsExploredOf k mean e
    → FairRunsAreMade k mean e
fair-runs-are-made k laws mean e x persists run fair s at = record {
  run = made k laws mean e x run fair.busy s at;
  begins = refl;
  fair = made-fair k laws mean e x run fair.busy s at persists fair;
}
