-- Where no two threads race at what was explored, each run of turns is a run of steps, behind which some threads have made plain
-- turns.
use Rattle.std.specs.Prelude.{◌≡◌, ◌≢◌, ◌⊎◌, ℕ, zero, suc, true, false, Option, Some, None, List, [], ◌∷◌, ◌++◌, refl}
use Rattle.std.proofs.Common.{ap, subst, sym, ◌∙◌, inl, inr, true≢false}
use Rattle.std.proofs.lemmas.Bool.{cases_Bool, cases_eq}
use Rattle.std.proofs.lemmas.Option.{none-some}
use Rattle.search_ample.specs.Systems.{CanGo, IsOver, Runs}
use Rattle.search_ample.specs.Explored.{Explored, Meaning, IsExploredOf}
use Rattle.search_ample.specs.Ample.{IsAmple}
use Rattle.search_ample.specs.Found.{IsRun}
use Rattle.search_ample.specs.Turns.{TurnSystem, IsPlainTurn, IsEvent, StepsIn, ComesToWant, MakesStep, steps_of, AreTurns}
use Rattle.search_ample.specs.TurnRuns.{TurnRuns, IsStopped, NoneRaceAt, NoneRaceThere, IsTurnRun, TurnEndsAreFound, TurnConflictsAreFound, NoTurnsRace}
use Rattle.search_ample.specs.TurnRuns.{TurnWantsAreFound, AllComeToStop, AllStep}
use Rattle.search_ample.proofs.Made.{all-come-to-ends}
use Rattle.search_ample.proofs.Runs.{runs-join}
use Rattle.search_ample.proofs.Bundles.{wants-alike, turn-alike, step-alike, one-step, among-step, first-want, first-step, before-want, want-now}
use Rattle.search_ample.proofs.Bundles.{IsFree, push-step, pull-want, pull-step, some-injective, bundles-are-independent}
use Rattle.search_ample.proofs.Finding.{ends-are-found, wants-are-found, conflicts-are-found, all-can-go-on}

module _ {S A : Type 0} (t : TurnSystem S A) (laws : AreTurns t) where
  -- These threads make plain turns.
  abbrev PlainRun : S → List ℕ → S → Type 0
  PlainRun s [] z = t.alike s z
  PlainRun s (n ∷ ns) z = IsPlainTurn t s n × PlainRun (t.next s n) ns z

  plain-from : (ns : List ℕ) (s v z : S) → t.among s → t.among v → t.alike s v → PlainRun v ns z → PlainRun s ns z
  plain-from [] s v z x y l r = laws.states.in_turn s v z l r
  plain-from (n ∷ ns) s v z x y l r =
      let p = turn-alike t laws v s n y x (laws.states.back s v l) r.0 in (
        p,
        plain-from ns (t.next s n) (t.next v n) z (laws.states.among s n p.act x p.wants) (laws.states.among v n (r.0).act y (r.0).wants)
            (laws.states.next s v n p.act x y l p.wants) r.1,
      )

  plain-more : (ns : List ℕ) (s z v : S) (n : ℕ) → t.among s → t.among z → PlainRun s ns z → IsPlainTurn t z n → t.alike (t.next z n) v
      → PlainRun s (ns ++ n ∷ []) v
  plain-more [] s z v n x y r p l =
      let q = turn-alike t laws z s n y x (laws.states.back s z r) p in
      (q, laws.states.in_turn (t.next s n) (t.next z n) v (laws.states.next s z n q.act x y r q.wants) l)
  plain-more (m ∷ ns) s z v n x y r p l =
      (r.0, plain-more ns (t.next s m) z v n (laws.states.among s m (r.0).act x (r.0).wants) y r.1 p l)

  -- Where none race, another's plain turn is free of what a thread comes to want.
  free-of : (s : S) (n u : ℕ) (d : u ≢ n) → t.among s → NoneRaceAt t s → (p : IsPlainTurn t s u) → IsFree t laws n u d p.act s
  free-of s n u d x none p count a w f =
      none u n p.act a (λ q. d (sym q)) (want-now t laws s u p.act p.wants) (record { count = count; is = w }) p.plain (laws.mutual_is a p.act f)

  -- A thread that wants something behind another's plain turn wants something before it.
  awake-before : (s : S) (n u : ℕ) → u ≢ n → t.among s → (p : IsPlainTurn t s u) → (g : A) × (t.wants (t.next s u) n ≡ Some g)
      → (g : A) × (t.wants s n ≡ Some g)
  awake-before s n u d x p later = by (t.wants s n) refl
    where
      by : (w : Option A) → t.wants s n ≡ w → (g : A) × (t.wants s n ≡ Some g)
      by (Some g) h = (g, h)
      by None h = absurd (none-some later.0 (sym (laws.quiet s n u p.act x d h p.wants p.plain) ∙ later.1))

  -- What is wanted behind a plain turn is wanted before it.
  wanted-before : (s : S) (n u : ℕ) (a : A) → t.among s → NoneRaceAt t s → (p : IsPlainTurn t s u) → ComesToWant t (t.next s u) n a → ComesToWant t s n a
  wanted-before s n u a x none p w = by (cases_eq u n)
    where
      by : (u ≡ n) ⊎ (u ≡ n → ⊥) → ComesToWant t s n a
      by (inl q) =
          before-want t laws s n a (subst (λ v. IsPlainTurn t s v) q p) (subst (λ v. ComesToWant t (t.next s v) n a) q w)
      by (inr d) =
          let now = awake-before s n u d x p (first-want t laws w.count n a (t.next s u) w.is) in
          record {
            count = w.count;
            is = pull-want t laws n u d w.count a p.act s x p.wants (free-of s n u d x none p) now.0 now.1 w.is;
          }

  -- So none race behind it.
  none-behind : (s : S) (u : ℕ) → t.among s → NoneRaceAt t s → IsPlainTurn t s u → NoneRaceAt t (t.next s u)
  none-behind s u x none p n m a b d wn wm = none n m a b d (wanted-before s n u a x none p wn) (wanted-before s m u b x none p wm)

  -- What a thread wants behind plain turns it comes to want before them.
  pub wanted-first : (ns : List ℕ) (s z : S) (n : ℕ) (a : A) → t.among s → t.among z → NoneRaceAt t s → PlainRun s ns z → t.wants z n ≡ Some a
      → ComesToWant t s n a
  wanted-first [] s z n a x y none r w = want-now t laws s n a (wants-alike t laws z s n a y x (laws.states.back s z r) w)
  wanted-first (u ∷ ns) s z n a x y none r w =
      let p = r.0 in
      wanted-before s n u a x none p
      (wanted-first ns (t.next s u) z n a (laws.states.among s u p.act x p.wants) y (none-behind s u x none p) r.1 w)

  -- One that could go on before them can behind them.
  awake-along : (ns : List ℕ) (s z : S) (n : ℕ) (a : A) → t.among s → t.among z → PlainRun s ns z → t.wants s n ≡ Some a → (b : A) × (t.wants z n ≡ Some b)
  awake-along [] s z n a x y r w = (a, wants-alike t laws s z n a x y r w)
  awake-along (u ∷ ns) s z n a x y r w =
      let p = r.0 in
      let next = there (cases_eq u n) in
      awake-along ns (t.next s u) z n next.0 (laws.states.among s u p.act x p.wants) y r.1 next.1
    where
      one : (t.wants (t.next s u) n ≡ Some a) ⊎ ((c : A) × (t.wants (t.next s u) n ≡ Some c) × (t.conflict (r.0).act c ≡ true))
          → (b : A) × (t.wants (t.next s u) n ≡ Some b)
      one (inl h) = (a, h)
      one (inr h) = (h.0, h.1)

      there : (u ≡ n) ⊎ (u ≡ n → ⊥) → (b : A) × (t.wants (t.next s u) n ≡ Some b)
      there (inl q) =
          let on = laws.goes_on s u (r.0).act x (r.0).wants (r.0).plain in
          (on.0, subst (λ v. t.wants (t.next s u) v ≡ Some on.0) q on.1)
      there (inr d) = one (laws.still s n u a (r.0).act x d w (r.0).wants)

  -- An event behind plain turns: its thread's step comes before those of the others.
  record Gathered (s : S) (n : ℕ) (z : S) : Type 0 where
    middle : S
    step : MakesStep t n s middle
    off : List ℕ
    plainly : PlainRun middle off z

  gather : (ns : List ℕ) (s z v : S) (n : ℕ) → t.among s → t.among z → NoneRaceAt t s → PlainRun s ns z → IsEvent t n z v → Gathered s n v
  gather [] s z v n x y none r w = record {
    middle = t.next s n;
    step = record {
      count = 0;
      is = record { act = w.act; wants = wants-alike t laws z s n w.act y x (laws.states.back s z r) w.wants; event = w.event; is = refl };
    };
    off = [];
    plainly = subst (λ q. t.alike (t.next s n) q) w.is
        (laws.states.next s z n w.act x y r (wants-alike t laws z s n w.act y x (laws.states.back s z r) w.wants));
  }
  gather (u ∷ ns) s z v n x y none r w =
      by (cases_eq u n) (gather ns (t.next s u) z v n on y (none-behind s u x none p) r.1 w)
    where
      p : IsPlainTurn t s u
      p = r.0

      on : t.among (t.next s u)
      on = laws.states.among s u p.act x p.wants

      past : u ≢ n → (g : Gathered (t.next s u) n v) → Gathered s n v
      past d g =
          let now = awake-before s n u d x p (first-step t laws (g.step).count n (t.next s u) g.middle (g.step).is) in
          let free = free-of s n u d x none p in
          let pulled = pull-step t laws n u d (g.step).count p.act s g.middle x p.wants free now.0 now.1 (g.step).is in
          let pushed = push-step t laws n u d (g.step).count p.act s pulled.0 x p.wants free pulled.1 in
          let same : pushed.end ≡ g.middle =
          one-step t laws (g.step).count (g.step).count n (t.next s u) pushed.end g.middle pushed.steps (g.step).is in
          let there = among-step t laws (g.step).count n s pulled.0 x pulled.1 in
          record {
            middle = pulled.0;
            step = record { count = (g.step).count; is = pulled.1 };
            off = u ∷ g.off;
            plainly = (
              record { act = p.act; wants = pushed.wants; plain = p.plain },
              plain-from g.off (t.next pulled.0 u) g.middle v (laws.states.among pulled.0 u p.act there pushed.wants)
                  (among-step t laws (g.step).count n (t.next s u) g.middle on (g.step).is)
                  (subst (λ q. t.alike (t.next pulled.0 u) q) same pushed.alike) g.plainly,
            );
          }

      by : (u ≡ n) ⊎ (u ≡ n → ⊥) → Gathered (t.next s u) n v → Gathered s n v
      by (inl q) g = record {
        middle = g.middle;
        step = record {
          count = suc (g.step).count;
          is = (subst (λ m. IsPlainTurn t s m) q p, subst (λ m. StepsIn t (g.step).count n (t.next s m) g.middle) q (g.step).is);
        };
        off = g.off;
        plainly = g.plainly;
      }
      by (inr d) g = past d g

  -- A step that could be made before plain turns can be made behind them, by what is left of it.
  can-along : (off : List ℕ) (s z y : S) (n count : ℕ) → t.among s → t.among z → NoneRaceAt t s → PlainRun s off z → StepsIn t count n s y
      → CanGo (steps_of t) z n
  can-along [] s z y n count x w none r m =
      let there = step-alike t laws count n s z y x w r m in
      (there.end, record { count = count; is = there.steps })
  can-along (u ∷ off) s z y n count x w none r m =
      by (cases_eq u n) count m (λ c v q. can-along off (t.next s u) z v n c on w (none-behind s u x none p) r.1 q)
    where
      p : IsPlainTurn t s u
      p = r.0

      on : t.among (t.next s u)
      on = laws.states.among s u p.act x p.wants

      by : (u ≡ n) ⊎ (u ≡ n → ⊥) → (c : ℕ) → StepsIn t c n s y → ((d : ℕ) (v : S) → StepsIn t d n (t.next s u) v → CanGo (steps_of t) z n)
          → CanGo (steps_of t) z n
      by (inl q) zero m rest =
          let same : m.act ≡ p.act = some-injective m.act p.act (sym m.wants ∙ subst (λ v. t.wants s v ≡ Some p.act) q p.wants) in
          absurd (true≢false (sym p.plain ∙ (ap t.plain (sym same) ∙ m.event)))
      by (inl q) (suc c) m rest = rest c y (subst (λ v. StepsIn t c n (t.next s v) y) (sym q) m.1)
      by (inr d) c m rest =
          let pushed = push-step t laws n u d c p.act s y x p.wants (free-of s n u d x none p) m in
          rest c pushed.end pushed.steps

  plain-to : (ns : List ℕ) (s z v : S) → t.alike z v → PlainRun s ns z → PlainRun s ns v
  plain-to [] s z v l r = laws.states.in_turn s z v r l
  plain-to (n ∷ ns) s z v l r = (r.0, plain-to ns (t.next s n) z v l r.1)

  -- Runs of turns, from states that nobody tells apart, and one after the other.
  turns-from : (ns : List ℕ) (s v z : S) → t.among s → t.among v → t.alike s v → TurnRuns t v ns z → TurnRuns t s ns z
  turns-from [] s v z x y l r = laws.states.in_turn s v z l r
  turns-from (n ∷ ns) s v z x y l r =
      let h = wants-alike t laws v s n r.0 y x (laws.states.back s v l) r.1 in (
        r.0,
        h,
        turns-from ns (t.next s n) (t.next v n) z (laws.states.among s n r.0 x h) (laws.states.among v n r.0 y r.1)
            (laws.states.next s v n r.0 x y l h) r.2,
      )

  turns-join : (ms ns : List ℕ) (s v z : S) → t.among s → t.among v → TurnRuns t s ms v → TurnRuns t v ns z → TurnRuns t s (ms ++ ns) z
  turns-join [] ns s v z x y a b = turns-from ns s v z x y a b
  turns-join (m ∷ ms) ns s v z x y a b = (a.0, a.1, turns-join ms ns (t.next s m) v z (laws.states.among s m a.0 x a.1) y a.2 b)

  -- A run of steps is one of turns.
  abbrev SomeTurns : S → S → Type 0
  SomeTurns s z = (ns : List ℕ) × TurnRuns t s ns z

  turns-of-step : (count n : ℕ) (s v z : S) → StepsIn t count n s v → SomeTurns v z → SomeTurns s z
  turns-of-step zero n s v z w r = (n ∷ r.0, (w.act, w.wants, subst (λ q. TurnRuns t q r.0 z) (sym w.is) r.1))
  turns-of-step (suc count) n s v z w r =
      let rest = turns-of-step count n (t.next s n) v z w.1 r in
      (n ∷ rest.0, ((w.0).act, (w.0).wants, rest.1))

  turns-of : (ns : List ℕ) (s z : S) → Runs (steps_of t) s ns z → SomeTurns s z
  turns-of [] s z r = ([], r)
  turns-of (n ∷ ns) s z r = turns-of-step (r.1).count n s r.0 z (r.1).is (turns-of ns r.0 z r.2)

  -- Nowhere in runs of turns from there do two threads race.
  abbrev NoneRaceFrom : S → Type 0
  NoneRaceFrom s = (ns : List ℕ) (v : S) → t.among v → TurnRuns t s ns v → (n u : ℕ) (a b : A) → u ≢ n → t.wants v n ≡ Some a → t.wants v u ≡ Some b
      → t.plain a ≡ true → t.conflict a b ≡ true → ⊥

  none-on : (s : S) (n : ℕ) (a : A) → t.wants s n ≡ Some a → NoneRaceFrom s → NoneRaceFrom (t.next s n)
  none-on s n a h none ns v y r = none (n ∷ ns) v y (a, h, r)

  -- So a plain turn comes first in a run to where nobody can go on.
  plain-first : (ns : List ℕ) (s z : S) (n : ℕ) → t.among s → t.among z → IsPlainTurn t s n → NoneRaceFrom s → IsStopped t z → TurnRuns t s ns z
      → SomeTurns (t.next s n) z
  plain-first [] s z n x y p none stop r = absurd (none-some p.act (sym (stop n) ∙ wants-alike t laws s z n p.act x y r p.wants))
  plain-first (m ∷ ns) s z n x y p none stop r =
      by (cases_eq m n) (λ q. plain-first ns (t.next s m) z n (laws.states.among s m r.0 x r.1) y q (none-on s m r.0 r.1 none) stop r.2)
    where
      apart : m ≢ n → t.conflict p.act r.0 ≡ false
      apart d = so (cases_Bool (t.conflict p.act r.0))
        where
          so : (t.conflict p.act r.0 ≡ true) ⊎ (t.conflict p.act r.0 ≡ false) → t.conflict p.act r.0 ≡ false
          so (inl f) = absurd (none [] s x (laws.states.itself s) n m p.act r.0 d p.wants r.1 p.plain f)
          so (inr f) = f

      apart-back : m ≢ n → t.conflict r.0 p.act ≡ false
      apart-back d = so (cases_Bool (t.conflict r.0 p.act))
        where
          so : (t.conflict r.0 p.act ≡ true) ⊎ (t.conflict r.0 p.act ≡ false) → t.conflict r.0 p.act ≡ false
          so (inl f) = absurd (true≢false (sym (laws.mutual_is r.0 p.act f) ∙ apart d))
          so (inr f) = f

      by : (m ≡ n) ⊎ (m ≡ n → ⊥) → (IsPlainTurn t (t.next s m) n → SomeTurns (t.next (t.next s m) n) z) → SomeTurns (t.next s n) z
      by (inl q) rest = (ns, subst (λ v. TurnRuns t (t.next s v) ns z) q r.2)
      by (inr d) rest =
          let still_n = laws.kept s n m p.act r.0 x d p.wants r.1 (apart d) in
          let still_m = laws.kept s m n r.0 p.act x (λ q. d (sym q)) r.1 p.wants (apart-back d) in
          let there = rest (record { act = p.act; wants = still_n; plain = p.plain }) in (
            m ∷ there.0,
            (
              r.0,
              still_m,
              turns-from there.0 (t.next (t.next s n) m) (t.next (t.next s m) n) z
                  (laws.states.among (t.next s n) m r.0 (laws.states.among s n p.act x p.wants) still_m)
                  (laws.states.among (t.next s m) n p.act (laws.states.among s m r.0 x r.1) still_n)
                  (laws.states.back (t.next (t.next s m) n) (t.next (t.next s n) m) (laws.swap s n m p.act r.0 x d p.wants r.1 (apart d))) there.1,
            ),
          )

  all-first : (off ns : List ℕ) (s v z : S) → t.among s → t.among v → t.among z → PlainRun s off v → NoneRaceFrom s → IsStopped t z → TurnRuns t s ns z
      → SomeTurns v z
  all-first [] ns s v z x w y p none stop r = (ns, turns-from ns v s z w x (laws.states.back s v p) r)
  all-first (n ∷ off) ns s v z x w y p none stop r =
      let on = plain-first ns s z n x y p.0 none stop r in
      all-first off on.0 (t.next s n) v z (laws.states.among s n (p.0).act x (p.0).wants) w y p.1 (none-on s n (p.0).act (p.0).wants none) stop on.1

  module _ (mean : Meaning S A) (e : Explored) (x : IsExploredOf (steps_of t) mean e) (c : IsAmple e) (races : NoneRaceThere t mean e) where
    none-at : (i : ℕ) (s : S) (ns : List ℕ) (v : S) → IsRun (steps_of t) mean e i s ns v → NoneRaceAt t v
    none-at i s ns v r n u a b d wn wu p f =
        let found = conflicts-are-found (steps_of t) (bundles-are-independent t laws) mean e x c i s ns v r n u a b wn wu f in
        races found.state found.world found.is n u a b d found.one found.other p f

    -- A run of steps, and behind it plain turns.
    record Normal (i : ℕ) (s z : S) : Type 0 where
      run : List ℕ
      middle : S
      reached : IsRun (steps_of t) mean e i s run middle
      off : List ℕ
      plainly : PlainRun middle off z

    add : (i : ℕ) (s z : S) (n : ℕ) (a : A) → t.among z → Normal i s z → t.wants z n ≡ Some a → Normal i s (t.next z n)
    add i s z n a y f h = by (cases_Bool (t.plain a))
      where
        begins : mean.stands i s
        begins = (f.reached).begins

        from : t.among s
        from = x.among i s begins

        there : t.among f.middle
        there = (f.reached).among

        by : (t.plain a ≡ true) ⊎ (t.plain a ≡ false) → Normal i s (t.next z n)
        by (inl p) = record {
          run = f.run;
          middle = f.middle;
          reached = f.reached;
          off = f.off ++ n ∷ [];
          plainly = plain-more f.off f.middle z (t.next z n) n there y f.plainly (record { act = a; wants = h; plain = p }) (laws.states.itself (t.next z n));
        }
        by (inr p) =
            let g = gather f.off f.middle z (t.next z n) n there y (none-at i s f.run f.middle f.reached) f.plainly
            (record { act = a; wants = h; event = p; is = refl }) in
            record {
              run = f.run ++ n ∷ [];
              middle = g.middle;
              reached = record {
                begins = begins;
                runs = runs-join (steps_of t) (bundles-are-independent t laws) f.run (n ∷ []) s f.middle g.middle from there (f.reached).runs
                    (g.middle, g.step, laws.states.itself g.middle);
                among = among-step t laws (g.step).count n f.middle g.middle there (g.step).is;
              };
              off = g.off;
              plainly = g.plainly;
            }

    add-all : (i : ℕ) (s : S) (ns : List ℕ) (z v : S) → t.among z → Normal i s z → TurnRuns t z ns v → Normal i s v
    add-all i s [] z v y f r =
        record { run = f.run; middle = f.middle; reached = f.reached; off = f.off; plainly = plain-to f.off f.middle z v r f.plainly }
    add-all i s (n ∷ ns) z v y f r = add-all i s ns (t.next z n) v (laws.states.among z n r.0 y r.1) (add i s z n r.0 y f r.1) r.2

    normal : (i : ℕ) (s : S) (ns : List ℕ) (z : S) → IsTurnRun t mean e i s ns z → Normal i s z
    normal i s ns z r =
        let from = x.among i s r.begins in
        add-all i s ns s z from
        (record {
          run = [];
          middle = s;
          reached = record { begins = r.begins; runs = laws.states.itself s; among = from };
          off = [];
          plainly = laws.states.itself s;
        })
        r.runs

    pub turn-wants-are-found : TurnWantsAreFound t mean e
    turn-wants-are-found i s ns z r n a h =
        let nf = normal i s ns z r in
        let at = nf.reached in
        wants-are-found (steps_of t) (bundles-are-independent t laws) mean e x c i s nf.run nf.middle at n a
        (wanted-first nf.off nf.middle z n a at.among r.among (none-at i s nf.run nf.middle at) nf.plainly h)

    pub turn-conflicts-are-found : TurnConflictsAreFound t mean e
    turn-conflicts-are-found i s ns z r n u a b wn wu f =
        let nf = normal i s ns z r in
        let at = nf.reached in
        let none = none-at i s nf.run nf.middle at in
        conflicts-are-found (steps_of t) (bundles-are-independent t laws) mean e x c i s nf.run nf.middle at n u a b
        (wanted-first nf.off nf.middle z n a at.among r.among none nf.plainly wn)
        (wanted-first nf.off nf.middle z u b at.among r.among none nf.plainly wu) f

    pub no-turns-race : NoTurnsRace t mean e
    no-turns-race i s ns z r n u a b d wn wu p f =
        let found = turn-conflicts-are-found i s ns z r n u a b wn wu f in
        races found.state found.world found.is n u a b d found.one found.other p f

    -- Where nobody can go on there are no plain turns that were put off.
    none-off : (off : List ℕ) (s z : S) → t.among s → t.among z → PlainRun s off z → IsStopped t z → t.alike s z
    none-off [] s z x' y r stop = r
    none-off (n ∷ off) s z x' y r stop =
        let p = r.0 in
        let on = laws.goes_on s n p.act x' p.wants p.plain in
        let at = awake-along off (t.next s n) z n on.0 (laws.states.among s n p.act x' p.wants) y r.1 on.1 in
        absurd (none-some at.0 (sym (stop n) ∙ at.1))

    pub turn-ends-are-found : TurnEndsAreFound t mean e
    turn-ends-are-found i s ns z r stop =
        let nf = normal i s ns z r in
        let at = nf.reached in
        let same = none-off nf.off nf.middle z at.among r.among nf.plainly stop in
        let over : IsOver (steps_of t) nf.middle = λ n can.
        (let w = first-step t laws (can.1).count n nf.middle can.0 (can.1).is in
        none-some w.0 (sym (stop n) ∙ wants-alike t laws nf.middle z n w.0 at.among r.among same w.1)) in
        let found = ends-are-found (steps_of t) (bundles-are-independent t laws) mean e x c i s nf.run nf.middle at over in
        record {
          state = found.state;
          path = found.path;
          world = found.world;
          is = found.is;
          alike = laws.states.in_turn z nf.middle found.world (laws.states.back nf.middle z same) found.alike;
        }

    pub all-step : AllStep t mean e
    all-step steps i s ns z r n a h =
        let nf = normal i s ns z r in
        let at = nf.reached in
        let none = none-at i s nf.run nf.middle at in
        let there = λ (j : ℕ) (v : S) (st : mean.stands j v) (m : ℕ) (b : A) (w : ComesToWant t v m b).
        (let d = first-want t laws w.count m b v w.is in steps j v m d.0 st d.1) in
        let can = all-can-go-on (steps_of t) (bundles-are-independent t laws) mean e x c there i s nf.run nf.middle at n a
        (wanted-first nf.off nf.middle z n a at.among r.among none nf.plainly h) in
        can-along nf.off nf.middle z can.0 n (can.1).count at.among r.among none nf.plainly (can.1).is

    pub all-come-to-stop : AllComeToStop t mean e
    all-come-to-stop steps ended marks i s ns z r all =
        let nf = normal i s ns z r in
        let at = nf.reached in
        let k = steps_of t in
        let indep = bundles-are-independent t laws in
        let end = all-come-to-ends k indep mean e x c ended marks i s nf.run nf.middle at all in
        let from = x.among i s r.begins in
        let whole = runs-join k indep nf.run end.run s nf.middle end.end from at.among at.runs end.runs in
        let found = ends-are-found k indep mean e x c i s (nf.run ++ end.run) end.end
        (record { begins = r.begins; runs = whole; among = end.among }) end.over in
        let stop : IsStopped t end.end = stopped end.end found.world end.among (x.among found.state found.world found.is) found.alike end.over
        (λ n a h. steps found.state found.world n a found.is h) in
        let first = turns-of nf.run s nf.middle at.runs in
        let none : NoneRaceFrom nf.middle = λ ms v y w n u a b d.
        no-turns-race i s (first.0 ++ ms) v
        (record { begins = r.begins; runs = turns-join first.0 ms s nf.middle v from at.among first.1 w; among = y }) n u a b d in
        let rest = turns-of end.run nf.middle end.end end.runs in
        let there = all-first nf.off rest.0 nf.middle z end.end at.among r.among end.among nf.plainly none stop rest.1 in
        record { run = there.0; end = end.end; among = end.among; runs = there.1; stopped = stop }
      where
        stopped : (z v : S) → t.among z → t.among v → t.alike z v → IsOver (steps_of t) z → ((n : ℕ) (a : A) → t.wants v n ≡ Some a → CanGo (steps_of t) v n)
            → IsStopped t z
        stopped z v y w l over steps n = by (t.wants z n) refl
          where
            by : (o : Option A) → t.wants z n ≡ o → t.wants z n ≡ None
            by None h = h
            by (Some a) h =
                let can = steps n a (wants-alike t laws z v n a y w l h) in
                let back = step-alike t laws (can.1).count n v z can.0 w y (laws.states.back z v l) (can.1).is in
                absurd (over n (back.end, record { count = (can.1).count; is = back.steps }))
