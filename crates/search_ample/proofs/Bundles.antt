-- Steps of plain turns and one that isn't plain keep the laws of steps, where turns keep those of turns.
use Rattle.std.specs.Prelude.{◌≡◌, ◌≢◌, ◌⊎◌, ℕ, zero, suc, Bool, true, false, Option, Some, None, refl}
use Rattle.std.proofs.Common.{ap, subst, sym, ◌∙◌, inl, inr, true≢false}
use Rattle.std.proofs.lemmas.Bool.{cases_Bool}
use Rattle.std.proofs.lemmas.Option.{none-some}
use Rattle.search_ample.specs.Systems.{IsAwake, IsSame, AreStates, AreIndependent}
use Rattle.search_ample.proofs.Runs.{same-on}
use Rattle.search_ample.specs.Turns.{TurnSystem, IsPlainTurn, WantsIn, StepsIn, ComesToWant, MakesStep, steps_of, AreTurns}

pub some-injective : {A : Type 0} (a b : A) → Some a ≡ Some b → a ≡ b
some-injective a b e = cc e

not-so : (b : Bool) → (b ≡ true → ⊥) → b ≡ false
not-so true h = absurd (h refl)
not-so false h = refl

module _ {S A : Type 0} (t : TurnSystem S A) (laws : AreTurns t) where
  -- Of states that nobody tells apart.
  pub wants-alike : (s z : S) (n : ℕ) (a : A) → t.among s → t.among z → t.alike s z → t.wants s n ≡ Some a → t.wants z n ≡ Some a
  wants-alike s z n a x y l h = sym (laws.states.wants s z n x y l) ∙ h

  pub turn-alike : (s z : S) (n : ℕ) → t.among s → t.among z → t.alike s z → IsPlainTurn t s n → IsPlainTurn t z n
  turn-alike s z n x y l p = record { act = p.act; wants = wants-alike s z n p.act x y l p.wants; plain = p.plain }

  want-alike : (count n : ℕ) (a : A) (s z : S) → t.among s → t.among z → t.alike s z → WantsIn t count n a s → WantsIn t count n a z
  want-alike zero n a s z x y l w = wants-alike s z n a x y l w
  want-alike (suc count) n a s z x y l w =
      let p = turn-alike s z n x y l w.0 in (
        p,
        want-alike count n a (t.next s n) (t.next z n) (laws.states.among s n w.0.act x w.0.wants) (laws.states.among z n p.act y p.wants)
            (laws.states.next s z n w.0.act x y l w.0.wants) w.1,
      )

  pub record Comes (count n : ℕ) (v z : S) : Type 0 where
    pub end : S
    pub steps : StepsIn t count n z end
    pub alike : t.alike v end

  pub step-alike : (count n : ℕ) (s z v : S) → t.among s → t.among z → t.alike s z → StepsIn t count n s v → Comes count n v z
  step-alike zero n s z v x y l w = record {
    end = t.next z n;
    steps = record { act = w.act; wants = wants-alike s z n w.act x y l w.wants; event = w.event; is = refl };
    alike = subst (λ q. t.alike q (t.next z n)) w.is (laws.states.next s z n w.act x y l w.wants);
  }
  step-alike (suc count) n s z v x y l w =
      let p = turn-alike s z n x y l w.0 in
      let rest = step-alike count n (t.next s n) (t.next z n) v (laws.states.among s n w.0.act x w.0.wants) (laws.states.among z n p.act y p.wants)
      (laws.states.next s z n w.0.act x y l w.0.wants) w.1 in
      record { end = rest.end; steps = (p, rest.steps); alike = rest.alike }

  pub among-step : (count n : ℕ) (s z : S) → t.among s → StepsIn t count n s z → t.among z
  among-step zero n s z x w = subst t.among w.is (laws.states.among s n w.act x w.wants)
  among-step (suc count) n s z x w = among-step count n (t.next s n) z (laws.states.among s n w.0.act x w.0.wants) w.1

  -- A thread makes one step.
  pub one-step : (c d n : ℕ) (s z v : S) → StepsIn t c n s z → StepsIn t d n s v → z ≡ v
  one-step zero zero n s z v a b = sym a.is ∙ b.is
  one-step zero (suc d) n s z v a b =
      let same = some-injective a.act b.0.act (sym a.wants ∙ b.0.wants) in
      absurd (true≢false (sym b.0.plain ∙ (ap t.plain (sym same) ∙ a.event)))
  one-step (suc c) zero n s z v a b =
      let same = some-injective b.act a.0.act (sym b.wants ∙ a.0.wants) in
      absurd (true≢false (sym a.0.plain ∙ (ap t.plain (sym same) ∙ b.event)))
  one-step (suc c) (suc d) n s z v a b = one-step c d n (t.next s n) z v a.1 b.1

  same-alike : (s z : S) (n : ℕ) → t.among s → t.among z → t.alike s z → IsSame (steps_of t) s z n
  same-alike s z n x y l =
      let back = laws.states.back s z l in
      record {
        can = (
          λ r. (let m = step-alike (r.1).count n s z r.0 x y l (r.1).is in (m.end, record { count = (r.1).count; is = m.steps })),
          λ r. (let m = step-alike (r.1).count n z s r.0 y x back (r.1).is in (m.end, record { count = (r.1).count; is = m.steps })),
        );
        wants = λ a. (
          λ w. record { count = w.count; is = want-alike w.count n a s z x y l w.is },
          λ w. record { count = w.count; is = want-alike w.count n a z s y x back w.is },
        );
        heeds = λ a. (laws.states.heeds s z n a x y l, laws.states.heeds z s n a y x back);
      }

  bundle-states : AreStates (steps_of t)
  bundle-states = record {
    among = λ n s z x m. among-step m.count n s z x m.is;
    one = λ n s z v x m q. subst (λ w. t.alike z w) (one-step m.count q.count n s z v m.is q.is) (laws.states.itself z);
    itself = laws.states.itself;
    back = laws.states.back;
    in_turn = laws.states.in_turn;
    same = same-alike;
    steps = λ n s z v x y l m. (let r = step-alike m.count n s z v x y l m.is in (r.end, record { count = m.count; is = r.steps }, r.alike));
  }

  -- What one comes to want, and a step, begin with what it wants.
  pub first-want : (count n : ℕ) (a : A) (s : S) → WantsIn t count n a s → (d : A) × (t.wants s n ≡ Some d)
  first-want zero n a s w = (a, w)
  first-want (suc count) n a s w = (w.0.act, w.0.wants)

  pub first-step : (count n : ℕ) (s z : S) → StepsIn t count n s z → (d : A) × (t.wants s n ≡ Some d)
  first-step zero n s z w = (w.act, w.wants)
  first-step (suc count) n s z w = (w.0.act, w.0.wants)

  pub before-want : (s : S) (n : ℕ) (a : A) → IsPlainTurn t s n → ComesToWant t (t.next s n) n a → ComesToWant t s n a
  before-want s n a p w = record { count = suc w.count; is = (p, w.is) }

  pub want-now : (s : S) (n : ℕ) (a : A) → t.wants s n ≡ Some a → ComesToWant t s n a
  want-now s n a h = record { count = 0; is = h }

  pub comes-alike : (s z : S) (n : ℕ) (a : A) → t.among s → t.among z → t.alike s z → ComesToWant t s n a → ComesToWant t z n a
  comes-alike s z n a x y l w = record { count = w.count; is = want-alike w.count n a s z x y l w.is }

  -- One turn of thread u.
  module _ (n u : ℕ) (other : u ≢ n) where
    -- It conflicts with nothing that thread n comes to want.
    abbrev pub IsFree : A → S → Type 0
    IsFree b s = (count : ℕ) (a : A) → WantsIn t count n a s → t.conflict a b ≡ true → ⊥

    free-next : (b : A) (s : S) → IsFree b s → IsPlainTurn t s n → IsFree b (t.next s n)
    free-next b s f p count a w = f (suc count) a (p, w)

    pub kept-here : (s : S) (a b : A) → t.among s → t.wants s n ≡ Some a → t.wants s u ≡ Some b → IsFree b s → t.wants (t.next s u) n ≡ Some a
    kept-here s a b x hn hu f = laws.kept s n u a b x other hn hu (not-so (t.conflict a b) (f 0 a hn))

    pub kept-there : (s : S) (a b : A) → t.among s → t.wants s n ≡ Some a → t.wants s u ≡ Some b → IsFree b s → t.wants (t.next s n) u ≡ Some b
    kept-there s a b x hn hu f =
        laws.kept s u n b a x (λ q. other (sym q)) hu hn (not-so (t.conflict b a) (λ c. f 0 a hn (laws.mutual_is b a c)))

    pub either-way : (s : S) (a b : A) → t.among s → t.wants s n ≡ Some a → t.wants s u ≡ Some b → IsFree b s
        → t.alike (t.next (t.next s u) n) (t.next (t.next s n) u)
    either-way s a b x hn hu f = laws.swap s n u a b x other hn hu (not-so (t.conflict a b) (f 0 a hn))

    among-here : (s : S) (a b : A) → t.among s → t.wants s n ≡ Some a → t.wants s u ≡ Some b → IsFree b s → t.among (t.next (t.next s u) n)
    among-here s a b x hn hu f = laws.states.among (t.next s u) n a (laws.states.among s u b x hu) (kept-here s a b x hn hu f)

    among-there : (s : S) (a b : A) → t.among s → t.wants s n ≡ Some a → t.wants s u ≡ Some b → IsFree b s → t.among (t.next (t.next s n) u)
    among-there s a b x hn hu f = laws.states.among (t.next s n) u b (laws.states.among s n a x hn) (kept-there s a b x hn hu f)

    turn-here : (s : S) (b : A) → t.among s → (p : IsPlainTurn t s n) → t.wants s u ≡ Some b → IsFree b s → IsPlainTurn t (t.next s u) n
    turn-here s b x p hu f = record { act = p.act; wants = kept-here s p.act b x p.wants hu f; plain = p.plain }

    -- What it comes to want it does behind the turn, and the other way round.
    push-want : (count : ℕ) (a b : A) (s : S) → t.among s → t.wants s u ≡ Some b → IsFree b s → WantsIn t count n a s → WantsIn t count n a (t.next s u)
    push-want zero a b s x hu f w = kept-here s a b x w hu f
    push-want (suc count) a b s x hu f w =
        let p = w.0 in
        let there = kept-there s p.act b x p.wants hu f in
        let rest = push-want count a b (t.next s n) (laws.states.among s n p.act x p.wants) there (free-next b s f p) w.1 in (
          turn-here s b x p hu f,
          want-alike count n a (t.next (t.next s n) u) (t.next (t.next s u) n) (among-there s p.act b x p.wants hu f) (among-here s p.act b x p.wants hu f)
              (laws.states.back (t.next (t.next s u) n) (t.next (t.next s n) u) (either-way s p.act b x p.wants hu f)) rest,
        )

    pub pull-want : (count : ℕ) (a b : A) (s : S) → t.among s → t.wants s u ≡ Some b → IsFree b s → (d : A) → t.wants s n ≡ Some d
        → WantsIn t count n a (t.next s u) → WantsIn t count n a s
    pull-want zero a b s x hu f d hn w = hn ∙ (sym (kept-here s d b x hn hu f) ∙ w)
    pull-want (suc count) a b s x hu f d hn w =
        let same : w.0.act ≡ d = some-injective w.0.act d (sym w.0.wants ∙ kept-here s d b x hn hu f) in
        let p : IsPlainTurn t s n = record { act = d; wants = hn; plain = ap t.plain (sym same) ∙ w.0.plain } in
        let on = laws.goes_on s n d x hn p.plain in
        let rest = want-alike count n a (t.next (t.next s u) n) (t.next (t.next s n) u) (among-here s d b x hn hu f) (among-there s d b x hn hu f)
        (either-way s d b x hn hu f) w.1 in
        (p, pull-want count a b (t.next s n) (laws.states.among s n d x hn) (kept-there s d b x hn hu f) (free-next b s f p) on.0 on.1 rest)

    -- So of a step.
    pub record Pushed (b : A) (count : ℕ) (s z : S) : Type 0 where
      pub end : S
      pub steps : StepsIn t count n (t.next s u) end
      pub wants : t.wants z u ≡ Some b
      pub alike : t.alike (t.next z u) end

    pub push-step : (count : ℕ) (b : A) (s z : S) → t.among s → t.wants s u ≡ Some b → IsFree b s → StepsIn t count n s z → Pushed b count s z
    push-step zero b s z x hu f w = record {
      end = t.next (t.next s u) n;
      steps = record { act = w.act; wants = kept-here s w.act b x w.wants hu f; event = w.event; is = refl };
      wants = subst (λ v. t.wants v u ≡ Some b) w.is (kept-there s w.act b x w.wants hu f);
      alike = subst (λ v. t.alike (t.next v u) (t.next (t.next s u) n)) w.is
          (laws.states.back (t.next (t.next s u) n) (t.next (t.next s n) u) (either-way s w.act b x w.wants hu f));
    }
    push-step (suc count) b s z x hu f w =
        let p = w.0 in
        let there = kept-there s p.act b x p.wants hu f in
        let rest = push-step count b (t.next s n) z (laws.states.among s n p.act x p.wants) there (free-next b s f p) w.1 in
        let here = step-alike count n (t.next (t.next s n) u) (t.next (t.next s u) n) rest.end (among-there s p.act b x p.wants hu f)
        (among-here s p.act b x p.wants hu f)
        (laws.states.back (t.next (t.next s u) n) (t.next (t.next s n) u) (either-way s p.act b x p.wants hu f)) rest.steps in
        record {
          end = here.end;
          steps = (turn-here s b x p hu f, here.steps);
          wants = rest.wants;
          alike = laws.states.in_turn (t.next z u) rest.end here.end rest.alike here.alike;
        }

    pub pull-step : (count : ℕ) (b : A) (s z : S) → t.among s → t.wants s u ≡ Some b → IsFree b s → (d : A) → t.wants s n ≡ Some d
        → StepsIn t count n (t.next s u) z → (v : S) × StepsIn t count n s v
    pull-step zero b s z x hu f d hn w =
        let same : w.act ≡ d = some-injective w.act d (sym w.wants ∙ kept-here s d b x hn hu f) in
        (t.next s n, record { act = d; wants = hn; event = ap t.plain (sym same) ∙ w.event; is = refl })
    pull-step (suc count) b s z x hu f d hn w =
        let same : w.0.act ≡ d = some-injective w.0.act d (sym w.0.wants ∙ kept-here s d b x hn hu f) in
        let p : IsPlainTurn t s n = record { act = d; wants = hn; plain = ap t.plain (sym same) ∙ w.0.plain } in
        let on = laws.goes_on s n d x hn p.plain in
        let moved = step-alike count n (t.next (t.next s u) n) (t.next (t.next s n) u) z (among-here s d b x hn hu f) (among-there s d b x hn hu f)
        (either-way s d b x hn hu f) w.1 in
        let rest = pull-step count b (t.next s n) moved.end (laws.states.among s n d x hn) (kept-there s d b x hn hu f) (free-next b s f p) on.0 on.1
        moved.steps in
        (rest.0, (p, rest.1))

    -- Such a turn leaves thread n the same.
    same-turn : (b : A) (s : S) (o : ℕ) (g : A) → t.among s → t.wants s u ≡ Some b → IsFree b s → ((a : A) → t.heeds s n a → t.conflict a b ≡ true → ⊥)
        → u ≢ o → t.wants s o ≡ Some g → IsSame (steps_of t) s (t.next s u) n
    same-turn b s o g x hu f heed d ho = by (t.wants s n) refl
      where
        y : t.among (t.next s u)
        y = laws.states.among s u b x hu

        by : (w : Option A) → t.wants s n ≡ w → IsSame (steps_of t) s (t.next s u) n
        by (Some a) hn = record {
          can = (
            λ r. (let m = push-step (r.1).count b s r.0 x hu f (r.1).is in (m.end, record { count = (r.1).count; is = m.steps })),
            λ r. (let m = pull-step (r.1).count b s r.0 x hu f a hn (r.1).is in (m.0, record { count = (r.1).count; is = m.1 })),
          );
          wants = λ c. (
            λ w. record { count = w.count; is = push-want w.count c b s x hu f w.is },
            λ w. record { count = w.count; is = pull-want w.count c b s x hu f a hn w.is },
          );
          heeds = λ c. (
            λ h. absurd (laws.awake s n a c x hn h),
            λ h. absurd (laws.awake (t.next s u) n a c y (kept-here s a b x hn hu f) h),
          );
        }
        by None hn =
            let rest = laws.asleep s n u o b g x other d ho hn hu heed in
            let never = λ (v : S) (h : t.wants v n ≡ None) (q : (c : A) × (t.wants v n ≡ Some c)). none-some q.0 (sym h ∙ q.1) in
            record {
              can = (
                λ r. absurd (never s hn (first-step (r.1).count n s r.0 (r.1).is)),
                λ r. absurd (never (t.next s u) rest.0 (first-step (r.1).count n (t.next s u) r.0 (r.1).is)),
              );
              wants = λ c. (
                λ w. absurd (never s hn (first-want w.count n c s w.is)),
                λ w. absurd (never (t.next s u) rest.0 (first-want w.count n c (t.next s u) w.is)),
              );
              heeds = rest.1;
            }

    -- No turn of a step of thread u does.
    abbrev AreFree : S → Type 0
    AreFree s = (c d : ℕ) (a b : A) → WantsIn t c n a s → WantsIn t d u b s → t.conflict a b ≡ true → ⊥

    abbrev HeedsNone : S → Type 0
    HeedsNone s = (d : ℕ) (a b : A) → t.heeds s n a → WantsIn t d u b s → t.conflict a b ≡ true → ⊥

    same-steps : (count o : ℕ) (g : A) (s z : S) → t.among s → AreFree s → HeedsNone s → u ≢ o → t.wants s o ≡ Some g → StepsIn t count u s z
        → IsSame (steps_of t) s z n
    same-steps zero o g s z x f heed d ho w =
        subst (λ v. IsSame (steps_of t) s v n) w.is
        (same-turn w.act s o g x w.wants (λ c a q. f c 0 a w.act q w.wants) (λ a h. heed 0 a w.act h w.wants) d ho)
    same-steps (suc count) o g s z x f heed d ho w =
        let p = w.0 in
        let one = same-turn p.act s o g x p.wants (λ c a q. f c 0 a p.act q p.wants) (λ a h. heed 0 a p.act h p.wants) d ho in
        let on = still-there (laws.still s o u g p.act x d ho p.wants) in
        same-on (steps_of t) s (t.next s u) z n one
        (same-steps count o on.0 (t.next s u) z (laws.states.among s u p.act x p.wants)
        (λ c m a b q r. (let back = (one.wants a).1 (record { count = c; is = q }) in f back.count (suc m) a b back.is (p, r)))
        (λ m a b h r. heed (suc m) a b ((one.heeds a).1 h) (p, r)) d on.1 w.1)
      where
        still-there : (t.wants (t.next s u) o ≡ Some g) ⊎ ((c : A) × (t.wants (t.next s u) o ≡ Some c) × (t.conflict (w.0).act c ≡ true))
            → (c : A) × (t.wants (t.next s u) o ≡ Some c)
        still-there (inl h) = (g, h)
        still-there (inr r) = (r.0, r.1)

    -- Both steps in either order.
    record Crossed (s z v : S) : Type 0 where
      one : S
      other_one : S
      makes : MakesStep t n v one
      makes_other : MakesStep t u z other_one
      alike : t.alike one other_one

    cross : (d c : ℕ) (s z v : S) → t.among s → AreFree s → StepsIn t c n s z → StepsIn t d u s v → Crossed s z v
    cross zero c s z v x f m w =
        let push = push-step c w.act s z x w.wants (λ e a q. f e 0 a w.act q w.wants) m in
        record {
          one = push.end;
          other_one = t.next z u;
          makes = record { count = c; is = subst (λ y. StepsIn t c n y push.end) w.is push.steps };
          makes_other = record { count = 0; is = record { act = w.act; wants = push.wants; event = w.event; is = refl } };
          alike = laws.states.back (t.next z u) push.end push.alike;
        }
    cross (suc d) c s z v x f m w =
        let p = w.0 in
        let free : IsFree p.act s = λ e a q. f e 0 a p.act q p.wants in
        let push = push-step c p.act s z x p.wants free m in
        let y = laws.states.among s u p.act x p.wants in
        let here = first-step c n s z m in
        let rest = cross d c (t.next s u) push.end v y
        (λ e i a b q r. f e (suc i) a b (pull-want e a p.act s x p.wants free here.0 here.1 q) (p, r)) push.steps w.1 in
        let az = among-step c n s z x m in
        let back = step-alike (rest.makes_other).count u push.end (t.next z u) rest.other_one (among-step c n (t.next s u) push.end y push.steps)
        (laws.states.among z u p.act az push.wants) (laws.states.back (t.next z u) push.end push.alike) (rest.makes_other).is in
        record {
          one = rest.one;
          other_one = back.end;
          makes = rest.makes;
          makes_other = record {
            count = suc (rest.makes_other).count;
            is = (record { act = p.act; wants = push.wants; plain = p.plain }, back.steps);
          };
          alike = laws.states.in_turn rest.one rest.other_one back.end rest.alike back.alike;
        }

    -- What thread n comes to want it does behind a turn, or something that conflicts with it.
    abbrev StillOr : A → S → A → Type 0
    StillOr b z a = ComesToWant t z n a ⊎ ((c : A) × ComesToWant t z n c × (t.conflict b c ≡ true))

    still-turn : (count : ℕ) (a b : A) (s : S) → t.among s → t.wants s u ≡ Some b → WantsIn t count n a s → StillOr b (t.next s u) a
    still-turn zero a b s x hu w = by (laws.still s n u a b x other w hu)
      where
        by : (t.wants (t.next s u) n ≡ Some a) ⊎ ((c : A) × (t.wants (t.next s u) n ≡ Some c) × (t.conflict b c ≡ true)) → StillOr b (t.next s u) a
        by (inl h) = inl (want-now (t.next s u) n a h)
        by (inr r) = inr (r.0, want-now (t.next s u) n r.0 r.1, r.2)
    still-turn (suc count) a b s x hu w =
        by (cases_Bool (t.conflict (w.0).act b)) (λ there. still-turn count a b (t.next s n) (laws.states.among s n (w.0).act x (w.0).wants) there w.1)
      where
        p : IsPlainTurn t s n
        p = w.0

        hit : t.conflict p.act b ≡ true
            → (t.wants (t.next s u) n ≡ Some p.act) ⊎ ((c : A) × (t.wants (t.next s u) n ≡ Some c) × (t.conflict b c ≡ true)) → StillOr b (t.next s u) a
        hit cf (inl h) = inr (p.act, want-now (t.next s u) n p.act h, laws.mutual_is p.act b cf)
        hit cf (inr r) = inr (r.0, want-now (t.next s u) n r.0 r.1, r.2)

        kept-then : t.conflict p.act b ≡ false → t.wants (t.next s u) n ≡ Some p.act
        kept-then free = laws.kept s n u p.act b x other p.wants hu free

        kept-other : t.conflict p.act b ≡ false → t.wants (t.next s n) u ≡ Some b
        kept-other free =
            laws.kept s u n b p.act x (λ q. other (sym q)) hu p.wants
            (not-so (t.conflict b p.act) (λ f. true≢false (sym (laws.mutual_is b p.act f) ∙ free)))

        carry : t.conflict p.act b ≡ false → (c : A) → ComesToWant t (t.next (t.next s n) u) n c → ComesToWant t (t.next s u) n c
        carry free c q =
            let h = kept-then free in
            let there = kept-other free in
            before-want (t.next s u) n c (record { act = p.act; wants = h; plain = p.plain })
            (comes-alike (t.next (t.next s n) u) (t.next (t.next s u) n) n c
            (laws.states.among (t.next s n) u b (laws.states.among s n p.act x p.wants) there)
            (laws.states.among (t.next s u) n p.act (laws.states.among s u b x hu) h)
            (laws.states.back (t.next (t.next s u) n) (t.next (t.next s n) u) (laws.swap s n u p.act b x other p.wants hu free)) q)

        by : (t.conflict p.act b ≡ true) ⊎ (t.conflict p.act b ≡ false) → (t.wants (t.next s n) u ≡ Some b → StillOr b (t.next (t.next s n) u) a)
            → StillOr b (t.next s u) a
        by (inl cf) rest = hit cf (laws.still s n u p.act b x other p.wants hu)
        by (inr free) rest =
            on (rest (kept-other free))
          where
            on : StillOr b (t.next (t.next s n) u) a → StillOr b (t.next s u) a
            on (inl q) = inl (carry free a q)
            on (inr r) = inr (r.0, carry free r.0 r.1, r.2)

    -- So behind a step.
    abbrev StillOrBehind : S → S → A → Type 0
    StillOrBehind s z a = ComesToWant t z n a ⊎ ((c : A) × (b : A) × ComesToWant t z n c × ComesToWant t s u b × (t.conflict b c ≡ true))

    still-behind : (d : ℕ) (a : A) (s z : S) → t.among s → StepsIn t d u s z → ComesToWant t s n a → StillOrBehind s z a
    still-behind zero a s z x w q = by (still-turn q.count a w.act s x w.wants q.is)
      where
        there : (c : A) → ComesToWant t (t.next s u) n c → ComesToWant t z n c
        there c r = subst (λ v. ComesToWant t v n c) w.is r

        by : StillOr w.act (t.next s u) a → StillOrBehind s z a
        by (inl r) = inl (there a r)
        by (inr r) = inr (r.0, w.act, there r.0 r.1, want-now s u w.act w.wants, r.2)
    still-behind (suc d) a s z x w q =
        by (still-turn q.count a (w.0).act s x (w.0).wants q.is)
        (λ c r. still-behind d c (t.next s u) z (laws.states.among s u (w.0).act x (w.0).wants) w.1 r)
      where
        p : IsPlainTurn t s u
        p = w.0

        later : (c : A) → StillOrBehind (t.next s u) z c → ComesToWant t z n c
            ⊎ ((g : A) × (b : A) × ComesToWant t z n g × ComesToWant t s u b × (t.conflict b g ≡ true))
        later c (inl r) = inl r
        later c (inr r) = inr (r.0, r.1, r.2, before-want s u r.1 p r.3, r.4)

        hit : (c : A) → t.conflict p.act c ≡ true → ComesToWant t z n c
            ⊎ ((g : A) × (b : A) × ComesToWant t z n g × ComesToWant t s u b × (t.conflict b g ≡ true)) → StillOrBehind s z a
        hit c cf (inl r) = inr (c, p.act, r, want-now s u p.act p.wants, cf)
        hit c cf (inr r) = inr r

        by : StillOr p.act (t.next s u) a → ((c : A) → ComesToWant t (t.next s u) n c → StillOrBehind (t.next s u) z c) → StillOrBehind s z a
        by (inl r) rest = later a (rest a r)
        by (inr r) rest = hit r.0 r.2 (later r.0 (rest r.0 r.1))

  first-awake : (o : ℕ) (s : S) → IsAwake (steps_of t) s o → (d : A) × (t.wants s o ≡ Some d)
  first-awake o s (inl can) = first-step (can.1).count o s can.0 (can.1).is
  first-awake o s (inr w) = first-want (w.1).count o w.0 s (w.1).is

  pub bundles-are-independent : AreIndependent (steps_of t)
  bundles-are-independent = record {
    states = bundle-states;
    mutual_is = laws.mutual_is;
    kept = λ s z n u o x d d' can m apart.
        (let w = first-awake o s can in
        same-steps n u d m.count o w.0 s z x (λ c e a b p q. apart a b (inl (record { count = c; is = p })) (record { count = e; is = q }))
        (λ e a b h q. apart a b (inr h) (record { count = e; is = q })) d' w.1 m.is);
    swap = λ s z v n u x d m q apart.
        (let r = cross n u d q.count m.count s z v x
        (λ c e a b f g. apart a b (inl (record { count = c; is = f })) (record { count = e; is = g })) m.is q.is in
        (r.one, r.other_one, r.makes, r.makes_other, r.alike));
    still = λ s z n u a x d m w. still-behind n u d m.count a s z x m.is w;
    awake = λ s n a b x w h. (let d = first-want w.count n a s w.is in laws.awake s n d.0 b x d.1 h);
  }
