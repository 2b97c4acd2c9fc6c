-- Where a search of states in a table stands, from one to the next.
use Rattle.std.specs.Prelude.{◌≡◌, ◌+◌, ◌^◌, ◌<◌, ◌≤◌, ◌⊎◌, ℕ, suc, Bool, true, false, List, [], ◌∷◌, length, Option, Some, None, refl}
use Rattle.std.specs.List.{slice_get}
use Rattle.std.proofs.lemmas.Option.{none-some}
use Rattle.std.proofs.lemmas.Bool.{cases_lt}
use Rattle.std.proofs.Common.{ap, subst, sym, ◌∙◌, inl, inr, arith}
use Rattle.search_graph.specs.declared.graph.Move.{Move}
use Rattle.search_reach.specs.declared.follows.Wish.{Wish}
use Rattle.search_reach.specs.declared.follows.Wish.TheVariants as wishes
use Rattle.search_reach.specs.declared.search.Verdict.TheVariants as verdicts
use Rattle.search_reach.specs.Search.{StepSystem, IsSound, AllGetStuck, CanGetStuck}
use Rattle.search_reach.specs.Explored.{Explored, ExploredTo}
use Rattle.search_reach.specs.Meeting.{HasMetAt, OfStateAt, HasFirst, GoesOn, HasSound, OfStates, IsBegun, IsReached}
use Rattle.search_reach.specs.Sought.{ArePassed, HasSoughtFrom, SaysFrom, SeeksAmong}
use Rattle.search_reach.specs.Levels.{HasLevels, HasGoneThrough, IsBehind, levels_by}
use Rattle.search_reach.specs.declared.search.Levels.{Levels}
use Rattle.search_reach.specs.declared.search.SearchOrder.{SearchOrder}
use Rattle.search_reach.specs.declared.search.SearchOrder.TheVariants.{Breadth, Depth}
use Rattle.search_reach.specs.declared.search.Verdict.{Verdict}
use Rattle.search_reach.proofs.Passing.{passed-more, sought-more, all-passed, seeks-none, seeks-some}
use Rattle.search_reach.proofs.Leveling.{levels-longer, levels-all, levels-none, levels-more}
use Rattle.search_reach.specs.Moved.{IsMoved}
use Rattle.search_reach.specs.Ways.{AreNumbered}
pub use Rattle.search_reach.proofs.Moving.{at-some}
use Rattle.search_reach.proofs.Moving.{IsUnique, moved-none, moved-first, moved-more}
use Rattle.search_reach.proofs.Searching.{Begins, Gains-begins, length-longer, explored-first, sound-is_met, sound-more}
use Rattle.search_reach.proofs.Searching.{sound-stuck, explored-more, explored-whole}
use Rattle.search_reach.proofs.Graphing.{explored-all}

-- The places that were gone on from, before and behind a turn at one of them.
pub record Turns (gone now : ℕ → Type 0) (at met known : ℕ) : Type 0 where
  pub before : gone at → ⊥
  pub which : (j : ℕ) → j < known → now j → (gone j × (j < met)) ⊎ (at ≡ j)
  pub kept : (j : ℕ) → j < met → gone j → now j
  pub this : now at

-- in their order
pub turns-on : (at met known : ℕ) → at < met → Turns (λ (j : ℕ). j < at) (λ (j : ℕ). j < at + 1) at met known
turns-on at met known low = record {
  before = λ h. omega (arith, h);
  which = λ j inside h. by j h (cases_lt j at);
  kept = λ j inside h. omega (arith, h);
  this = omega arith;
}
  where
    by : (j : ℕ) → j < at + 1 → (j < at) ⊎ (at ≤ j) → ((j < at) × (j < met)) ⊎ (at ≡ j)
    by j h (inl less) = inl (less, omega (arith, less, low))
    by j h (inr high) = inr (omega (arith, h, high))

-- where not all were met
numbered : (verdict : Verdict) (states : ℕ) → (verdict ≡ verdicts.All → ⊥) → AreNumbered verdict states → states < 2 ^ 32
numbered verdict states other (inl all) = absurd (other all)
numbered verdict states other (inr few) = few

module _ {S W E : Type 0} (k : StepSystem S W E) (eq : S → S → Bool) where
  -- where a search stands that has gone on from the states of some places, and has met nothing that is looked for
  pub record Standing (has : List S → Type 0) (sought : E → Type 0) (gone : ℕ → Type 0) (moves : List Move) : Type 0 where
    pub states : List S
    pub held : has states
    pub sound : IsSound k states
    pub passed : ArePassed k sought states
    pub explored : length states < 2 ^ 32 → Explored k eq states moves gone
    pub moved : length states < 2 ^ 32 → IsMoved k eq states moves

  pub begun : (has : List S → Type 0) (sought : E → Type 0) (moves : List Move) → moves ≡ [] → HasFirst k has → (is : Bool) → is ≡ false
      → OfStates k has (SaysFrom k sought 0 is) → IsBegun k has eq sought moves
  begun has sought moves none f is fails said = record {
    states = f.state ∷ [];
    held = f.held;
    explored = subst (λ l. ExploredTo k eq (f.state ∷ []) l 0) (sym none) first;
    moved = subst (λ l. IsMoved k eq (f.state ∷ []) l) (sym none) (moved-first k eq f.state f.is);
    passed = all-passed k sought (f.state ∷ []) (subst (λ b. OfStates k has (SaysFrom k sought 0 b)) fails said (f.state ∷ []) f.held first.sound);
  }
    where
      first : ExploredTo k eq (f.state ∷ []) [] 0
      first = explored-first eq k f.state f.is

  pub first-sound : (has : List S → Type 0) → HasFirst k has → HasSound k has
  first-sound has f = (f.state ∷ [], f.held, (explored-first eq k f.state f.is).sound)

  module _ (has : List S → Type 0) (sought : E → Type 0) (gone : ℕ → Type 0) (moves : List Move) (was : Standing has sought gone moves) where
    module _ (met : ℕ) (len : (ks : List S) → has ks → met ≡ length ks) where
      pub long : met ≡ length was.states
      long = len was.states was.held

      pub met-at : (at : ℕ) → at < met → HasMetAt k has at
      met-at at low =
          let is = long in
          let s = at-some was.states at (omega (arith, low, is)) in
          (was.states, s.0, was.held, s.1, sound-is_met eq k was.states at s.0 was.sound s.1)

      -- behind one more state
      module _ (at : ℕ) (new : List S → Type 0) (after : List Move) (low : at < met)
          (of : OfStateAt k has at (λ ks s. GoesOn k new eq ks at s moves after)) where
        pub here-is : (s : S) × (slice_get was.states at ≡ Some s)
        here-is = let is = long in at-some was.states at (omega (arith, low, is))

        pub goes : GoesOn k new eq was.states at here-is.0 moves after
        goes = of was.states here-is.0 was.held here-is.1 (sound-is_met eq k was.states at here-is.0 was.sound here-is.1)

        pub begins : Begins was.states (goes).states
        begins = Gains-begins was.states (goes).states (goes).next (goes).gains

        pub sound-now : IsSound k (goes).states
        sound-now = sound-more eq k was.states (goes).states at here-is.0 (goes).next was.sound here-is.1 (goes).are (goes).gains

        pub sound-after : HasSound k new
        sound-after = ((goes).states, (goes).held, sound-now)

        pub passed-now : (is : Bool) → is ≡ false → OfStates k new (SaysFrom k sought met is) → ArePassed k sought (goes).states
        passed-now is fails said =
            passed-more k sought was.states (goes).states begins was.passed
            (subst (λ (n : ℕ). SaysFrom k sought n false (goes).states) long
            (subst (λ b. OfStates k new (SaysFrom k sought met b)) fails said (goes).states (goes).held sound-now))

        module _ (known : ℕ) (known-is : (ks : List S) → new ks → known ≡ length ks) where
          pub now-long : known ≡ length (goes).states
          now-long = known-is (goes).states (goes).held

          pub met-known : met ≤ known
          met-known =
              let is = long in
              let are = now-long in
              let more = length-longer was.states (goes).states begins in
              omega (arith, is, are, more)

          module _ (now : ℕ → Type 0) (turns : known < 2 ^ 32 → Turns gone now at met known) where
            pub explored-now : length (goes).states < 2 ^ 32 → Explored k eq (goes).states after now
            explored-now few =
                let g = goes in
                let are = now-long in
                let is = long in
                let more = length-longer was.states g.states begins in
                let t = turns (omega (arith, are, few)) in
                explored-more eq k was.states g.states g.next moves after at here-is.0 gone (was.explored (omega (arith, more, few))) t.before here-is.1 g.are
                g.gains (g.noted few) now
                (λ j inside h. subst (λ (n : ℕ). (gone j × (j < n)) ⊎ (at ≡ j)) is (t.which j (omega (arith, inside, are)) h))
                (λ j inside h. t.kept j (omega (arith, inside, is)) h) t.this

        -- where no two of them are equal, and it hadn't gone on from this one before
        module _ (unique : (ks : List S) → new ks → IsUnique eq ks) (before : gone at → ⊥) where
          pub moved-now : length (goes).states < 2 ^ 32 → IsMoved k eq (goes).states after
          moved-now few =
              let g = goes in
              let more = length-longer was.states g.states begins in
              let is = long in
              let small : length was.states < 2 ^ 32 = omega (arith, more, few) in
              let old = was.explored small in
              moved-more k eq was.states g.states g.next moves after at g.gains (g.noted few) (omega (arith, is, low)) (unique g.states g.held)
              (λ m c same. before (subst gone same (old.from m c).0)) (was.moved small) (λ (j : ℕ). (gone j × (j < length was.states)) ⊎ (at ≡ j))
              (explored-more eq k was.states g.states g.next moves after at here-is.0 gone old before here-is.1 g.are g.gains (g.noted few)
              (λ (j : ℕ). (gone j × (j < length was.states)) ⊎ (at ≡ j)) (λ j inside h. h) (λ j inside h. inl (h, inside)) (inr refl))

          -- where none of them has ended as is looked for
          module _ (known : ℕ) (known-is : (ks : List S) → new ks → known ≡ length ks) (now : ℕ → Type 0)
              (turns : known < 2 ^ 32 → Turns gone now at met known) where
            abbrev pub standing-more : (is : Bool) → is ≡ false → OfStates k new (SaysFrom k sought met is) → Standing new sought now after
            standing-more is fails said = record {
              states = (goes).states;
              held = (goes).held;
              sound = sound-now;
              passed = passed-now is fails said;
              explored = explored-now known known-is now turns;
              moved = moved-now;
            }

          -- where it is told to end
          pub reached-told : (most : ℕ) (wish : Wish) (levels : Option ℕ) → HasGoneThrough k (goes).states levels → (is : Bool) → is ≡ false
              → OfStates k new (SaysFrom k sought met is) → wish ≡ wishes.End → IsReached k new eq most wish sought after verdicts.Told levels
          reached-told most wish levels through is fails said told = record {
            states = (goes).states;
            held = (goes).held;
            found = record {
              all = λ v. absurd (cc v);
              sound = sound-now;
              bound = λ v. absurd (cc v);
              gives_up = λ v. absurd (cc v);
              told = λ v. told;
            };
            whole = λ v. absurd (cc v);
            moved = λ n. moved-now (numbered verdicts.Told (length (goes).states) (λ v. cc v) n);
            seeks = seeks-none k sought verdicts.Told (goes).states (λ v. cc v) (passed-now is fails said);
            gone_through = through;
          }

          -- where one has
          pub reached-sought : (most : ℕ) (wish : Wish) (levels : Option ℕ) → HasGoneThrough k (goes).states levels → (is : Bool) → is ≡ true
              → OfStates k new (SaysFrom k sought met is) → IsReached k new eq most wish sought after verdicts.Sought levels
          reached-sought most wish levels through is holds said = let says = subst (λ b. OfStates k new (SaysFrom k sought met b)) holds said in record {
            states = (goes).states;
            held = (goes).held;
            found = record {
              all = λ v. absurd (cc v);
              sound = sound-now;
              bound = λ v. absurd (cc v);
              gives_up = λ v. absurd (cc v);
              told = λ v. absurd (cc v);
            };
            whole = λ v. absurd (cc v);
            moved = λ n. moved-now (numbered verdicts.Sought (length (goes).states) (λ v. cc v) n);
            seeks = seeks-some k sought (goes).states (sought-more k sought was.states (goes).states begins was.passed
                (subst (λ (n : ℕ). HasSoughtFrom k sought n (goes).states) long (says (goes).states (goes).held sound-now)));
            gone_through = through;
          }

    module _ (most : ℕ) (wish : Wish) (levels : Option ℕ) (through : HasGoneThrough k was.states levels) where
      seeks-so : (verdict : Verdict) → (verdict ≡ verdicts.Sought → ⊥) → SeeksAmong k sought verdict was.states
      seeks-so verdict other = seeks-none k sought verdict was.states other was.passed

      pub reached-all : length was.states < 2 ^ 32 → ((j : ℕ) → j < length was.states → gone j)
          → ((x y : S) → eq x y ≡ true → (w : W) (left : ℕ → ℕ) → k.stands x w left → k.stands y w left)
          → IsReached k has eq most wish sought moves verdicts.All levels
      reached-all few all same =
          let whole = explored-whole eq k was.states moves gone all (was.explored few) in
          record {
            states = was.states;
            held = was.held;
            found = record {
              all = λ v. explored-all k eq was.states moves same whole;
              sound = was.sound;
              bound = λ v. absurd (cc v);
              gives_up = λ v. absurd (cc v);
              told = λ v. absurd (cc v);
            };
            whole = λ v. whole;
            moved = λ n. was.moved few;
            seeks = seeks-so verdicts.All (λ v. cc v);
            gone_through = through;
          }

      pub reached-many : (met : ℕ) → ((ks : List S) → has ks → met ≡ length ks) → most < met
          → IsReached k has eq most wish sought moves verdicts.TooMany levels
      reached-many met len more =
          let is = len was.states was.held in
          record {
            states = was.states;
            held = was.held;
            found = record {
              all = λ v. absurd (cc v);
              sound = was.sound;
              bound = λ v. omega (arith, more, is);
              gives_up = λ v. absurd (cc v);
              told = λ v. absurd (cc v);
            };
            whole = λ v. absurd (cc v);
            moved = λ n. was.moved (numbered verdicts.TooMany (length was.states) (λ v. cc v) n);
            seeks = seeks-so verdicts.TooMany (λ v. cc v);
            gone_through = through;
          }

      pub reached-stuck : (at : ℕ) (new : List S → Type 0) (after : List Move) → at < length was.states → OfStateAt k has at (λ ks s. new ks)
          → after ≡ moves → OfStateAt k has at (λ ks s. AllGetStuck k s) → IsReached k new eq most wish sought after verdicts.CannotTell levels
      reached-stuck at new after low none kept gives_up =
          let s = at-some was.states at low in
          let is = sound-is_met eq k was.states at s.0 was.sound s.1 in
          record {
            states = was.states;
            held = none was.states s.0 was.held s.1 is;
            found = record {
              all = λ v. absurd (cc v);
              sound = was.sound;
              bound = λ v. absurd (cc v);
              gives_up = λ v. sound-stuck eq k was.states at s.0 was.sound s.1 (gives_up was.states s.0 was.held s.1 is);
              told = λ v. absurd (cc v);
            };
            whole = λ v. absurd (cc v);
            moved = λ n. subst (IsMoved k eq was.states) (sym kept) (was.moved (numbered verdicts.CannotTell (length was.states) (λ v. cc v) n));
            seeks = seeks-so verdicts.CannotTell (λ v. cc v);
            gone_through = through;
          }

  -- where it has gone on from the first states, and how many levels are complete
  pub record Going (has : List S → Type 0) (sought : E → Type 0) (at : ℕ) (moves : List Move) (levels : Levels) : Type 0 where
    pub standing : Standing has sought (λ (j : ℕ). j < at) moves
    pub low : levels.complete ≤ at
    pub inside : levels.end ≤ length standing.states
    pub complete : HasLevels k standing.states levels.complete levels.end

  pub going-first : (has : List S → Type 0) (sought : E → Type 0) (moves : List Move) (end : ℕ) → ((ks : List S) → has ks → end ≡ length ks)
      → ((x y : S) → eq x y ≡ true → (w : W) (left : ℕ → ℕ) → k.stands x w left → k.stands y w left) → IsBegun k has eq sought moves
      → Going has sought 0 moves (record { complete = 0; end = end })
  going-first has sought moves end len same b =
      let is = len b.states b.held in
      record {
        standing = record {
          states = b.states;
          held = b.held;
          sound = (b.explored).sound;
          passed = b.passed;
          explored = λ few. b.explored;
          moved = λ few. b.moved;
        };
        low = omega arith;
        inside = omega (arith, is);
        complete = subst (λ (n : ℕ). HasLevels k b.states 0 n) (sym is) (levels-none k eq same b.states moves 0 b.explored);
      }

  module _ (has : List S → Type 0) (sought : E → Type 0) (at : ℕ) (moves : List Move) (levels : Levels) (so : Going has sought at moves levels) where
    pub gone-through : HasGoneThrough k (so.standing).states (Some levels.complete)
    gone-through = levels-all k (so.standing).states levels.complete levels.end so.inside so.complete

    module _ (met : ℕ) (len : (ks : List S) → has ks → met ≡ length ks) (new : List S → Type 0) (after : List Move) (low : at < met)
        (of : OfStateAt k has at (λ ks s. GoesOn k new eq ks at s moves after)) (known : ℕ) (known-is : (ks : List S) → new ks → known ≡ length ks)
        (same : (x y : S) → eq x y ≡ true → (w : W) (left : ℕ → ℕ) → k.stands x w left → k.stands y w left) (next : Levels)
        (behind : IsBehind levels (at + 1) known next) (unique : (ks : List S) → new ks → IsUnique eq ks) where
      before : at < at → ⊥
      before h = omega (arith, h)

      abbrev was : Standing has sought (λ (j : ℕ). j < at) moves
      was = so.standing

      abbrev turned : GoesOn k new eq (was).states at (here-is has sought (λ (j : ℕ). j < at) moves was met len at new after low of).0 moves after
      turned = goes has sought (λ (j : ℕ). j < at) moves was met len at new after low of

      longer : Begins (was).states (turned).states
      longer = begins has sought (λ (j : ℕ). j < at) moves was met len at new after low of

      long-now : known ≡ length (turned).states
      long-now = known-is (turned).states (turned).held

      inside-now : (n : Levels) → IsBehind levels (at + 1) known n → n.end ≤ length (turned).states
      inside-now n (inl same) =
          let e : n.end ≡ levels.end = ap (λ (l : Levels). l.end) same in
          let more = length-longer (was).states (turned).states longer in
          let in-old = so.inside in
          omega (arith, e, more, in-old)
      inside-now n (inr h) = let e = h.3 in let is = long-now in omega (arith, e, is)

      low-now : (n : Levels) → IsBehind levels (at + 1) known n → n.complete ≤ at + 1
      low-now n (inl same) = let e : n.complete ≡ levels.complete = ap (λ (l : Levels). l.complete) same in let l = so.low in omega (arith, e, l)
      low-now n (inr h) = let e = h.2 in let l = so.low in omega (arith, e, l)

      complete-now : (n : Levels) → IsBehind levels (at + 1) known n → HasLevels k (turned).states n.complete n.end
      complete-now n (inl is) =
          subst (λ (l : Levels). HasLevels k (turned).states l.complete l.end) (sym is)
          (levels-longer k (was).states (turned).states levels.complete levels.end longer so.complete)
      complete-now n (inr h) =
          let is = long-now in
          let few = h.1 in
          let gone = h.0 in
          let e = explored-now has sought (λ (j : ℕ). j < at) moves was met len at new after low of known known-is (λ (j : ℕ). j < at + 1)
          (λ small. turns-on at met known low) (omega (arith, is, few)) in
          let old = levels-longer k (was).states (turned).states levels.complete levels.end longer so.complete in
          let one = levels-more k eq same (turned).states after (at + 1) e levels.complete levels.end (omega (arith, gone)) old in
          let number : n.complete ≡ suc levels.complete = (let c = h.2 in omega (arith, c)) in
          let end-is : n.end ≡ length (turned).states = h.3 ∙ is in
          subst (λ (m : ℕ). HasLevels k (turned).states m n.end) (sym number)
          (subst (λ (m : ℕ). HasLevels k (turned).states (suc levels.complete) m) (sym end-is) one)

      pub through-now : HasGoneThrough k (turned).states (Some next.complete)
      through-now = levels-all k (turned).states next.complete next.end (inside-now next behind) (complete-now next behind)

      pub going-more : (is : Bool) → is ≡ false → OfStates k new (SaysFrom k sought met is) → Going new sought (at + 1) after next
      going-more is fails said = record {
        standing = standing-more has sought (λ (j : ℕ). j < at) moves was met len at new after low of unique before known known-is (λ (j : ℕ). j < at + 1)
            (λ small. turns-on at met known low) is fails said;
        low = low-now next behind;
        inside = inside-now next behind;
        complete = complete-now next behind;
      }

      pub going-told : (most : ℕ) (wish : Wish) (is : Bool) → is ≡ false → OfStates k new (SaysFrom k sought met is) → wish ≡ wishes.End
          → IsReached k new eq most wish sought after verdicts.Told (Some next.complete)
      going-told most wish is fails said told =
          reached-told has sought (λ (j : ℕ). j < at) moves was met len at new after low of unique before most wish (Some next.complete) through-now is
          fails said told

      pub going-sought : (most : ℕ) (wish : Wish) (is : Bool) → is ≡ true → OfStates k new (SaysFrom k sought met is)
          → IsReached k new eq most wish sought after verdicts.Sought (Some next.complete)
      going-sought most wish is holds said =
          reached-sought has sought (λ (j : ℕ). j < at) moves was met len at new after low of unique before most wish (Some next.complete) through-now
          is holds said

  -- where nothing was met
  pub reached-none : (has : List S → Type 0) (sought : E → Type 0) (moves : List Move) (most : ℕ) (wish : Wish) → moves ≡ [] → has [] → CanGetStuck k
      → IsReached k has eq most wish sought moves verdicts.CannotTell None
  reached-none has sought moves most wish none held gives_up = record {
    states = [];
    held = held;
    found = record {
      all = λ v. absurd (cc v);
      sound = λ s c. absurd (omega (arith, c.1));
      bound = λ v. absurd (cc v);
      gives_up = λ v. gives_up;
      told = λ v. absurd (cc v);
    };
    whole = λ v. absurd (cc v);
    moved = λ n. subst (IsMoved k eq []) (sym none) (moved-none k eq);
    seeks = seeks-none k sought verdicts.CannotTell [] (λ v. cc v) (λ j s at. absurd (none-some s at));
    gone_through = tt;
  }

  -- where the first state has ended as is looked for
  pub reached-first : (has : List S → Type 0) (sought : E → Type 0) (moves : List Move) (most : ℕ) (wish : Wish) → moves ≡ []
      → ((x y : S) → eq x y ≡ true → (w : W) (left : ℕ → ℕ) → k.stands x w left → k.stands y w left) → HasFirst k has
      → (is : Bool) → is ≡ true → OfStates k has (SaysFrom k sought 0 is) → (order : SearchOrder) (levels : Option ℕ) → levels ≡ levels_by order 0
      → IsReached k has eq most wish sought moves verdicts.Sought levels
  reached-first has sought moves most wish none same f is holds said order levels counted =
      let says = subst (λ b. OfStates k has (SaysFrom k sought 0 b)) holds said in
      let first = explored-first eq k f.state f.is in
      record {
        states = f.state ∷ [];
        held = f.held;
        found = record {
          all = λ v. absurd (cc v);
          sound = first.sound;
          bound = λ v. absurd (cc v);
          gives_up = λ v. absurd (cc v);
          told = λ v. absurd (cc v);
        };
        whole = λ v. absurd (cc v);
        moved = λ n. subst (IsMoved k eq (f.state ∷ [])) (sym none) (moved-first k eq f.state f.is);
        seeks = seeks-some k sought (f.state ∷ []) (says (f.state ∷ []) f.held first.sound);
        gone_through = subst (HasGoneThrough k (f.state ∷ [])) (sym counted) (through order);
      }
    where
      through : (order : SearchOrder) → HasGoneThrough k (f.state ∷ []) (levels_by order 0)
      through Breadth = levels-none k eq same (f.state ∷ []) [] 0 (explored-first eq k f.state f.is)
      through Depth = tt
