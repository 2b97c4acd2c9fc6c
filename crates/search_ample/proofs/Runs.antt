-- Runs of a system: a step that is apart from all of theirs comes before them as well.
use Rattle.std.specs.Prelude.{◌≢◌, ℕ, List, [], ◌∷◌, ◌++◌}
use Rattle.std.proofs.Common.{inl, inr}
use Rattle.search_ample.specs.Systems.{System, CanGo, Runs, Minds, IsSame, AreIndependent}

module _ {S A : Type 0} (k : System S A) where
  -- Being the same goes on and back.
  pub same-on : (s z v : S) (n : ℕ) → IsSame k s z n → IsSame k z v n → IsSame k s v n
  same-on s z v n a b = record {
    can = (λ h. b.can.0 (a.can.0 h), λ h. a.can.1 (b.can.1 h));
    wants = λ x. (λ h. (b.wants x).0 ((a.wants x).0 h), λ h. (a.wants x).1 ((b.wants x).1 h));
    heeds = λ x. (λ h. (b.heeds x).0 ((a.heeds x).0 h), λ h. (a.heeds x).1 ((b.heeds x).1 h));
  }

  pub minds-back : (s z : S) (n : ℕ) (a : A) → IsSame k s z n → Minds k z n a → Minds k s n a
  minds-back s z n a same (inl h) = inl ((same.wants a).1 h)
  minds-back s z n a same (inr h) = inr ((same.heeds a).1 h)

module _ {S A : Type 0} (k : System S A) (laws : AreIndependent k) where
  -- The same runs begin where nobody tells the state apart.
  pub runs-from : (ns : List ℕ) (s v z : S) → k.among s → k.among v → k.alike s v → Runs k v ns z → Runs k s ns z
  runs-from [] s v z x y a r = laws.states.in_turn s v z a r
  runs-from (n ∷ ns) s v z x y a r =
      let step = laws.states.steps n v s r.0 y x (laws.states.back s v a) r.1 in (
        step.0,
        step.1,
        runs-from ns step.0 r.0 z (laws.states.among n s step.0 x step.1) (laws.states.among n v r.0 y r.1)
            (laws.states.back r.0 step.0 step.2) r.2,
      )

  pub runs-join : (ps ns : List ℕ) (s v z : S) → k.among s → k.among v → Runs k s ps v → Runs k v ns z → Runs k s (ps ++ ns) z
  runs-join [] ns s v z x y a r = runs-from ns s v z x y a r
  runs-join (p ∷ ps) ns s v z x y a r = (a.0, a.1, runs-join ps ns a.0 v z (laws.states.among p s a.0 x a.1) y a.2 r)

  -- A run in two parts.
  pub record Parts (ps ns : List ℕ) (s z : S) : Type 0 where
    pub middle : S
    pub among : k.among middle
    pub first : Runs k s ps middle
    pub second : Runs k middle ns z

  pub runs-split : (ps ns : List ℕ) (s z : S) → k.among s → Runs k s (ps ++ ns) z → Parts ps ns s z
  runs-split [] ns s z x r = record { middle = s; among = x; first = laws.states.itself s; second = r }
  runs-split (p ∷ ps) ns s z x r =
      let rest = runs-split ps ns r.0 z (laws.states.among p s r.0 x r.1) r.2 in
      record { middle = rest.middle; among = rest.among; first = (r.0, r.1, rest.first); second = rest.second }

  -- Each step of it is another thread's, and conflicts with none of these.
  abbrev pub IsClear : ℕ → (A → Type 0) → (s : S) (ns : List ℕ) (z : S) → Runs k s ns z → Type 0
  IsClear m M s [] z r = Unit {0}
  IsClear m M s (n ∷ ns) z r = (n ≢ m) × ((a b : A) → M a → k.wants s n b → k.conflict a b → ⊥) × IsClear m M r.0 ns z r.2

  -- So a thread that minds no others stays the same, if some such thread can go on.
  pub kept-along : (m n : ℕ) (M N : A → Type 0) (ns : List ℕ) (s z : S) → k.among s → k.among z → (r : Runs k s ns z) → CanGo k s m
      → ((a : A) → Minds k s m a → M a) → ((a : A) → Minds k s n a → N a) → IsClear m M s ns z r → IsClear n N s ns z r
      → IsSame k s z n
  kept-along m n M N [] s z x y r can min nin c d = laws.states.same s z n x y r
  kept-along m n M N (t ∷ ns) s z x y r can min nin c d =
      let one = laws.kept s r.0 m t m x c.0 c.0 (inl can) r.1 (λ a b p w. c.1 a b (min a p) w) in
      let other = laws.kept s r.0 n t m x d.0 c.0 (inl can) r.1 (λ a b p w. d.1 a b (nin a p) w) in
      same-on k s r.0 z n other (kept-along m n M N ns r.0 z (laws.states.among t s r.0 x r.1) y r.2 (one.can.0 can)
      (λ a p. min a (minds-back k s r.0 m a one p)) (λ a p. nin a (minds-back k s r.0 n a other p)) c.2 d.2)

  -- And its step comes first as well.
  pub record IsMoved (m : ℕ) (ns : List ℕ) (v z : S) : Type 0 where
    pub end : S
    pub last : k.steps m z end
    pub runs : Runs k v ns end

  pub comes-first : (m : ℕ) (M : A → Type 0) (ns : List ℕ) (s v z : S) → k.among s → k.among z → (r : Runs k s ns z) → k.steps m s v
      → ((a : A) → Minds k s m a → M a) → IsClear m M s ns z r → IsMoved m ns v z
  comes-first m M [] s v z x y r step min c =
      let moved = laws.states.steps m s z v x y r step in
      record { end = moved.0; last = moved.1; runs = moved.2 }
  comes-first m M (t ∷ ns) s v z x y r step min c =
      let apart = λ (a b : A) (p : Minds k s m a) (w : k.wants s t b). c.1 a b (min a p) w in
      let on = laws.states.among t s r.0 x r.1 in
      let first = laws.states.among m s v x step in
      let same = laws.kept s r.0 m t m x c.0 c.0 (inl (v, step)) r.1 apart in
      let both = laws.swap s v r.0 m t x c.0 step r.1 apart in
      let later = comes-first m M ns r.0 both.0 z on y r.2 both.2 (λ a p. min a (minds-back k s r.0 m a same p)) c.2 in
      record {
        end = later.end;
        last = later.last;
        runs = (
          both.1,
          both.3,
          runs-from ns both.1 both.0 later.end (laws.states.among t v both.1 first both.3) (laws.states.among m r.0 both.0 on both.2)
              (laws.states.back both.0 both.1 both.4) later.runs,
        );
      }
