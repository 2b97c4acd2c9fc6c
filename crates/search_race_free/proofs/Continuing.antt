-- The turn of a thread, and plain turns of it and of those that could not go on before.
use Rattle.std.proofs.Common.{◌≡◌, ◌≢◌, ◌⊎◌, inl, inr, ℕ, refl, sym, ◌∙◌, ap, subst, arith, List, [], ◌∷◌, ◌++◌, Contains, Option, Some, None}
use Rattle.std.proofs.lemmas.Option.{same_Some, none-some}
use Rattle.schedule.specs.System.{State}
use Rattle.search_graph.specs.Paths.{Reaches}
use Rattle.search_reach.proofs.Paths.{stays, one_step, onward}
use Rattle.search_settled.specs.Settled.{IsReached, StepsBy, AreTame}
use Rattle.search_settled.specs.Accesses.{WritesOver}
use Rattle.search_settled.specs.Threads.{ThreadSystem}
use Rattle.search_settled.specs.declared.access.NextAccess.{NextAccess}
use Rattle.search_settled.specs.declared.flat.RestingState.{RestingState}
use Rattle.search_race_free.specs.declared.owning.Touch.{Touch}
use Rattle.search_race_free.specs.declared.owning.Owning.{Owning}
use Rattle.search_race_free.specs.Wanted.{ArePlain}
use Rattle.search_race_free.specs.Races.{HasRace}
use Rattle.search_race_free.specs.Owned.{Within}
use Rattle.search_race_free.specs.Touches.{access_at, AreOfOthers, IsOver, ArePutOver, AreClear, StrikesNobody, Strikes, Meets, AreInTheWay}
use Rattle.search_race_free.specs.Reduced.{wanted_in, next_in, Rest, IsResting, WasMade, IsKept, IsAfterTurn, ComesOf}
use Rattle.search_race_free.specs.Search.{AreWanted, WantsSome, IsAfterEvent, GetsLost, IsOwned, ComesAlone, ComesOnward, IsCame}
use Rattle.search_race_free.specs.Known.{WritesOverNone}
use Rattle.search_race_free.specs.declared.alone.Arrival.{Arrival}
use Rattle.search_race_free.specs.declared.alone.Arrival.TheVariants as came
use Rattle.search_race_free.proofs.Moving.{times-append, along-both, goes-along}
use Rattle.search_race_free.proofs.Racing.{race-swap}
use Rattle.search_race_free.proofs.Turning.{event_access, reaches_next, leaves, plain-laws}
use Rattle.search_race_free.proofs.Eventing.{calls-at}
use Rattle.search_race_free.proofs.Striking.{within-more}
use Rattle.search_race_free.proofs.Overwriting.{over-apart}
use Rattle.search_race_free.proofs.Going.{rest-more, comes-to-rest, made-on, missed-now, rests-there, strikes-race}

module _ {X T E V A G H M : Type 0} (k : ThreadSystem X T E V A G H M)
    (tame : AreTame k.system k.first k.most) (plain : ArePlain k.system k.accesses k.first) where
  -- Right after the turn, where the thread has given up what it owned.
  pub onward-first : (s x : Owning (RestingState G H)) (n : ℕ) (a : NextAccess) (wanted : List (Option NextAccess)) (theirs : List Touch) → IsOwned k s
      → AreWanted k s.flat wanted → WantsSome k s.flat n a → IsAfterEvent k s.flat n x.flat
      → AreOfOthers s.owned.items n theirs → ArePutOver wanted n a theirs x.owned.items → ComesOnward k n s x
  onward-first s x n a wanted theirs owned are wants come others put = record {
    owned = record {
      somewhere = rests-there k tame plain x.owned.items s.flat n x.flat owned.somewhere come;
      made = λ t among. made t (put.each t among);
      apart = over-apart wanted n a theirs x.owned.items (λ t u in_t in_u. owned.apart t u ((others t).0 in_t).0 ((others u).0 in_u).0) put;
    };
    touches = record {
      kept = λ t d c. put.kept t ((others t).1 (c, d));
      over = λ z at b h t d g w. put.all t (record {
        wants = are z at t.thread ∙ g;
        other = d;
        over = subst (λ v. WritesOver v t.access) (same_Some b a (sym h ∙ wants z at)) w;
      });
    };
    each = λ z at.
        let r = comes-to-rest k tame plain x.owned.items s.flat n x.flat come z at in
        record {
          access = a;
          wants = wants z at;
          order = r.order;
          settled = r.settled;
          makes = r.makes;
          rests = (let rest = r.resting in rest.rests);
          settled_is = (let rest = r.resting in rest.settled_is);
          others = r.others;
        };
  }
    where
      made : (t : Touch) → Contains theirs t ⊎ IsOver wanted n a t × StrikesNobody theirs t.thread t.access → WasMade k x.flat t
      made t (inl c) =
          let old = (others t).0 c in
          made-on k tame plain x.owned.items s.flat n x.flat a come wants t (λ e. absurd (old.1 (sym e))) (owned.made t old.0)
      made t (inr o) =
          let over = o.0 in
          inr (missed-now k tame plain x.owned.items s.flat n x.flat a owned.somewhere come wants t over.other
          (λ z at. sym (are z at t.thread) ∙ over.wants) over.over)

  -- The same where it writes over nothing.
  pub onward-alone : (s x : Owning (RestingState G H)) (n : ℕ) (a : NextAccess) → IsOwned k s → WantsSome k s.flat n a → WritesOverNone k s n
      → IsAfterEvent k s.flat n x.flat → AreOfOthers s.owned.items n x.owned.items → ComesOnward k n s x
  onward-alone s x n a owned wants none come others = record {
    owned = record {
      somewhere = rests-there k tame plain x.owned.items s.flat n x.flat owned.somewhere come;
      made = λ t among.
          let old = (others t).0 among in
          made-on k tame plain x.owned.items s.flat n x.flat a come wants t (λ e. absurd (old.1 (sym e))) (owned.made t old.0);
      apart = λ t u in_t in_u. owned.apart t u ((others t).0 in_t).0 ((others u).0 in_u).0;
    };
    touches = record {
      kept = λ t d c. (others t).1 (c, d);
      over = λ z at b h t d g w. absurd (none z at b t.access t.thread d h g w);
    };
    each = λ z at.
        let r = comes-to-rest k tame plain x.owned.items s.flat n x.flat come z at in
        record {
          access = a;
          wants = wants z at;
          order = r.order;
          settled = r.settled;
          makes = r.makes;
          rests = (let rest = r.resting in rest.rests);
          settled_is = (let rest = r.resting in rest.settled_is);
          others = r.others;
        };
  }

  -- It rests there.
  pub after-rests : (n : ℕ) (x : Owning (RestingState G H)) (z : State X T) → IsReached k.system k.first z → (r : IsAfterTurn k n x z) →
      IsReached k.system k.first r.settled
  after-rests n x z reached r =
      let laws = plain-laws k.system k.accesses k.first k.most tame plain in
      let next = reaches_next k.system k.accesses k.first k.most tame plain z n reached in
      reached_by r.order (next_in k z n) r.settled next r.makes
    where
      reached_by : (ts : List ℕ) (w v : State X T) → IsReached k.system k.first w → Rest k x.owned.items ts w v → IsReached k.system k.first v
      reached_by [] w v r p = subst (IsReached k.system k.first) p r
      reached_by (t ∷ ts) w v r p = reached_by ts (next_in k w t) v (reaches_next k.system k.accesses k.first k.most tame plain w t r) p.1

  -- Another thread that can go on can after the turn, and after the plain ones.
  still-wants : (n : ℕ) (x : Owning (RestingState G H)) (c : RestingState G H) (z : State X T) (at : IsResting k c z) (r : IsAfterTurn k n x z) (u : ℕ) →
      u ≢ n → (a : NextAccess)
      → wanted_in k z u ≡ Some a → (b : NextAccess) × (wanted_in k r.settled u ≡ Some b)
  still-wants n x c z at r u d a h =
      let e = calls-at k c z at u a h in
      let same = leaves k.system k.accesses k.first k.most tame plain z n u a at.reached d h in
      let wants = event_access k.system k.accesses (next_in k z n) u e.0 (ap k.system.wants same ∙ e.1) in
      let next = reaches_next k.system k.accesses k.first k.most tame plain z n at.reached in
      goes-along (wanted_in k) (next_in k) (IsReached k.system k.first) (plain-laws k.system k.accesses k.first k.most tame plain) (Within x.owned.items) u
      (k.accesses (next_in k z n).shared ((next_in k z n).threads u) e.0) r.order (next_in k z n) r.settled next r.makes (r.others u d a h) wants

  -- And then plain turns of a thread that may go on.
  pub onward-more : (s x y : Owning (RestingState G H)) (n m : ℕ) → (m ≢ n → (z : State X T) → IsResting k s.flat z → wanted_in k z m ≡ None)
      → ComesOnward k n s x → ComesAlone k m x y → ComesOnward k n s y
  onward-more s x y n m free one two = record {
    owned = two.owned;
    touches = (let first = one.touches in record {
      kept = λ t d c. two.grows t (first.kept t d c);
      over = λ z at a h t d g w. two.grows t (first.over z at a h t d g w);
    });
    each = λ z at.
        let p = one.each z at in
        let resting : IsResting k x.flat p.settled = record { reached = after-rests n x z at.reached p; rests = p.rests; settled_is = p.settled_is } in
        let q = two.each p.settled resting in
        record {
          access = p.access;
          wants = p.wants;
          order = p.order ++ q.order;
          settled = q.settled;
          makes = along-both (wanted_in k) (next_in k) (IsReached k.system k.first) (plain-laws k.system k.accesses k.first k.most tame plain)
              (Within y.owned.items)
              p.order q.order (next_in k z n) p.settled q.settled
              (rest-more (wanted_in k) (next_in k) (Within x.owned.items) (Within y.owned.items) p.order (next_in k z n) p.settled
              (λ t a. within-more x.owned.items y.owned.items t a (λ v e. two.grows v)) p.makes) q.makes;
          rests = (let rest = q.resting in rest.rests);
          settled_is = (let rest = q.resting in rest.settled_is);
          others = λ u d a h.
              let none = p.others u d a h in
              let b = still-wants n x s.flat z at p u d a h in
              let more = q.others u (λ e. none-some a (sym (free (λ f. d (e ∙ f)) z at) ∙ subst (λ v. wanted_in k z v ≡ Some a) e h)) b.0 b.1 in
              times-append u p.order q.order ∙ omega (arith, none, more);
        };
  }

  pub lost-onward : (stuck : State X T → Type 0) (s x : Owning (RestingState G H)) (n : ℕ) → ComesOnward k n s x → GetsLost k stuck x.flat →
      GetsLost k stuck s.flat
  lost-onward stuck s x n one lost z at =
      let p = one.each z at in
      let resting : IsResting k x.flat p.settled = record { reached = after-rests n x z at.reached p; rests = p.rests; settled_is = p.settled_is } in
      let l = lost p.settled resting in (
        l.0,
        onward (StepsBy k.system) z (next_in k z n) l.0 (one_step (StepsBy k.system) z (next_in k z n) (n, refl))
            (onward (StepsBy k.system) (next_in k z n) p.settled l.0 (rest-steps p.order (next_in k z n) p.settled p.makes) l.1),
        l.2,
      )
    where
      rest-steps : (ts : List ℕ) (w v : State X T) → Rest k x.owned.items ts w v → Reaches (StepsBy k.system) w v
      rest-steps [] w v p = subst (λ y. Reaches (StepsBy k.system) w y) p (stays (StepsBy k.system) w)
      rest-steps (t ∷ ts) w v p = onward (StepsBy k.system) w (next_in k w t) v (one_step (StepsBy k.system) w (next_in k w t) (t, refl))
          (rest-steps ts (next_in k w t) v p.1)

  -- Where nobody is in another's way.
  pub clear-kept : (x : Owning (RestingState G H)) (wanted : List (Option NextAccess)) → IsOwned k x → AreWanted k x.flat wanted →
      AreClear wanted x.owned.items → IsKept k x
  clear-kept x wanted owned are clear = record {
    safe = λ z at. record {
      apart = owned.apart;
      clear = λ t a y h among d c. (clear t a (are z at t ∙ h)).0 y among d c;
      meet = λ t u a b d h g r. (clear t a (are z at t ∙ h)).1 u b (are z at u ∙ g) d r;
    };
    made = owned.made;
  }

  pub onward-kept : (s x : Owning (RestingState G H)) (n : ℕ) (wanted : List (Option NextAccess)) → ComesOnward k n s x → AreWanted k x.flat wanted →
      AreClear wanted x.owned.items
      → ComesOf k s n x
  onward-kept s x n wanted one are clear = record {
    kept = clear-kept x wanted one.owned are clear;
    each = one.each;
    touches = one.touches;
  }

  pub way-races : (x : Owning (RestingState G H)) (wanted : List (Option NextAccess)) (one other : ℕ) → IsOwned k x → AreWanted k x.flat wanted →
      AreInTheWay wanted x.owned.items one other
      → HasRace k.system k.first k.accesses one other
  way-races x wanted one other owned are h = by h.way
    where
      wants : WantsSome k x.flat other h.access
      wants z at = sym (are z at other) ∙ h.wants

      by : Strikes x.owned.items other h.access one ⊎ Meets wanted other h.access one → HasRace k.system k.first k.accesses one other
      by (inl strikes) = strikes-race k tame plain x other one h.access owned wants strikes
      by (inr meets) =
          let at = owned.somewhere in
          inr (inl (record {
            differ = λ e. meets.differ (sym e);
            state = at.0;
            reached = at.1.reached;
            access = meets.access;
            wanted = sym (are at.0 at.1 one) ∙ meets.wants;
            next = h.access;
            wanted_next = wants at.0 at.1;
            race = race-swap h.access meets.access meets.race;
          }))

  -- Of those of others the same.
  pub others-race : (s : Owning (RestingState G H)) (wanted : List (Option NextAccess)) (theirs : List Touch) (n one other : ℕ) → IsOwned k s
      → AreWanted k s.flat wanted → AreOfOthers s.owned.items n theirs → AreInTheWay wanted theirs one other → HasRace k.system k.first k.accesses one other
  others-race s wanted theirs n one other owned are others h =
      way-races s wanted one other owned are (record { access = h.access; wants = h.wants; way = by h.way })
    where
      by : Strikes theirs other h.access one ⊎ Meets wanted other h.access one → Strikes s.owned.items other h.access one ⊎ Meets wanted other h.access one
      by (inl x) = inl (record { touch = x.touch; among = ((others x.touch).0 x.among).0; is = x.is; other = x.other; race = x.race })
      by (inr x) = inr x

  pub came-more : (stuck : State X T → Type 0) (s x : Owning (RestingState G H)) (n m : ℕ) (before : List (Option NextAccess)) → AreWanted k s.flat before →
      (m ≢ n → access_at before m ≡ None)
      → ComesOnward k n s x → (v : Arrival (Owning (RestingState G H))) → IsCame k stuck x.flat (ComesAlone k m x) v →
      IsCame k stuck s.flat (ComesOnward k n s) v
  came-more stuck s x n m before are free one (came.To y) h = onward-more s x y n m (λ d z at. sym (are z at m) ∙ free d) one h
  came-more stuck s x n m before are free one (came.Races r) h = h
  came-more stuck s x n m before are free one came.Unknown h = lost-onward stuck s x n one h
