-- A thread that makes plain turns alone.
use Rattle.std.proofs.Common.{◌≡◌, ◌≢◌, ◌⊎◌, inl, inr, ℕ, zero, suc, Bool, true, false, not, true≢false, refl, sym, ◌∙◌, ap, subst}
use Rattle.std.proofs.Common.{arith, List, [], ◌∷◌, ◌++◌, Contains, Option, Some}
use Rattle.schedule.specs.System.{State}
use Rattle.schedule.specs.Scheduled.{after_turn, after_event}
use Rattle.schedule.proofs.Basics.{same_or_not}
use Rattle.search_graph.specs.Paths.{Goes, Reaches}
use Rattle.search_reach.proofs.Paths.{stays, one_step, onward}
use Rattle.search_settled.specs.Settled.{IsReached, StepsBy, AreTame}
use Rattle.search_settled.specs.Accesses.{IsPlain, HasByte, Race, WritesOver}
use Rattle.search_settled.specs.Threads.{ThreadSystem}
use Rattle.search_settled.specs.declared.access.NextAccess.{NextAccess}
use Rattle.search_settled.specs.declared.flat.RestingState.{RestingState}
use Rattle.search_race_free.specs.declared.owning.Touch.{Touch}
use Rattle.search_race_free.specs.declared.owning.Owning.{Owning}
use Rattle.search_race_free.specs.Orders.{times, MakesPlain, StepsPlainly, StepsWithout}
use Rattle.search_race_free.specs.Wanted.{own_turn, ArePlain}
use Rattle.search_race_free.specs.Races.{HasMade, WasWrittenOver, HasRace}
use Rattle.search_race_free.specs.Owned.{Within}
use Rattle.search_race_free.specs.Touches.{StrikesNobody, Strikes, ArePlainOf, IsPut}
use Rattle.search_race_free.specs.Reduced.{wanted_in, next_in, Rest, IsResting, RestsSomewhere, HasTouched, IsMissed, WasMade}
use Rattle.search_race_free.specs.Search.{WantsSome, IsAfterEvent, GetsLost, IsOwned, ComesAlone}
use Rattle.search_race_free.proofs.Moving.{times-here, times-other, times-append, reached-along, along-both, goes-along}
use Rattle.search_race_free.proofs.Racing.{race-swap}
use Rattle.search_race_free.proofs.Turning.{going_on, turn_access, event_access, reaches_next, leaves, plain-laws}
use Rattle.search_race_free.proofs.Striking.{own-within, within-more}
use Rattle.search_race_free.proofs.Resting.{RestsBy, to_rest}

-- turns within less are turns within more
pub rest-more : {W : Type 0} (wants : W → ℕ → Option NextAccess) (next : W → ℕ → W) (own more : ℕ → NextAccess → Type 0) (ts : List ℕ) (w z : W)
    → ((t : ℕ) (a : NextAccess) → own t a → more t a) → MakesPlain wants next own ts w z → MakesPlain wants next more ts w z
rest-more wants next own more [] w z h p = p
rest-more wants next own more (t ∷ ts) w z h p = (
  record { access = p.0.access; wanted = p.0.wanted; plain = p.0.plain; is_own = h t p.0.access p.0.is_own },
  rest-more wants next own more ts (next w t) z h p.1,
)

-- plain turns are steps on which a thread makes nothing that isn't plain
pub rest-plainly : {W : Type 0} (wants : W → ℕ → Option NextAccess) (next : W → ℕ → W) (own : ℕ → NextAccess → Type 0) (one : ℕ) (ts : List ℕ) (w z : W)
    → MakesPlain wants next own ts w z → Reaches (StepsPlainly wants next one) w z
rest-plainly wants next own one [] w z p = subst (λ x. Reaches (StepsPlainly wants next one) w x) p (stays (StepsPlainly wants next one) w)
rest-plainly wants next own one (t ∷ ts) w z p =
    onward (StepsPlainly wants next one) w (next w t) z
    (one_step (StepsPlainly wants next one) w (next w t)
    (record { thread = t; access = p.0.access; wanted = p.0.wanted; plain = λ e. p.0.plain; leads = refl }))
    (rest-plainly wants next own one ts (next w t) z p.1)

-- turns of other threads
pub rest-without : {W : Type 0} (wants : W → ℕ → Option NextAccess) (next : W → ℕ → W) (own : ℕ → NextAccess → Type 0) (one : ℕ) (ts : List ℕ) (w z : W)
    → times one ts ≡ 0 → MakesPlain wants next own ts w z → Reaches (StepsWithout wants next one) w z
rest-without wants next own one [] w z none p = subst (λ x. Reaches (StepsWithout wants next one) w x) p (stays (StepsWithout wants next one) w)
rest-without wants next own one (t ∷ ts) w z none p = elim (same_or_not t one) [
  | inl e ↦ (let h = times-here one t ts e in absurd (omega (arith, h, none)))
  | inr d ↦
      onward (StepsWithout wants next one) w (next w t) z
      (one_step (StepsWithout wants next one) w (next w t) (record { thread = t; access = p.0.access; wanted = p.0.wanted; other = d; leads = refl }))
      (rest-without wants next own one ts (next w t) z (sym (times-other one t ts d) ∙ none) p.1)
]

module _ {X T E V A G H M : Type 0} (k : ThreadSystem X T E V A G H M)
    (tame : AreTame k.system k.first k.most) (plain : ArePlain k.system k.accesses k.first) where
  -- Who can go on can after the turn of another thread, and after all turns of others.
  pub goes-still : (w : State X T) (u t : ℕ) (a : NextAccess) → IsReached k.system k.first w → t ≢ u → wanted_in k w t ≡ Some a
      → (b : NextAccess) × (wanted_in k (next_in k w u) t ≡ Some b)
  goes-still w u t a r d h =
      let same = leaves k.system k.accesses k.first k.most tame plain w u t a r d h in
      elim (going_on k.system k.accesses w t a h) [
        | inl o ↦ (own_turn, turn_access k.system k.accesses (next_in k w u) t (ap k.system.wants same ∙ o.0))
        | inr o ↦ (
          k.accesses (next_in k w u).shared ((next_in k w u).threads t) o.0,
          event_access k.system k.accesses (next_in k w u) t o.0 (ap k.system.wants same ∙ o.1),
        )
      ]

  abbrev Without : ℕ → State X T → State X T → Type 0
  Without = StepsWithout (wanted_in k) (next_in k)

  goes-without : (count one : ℕ) (a : NextAccess) (w z : State X T) → IsReached k.system k.first w → wanted_in k w one ≡ Some a
      → Goes (Without one) count w z → (b : NextAccess) × (wanted_in k z one ≡ Some b)
  goes-without zero one a w z r h p = (a, ap (λ v. wanted_in k v one) (sym p) ∙ h)
  goes-without (suc count) one a w z r h p =
      let step = p.1 in
      let n = step.thread in
      let g = goes-still w n one a r (λ e. step.other (sym e)) h in
      goes-without count one g.0 (next_in k w n) z (reaches_next k.system k.accesses k.first k.most tame plain w n r) g.1
      (subst (λ v. Goes (Without one) count v z) step.leads p.2)

  -- Who was written over still can.
  pub goes-over : (one : ℕ) (a : NextAccess) (z : State X T) → WasWrittenOver k.system k.first k.accesses one a z
      → (b : NextAccess) × (wanted_in k z one ≡ Some b)
  goes-over one a z was =
      let g = goes-still was.before was.by one a was.reached (λ e. was.differ (sym e)) was.wanted in
      let since = was.since in
      goes-without since.count one g.0 (next_in k was.before was.by) z
      (reaches_next k.system k.accesses k.first k.most tame plain was.before was.by was.reached) g.1 since.path

  -- Where all come to rest after the turn of a thread that rests, by plain turns of their own.
  pub record ComesToRestAfter (owned : List Touch) (n : ℕ) (c : RestingState G H) (z : State X T) : Type 0 where
    pub order : List ℕ
    pub settled : State X T
    pub makes : Rest k owned order (next_in k z n) settled
    pub resting : IsResting k c settled
    pub others : (u : ℕ) → u ≢ n → (a : NextAccess) → wanted_in k z u ≡ Some a → times u order ≡ 0

  pub comes-to-rest : (owned : List Touch) (b : RestingState G H) (n : ℕ) (c : RestingState G H) → IsAfterEvent k b n c → (z : State X T) → IsResting k b z →
      ComesToRestAfter owned n c z
  comes-to-rest owned b n c come z at =
      let e = come z at in
      let made : next_in k z n ≡ after_event k.system z n e.0 = ap (after_turn k.system z n) e.1 in
      let by = e.2 in
      let reached = reaches_next k.system k.accesses k.first k.most tame plain z n at.reached in
      let there : IsReached k.system k.first (after_event k.system z n e.0) = subst (IsReached k.system k.first) made reached in
      let r : RestsBy k.system k.accesses (Within owned) (own-within owned) (after_event k.system z n e.0) by.settled =
      to_rest k.system k.accesses (Within owned) (own-within owned) k.most (after_event k.system z n e.0) by.settled
      (tame.few (after_event k.system z n e.0) there) by.rest in
      let makes : Rest k owned r.order (next_in k z n) by.settled = subst (λ w. Rest k owned r.order w by.settled) (sym made) r.makes in
      record {
        order = r.order;
        settled = by.settled;
        makes = makes;
        resting = record {
          reached = reached-along (wanted_in k) (next_in k) (IsReached k.system k.first) (plain-laws k.system k.accesses k.first k.most tame plain)
              (Within owned) r.order
              (next_in k z n) by.settled reached makes;
          rests = λ m. (by.rest.each m).rests;
          settled_is = by.settled_is;
        };
        others = λ u d a h.
            let same = leaves k.system k.accesses k.first k.most tame plain z n u a at.reached d h in
            r.none u (λ turns. at.rests u (sym (ap k.system.wants (sym (ap (λ (w : State X T). w.threads u) made) ∙ same)) ∙ turns));
      }

  -- What was touched is touched still, where the turn is plain or another's.
  pub touched-on : (owned : List Touch) (b : RestingState G H) (n : ℕ) (c : RestingState G H) (a : NextAccess) → IsAfterEvent k b n c → WantsSome k b n a →
      (x : Touch) (byte : ℕ)
      → (n ≡ x.thread → IsPlain a) → HasTouched k b x byte → HasTouched k c x byte
  touched-on owned b n c a come wants x byte unless h =
      let at = h.is in
      let r = comes-to-rest owned b n c come h.state at in
      let made = h.made in
      record {
        state = r.settled;
        is = r.resting;
        access = h.access;
        made = record {
          before = made.before;
          reached = made.reached;
          wanted = made.wanted;
          plain = made.plain;
          since = onward (StepsPlainly (wanted_in k) (next_in k) x.thread) (next_in k made.before x.thread) h.state r.settled made.since
              (onward (StepsPlainly (wanted_in k) (next_in k) x.thread) h.state (next_in k h.state n) r.settled
              (one_step (StepsPlainly (wanted_in k) (next_in k) x.thread) h.state (next_in k h.state n)
              (record { thread = n; access = a; wanted = wants h.state at; plain = unless; leads = refl }))
              (rest-plainly (wanted_in k) (next_in k) (Within owned) x.thread r.order (next_in k h.state n) r.settled r.makes));
        };
        has = h.has;
        writes = h.writes;
      }

  -- The plain turn's own touch.
  pub touched-now : (owned : List Touch) (b : RestingState G H) (n : ℕ) (c : RestingState G H) (a : NextAccess) → RestsSomewhere k b → IsAfterEvent k b n c →
      WantsSome k b n a → IsPlain a
      → (byte : ℕ) → HasByte a byte → HasTouched k c (record { thread = n; access = a }) byte
  touched-now owned b n c a at come wants p byte has =
      let r = comes-to-rest owned b n c come at.0 at.1 in
      record {
        state = r.settled;
        is = r.resting;
        access = a;
        made = record {
          before = at.0;
          reached = at.1.reached;
          wanted = wants at.0 at.1;
          plain = p;
          since = rest-plainly (wanted_in k) (next_in k) (Within owned) n r.order (next_in k at.0 n) r.settled r.makes;
        };
        has = has;
        writes = λ w. w;
      }

  -- What was written over is still, where the turn is another's.
  missed-on : (owned : List Touch) (b : RestingState G H) (n : ℕ) (c : RestingState G H) (a : NextAccess) → IsAfterEvent k b n c → WantsSome k b n a →
      (x : Touch) → n ≢ x.thread → IsMissed k b x → IsMissed k c x
  missed-on owned b n c a come wants x d h =
      let at = h.is in
      let r = comes-to-rest owned b n c come h.state at in
      let was = h.was in
      let still = goes-over x.thread x.access h.state was in
      record {
        state = r.settled;
        is = r.resting;
        was = record {
          before = was.before;
          reached = was.reached;
          wanted = was.wanted;
          by = was.by;
          differ = was.differ;
          over = was.over;
          wanted_over = was.wanted_over;
          writes = was.writes;
          since = onward (Without x.thread) (next_in k was.before was.by) h.state r.settled was.since
              (onward (Without x.thread) h.state (next_in k h.state n) r.settled
              (one_step (Without x.thread) h.state (next_in k h.state n)
              (record { thread = n; access = a; wanted = wants h.state at; other = d; leads = refl }))
              (rest-without (wanted_in k) (next_in k) (Within owned) x.thread r.order (next_in k h.state n) r.settled
              (r.others x.thread (λ e. d (sym e)) still.0 still.1) r.makes));
        };
      }

  -- What was made was still, where the turn is another's, or both are plain.
  pub made-on : (owned : List Touch) (b : RestingState G H) (n : ℕ) (c : RestingState G H) (a : NextAccess) → IsAfterEvent k b n c → WantsSome k b n a →
      (x : Touch) → (n ≡ x.thread → IsPlain a × IsPlain x.access) → WasMade k b x → WasMade k c x
  made-on owned b n c a come wants x unless (inl h) =
      inl (λ byte has. touched-on owned b n c a come wants x byte (λ e. (unless e).0) (h byte has))
  made-on owned b n c a come wants x unless (inr h) =
      let over = h.was.writes in
      inr (missed-on owned b n c a come wants x (λ e. true≢false (sym (unless e).1 ∙ over.matched.first)) h)

  -- What the turn writes over.
  pub missed-now : (owned : List Touch) (b : RestingState G H) (n : ℕ) (c : RestingState G H) (a : NextAccess) → RestsSomewhere k b → IsAfterEvent k b n c →
      WantsSome k b n a → (x : Touch) → x.thread ≢ n → WantsSome k b x.thread x.access → WritesOver a x.access → IsMissed k c x
  missed-now owned b n c a at come wants x d wanted over =
      let r = comes-to-rest owned b n c come at.0 at.1 in
      record {
        state = r.settled;
        is = r.resting;
        was = record {
          before = at.0;
          reached = at.1.reached;
          wanted = wanted at.0 at.1;
          by = n;
          differ = λ e. d (sym e);
          over = a;
          wanted_over = wants at.0 at.1;
          writes = over;
          since = rest-without (wanted_in k) (next_in k) (Within owned) x.thread r.order (next_in k at.0 n) r.settled
              (r.others x.thread d x.access (wanted at.0 at.1)) r.makes;
        };
      }

  pub rests-there : (owned : List Touch) (b : RestingState G H) (n : ℕ) (c : RestingState G H) → RestsSomewhere k b → IsAfterEvent k b n c → RestsSomewhere k c
  rests-there owned b n c at come = let r = comes-to-rest owned b n c come at.0 at.1 in (r.settled, r.resting)

  -- What is struck was made by a thread or written over, and so these threads race.
  pub strikes-race : (s : Owning (RestingState G H)) (m one : ℕ) (a : NextAccess) → IsOwned k s → WantsSome k s.flat m a → Strikes s.owned.items m a one
      → HasRace k.system k.first k.accesses one m
  strikes-race s m one a owned wants h = of (owned.made h.touch h.among)
    where
      differ : m ≢ one
      differ e = h.other (h.is ∙ sym e)

      by : (t : HasTouched k s.flat h.touch h.race.conflict.meet.0) → (a.writes ≡ true) ⊎ (h.touch.access.writes ≡ true) →
          (a.writes ≡ true) ⊎ (t.access.writes ≡ true)
      by t (inl w) = inl w
      by t (inr w) = inr (t.writes w)

      of : WasMade k s.flat h.touch → HasRace k.system k.first k.accesses one m
      of (inl touched) =
          let c = h.race.conflict in
          let meet = c.meet in
          let t = touched meet.0 meet.1.1 in
          inl (record {
            differ = differ;
            state = t.state;
            access = t.access;
            made = subst (λ u. HasMade k.system k.first k.accesses u t.access t.state) h.is t.made;
            next = a;
            wanted = wants t.state t.is;
            conflict = record { meet = (meet.0, (meet.1.0, t.has)); write = by t c.write };
          })
      of (inr o) = inr (inr (record {
        differ = differ;
        state = o.state;
        access = h.touch.access;
        was = subst (λ u. WasWrittenOver k.system k.first k.accesses u h.touch.access o.state) h.is o.was;
        next = a;
        wanted = wants o.state o.is;
        race = race-swap a h.touch.access h.race;
      }))

  -- where nothing was done
  pub stays-alone : (m : ℕ) (s : Owning (RestingState G H)) → IsOwned k s → ComesAlone k m s s
  stays-alone m s owned = record {
    owned = owned;
    grows = λ t h. h;
    each = λ z at. record { order = []; settled = z; makes = refl; resting = at; others = λ u d a h. refl };
  }

  put-within : (before after : List Touch) (m : ℕ) (a : NextAccess) → IsPlain a → IsPut before (record { thread = m; access = a }) after → Within after m a
  put-within before after m a p put byte has = record {
    touch = record { thread = m; access = a };
    among = (put (record { thread = m; access = a })).1 (inr refl);
    is = refl;
    plain = p;
    has = has;
    writes = λ w. w;
  }

  -- A plain turn, and what is owned then.
  pub goes-on-alone : (s x : Owning (RestingState G H)) (m : ℕ) (a : NextAccess) → IsOwned k s → WantsSome k s.flat m a → IsPlain a →
      ArePlainOf s.owned.items m → StrikesNobody s.owned.items m a
      → IsAfterEvent k s.flat m x.flat → IsPut s.owned.items (record { thread = m; access = a }) x.owned.items → ComesAlone k m s x
  goes-on-alone s x m a owned wants p free nobody come put = record {
    owned = record {
      somewhere = rests-there x.owned.items s.flat m x.flat owned.somewhere come;
      made = λ t among. made t ((put t).0 among);
      apart = λ t u in_t in_u d c. apart t u ((put t).0 in_t) ((put u).0 in_u) d c;
    };
    grows = λ t c. (put t).1 (inl c);
    each = λ z at.
        let r = comes-to-rest x.owned.items s.flat m x.flat come z at in
        record {
          order = m ∷ r.order;
          settled = r.settled;
          makes = (
            record { access = a; wanted = wants z at; plain = p; is_own = put-within s.owned.items x.owned.items m a p put },
            r.makes,
          );
          resting = r.resting;
          others = λ u d b h. times-other u m r.order (λ e. d (sym e)) ∙ r.others u d b h;
        };
  }
    where
      new : Touch
      new = record { thread = m; access = a }

      made : (t : Touch) → Contains s.owned.items t ⊎ (t ≡ new) → WasMade k x.flat t
      made t (inl c) = made-on x.owned.items s.flat m x.flat a come wants t (λ e. (p, free t c (sym e))) (owned.made t c)
      made t (inr e) = inl (λ byte has.
          subst (λ v. HasTouched k x.flat v byte) (sym e)
          (touched-now x.owned.items s.flat m x.flat a owned.somewhere come wants p byte (subst (λ (v : Touch). HasByte v.access byte) e has)))

      apart : (t u : Touch) → Contains s.owned.items t ⊎ (t ≡ new) → Contains s.owned.items u ⊎ (u ≡ new) → t.thread ≢ u.thread → Race t.access u.access → ⊥
      apart t u (inl c) (inl e) d h = owned.apart t u c e d h
      apart t u (inl c) (inr e) d h =
          nobody t c (λ q. d (q ∙ sym (ap (λ (v : Touch). v.thread) e)))
          (subst (λ (v : Touch). Race v.access t.access) e (race-swap t.access u.access h))
      apart t u (inr c) (inl e) d h =
          nobody u e (λ q. d (ap (λ (v : Touch). v.thread) c ∙ sym q)) (subst (λ (v : Touch). Race v.access u.access) c h)
      apart t u (inr c) (inr e) d h = d (ap (λ (v : Touch). v.thread) (c ∙ sym e))

  -- who can go on can after plain turns of others
  still-wants : (owned : List Touch) (u : ℕ) (ts : List ℕ) (w z : State X T) (a : NextAccess) → IsReached k.system k.first w → Rest k owned ts w z →
      times u ts ≡ 0
      → wanted_in k w u ≡ Some a → (b : NextAccess) × (wanted_in k z u ≡ Some b)
  still-wants owned u ts w z a r p none h =
      goes-along (wanted_in k) (next_in k) (IsReached k.system k.first) (plain-laws k.system k.accesses k.first k.most tame plain) (Within owned) u a ts w
      z r p none h

  -- One way alone after another.
  pub alone-after : (m : ℕ) (s x y : Owning (RestingState G H)) → ComesAlone k m s x → ComesAlone k m x y → ComesAlone k m s y
  alone-after m s x y one two = record {
    owned = two.owned;
    grows = λ t h. two.grows t (one.grows t h);
    each = λ z at.
        let p = one.each z at in
        let q = two.each p.settled p.resting in
        record {
          order = p.order ++ q.order;
          settled = q.settled;
          makes = along-both (wanted_in k) (next_in k) (IsReached k.system k.first) (plain-laws k.system k.accesses k.first k.most tame plain)
              (Within y.owned.items)
              p.order q.order z p.settled q.settled
              (rest-more (wanted_in k) (next_in k) (Within x.owned.items) (Within y.owned.items) p.order z p.settled
              (λ t a. within-more x.owned.items y.owned.items t a (λ v e. two.grows v)) p.makes) q.makes;
          resting = q.resting;
          others = λ u d a h.
              let none = p.others u d a h in
              let b = still-wants x.owned.items u p.order z p.settled a at.reached p.makes none h in
              let more = q.others u d b.0 b.1 in
              times-append u p.order q.order ∙ omega (arith, none, more);
        };
  }

  pub lost-after : (stuck : State X T → Type 0) (m : ℕ) (s x : Owning (RestingState G H)) → ComesAlone k m s x → GetsLost k stuck x.flat →
      GetsLost k stuck s.flat
  lost-after stuck m s x one lost z at =
      let p = one.each z at in
      let l = lost p.settled p.resting in
      (l.0, onward (StepsBy k.system) z p.settled l.0 (rest-steps p.order z p.settled p.makes) l.1, l.2)
    where
      rest-steps : (ts : List ℕ) (w z : State X T) → Rest k x.owned.items ts w z → Reaches (StepsBy k.system) w z
      rest-steps [] w z p = subst (λ v. Reaches (StepsBy k.system) w v) p (stays (StepsBy k.system) w)
      rest-steps (t ∷ ts) w z p = onward (StepsBy k.system) w (next_in k w t) z (one_step (StepsBy k.system) w (next_in k w t) (t, refl))
          (rest-steps ts (next_in k w t) z p.1)

pub not_false : (b : Bool) → not b ≡ false → b ≡ true
not_false true e = refl
not_false false e = absurd (true≢false e)
