-- A run that makes a log leads a walk along it: the walk is never ahead of it, and can take each entry.
use Rattle.std.proofs.Common.{◌≡◌, ◌≢◌, ℕ, zero, suc, ◌==◌, Bool, true, false, cond, List, [], ◌∷◌, ◌++◌, refl, sym}
use Rattle.std.proofs.Common.{◌∙◌, ap, subst, append-nil, append_assoc, Option, Some, None, ◌⊎◌, inl, inr}
use Rattle.schedule.specs.System.{Want, Want.Turns, Want.Calls, Want.Awaits, Want.Gone, Act, Act.Made, Act.Heard, Step}
use Rattle.schedule.specs.System.{Step.Own, Step.Lost, Step.Full, Step.Acts, Entry, Mark, Kind, Kind.Turn}
use Rattle.schedule.specs.System.{Kind.Loses, Kind.Fills, System, State, put}
use Rattle.schedule.specs.ThreadRun.{acts, found_full, after_first_act, Laws}
use Rattle.schedule.specs.Scheduled.{after_event, after_turn, after_mark, with_thread, scheduled_run, entries_made}
use Rattle.schedule.specs.Scheduled.{entries_by, entries_at, steps_made, steps_by, steps_at, heard_step, hears_any}
use Rattle.schedule.specs.Scheduled.{or_started, if_may, full_step}
use Rattle.schedule.specs.Histories.{Place, Place.Unstarted, Place.Free, Place.Open, Place.Due, IsClosed, placed, without_answers, next_places, IsLegalHistory}
use Rattle.schedule.specs.Histories.{IsOrdered}
use Rattle.schedule.specs.Tries.{TryRules, IsFullOnlyAtLimit, IsWithinLimit, MayMarkAll, HasReached, if_true}
use Rattle.schedule.proofs.Basics.{same_is, other_is, at_each, put-same, put-other}
use Rattle.replay_rules.specs.Logs.{MakesLog}
use Rattle.replay_rules.specs.Walk.{ComesTo, Settles, FindsFull, CanMake, after_made}
use Rattle.replay_rules.proofs.Making.{put_put}

abbrev mark_of : ℕ → Kind → Mark
mark_of n k = record { thread = n; kind = k }

-- steps without an act, before others
module _ {E V A : Type 0} where
  no_acts : (steps more : List (Step E V A)) → acts steps ≡ [] → acts (steps ++ more) ≡ acts more
  no_acts [] more h = refl
  no_acts (Own ∷ steps) more h = no_acts steps more h
  no_acts (Lost e ∷ steps) more h = no_acts steps more h
  no_acts (Full e ∷ steps) more h = no_acts steps more h
  no_acts (Acts a ∷ steps) more h = absurd (cc h)

  still_full : (steps more : List (Step E V A)) → acts steps ≡ [] → found_full steps ≡ true → found_full (steps ++ more) ≡ true
  still_full [] more h f = absurd (cc f)
  still_full (Own ∷ steps) more h f = still_full steps more h f
  still_full (Lost e ∷ steps) more h f = still_full steps more h f
  still_full (Full e ∷ steps) more h f = refl
  still_full (Acts a ∷ steps) more h f = absurd (cc h)

  full_then : (steps more : List (Step E V A)) (e : E) → acts steps ≡ [] → found_full (steps ++ Full e ∷ more) ≡ true
  full_then [] more e h = refl
  full_then (Own ∷ steps) more e h = full_then steps more e h
  full_then (Lost x ∷ steps) more e h = full_then steps more e h
  full_then (Full x ∷ steps) more e h = refl
  full_then (Acts a ∷ steps) more e h = absurd (cc h)

  first_act : (steps more : List (Step E V A)) (a : Act E V A) → acts steps ≡ [] → after_first_act (steps ++ Acts a ∷ more) ≡ more
  first_act [] more a h = refl
  first_act (Own ∷ steps) more a h = first_act steps more a h
  first_act (Lost x ∷ steps) more a h = first_act steps more a h
  first_act (Full x ∷ steps) more a h = first_act steps more a h
  first_act (Acts b ∷ steps) more a h = absurd (cc h)

module _ {X T E V A W : Type 0} (s : System X T E V A) (rules : TryRules X E W) where
  -- the thread of the run was ended by the full log
  pub record IsEnded (t u : T) : Type 0 where
    pub settled : T
    pub turns : ℕ
    pub comes : ComesTo s turns t settled
    pub may : s.may_fill settled ≡ true
    pub full : u ≡ s.full settled

  -- how the thread of the walk stands to that of the run, which has made these steps since
  abbrev pub NearBy : T → T → List (Step E V A) → Type 0
  NearBy t u steps = (acts steps ≡ []) × (((turns : ℕ) × ComesTo s turns t u) ⊎ (IsEnded t u × (found_full steps ≡ true)))

  abbrev pub NearAt : Place A → T → T → List (Step E V A) → Type 0
  NearAt Unstarted t u steps = (t ≡ u) × (s.wants t ≡ Gone) × (steps ≡ [])
  NearAt Free t u steps = NearBy t u steps
  NearAt Open t u steps = (t ≡ u) × (s.wants t ≡ Awaits) × (steps ≡ [])
  NearAt (Due a) t u steps = (more : List (Step E V A)) × (steps ≡ Acts (Heard a) ∷ more) × NearBy t u more

  pub record ThreadLeads (w : State X T) (q : ℕ → Place A) (count : ℕ) (log : List (Entry E V A)) (u : State X T) (S : List Mark) (m : ℕ) : Type 0 where
    pub steps : List (Step E V A)
    pub near : NearAt (q m) (w.threads m) (u.threads m) steps
    pub full : IsFullOnlyAtLimit s rules log m count (steps ++ steps_made s m u S)

  -- from a state of the run that is near to that of the walk, a schedule makes the rest of the log
  pub record LeadsBy (w : State X T) (q : ℕ → Place A) (count : ℕ) (log : List (Entry E V A)) (z u : State X T) (S : List Mark) : Type 0 where
    pub shared : u.shared ≡ w.shared
    pub each : (m : ℕ) → ThreadLeads w q count log u S m
    pub legal : IsLegalHistory s w.shared q log
    pub ordered : IsOrdered s w.shared q log
    pub events : entries_made s u S ≡ without_answers log
    pub within : IsWithinLimit s rules log count
    pub marks : MayMarkAll false rules.limit S
    pub run : scheduled_run s u S ≡ z

  pub record Leads (w : State X T) (q : ℕ → Place A) (count : ℕ) (log : List (Entry E V A)) (z : State X T) : Type 0 where
    pub state : State X T
    pub schedule : List Mark
    pub leads : LeadsBy w q count log z state schedule

  -- the beginning

  first_near : (p : Place A) (t : T) → IsClosed p → (p ≡ Unstarted → s.wants t ≡ Gone) → NearAt p t t []
  first_near Unstarted t closed idle = (refl, idle refl, refl)
  first_near Free t closed idle = (refl, inl (0, refl))
  first_near Open t closed idle = absurd closed
  first_near (Due a) t closed idle = absurd closed

  pub leads_first : (first : State X T) (places : ℕ → Place A) (log : List (Entry E V A)) (S : List Mark) → ((m : ℕ) → IsClosed (places m))
      → ((m : ℕ) → places m ≡ Unstarted → s.wants (first.threads m) ≡ Gone)
      → MakesLog s rules first places log S → Leads first places 0 log (scheduled_run s first S)
  leads_first first places log S closed idle makes = record {
    state = first;
    schedule = S;
    leads = record {
      shared = refl;
      each = λ m. record { steps = []; near = first_near (places m) (first.threads m) (closed m) (idle m); full = makes.full m };
      legal = makes.legal;
      ordered = makes.ordered;
      events = makes.events;
      within = makes.within;
      marks = makes.marks;
      run = refl;
    };
  }

  -- marks without an entry

  comes_on : (k : ℕ) (t u : T) → ComesTo s k t u → s.wants u ≡ Turns → ComesTo s (suc k) t (s.own_turn u)
  comes_on zero t u comes h = (ap s.wants comes ∙ h, ap s.own_turn comes)
  comes_on (suc k) t u comes h = (comes.0, comes_on k (s.own_turn t) u comes.1 h)

  module _ (laws : Laws s) where
    ended_leaves : (t u : T) → IsEnded t u → s.wants u ≡ Calls laws.leave
    ended_leaves t u e = ap s.wants e.full ∙ (laws.full_leaves e.settled e.may).0

    own_by : (t u : T) (steps : List (Step E V A)) → NearBy t u steps → s.wants u ≡ Turns → NearBy t (s.own_turn u) (steps ++ Own ∷ [])
    own_by t u steps near h =
        elim near.1 [
          | inl b ↦ (no_acts steps (Own ∷ []) near.0, inl (suc b.0, comes_on b.0 t u b.1 h))
          | inr e ↦ let l = ended_leaves t u e.0 in absurd (cc (l, h))
        ]

    own_at : (p : Place A) (t u : T) (steps : List (Step E V A)) → NearAt p t u steps → s.wants u ≡ Turns → NearAt p t (s.own_turn u) (steps ++ Own ∷ [])
    own_at Unstarted t u steps near h = absurd (cc (near.1, ap s.wants near.0, h))
    own_at Free t u steps near h = own_by t u steps near h
    own_at Open t u steps near h = absurd (cc (near.1, ap s.wants near.0, h))
    own_at (Due a) t u steps near h = (near.0 ++ Own ∷ [], ap (λ z. z ++ Own ∷ []) near.1, own_by t u near.0 near.2 h)

    full_by : (t u : T) (steps : List (Step E V A)) (e : E) → NearBy t u steps → s.may_fill u ≡ true → NearBy t (s.full u) (steps ++ Full e ∷ [])
    full_by t u steps e near h =
        elim near.1 [
          | inl b ↦ (
            no_acts steps (Full e ∷ []) near.0,
            inr (record { settled = u; turns = b.0; comes = b.1; may = h; full = refl }, full_then steps [] e near.0),
          )
          | inr x ↦ absurd (laws.leave_fills u h (ended_leaves t u x.0))
        ]

    full_at : (p : Place A) (t u : T) (steps : List (Step E V A)) (e : E) → NearAt p t u steps → s.may_fill u ≡ true
        → NearAt p t (s.full u) (steps ++ Full e ∷ [])
    full_at Unstarted t u steps e near h = let c = laws.fill_calls u h in absurd (cc (near.1, ap s.wants near.0, c.1))
    full_at Free t u steps e near h = full_by t u steps e near h
    full_at Open t u steps e near h = let c = laws.fill_calls u h in absurd (cc (near.1, ap s.wants near.0, c.1))
    full_at (Due a) t u steps e near h = (near.0 ++ Full e ∷ [], ap (λ z. z ++ Full e ∷ []) near.1, full_by t u near.0 e near.2 h)

    -- a mark that makes no entry, and leaves each thread near
    quiet : (w : State X T) (q : ℕ → Place A) (count : ℕ) (log : List (Entry E V A)) (z u : State X T) (k : ℕ) (kind : Kind) (S : List Mark)
        → entries_at s u k kind ≡ [] → (after_mark s u k kind).shared ≡ u.shared
        → ((m : ℕ) (steps : List (Step E V A)) → NearAt (q m) (w.threads m) (u.threads m) steps
        → NearAt (q m) (w.threads m) ((after_mark s u k kind).threads m) (steps ++ steps_at s m u k kind))
        → LeadsBy w q count log z u (mark_of k kind ∷ S) → LeadsBy w q count log z (after_mark s u k kind) S
    quiet w q count log z u k kind S none same keeps l = record {
      shared = same ∙ l.shared;
      each = λ m. let x = l.each m in record {
        steps = x.steps ++ steps_at s m u k kind;
        near = keeps m x.steps x.near;
        full = subst (λ y. IsFullOnlyAtLimit s rules log m count y)
            (sym (append_assoc x.steps (steps_at s m u k kind) (steps_made s m (after_mark s u k kind) S))) x.full;
      };
      legal = l.legal;
      ordered = l.ordered;
      events = sym (ap (λ y. y ++ entries_made s (after_mark s u k kind) S) none) ∙ l.events;
      within = l.within;
      marks = l.marks.1;
      run = l.run;
    }

    -- the one thread that a mark is of, and the others
    keeps_at : (w : State X T) (q : ℕ → Place A) (u : State X T) (k : ℕ) (t : T) (x : Step E V A)
        → ((steps : List (Step E V A)) → NearAt (q k) (w.threads k) (u.threads k) steps → NearAt (q k) (w.threads k) t (steps ++ x ∷ []))
        → (m : ℕ) (steps : List (Step E V A)) → NearAt (q m) (w.threads m) (u.threads m) steps
        → NearAt (q m) (w.threads m) ((with_thread s u k t).threads m) (steps ++ cond (k == m) (x ∷ []) [])
    keeps_at w q u k t x here m =
        at_each k (λ m. (steps : List (Step E V A)) → NearAt (q m) (w.threads m) (u.threads m) steps
        → NearAt (q m) (w.threads m) (put u.threads k t m) (steps ++ cond (k == m) (x ∷ []) []))
        (λ steps near. subst (λ y. NearAt (q k) (w.threads k) y (steps ++ cond (k == k) (x ∷ []) [])) (sym (put-same u.threads k t))
        (subst (λ b. NearAt (q k) (w.threads k) t (steps ++ cond b (x ∷ []) [])) (sym (same_is k)) (here steps near)))
        (λ m h steps near. subst (λ y. NearAt (q m) (w.threads m) y (steps ++ cond (k == m) (x ∷ []) [])) (sym (put-other u.threads k t m h))
        (subst (λ b. NearAt (q m) (w.threads m) (u.threads m) (steps ++ cond b (x ∷ []) [])) (sym (other_is k m (λ z. h (sym z))))
        (subst (λ y. NearAt (q m) (w.threads m) (u.threads m) y) (sym (append-nil steps)) near))) m

    abbrev Advances : State X T → (ℕ → Place A) → ℕ → List (Entry E V A) → State X T → State X T → ℕ → Kind → List Mark → Type 0
    Advances w q count log z u k kind S = LeadsBy w q count log z (after_mark s u k kind) S ⊎ ((e : E) × (s.wants (u.threads k) ≡ Calls e) × (kind ≡ Turn))

    keeps_still : (w : State X T) (q : ℕ → Place A) (u : State X T) (m : ℕ) (steps : List (Step E V A)) → NearAt (q m) (w.threads m) (u.threads m) steps
        → NearAt (q m) (w.threads m) (u.threads m) (steps ++ [])
    keeps_still w q u m steps near = subst (λ y. NearAt (q m) (w.threads m) (u.threads m) y) (sym (append-nil steps)) near

    turn : (w : State X T) (q : ℕ → Place A) (count : ℕ) (log : List (Entry E V A)) (z u : State X T) (k : ℕ)
        (S : List Mark) (want : Want E) → s.wants (u.threads k) ≡ want
        → LeadsBy w q count log z u (mark_of k Turn ∷ S) → Advances w q count log z u k Turn S
    turn w q count log z u k S (Calls e) h l = inr (e, h, refl)
    turn w q count log z u k S Turns h l =
        inl (quiet w q count log z u k Turn S (ap (entries_by s u k) h) (ap (λ y. (after_turn s u k y).shared) h)
        (λ m steps near. subst (λ y. NearAt (q m) (w.threads m) ((after_turn s u k y).threads m) (steps ++ steps_by s m u k y)) (sym h)
        (keeps_at w q u k (s.own_turn (u.threads k)) Own (λ steps near. own_at (q k) (w.threads k) (u.threads k) steps near h) m steps near)) l)
    turn w q count log z u k S Awaits h l =
        inl (quiet w q count log z u k Turn S (ap (entries_by s u k) h) (ap (λ y. (after_turn s u k y).shared) h)
        (λ m steps near. subst (λ y. NearAt (q m) (w.threads m) ((after_turn s u k y).threads m)
        (steps ++ steps_by s m u k y)) (sym h) (keeps_still w q u m steps near)) l)
    turn w q count log z u k S Gone h l =
        inl (quiet w q count log z u k Turn S (ap (entries_by s u k) h) (ap (λ y. (after_turn s u k y).shared) h)
        (λ m steps near. subst (λ y. NearAt (q m) (w.threads m) ((after_turn s u k y).threads m)
        (steps ++ steps_by s m u k y)) (sym h) (keeps_still w q u m steps near)) l)

    fill : (w : State X T) (q : ℕ → Place A) (count : ℕ) (log : List (Entry E V A)) (z u : State X T) (k : ℕ)
        (S : List Mark) (b : Bool) → s.may_fill (u.threads k) ≡ b
        → LeadsBy w q count log z u (mark_of k Fills ∷ S) → Advances w q count log z u k Fills S
    fill w q count log z u k S false h l =
        inl (quiet w q count log z u k Fills S refl (ap (λ y. (if_may s y (with_thread s u k (s.full (u.threads k))) u).shared) h)
        (λ m steps near. subst (λ y. NearAt (q m) (w.threads m) ((if_may s y (with_thread s u k (s.full (u.threads k))) u).threads m)
        (steps ++ cond y (cond (k == m) (full_step s (s.wants (u.threads k))) []) [])) (sym h) (keeps_still w q u m steps near)) l)
    fill w q count log z u k S true h l =
        let c = laws.fill_calls (u.threads k) h in
        inl (quiet w q count log z u k Fills S refl (ap (λ y. (if_may s y (with_thread s u k (s.full (u.threads k))) u).shared) h)
        (λ m steps near. subst (λ y. NearAt (q m) (w.threads m) ((if_may s y (with_thread s u k (s.full (u.threads k))) u).threads m)
        (steps ++ cond y (cond (k == m) (full_step s (s.wants (u.threads k))) []) [])) (sym h)
        (subst (λ want. NearAt (q m) (w.threads m) (put u.threads k (s.full (u.threads k)) m) (steps ++ cond (k == m) (full_step s want) [])) (sym c.1)
        (keeps_at w q u k (s.full (u.threads k)) (Full c.0) (λ steps near. full_at (q k) (w.threads k) (u.threads k) steps c.0 near h) m steps near))) l)

    advance : (w : State X T) (q : ℕ → Place A) (count : ℕ) (log : List (Entry E V A)) (z u : State X T) (k : ℕ) (kind : Kind) (S : List Mark)
        → LeadsBy w q count log z u (mark_of k kind ∷ S) → Advances w q count log z u k kind S
    advance w q count log z u k Turn S l = turn w q count log z u k S (s.wants (u.threads k)) refl l
    advance w q count log z u k Loses S l = absurd (cc l.marks.0)
    advance w q count log z u k Fills S l = fill w q count log z u k S (s.may_fill (u.threads k)) refl l

  -- an answer heard

  full_of : (n m count : ℕ) (act : Act E V A) (log : List (Entry E V A)) (steps : List (Step E V A)) (b : Bool) → (n == m) ≡ b
      → IsFullOnlyAtLimit s rules (record { thread = n; act = act } ∷ log) m count steps
      → if_true b ((found_full steps ≡ true → HasReached rules.limit count)
      × IsFullOnlyAtLimit s rules log m (suc count) (after_first_act steps))
      (IsFullOnlyAtLimit s rules log m (suc count) steps)
  full_of n m count act log steps b e h =
      subst
      (λ b. if_true b ((found_full steps ≡ true → HasReached rules.limit count) × IsFullOnlyAtLimit s rules log m (suc count) (after_first_act steps))
      (IsFullOnlyAtLimit s rules log m (suc count) steps))
      e h

  abbrev told : ℕ → A → Entry E V A
  told n a = record { thread = n; act = Heard a }

  abbrev made : ℕ → E → V → Entry E V A
  made n e v = record { thread = n; act = Made e v }

  pub leads_told : (w : State X T) (q : ℕ → Place A) (count n : ℕ) (a : A) (log : List (Entry E V A)) (z : State X T) → Leads w q count (told n a ∷ log) z
      → (q n ≡ Due a) × Leads w (put q n Free) (suc count) log z
  leads_told w q count n a log z l = (
    by.legal.0,
    record {
      state = u;
      schedule = S;
      leads = record {
        shared = by.shared;
        each = at_each n (λ m. ThreadLeads w (put q n Free) (suc count) log u S m) here others;
        legal = by.legal.1;
        ordered = by.ordered.1;
        events = by.events;
        within = by.within.1;
        marks = by.marks;
        run = by.run;
      };
    },
  )
    where
      u : State X T
      u = l.state

      S : List Mark
      S = l.schedule

      by : LeadsBy w q count (told n a ∷ log) z l.state l.schedule
      by = l.leads

      here : ThreadLeads w (put q n Free) (suc count) log l.state l.schedule n
      here =
          let x = by.each n in
          let near : NearAt (Due a) (w.threads n) ((l.state).threads n) x.steps =
          subst (λ p. NearAt p (w.threads n) ((l.state).threads n) x.steps) by.legal.0 x.near in
          let full = (full_of n n count (Heard a) log (x.steps ++ steps_made s n l.state l.schedule) true (same_is n) x.full).1 in
          record {
            steps = near.0;
            near = subst (λ p. NearAt p (w.threads n) ((l.state).threads n) near.0) (sym (put-same q n Free)) near.2;
            full = subst (λ y. IsFullOnlyAtLimit s rules log n (suc count) (after_first_act (y ++ steps_made s n l.state l.schedule))) near.1 full;
          }

      others : (m : ℕ) → m ≢ n → ThreadLeads w (put q n Free) (suc count) log l.state l.schedule m
      others m h =
          let x = by.each m in
          record {
            steps = x.steps;
            near = subst (λ p. NearAt p (w.threads m) ((l.state).threads m) x.steps) (sym (put-other q n Free m h)) x.near;
            full = full_of n m count (Heard a) log (x.steps ++ steps_made s m l.state l.schedule) false (other_is n m (λ z. h (sym z))) x.full;
          }

  -- an event

  module _ (laws : Laws s) where
    -- of the thread that makes it, and of another
    near_here : (t : T) (st : Option T) (gv : Option A) (o : Bool) → ((x : T) → st ≡ Some x → ⊥)
        → (o ≡ true → s.wants t ≡ Awaits) → ((a : A) → gv ≡ Some a → o ≡ true)
        → NearAt (placed st gv o Free) (or_started st (hears_any s t gv)) (or_started st (hears_any s t gv)) (heard_step s gv)
    near_here t (Some x) gv o hs ho hg = absurd (hs x refl)
    near_here t None (Some a) o hs ho hg = ([], refl, (refl, inl (0, refl)))
    near_here t None None true hs ho hg = (refl, ho refl, refl)
    near_here t None None false hs ho hg = (refl, inl (0, refl))

    near_other : (p : Place A) (t u : T) (steps : List (Step E V A)) (st : Option T) (gv : Option A)
        → ((x : T) → st ≡ Some x → p ≡ Unstarted) → ((a : A) → gv ≡ Some a → p ≡ Open)
        → NearAt p t u steps → NearAt (placed st gv false p) (or_started st (hears_any s t gv)) (or_started st (hears_any s u gv)) (steps ++ heard_step s gv)
    near_other p t u steps (Some x) (Some a) hs hg near = absurd (cc (sym (hs x refl) ∙ hg a refl))
    near_other p t u steps (Some x) None hs hg near =
        let n : NearAt Unstarted t u steps = subst (λ y. NearAt y t u steps) (hs x refl) near in
        (ap (λ y. acts (y ++ [])) n.2, inl (0, refl))
    near_other p t u steps None (Some a) hs hg near =
        let n : NearAt Open t u steps = subst (λ y. NearAt y t u steps) (hg a refl) near in
        ([], ap (λ y. y ++ Acts (Heard a) ∷ []) n.2, (refl, inl (0, ap (λ y. s.hears y a) n.0)))
    near_other p t u steps None None hs hg near = subst (λ y. NearAt p t u y) (sym (append-nil steps)) near

    -- what the walk goes on with
    pub record Taken (w : State X T) (q : ℕ → Place A) (count n : ℕ) (e : E) (v : V) (log : List (Entry E V A)) (z : State X T) : Type 0 where
      pub thread : T
      pub can : CanMake s rules w q count n e v thread
      pub leads : Leads (after_made s w n e thread) (next_places s w.shared q n (Made e v)) (suc count) log z

    module _ (w : State X T) (q : ℕ → Place A) (count n : ℕ) (e : E) (v : V) (log : List (Entry E V A)) (z u : State X T) (S : List Mark)
        (l : LeadsBy w q count (made n e v ∷ log) z u (mark_of n Turn ∷ S)) (wants : s.wants (u.threads n) ≡ Calls e) where
      t : T
      t = u.threads n

      free : q n ≡ Free
      free = l.ordered.0

      mine : ThreadLeads w q count (made n e v ∷ log) u (mark_of n Turn ∷ S) n
      mine = l.each n

      near : NearBy (w.threads n) (u.threads n) (l.each n).steps
      near = subst (λ p. NearAt p (w.threads n) (u.threads n) (l.each n).steps) free (l.each n).near

      full_n : (found_full ((l.each n).steps ++ steps_made s n u (mark_of n Turn ∷ S)) ≡ true → HasReached rules.limit count)
          × IsFullOnlyAtLimit s rules log n (suc count) (after_first_act ((l.each n).steps ++ steps_made s n u (mark_of n Turn ∷ S)))
      full_n = full_of n n count (Made e v) log ((l.each n).steps ++ steps_made s n u (mark_of n Turn ∷ S)) true (same_is n) (l.each n).full

      ready : Settles s (w.threads n) (u.threads n) ⊎ FindsFull s rules count (w.threads n) (u.threads n)
      ready =
          elim near.1 [
            | inl b ↦ inl (record { turns = b.0; comes = b.1; rests = λ h. cc (h, wants) })
            | inr x ↦ (
                let y = x.0 in
                let c = laws.fill_calls y.settled y.may in
                inr (record {
                  settled = y.settled;
                  settles = record { turns = y.turns; comes = y.comes; rests = λ h. cc (h, c.1) };
                  may = y.may;
                  reached = full_n.0 (still_full (l.each n).steps (steps_made s n u (mark_of n Turn ∷ S)) near.0 x.1);
                  filled = y.full;
                }))
          ]

      can : CanMake s rules w q count n e v (u.threads n)
      can = record { ready = ready; wants = wants; free = free; legal = l.legal.0; room = l.within.0 }

      u2 : State X T
      u2 = after_event s u n e

      w2 : State X T
      w2 = after_made s w n e (u.threads n)

      v_is : v ≡ s.reply w.shared n e
      v_is = l.legal.0.1

      st : ℕ → Option T
      st m = s.starts w.shared n e m

      gv : ℕ → Option A
      gv m = s.gives w.shared n e m

      w2_at : (m : ℕ) (y : T) → put (put w.threads n (u.threads n)) n (s.takes (put w.threads n (u.threads n) n) (s.reply w.shared n e)) m ≡ y
          → or_started (s.starts w.shared n e m) (hears_any s y (s.gives w.shared n e m)) ≡ (after_made s w n e (u.threads n)).threads m
      w2_at m y h = sym (ap (λ x. or_started (s.starts w.shared n e m) (hears_any s x (s.gives w.shared n e m))) h)

      u2_at : (m : ℕ) (y : T) → put u.threads n (s.takes (u.threads n) (s.reply u.shared n e)) m ≡ y
          → or_started (s.starts w.shared n e m) (hears_any s y (s.gives w.shared n e m)) ≡ (after_event s u n e).threads m
      u2_at m y h = sym (λ i. or_started (s.starts (l.shared i) n e m) (hears_any s (h i) (s.gives (l.shared i) n e m)))

      near_by : (p p' : Place A) (t t' y y' : T) (steps : List (Step E V A)) → p ≡ p' → t ≡ t' → y ≡ y' → NearAt p t y steps → NearAt p' t' y' steps
      near_by p p' t t' y y' steps ep et ey h =
          subst (λ x. NearAt p' t' x steps) ey
          (subst (λ x. NearAt p' x y steps) et (subst (λ x. NearAt x t y steps) ep h))

      steps_here : steps_made s n u (mark_of n Turn ∷ S) ≡ Acts (Made e (s.reply u.shared n e)) ∷
          (heard_step s (s.gives w.shared n e n) ++ steps_made s n (after_event s u n e) S)
      steps_here =
          (λ i. steps_by s n u n (wants i) ++ steps_made s n (after_turn s u n (wants i)) S)
          ∙ (λ i. (cond (same_is n i) (Acts (Made e (s.reply u.shared n e)) ∷ []) [] ++ heard_step s
          (s.gives (l.shared i) n e n)) ++ steps_made s n (after_event s u n e) S)

      steps_others : (m : ℕ) → m ≢ n → steps_made s m u (mark_of n Turn ∷ S) ≡ heard_step s (s.gives w.shared n e m) ++ steps_made s m (after_event s u n e) S
      steps_others m h =
          (λ i. steps_by s m u n (wants i) ++ steps_made s m (after_turn s u n (wants i)) S)
          ∙ (λ i. (cond (other_is n m (λ z. h (sym z)) i)
          (Acts (Made e (s.reply u.shared n e)) ∷ []) [] ++ heard_step s (s.gives (l.shared i) n e m)) ++ steps_made
          s m (after_event s u n e) S)

      here : ThreadLeads (after_made s w n e (u.threads n)) (next_places s w.shared q n (Made e v)) (suc count) log (after_event s u n e) S n
      here =
          let o : Bool = s.opens e v in
          let taken : T = s.takes (u.threads n) v in
          let t_walk = ap (λ x. s.takes x (s.reply w.shared n e)) (put-same w.threads n (u.threads n)) ∙ ap (λ x. s.takes (u.threads n) x) (sym l.legal.0.1) in
          let t_run = ap (λ x. s.takes (u.threads n) x) (ap (λ x. s.reply x n e) l.shared ∙ sym l.legal.0.1) in
          record {
            steps = heard_step s (s.gives w.shared n e n);
            near =
                near_by (placed (s.starts w.shared n e n) (s.gives w.shared n e n) (s.opens e v) Free) _ _ _ _ _ (heard_step s (s.gives w.shared n e n))
                (λ i. placed (s.starts w.shared n e n) (s.gives w.shared n e n) (sym (put-same (λ (j : ℕ). false) n (s.opens e v)) i) (sym free i))
                (w2_at n (s.takes (u.threads n) v)
                (put-same (put w.threads n (u.threads n)) n (s.takes (put w.threads n (u.threads n) n)
                (s.reply w.shared n e)) ∙ t_walk))
                (u2_at n (s.takes (u.threads n) v) (put-same u.threads n (s.takes (u.threads n) (s.reply u.shared n e)) ∙ t_run))
                (near_here (s.takes (u.threads n) v) (s.starts w.shared n e n) (s.gives w.shared n e n) (s.opens e v) (λ x y. cc (free, l.legal.0.2 n x y))
                (λ y. laws.opened (u.threads n) e v wants y) (λ a y. (l.legal.0.3 n a y).1 refl));
            full =
                subst (λ y. IsFullOnlyAtLimit s rules log n (suc count) y)
                (ap (λ y. after_first_act ((l.each n).steps ++ y)) steps_here
                ∙ first_act (l.each n).steps (heard_step s (s.gives w.shared n e n) ++ steps_made s n
                (after_event s u n e) S) (Made e (s.reply u.shared n e)) near.0)
                full_n.1;
          }

      others : (m : ℕ) → m ≢ n → ThreadLeads (after_made s w n e (u.threads n)) (next_places s w.shared q n (Made e v))
          (suc count) log (after_event s u n e) S m
      others m h =
          let x = l.each m in
          record {
            steps = x.steps ++ heard_step s (s.gives w.shared n e m);
            near =
                near_by (placed (s.starts w.shared n e m) (s.gives w.shared n e m) false (q m)) _ _ _ _ _ (x.steps ++ heard_step s (s.gives w.shared n e m))
                (λ i. placed (s.starts w.shared n e m) (s.gives w.shared n e m) (sym (put-other (λ (j : ℕ). false) n (s.opens e v) m h) i) (q m))
                (w2_at m (w.threads m) (put_put w.threads n (u.threads n)
                (s.takes (put w.threads n (u.threads n) n) (s.reply w.shared n e)) m ∙ put-other w.threads n _ m h))
                (u2_at m (u.threads m) (put-other u.threads n _ m h))
                (near_other (q m) (w.threads m) (u.threads m) x.steps (s.starts w.shared n e m) (s.gives w.shared n e m)
                (λ y k. l.legal.0.2 m y k) (λ a k. (l.legal.0.3 m a k).0 h) x.near);
            full =
                subst (λ y. IsFullOnlyAtLimit s rules log m (suc count) y)
                (ap (λ y. x.steps ++ y) (steps_others m h)
                ∙ sym (append_assoc x.steps (heard_step s (s.gives w.shared n e m))
                (steps_made s m (after_event s u n e) S)))
                (full_of n m count (Made e v) log (x.steps ++ steps_made s m u (mark_of n Turn ∷ S)) false (other_is n m (λ z. h (sym z))) x.full);
          }

      later : made n e (s.reply u.shared n e) ∷ entries_made s (after_event s u n e) S ≡ made n e v ∷ without_answers log
      later = sym (λ i. entries_by s u n (wants i) ++ entries_made s (after_turn s u n (wants i)) S) ∙ l.events

      pub taken : Taken w q count n e v log z
      taken = record {
        thread = u.threads n;
        can = can;
        leads = record {
          state = after_event s u n e;
          schedule = S;
          leads = record {
            shared = ap (λ x. s.after x n e) l.shared;
            each = at_each n (λ m. ThreadLeads (after_made s w n e (u.threads n))
                (next_places s w.shared q n (Made e v)) (suc count) log (after_event s u n e) S m) here others;
            legal = l.legal.1;
            ordered = l.ordered.1;
            events = cc later;
            within = l.within.1;
            marks = l.marks.1;
            run = sym (ap (λ y. scheduled_run s (after_turn s u n y) S) wants) ∙ l.run;
          };
        };
      }

    same_event : (x e : E) (a b : V) (f g : Act E V A) → f ≡ Made x a → g ≡ Made e b → f ≡ g → x ≡ e
    same_event x e a b f g h k same = cc

    -- the mark that makes it
    event_at : (w : State X T) (q : ℕ → Place A) (count n : ℕ) (e : E) (v : V) (log : List (Entry E V A)) (z u : State X T) (k : ℕ) (S : List Mark) (x : E)
        → LeadsBy w q count (made n e v ∷ log) z u (mark_of k Turn ∷ S) → s.wants (u.threads k) ≡ Calls x → Taken w q count n e v log z
    event_at w q count n e v log z u k S x l wants =
        let both : made k x (s.reply u.shared k x) ∷ entries_made s (after_event s u k x) S ≡ made n e v ∷ without_answers log =
        sym (λ i. entries_by s u k (wants i) ++ entries_made s (after_turn s u k (wants i)) S) ∙ l.events in
        let head : made k x (s.reply u.shared k x) ≡ made n e v = cc both in
        let number : k ≡ n = ap (λ (h : Entry E V A). h.thread) head in
        let event_is : x ≡ e = same_event x e (s.reply u.shared k x) v _ _ refl refl (ap (λ (h : Entry E V A). h.act) head) in
        let wants_n : s.wants (u.threads n) ≡ Calls e = sym (ap (λ j. s.wants (u.threads j)) number) ∙ (wants ∙ ap (λ y. Calls y) event_is) in
        taken w q count n e v log z u S (subst (λ j. LeadsBy w q count (made n e v ∷ log) z u (mark_of j Turn ∷ S)) number l) wants_n

    event : (S : List Mark) (w : State X T) (q : ℕ → Place A) (count n : ℕ) (e : E) (v : V) (log : List (Entry E V A)) (z u : State X T)
        → LeadsBy w q count (made n e v ∷ log) z u S → Taken w q count n e v log z
    event [] w q count n e v log z u l = absurd (cc l.events)
    event (x ∷ S) w q count n e v log z u l =
        elim (advance laws w q count (made n e v ∷ log) z u x.thread x.kind S l) [
          | inl more ↦ event S w q count n e v log z (after_mark s u x.thread x.kind) more
          | inr c ↦ event_at w q count n e v log z u x.thread S c.0
              (subst (λ kind. LeadsBy w q count (made n e v ∷ log) z u (mark_of x.thread kind ∷ S)) c.2 l) c.1
        ]

    pub leads_event : (w : State X T) (q : ℕ → Place A) (count n : ℕ) (e : E) (v : V) (log : List (Entry E V A)) (z : State X T)
        → Leads w q count (made n e v ∷ log) z → Taken w q count n e v log z
    leads_event w q count n e v log z l = event l.schedule w q count n e v log z l.state l.leads

    -- the end: a thread that is gone in the run is gone in the walk, as the same
    gone_by : (k : ℕ) (t u : T) → ComesTo s k t u → s.wants u ≡ Gone → t ≡ u
    gone_by zero t u comes gone = comes
    gone_by (suc k) t u comes gone =
        let next : s.own_turn t ≡ u = gone_by k (s.own_turn t) u comes.1 gone in
        absurd (laws.own_stays t comes.0 (ap s.wants next ∙ gone))

    gone_near : (t u : T) (steps : List (Step E V A)) → NearBy t u steps → s.wants u ≡ Gone → t ≡ u
    gone_near t u steps near gone = elim near.1 [ inl b ↦ gone_by b.0 t u b.1 gone | inr x ↦ (let l = ended_leaves laws t u x.0 in absurd (cc (l, gone))) ]

    gone_at : (p : Place A) (t u : T) (steps : List (Step E V A)) → NearAt p t u steps → s.wants u ≡ Gone → t ≡ u
    gone_at Unstarted t u steps near gone = near.0
    gone_at Free t u steps near gone = gone_near t u steps near gone
    gone_at Open t u steps near gone = near.0
    gone_at (Due a) t u steps near gone = gone_near t u near.0 near.2 gone

    pub record IsReached (w z : State X T) : Type 0 where
      pub shared : z.shared ≡ w.shared
      pub gone : (m : ℕ) → s.wants (z.threads m) ≡ Gone → w.threads m ≡ z.threads m

    ends : (S : List Mark) (w : State X T) (q : ℕ → Place A) (count : ℕ) (z u : State X T) → LeadsBy w q count [] z u S → IsReached w z
    ends [] w q count z u l =
        subst (λ y. IsReached w y) l.run (record {
          shared = l.shared;
          gone = λ m gone. gone_at (q m) (w.threads m) (u.threads m) (l.each m).steps (l.each m).near gone;
        })
    ends (x ∷ S) w q count z u l =
        elim (advance laws w q count [] z u x.thread x.kind S l) [
          | inl more ↦ ends S w q count z (after_mark s u x.thread x.kind) more
          | inr c ↦ (
              let l2 = subst (λ kind. LeadsBy w q count [] z u (mark_of x.thread kind ∷ S)) c.2 l in
              let bad : made x.thread c.0 (s.reply u.shared x.thread c.0) ∷ entries_made s (after_event s u x.thread c.0) S ≡ [] =
              sym (λ i. entries_by s u x.thread (c.1 i) ++ entries_made s (after_turn s u x.thread (c.1 i)) S) ∙ l2.events in
              absurd (cc bad))
        ]

    pub leads_end : (w : State X T) (q : ℕ → Place A) (count : ℕ) (z : State X T) → Leads w q count [] z → IsReached w z
    leads_end w q count z l = ends l.schedule w q count z l.state l.leads
