-- The steps of one thread up to its next act, as marks.
use Rattle.std.proofs.Common.{◌≡◌, ◌≢◌, ℕ, ◌==◌, true, cond, List, [], ◌∷◌, ◌++◌, refl, sym, ◌∙◌, ap, subst}
use Rattle.schedule.proofs.Standing.{Facts, before_first_act}
use Rattle.schedule.specs.Scheduled.{after_mark, after_turn, entries_at, entries_by, entries_made, full_step, if_may}
use Rattle.schedule.specs.Scheduled.{lost_step, scheduled_run, steps_at, steps_by, steps_made, with_thread}
use Rattle.schedule.specs.Schedules.{marks_before_act}
use Rattle.schedule.specs.System.{Act, Act.Heard, Kind, Kind.Fills, Kind.Loses, Kind.Turn, Mark, State, Step}
use Rattle.schedule.specs.System.{Step.Acts, Step.Full, Step.Lost, Step.Own, System, Want.Awaits, Want.Calls}
use Rattle.schedule.specs.System.{Want.Gone, Want.Turns}
use Rattle.schedule.specs.ThreadRun.{Fits, IsThreadRun, acts, after_first_act, after_step}
use Rattle.schedule.proofs.Basics.{same_is, other_is, put-same, put-other}

module _ {X T E V A : Type 0} (s : System X T E V A) where
  -- the thread before its first act
  abbrev pub through : T → List (Step E V A) → T
  through t [] = t
  through t (Own ∷ r) = through (s.own_turn t) r
  through t (Lost x ∷ r) = through (s.lost t) r
  through t (Full x ∷ r) = through (s.full t) r
  through t (Acts a ∷ r) = t

  -- what marks of one thread up to its first act do
  pub record Front (w : State X T) (n : ℕ) (t : T) (b : List (Step E V A)) (S : List Mark) : Type 0 where
    pub shared_is : (scheduled_run s w S).shared ≡ w.shared
    pub here : (scheduled_run s w S).threads n ≡ t
    pub others : (m : ℕ) → m ≢ n → (scheduled_run s w S).threads m ≡ w.threads m
    pub no_events : entries_made s w S ≡ []
    pub views : steps_made s n w S ≡ b
    pub no_views : (m : ℕ) → m ≢ n → steps_made s m w S ≡ []

  pub record OneMark (w : State X T) (n : ℕ) (t : T) (x : Step E V A) (k : Kind) : Type 0 where
    pub is : after_mark s w n k ≡ with_thread s w n t
    pub no_event : entries_at s w n k ≡ []
    pub views : (m : ℕ) → steps_at s m w n k ≡ cond (n == m) (x ∷ []) []

  front_step : (w : State X T) (n : ℕ) (t t' : T) (x : Step E V A) (b : List (Step E V A)) (k : Kind) (S : List Mark)
      → OneMark w n t' x k → Front (with_thread s w n t') n t b S
      → Front w n t (x ∷ b) (record { thread = n; kind = k } ∷ S)
  front_step w n t t' x b k S one f = record {
    shared_is = ap (λ v. (scheduled_run s v S).shared) one.is ∙ f.shared_is;
    here = ap (λ v. (scheduled_run s v S).threads n) one.is ∙ f.here;
    others = λ m h. ap (λ v. (scheduled_run s v S).threads m) one.is ∙ (f.others m h ∙ put-other w.threads n t' m h);
    no_events = ap (λ z. z ++ entries_made s (after_mark s w n k) S) one.no_event ∙ (ap (λ v. entries_made s v S) one.is ∙ f.no_events);
    views =
        ap (λ z. z ++ steps_made s n (after_mark s w n k) S) (one.views n ∙ ap (λ z. cond z (x ∷ []) []) (same_is n))
        ∙ (ap (λ v. x ∷ steps_made s n v S) one.is ∙ ap (λ z. x ∷ z) f.views);
    no_views = λ m h.
        ap (λ z. z ++ steps_made s m (after_mark s w n k) S) (one.views m ∙ ap (λ z. cond z (x ∷ []) []) (other_is n m (λ z. h (sym z))))
        ∙ (ap (λ v. steps_made s m v S) one.is ∙ f.no_views m h);
  }

  own_mark : (w : State X T) (n : ℕ) (t : T) → w.threads n ≡ t → s.wants t ≡ Turns → OneMark w n (s.own_turn t) Own Turn
  own_mark w n t at h =
      let e : s.wants (w.threads n) ≡ Turns = ap s.wants at ∙ h in
      record {
        is = ap (after_turn s w n) e ∙ ap (λ v. with_thread s w n (s.own_turn v)) at;
        no_event = ap (entries_by s w n) e;
        views = λ m. ap (steps_by s m w n) e;
      }

  lost_mark : (w : State X T) (n : ℕ) (t : T) (e : E) → w.threads n ≡ t → Fits s t (Lost e) → OneMark w n (s.lost t) (Lost e) Loses
  lost_mark w n t e at h =
      let b : s.may_lose (w.threads n) ≡ true = ap s.may_lose at ∙ h.1 in
      let want : s.wants (w.threads n) ≡ Calls e = ap s.wants at ∙ h.0 in
      record {
        is = ap (λ z. if_may s z (with_thread s w n (s.lost (w.threads n))) w) b ∙ ap (λ v. with_thread s w n (s.lost v)) at;
        no_event = refl;
        views = λ m. (λ i. cond (b i) (cond (n == m) (lost_step s (want i)) []) []);
      }

  full_mark : (w : State X T) (n : ℕ) (t : T) (e : E) → w.threads n ≡ t → Fits s t (Full e) → OneMark w n (s.full t) (Full e) Fills
  full_mark w n t e at h =
      let b : s.may_fill (w.threads n) ≡ true = ap s.may_fill at ∙ h.1 in
      let want : s.wants (w.threads n) ≡ Calls e = ap s.wants at ∙ h.0 in
      record {
        is = ap (λ z. if_may s z (with_thread s w n (s.full (w.threads n))) w) b ∙ ap (λ v. with_thread s w n (s.full v)) at;
        no_event = refl;
        views = λ m. (λ i. cond (b i) (cond (n == m) (full_step s (want i)) []) []);
      }

  pub front : (r : List (Step E V A)) (w : State X T) (n : ℕ) (t end : T) → w.threads n ≡ t → IsThreadRun s t r end
      → Front w n (through t r) (before_first_act r) (marks_before_act n r)
  front [] w n t end at l = record { shared_is = refl; here = at; others = λ m h. refl; no_events = refl; views = refl; no_views = λ m h. refl }
  front (Own ∷ r) w n t end at l =
      front_step w n (through (s.own_turn t) r) (s.own_turn t) Own (before_first_act r) Turn (marks_before_act n r) (own_mark w n t at l.0)
      (front r (with_thread s w n (s.own_turn t)) n (s.own_turn t) end (put-same w.threads n (s.own_turn t)) l.1)
  front (Lost x ∷ r) w n t end at l =
      front_step w n (through (s.lost t) r) (s.lost t) (Lost x) (before_first_act r) Loses (marks_before_act n r) (lost_mark w n t x at l.0)
      (front r (with_thread s w n (s.lost t)) n (s.lost t) end (put-same w.threads n (s.lost t)) l.1)
  front (Full x ∷ r) w n t end at l =
      front_step w n (through (s.full t) r) (s.full t) (Full x) (before_first_act r) Fills (marks_before_act n r) (full_mark w n t x at l.0)
      (front r (with_thread s w n (s.full t)) n (s.full t) end (put-same w.threads n (s.full t)) l.1)
  front (Acts a ∷ r) w n t end at l = record { shared_is = refl; here = at; others = λ m h. refl; no_events = refl; views = refl; no_views = λ m h. refl }

  -- the first act, and what is left after it
  pub record First (t : T) (r : List (Step E V A)) (end : T) (a : Act E V A) (more : List (Act E V A)) : Type 0 where
    pub fits : Fits s (through t r) (Acts a)
    pub runs : IsThreadRun s (after_step s (through t r) (Acts a)) (after_first_act r) end
    pub left : acts (after_first_act r) ≡ more

  pub first : (r : List (Step E V A)) (t end : T) (a : Act E V A) (more : List (Act E V A)) → IsThreadRun s t r end → acts r ≡ a ∷ more → First t r end a more
  first [] t end a more l e = absurd (cc)
  first (Own ∷ r) t end a more l e = let f = first r (s.own_turn t) end a more l.1 e in record { fits = f.fits; runs = f.runs; left = f.left }
  first (Lost x ∷ r) t end a more l e = let f = first r (s.lost t) end a more l.1 e in record { fits = f.fits; runs = f.runs; left = f.left }
  first (Full x ∷ r) t end a more l e = let f = first r (s.full t) end a more l.1 e in record { fits = f.fits; runs = f.runs; left = f.left }
  first (Acts b ∷ r) t end a more l e =
      let same : b ≡ a = cc in
      let same_left : acts r ≡ more = cc in
      record { fits = subst (λ c. Fits s t (Acts c)) same l.0; runs = subst (λ c. IsThreadRun s (after_step s t (Acts c)) r end) same l.1; left = same_left }

  pub split : (r : List (Step E V A)) (a : Act E V A) (more : List (Act E V A)) → acts r ≡ a ∷ more → r ≡ before_first_act r ++ (Acts a ∷ after_first_act r)
  split [] a more e = absurd (cc)
  split (Own ∷ r) a more e = ap (λ z. Own ∷ z) (split r a more e)
  split (Lost x ∷ r) a more e = ap (λ z. Lost x ∷ z) (split r a more e)
  split (Full x ∷ r) a more e = ap (λ z. Full x ∷ z) (split r a more e)
  split (Acts b ∷ r) a more e = let same : b ≡ a = cc in ap (λ z. Acts z ∷ r) same

  -- who awaits takes its answer next
  pub awaited : Facts s → (r : List (Step E V A)) (t end : T) (a : A) (more : List (Act E V A)) → s.wants t ≡ Awaits
      → IsThreadRun s t r end → acts r ≡ Heard a ∷ more
      → IsThreadRun s (s.hears t a) (after_first_act r) end × (acts (after_first_act r) ≡ more) × (r ≡ Acts (Heard a) ∷ after_first_act r)
  awaited laws [] t end a more h l e = absurd (cc)
  awaited laws (Own ∷ r) t end a more h l e = absurd (cc (l.0, h))
  awaited laws (Lost x ∷ r) t end a more h l e = absurd (cc (l.0.0, h))
  awaited laws (Full x ∷ r) t end a more h l e = absurd (cc (l.0.0, h))
  awaited laws (Acts b ∷ r) t end a more h l e =
      let same : b ≡ Heard a = cc in
      let same_left : acts r ≡ more = cc in
      (subst (λ c. IsThreadRun s (after_step s t (Acts c)) r end) same l.1, same_left, ap (λ c. Acts c ∷ r) same)

  -- who isn't gone has an act left
  pub not_done : Facts s → (r : List (Step E V A)) (t end : T) → (s.wants t ≡ Gone → ⊥) → IsThreadRun s t r end → acts r ≡ [] → ⊥
  not_done laws [] t end h l e = h l.0
  not_done laws (Own ∷ r) t end h l e = not_done laws r (s.own_turn t) end (laws.own_stays t l.0) l.1 e
  not_done laws (Lost x ∷ r) t end h l e = not_done laws r (s.lost t) end (laws.lost_stays t l.0.1) l.1 e
  not_done laws (Full x ∷ r) t end h l e = not_done laws r (s.full t) end (laws.full_stays t l.0.1) l.1 e
  not_done laws (Acts a ∷ r) t end h l e = cc

  pub ended : Facts s → (r : List (Step E V A)) (t end : T) → IsThreadRun s t r end → acts r ≡ [] → (t ≡ end) × (r ≡ [])
  ended laws [] t end l e = (l.1, refl)
  ended laws (Own ∷ r) t end l e = absurd (not_done laws r (s.own_turn t) end (laws.own_stays t l.0) l.1 e)
  ended laws (Lost x ∷ r) t end l e = absurd (not_done laws r (s.lost t) end (laws.lost_stays t l.0.1) l.1 e)
  ended laws (Full x ∷ r) t end l e = absurd (not_done laws r (s.full t) end (laws.full_stays t l.0.1) l.1 e)
  ended laws (Acts a ∷ r) t end l e = absurd (cc)
