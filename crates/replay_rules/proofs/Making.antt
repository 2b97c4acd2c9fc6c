-- What a walk takes, a schedule makes.
use Rattle.std.proofs.Common.{◌≡◌, ◌≢◌, ℕ, zero, suc, ◌==◌, Bool, true, false, cond, List, [], ◌∷◌, ◌++◌, refl, sym}
use Rattle.std.proofs.Common.{◌∙◌, ap, subst, append_assoc, Option, Some, None, ◌⊎◌, inl, inr}
use Rattle.schedule.specs.System.{Want.Turns, Want.Calls, Act, Act.Made, Act.Heard, Step, Step.Own, Step.Full, Step.Acts, Entry, Mark, Kind, Kind.Turn}
use Rattle.schedule.specs.System.{Kind.Fills, System, State, put}
use Rattle.schedule.specs.ThreadRun.{found_full, after_first_act, Laws}
use Rattle.schedule.specs.Scheduled.{after_turn, after_mark, with_thread, scheduled_run, entries_made, entries_by}
use Rattle.schedule.specs.Scheduled.{entries_at, steps_made, steps_by, steps_at, heard_step, hears_any}
use Rattle.schedule.specs.Scheduled.{or_started, if_may, full_step}
use Rattle.schedule.specs.Histories.{Place, Place.Unstarted, Place.Free, Place.Open, Place.Due, IsClosed, placed}
use Rattle.schedule.specs.Histories.{without_answers, next_places, places_after, IsLegalHistory}
use Rattle.schedule.specs.Histories.{IsOrdered}
use Rattle.schedule.specs.Tries.{TryRules, IsFullOnlyAtLimit, IsWithinLimit, MayMarkAll, HasReached, HasRoom, if_true}
use Rattle.schedule.proofs.Basics.{same_is, other_is, at_each, put-same, put-other, scheduled_run-append, entries_made-append, steps_made-append}
use Rattle.schedule.proofs.Standing.{Facts, facts, due_step}
use Rattle.schedule.proofs.Schedule.{due_other, due_here, Leads, leads}
use Rattle.schedule.proofs.Marks.{Front}
use Rattle.replay_rules.specs.Logs.{MakesLog}
use Rattle.replay_rules.specs.Walk.{ComesTo, Settles, FindsFull, CanMake, after_made}

pub put_put : {B : Type 0} (f : ℕ → B) (n : ℕ) (a b : B) (m : ℕ) → put (put f n a) n b m ≡ put f n b m
unfolding put
put_put f n a b m = go (m == n)
  where
    go : (c : Bool) → cond c b (cond c a (f m)) ≡ cond c b (f m)
    go true = refl
    go false = refl

put_itself : {B : Type 0} (f : ℕ → B) (n m : ℕ) → put f n (f n) m ≡ f m
put_itself f n m = at_each n (λ m. put f n (f n) m ≡ f m) (put-same f n (f n)) (λ m h. put-other f n (f n) m h) m

may_append : (limit : Option ℕ) (S R : List Mark) → MayMarkAll false limit S → MayMarkAll false limit R → MayMarkAll false limit (S ++ R)
may_append limit [] R h k = k
may_append limit (x ∷ S) R h k = (h.0, may_append limit S R h.1 k)

abbrev mark_of : ℕ → Kind → Mark
mark_of n k = record { thread = n; kind = k }

module _ {X T E V A W : Type 0} (s : System X T E V A) (rules : TryRules X E W) where
  -- marks of one thread that make no entry
  front_step : (w : State X T) (n : ℕ) (t t' : T) (x : Step E V A) (b : List (Step E V A)) (k : Kind) (S : List Mark)
      → after_mark s w n k ≡ with_thread s w n t' → entries_at s w n k ≡ [] → ((m : ℕ) → steps_at s m w n k ≡ cond (n == m) (x ∷ []) [])
      → Front s (with_thread s w n t') n t b S → Front s w n t (x ∷ b) (mark_of n k ∷ S)
  front_step w n t t' x b k S is no_event views f = record {
    shared_is = ap (λ v. (scheduled_run s v S).shared) is ∙ f.shared_is;
    here = ap (λ v. (scheduled_run s v S).threads n) is ∙ f.here;
    others = λ m h. ap (λ v. (scheduled_run s v S).threads m) is ∙ (f.others m h ∙ put-other w.threads n t' m h);
    no_events = ap (λ z. z ++ entries_made s (after_mark s w n k) S) no_event ∙ (ap (λ v. entries_made s v S) is ∙ f.no_events);
    views =
        ap (λ z. z ++ steps_made s n (after_mark s w n k) S) (views n ∙ ap (λ z. cond z (x ∷ []) []) (same_is n))
        ∙ (ap (λ v. x ∷ steps_made s n v S) is ∙ ap (λ z. x ∷ z) f.views);
    no_views = λ m h.
        ap (λ z. z ++ steps_made s m (after_mark s w n k) S) (views m ∙ ap (λ z. cond z (x ∷ []) []) (other_is n m (λ z. h (sym z))))
        ∙ (ap (λ v. steps_made s m v S) is ∙ f.no_views m h);
  }

  -- the way of a thread to an event: its marks and its steps, among which it finds the log full only at the limit
  record Approach (w : State X T) (count n : ℕ) (t : T) : Type 0 where
    steps : List (Step E V A)
    marks : List Mark
    front : Front s w n t steps marks
    after : (a : Act E V A) (more : List (Step E V A)) → after_first_act (steps ++ Acts a ∷ more) ≡ more
    full : (a : Act E V A) (more : List (Step E V A)) → found_full (steps ++ Acts a ∷ more) ≡ true → HasReached rules.limit count
    may : MayMarkAll false rules.limit marks

  stays : (w : State X T) (count n : ℕ) (t : T) → w.threads n ≡ t → Approach w count n t
  stays w count n t at = record {
    steps = [];
    marks = [];
    front = record { shared_is = refl; here = at; others = λ m h. refl; no_events = refl; views = refl; no_views = λ m h. refl };
    after = λ a more. refl;
    full = λ a more h. absurd (cc h);
    may = tt;
  }

  by_own_turn : (w : State X T) (count n : ℕ) (u t : T) → w.threads n ≡ u → s.wants u ≡ Turns
      → Approach (with_thread s w n (s.own_turn u)) count n t → Approach w count n t
  by_own_turn w count n u t at h a =
      let e : s.wants (w.threads n) ≡ Turns = ap s.wants at ∙ h in
      record {
        steps = Own ∷ a.steps;
        marks = mark_of n Turn ∷ a.marks;
        front =
            front_step w n t (s.own_turn u) Own a.steps Turn a.marks (ap (after_turn s w n) e
            ∙ ap (λ v. with_thread s w n (s.own_turn v)) at) (ap (entries_by s w n) e)
            (λ m. ap (steps_by s m w n) e) a.front;
        after = a.after;
        full = a.full;
        may = (tt, a.may);
      }

  -- so many turns of its own, and then what comes after them
  by_turns : (z : T) (k : ℕ) (w : State X T) (count n : ℕ) (u t : T) → w.threads n ≡ u → ComesTo s k u t
      → ((v : State X T) → v.threads n ≡ t → Approach v count n z) → Approach w count n z
  by_turns z zero w count n u t at comes on = on w (at ∙ comes)
  by_turns z (suc k) w count n u t at comes on =
      by_own_turn w count n u z at comes.0
      (by_turns z k (with_thread s w n (s.own_turn u)) count n (s.own_turn u) t (put-same w.threads n (s.own_turn u)) comes.1 on)

  no_limit : (limit : Option ℕ) (count : ℕ) → HasReached limit count → limit ≢ None
  no_limit None count h e = absurd h
  no_limit (Some limit) count h e = cc e

  by_full : (laws : Facts s) (w : State X T) (count n : ℕ) (t : T) (e : E) → w.threads n ≡ t → s.wants t ≡ Calls e
      → s.may_fill t ≡ true → HasReached rules.limit count → Approach w count n (s.full t)
  by_full laws w count n t e at h may reached =
      let b : s.may_fill (w.threads n) ≡ true = ap s.may_fill at ∙ may in
      let want : s.wants (w.threads n) ≡ Calls e = ap s.wants at ∙ h in
      record {
        steps = Full e ∷ [];
        marks = mark_of n Fills ∷ [];
        front =
            front_step w n (s.full t) (s.full t) (Full e) [] Fills []
            (ap (λ z. if_may s z (with_thread s w n (s.full (w.threads n))) w) b
            ∙ ap (λ v. with_thread s w n (s.full v)) at) refl
            (λ m. (λ i. cond (b i) (cond (n == m) (full_step s (want i)) []) []))
            (record { shared_is = refl; here = put-same w.threads n (s.full t); others = λ m k. refl; no_events = refl; views = refl; no_views = λ m k. refl });
        after = λ a more. refl;
        full = λ a more k. reached;
        may = (no_limit rules.limit count reached, tt);
      }

  approach : (laws : Laws s) (w : State X T) (count n : ℕ) (t : T) → Settles s (w.threads n) t ⊎ FindsFull s rules count (w.threads n) t → Approach w count n t
  approach laws w count n t (inl a) = by_turns t a.turns w count n (w.threads n) t refl a.comes (λ v at. stays v count n t at)
  approach laws w count n t (inr a) =
      let calls = laws.fill_calls a.settled a.may in
      by_turns t a.settles.turns w count n (w.threads n) a.settled refl a.settles.comes
      (λ v at. subst (λ x. Approach v count n x) (sym a.filled) (by_full (facts s laws) v count n a.settled calls.0 at calls.1 a.may a.reached))

  -- from a state, with these places and after so many entries, a schedule makes the log and comes to another state
  pub record MakesFrom (w : State X T) (q : ℕ → Place A) (count : ℕ) (log : List (Entry E V A)) (z : State X T) (p : ℕ → Place A) : Type 0 where
    pub schedule : List Mark
    pub legal : IsLegalHistory s w.shared q log
    pub ordered : IsOrdered s w.shared q log
    pub events : entries_made s w schedule ≡ without_answers log
    pub full : (m : ℕ) → IsFullOnlyAtLimit s rules log m count (due_step (q m) ++ steps_made s m w schedule)
    pub within : IsWithinLimit s rules log count
    pub marks : MayMarkAll false rules.limit schedule
    pub run : scheduled_run s w schedule ≡ z
    pub placed : places_after s w.shared q log ≡ p

  pub makes_none : (w : State X T) (q : ℕ → Place A) (count : ℕ) → MakesFrom w q count [] w q
  makes_none w q count = record { schedule = []; legal = tt; ordered = tt; events = refl; full = λ m. tt; within = tt; marks = tt; run = refl; placed = refl }

  abbrev told : ℕ → A → Entry E V A
  told n a = record { thread = n; act = Heard a }

  abbrev made : ℕ → E → V → Entry E V A
  made n e v = record { thread = n; act = Made e v }

  -- an entry of thread n, in the list of what it entered, and in that of another
  full_here : (n count : ℕ) (act : Act E V A) (log : List (Entry E V A)) (steps rest : List (Step E V A))
      → (found_full steps ≡ true → HasReached rules.limit count)
      → after_first_act steps ≡ rest → IsFullOnlyAtLimit s rules log n (suc count) rest
      → IsFullOnlyAtLimit s rules (record { thread = n; act = act } ∷ log) n count steps
  full_here n count act log steps rest h e more =
      subst
      (λ b. if_true b ((found_full steps ≡ true → HasReached rules.limit count) × IsFullOnlyAtLimit s rules log n (suc count) (after_first_act steps))
      (IsFullOnlyAtLimit s rules log n (suc count) steps))
      (sym (same_is n)) (h, subst (λ r. IsFullOnlyAtLimit s rules log n (suc count) r) (sym e) more)

  full_there : (n m count : ℕ) (act : Act E V A) (log : List (Entry E V A)) (steps : List (Step E V A)) → m ≢ n
      → IsFullOnlyAtLimit s rules log m (suc count) steps → IsFullOnlyAtLimit s rules (record { thread = n; act = act } ∷ log) m count steps
  full_there n m count act log steps h more =
      subst
      (λ b. if_true b ((found_full steps ≡ true → HasReached rules.limit count) × IsFullOnlyAtLimit s rules log m (suc count) (after_first_act steps))
      (IsFullOnlyAtLimit s rules log m (suc count) steps))
      (sym (other_is n m (λ z. h (sym z)))) more

  -- an answer heard is one more entry, and no mark
  pub makes_told : (w : State X T) (q : ℕ → Place A) (count n : ℕ) (a : A) (log : List (Entry E V A)) (z : State X T) (p : ℕ → Place A) → q n ≡ Due a
      → MakesFrom w (put q n Free) (suc count) log z p → MakesFrom w q count (told n a ∷ log) z p
  makes_told w q count n a log z p due m = record {
    schedule = m.schedule;
    legal = (due, m.legal);
    ordered = (tt, m.ordered);
    events = m.events;
    full = at_each n (λ k. IsFullOnlyAtLimit s rules (told n a ∷ log) k count (due_step (q k) ++ steps_made s k w m.schedule))
        (subst (λ d. IsFullOnlyAtLimit s rules (told n a ∷ log) n count (due_step d ++ steps_made s n w m.schedule)) (sym due)
        (full_here n count (Heard a) log (Acts (Heard a) ∷ steps_made s n w m.schedule) (steps_made s n w m.schedule) (λ h. absurd (cc h)) refl
        (subst (λ d. IsFullOnlyAtLimit s rules log n (suc count) (due_step d ++ steps_made s n w m.schedule)) (put-same q n Free) (m.full n))))
        (λ k h. full_there n k count (Heard a) log (due_step (q k) ++ steps_made s k w m.schedule) h
        (subst (λ d. IsFullOnlyAtLimit s rules log k (suc count) (due_step d ++ steps_made s k w m.schedule)) (put-other q n Free k h) (m.full k)));
    within = (exempt rules.limit count, m.within);
    marks = m.marks;
    run = m.run;
    placed = m.placed;
  }
    where
      exempt : (limit : Option ℕ) (count : ℕ) → HasRoom limit true count
      exempt None count = tt
      exempt (Some limit) count = λ h. absurd (cc h)

  -- an event is the marks of its thread's way to it, and the turn that makes it
  pub makes_event : (laws : Laws s) (w : State X T) (q : ℕ → Place A) (count n : ℕ) (e : E) (v : V) (t : T)
      (log : List (Entry E V A)) (z : State X T) (p : ℕ → Place A)
      → CanMake s rules w q count n e v t
      → MakesFrom (after_made s w n e t) (next_places s w.shared q n (Made e v)) (suc count) log z p → MakesFrom w q count (made n e v ∷ log) z p
  makes_event laws w q count n e v t log z p can more =
      let a : Approach w count n t = approach laws w count n t can.ready in
      let turn : List Mark = mark_of n Turn ∷ [] in
      let S : List Mark = a.marks ++ turn in
      let R : List Mark = more.schedule in
      let k : Leads s w n e v (s.takes t v) a.steps S = leads s w n t e v a.steps a.marks a.front can.wants can.legal.1 in
      let w2 : State X T = after_made s w n e t in
      let q2 : ℕ → Place A = next_places s w.shared q n (Made e v) in
      let gv : ℕ → Option A = λ m. s.gives w.shared n e m in
      let st : ℕ → Option T = λ m. s.starts w.shared n e m in
      let taken : (m : ℕ) → put w.threads n (s.takes t v) m ≡ put (put w.threads n t) n (s.takes (put w.threads n t n) (s.reply w.shared n e)) m = λ m.
      (λ i. put w.threads n (s.takes (sym (put-same w.threads n t) i) (can.legal.1 i)) m)
      ∙ sym (put_put w.threads n t (s.takes (put w.threads n t n) (s.reply w.shared n e)) m) in
      let is : scheduled_run s w S ≡ w2 = λ i. record {
        shared = k.shared_is i;
        threads = λ m. (k.threads_are m ∙ ap (λ x. or_started (st m) (hears_any s x (gv m))) (taken m)) i;
      } in
      let o : Bool = s.opens e v in
      let due_n : due_step (q2 n) ≡ heard_step s (gv n) =
      (λ i. due_step (placed (st n) (gv n) (put-same (λ (j : ℕ). false) n o i) (can.free i)))
      ∙ due_here s (st n) (gv n) o (λ x y. cc (can.free, can.legal.2 n x y)) in
      let due_m : (m : ℕ) → m ≢ n → due_step (q2 m) ≡ due_step (q m) ++ heard_step s (gv m) = λ m h.
      (λ i. due_step (placed (st m) (gv m) (put-other (λ (j : ℕ). false) n o m h i) (q m)))
      ∙ due_other s (st m) (gv m) (q m) (λ x y. can.legal.2 m x y) (λ b y. (can.legal.3 m b y).0 h) in
      let views_here : due_step (q n) ++ steps_made s n w (S ++ R) ≡ a.steps ++ (Acts (Made e v) ∷ (due_step (q2 n) ++ steps_made s n w2 R)) =
      ap (λ d. due_step d ++ steps_made s n w (S ++ R)) can.free ∙ (steps_made-append s n w S R
      ∙ ((λ i. k.views_here i ++ steps_made s n (is i) R) ∙ (append_assoc a.steps (Acts (Made e v) ∷ heard_step s (gv n)) (steps_made s n w2 R)
      ∙ ap (λ d. a.steps ++ (Acts (Made e v) ∷ (d ++ steps_made s n w2 R))) (sym due_n)))) in
      let views_others : (m : ℕ) → m ≢ n → due_step (q m) ++ steps_made s m w (S ++ R) ≡ due_step (q2 m) ++ steps_made s m w2 R = λ m h.
      ap (λ d. due_step (q m) ++ d) (steps_made-append s m w S R ∙ (λ i. k.views_others m h i ++ steps_made s m (is i) R))
      ∙ (sym (append_assoc (due_step (q m)) (heard_step s (gv m)) (steps_made s m w2 R)) ∙ ap (λ d. d ++ steps_made s m w2 R) (sym (due_m m h))) in
      record {
        schedule = S ++ R;
        legal = (can.legal, more.legal);
        ordered = (can.free, more.ordered);
        events = entries_made-append s w S R ∙ ((λ i. k.events_are i ++ entries_made s (is i) R) ∙ ap (λ y. made n e v ∷ y) more.events);
        full = at_each n (λ m. IsFullOnlyAtLimit s rules (made n e v ∷ log) m count (due_step (q m) ++ steps_made s m w (S ++ R)))
            (subst (λ y. IsFullOnlyAtLimit s rules (made n e v ∷ log) n count y) (sym views_here)
            (full_here n count (Made e v) log (a.steps ++ (Acts (Made e v) ∷ (due_step (q2 n) ++ steps_made s n w2 R))) (due_step (q2 n) ++ steps_made s n w2 R)
            (a.full (Made e v) (due_step (q2 n) ++ steps_made s n w2 R)) (a.after (Made e v) (due_step (q2 n) ++ steps_made s n w2 R)) (more.full n)))
            (λ m h. subst (λ y. IsFullOnlyAtLimit s rules (made n e v ∷ log) m count y) (sym (views_others m h))
            (full_there n m count (Made e v) log (due_step (q2 m) ++ steps_made s m w2 R) h (more.full m)));
        within = (can.room, more.within);
        marks = may_append rules.limit S R (may_append rules.limit a.marks turn a.may (tt, tt)) more.marks;
        run = scheduled_run-append s w S R ∙ (ap (λ y. scheduled_run s y R) is ∙ more.run);
        placed = more.placed;
      }

module _ {X T E V A W : Type 0} (s : System X T E V A) (rules : TryRules X E W) where
  -- from a beginning where no question is open, it is a schedule of the log
  no_due : (p : Place A) (steps : List (Step E V A)) → IsClosed p → due_step p ++ steps ≡ steps
  no_due Unstarted steps h = refl
  no_due Free steps h = refl
  no_due Open steps h = absurd h
  no_due (Due a) steps h = absurd h

  pub makes_log : (first : State X T) (places : ℕ → Place A) (log : List (Entry E V A)) (z : State X T) (p : ℕ → Place A) → ((m : ℕ) → IsClosed (places m))
      → (m : MakesFrom s rules first places 0 log z p) → MakesLog s rules first places log m.schedule
  makes_log first places log z p closed m = record {
    legal = m.legal;
    ordered = m.ordered;
    events = m.events;
    full = λ k. subst (λ y. IsFullOnlyAtLimit s rules log k 0 y) (no_due (places k) (steps_made s k first m.schedule) (closed k)) (m.full k);
    within = m.within;
    marks = m.marks;
  }
