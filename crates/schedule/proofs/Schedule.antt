-- The induction over the history.
use Rattle.std.proofs.Common.{◌≡◌, ◌≢◌, ℕ, Bool, true, false, cond, List, [], ◌∷◌, ◌++◌, refl, sym, ◌∙◌, ap, subst}
use Rattle.std.proofs.Common.{append-nil, append_assoc, Option, Some, None}
use Rattle.schedule.proofs.Standing.{Facts, Rest, Stands, before_first_act, due_step}
use Rattle.schedule.specs.Histories.{IsClosed, IsLegalHistory, IsOrdered, Place, Place.Due, Place.Free, Place.Open}
use Rattle.schedule.specs.Histories.{Place.Unstarted, StartedRun, acts_of, next_places, placed, places_after}
use Rattle.schedule.specs.Histories.{shared_after}
use Rattle.schedule.specs.Scheduled.{after_event, after_turn, entries_by, entries_made, heard_step, hears_any, or_started, scheduled_run, steps_by, steps_made}
use Rattle.schedule.specs.Schedules.{IsOneSchedule, ThreadsRun, marks_before_act, schedule_of}
use Rattle.schedule.specs.System.{Act, Act.Heard, Act.Made, Entry, Kind.Turn, Mark, State, Step, Step.Acts, System, Want.Awaits, Want.Calls, Want.Gone, put}
use Rattle.schedule.specs.ThreadRun.{IsThreadRun, acts, after_first_act, after_step}
use Rattle.schedule.proofs.Basics.{same_is, other_is, at_each, put-same, put-other, scheduled_run-append, entries_made-append, steps_made-append}
use Rattle.schedule.proofs.Orderly.{free_at_event}
use Rattle.schedule.proofs.Marks.{through, Front, front, First, first, split, awaited, not_done, ended}

module _ {X T E V A : Type 0} (s : System X T E V A) where
  -- what the marks for one event do
  pub record Leads (w : State X T) (n : ℕ) (e : E) (v : V) (t : T) (b : List (Step E V A)) (S : List Mark) : Type 0 where
    pub shared_is : (scheduled_run s w S).shared ≡ s.after w.shared n e
    pub threads_are : (m : ℕ) → (scheduled_run s w S).threads m ≡ or_started (s.starts w.shared n e m)
        (hears_any s (put w.threads n t m) (s.gives w.shared n e m))
    pub events_are : entries_made s w S ≡ record { thread = n; act = Made e v } ∷ []
    pub views_here : steps_made s n w S ≡ b ++ (Acts (Made e v) ∷ heard_step s (s.gives w.shared n e n))
    pub views_others : (m : ℕ) → m ≢ n → steps_made s m w S ≡ heard_step s (s.gives w.shared n e m)

  pub leads : (w : State X T) (n : ℕ) (t : T) (e : E) (v : V) (b : List (Step E V A)) (S : List Mark)
      → Front s w n t b S → s.wants t ≡ Calls e → v ≡ s.reply w.shared n e
      → Leads w n e v (s.takes t v) b (S ++ record { thread = n; kind = Turn } ∷ [])
  leads w n t e v b S f h r =
      let w1 : State X T = scheduled_run s w S in
      let turn : List Mark = record { thread = n; kind = Turn } ∷ [] in
      let want : s.wants (w1.threads n) ≡ Calls e = ap s.wants f.here ∙ h in
      let value : s.reply w1.shared n e ≡ v = ap (λ x. s.reply x n e) f.shared_is ∙ sym r in
      let is : scheduled_run s w (S ++ turn) ≡ after_event s w1 n e = scheduled_run-append s w S turn ∙ ap (after_turn s w1 n) want in
      let at : (m : ℕ) → put w1.threads n (s.takes (w1.threads n) (s.reply w1.shared n e)) m ≡ put w.threads n (s.takes t v) m =
      at_each n (λ m. put w1.threads n (s.takes (w1.threads n) (s.reply w1.shared n e)) m ≡ put w.threads n (s.takes t v) m)
      (put-same w1.threads n (s.takes (w1.threads n) (s.reply w1.shared n e))
      ∙ ((λ i. s.takes (f.here i) (value i)) ∙ sym (put-same w.threads n (s.takes t v))))
      (λ m k. put-other w1.threads n (s.takes (w1.threads n) (s.reply w1.shared n e)) m k ∙ (f.others m k ∙ sym (put-other w.threads n (s.takes t v) m k))) in
      record {
        shared_is = ap (λ z. z.shared) is ∙ ap (λ x. s.after x n e) f.shared_is;
        threads_are = λ m. ap (λ z. z.threads m) is ∙ (λ i. or_started (s.starts (f.shared_is i) n e m) (hears_any s (at m i) (s.gives (f.shared_is i) n e m)));
        events_are =
            entries_made-append s w S turn ∙ (ap (λ z. z ++ entries_made s w1 turn) f.no_events
            ∙ (ap (λ z. entries_by s w1 n z ++ []) want ∙ ap (λ z. record { thread = n; act = Made e z } ∷ []) value));
        views_here =
            steps_made-append s n w S turn ∙ ((λ i. f.views i ++ (steps_by s n w1 n (want i) ++ []))
            ∙ ((λ i. b ++ ((cond (same_is n i) (Acts (Made e (value i)) ∷ []) [] ++ heard_step s (s.gives (f.shared_is i) n e n)) ++ []))
            ∙ ap (λ z. b ++ (Acts (Made e v) ∷ z)) (append-nil (heard_step s (s.gives w.shared n e n)))));
        views_others = λ m k.
            steps_made-append s m w S turn ∙ ((λ i. f.no_views m k i ++ (steps_by s m w1 n (want i) ++ []))
            ∙ ((λ i. (cond (other_is n m (λ z. k (sym z)) i) (Acts (Made e (value i)) ∷ []) [] ++ heard_step s (s.gives (f.shared_is i) n e m)) ++ [])
            ∙ append-nil (heard_step s (s.gives w.shared n e m))));
      }

  -- one thread over an event of another
  pub stands_other : (steps r : List (Step E V A)) (end t : T) (st : Option T) (gv : Option A) (p : Place A)
      → ((x : T) → st ≡ Some x → (p ≡ Unstarted) × IsThreadRun s x steps end) → ((a : A) → gv ≡ Some a → p ≡ Open)
      → Stands s steps end p t r → Stands s steps end (placed st gv false p) (or_started st (hears_any s t gv)) r
  stands_other steps r end t (Some x) gv p hs hg l =
      let k = hs x refl in
      let e : r ≡ steps = subst (λ z. Stands s steps end z t r) k.0 l in
      subst (λ z. IsThreadRun s x z end) (sym e) k.1
  stands_other steps r end t None (Some a) p hs hg l =
      let k = subst (λ z. Stands s steps end z t r) (hg a refl) l in
      (t, refl, k.0, k.1)
  stands_other steps r end t None None p hs hg l = l

  -- the one whose event it is
  pub stands_here : (steps r : List (Step E V A)) (end t : T) (st : Option T) (gv : Option A) (o : Bool)
      → ((x : T) → st ≡ Some x → ⊥) → ((a : A) → gv ≡ Some a → o ≡ true) → (o ≡ true → s.wants t ≡ Awaits)
      → IsThreadRun s t r end → Stands s steps end (placed st gv o Free) (or_started st (hears_any s t gv)) r
  stands_here steps r end t (Some x) gv o hs hg ho l = absurd (hs x refl)
  stands_here steps r end t None (Some a) o hs hg ho l = (t, refl, ho (hg a refl), l)
  stands_here steps r end t None None true hs hg ho l = (ho refl, l)
  stands_here steps r end t None None false hs hg ho l = l

  pub due_other : (st : Option T) (gv : Option A) (p : Place A)
      → ((x : T) → st ≡ Some x → p ≡ Unstarted) → ((a : A) → gv ≡ Some a → p ≡ Open)
      → due_step {E = E} {V = V} (placed st gv false p) ≡ due_step p ++ heard_step s gv
  due_other (Some x) None p hs hg = sym (ap (λ z. due_step z ++ []) (hs x refl))
  due_other (Some x) (Some a) p hs hg = absurd (cc (sym (hs x refl) ∙ hg a refl))
  due_other None (Some a) p hs hg = sym (ap (λ z. due_step z ++ Acts (Heard a) ∷ []) (hg a refl))
  due_other None None p hs hg = sym (append-nil (due_step p))

  pub due_here : (st : Option T) (gv : Option A) (o : Bool) → ((x : T) → st ≡ Some x → ⊥) → due_step {E = E} {V = V} (placed st gv o Free) ≡ heard_step s gv
  due_here (Some x) gv o hs = absurd (hs x refl)
  due_here None (Some a) o hs = refl
  due_here None None true hs = refl
  due_here None None false hs = refl

  pub run_gone : (r : List (Step E V A)) (t end : T) → IsThreadRun s t r end → s.wants end ≡ Gone
  run_gone [] t end l = sym (ap s.wants l.1) ∙ l.0
  run_gone (x ∷ r) t end l = run_gone r (after_step s t x) end l.1

  pub stands_by : (steps : List (Step E V A)) (end : T) (p p' : Place A) (t t' : T) (r r' : List (Step E V A)) → p ≡ p' → t ≡ t' → r ≡ r'
      → Stands s steps end p t r → Stands s steps end p' t' r'
  stands_by steps end p p' t t' r r' ep et er h =
      subst (λ z. Stands s steps end p' t' z) er (subst (λ z. Stands s steps end p' z r) et (subst (λ z. Stands s steps end z t r) ep h))

module _ {X T E V A : Type 0} (s : System X T E V A) (laws : Facts s) (steps : ℕ → List (Step E V A)) (ends : ℕ → T) where
  -- what holds between a front of the history and the rest of it
  pub record Going (w : State X T) (q : ℕ → Place A) (r : ℕ → List (Step E V A)) (H : List (Entry E V A)) : Type 0 where
    pub legal : IsLegalHistory s w.shared q H
    pub stands : (m : ℕ) → Stands s (steps m) (ends m) (q m) (w.threads m) (r m)
    pub starts : StartedRun s steps ends w.shared H
    pub owned : (m : ℕ) → acts (r m) ≡ acts_of m H
    pub idle : (m : ℕ) → places_after s w.shared q H m ≡ Unstarted → steps m ≡ []

  abbrev From : List (Entry E V A) → Type 0
  From H = (w : State X T) (q : ℕ → Place A) (r : ℕ → List (Step E V A)) → Going w q r H → Rest s w q r ends H (schedule_of H r)

  did : (H : List (Entry E V A)) (w : State X T) (q : ℕ → Place A) (r : ℕ → List (Step E V A)) (n : ℕ) (e : E) (v : V)
      → Going w q r (record { thread = n; act = Made e v } ∷ H) → From H
      → Rest s w q r ends (record { thread = n; act = Made e v } ∷ H) (schedule_of (record { thread = n; act = Made e v } ∷ H) r)
  did H w q r n e v g ih =
      let ow : acts (r n) ≡ Made e v ∷ acts_of n H = g.owned n ∙ ap (λ b. cond b (Made e v ∷ acts_of n H) (acts_of n H)) (same_is n) in
      let free : q n ≡ Free = free_at_event s (q n) (steps n) (r n) (ends n) (w.threads n) e v (acts_of n H) (g.stands n) ow g.legal.0.0 in
      let l : IsThreadRun s (w.threads n) (r n) (ends n) = subst (λ z. Stands s (steps n) (ends n) z (w.threads n) (r n)) free (g.stands n) in
      let f : First s (w.threads n) (r n) (ends n) (Made e v) (acts_of n H) = first s (r n) (w.threads n) (ends n) (Made e v) (acts_of n H) l ow in
      let t1 : T = through s (w.threads n) (r n) in
      let t2 : T = s.takes t1 v in
      let S : List Mark = marks_before_act n (r n) ++ record { thread = n; kind = Turn } ∷ [] in
      let k : Leads s w n e v t2 (before_first_act (r n)) S = leads s w n t1 e v (before_first_act (r n))
      (marks_before_act n (r n)) (front s (r n) w n (w.threads n) (ends n) refl l) f.fits g.legal.0.1 in
      let w2 : State X T = scheduled_run s w S in
      let q2 : ℕ → Place A = next_places s w.shared q n (Made e v) in
      let r2 : ℕ → List (Step E V A) = put r n (after_first_act (r n)) in
      let o : Bool = s.opens e v in
      let st : ℕ → Option T = λ m. s.starts w.shared n e m in
      let gv : ℕ → Option A = λ m. s.gives w.shared n e m in
      let here : Stands s (steps n) (ends n) (q2 n) (w2.threads n) (r2 n) =
      stands_by s (steps n) (ends n) (placed (st n) (gv n) o Free) (q2 n) (or_started (st n) (hears_any s t2 (gv n)))
      (w2.threads n) (after_first_act (r n)) (r2 n)
      (λ i. placed (st n) (gv n) (sym (put-same (λ (j : ℕ). false) n o) i) (sym free i))
      (sym (k.threads_are n ∙ ap (λ z. or_started (st n) (hears_any s z (gv n))) (put-same w.threads n t2)))
      (sym (put-same r n (after_first_act (r n))))
      (stands_here s (steps n) (after_first_act (r n)) (ends n) t2 (st n)
      (gv n) o (λ x z. cc (free, g.legal.0.2 n x z)) (λ a z. (g.legal.0.3 n a z).1 refl)
      (λ z. laws.opened t1 e v f.fits z) f.runs) in
      let others : (m : ℕ) → m ≢ n → Stands s (steps m) (ends m) (q2 m) (w2.threads m) (r2 m) = λ m h.
      stands_by s (steps m) (ends m) (placed (st m) (gv m) false (q m)) (q2 m)
      (or_started (st m) (hears_any s (w.threads m) (gv m))) (w2.threads m) (r m) (r2 m)
      (λ i. placed (st m) (gv m) (sym (put-other (λ (j : ℕ). false) n o m h) i) (q m))
      (sym (k.threads_are m ∙ ap (λ z. or_started (st m) (hears_any s z (gv m))) (put-other w.threads n t2 m h)))
      (sym (put-other r n (after_first_act (r n)) m h))
      (stands_other s (steps m) (r m) (ends m) (w.threads m) (st m) (gv m) (q m)
      (λ x z. (g.legal.0.2 m x z, g.starts.0 m x z)) (λ a z. (g.legal.0.3 m a z).0 h) (g.stands m)) in
      let g2 : Going w2 q2 r2 H = record {
        legal = subst (λ x. IsLegalHistory s x q2 H) (sym k.shared_is) g.legal.1;
        stands = at_each n (λ m. Stands s (steps m) (ends m) (q2 m) (w2.threads m) (r2 m)) here others;
        starts = subst (λ x. StartedRun s steps ends x H) (sym k.shared_is) g.starts.1;
        idle = λ m h. g.idle m (ap (λ x. places_after s x q2 H m) (sym k.shared_is) ∙ h);
        owned = at_each n (λ m. acts (r2 m) ≡ acts_of m H) (ap acts (put-same r n (after_first_act (r n))) ∙ f.left)
            (λ m h. ap acts (put-other r n (after_first_act (r n)) m h)
            ∙ (g.owned m ∙ ap (λ b. cond b (Made e v ∷ acts_of m H) (acts_of m H))
            (other_is n m (λ z. h (sym z)))));
      } in
      let R : List Mark = schedule_of H r2 in
      let out : Rest s w2 q2 r2 ends H R = ih w2 q2 r2 g2 in
      let due_n : due_step (q2 n) ≡ heard_step s (gv n) =
      (λ i. due_step (placed (st n) (gv n) (put-same (λ (j : ℕ). false) n o i) (free i))) ∙ due_here s (st n) (gv n) o (λ x z. cc (free, g.legal.0.2 n x z)) in
      let due_m : (m : ℕ) → m ≢ n → due_step (q2 m) ≡ due_step (q m) ++ heard_step s (gv m) = λ m h.
      (λ i. due_step (placed (st m) (gv m) (put-other (λ (j : ℕ). false) n o m h i) (q m)))
      ∙ due_other s (st m) (gv m) (q m) (λ x z. g.legal.0.2 m x z) (λ a z. (g.legal.0.3 m a z).0 h) in
      let views_here : due_step (q n) ++ steps_made s n w (S ++ R) ≡ r n =
      ap (λ z. due_step z ++ steps_made s n w (S ++ R)) free ∙ (steps_made-append s n w S R ∙ (ap (λ z. z ++ steps_made s n w2 R) k.views_here
      ∙ (append_assoc (before_first_act (r n)) (Acts (Made e v) ∷ heard_step s (gv n)) (steps_made s n w2 R)
      ∙ (ap (λ z. before_first_act (r n) ++ (Acts (Made e v) ∷ (z ++ steps_made s n w2 R))) (sym due_n)
      ∙ (ap (λ z. before_first_act (r n) ++ (Acts (Made e v) ∷ z)) (out.views_are n ∙ put-same r n (after_first_act (r n)))
      ∙ sym (split s (r n) (Made e v) (acts_of n H) ow)))))) in
      let views_others : (m : ℕ) → m ≢ n → due_step (q m) ++ steps_made s m w (S ++ R) ≡ r m = λ m h.
      ap (λ z. due_step (q m) ++ z) (steps_made-append s m w S R ∙ ap (λ z. z ++ steps_made s m w2 R) (k.views_others m h))
      ∙ (sym (append_assoc (due_step (q m)) (heard_step s (gv m)) (steps_made s m w2 R))
      ∙ (ap (λ z. z ++ steps_made s m w2 R) (sym (due_m m h)) ∙ (out.views_are m ∙ put-other r n (after_first_act (r n)) m h))) in
      record {
        ordered = (free, subst (λ x. IsOrdered s x q2 H) k.shared_is out.ordered);
        events_are = entries_made-append s w S R
            ∙ (ap (λ z. z ++ entries_made s w2 R) k.events_are
            ∙ ap (λ z. record { thread = n; act = Made e v } ∷ z) out.events_are);
        views_are = at_each n (λ m. due_step (q m) ++ steps_made s m w (S ++ R) ≡ r m) views_here views_others;
        shared_is = ap (λ z. z.shared) (scheduled_run-append s w S R) ∙ (out.shared_is ∙ ap (λ x. shared_after s x H) k.shared_is);
        ends_are = λ m h. ap (λ z. z.threads m) (scheduled_run-append s w S R) ∙ out.ends_are m (ap (λ x. places_after s x q2 H m) k.shared_is ∙ h);
        gone = λ m h. out.gone m (ap (λ x. places_after s x q2 H m) k.shared_is ∙ h);
        closed = λ m. subst (λ x. IsClosed (places_after s x q2 H m)) k.shared_is (out.closed m);
      }

  took_answer : (H : List (Entry E V A)) (w : State X T) (q : ℕ → Place A) (r : ℕ → List (Step E V A)) (n : ℕ) (a : A)
      → Going w q r (record { thread = n; act = Heard a } ∷ H) → From H
      → Rest s w q r ends (record { thread = n; act = Heard a } ∷ H) (schedule_of (record { thread = n; act = Heard a } ∷ H) r)
  took_answer H w q r n a g ih =
      let is_due : q n ≡ Due a = g.legal.0 in
      let l : Stands s (steps n) (ends n) (Due a) (w.threads n) (r n) = subst (λ z. Stands s (steps n) (ends n) z (w.threads n) (r n)) is_due (g.stands n) in
      let ow : acts (r n) ≡ Heard a ∷ acts_of n H = g.owned n ∙ ap (λ b. cond b (Heard a ∷ acts_of n H) (acts_of n H)) (same_is n) in
      let k : IsThreadRun s (s.hears l.0 a) (after_first_act (r n)) (ends n)
      × (acts (after_first_act (r n)) ≡ acts_of n H)
      × (r n ≡ Acts (Heard a) ∷ after_first_act (r n)) =
      awaited s laws (r n) l.0 (ends n) a (acts_of n H) l.2 l.3 ow in
      let q2 : ℕ → Place A = put q n Free in
      let r2 : ℕ → List (Step E V A) = put r n (after_first_act (r n)) in
      let here : Stands s (steps n) (ends n) (q2 n) (w.threads n) (r2 n) =
      stands_by s (steps n) (ends n) Free (q2 n) (s.hears l.0 a) (w.threads n) (after_first_act (r n)) (r2 n)
      (sym (put-same q n Free)) (sym l.1) (sym (put-same r n (after_first_act (r n)))) k.0 in
      let others : (m : ℕ) → m ≢ n → Stands s (steps m) (ends m) (q2 m) (w.threads m) (r2 m) = λ m h.
      stands_by s (steps m) (ends m) (q m) (q2 m) (w.threads m) (w.threads m) (r m) (r2 m)
      (sym (put-other q n Free m h)) refl (sym (put-other r n (after_first_act (r n)) m h)) (g.stands m) in
      let g2 : Going w q2 r2 H = record {
        legal = g.legal.1;
        stands = at_each n (λ m. Stands s (steps m) (ends m) (q2 m) (w.threads m) (r2 m)) here others;
        starts = g.starts.1;
        idle = g.idle;
        owned = at_each n (λ m. acts (r2 m) ≡ acts_of m H) (ap acts (put-same r n (after_first_act (r n))) ∙ k.1)
            (λ m h. ap acts (put-other r n (after_first_act (r n)) m h)
            ∙ (g.owned m ∙ ap (λ b. cond b (Heard a ∷ acts_of m H) (acts_of m H))
            (other_is n m (λ z. h (sym z)))));
      } in
      let R : List Mark = schedule_of H r2 in
      let out : Rest s w q2 r2 ends H R = ih w q2 r2 g2 in
      record {
        ordered = (tt, out.ordered);
        events_are = out.events_are;
        views_are = at_each n (λ m. due_step (q m) ++ steps_made s m w R ≡ r m)
            (ap (λ z. due_step z ++ steps_made s n w R) is_due
            ∙ (ap (λ z. Acts (Heard a) ∷ z) (ap (λ z. due_step z ++ steps_made s n w R) (sym (put-same q n Free))
            ∙ (out.views_are n ∙ put-same r n (after_first_act (r n)))) ∙ sym k.2))
            (λ m h. ap (λ z. due_step z ++ steps_made s m w R) (sym (put-other q n Free m h)) ∙ (out.views_are m ∙ put-other r n (after_first_act (r n)) m h));
        shared_is = out.shared_is;
        ends_are = out.ends_are;
        gone = out.gone;
        closed = out.closed;
      }

  entry_step : (H : List (Entry E V A)) (w : State X T) (q : ℕ → Place A) (r : ℕ → List (Step E V A)) (n : ℕ) (act : Act E V A)
      → Going w q r (record { thread = n; act = act } ∷ H) → From H
      → Rest s w q r ends (record { thread = n; act = act } ∷ H) (schedule_of (record { thread = n; act = act } ∷ H) r)
  entry_step H w q r n (Made e v) g ih = did H w q r n e v g ih
  entry_step H w q r n (Heard a) g ih = took_answer H w q r n a g ih

  nothing_left : (p : Place A) (t : T) (m : ℕ) (r : List (Step E V A)) → IsClosed p
      → Stands s (steps m) (ends m) p t r → acts r ≡ [] → (p ≡ Unstarted → steps m ≡ [])
      → due_step {E = E} {V = V} p ++ [] ≡ r
  nothing_left Unstarted t m r c h e idle = sym (h ∙ idle refl)
  nothing_left Free t m r c h e idle = sym (ended s laws r t (ends m) h e).1
  nothing_left Open t m r c h e idle = absurd c
  nothing_left (Due a) t m r c h e idle = absurd c

  -- who has lived to its end has no open question
  closed_end : (p : Place A) (t end : T) (st r : List (Step E V A)) → Stands s st end p t r → acts r ≡ [] → IsClosed p
  closed_end Unstarted t end st r h e = tt
  closed_end Free t end st r h e = tt
  closed_end Open t end st r h e = not_done s laws r t end (λ g. cc (h.0, g)) h.1 e
  closed_end (Due a) t end st r h e = not_done s laws r h.0 end (λ g. cc (h.2, g)) h.3 e

  from : (H : List (Entry E V A)) → From H
  from [] w q r g = record {
    ordered = tt;
    events_are = refl;
    views_are = λ m. nothing_left (q m) (w.threads m) m (r m)
        (closed_end (q m) (w.threads m) (ends m) (steps m) (r m) (g.stands m) (g.owned m)) (g.stands m) (g.owned m)
        (g.idle m);
    shared_is = refl;
    closed = λ m. closed_end (q m) (w.threads m) (ends m) (steps m) (r m) (g.stands m) (g.owned m);
    gone = λ m h. run_gone s (r m) (w.threads m) (ends m) (subst (λ z. Stands s (steps m) (ends m) z (w.threads m) (r m)) h (g.stands m));
    ends_are = λ m h. (ended s laws (r m) (w.threads m) (ends m) (subst (λ z. Stands s (steps m) (ends m) z (w.threads m) (r m)) h (g.stands m)) (g.owned m)).0;
  }
  from (e ∷ H) w q r g = entry_step H w q r e.thread e.act g (from H)

  no_step_due : (p : Place A) (r : List (Step E V A)) → IsClosed p → due_step p ++ r ≡ r
  no_step_due Unstarted r h = refl
  no_step_due Free r h = refl
  no_step_due Open r h = absurd h
  no_step_due (Due a) r h = absurd h

  pub stands_first : (p : Place A) (t end : T) (r : List (Step E V A)) → IsClosed p → (p ≡ Free → IsThreadRun s t r end) → Stands s r end p t r
  stands_first Unstarted t end r c h = refl
  stands_first Free t end r c h = h refl
  stands_first Open t end r c h = absurd c
  stands_first (Due a) t end r c h = absurd c

  free_once_started : (p : Place A) → IsClosed p → p ≢ Unstarted → p ≡ Free
  free_once_started Unstarted c h = absurd (h refl)
  free_once_started Free c h = refl
  free_once_started Open c h = absurd c
  free_once_started (Due a) c h = absurd c

  module _ (w : State X T) (q : ℕ → Place A) (H : List (Entry E V A)) (run : ThreadsRun s w q steps ends H) where
    whole : Rest s w q steps ends H (schedule_of H steps)
    whole =
        from H w q steps (record {
          legal = run.legal;
          stands = λ m. stands_first (q m) (w.threads m) (ends m) (steps m) (run.closed m) (run.runs m);
          starts = run.started;
          owned = run.entries;
          idle = run.no_steps;
        })

    pub free_at_last : (m : ℕ) → places_after s w.shared q H m ≢ Unstarted → places_after s w.shared q H m ≡ Free
    free_at_last m h = free_once_started (places_after s w.shared q H m) (whole.closed m) h

    -- these marks make of each thread exactly its steps
    makes_steps : (m : ℕ) → steps_made s m w (schedule_of H steps) ≡ steps m
    makes_steps m = sym (no_step_due (q m) (steps_made s m w (schedule_of H steps)) (run.closed m)) ∙ whole.views_are m

    pub one_schedule : IsOneSchedule s w q steps ends H (schedule_of H steps)
    one_schedule = record {
      makes = record { events = whole.events_are; answers = λ m. ap acts (makes_steps m) ∙ run.entries m };
      makes_steps = makes_steps;
      gives = record { shared = whole.shared_is; threads = λ m h. whole.ends_are m (free_at_last m h) };
      gone = λ m h. ap s.wants (whole.ends_are m (free_at_last m h)) ∙ whole.gone m (free_at_last m h);
      ordered = whole.ordered;
    }
