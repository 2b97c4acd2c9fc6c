-- The steps that a list of marks makes of each thread.
use Rattle.std.proofs.Common.{◌≡◌, ◌≢◌, ℕ, ◌==◌, Bool, true, false, cond, List, [], ◌∷◌, ◌++◌, refl, sym, ◌∙◌, ap, subst, Option, Some, None}
use mathlib.Core.Path.{fun_ext}
use Rattle.schedule.proofs.Standing.{Facts}
use Rattle.schedule.specs.Histories.{IsFreeAt, IsLegalEntry, IsLegalHistory, IsOrdered, Place, Place.Due, Place.Free}
use Rattle.schedule.specs.Histories.{Place.Open, Place.Unstarted, if_made, next_places, next_shared, placed}
use Rattle.schedule.specs.Histories.{starts_at, without_answers}
use Rattle.schedule.specs.Scheduled.{after_event, after_turn, entries_by, entries_made, full_step, heard_step}
use Rattle.schedule.specs.Scheduled.{hears_any, if_may, lost_step, or_started, scheduled_run, steps_by, steps_made}
use Rattle.schedule.specs.Scheduled.{with_thread}
use Rattle.schedule.specs.System.{Act, Act.Heard, Act.Made, Entry, Kind, Kind.Fills, Kind.Loses, Kind.Turn, Mark}
use Rattle.schedule.specs.System.{State, Step, Step.Acts, Step.Full, Step.Lost, Step.Own, System, Want, Want.Awaits}
use Rattle.schedule.specs.System.{Want.Calls, Want.Gone, Want.Turns, put}
use Rattle.schedule.specs.ThreadRun.{Fits, IsThreadRun, Reaches, after_step}
use Rattle.schedule.proofs.Basics.{same_is, other_is, at_each, put-same, put-other}

module _ {A : Type 0} where
  -- where answers are taken at once, none is due
  abbrev pub flat : Place A → Place A
  flat Unstarted = Unstarted
  flat Free = Free
  flat Open = Open
  flat (Due a) = Free

  flat-placed : {B : Type 0} (st : Option B) (gv : Option A) (o : Bool) (p : Place A) → flat (placed st gv o p) ≡ flat (placed st gv o (flat p))
  flat-placed (Some x) gv o p = refl
  flat-placed None (Some a) o p = refl
  flat-placed None None true p = refl
  flat-placed None None false Unstarted = refl
  flat-placed None None false Free = refl
  flat-placed None None false Open = refl
  flat-placed None None false (Due a) = refl

abbrev pub first_some : {B : Type 0} → Option B → Option B → Option B
first_some (Some x) b = Some x
first_some None b = b

module _ {X T E V A : Type 0} (s : System X T E V A) where
  abbrev pub FEnters : X → (ℕ → Place A) → ℕ → Act E V A → Type 0
  FEnters x q n (Made e v) =
      (q n ≡ Free) × (v ≡ s.reply x n e)
      × ((m : ℕ) (t : T) → s.starts x n e m ≡ Some t → q m ≡ Unstarted)
      × ((m : ℕ) (a : A) → s.gives x n e m ≡ Some a → (m ≢ n → q m ≡ Open) × (m ≡ n → s.opens e v ≡ true))
  FEnters x q n (Heard a) = ⊥

  abbrev pub FLegal : X → (ℕ → Place A) → List (Entry E V A) → Type 0
  FLegal x q [] = Unit {0}
  FLegal x q (e ∷ G) = FEnters x q e.thread e.act × FLegal (next_shared s x e.thread e.act) (λ m. flat (next_places s x q e.thread e.act m)) G

  legal_did : (x : X) (q : ℕ → Place A) (n : ℕ) (e : E) (v : V) → q n ≡ Free → IsLegalEntry s x q n (Made e v) → FEnters x (λ m. flat (q m)) n (Made e v)
  legal_did x q n e v free h = (ap flat free, h.1, (λ m t k. ap flat (h.2 m t k)), (λ m a k. ((λ z. ap flat ((h.3 m a k).0 z)), (h.3 m a k).1)))

  legal_step : (x : X) (q : ℕ → Place A) (n : ℕ) (act : Act E V A) (H : List (Entry E V A)) → IsLegalEntry s x q n act → IsFreeAt s q n act
      → FLegal (next_shared s x n act) (λ m. flat (next_places s x q n act m)) (without_answers H)
      → FLegal x (λ m. flat (q m)) (if_made n act (without_answers H))
  legal_step x q n (Made e v) H h free l = (
    legal_did x q n e v free h,
    subst (λ z. FLegal (s.after x n e) z (without_answers H))
        (fun_ext (λ m. flat-placed (s.starts x n e m) (s.gives x n e m) (put (λ (j : ℕ). false) n (s.opens e v) m)
        (q m))) l,
  )
  legal_step x q n (Heard a) H h free l =
      subst (λ z. FLegal x z (without_answers H))
      (fun_ext (at_each n (λ m. flat (put q n Free m) ≡ flat (q m)) (ap flat (put-same q n Free) ∙ sym (ap flat h))
      (λ m k. ap flat (put-other q n Free m k)))) l

  pub legal_flat : (H : List (Entry E V A)) (x : X) (q : ℕ → Place A) → IsLegalHistory s x q H → IsOrdered s x q H
      → FLegal x (λ m. flat (q m)) (without_answers H)
  legal_flat [] x q h o = tt
  legal_flat (e ∷ H) x q h o = legal_step x q e.thread e.act H h.0 o.0 (legal_flat H (next_shared s x e.thread e.act)
      (next_places s x q e.thread e.act) h.1 o.1)

  pub run_of_path : (r : List (Step E V A)) (t f : T) → Reaches s t r f → s.wants f ≡ Gone → IsThreadRun s t r f
  run_of_path [] t f p g = (ap s.wants p ∙ g, p)
  run_of_path (x ∷ r) t f p g = (p.0, run_of_path r (after_step s t x) f p.1 g)

  -- the thread that a history starts under this number
  abbrev pub start_of : ℕ → X → List (Entry E V A) → Option T
  start_of m x [] = None
  start_of m x (e ∷ G) = first_some (starts_at s m x e.thread e.act) (start_of m (next_shared s x e.thread e.act) G)

  abbrev pub Ready : Place A → T → Type 0
  Ready Unstarted t = s.wants t ≡ Gone
  Ready Free t = Unit {0}
  Ready Open t = s.wants t ≡ Awaits
  Ready (Due a) t = ⊥

  -- from a thread to what it is at the end, by the steps that were made of it
  abbrev pub StartsSo : Option T → T → T → List (Step E V A) → Type 0
  StartsSo None t f r = Unit {0}
  StartsSo (Some x) t f r = Reaches s x r f

  abbrev pub Ext : Place A → T → T → List (Step E V A) → Option T → Type 0
  Ext Unstarted t f r b = StartsSo b t f r
  Ext Free t f r b = Reaches s t r f
  Ext Open t f r b = Reaches s t r f
  Ext (Due a) t f r b = Unit {0}

  ext_nil : (p : Place A) (t : T) → Ext p t t [] None
  ext_nil Unstarted t = tt
  ext_nil Free t = refl
  ext_nil Open t = refl
  ext_nil (Due a) t = tt

  -- an event of another
  record Passes (p p2 : Place A) (t t2 : T) (r1 : List (Step E V A)) (st : Option T) : Type 0 where
    ready : Ready p2 t2
    ext : (f : T) (r : List (Step E V A)) (b : Option T) → Ext p2 t2 f r b → Ext p t f (r1 ++ r) (first_some st b)

  pass_same : (p : Place A) (t : T) → Ready p t → Passes p (flat p) t t [] None
  pass_same Unstarted t h = record { ready = h; ext = λ f r b k. k }
  pass_same Free t h = record { ready = h; ext = λ f r b k. k }
  pass_same Open t h = record { ready = h; ext = λ f r b k. k }
  pass_same (Due a) t h = absurd h

  pass_other : (st : Option T) (gv : Option A) (p : Place A) (t : T) → ((x : T) → st ≡ Some x → p ≡ Unstarted) → ((a : A) → gv ≡ Some a → p ≡ Open) → Ready p t
      → Passes p (flat (placed st gv false p)) t (or_started st (hears_any s t gv)) (heard_step s gv) st
  pass_other (Some x) None p t hs hg h =
      subst (λ z. Passes z Free t x [] (Some x)) (sym (hs x refl)) (record { ready = tt; ext = λ f r b k. k })
  pass_other (Some x) (Some a) p t hs hg h = absurd (cc (hs x refl, hg a refl))
  pass_other None (Some a) p t hs hg h =
      let aw : s.wants t ≡ Awaits = subst (λ z. Ready z t) (hg a refl) h in
      subst (λ z. Passes z Free t (s.hears t a) (Acts (Heard a) ∷ []) None) (sym (hg a refl)) (record { ready = tt; ext = λ f r b k. (aw, k) })
  pass_other None None p t hs hg h = pass_same p t h

  -- an event of its own
  pass_here : (st : Option T) (gv : Option A) (o : Bool) (t : T) (e : E) (v : V) → s.wants t ≡ Calls e
      → ((x : T) → st ≡ Some x → ⊥) → ((a : A) → gv ≡ Some a → o ≡ true)
      → (o ≡ true → s.wants (s.takes t v) ≡ Awaits)
      → Passes Free (flat (placed st gv o Free)) t (or_started st (hears_any s (s.takes t v) gv))
      (Acts (Made e v) ∷ heard_step s gv) st
  pass_here (Some x) gv o t e v want hs hg ho = absurd (hs x refl)
  pass_here None (Some a) o t e v want hs hg ho = record { ready = tt; ext = λ f r b k. (want, (ho (hg a refl), k)) }
  pass_here None None true t e v want hs hg ho = record { ready = ho refl; ext = λ f r b k. (want, k) }
  pass_here None None false t e v want hs hg ho = record { ready = tt; ext = λ f r b k. (want, k) }

  still : (p : Place A) (t : T) → Ready p t → Passes p p t t [] None
  still Unstarted t h = record { ready = h; ext = λ f r b k. k }
  still Free t h = record { ready = h; ext = λ f r b k. k }
  still Open t h = record { ready = h; ext = λ f r b k. k }
  still (Due a) t h = absurd h

  moves : (p : Place A) (t : T) (x : Step E V A) → Ready p t → Fits s t x → (s.wants t ≡ Gone → ⊥)
      → (s.wants t ≡ Awaits → ⊥) → Passes p p t (after_step s t x) (x ∷ []) None
  moves Unstarted t x h fits ng na = absurd (ng h)
  moves Free t x h fits ng na = record { ready = tt; ext = λ f r b k. (fits, k) }
  moves Open t x h fits ng na = absurd (na h)
  moves (Due a) t x h fits ng na = absurd h

  passes_by : (p p' p2 p2' : Place A) (t t2 t2' : T) (r1 r1' : List (Step E V A)) (st : Option T) → p ≡ p' → p2 ≡ p2' → t2 ≡ t2' → r1 ≡ r1'
      → Passes p p2 t t2 r1 st → Passes p' p2' t t2' r1' st
  passes_by p p' p2 p2' t t2 t2' r1 r1' st e e2 et er h =
      subst (λ z. Passes p' p2' t t2' z st) er
      (subst (λ z. Passes p' p2' t z r1 st) et
      (subst (λ z. Passes p' z t t2 r1 st) e2 (subst (λ z. Passes z p2 t t2 r1 st) e h)))

  abbrev Ex : List Mark → Type 0
  Ex S = (w : State X T) (q : ℕ → Place A) → FLegal w.shared q (entries_made s w S) → ((m : ℕ) → Ready (q m) (w.threads m))
      → (m : ℕ) → Ext (q m) (w.threads m) ((scheduled_run s w S).threads m) (steps_made s m w S) (start_of m w.shared (entries_made s w S))

  moved_case : (S : List Mark) (w : State X T) (n : ℕ) (q : ℕ → Place A) (x : Step E V A) → Fits s (w.threads n) x
      → (s.wants (w.threads n) ≡ Gone → ⊥) → (s.wants (w.threads n) ≡ Awaits → ⊥)
      → FLegal w.shared q (entries_made s (with_thread s w n (after_step s (w.threads n) x)) S) → ((m : ℕ) → Ready (q m) (w.threads m)) → Ex S
      → (m : ℕ) → Ext (q m) (w.threads m) ((scheduled_run s (with_thread s w n (after_step s (w.threads n) x)) S).threads m)
      (cond (n == m) (x ∷ []) [] ++ steps_made s m (with_thread s w n (after_step s (w.threads n) x)) S)
      (start_of m w.shared (entries_made s (with_thread s w n (after_step s (w.threads n) x)) S))
  moved_case S w n q x fits ng na l ready ih =
      let t2 : T = after_step s (w.threads n) x in
      let w2 : State X T = with_thread s w n t2 in
      let pass : (m : ℕ) → Passes (q m) (q m) (w.threads m) (w2.threads m) (cond (n == m) (x ∷ []) []) None =
      at_each n (λ m. Passes (q m) (q m) (w.threads m) (w2.threads m) (cond (n == m) (x ∷ []) []) None)
      (passes_by (q n) (q n) (q n) (q n) (w.threads n) t2 (w2.threads n) (x ∷ []) (cond (n == n) (x ∷ []) []) None refl refl (sym (put-same w.threads n t2))
      (sym (ap (λ b. cond b (x ∷ []) []) (same_is n))) (moves (q n) (w.threads n) x (ready n) fits ng na))
      (λ m h. passes_by (q m) (q m) (q m) (q m) (w.threads m) (w.threads m)
      (w2.threads m) [] (cond (n == m) (x ∷ []) []) None refl refl (sym (put-other w.threads n t2 m h))
      (sym (ap (λ b. cond b (x ∷ []) []) (other_is n m (λ z. h (sym z))))) (still (q m) (w.threads m) (ready m))) in
      λ m. (pass m).ext ((scheduled_run s w2 S).threads m) (steps_made s m w2 S) (start_of m w.shared (entries_made s w2 S)) (ih w2 q l (λ j. (pass j).ready) m)

module _ {X T E V A : Type 0} (s : System X T E V A) (laws : Facts s) where
  called_case : (S : List Mark) (w : State X T) (n : ℕ) (q : ℕ → Place A) (e : E) → s.wants (w.threads n) ≡ Calls e
      → FEnters s w.shared q n (Made e (s.reply w.shared n e))
      → FLegal s (s.after w.shared n e) (λ m. flat (next_places s w.shared q n (Made e (s.reply w.shared n e)) m)) (entries_made s (after_event s w n e) S)
      → ((m : ℕ) → Ready s (q m) (w.threads m)) → Ex s S
      → (m : ℕ) → Ext s (q m) (w.threads m) ((scheduled_run s (after_event s w n e) S).threads m)
      ((cond (n == m) (Acts (Made e (s.reply w.shared n e)) ∷ []) [] ++ heard_step s (s.gives w.shared n e m)) ++ steps_made s m (after_event s w n e) S)
      (first_some (s.starts w.shared n e m) (start_of s m (s.after w.shared n e) (entries_made s (after_event s w n e) S)))
  called_case S w n q e want en l ready ih =
      let v : V = s.reply w.shared n e in
      let w2 : State X T = after_event s w n e in
      let q2 : ℕ → Place A = λ m. flat (next_places s w.shared q n (Made e v) m) in
      let o : Bool = s.opens e v in
      let st : ℕ → Option T = λ m. s.starts w.shared n e m in
      let gv : ℕ → Option A = λ m. s.gives w.shared n e m in
      let r1 : ℕ → List (Step E V A) = λ m. cond (n == m) (Acts (Made e v) ∷ []) [] ++ heard_step s (gv m) in
      let t2 : T = s.takes (w.threads n) v in
      let pass : (m : ℕ) → Passes s (q m) (q2 m) (w.threads m) (w2.threads m) (r1 m) (st m) =
      at_each n (λ m. Passes s (q m) (q2 m) (w.threads m) (w2.threads m) (r1 m) (st m))
      (passes_by s Free (q n) (flat (placed (st n) (gv n) o Free)) (q2 n) (w.threads n)
      (or_started (st n) (hears_any s t2 (gv n))) (w2.threads n) (Acts (Made e v) ∷ heard_step s (gv n)) (r1 n)
      (st n)
      (sym en.0)
      (λ i. flat (placed (st n) (gv n) (sym (put-same (λ (j : ℕ). false) n o) i) (sym en.0 i)))
      (ap (λ z. or_started (st n) (hears_any s z (gv n))) (sym (put-same w.threads n t2)))
      (sym (ap (λ b. cond b (Acts (Made e v) ∷ []) [] ++ heard_step s (gv n)) (same_is n)))
      (pass_here s (st n) (gv n) o (w.threads n) e v want (λ x z. cc (en.0, en.2 n x z)) (λ a z. (en.3 n a z).1 refl)
      (λ z. laws.opened (w.threads n) e v want z)))
      (λ m h. passes_by s (q m) (q m) (flat (placed (st m) (gv m) false (q m))) (q2 m) (w.threads m)
      (or_started (st m) (hears_any s (w.threads m) (gv m))) (w2.threads m) (heard_step s (gv m)) (r1 m) (st m)
      refl
      (λ i. flat (placed (st m) (gv m) (sym (put-other (λ (j : ℕ). false) n o m h) i) (q m)))
      (ap (λ z. or_started (st m) (hears_any s z (gv m))) (sym (put-other w.threads n t2 m h)))
      (sym (ap (λ b. cond b (Acts (Made e v) ∷ []) [] ++ heard_step s (gv m)) (other_is n m (λ z. h (sym z)))))
      (pass_other s (st m) (gv m) (q m) (w.threads m) (λ x z. en.2 m x z) (λ a z. (en.3 m a z).0 h) (ready m))) in
      λ m. (pass m).ext ((scheduled_run s w2 S).threads m) (steps_made s m w2 S)
      (start_of s m (s.after w.shared n e) (entries_made s w2 S)) (ih w2 q2 l (λ j. (pass j).ready) m)

  at_turn : (S : List Mark) (w : State X T) (n : ℕ) (q : ℕ → Place A) (want : Want E) → s.wants (w.threads n) ≡ want
      → FLegal s w.shared q (entries_by s w n want ++ entries_made s (after_turn s w n want) S) → ((m : ℕ) → Ready s (q m) (w.threads m)) → Ex s S
      → (m : ℕ) → Ext s (q m) (w.threads m) ((scheduled_run s (after_turn s w n want) S).threads m)
      (steps_by s m w n want ++ steps_made s m (after_turn s w n want) S)
      (start_of s m w.shared (entries_by s w n want ++ entries_made s (after_turn s w n want) S))
  at_turn S w n q Turns is l ready ih = moved_case s S w n q Own is (λ z. cc (z, is)) (λ z. cc (z, is)) l ready ih
  at_turn S w n q (Calls e) is l ready ih = called_case S w n q e is l.0 l.1 ready ih
  at_turn S w n q Awaits is l ready ih = ih w q l ready
  at_turn S w n q Gone is l ready ih = ih w q l ready

  at_loses : (S : List Mark) (w : State X T) (n : ℕ) (q : ℕ → Place A) (b : Bool) (want : Want E) → s.may_lose (w.threads n) ≡ b → s.wants (w.threads n) ≡ want
      → let w2 = if_may s b (with_thread s w n (s.lost (w.threads n))) w in
      FLegal s w.shared q (entries_made s w2 S) → ((m : ℕ) → Ready s (q m) (w.threads m)) → Ex s S
      → (m : ℕ) → Ext s (q m) (w.threads m) ((scheduled_run s w2 S).threads m)
      (cond b (cond (n == m) (lost_step s want) []) [] ++ steps_made s m w2 S)
      (start_of s m w.shared (entries_made s w2 S))
  at_loses S w n q true Turns is wis l ready ih = absurd (laws.lose_turns (w.threads n) is wis)
  at_loses S w n q true (Calls e) is wis l ready ih = moved_case s S w n q (Lost e) (wis, is) (λ z. cc (wis, z)) (λ z. cc (wis, z)) l ready ih
  at_loses S w n q true Awaits is wis l ready ih = absurd (cc (laws.awaits_lose (w.threads n) wis, is))
  at_loses S w n q true Gone is wis l ready ih = absurd (cc (laws.gone_lose (w.threads n) wis, is))
  at_loses S w n q false want is wis l ready ih = ih w q l ready

  at_fills : (S : List Mark) (w : State X T) (n : ℕ) (q : ℕ → Place A) (b : Bool) (want : Want E) → s.may_fill (w.threads n) ≡ b → s.wants (w.threads n) ≡ want
      → let w2 = if_may s b (with_thread s w n (s.full (w.threads n))) w in
      FLegal s w.shared q (entries_made s w2 S) → ((m : ℕ) → Ready s (q m) (w.threads m)) → Ex s S
      → (m : ℕ) → Ext s (q m) (w.threads m) ((scheduled_run s w2 S).threads m)
      (cond b (cond (n == m) (full_step s want) []) [] ++ steps_made s m w2 S)
      (start_of s m w.shared (entries_made s w2 S))
  at_fills S w n q true Turns is wis l ready ih = absurd (laws.fill_turns (w.threads n) is wis)
  at_fills S w n q true (Calls e) is wis l ready ih = moved_case s S w n q (Full e) (wis, is) (λ z. cc (wis, z)) (λ z. cc (wis, z)) l ready ih
  at_fills S w n q true Awaits is wis l ready ih = absurd (cc (laws.awaits_fill (w.threads n) wis, is))
  at_fills S w n q true Gone is wis l ready ih = absurd (cc (laws.gone_fill (w.threads n) wis, is))
  at_fills S w n q false want is wis l ready ih = ih w q l ready

  at_mark : (S : List Mark) (w : State X T) (n : ℕ) (k : Kind) (q : ℕ → Place A) → FLegal s w.shared q (entries_made s w (record { thread = n; kind = k } ∷ S))
      → ((m : ℕ) → Ready s (q m) (w.threads m)) → Ex s S
      → (m : ℕ) → Ext s (q m) (w.threads m) ((scheduled_run s w (record { thread = n; kind = k } ∷ S)).threads m)
      (steps_made s m w (record { thread = n; kind = k } ∷ S))
      (start_of s m w.shared (entries_made s w (record { thread = n; kind = k } ∷ S)))
  at_mark S w n Turn q l ready ih = at_turn S w n q (s.wants (w.threads n)) refl l ready ih
  at_mark S w n Loses q l ready ih = at_loses S w n q (s.may_lose (w.threads n)) (s.wants (w.threads n)) refl refl l ready ih
  at_mark S w n Fills q l ready ih = at_fills S w n q (s.may_fill (w.threads n)) (s.wants (w.threads n)) refl refl l ready ih

  pub seen : (S : List Mark) → Ex s S
  seen [] w q l ready = λ m. ext_nil s (q m) (w.threads m)
  seen (k ∷ S) w q l ready = at_mark S w k.thread k.kind q l ready (seen S)
