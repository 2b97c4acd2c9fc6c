-- Turns of threads keep the laws of plain turns.
use Rattle.std.proofs.Common.{◌≡◌, ◌≢◌, ◌⊎◌, inl, inr, ℕ, refl, sym, ◌∙◌, ap, subst, Option, Some, None}
use Rattle.std.proofs.lemmas.Option.{same_Some, none-some}
use Rattle.schedule.specs.System.{Want, Want.Turns, Want.Calls, Want.Awaits, Want.Gone, System, State, put}
use Rattle.schedule.specs.Scheduled.{after_turn, after_event}
use Rattle.schedule.proofs.Basics.{put-other}
use Rattle.search_reach.proofs.Paths.{one_step, onward}
use Rattle.search_settled.specs.Settled.{StepsBy, IsReached, AreTame}
use Rattle.search_settled.proofs.Orderly.{event_leaves}
use Rattle.search_settled.specs.declared.access.NextAccess.{NextAccess}
use Rattle.search_settled.specs.Accesses.{IsPlain, Conflict}
use Rattle.search_race_free.specs.Wanted.{own_turn, access_by, next_access, after_next, AreIndependent, WantsPlain, ArePlain}
use Rattle.search_race_free.proofs.Moving.{PlainLaws}
use Rattle.search_race_free.proofs.Quiet.{quiet_event, swap_turn, swap_event}

module _ {X T E V A : Type 0} (s : System X T E V A) (accesses : X → T → E → NextAccess) where
  -- A thread that can go on wants a turn of its own or an event.
  pub going_on : (w : State X T) (t : ℕ) (a : NextAccess) → next_access s accesses w t ≡ Some a
      → ((s.wants (w.threads t) ≡ Turns) × (own_turn ≡ a)) ⊎ ((f : E) × (s.wants (w.threads t) ≡ Calls f) × (accesses w.shared (w.threads t) f ≡ a))
  going_on w t a h = by (s.wants (w.threads t)) refl
    where
      by : (want : Want E) → s.wants (w.threads t) ≡ want
          → ((s.wants (w.threads t) ≡ Turns) × (own_turn ≡ a)) ⊎ ((f : E) × (s.wants (w.threads t) ≡ Calls f) × (accesses w.shared (w.threads t) f ≡ a))
      by Turns is = inl (is, same_Some own_turn a (sym (ap (access_by s accesses w.shared (w.threads t)) is) ∙ h))
      by (Calls f) is = inr (f, is, same_Some (accesses w.shared (w.threads t) f) a (sym (ap (access_by s accesses w.shared (w.threads t)) is) ∙ h))
      by Awaits is = absurd (none-some a (sym (ap (access_by s accesses w.shared (w.threads t)) is) ∙ h))
      by Gone is = absurd (none-some a (sym (ap (access_by s accesses w.shared (w.threads t)) is) ∙ h))

  pub turn_access : (w : State X T) (t : ℕ) → s.wants (w.threads t) ≡ Turns → next_access s accesses w t ≡ Some own_turn
  turn_access w t is = ap (access_by s accesses w.shared (w.threads t)) is

  pub event_access : (w : State X T) (t : ℕ) (f : E) → s.wants (w.threads t) ≡ Calls f → next_access s accesses w t ≡ Some (accesses w.shared (w.threads t) f)
  event_access w t f is = ap (access_by s accesses w.shared (w.threads t)) is

  -- what another thread does next is decided by it, and by what is shared
  access_of : (x : X) (t u : T) → t ≡ u → access_by s accesses x t (s.wants t) ≡ access_by s accesses x u (s.wants u)
  access_of x t u same = ap (λ v. access_by s accesses x v (s.wants v)) same

  module _ (first : State X T) (most : ℕ) (tame : AreTame s first most) (plain : ArePlain s accesses first) where
    pub reaches_next : (w : State X T) (t : ℕ) → IsReached s first w → IsReached s first (after_next s w t)
    reaches_next w t r = onward (StepsBy s) first w (after_next s w t) r (one_step (StepsBy s) w (after_next s w t) (t, refl))

    not_told : (w : State X T) (u t : ℕ) (g : E) → IsReached s first w → s.wants (w.threads u) ≡ Calls g → t ≢ u → (s.wants (w.threads t) ≡ Awaits → ⊥)
        → s.gives w.shared u g t ≡ None
    not_told w u t g r calls d busy = by (s.gives w.shared u g t) refl
      where
        by : (o : Option A) → s.gives w.shared u g t ≡ o → s.gives w.shared u g t ≡ None
        by None is = is
        by (Some a) is = absurd (busy (tame.answers w r u t g a calls is d))

    not_started : (w : State X T) (u t : ℕ) (g : E) → IsReached s first w → s.wants (w.threads u) ≡ Calls g → (s.wants (w.threads t) ≡ Gone → ⊥)
        → s.starts w.shared u g t ≡ None
    not_started w u t g r calls here = by (s.starts w.shared u g t) refl
      where
        by : (o : Option T) → s.starts w.shared u g t ≡ o → s.starts w.shared u g t ≡ None
        by None is = is
        by (Some v) is = absurd (here (tame.starts w r u t g v calls is))

    -- A turn of another leaves a thread as it was that neither awaits nor is gone.
    leaves_by : (w : State X T) (u t : ℕ) (want : Want E) → IsReached s first w → s.wants (w.threads u) ≡ want → t ≢ u
        → (s.wants (w.threads t) ≡ Awaits → ⊥) → (s.wants (w.threads t) ≡ Gone → ⊥) → (after_turn s w u want).threads t ≡ w.threads t
    leaves_by w u t Turns r is d busy here = put-other w.threads u (s.own_turn (w.threads u)) t d
    leaves_by w u t (Calls g) r is d busy here = event_leaves s w u t g (tame.answers w r) (tame.starts w r) is d busy here
    leaves_by w u t Awaits r is d busy here = refl
    leaves_by w u t Gone r is d busy here = refl

    busy_by : (w : State X T) (t : ℕ) (a : NextAccess) → next_access s accesses w t ≡ Some a → s.wants (w.threads t) ≡ Awaits → ⊥
    busy_by w t a h is = none-some a (sym (ap (access_by s accesses w.shared (w.threads t)) is) ∙ h)

    here_by : (w : State X T) (t : ℕ) (a : NextAccess) → next_access s accesses w t ≡ Some a → s.wants (w.threads t) ≡ Gone → ⊥
    here_by w t a h is = none-some a (sym (ap (access_by s accesses w.shared (w.threads t)) is) ∙ h)

    pub leaves : (w : State X T) (u t : ℕ) (a : NextAccess) → IsReached s first w → t ≢ u → next_access s accesses w t ≡ Some a
        → (after_next s w u).threads t ≡ w.threads t
    leaves w u t a r d h = leaves_by w u t (s.wants (w.threads u)) r refl d (busy_by w t a h) (here_by w t a h)

    -- A plain event of a thread, and what comes of it.
    plain_of : (w : State X T) (t : ℕ) (f : E) (a : NextAccess) → IsReached s first w → s.wants (w.threads t) ≡ Calls f → accesses w.shared (w.threads t) f ≡ a
        → IsPlain a → WantsPlain s accesses first w t f
    plain_of w t f a r calls is p = record { reached = r; wants = calls; plain = ap (λ (b : NextAccess). b.plain) is ∙ p }

    quiet_plain : (w : State X T) (t : ℕ) (f : E) → WantsPlain s accesses first w t f
        → after_event s w t f ≡ record { shared = s.after w.shared t f; threads = put w.threads t (s.takes (w.threads t) (s.reply w.shared t f)) }
    quiet_plain w t f h = quiet_event s w t f (plain.gives w t f h) (plain.starts w t f h)

    -- What another thread does after a plain turn: it is as it was, and of what it does with the memory only what
    -- conflicts with that turn may be another.
    record SharedAfter (w : State X T) (a : NextAccess) (u : ℕ) (z : State X T) : Type 0 where
      x : X
      next : next_access s accesses z u ≡ access_by s accesses x (w.threads u) (s.wants (w.threads u))
      same : (v : T) (f : E) → (Conflict (accesses w.shared v f) a → ⊥) → accesses x v f ≡ accesses w.shared v f
      still : (v : T) (f : E) → Conflict (accesses w.shared v f) a → Conflict (accesses x v f) a

    shared_after : (w : State X T) (t u : ℕ) (a : NextAccess) → IsReached s first w → u ≢ t → next_access s accesses w t ≡ Some a → IsPlain a
        → SharedAfter w a u (after_next s w t)
    shared_after w t u a r d h p = by (going_on w t a h)
      where
        by : ((s.wants (w.threads t) ≡ Turns) × (own_turn ≡ a)) ⊎ ((f : E) × (s.wants (w.threads t) ≡ Calls f) × (accesses w.shared (w.threads t) f ≡ a))
            → SharedAfter w a u (after_next s w t)
        by (inl o) = record {
          x = w.shared;
          next = ap (λ z. next_access s accesses z u) (ap (after_turn s w t) o.0)
              ∙ access_of w.shared (put w.threads t (s.own_turn (w.threads t)) u) (w.threads u) (put-other w.threads t (s.own_turn (w.threads t)) u d);
          same = λ v f clear. refl;
          still = λ v f c. c;
        }
        by (inr o) =
            let is = plain_of w t o.0 a r o.1 o.2 p in
            let v = s.takes (w.threads t) (s.reply w.shared t o.0) in
            record {
              x = s.after w.shared t o.0;
              next = ap (λ z. next_access s accesses z u) (ap (after_turn s w t) o.1 ∙ quiet_plain w t o.0 is)
                  ∙ access_of (s.after w.shared t o.0) (put w.threads t v u) (w.threads u) (put-other w.threads t v u d);
              same = λ q f clear. plain.same w t o.0 is q f (λ c. clear (subst (Conflict (accesses w.shared q f)) o.2 c));
              still = λ q f c. subst (Conflict (accesses (s.after w.shared t o.0) q f)) o.2
                  (plain.still w t o.0 is q f (subst (Conflict (accesses w.shared q f)) (sym o.2) c));
            }

    -- by what a thread wants
    module _ (w : State X T) (a : NextAccess) (u : ℕ) (z : State X T) (h : SharedAfter w a u z) where
      before : (want : Want E) → s.wants (w.threads u) ≡ want → next_access s accesses w u ≡ access_by s accesses w.shared (w.threads u) want
      before want is = ap (access_by s accesses w.shared (w.threads u)) is

      then : (want : Want E) → s.wants (w.threads u) ≡ want → next_access s accesses z u ≡ access_by s accesses h.x (w.threads u) want
      then want is = h.next ∙ ap (access_by s accesses h.x (w.threads u)) is

      same_by : (f : NextAccess) → (Conflict f a → ⊥) → next_access s accesses w u ≡ Some f → (want : Want E) → s.wants (w.threads u) ≡ want
          → next_access s accesses z u ≡ Some f
      same_by f clear wants Turns is = then Turns is ∙ (sym (before Turns is) ∙ wants)
      same_by f clear wants (Calls g) is =
          let mine : accesses w.shared (w.threads u) g ≡ f = same_Some (accesses w.shared (w.threads u) g) f (sym (before (Calls g) is) ∙ wants) in
          then (Calls g) is ∙ ap (λ b. Some b) (h.same (w.threads u) g (λ c. clear (subst (λ b. Conflict b a) mine c)) ∙ mine)
      same_by f clear wants Awaits is = then Awaits is ∙ (sym (before Awaits is) ∙ wants)
      same_by f clear wants Gone is = then Gone is ∙ (sym (before Gone is) ∙ wants)

      back_by : (f : NextAccess) → (Conflict f a → ⊥) → next_access s accesses z u ≡ Some f → (want : Want E) → s.wants (w.threads u) ≡ want
          → next_access s accesses w u ≡ Some f
      back_by f clear wants Turns is = before Turns is ∙ (sym (then Turns is) ∙ wants)
      back_by f clear wants (Calls g) is =
          let mine : accesses h.x (w.threads u) g ≡ f = same_Some (accesses h.x (w.threads u) g) f (sym (then (Calls g) is) ∙ wants) in
          let same = h.same (w.threads u) g (λ c. clear (subst (λ b. Conflict b a) mine (h.still (w.threads u) g c))) in
          before (Calls g) is ∙ ap (λ b. Some b) (sym same ∙ mine)
      back_by f clear wants Awaits is = before Awaits is ∙ (sym (then Awaits is) ∙ wants)
      back_by f clear wants Gone is = before Gone is ∙ (sym (then Gone is) ∙ wants)

      goes_by : (f : NextAccess) → next_access s accesses w u ≡ Some f → (want : Want E) → s.wants (w.threads u) ≡ want
          → (g : NextAccess) × (next_access s accesses z u ≡ Some g)
      goes_by f wants Turns is = (own_turn, then Turns is)
      goes_by f wants (Calls g) is = (accesses h.x (w.threads u) g, then (Calls g) is)
      goes_by f wants Awaits is = absurd (none-some f (sym (before Awaits is) ∙ wants))
      goes_by f wants Gone is = absurd (none-some f (sym (before Gone is) ∙ wants))

      none_by : next_access s accesses w u ≡ None → (want : Want E) → s.wants (w.threads u) ≡ want → next_access s accesses z u ≡ None
      none_by none Turns is = absurd (none-some own_turn (sym none ∙ before Turns is))
      none_by none (Calls g) is = absurd (none-some (accesses w.shared (w.threads u) g) (sym none ∙ before (Calls g) is))
      none_by none Awaits is = then Awaits is
      none_by none Gone is = then Gone is

    -- a plain event stays one whatever another thread does
    stays_by : (w : State X T) (t u : ℕ) (f : E) (want : Want E) → WantsPlain s accesses first w t f → s.wants (w.threads u) ≡ want
        → accesses (after_turn s w u want).shared (w.threads t) f ≡ accesses w.shared (w.threads t) f
    stays_by w t u f Turns h is = refl
    stays_by w t u f (Calls g) h is = plain.stays w t f h u g is
    stays_by w t u f Awaits h is = refl
    stays_by w t u f Gone h is = refl

    stays_next : (w : State X T) (t u : ℕ) (a : NextAccess) → IsReached s first w → u ≢ t → next_access s accesses w t ≡ Some a → IsPlain a
        → next_access s accesses (after_next s w u) t ≡ Some a
    stays_next w t u a r d h p = access_of (after_next s w u).shared ((after_next s w u).threads t) (w.threads t) (leaves w u t a r (λ e. d (sym e)) h)
        ∙ by (going_on w t a h)
      where
        by : ((s.wants (w.threads t) ≡ Turns) × (own_turn ≡ a)) ⊎ ((f : E) × (s.wants (w.threads t) ≡ Calls f) × (accesses w.shared (w.threads t) f ≡ a))
            → access_by s accesses (after_next s w u).shared (w.threads t) (s.wants (w.threads t)) ≡ Some a
        by (inl o) = ap (access_by s accesses (after_next s w u).shared (w.threads t)) o.0 ∙ ap (λ b. Some b) o.1
        by (inr o) =
            ap (access_by s accesses (after_next s w u).shared (w.threads t)) o.1
            ∙ ap (λ b. Some b) (stays_by w t u o.0 (s.wants (w.threads u)) (plain_of w t o.0 a r o.1 o.2 p) refl ∙ o.2)

    abbrev Quiet : State X T → ℕ → X → T → State X T
    Quiet w t x v = record { shared = x; threads = put w.threads t v }

    -- A thread's turn after another's quiet one is by what it wanted before.
    after_quiet : (w : State X T) (t u : ℕ) (x : X) (v : T) (want : Want E) → u ≢ t → s.wants (w.threads u) ≡ want
        → after_next s (Quiet w t x v) u ≡ after_turn s (Quiet w t x v) u want
    after_quiet w t u x v want d is = ap (after_turn s (Quiet w t x v) u) (ap s.wants (put-other w.threads t v u d) ∙ is)

    -- A turn of its own, and then the other's.
    swap_own : (w : State X T) (t u : ℕ) (want : Want E) → IsReached s first w → u ≢ t → s.wants (w.threads t) ≡ Turns → s.wants (w.threads u) ≡ want
        → after_turn s (Quiet w t w.shared (s.own_turn (w.threads t))) u want
        ≡ Quiet (after_turn s w u want) t (after_turn s w u want).shared (s.own_turn ((after_turn s w u want).threads t))
    swap_own w t u Turns r d own is =
        swap_turn s w t u w.shared (s.own_turn (w.threads t)) (s.own_turn ((after_turn s w u Turns).threads t)) d
        (ap s.own_turn (leaves_by w u t Turns r is (λ e. d (sym e)) (λ c. cc (own, c)) (λ c. cc (own, c))))
    swap_own w t u (Calls g) r d own is =
        swap_event s w t u w.shared (s.after w.shared u g) (s.own_turn (w.threads t)) (s.own_turn ((after_turn s w u (Calls g)).threads t)) g d
        (ap s.own_turn (leaves_by w u t (Calls g) r is (λ e. d (sym e)) (λ c. cc (own, c)) (λ c. cc (own, c)))) refl refl (λ m. refl) (λ m. refl)
        (not_told w u t g r is (λ e. d (sym e)) (λ c. cc (own, c))) (not_started w u t g r is (λ c. cc (own, c)))
    swap_own w t u Awaits r d own is = refl
    swap_own w t u Gone r d own is = refl

    -- A plain event, and then the other's turn.
    swap_plain : (w : State X T) (t u : ℕ) (f : E) (want : Want E) → u ≢ t → WantsPlain s accesses first w t f → s.wants (w.threads u) ≡ want
        → ((g : E) → s.wants (w.threads u) ≡ Calls g → AreIndependent s w.shared t f u g)
        → after_turn s (Quiet w t (s.after w.shared t f) (s.takes (w.threads t) (s.reply w.shared t f))) u want
        ≡ Quiet (after_turn s w u want) t (s.after (after_turn s w u want).shared t f)
        (s.takes ((after_turn s w u want).threads t) (s.reply (after_turn s w u want).shared t f))
    swap_plain w t u f Turns d h is apart =
        let c = h.wants in
        let v = s.takes (w.threads t) (s.reply w.shared t f) in
        swap_turn s w t u (s.after w.shared t f) v (s.takes ((after_turn s w u Turns).threads t) (s.reply w.shared t f)) d
        (ap (λ x. s.takes x (s.reply w.shared t f)) (leaves_by w u t Turns h.reached is (λ e. d (sym e)) (λ k. cc (c, k)) (λ k. cc (c, k))))
    swap_plain w t u f (Calls g) d h is apart =
        let c = h.wants in
        let i = apart g is in
        let same = leaves_by w u t (Calls g) h.reached is (λ e. d (sym e)) (λ k. cc (c, k)) (λ k. cc (c, k)) in
        swap_event s w t u (s.after w.shared t f) (s.after (s.after w.shared u g) t f) (s.takes (w.threads t) (s.reply w.shared t f))
        (s.takes ((after_turn s w u (Calls g)).threads t) (s.reply (s.after w.shared u g) t f)) g d
        (λ j. s.takes (same j) (i.reply j)) (sym i.shared) i.reply_other i.gives i.starts
        (not_told w u t g h.reached is (λ e. d (sym e)) (λ k. cc (c, k))) (not_started w u t g h.reached is (λ k. cc (c, k)))
    swap_plain w t u f Awaits d h is apart = refl
    swap_plain w t u f Gone d h is apart = refl

    independent_of : (w : State X T) (t u : ℕ) (f : E) (a b : NextAccess) → u ≢ t → WantsPlain s accesses first w t f → accesses w.shared (w.threads t) f ≡ a
        → next_access s accesses w u ≡ Some b → (Conflict b a → ⊥) → (g : E) → s.wants (w.threads u) ≡ Calls g → AreIndependent s w.shared t f u g
    independent_of w t u f a b d h is k clear g calls = plain.independent w t f h u g calls d
        (λ c. clear (subst (λ x. Conflict x a) other (subst (Conflict (accesses w.shared (w.threads u) g)) is c)))
      where
        other : accesses w.shared (w.threads u) g ≡ b
        other = same_Some (accesses w.shared (w.threads u) g) b (sym (event_access w u g calls) ∙ k)

    swap_next : (w : State X T) (t u : ℕ) (a b : NextAccess) → IsReached s first w → u ≢ t → next_access s accesses w t ≡ Some a → IsPlain a
        → next_access s accesses w u ≡ Some b → (Conflict b a → ⊥) → after_next s (after_next s w t) u ≡ after_next s (after_next s w u) t
    swap_next w t u a b r d h p k clear = by (going_on w t a h)
      where
        want : Want E
        want = s.wants (w.threads u)

        moved : State X T
        moved = after_turn s w u want

        same : moved.threads t ≡ w.threads t
        same = leaves w u t a r (λ e. d (sym e)) h

        by : ((s.wants (w.threads t) ≡ Turns) × (own_turn ≡ a)) ⊎ ((f : E) × (s.wants (w.threads t) ≡ Calls f) × (accesses w.shared (w.threads t) f ≡ a))
            → after_next s (after_next s w t) u ≡ after_next s moved t
        by (inl o) =
            ap (λ z. after_next s z u) (ap (after_turn s w t) o.0)
            ∙ (after_quiet w t u w.shared (s.own_turn (w.threads t)) want d refl
            ∙ (swap_own w t u want r d o.0 refl
            ∙ sym (ap (after_turn s moved t) (ap s.wants same ∙ o.0))))
        by (inr o) =
            let f = o.0 in
            let h = plain_of w t f a r o.1 o.2 p in
            let still : WantsPlain s accesses first moved t f = record {
              reached = reaches_next w u r;
              wants = ap s.wants same ∙ o.1;
              plain = ap (λ (c : NextAccess). c.plain) (ap (λ v. accesses moved.shared v f) same ∙ stays_by w t u f want h refl) ∙ h.plain;
            } in
            ap (λ z. after_next s z u) (ap (after_turn s w t) o.1 ∙ quiet_plain w t f h)
            ∙ (after_quiet w t u (s.after w.shared t f) (s.takes (w.threads t) (s.reply w.shared t f)) want d refl
            ∙ (swap_plain w t u f want d h refl (independent_of w t u f a b d h o.2 k clear)
            ∙ sym (ap (after_turn s moved t) still.wants ∙ quiet_plain moved t f still)))

    pub plain-laws : PlainLaws (next_access s accesses) (after_next s) (IsReached s first)
    plain-laws = record {
      on = λ w t e r h. reaches_next w t r;
      same = λ w t u e f r d h p wants clear. same_by w e u (after_next s w t) (shared_after w t u e r d h p) f clear wants (s.wants (w.threads u)) refl;
      back = λ w t u e f r d h p wants clear. back_by w e u (after_next s w t) (shared_after w t u e r d h p) f clear wants (s.wants (w.threads u)) refl;
      goes = λ w t u e f r d h p wants. goes_by w e u (after_next s w t) (shared_after w t u e r d h p) f wants (s.wants (w.threads u)) refl;
      none = λ w t u e r d h p none. none_by w e u (after_next s w t) (shared_after w t u e r d h p) none (s.wants (w.threads u)) refl;
      stays = stays_next_as;
      swap = swap_next_as;
    }
      where
        stays_next_as : (w : State X T) (t u : ℕ) (e : NextAccess) → IsReached s first w → u ≢ t → next_access s accesses w t ≡ Some e → IsPlain e
            → next_access s accesses (after_next s w u) t ≡ Some e
        stays_next_as w t u e r d h p = stays_next w t u e r d h p

        swap_next_as : (w : State X T) (t u : ℕ) (e f : NextAccess) → IsReached s first w → u ≢ t → next_access s accesses w t ≡ Some e → IsPlain e
            → next_access s accesses w u ≡ Some f → (Conflict f e → ⊥) → after_next s (after_next s w t) u ≡ after_next s (after_next s w u) t
        swap_next_as w t u e f r d h p k c = swap_next w t u e f r d h p k c
