-- Every other schedule of the history gives the same ends.
use Rattle.std.proofs.Common.{◌≡◌, ◌≢◌, ℕ, ◌⊎◌, inl, inr, Bool, true, false, List, [], ◌∷◌, ◌++◌, refl, sym, ◌∙◌, ap, subst, Option, Some, None}
use Rattle.schedule.proofs.Standing.{Facts, Stands, tries}
use Rattle.schedule.specs.Histories.{IsClosed, IsLegalEntry, IsLegalHistory, Place, Place.Due, Place.Free, Place.Open}
use Rattle.schedule.specs.Histories.{Place.Unstarted, StartedRun, StartedRunAt, if_made, next_places, next_shared}
use Rattle.schedule.specs.Histories.{placed, places_after, shared_after, without_answers}
use Rattle.schedule.specs.Scheduled.{after_mark, after_turn, entries_at, entries_by, entries_made, if_may, scheduled_run, steps_made, with_thread}
use Rattle.schedule.specs.Schedules.{AllGone, GivesEnds, IsOneSchedule, LoseAsMany, Makes, ThreadsRun, schedule_of}
use Rattle.schedule.specs.System.{Act, Act.Heard, Act.Made, Entry, Kind, Kind.Fills, Kind.Loses, Kind.Turn, Mark}
use Rattle.schedule.specs.System.{State, Step, System, Want, Want.Awaits, Want.Calls, Want.Gone, Want.Turns, put}
use Rattle.schedule.specs.ThreadRun.{IsThreadRun, losses_between}
use Rattle.schedule.proofs.Basics.{put-other}
use Rattle.schedule.proofs.Schedule.{one_schedule, stands_first}
use Rattle.schedule.proofs.Between.{same_tries}
use Rattle.schedule.proofs.Unique.{unique}
use Rattle.schedule.proofs.Seen.{flat, first_some, FLegal, legal_flat, run_of_path, start_of, Ready, StartsSo, Ext, seen}

module _ {X T E V A : Type 0} (s : System X T E V A) where
  entered_shared : (w : State X T) (n : ℕ) (want : Want E) (G : List (Entry E V A))
      → shared_after s w.shared (entries_by s w n want ++ G) ≡ shared_after s (after_turn s w n want).shared G
  entered_shared w n Turns G = refl
  entered_shared w n (Calls e) G = refl
  entered_shared w n Awaits G = refl
  entered_shared w n Gone G = refl

  if_shared : (b : Bool) (w : State X T) (n : ℕ) (t : T) → (if_may s b (with_thread s w n t) w).shared ≡ w.shared
  if_shared true w n t = refl
  if_shared false w n t = refl

  mark_shared : (w : State X T) (n : ℕ) (k : Kind) (G : List (Entry E V A))
      → shared_after s w.shared (entries_at s w n k ++ G) ≡ shared_after s (after_mark s w n k).shared G
  mark_shared w n Turn G = entered_shared w n (s.wants (w.threads n)) G
  mark_shared w n Loses G = ap (λ x. shared_after s x G) (sym (if_shared (s.may_lose (w.threads n)) w n (s.lost (w.threads n))))
  mark_shared w n Fills G = ap (λ x. shared_after s x G) (sym (if_shared (s.may_fill (w.threads n)) w n (s.full (w.threads n))))

  run_shared : (S : List Mark) (w : State X T) → (scheduled_run s w S).shared ≡ shared_after s w.shared (entries_made s w S)
  run_shared [] w = refl
  run_shared (k ∷ S) w = run_shared S (after_mark s w k.thread k.kind) ∙ sym (mark_shared w k.thread k.kind (entries_made s (after_mark s w k.thread k.kind) S))

  asked_step : (x : X) (n : ℕ) (act : Act E V A) (G : List (Entry E V A)) → shared_after s x (if_made n act G) ≡ shared_after s (next_shared s x n act) G
  asked_step x n (Made e v) G = refl
  asked_step x n (Heard a) G = refl

  asked_shared : (H : List (Entry E V A)) (x : X) → shared_after s x (without_answers H) ≡ shared_after s x H
  asked_shared [] x = refl
  asked_shared (e ∷ H) x = asked_step x e.thread e.act (without_answers H) ∙ asked_shared H (next_shared s x e.thread e.act)

  module _ (m : ℕ) where
    first_of_two : (o b : Option T) (t : T) → first_some o b ≡ Some t → (o ≡ Some t) ⊎ ((o ≡ None) × (b ≡ Some t))
    first_of_two (Some x) b t h = inl h
    first_of_two None b t h = inr (refl, h)

    none_of_two : (o b : Option T) → first_some o b ≡ None → (o ≡ None) × (b ≡ None)
    none_of_two (Some x) b h = absurd (cc)
    none_of_two None b h = (refl, h)

    start_step : (steps : ℕ → List (Step E V A)) (ends : ℕ → T) (x : X) (n : ℕ) (act : Act E V A)
        (G : List (Entry E V A)) (t : T) → StartedRunAt s steps ends x n act
        → (start_of s m (next_shared s x n act) G ≡ Some t → IsThreadRun s t (steps m) (ends m))
        → start_of s m x (if_made n act G) ≡ Some t → IsThreadRun s t (steps m) (ends m)
    start_step steps ends x n (Made e v) G t h ih b =
        elim (first_of_two (s.starts x n e m) (start_of s m (s.after x n e) G) t b) [ inl k ↦ h m t k | inr k ↦ ih k.1 ]
    start_step steps ends x n (Heard a) G t h ih b = ih b

    run_of_started : (steps : ℕ → List (Step E V A)) (ends : ℕ → T) (H : List (Entry E V A)) (x : X) (t : T) → StartedRun s steps ends x H
        → start_of s m x (without_answers H) ≡ Some t → IsThreadRun s t (steps m) (ends m)
    run_of_started steps ends [] x t h b = absurd (cc)
    run_of_started steps ends (e ∷ H) x t h b =
        start_step steps ends x e.thread e.act (without_answers H) t h.0 (λ k. run_of_started steps ends H (next_shared s x e.thread e.act) t h.1 k) b

    pub stays_placed : (st : Option T) (gv : Option A) (o : Bool) (p : Place A) → p ≡ Unstarted → st ≡ None
        → o ≡ false → ((a : A) → gv ≡ Some a → p ≡ Open) → placed st gv o p ≡ Unstarted
    stays_placed (Some x) gv o p u b ob hg = absurd (cc)
    stays_placed None (Some a) o p u b ob hg = absurd (cc (u, hg a refl))
    stays_placed None None true p u b ob hg = absurd (cc)
    stays_placed None None false p u b ob hg = u

    stays_step : (x : X) (q : ℕ → Place A) (n : ℕ) (act : Act E V A) (G : List (Entry E V A)) → IsLegalEntry s x q n act → q m ≡ Unstarted
        → start_of s m x (if_made n act G) ≡ None → (next_places s x q n act m ≡ Unstarted) × (start_of s m (next_shared s x n act) G ≡ None)
    stays_step x q n (Made e v) G h u b =
        let k = none_of_two (s.starts x n e m) (start_of s m (s.after x n e) G) b in
        let apart : m ≢ n = λ z. h.0 (sym (ap q z) ∙ u) in (
          stays_placed (s.starts x n e m) (s.gives x n e m) (put (λ (j : ℕ). false) n (s.opens e v) m)
              (q m) u k.0 (put-other (λ (j : ℕ). false) n (s.opens e v) m apart)
              (λ a z. (h.3 m a z).0 apart),
          k.1,
        )
    stays_step x q n (Heard a) G h u b =
        let apart : m ≢ n = λ z. cc (u, h, ap q z) in
        (put-other q n Free m apart ∙ u, b)

    unstarted_stays : (H : List (Entry E V A)) (x : X) (q : ℕ → Place A) → IsLegalHistory s x q H → q m ≡ Unstarted
        → start_of s m x (without_answers H) ≡ None → places_after s x q H m ≡ Unstarted
    unstarted_stays [] x q l u b = u
    unstarted_stays (e ∷ H) x q l u b =
        let k = stays_step x q e.thread e.act (without_answers H) l.0 u b in
        unstarted_stays H (next_shared s x e.thread e.act) (next_places s x q e.thread e.act) l.1 k.0 k.1

module _ {X T E V A : Type 0} (s : System X T E V A) (laws : Facts s) where
  ready_at : (p : Place A) (t : T) → IsClosed p → (p ≡ Unstarted → s.wants t ≡ Gone) → Ready s (flat p) t
  ready_at Unstarted t c h = h refl
  ready_at Free t c h = tt
  ready_at Open t c h = absurd c
  ready_at (Due a) t c h = absurd c

  started_ends : (b : Option T) (t f end : T) (r steps : List (Step E V A)) → StartsSo s b t f r → (b ≡ None → ⊥)
      → ((x : T) → b ≡ Some x → IsThreadRun s x steps end)
      → s.wants f ≡ Gone → tries r ≡ tries steps → f ≡ end
  started_ends None t f end r steps x none some g e = absurd (none refl)
  started_ends (Some y) t f end r steps x none some g e = unique s laws r steps y f end (run_of_path s r y f x g) (some y refl) e

  ends_at : (p : Place A) (b : Option T) (t f end : T) (r steps : List (Step E V A)) → IsClosed p → Ext s (flat p) t f r b → Stands s steps end p t steps
      → (p ≡ Unstarted → b ≡ None → ⊥) → ((x : T) → b ≡ Some x → IsThreadRun s x steps end) → s.wants f ≡ Gone → tries r ≡ tries steps → f ≡ end
  ends_at Unstarted b t f end r steps c x l none some g e = started_ends b t f end r steps x (none refl) some g e
  ends_at Free b t f end r steps c x l none some g e = unique s laws r steps t f end (run_of_path s r t f x g) l e
  ends_at Open b t f end r steps c x l none some g e = absurd c
  ends_at (Due a) b t f end r steps c x l none some g e = absurd c

  -- the same events, answers and lost tries as the thread's steps have
  module _ (w : State X T) (q : ℕ → Place A) (steps : ℕ → List (Step E V A)) (ends : ℕ → T) (H : List (Entry E V A)) (run : ThreadsRun s w q steps ends H) where
    pub same_ends : (S : List Mark) → Makes s w H S → ((m : ℕ) → tries (steps_made s m w S) ≡ tries (steps m)) → AllGone s w q H S → GivesEnds s w q ends H S
    same_ends S makes same gone =
        let fl : FLegal s w.shared (λ m. flat (q m)) (entries_made s w S) =
        subst (λ G. FLegal s w.shared (λ m. flat (q m)) G) (sym makes.events)
        (legal_flat s H w.shared q run.legal (one_schedule s laws steps ends w q H run).ordered) in
        let x : (m : ℕ) → Ext s (flat (q m)) (w.threads m) ((scheduled_run s w S).threads m) (steps_made s m w S) (start_of s m w.shared (entries_made s w S)) =
        seen s laws S w (λ m. flat (q m)) fl (λ m. ready_at (q m) (w.threads m) (run.closed m) (run.idle m)) in
        record {
          shared = run_shared s S w ∙ (ap (λ G. shared_after s w.shared G) makes.events ∙ asked_shared s H w.shared);
          threads = λ m h.
              ends_at (q m) (start_of s m w.shared (without_answers H)) (w.threads m)
              ((scheduled_run s w S).threads m) (ends m) (steps_made s m w S) (steps m) (run.closed m)
              (subst (λ G. Ext s (flat (q m)) (w.threads m) ((scheduled_run s w S).threads m) (steps_made s m w S)
              (start_of s m w.shared G)) makes.events (x m))
              (stands_first s laws steps ends (q m) (w.threads m) (ends m) (steps m) (run.closed m) (run.runs m))
              (λ u b. h (unstarted_stays s m H w.shared q run.legal u b))
              (λ y b. run_of_started s m steps ends H w.shared y run.started b)
              (gone m h) (same m);
        }

    pub other_schedule : (S : List Mark) → Makes s w H S → LoseAsMany s w (schedule_of H steps) S → AllGone s w q H S → GivesEnds s w q ends H S
    other_schedule S makes same gone =
        let one : IsOneSchedule s w q steps ends H (schedule_of H steps) = one_schedule s laws steps ends w q H run in
        same_ends S makes
        (λ m.
        same_tries (steps_made s m w S) (steps m) (makes.answers m ∙ sym (run.entries m))
        (sym (same m) ∙ ap losses_between (one.makes_steps m)))
        gone
