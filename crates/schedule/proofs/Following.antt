-- The schedule of a history follows it, where each thread saw what it says.
use Rattle.std.proofs.Common.{◌≡◌, ◌≢◌, ℕ, suc, ◌+◌, ◌==◌, ◌⊎◌, inl, inr, Bool, true, false, List, [], ◌∷◌, ◌++◌}
use Rattle.std.proofs.Common.{length, refl, sym, ◌∙◌, ap, subst, arith, Some, None}
use Rattle.schedule.specs.Histories.{IsClosed, IsLegalEntry, IsLegalHistory, Place, Place.Due, Place.Free, Place.Open}
use Rattle.schedule.specs.Histories.{Place.Unstarted, StartedRun, StartedRunAt, acts_of, next_places, next_shared}
use Rattle.schedule.specs.Histories.{places_after, shared_after, starts_at}
use Rattle.schedule.specs.Schedules.{AllHaveSeen, Follows, IsOneSchedule, ThreadsRun, marks_before_act, marks_of_entry, schedule_of}
use Rattle.schedule.specs.System.{Act, Act.Heard, Act.Made, Entry, Kind.Turn, Mark, State, Step, Step.Acts, Step.Full, Step.Lost, Step.Own, System, put}
use Rattle.schedule.specs.ThreadRun.{IsThreadRun, Laws, acts, after_first_act}
use Rattle.schedule.specs.Tries.{AreLossesCovered, HasEnough, HasEnoughLater, HasEnoughOnceStarted, HasRoom}
use Rattle.schedule.specs.Tries.{IsFullOnlyAtLimit, IsWithinLimit, MayMarkAll, TryRules, if_true, is_act_exempt}
use Rattle.schedule.proofs.Basics.{same_is, at_each, put-same, put-other}
use Rattle.schedule.proofs.Apart.{some_case, apart_first, enough_over, later_over, none_later, none_once, full_over}
use Rattle.schedule.proofs.Apart.{none_full, HasRoomItself, room_apart, room_over, acts_over}
use Rattle.schedule.proofs.Covered.{Ahead, ahead, enough, enough_later, full_at_limit, room_itself, StepsMay, steps_may}
use Rattle.schedule.proofs.Others.{stays_placed}

module _ {X T E V A W : Type 0} (s : System X T E V A) (rules : TryRules X E W) where
  module _ (n : ℕ) where
    -- an entry of another that doesn't start the thread leaves it unstarted
    stays : (x : X) (q : ℕ → Place A) (k : ℕ) (a : Act E V A) → IsLegalEntry s x q k a → q n ≡ Unstarted
        → starts_at s n x k a ≡ None → k ≢ n → next_places s x q k a n ≡ Unstarted
    stays x q k (Made e v) legal u none apart =
        stays_placed s n (s.starts x k e n) (s.gives x k e n) (put (λ (j : ℕ). false) k (s.opens e v) n)
        (q n) u none (put-other (λ (j : ℕ). false) k (s.opens e v) n (λ z. apart (sym z)))
        (λ b z. (legal.3 n b z).0 (λ j. apart (sym j)))
    stays x q k (Heard a) legal u none apart = put-other q k Free n (λ z. apart (sym z)) ∙ u

    runs_from : (steps : ℕ → List (Step E V A)) (ends : ℕ → T) (x : X) (k : ℕ) (a : Act E V A) (t : T)
        → StartedRunAt s steps ends x k a → starts_at s n x k a ≡ Some t → IsThreadRun s t (steps n) (ends n)
    runs_from steps ends x k (Made e v) t started is = started n t is
    runs_from steps ends x k (Heard a) t started is = absurd (cc (is))

    once_started : (steps : ℕ → List (Step E V A)) (ends : ℕ → T) (rest begun : List (Entry E V A)) (x : X) (q : ℕ → Place A)
        → IsLegalHistory s x q (begun ++ rest) → StartedRun s steps ends x (begun ++ rest) → q n ≡ Unstarted
        → acts_of n begun ≡ [] → (places_after s x q begun n ≡ Unstarted → ⊥)
        → ((t : T) → IsThreadRun s t (steps n) (ends n) → HasEnough s rules n (shared_after s x begun) rest (steps n)
        × HasEnoughLater s rules rest n (shared_after s x begun) (steps n))
        → HasEnoughOnceStarted s rules (begun ++ rest) n x (steps n)
    once_started steps ends rest [] x q legal started u apart some there = absurd (some u)
    once_started steps ends rest (h ∷ begun) x q legal started u apart some there =
        let k = apart_first n h begun apart in
        let x' : X = next_shared s x h.thread h.act in
        some_case (starts_at s n x h.thread h.act) (HasEnough s rules n x' (begun ++ rest) (steps n) × HasEnoughLater s rules (begun ++ rest) n x' (steps n))
        (HasEnoughOnceStarted s rules (begun ++ rest) n x' (steps n))
        (λ t is. let both = there t (runs_from steps ends x h.thread h.act t started.0 is) in
        (enough_over s rules n begun rest x' (steps n) k.1 both.0, later_over s rules n begun rest x' (steps n) k.1 both.1))
        (λ none. once_started steps ends rest begun x' (next_places s x q h.thread h.act) legal.1 started.1
        (stays x q h.thread h.act legal.0 u none k.0) k.1 some there)

  -- room for each entry, by the room of each thread's own
  within : (H : List (Entry E V A)) (count : ℕ) → ((n : ℕ) → HasRoomItself s rules n H count) → IsWithinLimit s rules H count
  within [] count h = tt
  within (o ∷ H) count h = (here (o.thread == o.thread) (same_is o.thread) (h o.thread), within H (suc count) (λ n. later n (o.thread == n) (h n)))
    where
      here : (b : Bool) → b ≡ true → if_true b (HasRoom rules.limit (is_act_exempt s rules o.act) count
          × HasRoomItself s rules o.thread H (suc count)) (HasRoomItself s rules o.thread H (suc count))
          → HasRoom rules.limit (is_act_exempt s rules o.act) count
      here true e k = k.0
      here false e k = absurd (cc (e))

      later : (n : ℕ) (b : Bool) → if_true b (HasRoom rules.limit (is_act_exempt s rules o.act) count
          × HasRoomItself s rules n H (suc count)) (HasRoomItself s rules n H (suc count))
          → HasRoomItself s rules n H (suc count)
      later n true k = k.1
      later n false k = k

  -- the marks of steps that may be
  may_both : (S S' : List Mark) → MayMarkAll rules.loses rules.limit S → MayMarkAll rules.loses rules.limit S' → MayMarkAll rules.loses rules.limit (S ++ S')
  may_both [] S' h k = k
  may_both (m ∷ S) S' h k = (h.0, may_both S S' h.1 k)

  may_before : (n : ℕ) (r : List (Step E V A)) → StepsMay s rules n r → MayMarkAll rules.loses rules.limit (marks_before_act n r)
  may_before n [] h = tt
  may_before n (Own ∷ r) h = (tt, may_before n r h)
  may_before n (Lost e ∷ r) h = (h.0, may_before n r h.1)
  may_before n (Full e ∷ r) h = (h.0, may_before n r h.1)
  may_before n (Acts a ∷ r) h = tt

  may_after : (n : ℕ) (r : List (Step E V A)) → StepsMay s rules n r → StepsMay s rules n (after_first_act r)
  may_after n [] h = tt
  may_after n (Own ∷ r) h = may_after n r h
  may_after n (Lost e ∷ r) h = may_after n r h.1
  may_after n (Full e ∷ r) h = may_after n r h.1
  may_after n (Acts a ∷ r) h = h

  may_entry : (n : ℕ) (a : Act E V A) (r : List (Step E V A)) → StepsMay s rules n r → MayMarkAll rules.loses rules.limit (marks_of_entry n a r)
  may_entry n (Made e v) r h = may_both (marks_before_act n r) (record { thread = n; kind = Turn } ∷ []) (may_before n r h) (tt, tt)
  may_entry n (Heard a) r h = tt

  may_schedule : (H : List (Entry E V A)) (r : ℕ → List (Step E V A)) → ((m : ℕ) → StepsMay s rules m (r m))
      → MayMarkAll rules.loses rules.limit (schedule_of H r)
  may_schedule [] r h = tt
  may_schedule (o ∷ H) r h =
      may_both (marks_of_entry o.thread o.act (r o.thread))
      (schedule_of H (put r o.thread (after_first_act (r o.thread))))
      (may_entry o.thread o.act (r o.thread) (h o.thread))
      (may_schedule H (put r o.thread (after_first_act (r o.thread)))
      (at_each o.thread (λ m. StepsMay s rules m (put r o.thread (after_first_act (r o.thread)) m))
      (subst (StepsMay s rules o.thread) (sym (put-same r o.thread (after_first_act (r o.thread)))) (may_after o.thread (r o.thread) (h o.thread)))
      (λ m k. subst (StepsMay s rules m) (sym (put-other r o.thread (after_first_act (r o.thread)) m k)) (h m))))

  -- what is shown of each thread
  record Of (q : ℕ → Place A) (x : X) (H : List (Entry E V A)) (steps : ℕ → List (Step E V A)) (m : ℕ) : Type 0 where
    covered : AreLossesCovered s rules (q m) m x H (steps m)
    full : IsFullOnlyAtLimit s rules H m 0 (steps m)
    room : HasRoomItself s rules m H 0
    may : StepsMay s rules m (steps m)

  is_unstarted : (p : Place A) → (p ≡ Unstarted) ⊎ (p ≢ Unstarted)
  is_unstarted Unstarted = inl refl
  is_unstarted Free = inr (λ e. cc (e))
  is_unstarted Open = inr (λ e. cc (e))
  is_unstarted (Due a) = inr (λ e. cc (e))

  module _ (laws : Laws s) (w : State X T) (q : ℕ → Place A) (steps : ℕ → List (Step E V A)) (ends : ℕ → T)
      (H : List (Entry E V A)) (run : ThreadsRun s w q steps ends H) where
    covered_by : (m : ℕ) (p : Place A) → q m ≡ p → (rest begun : List (Entry E V A)) → H ≡ begun ++ rest
        → acts_of m begun ≡ [] → (places_after s w.shared q begun m ≡ Unstarted → ⊥)
        → Ahead s rules m (steps m) (length begun) (shared_after s w.shared begun) rest → AreLossesCovered s rules p m w.shared H (steps m)
    covered_by m Unstarted is rest begun list apart some h =
        subst (λ z. HasEnoughOnceStarted s rules z m w.shared (steps m)) (sym list)
        (once_started m steps ends rest begun w.shared q (subst (IsLegalHistory s w.shared q) list run.legal)
        (subst (StartedRun s steps ends w.shared) list run.started) is apart some
        (λ t r. (
          enough s rules m laws (steps m) t (ends m) (length begun) (shared_after s w.shared begun) rest r h,
          enough_later s rules m laws (steps m) t (ends m) (length begun)
              (shared_after s w.shared begun) rest r h,
        )))
    covered_by m Free is rest begun list apart some h =
        let r : IsThreadRun s (w.threads m) (steps m) (ends m) = run.runs m is in
        subst (λ z. HasEnough s rules m w.shared z (steps m) × HasEnoughLater s rules z m w.shared (steps m)) (sym list) (
          enough_over s rules m begun rest w.shared (steps m) apart (enough s rules m laws (steps m) (w.threads m)
              (ends m) (length begun) (shared_after s w.shared begun) rest r h),
          later_over s rules m begun rest w.shared (steps m) apart (enough_later s rules m laws (steps m)
              (w.threads m) (ends m) (length begun) (shared_after s w.shared begun) rest r h),
        )
    covered_by m Open is rest begun list apart some h = absurd (subst IsClosed is (run.closed m))
    covered_by m (Due a) is rest begun list apart some h = absurd (subst IsClosed is (run.closed m))

    nothing_covered : (m : ℕ) (p : Place A) → AreLossesCovered s rules p m w.shared H []
    nothing_covered m Unstarted = none_once s rules m H w.shared
    nothing_covered m Free = ((λ e h. absurd h), none_later s rules m H w.shared)
    nothing_covered m Open = ((λ e h. absurd h), none_later s rules m H w.shared)
    nothing_covered m (Due a) = ((λ e h. absurd h), none_later s rules m H w.shared)

    of_thread : AllHaveSeen s rules w q steps H → (m : ℕ) → Of q w.shared H steps m
    of_thread seen m = elim (is_unstarted (places_after s w.shared q H m)) [
      | inl u ↦ (let none : steps m ≡ [] = run.no_steps m u in
          record {
            covered = subst (λ z. AreLossesCovered s rules (q m) m w.shared H z) (sym none) (nothing_covered m (q m));
            full = subst (IsFullOnlyAtLimit s rules H m 0) (sym none) (none_full s rules m H 0);
            room = room_apart s rules m H 0 (sym (run.entries m) ∙ ap acts none);
            may = subst (StepsMay s rules m) (sym none) tt;
          })
      | inr u ↦ (let k = seen m u in
          let a = ahead s rules m w.shared (steps m) k.begun k.last H k.unseen k.sees k.history in
          let count : length k.begun ≡ 0 + length k.begun = omega arith in
          let entries : acts (steps m) ≡ acts_of m a.0 = run.entries m ∙ (ap (acts_of m) a.1 ∙ acts_over m k.begun a.0 k.fresh) in
          record {
            covered = covered_by m (q m) refl a.0 k.begun a.1 k.fresh k.started a.2;
            full = subst (λ z. IsFullOnlyAtLimit s rules z m 0 (steps m)) (sym a.1) (full_over s rules m k.begun a.0 0 (steps m) k.fresh
                (subst (λ z. IsFullOnlyAtLimit s rules a.0 m z (steps m)) count (full_at_limit s rules m (steps m)
                (length k.begun) (shared_after s w.shared k.begun) a.0 a.2)));
            room = subst (λ z. HasRoomItself s rules m z 0) (sym a.1) (room_over s rules m k.begun a.0 0 k.fresh
                (subst (HasRoomItself s rules m a.0) count (room_itself s rules m (steps m) (length k.begun)
                (shared_after s w.shared k.begun) a.0 a.2 entries)));
            may = steps_may s rules m (steps m) (length k.begun) (shared_after s w.shared k.begun) a.0 a.2;
          })
    ]

    pub follows : AllHaveSeen s rules w q steps H → IsOneSchedule s w q steps ends H (schedule_of H steps) → Follows s rules w q H (schedule_of H steps)
    follows seen one = record {
      makes = one.makes;
      covered = λ m. subst (AreLossesCovered s rules (q m) m w.shared H) (sym (one.makes_steps m)) (of_thread seen m).covered;
      full = λ m. subst (IsFullOnlyAtLimit s rules H m 0) (sym (one.makes_steps m)) (of_thread seen m).full;
      within = within H 0 (λ m. (of_thread seen m).room);
      marks = may_schedule H steps (λ m. (of_thread seen m).may);
    }
