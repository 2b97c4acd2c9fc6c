-- The worked example.
use Rattle.std.proofs.Common.{◌≡◌, ◌≢◌, ℕ, ◌<◌, ◌==◌, inl, inr, true, false, cond, List, [], ◌∷◌, ◌++◌, length, refl}
use Rattle.std.proofs.Common.{sym, ◌∙◌, ap, subst, arith, Option, Some, None}
use Rattle.schedule.proofs.Standing.{facts}
use Rattle.schedule.specs.Histories.{IsClosed, IsLegalHistory, Place, Place.Free, Place.Open, Place.Unstarted, acts_of, places_after}
use Rattle.schedule.specs.Machine.{MachineLaws, Thread, Thread.Absent, Thread.Left, Thread.Runs, Wish.Asks, Wish.Waits}
use Rattle.schedule.specs.Scheduled.{scheduled_run, steps_made}
use Rattle.schedule.specs.Schedules.{AllGone, AllHaveSeen, LoseAsMany, Makes, ThreadsRun, schedule_of}
use Rattle.schedule.specs.System.{Act, Act.Heard, Act.Made, Entry, Step, Want.Gone, put}
use Rattle.schedule.specs.ThreadRun.{IsThreadRun, Laws, acts, losses_between}
use Rattle.schedule.specs.Tries.{HasRoom, HasSeen, SeesAct, SeesLost, is_act_exempt}
use Rattle.schedule_examples.specs.WorkedRun.{Event, Event.Add, Event.Wait, Event.Notify, Event.Spawn, Event.Leave, is_question}
use Rattle.schedule_examples.specs.WorkedRun.{Instruction.Think, Instruction.Do, Configuration, Configuration.At}
use Rattle.schedule_examples.specs.WorkedRun.{Configuration.Waiting, Outcome, Outcome.Done, wishes, goes_on, machine}
use Rattle.schedule_examples.specs.WorkedRun.{first_program, other_program, example, first_state, first_places, made, heard}
use Rattle.schedule_examples.specs.WorkedRun.{beginning, history, first_steps, other_steps, steps, ends, rules, WorkedRun}
use Rattle.schedule_examples.specs.WorkedRun.{another, AnotherSchedule, NoAnswerOfAnother, NoEntryAfterLeave}
use Rattle.schedule.proofs.Basics.{other_is, same_or_not, at_each, put-other}
use Rattle.schedule.proofs.Budgets.{laws}
use Rattle.schedule.proofs.Schedule.{one_schedule}
use Rattle.schedule.proofs.Others.{other_schedule}
use Rattle.schedule.proofs.Following.{follows}
use Rattle.schedule.proofs.Leaving.{leaves_last}

abbrev Steps : Type 0
Steps = List (Step Event (Option ℕ) ℕ)

abbrev Entries : Type 0
Entries = List (Entry Event (Option ℕ) ℕ)

abbrev Threads : Type 0
Threads = Thread Configuration Outcome

machine_laws : MachineLaws machine
machine_laws = record { opened = opened; exempt = refl }
  where
    opened : (c : Configuration) (e : Event) (v : Option ℕ) → wishes c ≡ Asks e → is_question e ≡ true → wishes (goes_on c v) ≡ Waits
    opened (At []) e v h q = absurd (cc (h))
    opened (At (Think ∷ rest)) e v h q = absurd (cc (h))
    opened (At (Do x ∷ rest)) e v h q =
        let same : x ≡ e = cc (h) in
        ap (λ b. wishes (cond b (Waiting rest) (At rest))) (ap is_question same ∙ q)
    opened (Waiting rest) e v h q = absurd (cc (h))

example_laws : Laws example
example_laws = laws machine machine_laws example.reply example.after example.gives example.starts

-- of 0, of 1 and of every other number
of_each : (P : ℕ → Type 0) → P 0 → P 1 → ((m : ℕ) → m ≢ 0 → m ≢ 1 → P m) → (m : ℕ) → P m
of_each P zeroth first others = at_each 0 P zeroth (λ m h. elim (same_or_not m 1) [ inl e ↦ subst P (sym e) first | inr k ↦ others m h k ])

mine : (m n : ℕ) (b a : ℕ) → cond (m == n) (Some b) None ≡ Some a → m ≡ n
mine m n b a h = elim (same_or_not m n) [ inl e ↦ e | inr e ↦ absurd (cc (h, ap (λ z. cond z (Some b) None) (other_is m n e))) ]

own_answer : (p : ℕ → Place ℕ) (m n : ℕ) (b a : ℕ) → cond (m == n) (Some b) None ≡ Some a → (m ≢ n → p m ≡ Open) × (m ≡ n → true ≡ true)
own_answer p m n b a h = ((λ k. absurd (k (mine m n b a h))), (λ k. refl))

woken : (p : ℕ → Place ℕ) → p 0 ≡ Open → (m a : ℕ) → cond (m == 1) (Some 1) (cond (m == 0) (Some 0) None) ≡ Some a
    → (m ≢ 1 → p m ≡ Open) × (m ≡ 1 → true ≡ true)
woken p is m a h = (
  (λ k. let e : m ≡ 0 =
      mine m 0 0 a (ap (λ z. cond z (Some 1) (cond (m == 0) (Some 0) None)) (sym (other_is m 1 k)) ∙ h) in ap p e ∙ is),
  (λ k. refl),
)

starts_one : (p : ℕ → Place ℕ) → p 1 ≡ Unstarted → (m : ℕ) (t : Threads) → cond (m == 1) (Some (Runs (At other_program) 10)) None ≡ Some t → p m ≡ Unstarted
starts_one p is m t h = elim (same_or_not m 1) [
  | inl e ↦ ap p e
      ∙ is
  | inr e ↦ absurd (cc (
    h,
    ap (λ z. cond {A = Option Threads} z (Some (Runs (At other_program) 10)) None)
        (other_is m 1 e),
  ))
]

abbrev places : Entries → ℕ → Place ℕ
places H = places_after example first_state.shared first_places H

legal : IsLegalHistory example first_state.shared first_places history
unfolding put
legal = (
  ((λ z. cc (z)), refl, (λ m t h. starts_one first_places refl m t h), (λ m a h. own_answer first_places m 0 1 a h)),
  (
    refl,
    (
      ((λ z. cc (z)), refl, (λ m t h. absurd (cc (h))), (λ m a h. absurd (cc (h)))),
      (
        ((λ z. cc (z)), refl, (λ m t h. absurd (cc (h))), (λ m a h. absurd (cc (h)))),
        (
          ((λ z. cc (z)), refl, (λ m t h. absurd (cc (h))), (λ m a h. absurd (cc (h)))),
          (
            ((λ z. cc (z)), refl, (λ m t h. absurd (cc (h))), (λ m a h. woken (places (beginning ++ made 1 (Add 1) (Some 5) ∷ [])) refl m a h)),
            (
              refl,
              (
                (
                  (λ z. cc (z)),
                  refl,
                  (λ m t h. absurd (cc (h))),
                  (λ m a h. own_answer (places (beginning ++ made 1 (Add 1)
                      (Some 5) ∷ made 1 Notify None ∷ heard 1 1 ∷ [])) m 1 0 a h),
                ),
                (
                  refl,
                  (
                    refl,
                    (
                      (
                        (λ z. cc (z)),
                        refl,
                        (λ m t h. absurd (cc (h))),
                        (λ m a h. own_answer (places (beginning ++ made 1 (Add 1)
                            (Some 5) ∷ made 1 Notify None ∷ heard 1 1 ∷ made 1 Leave None ∷ heard 0 0 ∷ heard 1 0 ∷ []))
                            m 0 0 a h),
                      ),
                      (refl, tt),
                    ),
                  ),
                ),
              ),
            ),
          ),
        ),
      ),
    ),
  ),
)

first_run : IsThreadRun example (first_state.threads 0) first_steps (Left Done 7)
unfolding put
first_run = (refl, (refl, (refl, (refl, (refl, (refl, (refl, (refl, refl))))))))

other_run : IsThreadRun example (Runs (At other_program) 10) other_steps (Left Done 6)
other_run = (refl, ((refl, refl), (refl, (refl, (refl, (refl, (refl, (refl, refl))))))))

starts_other : (m : ℕ) (t : Threads) → cond (m == 1) (Some (Runs (At other_program) 10)) None ≡ Some t → IsThreadRun example t (steps m) (ends m)
unfolding put
starts_other = at_each 1 (λ m. (t : Threads) → cond (m == 1) (Some (Runs (At other_program) 10)) None ≡ Some t → IsThreadRun example t (steps m) (ends m))
    (λ t h. let e : Runs (At other_program) 10 ≡ t = cc (h) in subst (λ z. IsThreadRun example z other_steps (Left Done 6)) e other_run)
    (λ m k t h. absurd (cc (h, ap (λ z. cond {A = Option Threads} z (Some (Runs (At other_program) 10)) None) (other_is m 1 k))))

no_more_steps : (m : ℕ) → m ≢ 0 → m ≢ 1 → steps m ≡ []
unfolding put
no_more_steps m h0 h1 = let e0 : (m == 0) ≡ false = other_is m 0 h0 in let e1 : (m == 1) ≡ false = other_is m 1 h1 in simp (e0, e1)

no_more_entries : (m : ℕ) → m ≢ 0 → m ≢ 1 → [] ≡ acts_of m history
no_more_entries m h0 h1 =
    let f0 : (0 == m) ≡ false = other_is 0 m (λ z. h0 (sym z)) in
    let f1 : (1 == m) ≡ false = other_is 1 m (λ z. h1 (sym z)) in
    simp (f0, f1)

not_there : (m : ℕ) → m ≢ 0 → first_places m ≡ Unstarted
not_there m h = put-other (λ (j : ℕ). Unstarted) 0 Free m h

run : ThreadsRun example first_state first_places steps ends history
unfolding put
run = record {
  legal = legal;
  closed = at_each 0 (λ m. IsClosed (first_places m)) tt (λ m h. subst IsClosed (sym (not_there m h)) tt);
  idle = at_each 0 (λ m. first_places m ≡ Unstarted → example.wants (first_state.threads m) ≡ Gone) (λ z. absurd (cc (z)))
      (λ m h z. ap example.wants (put-other (λ (j : ℕ). Absent) 0 (first_state.threads 0) m h));
  runs = at_each 0 (λ m. first_places m ≡ Free → IsThreadRun example (first_state.threads m) (steps m) (ends m))
      (λ z. first_run) (λ m h z. absurd (cc (z, not_there m h)));
  started = (
    starts_other,
    (
      tt,
      (
        (λ m t h. absurd (cc (h))),
        (
          (λ m t h. absurd (cc (h))),
          (
            (λ m t h. absurd (cc (h))),
            (
              (λ m t h. absurd (cc (h))),
              (
                tt,
                (
                  (λ m t h. absurd (cc (h))),
                  (tt, (tt, ((λ m t h. absurd (cc (h))), (tt, tt)))),
                ),
              ),
            ),
          ),
        ),
      ),
    ),
  );
  entries = of_each (λ m. acts (steps m) ≡ acts_of m history) refl refl (λ m h0 h1. ap acts (no_more_steps m h0 h1) ∙ no_more_entries m h0 h1);
  no_steps = of_each (λ m. places history m ≡ Unstarted → steps m ≡ []) (λ z. absurd (cc (z))) (λ z. absurd (cc (z))) (λ m h0 h1 z. no_more_steps m h0 h1);
}

sees_act : (n : ℕ) (a : Act Event (Option ℕ) ℕ) (before others : Entries) → acts_of n others ≡ []
    → HasRoom (Some 10) (is_act_exempt example rules a) (length (before ++ others))
    → SeesAct example rules n a before ((before ++ others) ++ record { thread = n; act = a } ∷ [])
sees_act n a before others apart room = record {
  others = others;
  so_far = before ++ others;
  behind = [];
  gains = refl;
  apart = apart;
  list = refl;
  apart_behind = refl;
  room = room;
}

room : (count : ℕ) → count < 10 → HasRoom (Some 10) false count
room count h = λ z. h

exempt : (count : ℕ) → HasRoom (Some 10) true count
exempt count = λ z. absurd (cc (z))

first_seen : HasSeen example rules first_state.shared first_places history 0 first_steps
unfolding put
first_seen =
    let l0 : 0 < 10 = omega arith in
    let l2 : 2 < 10 = omega arith in
    let l3 : 3 < 10 = omega arith in
    let s1 : Entries = made 0 Spawn None ∷ [] in
    let s2 : Entries = s1 ++ heard 0 1 ∷ [] in
    let s3 : Entries = s2 ++ made 0 (Add 5) (Some 0) ∷ [] in
    let o5 : Entries = made 1 (Add 1) (Some 5) ∷ made 1 Notify None ∷ heard 1 1 ∷ made 1 Leave None ∷ [] in
    let s5 : Entries = beginning ++ o5 ++ heard 0 0 ∷ [] in
    let o6 : Entries = heard 1 0 ∷ [] in
    let s6 : Entries = s5 ++ o6 ++ made 0 Leave None ∷ [] in
    record {
      begun = [];
      started = λ z. cc (z);
      fresh = refl;
      last = history;
      sees = (
        s1,
        sees_act 0 (Made Spawn None) [] [] refl (room 0 l0),
        (
          s2,
          sees_act 0 (Heard 1) s1 [] refl (exempt 1),
          (
            s3,
            sees_act 0 (Made (Add 5) (Some 0)) s2 [] refl (room 2 l2),
            (
              beginning,
              sees_act 0 (Made (Wait 5) (Some 5)) s3 [] refl (room 3 l3),
              (
                s5,
                sees_act 0 (Heard 0) beginning o5 refl (exempt 8),
                (
                  s6,
                  sees_act 0 (Made Leave None) s5 o6 refl (exempt 10),
                  (history, sees_act 0 (Heard 0) s6 [] refl (exempt 11), refl),
                ),
              ),
            ),
          ),
        ),
      );
      unseen = [];
      history = refl;
    }

-- the try is lost to the 5 that thread 0 adds
lost_try : SeesLost example rules first_state.shared 1 (Add 1) (made 0 Spawn None ∷ heard 0 1 ∷ [])
    (made 0 Spawn None ∷ heard 0 1 ∷ made 0 (Add 5) (Some 0) ∷ [])
lost_try = record {
  others = made 0 (Add 5) (Some 0) ∷ [];
  list = refl;
  apart = refl;
  may = refl;
  cause = record { front = []; changing = made 0 (Add 5) (Some 0); back = []; among = refl; changed = λ (z : 5 ≡ 0). absurd (omega arith) };
}

other_seen : HasSeen example rules first_state.shared first_places history 1 other_steps
unfolding put
other_seen =
    let l4 : 4 < 10 = omega arith in
    let l5 : 5 < 10 = omega arith in
    let b : Entries = made 0 Spawn None ∷ heard 0 1 ∷ [] in
    let s2 : Entries = made 0 Spawn None ∷ heard 0 1 ∷ made 0 (Add 5) (Some 0) ∷ [] in
    let o3 : Entries = made 0 (Wait 5) (Some 5) ∷ [] in
    let s3 : Entries = beginning ++ made 1 (Add 1) (Some 5) ∷ [] in
    let s4 : Entries = s3 ++ made 1 Notify None ∷ [] in
    let s5 : Entries = s4 ++ heard 1 1 ∷ [] in
    let s6 : Entries = s5 ++ made 1 Leave None ∷ [] in
    let o7 : Entries = heard 0 0 ∷ [] in
    let s7 : Entries = s6 ++ o7 ++ heard 1 0 ∷ [] in
    record {
      begun = b;
      started = λ z. cc (z);
      fresh = refl;
      last = s7;
      sees = (
        b,
        refl,
        (
          s2,
          lost_try,
          (
            s3,
            sees_act 1 (Made (Add 1) (Some 5)) s2 o3 refl (room 4 l4),
            (
              s4,
              sees_act 1 (Made Notify None) s3 [] refl (room 5 l5),
              (
                s5,
                sees_act 1 (Heard 1) s4 [] refl (exempt 6),
                (
                  s6,
                  sees_act 1 (Made Leave None) s5 [] refl (exempt 7),
                  (s7, sees_act 1 (Heard 0) s6 o7 refl (exempt 9), refl),
                ),
              ),
            ),
          ),
        ),
      );
      unseen = made 0 Leave None ∷ heard 0 0 ∷ [];
      history = refl;
    }

never_started : (m : ℕ) → m ≢ 0 → m ≢ 1 → places history m ≡ Unstarted
unfolding put
never_started m h0 h1 = let e0 : (m == 0) ≡ false = other_is m 0 h0 in let e1 : (m == 1) ≡ false = other_is m 1 h1 in simp (e0, e1)

seen : AllHaveSeen example rules first_state first_places steps history
unfolding put
seen = of_each (λ m. places history m ≢ Unstarted
    → HasSeen example rules first_state.shared first_places history m (steps m)) (λ z. first_seen) (λ z. other_seen)
    (λ m h0 h1 z. absurd (z (never_started m h0 h1)))

pub worked : WorkedRun
unfolding put
worked =
    let one = one_schedule example (facts example example_laws) steps ends first_state first_places history run in
    record {
      laws = machine_laws;
      run = run;
      seen = seen;
      schedule = refl;
      word = refl;
      first_end = refl;
      other_end = refl;
      follows = follows example rules example_laws first_state first_places steps ends history run seen one;
      gives = one.gives;
    }

no_steps_made : (m : ℕ) → m ≢ 0 → m ≢ 1 → steps_made example m first_state another ≡ []
unfolding put
no_steps_made m h0 h1 =
    let f0 : (0 == m) ≡ false = other_is 0 m (λ z. h0 (sym z)) in
    let f1 : (1 == m) ≡ false = other_is 1 m (λ z. h1 (sym z)) in
    let e0 : (m == 0) ≡ false = other_is m 0 h0 in
    let e1 : (m == 1) ≡ false = other_is m 1 h1 in
    simp (f0, f1, e0, e1)

pub another_schedule : AnotherSchedule
unfolding put
another_schedule =
    let one = one_schedule example (facts example example_laws) steps ends first_state first_places history run in
    let makes : Makes example first_state history another = record {
      events = refl;
      answers = of_each (λ m. acts (steps_made example m first_state another) ≡ acts_of m history) refl refl
          (λ m h0 h1. ap acts (no_steps_made m h0 h1) ∙ no_more_entries m h0 h1);
    } in
    let as_many : LoseAsMany example first_state (schedule_of history steps) another =
    of_each (λ m. losses_between (steps_made example m first_state (schedule_of history steps)) ≡ losses_between
    (steps_made example m first_state another)) refl refl
    (λ m h0 h1. ap losses_between (one.makes_steps m ∙ (no_more_steps m h0 h1 ∙ sym (no_steps_made m h0 h1)))) in
    let gone : AllGone example first_state first_places history another =
    of_each (λ m. places history m ≢ Unstarted → example.wants ((scheduled_run example first_state another).threads m) ≡ Gone) (λ z. refl) (λ z. refl)
    (λ m h0 h1 z. absurd (z (never_started m h0 h1))) in
    record {
      makes = makes;
      losses = as_many;
      gone = gone;
      gives = other_schedule example (facts example example_laws) first_state first_places steps ends history run another makes as_many gone;
    }

pub no_answer_of_another : NoAnswerOfAnother
unfolding put
no_answer_of_another more h = cc (h.1.0)

-- the last of a list
last_of : {B : Type 0} → List B → Option B
last_of [] = None
last_of (x ∷ []) = Some x
last_of (x ∷ y ∷ xs) = last_of (y ∷ xs)

last_two : {B : Type 0} (xs : List B) (y z : B) → last_of (xs ++ y ∷ z ∷ []) ≡ Some z
unfolding last_of
last_two [] y z = refl
last_two (x ∷ []) y z = refl
last_two (x ∷ w ∷ xs) y z = last_two (w ∷ xs) y z

pub no_entry_after_leave : NoEntryAfterLeave
unfolding put last_of
no_entry_after_leave steps ends h =
    let k = leaves_last machine example.reply example.after example.gives example.starts (steps 0) (At first_program) 10 (ends 0) (h.runs 0 refl) in
    let last : last_of (acts (steps 0)) ≡ Some (Heard k.answer) = ap last_of k.entries ∙ last_two k.before (Made Leave k.reply) (Heard k.answer) in
    let entry : last_of (acts (steps 0)) ≡ Some (Made (Add 1) (Some 6)) = ap last_of (h.entries 0) in
    cc (last, entry)
