-- Along a schedule who has asked to leave makes no event any more.
use Rattle.std.proofs.Common.{◌≡◌, ◌≢◌, ℕ, zero, suc, ◌+◌, ◌<◌, ◌≤◌, ◌==◌, ◌&&◌, Bool, true, false, List, [], ◌∷◌, ◌++◌, length, Option, Some, None}
use Rattle.std.proofs.Common.{refl, sym, ◌∙◌, ap, subst, inl, inr, arith, length-append}
use Rattle.std.specs.Prelude.{nat_lt}
use Rattle.std.proofs.lemmas.Bool.{cases_lt, cond_both, cond-true, and_parts, ltb-true, lt-ltb, eqb-true}
use Rattle.types.specs.declared.event.Event.{Event}
use Rattle.types.specs.declared.event.Event.TheVariants as events
use Rattle.types.specs.declared.event.Question.TheVariants.{Spawn, Leave}
use Rattle.types.specs.declared.event.Answer.{Answer}
use Rattle.types.specs.declared.event.Reply.{Reply}
use Rattle.types.specs.declared.event.Reply.TheVariants as replies
use Rattle.types.specs.declared.outcome.Outcome.{Outcome}
use Rattle.shared_memory.specs.Memory.{reply_of}
use Rattle.shared_memory.specs.WaitQueue.{WaitQueue, first_queue, next_id}
use Rattle.shared_memory.specs.History.{entry, queue_step}
use Rattle.schedule.specs.System.{Want, Want.Turns, Want.Calls, Want.Awaits, Want.Gone, Act, Act.Made, Act.Heard, Entry, Mark}
use Rattle.schedule.specs.System.{Kind, Kind.Turn, Kind.Loses, Kind.Fills, put}
use Rattle.schedule.specs.System as systems
use Rattle.schedule.specs.Scheduled.{or_started, hears_any, with_thread, after_event, after_turn, if_may, after_mark, entries_by, entries_at, entries_made}
use Rattle.schedule.specs.Machine.{Wish, Wish.Goes, Wish.Asks, Wish.Waits, Wish.Ends, Thread, Thread.Absent}
use Rattle.schedule.specs.Machine.{Thread.Runs, Thread.Over, Thread.Leaves, Thread.Left}
use Rattle.schedule.specs.Machine.{wanted, thread_wants, takes_by, thread_takes}
use Rattle.schedule.proofs.Basics.{put-same, put-other, same_or_not}
use Rattle.interp_machine.specs.State.{State}
use Rattle.schedule_threads.specs.Shared.{Shared, starts_by}
use Rattle.schedule_threads.specs.Threads.{wishes, machine_of}
use Rattle.schedule_threads.proofs.Asking.{wishes_of_threads}
use Rattle.schedule_runs.specs.Runs.{Start, system_of, state_for}
use Rattle.schedule_runs.proofs.Idle.{next_along}
use Rattle.schedule_runs.proofs.Places.{question_args}

-- A thread that has asked to leave.
abbrev IsOut : Thread State Outcome → Type 0
IsOut Absent = ⊥
IsOut (Runs c left) = ⊥
IsOut (Over outcome left) = ⊥
IsOut (Leaves outcome left) = Unit {0}
IsOut (Left outcome left) = Unit {0}

-- No entry of a thread.
abbrev pub NoneOf : ℕ → List (Entry Event Reply Answer) → Type 0
NoneOf n [] = Unit {0}
NoneOf n (h ∷ H) = (h.thread ≢ n) × NoneOf n H

abbrev pub IsLeaveAct : Act Event Reply Answer → Type 0
IsLeaveAct (Made (events.Ask Leave) reply) = Unit {0}
IsLeaveAct (Made event reply) = ⊥
IsLeaveAct (Heard answer) = ⊥

-- Behind a thread's leave it has no entry.
abbrev pub LeavesLast : List (Entry Event Reply Answer) → Type 0
LeavesLast [] = Unit {0}
LeavesLast (h ∷ H) = (IsLeaveAct h.act → NoneOf h.thread H) × LeavesLast H

none_both : (n : ℕ) (F G : List (Entry Event Reply Answer)) → NoneOf n F → NoneOf n G → NoneOf n (F ++ G)
none_both n [] G f g = g
none_both n (h ∷ F) G f g = (f.0, none_both n F G f.1 g)

module _ (b : Start) where
  abbrev Of : Type 0
  Of = systems.State Shared (Thread State Outcome)

  abbrev next : Of → ℕ
  next w = next_id w.shared.queue

  abbrev wants : Thread State Outcome → Want Event
  wants t = thread_wants (machine_of b.program) t

  -- numbers that aren't given out are nobody's
  abbrev Unborn : Of → Type 0
  Unborn w = (m : ℕ) → next w ≤ m → w.threads m ≡ Absent

  known_of : (w : Of) (k : ℕ) → Unborn w → (w.threads k ≡ Absent → ⊥) → k < next w
  known_of w k unborn there = elim (cases_lt k (next w)) [ inl known ↦ known | inr past ↦ absurd (there (unborn k past)) ]

  known_by : (w : Of) (k : ℕ) (wt : Want Event) → Unborn w → wants (w.threads k) ≡ wt → (wt ≡ Gone → ⊥) → k < next w
  known_by w k wt unborn is isnt = known_of w k unborn (λ e. isnt (sym is ∙ ap wants e))

  -- an event gives out numbers, and takes none back
  next_event : (w : Of) (k : ℕ) (e : Event) → next w ≤ next (after_event (system_of b) w k e)
  next_event w k e = next_along w.shared.queue (entry k e (reply_of w.shared.memory e) ∷ [])

  spawn_next : (q : WaitQueue) (k arg : ℕ) → next_id q < length q.due → next_id (queue_step q k (events.Ask (Spawn arg)) replies.Done) ≡ next_id q + 1
  spawn_next q k arg room =
      ap (λ w. length w + 1) (question_args q k (Spawn arg) 0 ∙ cond-true (nat_lt (next_id q) (length q.due)) (q.args ++ arg ∷ []) q.args
      (lt-ltb (next_id q) (length q.due) room))
      ∙ omega (arith, length-append q.args (arg ∷ []))

  -- whom an event starts had no number before, and has one after
  starts_new : (w : Of) (k : ℕ) (e : Event) (m : ℕ) (t : Thread State Outcome)
      → starts_by (machine_of b.program) b.spawned b.fuel w.shared e m ≡ Some t
      → (m ≡ next w) × (m < next (after_event (system_of b) w k e))
  starts_new w k (events.Ask (Spawn arg)) m t is =
      cond_both (nat_lt m (length w.shared.queue.due) && (m == next w)) (Some (Runs (b.spawned m arg) b.fuel)) None
      (λ o. o ≡ Some t → (m ≡ next w) × (m < next (after_event (system_of b) w k (events.Ask (Spawn arg)))))
      (λ both e.
      let parts : (nat_lt m (length w.shared.queue.due) ≡ true) × ((m == next w) ≡ true) = and_parts (nat_lt m (length w.shared.queue.due))
      (m == next w) both in
      let same : m ≡ next w = eqb-true m (next w) parts.1 in
      let room : m < length w.shared.queue.due = ltb-true m (length w.shared.queue.due) parts.0 in
      let more = spawn_next w.shared.queue k arg (omega (arith, same, room)) in
      (same, omega (arith, same, more)))
      (λ isnt e. absurd (cc e)) is
  starts_new w k e m t is = absurd (cc is)

  starts_none : (w : Of) (k : ℕ) (e : Event) (m : ℕ) → ((m ≡ next w) → (m < next (after_event (system_of b) w k e)) → ⊥)
      → (o : Option (Thread State Outcome)) → starts_by (machine_of b.program) b.spawned b.fuel w.shared e m ≡ o
      → starts_by (machine_of b.program) b.spawned b.fuel w.shared e m ≡ None
  starts_none w k e m isnt None is = is
  starts_none w k e m isnt (Some t) is = let new = starts_new w k e m t is in absurd (isnt new.0 new.1)

  absent_hears : (o : Option Answer) → hears_any (system_of b) Absent o ≡ Absent
  absent_hears None = refl
  absent_hears (Some a) = refl

  out_hears : (t : Thread State Outcome) (o : Option Answer) → IsOut t → IsOut (hears_any (system_of b) t o)
  out_hears t None out = out
  out_hears (Leaves outcome left) (Some a) out = tt
  out_hears (Left outcome left) (Some a) out = tt
  out_hears Absent (Some a) out = out
  out_hears (Runs c left) (Some a) out = absurd out
  out_hears (Over outcome left) (Some a) out = out

  -- nobody is born but by a spawn

  unborn_with : (w : Of) (k : ℕ) (t : Thread State Outcome) → k < next w → Unborn w → Unborn (with_thread (system_of b) w k t)
  unborn_with w k t known unborn m past = put-other w.threads k t m (λ e. absurd (omega (arith, e))) ∙ unborn m past

  unborn_event : (w : Of) (k : ℕ) (e : Event) → k < next w → Unborn w → Unborn (after_event (system_of b) w k e)
  unborn_event w k e known unborn m past =
      let more = next_event w k e in
      let s = system_of b in
      let none = starts_none w k e m (λ same below. absurd (omega arith)) (s.starts w.shared k e m) refl in
      ap (λ o. or_started o (hears_any s (put w.threads k (s.takes (w.threads k) (s.reply w.shared k e)) m) (s.gives w.shared k e m))) none
      ∙ (ap (λ t. hears_any s t (s.gives w.shared k e m))
      (put-other w.threads k (s.takes (w.threads k) (s.reply w.shared k e)) m (λ e. absurd (omega (arith, e))) ∙ unborn m (omega arith))
      ∙ absent_hears (s.gives w.shared k e m))

  unborn_turn : (w : Of) (k : ℕ) (wt : Want Event) → wants (w.threads k) ≡ wt → Unborn w → Unborn (after_turn (system_of b) w k wt)
  unborn_turn w k Turns is unborn = unborn_with w k _ (known_by w k Turns unborn is (λ e. absurd (cc e))) unborn
  unborn_turn w k (Calls e) is unborn = unborn_event w k e (known_by w k (Calls e) unborn is (λ e. absurd (cc e))) unborn
  unborn_turn w k Awaits is unborn = unborn
  unborn_turn w k Gone is unborn = unborn

  unborn_may : (w : Of) (k : ℕ) (t : Thread State Outcome) (may : Bool) → (may ≡ true → k < next w) → Unborn w
      → Unborn (if_may (system_of b) may (with_thread (system_of b) w k t) w)
  unborn_may w k t true known unborn = unborn_with w k t (known refl) unborn
  unborn_may w k t false known unborn = unborn

  unborn_mark : (w : Of) (k : ℕ) (kind : Kind) → Unborn w → Unborn (after_mark (system_of b) w k kind)
  unborn_mark w k Turn unborn = unborn_turn w k (wants (w.threads k)) refl unborn
  unborn_mark w k Loses unborn = unborn_may w k _ _ (λ may. known_of w k unborn (λ e. let s = system_of b in
      let no : s.may_lose (w.threads k) ≡ false = ap s.may_lose e in absurd (cc (may, no)))) unborn
  unborn_mark w k Fills unborn = unborn_may w k _ _ (λ may. known_of w k unborn (λ e. let s = system_of b in
      let no : s.may_fill (w.threads k) ≡ false = ap s.may_fill e in absurd (cc (may, no)))) unborn

  -- who is out stays out, and makes nothing

  record StaysOut (n : ℕ) (w : Of) : Type 0 where
    out : IsOut (w.threads n)
    known : n < next w

  -- after a mark, with the entries made at it
  abbrev Still : ℕ → Of → List (Entry Event Reply Answer) → Type 0
  Still n w H = StaysOut n w × NoneOf n H

  out_with : (n : ℕ) (w : Of) (k : ℕ) (t : Thread State Outcome) → k ≢ n → StaysOut n w → StaysOut n (with_thread (system_of b) w k t)
  out_with n w k t apart x = record { out = subst IsOut (sym (put-other w.threads k t n (λ e. apart (sym e)))) x.out; known = x.known }

  out_event : (n : ℕ) (w : Of) (k : ℕ) (e : Event) (t : Thread State Outcome)
      → put w.threads k (thread_takes (machine_of b.program) (w.threads k) (reply_of w.shared.memory e)) n ≡ t → IsOut t → n < next w
      → StaysOut n (after_event (system_of b) w k e)
  out_event n w k e t is out known =
      let more = next_event w k e in
      let s = system_of b in
      let none = starts_none w k e n (λ same below. absurd (omega arith)) (s.starts w.shared k e n) refl in
      let here : (after_event s w k e).threads n ≡ hears_any s t (s.gives w.shared k e n) =
      ap (λ o. or_started o (hears_any s (put w.threads k (s.takes (w.threads k) (s.reply w.shared k e)) n) (s.gives w.shared k e n))) none
      ∙ ap (λ u. hears_any s u (s.gives w.shared k e n)) is in
      record { out = subst IsOut (sym here) (out_hears t (s.gives w.shared k e n) out); known = omega arith }

  out_turn : (n : ℕ) (w : Of) (k : ℕ) (wt : Want Event) → k ≢ n → StaysOut n w
      → Still n (after_turn (system_of b) w k wt) (entries_by (system_of b) w k wt)
  out_turn n w k Turns apart x = (out_with n w k _ apart x, tt)
  out_turn n w k (Calls e) apart x =
      (out_event n w k e (w.threads n) (put-other w.threads k _ n (λ e. apart (sym e))) x.out x.known, (apart, tt))
  out_turn n w k Awaits apart x = (x, tt)
  out_turn n w k Gone apart x = (x, tt)

  out_may : (n : ℕ) (w : Of) (k : ℕ) (t : Thread State Outcome) (may : Bool) → k ≢ n → StaysOut n w
      → StaysOut n (if_may (system_of b) may (with_thread (system_of b) w k t) w)
  out_may n w k t true apart x = out_with n w k t apart x
  out_may n w k t false apart x = x

  out_other : (n : ℕ) (w : Of) (k : ℕ) (kind : Kind) → k ≢ n → StaysOut n w
      → Still n (after_mark (system_of b) w k kind) (entries_at (system_of b) w k kind)
  out_other n w k Turn apart x = out_turn n w k (wants (w.threads k)) apart x
  out_other n w k Loses apart x = (out_may n w k _ _ apart x, tt)
  out_other n w k Fills apart x = (out_may n w k _ _ apart x, tt)

  -- its own marks change nothing
  abbrev Idle : Of → ℕ → Thread State Outcome → Kind → Type 0
  Idle w n t kind = (w.threads n ≡ t) → (after_mark (system_of b) w n kind ≡ w) × (entries_at (system_of b) w n kind ≡ [])

  out_idle : (n : ℕ) (w : Of) (t : Thread State Outcome) (kind : Kind) → IsOut t → Idle w n t kind
  out_idle n w (Leaves outcome left) Turn out is =
      let e : wants (w.threads n) ≡ Awaits = ap wants is in (ap (after_turn (system_of b) w n) e, ap (entries_by (system_of b) w n) e)
  out_idle n w (Left outcome left) Turn out is =
      let e : wants (w.threads n) ≡ Gone = ap wants is in (ap (after_turn (system_of b) w n) e, ap (entries_by (system_of b) w n) e)
  out_idle n w (Leaves outcome left) Loses out is = (
    let s = system_of b in ap (λ may. if_may s may (with_thread s w n (s.lost (w.threads n))) w)
        (ap s.may_lose is),
    refl,
  )
  out_idle n w (Left outcome left) Loses out is = (
    let s = system_of b in ap (λ may. if_may s may (with_thread s w n (s.lost (w.threads n))) w)
        (ap s.may_lose is),
    refl,
  )
  out_idle n w (Leaves outcome left) Fills out is = (
    let s = system_of b in ap (λ may. if_may s may (with_thread s w n (s.full (w.threads n))) w)
        (ap s.may_fill is),
    refl,
  )
  out_idle n w (Left outcome left) Fills out is = (
    let s = system_of b in ap (λ may. if_may s may (with_thread s w n (s.full (w.threads n))) w)
        (ap s.may_fill is),
    refl,
  )
  out_idle n w Absent kind out is = absurd out
  out_idle n w (Runs c left) kind out is = absurd out
  out_idle n w (Over outcome left) kind out is = absurd out

  out_mark : (n : ℕ) (w : Of) (k : ℕ) (kind : Kind) → StaysOut n w
      → Still n (after_mark (system_of b) w k kind) (entries_at (system_of b) w k kind)
  out_mark n w k kind x =
      elim (same_or_not k n) [
        | inl same ↦ subst (λ (j : ℕ). Still n (after_mark (system_of b) w j kind) (entries_at (system_of b) w j kind)) (sym same) own
        | inr apart ↦ out_other n w k kind apart x
      ]
    where
      own : Still n (after_mark (system_of b) w n kind) (entries_at (system_of b) w n kind)
      own = let idle = out_idle n w (w.threads n) kind x.out refl in
          (subst (λ (v : Of). StaysOut n v) (sym idle.0) x, subst (NoneOf n) (sym idle.1) tt)

  none_made : (n : ℕ) (w : Of) (S : List Mark) → StaysOut n w → NoneOf n (entries_made (system_of b) w S)
  none_made n w [] x = tt
  none_made n w (k ∷ S) x =
      let next = out_mark n w k.thread k.kind x in
      none_both n (entries_at (system_of b) w k.thread k.kind) (entries_made (system_of b) (after_mark (system_of b) w k.thread k.kind) S)
      next.1 (none_made n (after_mark (system_of b) w k.thread k.kind) S next.0)

  -- who wants to leave is out after it

  leaving_by : (c : State) (left : ℕ) (reply : Reply) (wish : Wish Event Outcome) → wishes b.program c ≡ wish
      → wanted (machine_of b.program) left wish ≡ Calls (events.Ask Leave) → IsOut (takes_by (machine_of b.program) wish c left reply)
  leaving_by c zero reply Goes is wants = absurd (cc wants)
  leaving_by c (suc n) reply Goes is wants = absurd (cc wants)
  leaving_by c zero reply Waits is wants = absurd (cc wants)
  leaving_by c (suc n) reply Waits is wants = absurd (cc wants)
  leaving_by c left reply (Ends outcome) is wants = tt
  leaving_by c zero reply (Asks event) is wants = absurd (cc wants)
  leaving_by c (suc n) reply (Asks event) is wants =
      let same : event ≡ events.Ask Leave = cc wants in absurd (wishes_of_threads b.program c (events.Ask Leave) (is ∙ ap Asks same))

  leaving : (t : Thread State Outcome) (reply : Reply) → wants t ≡ Calls (events.Ask Leave) → IsOut (thread_takes (machine_of b.program) t reply)
  leaving Absent reply wants = absurd (cc wants)
  leaving (Runs c left) reply wants = leaving_by c left reply (wishes b.program c) refl wants
  leaving (Over outcome left) reply wants = tt
  leaving (Leaves outcome left) reply wants = absurd (cc wants)
  leaving (Left outcome left) reply wants = absurd (cc wants)

  out_after : (w : Of) (k : ℕ) (e : Event) (reply : Reply) → Unborn w → wants (w.threads k) ≡ Calls e → IsLeaveAct (Made e reply)
      → StaysOut k (after_event (system_of b) w k e)
  out_after w k (events.Ask Leave) reply unborn is leaves =
      let reply = reply_of w.shared.memory (events.Ask Leave) in
      out_event k w k (events.Ask Leave) (thread_takes (machine_of b.program) (w.threads k) reply)
      (put-same w.threads k (thread_takes (machine_of b.program) (w.threads k) reply)) (leaving (w.threads k) reply is)
      (known_by w k (Calls (events.Ask Leave)) unborn is (λ e. absurd (cc e)))
  out_after w k e reply unborn is leaves = absurd leaves

  -- the rest of a schedule, from where a mark leaves it
  abbrev Rest : List Mark → Type 0
  Rest S = (v : Of) → Unborn v → LeavesLast (entries_made (system_of b) v S)

  turn_last : (w : Of) (k : ℕ) (S : List Mark) (wt : Want Event) → Rest S → wants (w.threads k) ≡ wt → Unborn w
      → LeavesLast (entries_by (system_of b) w k wt ++ entries_made (system_of b) (after_turn (system_of b) w k wt) S)
  turn_last w k S Turns rest is unborn = rest (after_turn (system_of b) w k Turns) (unborn_turn w k Turns is unborn)
  turn_last w k S (Calls e) rest is unborn = (
    (λ leaves. none_made k (after_event (system_of b) w k e) S (out_after w k e (reply_of w.shared.memory e) unborn is leaves)),
    rest (after_turn (system_of b) w k (Calls e)) (unborn_turn w k (Calls e) is unborn),
  )
  turn_last w k S Awaits rest is unborn = rest w unborn
  turn_last w k S Gone rest is unborn = rest w unborn

  mark_last : (w : Of) (k : ℕ) (kind : Kind) (S : List Mark) → Rest S → Unborn w
      → LeavesLast (entries_at (system_of b) w k kind ++ entries_made (system_of b) (after_mark (system_of b) w k kind) S)
  mark_last w k Turn S rest unborn = turn_last w k S (wants (w.threads k)) rest refl unborn
  mark_last w k Loses S rest unborn = rest (after_mark (system_of b) w k Loses) (unborn_mark w k Loses unborn)
  mark_last w k Fills S rest unborn = rest (after_mark (system_of b) w k Fills) (unborn_mark w k Fills unborn)

  made_last : (S : List Mark) → Rest S
  made_last [] w unborn = tt
  made_last (k ∷ S) w unborn = mark_last w k.thread k.kind S (made_last S) unborn

  unborn_first : (most : ℕ) → Unborn (state_for most b)
  unfolding first_queue
  unborn_first most m past = put-other (λ (j : ℕ). Absent) 0 (Runs b.main b.fuel) m (λ e. absurd (omega (arith, e, past)))

  pub first_last : (most : ℕ) (S : List Mark) → LeavesLast (entries_made (system_of b) (state_for most b) S)
  first_last most S = made_last S (state_for most b) (unborn_first most)
