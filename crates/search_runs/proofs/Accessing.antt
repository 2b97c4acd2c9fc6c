-- Plain accesses of a module's threads are nobody else's concern, unless they conflict.
use Rattle.std.proofs.Common.{◌≡◌, ◌≢◌, ◌==◌, ◌&&◌, Bool, true, cond, nat_lt, ℕ, zero, suc, ◌+◌, ◌<◌, ◌≤◌, ◌⊎◌, inl}
use Rattle.std.proofs.Common.{inr, length, List, [], ◌∷◌, Option, Some, None, refl, sym, ◌∙◌, ap, subst, arith}
use Rattle.std.specs.List.{slice_get}
use Rattle.std.specs.Prelude.{not, replicate}
use Rattle.std.proofs.lemmas.Bool.{cases_lt}
use Rattle.std.proofs.lemmas.Option.{none-some}
use Rattle.std.proofs.lemmas.List.{length-replicate}
use Rattle.types.specs.declared.event.Event.{Event}
use Rattle.types.specs.declared.event.Event.TheVariants as events
use Rattle.types.specs.declared.event.Question.TheVariants as questions
use Rattle.types.specs.declared.event.Reply.{Reply}
use Rattle.allowed_races.specs.declared.allowed.Allowed.{Allowed}
use Rattle.types.specs.declared.event.Answer.{Answer}
use Rattle.types.specs.declared.limits.TheConstants.{MOST_THREADS}
use Rattle.types.specs.declared.outcome.Outcome.{Outcome}
use Rattle.shared_memory.specs.Memory.{Memory, reply_of, state_after}
use Rattle.shared_memory.specs.WaitQueue.{WaitQueue, answer_due, next_id}
use Rattle.shared_memory.specs.History.{queue_step}
use Rattle.shared_memory.proofs.Soundness.{no_answers}
use Rattle.schedule.specs.System.{Want, Want.Calls, Want.Gone}
use Rattle.schedule.specs.System as systems
use Rattle.schedule_threads.specs.Shared.{Shared, without_dues, queue_by}
use Rattle.schedule_threads.specs.Threads.{machine_of}
use Rattle.interp_trait.specs.Turns.{spawned_in}
use Rattle.search_threads.specs.Unlimited.{Unlimited.Missing, Unlimited.Away, unlimited_wants}
use Rattle.search_threads.specs.Budgets.{started_without}
use Rattle.search_settled.specs.declared.access.NextAccess.{NextAccess}
use Rattle.search_settled.specs.Accesses.{IsPlain, Conflict}
use Rattle.search_race_free.specs.Wanted.{ArePlain, AreIndependent, WantsPlain, next_access}
use Rattle.search_race_free.specs.Wanted as nexts
use Rattle.search_race_free.specs.Search.{NoneBeyond, NobodyGoesOn}
use Rattle.search_runs.specs.Called.{Called, Walker, system_of, first_state, shared_by, begun_at}
use Rattle.search_runs.specs.Accesses.{access_by, access_of, is_plain, judged, may_race}
use Rattle.search_runs.specs.Ends.{HasEndedSo}
use Rattle.search_runs.specs.Theorems.{CanReach}
use Rattle.search_runs.proofs.Tame.{orderly, missing}
use Rattle.search_runs.proofs.Plain.{IsAccess, is-access, both-true, longer, reply-still, found-still, leaves-same, access-same, conflict-still, access-stays}

-- an access leaves the queue
queue-still : (m : Memory) (q : WaitQueue) (n : ℕ) (e : Event) (r : Reply) → IsAccess m e → queue_step q n e r ≡ q
queue-still m q n events.Size r is = absurd is
queue-still m q n (events.Grow more) r is = absurd is
queue-still m q n (events.Load addr width reach) r is = refl
queue-still m q n (events.Store addr width reach value) r is = refl
queue-still m q n (events.Rmw op addr width value) r is = absurd is
queue-still m q n (events.Cmpxchg addr width expected replacement) r is = absurd is
queue-still m q n (events.Ask question) r is = absurd is
queue-still m q n (events.Told answer) r is = absurd is

-- it starts nobody
starts-nobody : (b : Called) (x : Shared) (m : Memory) (e : Event) (u : ℕ) → IsAccess m e → started_without {O = Outcome} (begun_at b x e u) ≡ None
starts-nobody b x m events.Size u is = absurd is
starts-nobody b x m (events.Grow more) u is = absurd is
starts-nobody b x m (events.Load addr width reach) u is = refl
starts-nobody b x m (events.Store addr width reach value) u is = refl
starts-nobody b x m (events.Rmw op addr width value) u is = absurd is
starts-nobody b x m (events.Cmpxchg addr width expected replacement) u is = absurd is
starts-nobody b x m (events.Ask question) u is = absurd is
starts-nobody b x m (events.Told answer) u is = absurd is

-- whom an event starts the queue says
starts-same : (b : Called) (x y : Shared) (f : Event) (u : ℕ) → y.queue ≡ x.queue → started_without {O = Outcome} (begun_at b y f u) ≡ started_without
    {O = Outcome} (begun_at b x f u)
starts-same b x y events.Size u h = refl
starts-same b x y (events.Grow more) u h = refl
starts-same b x y (events.Load addr width reach) u h = refl
starts-same b x y (events.Store addr width reach value) u h = refl
starts-same b x y (events.Rmw op addr width value) u h = refl
starts-same b x y (events.Cmpxchg addr width expected replacement) u h = refl
starts-same b x y (events.Ask (questions.Wait addr width expected timeout)) u h = refl
starts-same b x y (events.Ask (questions.Notify addr count)) u h = refl
starts-same b x y (events.Ask (questions.Spawn arg)) u h =
    ap (λ (q : WaitQueue). started_without {O = Outcome} (cond (nat_lt u (length q.due) && (u == next_id q)) (Some (spawned_in b.worker u arg)) None)) h
starts-same b x y (events.Ask questions.Leave) u h = refl
starts-same b x y (events.Told answer) u h = refl

dues-twice : (q : WaitQueue) → without_dues (without_dues q) ≡ without_dues q
dues-twice q = ap (λ n. record q { due = replicate n None }) (length-replicate (length q.due) None)

no-dues : (q : WaitQueue) (m : ℕ) → without_dues q ≡ q → answer_due q m ≡ None
no-dues q m h = ap (λ (z : WaitQueue). answer_due z m) (sym h) ∙ no_answers (length q.due) m

module _ (b : Called) (w : systems.State Shared Walker) (reach : CanReach b w) (n : ℕ) (e : Event) (is : IsAccess w.shared.memory e) where
  heard : without_dues w.shared.queue ≡ w.shared.queue
  heard = (orderly b w reach).heard

  queue-is : (shared_by w.shared n e).queue ≡ w.shared.queue
  queue-is = ap without_dues (queue-still w.shared.memory w.shared.queue n e (reply_of w.shared.memory e) is) ∙ heard

  pub gives-none : (m : ℕ) → answer_due (queue_by w.shared n e) m ≡ None
  gives-none m =
      ap (λ q. answer_due q m) (queue-still w.shared.memory w.shared.queue n e (reply_of w.shared.memory e) is) ∙ no-dues w.shared.queue m heard

  module _ (opening : ℕ) (p q : Bool) (u : ℕ) (f : Event)
      (spared : Conflict (access_by opening w.shared.memory p f) (access_by opening w.shared.memory q e) → ⊥) where
    -- what the event makes of the queue
    queue-other : queue_by (shared_by w.shared n e) u f ≡ queue_by w.shared u f
    queue-other =
        ap (λ z. queue_step z u f (reply_of (state_after w.shared.memory e) f)) queue-is
        ∙ ap (queue_step w.shared.queue u f) (found-still opening w.shared.memory p q f e is spared)

    queue-after : without_dues (queue_by (shared_by w.shared u f) n e) ≡ without_dues (queue_by (shared_by w.shared n e) u f)
    queue-after =
        ap without_dues (queue-still w.shared.memory (without_dues (queue_by w.shared u f)) n e (reply_of (state_after w.shared.memory f) e) is)
        ∙ (dues-twice (queue_by w.shared u f) ∙ sym (ap without_dues queue-other))

    pub independent : AreIndependent (system_of b) w.shared n e u f
    independent = record {
      reply = reply-still opening w.shared.memory p q f e is spared;
      reply_other = found-still opening w.shared.memory p q f e is spared;
      shared = λ i. record { memory = leaves-same opening w.shared.memory p q f e is spared i; queue = queue-after i };
      gives = λ m. ap (λ z. answer_due z m) queue-other;
      starts = λ m. starts-same b w.shared (shared_by w.shared n e) f m queue-is;
    }

-- what a thread does, before it is said what may race
abbrev made_in : ℕ → systems.State Shared Walker → Walker → Event → NextAccess
made_in opening w t e = access_by opening w.shared.memory (is_plain t) e

-- what may race changes no conflict
module _ (allowed : Allowed) (a b : NextAccess) where
  judged-conflict : Conflict a b → Conflict (judged allowed a) (judged allowed b)
  judged-conflict c = record { meet = c.meet; write = c.write }

  unjudged-conflict : Conflict (judged allowed a) (judged allowed b) → Conflict a b
  unjudged-conflict c = record { meet = c.meet; write = c.write }

pub plain : (b : Called) (allowed : Allowed) (opening : ℕ) → ArePlain (system_of b) (access_of allowed opening) (first_state b)
plain b allowed opening = record {
  gives = λ w n e wants m. gives-none b w wants.reached n e (access-at w n e wants) m;
  starts = λ w n e wants m. starts-nobody b w.shared w.shared.memory e m (access-at w n e wants);
  same = λ w n e wants t f spared. ap (judged allowed)
      (access-same opening w.shared.memory (is_plain t) (is_plain (w.threads n)) f e (access-at w n e wants)
      (λ c. spared (judged-conflict allowed (made_in opening w t f) (made_in opening w (w.threads n) e) c)));
  still = λ w n e wants t f c. judged-conflict allowed
      (access_by opening (state_after w.shared.memory e) (is_plain t) f) (made_in opening w (w.threads n) e)
      (conflict-still opening w.shared.memory (is_plain t) (is_plain (w.threads n)) f e (access-at w n e wants)
      (unjudged-conflict allowed (made_in opening w t f) (made_in opening w (w.threads n) e) c));
  stays = λ w n e wants u f calls. ap (judged allowed)
      (access-stays opening w.shared.memory (state_after w.shared.memory f) (is_plain (w.threads n)) e (access-at w n e wants) (longer w.shared.memory f));
  independent = λ w n e wants u f calls apart spared.
      independent b w wants.reached n e (access-at w n e wants) opening (is_plain (w.threads u)) (is_plain (w.threads n)) u f
      (λ c. spared (judged-conflict allowed (made_in opening w (w.threads u) f) (made_in opening w (w.threads n) e) c));
}
  where
    access-at : (w : systems.State Shared Walker) (n : ℕ) (e : Event) → WantsPlain (system_of b) (access_of allowed opening) (first_state b) w n e
        → IsAccess w.shared.memory e
    access-at w n e wants = is-access opening w.shared.memory (is_plain (w.threads n)) e
        (both-true (made_in opening w (w.threads n) e).plain (not (may_race allowed (made_in opening w (w.threads n) e))) wants.plain).0

-- who is gone can't go on
gone-not : (b : Called) (allowed : Allowed) (opening : ℕ) (w : systems.State Shared Walker) (n : ℕ) (a : NextAccess)
    → unlimited_wants (machine_of b.program) (w.threads n) ≡ Gone → next_access (system_of b) (access_of allowed opening) w n ≡ Some a → ⊥
gone-not b allowed opening w n a gone h =
    none-some a (sym (ap (nexts.access_by (system_of b) (access_of allowed opening) w.shared (w.threads n)) gone) ∙ h)

pub beyond : (b : Called) (allowed : Allowed) (opening : ℕ) → NoneBeyond (system_of b) (access_of allowed opening) (first_state b) MOST_THREADS
beyond b allowed opening w reach n past a h =
    let o = orderly b w reach in
    let sound = o.sound in
    let low : length (WaitQueue.args w.shared.queue) < length (WaitQueue.due w.shared.queue) = sound.few in
    let dues = o.dues in
    gone-not b allowed opening w n a (ap (unlimited_wants (machine_of b.program)) (missing b w reach n (omega (arith, low, dues, past)))) h

is_there : (xs : List Outcome) (n : ℕ) → n < length xs → (x : Outcome) × (slice_get xs n ≡ Some x)
is_there [] n lt = absurd (omega (arith, lt))
is_there (x ∷ xs) zero lt = (x, refl)
is_there (x ∷ xs) (suc n) lt = is_there xs n (omega (arith, lt))

pub finished : (b : Called) (allowed : Allowed) (opening dump : ℕ) → NobodyGoesOn (system_of b) (access_of allowed opening) (HasEndedSo dump)
finished b allowed opening dump w o ends n a h = elim (cases_lt n (next_id w.shared.queue)) [
  | inl low ↦
      (let count = ends.count in
      let at = is_there o.outcomes n (omega (arith, low, count)) in
      gone-not b allowed opening w n a (ap (unlimited_wants (machine_of b.program)) (ends.left n at.0 at.1)) h)
  | inr past ↦ gone-not b allowed opening w n a (ap (unlimited_wants (machine_of b.program)) (ends.others n past)) h
]
