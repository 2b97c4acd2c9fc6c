-- A thread that makes a spawn.
use Rattle.std.specs.Prelude.{nat_lt}
use Rattle.std.proofs.Common.{◌≡◌, ◌≢◌, ℕ, ◌+◌, ◌<◌, ◌==◌, ◌&&◌, true, false, cond, List, [], ◌∷◌, ◌++◌, length}
use Rattle.std.proofs.Common.{length-append, length-set, Option, Some, None, sym, ◌∙◌, ap, subst, arith, get_or}
use Rattle.std.proofs.Common.{slice_get}
use Rattle.std.proofs.lemmas.Bool.{cond-true, cond_both, lt-ltb, eq-eqb, eqb-true, and_from, and_parts}
use Rattle.std.proofs.lemmas.List.{length-replicate}
use Rattle.std.proofs.lemmas.Option.{slice_get-get_or}
use Rattle.types.specs.declared.value.Value.{Value}
use Rattle.types.specs.declared.event.Event.{Event}
use Rattle.types.specs.declared.event.Event.TheVariants as events
use Rattle.types.specs.declared.event.Question.TheVariants.{Spawn}
use Rattle.types.specs.declared.event.Answer.{Answer}
use Rattle.types.specs.declared.event.Reply.{Reply}
use Rattle.types.specs.declared.outcome.Outcome.{Outcome}
use Rattle.types.specs.declared.limits.TheConstants.{MOST_THREADS}
use Rattle.shared_memory.specs.Memory.{reply_of}
use Rattle.shared_memory.specs.Events.{is_exempt}
use Rattle.shared_memory.specs.WaitQueue.{WaitQueue, is_alive, next_id, after_question}
use Rattle.shared_memory.specs.History.{queue_step}
use Rattle.schedule.specs.System.{Want.Calls}
use Rattle.schedule.specs.Machine.{Thread.Runs}
use Rattle.schedule.proofs.Basics.{at_each}
use Rattle.interp_machine.specs.Config.{Config}
use Rattle.schedule_threads.specs.Shared.{Shared}
use Rattle.schedule_runs.proofs.Places.{question_args}
use Rattle.interp_trait.specs.Turns.{Running, outcome_of, wants_of, Meaning, spawn_types, spawned_in}
use Rattle.replay_walk.specs.Standing.{Standing, IsStanding, IsSettledOn, IsStartedAt, system_at, made_by}
use Rattle.replay_walk.proofs.Told.{slice_get-set_same, slice_get-set_other}
use Rattle.replay_walk.proofs.Events.{IsFreePlace}
use Rattle.replay_walk.proofs.Places.{SlotGoes}
use Rattle.replay_walk.proofs.Living.{spawned_alive}
use Rattle.replay_walk.proofs.Made.{HasTaken, place, slot_here, slot_other, after_alike, alike_set, no_start, spawn_ready, stands_made}

module _ {S : Type 0} (meaning : S → Meaning) where
  pub count_is : (s : Standing) (threads : List S) (queue : WaitQueue) (begun : ℕ) (ends : List (Option Outcome))
      → IsStanding meaning s threads queue begun ends
      → next_id s.state.shared.queue ≡ begun
  count_is s threads queue begun ends st = ap (λ (x : Shared). next_id x.queue) st.shared ∙ sym st.started

  pub dues_are : (s : Standing) (threads : List S) (queue : WaitQueue) (begun : ℕ) (ends : List (Option Outcome))
      → IsStanding meaning s threads queue begun ends
      → length s.state.shared.queue.due ≡ length queue.due
  dues_are s threads queue begun ends st =
      ap (λ (x : Shared). length x.queue.due) st.shared ∙ length-replicate {A = Option Answer} (length queue.due) None

  module _ (s : Standing) (threads : List S) (queue : WaitQueue) (begun : ℕ) (ends : List (Option Outcome)) (n : ℕ) (t : Running)
      (on : IsSettledOn meaning s threads queue begun ends n t) (arg : ℕ) (e : Event) (is : e ≡ events.Ask (Spawn arg))
      (v : Reply) (reply : v ≡ reply_of s.memory e) where
    number_is : next_id s.state.shared.queue ≡ begun
    number_is = count_is s on.before queue begun ends on.standing

    abbrev starts_in : ℕ → Option Running
    starts_in m = (system_at s).starts (s.state.shared) n e m

    abbrev started : Running
    started = Runs (spawned_in s.worker begun arg) s.budget

    starts_is : (m : ℕ) → starts_in m ≡ cond (nat_lt m (length queue.due) && (m == next_id s.state.shared.queue))
        (Some (Runs (spawned_in s.worker m arg) s.budget)) None
    starts_is m =
        ap (λ (x : Event). (system_at s).starts (s.state.shared) n x m) is
        ∙ ap (λ (k : ℕ). cond (nat_lt m k && (m == next_id s.state.shared.queue)) (Some (Runs (spawned_in s.worker m arg) s.budget)) None)
        (dues_are s on.before queue begun ends on.standing)

    starts_here : begun < length queue.due → starts_in begun ≡ Some started
    starts_here room =
        starts_is begun
        ∙ cond-true (nat_lt begun (length queue.due) && (begun == next_id s.state.shared.queue)) (Some started) None
        (and_from (nat_lt begun (length queue.due)) (begun == next_id s.state.shared.queue) (lt-ltb begun (length queue.due) room)
        (eq-eqb begun (next_id s.state.shared.queue) (sym number_is)))

    starts_other : (m : ℕ) → m ≢ begun → (x : Running) → starts_in m ≡ Some x → ⊥
    starts_other m apart x k =
        cond_both (nat_lt m (length queue.due) && (m == next_id s.state.shared.queue)) (Some (Runs (spawned_in s.worker m arg) s.budget)) None
        (λ w. w ≡ Some x → ⊥)
        (λ both e. apart (eqb-true m (next_id s.state.shared.queue)
        (and_parts (nat_lt m (length queue.due)) (m == next_id s.state.shared.queue) both).1 ∙ number_is))
        (λ isnt e. absurd (cc e))
        (sym (starts_is m) ∙ k)

    queue_is : queue_step queue n e v ≡ after_question queue n (Spawn arg) 0
    queue_is =
        ap (λ (x : Event). queue_step queue n x v) is
        ∙ ap (λ (w : Reply). queue_step queue n (events.Ask (Spawn arg)) w) (reply ∙ ap (λ (x : Event). reply_of s.memory x) is)

    next_is : begun < length queue.due → begun + 1 ≡ next_id (queue_step queue n e v)
    next_is room =
        let few : next_id queue < length queue.due = omega (arith, (on.standing).started, room) in
        let more : length (queue.args ++ arg ∷ []) ≡ length queue.args + 1 = length-append queue.args (arg ∷ []) in
        ap (λ k. k + 1) (on.standing).started
        ∙ (ap (λ k. k + 1) (sym more)
        ∙ sym (ap next_id queue_is ∙ ap (λ w. length w + 1)
        (question_args queue n (Spawn arg) 0
        ∙ cond-true (nat_lt (next_id queue) (length queue.due)) (queue.args ++ arg ∷ []) queue.args
        (lt-ltb (next_id queue) (length queue.due) few))))

    born : begun < length queue.due → (m : ℕ) (x : Running) → starts_in m ≡ Some x → is_alive (queue_step queue n e v) m ≡ true
    born room =
        at_each begun (λ m. (x : Running) → starts_in m ≡ Some x → is_alive (queue_step queue n e v) m ≡ true)
        (λ x k. ap (λ (q : WaitQueue). is_alive q begun) queue_is
        ∙ subst (λ (k : ℕ). is_alive (after_question queue n (Spawn arg) 0) k ≡ true) (sym (on.standing).started)
        (spawned_alive queue n arg 0 (omega (arith, (on.standing).started, room))))
        (λ m h x k. absurd (starts_other m h x k))

    module _ (kind : is_exempt e ≡ false) (none : outcome_of t ≡ None) (wants : wants_of s.program t ≡ Calls e)
        (after : List S) (taken : HasTaken meaning s threads queue begun ends n t on v after)
        (room : begun < length queue.due) (full : length threads ≡ MOST_THREADS) where
      apart : begun ≢ n
      apart =
          let started : begun ≡ next_id queue = (on.standing).started in
          let known : n < next_id queue = IsFreePlace.known (place meaning s threads queue begun ends n t on) in omega arith

      below : begun < length after
      below =
          let long : length after ≡ MOST_THREADS = ap length taken.list ∙ (length-set threads n taken.now ∙ full) in
          omega (arith, room, ((on.standing).sound).due_length)

      abbrev old : S
      old = get_or after begun taken.now

      at_old : slice_get after begun ≡ Some old
      at_old = slice_get-get_or after begun taken.now below

      pub made_spawn : (threads' : List S)
          → ((x : S) (worker : List Value → Config) → slice_get after begun ≡ Some x
          → (meaning x).begins spawn_types worker → IsStartedAt meaning x worker arg after begun threads')
          → IsStanding meaning (made_by s n e v t) threads' (queue_step queue n e v) (begun + 1) ends
      made_spawn threads' starts =
          let ready = spawn_ready meaning s threads queue begun ends n t on v after taken full room in
          let new = starts old s.worker at_old (ready.1 old at_old) in
          let r = new.replaced in
          let alike = after_alike meaning s threads queue begun ends n t on e v kind reply none wants after taken in
          let own = alike begun old at_old in
          let at_new : slice_get threads' begun ≡ Some r.now = ap (λ l. slice_get l begun) r.list ∙ slice_get-set_same after begun r.now below in
          let at_other : (m : ℕ) → m ≢ begun → slice_get threads' m ≡ slice_get after m =
          λ m h. ap (λ l. slice_get l m) r.list ∙ slice_get-set_other after begun m r.now h in
          stands_made meaning s threads queue begun ends n t on e v kind reply none wants after taken threads' (begun + 1) (next_is room)
          (at_other n (λ z. apart (sym z)) ∙ slot_here meaning s threads queue begun ends n t on e v kind reply none wants after taken)
          (at_each begun (λ m. m ≢ n → SlotGoes meaning (slice_get on.before m) (slice_get threads' m) (starts_in m))
          (λ h. subst (λ (o : Option Running). SlotGoes meaning (slice_get on.before begun) (slice_get threads' begun) o) (sym (starts_here room))
          (record {
            thread = r.now;
            at = at_new;
            standing = subst (λ (k : ℕ). (meaning r.now).stands (Runs (spawned_in s.worker begun arg) k)) own.1
                new.begun;
            here = tt;
          }))
          (λ m away h. no_start meaning s threads queue begun ends n t on (slice_get on.before m) (slice_get threads' m) (starts_in m) (starts_other m away)
          (at_other m away ∙ slot_other meaning s threads queue begun ends n t on e v kind reply none wants after taken m h)))
          (λ m x at. alike_set meaning s threads queue begun ends n t on after begun r.now below alike (
            r.same_program
                ∙ own.0,
            r.same_fuel ∙ own.1,
          ) m x (sym (ap (λ l. slice_get l m) r.list) ∙ at))
          (born room)
