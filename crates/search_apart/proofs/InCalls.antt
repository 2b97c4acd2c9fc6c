-- In a call of a valid module nobody is stuck: its threads stay typed, wherever they come.
use Rattle.std.proofs.Common.{◌≡◌, ◌⊎◌, inl, inr, ℕ, ◌<◌, length, Option, Some, None, refl, sym, ap, ◌∙◌, subst, arith}
use Rattle.types.specs.declared.event.Event.{Event}
use Rattle.types.specs.declared.event.Reply.{Reply}
use Rattle.types.specs.declared.event.Answer.{Answer}
use Rattle.types.specs.declared.outcome.Outcome.{Outcome}
use Rattle.types.specs.declared.parts.Parts.{Parts}
use Rattle.validate_typing.specs.Validity.{IsValid}
use Rattle.shared_memory.specs.Memory.{reply_of}
use Rattle.shared_memory.specs.WaitQueue.{answer_due, settled}
use Rattle.schedule.specs.System.{Want.Calls, put}
use Rattle.schedule.specs.Scheduled.{or_started}
use Rattle.schedule.specs.Machine.{Wish, Wish.Goes as WishGoes, Wish.Asks as WishAsks, Wish.Waits as WishWaits, Wish.Ends as WishEnds}
use Rattle.schedule.proofs.Basics.{put-same, put-other, at_each}
use Rattle.schedule_threads.specs.Threads.{machine_of}
use Rattle.schedule_threads.proofs.Asking.{wants_spawn}
use Rattle.interp_machine.specs.Config.{Config, Fresh, Next, Stuck, Goes, Traps, Finishes, Asks, Hears}
use Rattle.interp_machine.specs.Program.{Program}
use Rattle.interp_machine.specs.Step.{next}
use Rattle.interp_machine.specs.State.{State, At, gone, replied, heard}
use Rattle.interp_laws.specs.NeverStuck.{IsDefined}
use Rattle.interp_laws.proofs.Typed.{IsTyped, IsGood}
use Rattle.interp_laws.proofs.Steps.{good, starts}
use Rattle.interp_laws.proofs.Threads.{IsTypedState, goes_typed, takes_typed, hears_typed}
use Rattle.search_threads.specs.Unlimited.{Unlimited.Missing, Unlimited.Going, Unlimited.Leaving, Unlimited.Away, unlimited_goes, unlimited_takes, reply_by}
use Rattle.search_threads.specs.Budgets.{first_without}
use Rattle.search_runs.specs.Called.{Called, Walker, first_state}
use Rattle.search_runs.specs.Theorems.{CanReach}
use Rattle.search_runs.proofs.Tame.{given, given_wants}
use Rattle.search_apart.specs.Theorems.{spawn_values, NobodyIsStuck, IsWorker, IsCallOf, NobodyIsStuckInCalls}
use Rattle.search_apart.proofs.Doing.{World, Doing, Own, Makes, wanting, call_in, wants_at, after, self_in, starts_in, hears, along, by-want, threads-after}
use Rattle.search_apart.proofs.Calls.{applied}
use Rattle.search_apart.proofs.Awaiting.{begun-as}

abbrev IsTypedWalker : Parts → Walker → Type 0
IsTypedWalker m Missing = Unit {0}
IsTypedWalker m (Going s) = IsTypedState m s
IsTypedWalker m (Leaving o) = Unit {0}
IsTypedWalker m (Away o) = Unit {0}

defined : (m : Parts) (x : Next) → IsGood m x → IsDefined x
defined m Stuck h = h
defined m (Goes later) h = tt
defined m (Traps trap) h = tt
defined m (Finishes result) h = tt
defined m (Asks event go) h = tt
defined m (Hears go) h = tt

module _ (m : Parts) (v : IsValid m) (whole : length m.functions ≡ length m.bodies) (b : Called) (call : IsCallOf m b) where
  abbrev p : Program
  p = b.program

  goes-typed : (s : State) → IsTypedState m s → IsTypedState m (gone p s)
  goes-typed s h = subst (λ x. IsTypedState m (gone x s)) (sym call.program) (goes_typed m v whole s h)

  takes-typed : (s : State) (r : Reply) → IsTypedState m s → IsTypedState m (replied p s r)
  takes-typed s r h = subst (λ x. IsTypedState m (replied x s r)) (sym call.program) (takes_typed m v whole s r h)

  hears-typed : (s : State) (a : Answer) → IsTypedState m s → IsTypedState m (heard p s a)
  hears-typed s a h = subst (λ x. IsTypedState m (heard x s a)) (sym call.program) (hears_typed m v whole s a h)

  walker-goes : (t : Walker) → IsTypedWalker m t → IsTypedWalker m (unlimited_goes (machine_of p) t)
  walker-goes Missing h = tt
  walker-goes (Going s) h = goes-typed s h
  walker-goes (Leaving o) h = tt
  walker-goes (Away o) h = tt

  replied-typed : (wish : Wish Event Outcome) (s : State) (r : Reply) → IsTypedState m s → IsTypedWalker m (reply_by (machine_of p) wish s r)
  replied-typed WishGoes s r h = h
  replied-typed WishWaits s r h = h
  replied-typed (WishAsks e) s r h = takes-typed s r h
  replied-typed (WishEnds o) s r h = tt

  walker-takes : (t : Walker) (r : Reply) → IsTypedWalker m t → IsTypedWalker m (unlimited_takes (machine_of p) t r)
  walker-takes Missing r h = tt
  walker-takes (Going s) r h = replied-typed ((machine_of p).wishes s) s r h
  walker-takes (Leaving o) r h = tt
  walker-takes (Away o) r h = tt

  walker-hears : (t : Walker) (o : Option Answer) → IsTypedWalker m t → IsTypedWalker m (hears b t o)
  walker-hears t None h = h
  walker-hears Missing (Some a) h = tt
  walker-hears (Going s) (Some a) h = hears-typed s a h
  walker-hears (Leaving o) (Some a) h = tt
  walker-hears (Away o) (Some a) h = tt

  self-typed : (w : World) (n : ℕ) (d : Doing) → IsTypedWalker m (w.threads n) → IsTypedWalker m (self_in b w n d)
  self-typed w n Own h = walker-goes (w.threads n) h
  self-typed w n (Makes e) h = walker-takes (w.threads n) (reply_of w.shared.memory e) h

  -- whom a spawn starts is typed
  spawned-typed : 0 < p.imported → (n arg : ℕ) → (p.imported ≡ 0) ⊎ IsWorker m b.worker → IsTyped m (b.worker (spawn_values n arg))
  spawned-typed some n arg (inl none) = absurd (omega (arith, some, none))
  spawned-typed some n arg (inr w) =
      subst (IsTyped m) (sym (w.is n arg)) (starts m v w.own w.func_type w.body (spawn_values n arg) w.function (sym w.takes))

  begun-typed : (w : World) → CanReach b w → (n : ℕ) (d : Doing) → wants_at b w n ≡ wanting d → (k : ℕ) (t : Walker) → starts_in b w.shared d k ≡ Some t
      → IsTypedWalker m t
  begun-typed w reach n Own h k t is = absurd (cc is)
  begun-typed w reach n (Makes e) h k t is =
      let begun = begun-as b w e k t is in
      let some : 0 < p.imported = wants_spawn p (given (w.threads n)) begun.arg (given_wants p (w.threads n) ∙ (h ∙ ap Calls begun.event)) in
      subst (IsTypedWalker m) (sym begun.is) (spawned-typed some k begun.arg call.worker)

  abbrev AreTyped : World → Type 0
  AreTyped w = (k : ℕ) → IsTypedWalker m (w.threads k)

  or-typed : (o : Option Walker) (t : Walker) → ((x : Walker) → o ≡ Some x → IsTypedWalker m x) → IsTypedWalker m t → IsTypedWalker m (or_started o t)
  or-typed None t new h = h
  or-typed (Some x) t new h = new x refl

  put-typed : (w : World) (n : ℕ) (t : Walker) → AreTyped w → IsTypedWalker m t → (k : ℕ) → IsTypedWalker m (put w.threads n t k)
  put-typed w n t all h = at_each n (λ k. IsTypedWalker m (put w.threads n t k))
      (subst (IsTypedWalker m) (sym (put-same w.threads n t)) h)
      (λ k apart. subst (IsTypedWalker m) (sym (put-other w.threads n t k apart)) (all k))

  step-typed : (w : World) → CanReach b w → AreTyped w → (n : ℕ) → AreTyped (after b w n)
  step-typed w reach all n = by-want b AreTyped w n all (λ d h k.
      (let here = put w.threads n (self_in b w n d) k in
      let told = answer_due (settled (applied n w.shared.queue (call_in w.shared.queue w.shared.memory d))) k in
      subst (IsTypedWalker m) (sym (threads-after b w reach n d h k))
      (or-typed (starts_in b w.shared d k) (hears b here told) (begun-typed w reach n d h k)
      (walker-hears here told (put-typed w n (self_in b w n d) all (self-typed w n d (all n)) k)))))

  first-typed : AreTyped (first_state b)
  first-typed = at_each 0 (λ k. IsTypedWalker m ((first_state b).threads k))
      (subst (λ o. IsTypedWalker m (first_without o)) (sym (put-same (λ (k : ℕ). None) 0 (Some (At b.main))))
      (let main = call.main in
      subst (IsTyped m) (sym main.is) (starts m v main.own main.func_type main.body main.args main.function main.typed)))
      (λ k apart. subst (λ o. IsTypedWalker m (first_without o)) (sym (put-other (λ (j : ℕ). None) 0 (Some (At b.main)) k apart)) tt)

  all-typed : (w : World) → CanReach b w → AreTyped w
  all-typed = along b AreTyped first-typed step-typed

  worker-fresh : 0 < p.imported → (n arg : ℕ) → (p.imported ≡ 0) ⊎ IsWorker m b.worker → Config.progress (b.worker (spawn_values n arg)) ≡ Fresh
  worker-fresh some n arg (inl none) = absurd (omega (arith, some, none))
  worker-fresh some n arg (inr w) = ap Config.progress (w.is n arg)

  pub nobody : NobodyIsStuck b
  nobody = record {
    main = ap Config.progress (call.main).is;
    worker = λ some n arg. worker-fresh some n arg call.worker;
    defined = λ w reach n c is. defined m (next p c)
        (subst (λ x. IsGood m (next x c)) (sym call.program) (good m v whole c (subst (IsTypedWalker m) is (all-typed w reach n))));
  }

pub nobody-in-calls : NobodyIsStuckInCalls
nobody-in-calls m v whole b call = nobody m v whole b call
