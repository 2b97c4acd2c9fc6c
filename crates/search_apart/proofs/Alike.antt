-- Answers in either order, plain turns, and states that nobody tells apart.
use Rattle.std.proofs.Common.{◌≡◌, ◌⊎◌, inl, inr, ℕ, Option, None, refl, sym, ap, ◌∙◌, subst}
use Rattle.types.specs.declared.event.Event.{Event}
use Rattle.types.specs.declared.event.Event.TheVariants as events
use Rattle.types.specs.declared.event.Question.TheVariants.{Leave}
use Rattle.types.specs.declared.event.Answer.{Answer}
use Rattle.types.specs.declared.event.Reply.{Reply}
use Rattle.types.specs.declared.outcome.Outcome.{Outcome}
use Rattle.shared_memory.specs.Memory.{Memory}
use Rattle.shared_memory.specs.WaitQueue.{WaitQueue}
use Rattle.schedule.specs.System.{Want, Want.Turns, Want.Calls, Want.Awaits, Want.Gone}
use Rattle.schedule.specs.Machine.{Wish, Wish.Goes as WishGoes, Wish.Asks as WishAsks, Wish.Waits as WishWaits, Wish.Ends as WishEnds}
use Rattle.schedule_threads.specs.Shared.{Shared}
use Rattle.schedule_threads.specs.Threads.{machine_of}
use Rattle.interp_machine.specs.Program.{Program}
use Rattle.interp_machine.specs.State.{State}
use Rattle.search_threads.specs.Unlimited.{Unlimited.Missing, Unlimited.Going, Unlimited.Leaving, Unlimited.Away}
use Rattle.search_threads.specs.Unlimited.{unlimited_wants, unlimited_goes, unlimited_takes, want_by, reply_by}
use Rattle.search_runs.specs.Called.{Called, Walker}
use Rattle.search_runs.proofs.Plain.{IsAccess}
use Rattle.search_apart.specs.Turning.{AreAlikeQueues, AreAlike}
use Rattle.search_apart.proofs.Calls.{Rests, call_of, ToldAlike}
use Rattle.search_apart.proofs.Doing.{World, Doing, Own, Makes, wanting, starts_in, hears}

-- ---- Answers, in either order

pub told-first : (b : Called) (t : Walker) (first second other last : Option Answer) → ToldAlike first second other last
    → hears b (hears b t first) second ≡ hears b (hears b t other) last
told-first b t first second other last (inl h) =
    ap (λ o. hears b (hears b t o) second) h.0 ∙ (ap (hears b t) h.2 ∙ sym (ap (λ o. hears b (hears b t o) last) h.1))
told-first b t first second other last (inr h) = elim (h.2) [
  | inl none ↦ ap (λ o. hears b (hears b t o) second) none
      ∙ (ap (hears b t) h.0 ∙ sym (ap (hears b (hears b t other)) (h.1 ∙ none)))
  | inr none ↦ ap (hears b (hears b t first)) (h.0 ∙ none) ∙ (sym (ap (hears b t) h.1) ∙ sym (ap (λ o. hears b (hears b t o) last) none))
]

pub told-swap : (first second other last : Option Answer) → ToldAlike first second other last → ToldAlike other last first second
told-swap first second other last (inl h) = inl (h.1, h.0, sym h.2)
told-swap first second other last (inr h) = inr (h.1, h.0, (elim (h.2) [ inl none ↦ inr none | inr none ↦ inl none ]))

pub want-cases : (want : Want Event) → ((want ≡ Awaits) ⊎ (want ≡ Gone)) ⊎ ((d : Doing) × (want ≡ wanting d))
want-cases Turns = inr (Own, refl)
want-cases (Calls e) = inr (Makes e, refl)
want-cases Awaits = inl (inl refl)
want-cases Gone = inl (inr refl)

pub wanting-not : (want : Want Event) (d : Doing) → want ≡ wanting d → (want ≡ Awaits) ⊎ (want ≡ Gone) → ⊥
wanting-not want Own h (inl r) = absurd (cc (h, r))
wanting-not want Own h (inr r) = absurd (cc (h, r))
wanting-not want (Makes e) h (inl r) = absurd (cc (h, r))
wanting-not want (Makes e) h (inr r) = absurd (cc (h, r))

-- ---- Plain turns

-- an access rests in the queue and starts nobody
pub access-rests : (q : WaitQueue) (m : Memory) (e : Event) → IsAccess m e → call_of q m e ≡ Rests
access-rests q m events.Size is = absurd is
access-rests q m (events.Grow more) is = absurd is
access-rests q m (events.Load addr width reach) is = refl
access-rests q m (events.Store addr width reach value) is = refl
access-rests q m (events.Rmw op addr width value) is = absurd is
access-rests q m (events.Cmpxchg addr width expected replacement) is = absurd is
access-rests q m (events.Ask question) is = absurd is
access-rests q m (events.Told answer) is = absurd is

pub access-starts : (b : Called) (x : Shared) (m : Memory) (e : Event) (k : ℕ) → IsAccess m e → starts_in b x (Makes e) k ≡ None
access-starts b x m events.Size k is = absurd is
access-starts b x m (events.Grow more) k is = absurd is
access-starts b x m (events.Load addr width reach) k is = refl
access-starts b x m (events.Store addr width reach value) k is = refl
access-starts b x m (events.Rmw op addr width value) k is = absurd is
access-starts b x m (events.Cmpxchg addr width expected replacement) k is = absurd is
access-starts b x m (events.Ask question) k is = absurd is
access-starts b x m (events.Told answer) k is = absurd is

pub no-leave : (m : Memory) (e : Event) → IsAccess m e → e ≡ events.Ask Leave → ⊥
no-leave m e is same = subst (IsAccess m) same is

-- a thread that goes on isn't gone
pub want-stays : (p : Program) (wish : Wish Event Outcome) → want_by (machine_of p) wish ≡ Gone → ⊥
want-stays p WishGoes h = absurd (cc h)
want-stays p (WishAsks e) h = absurd (cc h)
want-stays p WishWaits h = absurd (cc h)
want-stays p (WishEnds o) h = absurd (cc h)

pub own-stays : (p : Program) (t : Walker) → unlimited_wants (machine_of p) t ≡ Turns
    → unlimited_wants (machine_of p) (unlimited_goes (machine_of p) t) ≡ Gone → ⊥
own-stays p Missing h g = absurd (cc h)
own-stays p (Going c) h g = want-stays p ((machine_of p).wishes ((machine_of p).goes c)) g
own-stays p (Leaving o) h g = absurd (cc h)
own-stays p (Away o) h g = absurd (cc h)

pub reply-stays : (p : Program) (e : Event) (r : Reply) (c : State) (wish : Wish Event Outcome) → want_by (machine_of p) wish ≡ Calls e
    → (e ≡ events.Ask Leave → ⊥)
    → unlimited_wants (machine_of p) (reply_by (machine_of p) wish c r) ≡ Gone → ⊥
reply-stays p e r c WishGoes h not_leave g = absurd (cc h)
reply-stays p e r c (WishAsks f) h not_leave g = want-stays p ((machine_of p).wishes ((machine_of p).takes c r)) g
reply-stays p e r c WishWaits h not_leave g = absurd (cc h)
reply-stays p e r c (WishEnds o) h not_leave g = not_leave (let same : events.Ask Leave ≡ e = cc h in sym same)

pub takes-stays : (p : Program) (t : Walker) (e : Event) (r : Reply) → unlimited_wants (machine_of p) t ≡ Calls e → (e ≡ events.Ask Leave → ⊥)
    → unlimited_wants (machine_of p) (unlimited_takes (machine_of p) t r) ≡ Gone → ⊥
takes-stays p Missing e r h not_leave g = absurd (cc h)
takes-stays p (Going c) e r h not_leave g = reply-stays p e r c ((machine_of p).wishes c) h not_leave g
takes-stays p (Leaving o) e r h not_leave g = absurd (cc h)
takes-stays p (Away o) e r h not_leave g = absurd (cc h)

-- ---- Being alike

pub alike-itself : (s : World) → AreAlike s s
alike-itself s = record {
  memory = refl;
  queue = record { alive = refl; sleepers = λ x. refl; due = refl; args = refl };
  threads = λ m. refl;
}

pub alike-back : (s z : World) → AreAlike s z → AreAlike z s
alike-back s z h = record {
  memory = sym h.memory;
  queue = record { alive = sym (h.queue).alive; sleepers = λ x. sym ((h.queue).sleepers x); due = sym (h.queue).due; args = sym (h.queue).args };
  threads = λ m. sym (h.threads m);
}

pub alike-in-turn : (s z v : World) → AreAlike s z → AreAlike z v → AreAlike s v
alike-in-turn s z v h g = record {
  memory = h.memory ∙ g.memory;
  queue = record {
    alive = (h.queue).alive ∙ (g.queue).alive;
    sleepers = λ x. (h.queue).sleepers x ∙ (g.queue).sleepers x;
    due = (h.queue).due ∙ (g.queue).due;
    args = (h.queue).args ∙ (g.queue).args;
  };
  threads = λ m. h.threads m ∙ g.threads m;
}

pub queues-as : (p q x y : WaitQueue) → p ≡ q → x ≡ y → AreAlikeQueues q y → AreAlikeQueues p x
queues-as p q x y h g alike = subst (λ z. AreAlikeQueues z x) (sym h) (subst (λ z. AreAlikeQueues q z) (sym g) alike)
