-- An event at which the queue stays as it is: no question, or one out of bounds. The memory makes each event.
use Rattle.std.proofs.Common.{◌≡◌, ℕ, ◌+◌, Bool, true, false, length, None, refl}
use Rattle.types.specs.declared.event.Event.{Event}
use Rattle.types.specs.declared.event.Event.TheVariants as events
use Rattle.std.specs.Prelude.{nat_le, if◌then◌else◌}
use Rattle.types.specs.declared.event.Question.{Question}
use Rattle.types.specs.declared.event.Question.TheVariants.{Wait, Notify, Spawn, Leave}
use Rattle.types.specs.declared.event.Reply.{Reply}
use Rattle.types.specs.declared.event.Reply.TheVariants as replies
use Rattle.shared_memory.specs.Memory.{Memory, loaded, reply_of, reply_to_question}
use Rattle.shared_memory.specs.Events.{is_of_queue}
use Rattle.shared_memory.specs.WaitQueue.{WaitQueue}
use Rattle.shared_memory.specs.History.{queue_step}
use Rattle.schedule_threads.specs.Shared.{Shared, starts_by}
use Rattle.schedule_threads.specs.Threads.{machine_of}
use Rattle.interp_trait.specs.Turns.{spawned_in}
use Rattle.schedule_machine.specs.Threads.{Setting, IsMadeReply}

-- the memory makes every event
either_made : (b : Bool) (x y : Reply) → IsMadeReply x → IsMadeReply y → IsMadeReply (if b then x else y)
either_made true x y h k = h
either_made false x y h k = k

asked_made : (m : Memory) (question : Question) → IsMadeReply (reply_to_question m question)
asked_made m (Wait addr width expected timeout) = either_made (nat_le (addr + width) (length m.bytes))
    (replies.Value (loaded m addr width)) replies.OutOfBounds tt tt
asked_made m (Notify addr count) = either_made (nat_le (addr + 4) (length m.bytes)) replies.Done replies.OutOfBounds tt tt
asked_made m (Spawn arg) = tt
asked_made m Leave = tt

pub memory_made : (m : Memory) (e : Event) → IsMadeReply (reply_of m e)
memory_made m events.Size = tt
memory_made m (events.Grow more) = tt
memory_made m (events.Load addr width reach) = either_made (nat_le reach (length m.bytes)) (replies.Value (loaded m addr width)) replies.OutOfBounds tt tt
memory_made m (events.Store addr width reach value) = either_made (nat_le reach (length m.bytes)) replies.Done replies.OutOfBounds tt tt
memory_made m (events.Rmw op addr width value) = either_made (nat_le (addr + width) (length m.bytes))
    (replies.Value (loaded m addr width)) replies.OutOfBounds tt tt
memory_made m (events.Cmpxchg addr width expected replacement) = either_made (nat_le (addr + width) (length m.bytes))
    (replies.Value (loaded m addr width)) replies.OutOfBounds tt tt
memory_made m (events.Ask question) = asked_made m question
memory_made m (events.Told answer) = tt

pub queue_stays : (q : WaitQueue) (n : ℕ) (e : Event) (v : Reply) → is_of_queue e ≡ false → queue_step q n e v ≡ q
queue_stays q n events.Size v h = refl
queue_stays q n (events.Grow more) v h = refl
queue_stays q n (events.Load addr width reach) v h = refl
queue_stays q n (events.Store addr width reach value) v h = refl
queue_stays q n (events.Rmw op addr width value) v h = refl
queue_stays q n (events.Cmpxchg addr width expected replacement) v h = refl
queue_stays q n (events.Ask question) v h = absurd (cc h)
queue_stays q n (events.Told answer) v h = absurd (cc h)

pub none_starts : (s : Setting) (x : Shared) (e : Event) (m : ℕ) → is_of_queue e ≡ false
    → starts_by (machine_of s.program) (spawned_in s.worker) s.fuel x e m ≡ None
none_starts s x events.Size m h = refl
none_starts s x (events.Grow more) m h = refl
none_starts s x (events.Load addr width reach) m h = refl
none_starts s x (events.Store addr width reach value) m h = refl
none_starts s x (events.Rmw op addr width value) m h = refl
none_starts s x (events.Cmpxchg addr width expected replacement) m h = refl
none_starts s x (events.Ask question) m h = absurd (cc h)
none_starts s x (events.Told answer) m h = absurd (cc h)

-- a question out of bounds starts nobody
pub refused_starts : (s : Setting) (x : Shared) (question : Question) (m : ℕ) → reply_of x.memory (events.Ask question) ≡ replies.OutOfBounds
    → starts_by (machine_of s.program) (spawned_in s.worker) s.fuel x (events.Ask question) m ≡ None
refused_starts s x (Wait addr width expected timeout) m h = refl
refused_starts s x (Notify addr count) m h = refl
refused_starts s x (Spawn arg) m h = absurd (cc h)
refused_starts s x Leave m h = refl
