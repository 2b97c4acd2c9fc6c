-- The turn of a thread: the event that it wants, or a turn of its own.
use Rattle.std.proofs.Common.{◌≡◌, ℕ, ◌<◌, false, List, [], ◌∷◌, length, None, refl, sym, ◌∙◌, ap}
use Rattle.types.specs.declared.event.Event.{Event}
use Rattle.types.specs.declared.event.Event.TheVariants as events
use Rattle.types.specs.declared.event.Question.{Question}
use Rattle.types.specs.declared.event.Answer.{Answer}
use Rattle.types.specs.declared.event.Entry.{Entry}
use Rattle.shared_memory.specs.Memory.{Memory, reply_of}
use Rattle.shared_memory.specs.Events.{is_of_queue}
use Rattle.shared_memory.specs.History.{entry}
use Rattle.schedule.specs.System.{State, Want, Want.Turns, Want.Calls, Want.Awaits, Want.Gone}
use Rattle.schedule.specs.System as systems
use Rattle.schedule.specs.Scheduled.{entries_at, entries_by}
use Rattle.interp_machine.specs.Program.{Program}
use Rattle.schedule_threads.specs.Shared.{Shared}
use Rattle.schedule_threads.proofs.Asking.{wants_no_answer}
use Rattle.interp_trait.specs.Turns.{Running, wants_of, Meaning}
use Rattle.schedule_machine.specs.Threads.{Setting, called}
use Rattle.schedule_machine.specs.Runs.{system_by}
use Rattle.schedule_program.specs.Runs.{AreThreads, as_entries}
use Rattle.schedule_program.specs.declared.stepped.Stepped.{Stepped}
use Rattle.schedule_program.proofs.Slots.{there}

-- who makes an event that is no question takes no answer by it
no_question : (e : Event) → ((q : Question) → e ≡ events.Ask q → ⊥) → ((a : Answer) → e ≡ events.Told a → ⊥) → is_of_queue e ≡ false
no_question (events.Ask q) asks tells = absurd (asks q refl)
no_question (events.Told a) asks tells = absurd (tells a refl)
no_question e asks tells = refl

pub quiet : (p : Program) (t : Running) (e : Event) → wants_of p t ≡ Calls e → ((q : Question) → e ≡ events.Ask q → ⊥) → is_of_queue e ≡ false
quiet p t e calls asks = no_question e asks (λ a is. wants_no_answer p t a (calls ∙ ap Calls is))

-- who wants an event has a slot
pub caller_there : {S : Type 0} (meaning : S → Meaning)
    (s : Setting) (xs : List (Stepped S)) (f : ℕ → Running) (n : ℕ) (e : Event) → AreThreads meaning s xs f → wants_of s.program (f n) ≡ Calls e → n < length xs
caller_there meaning s xs f n e are calls =
    there meaning s xs f n are (λ gone. absurd (cc (sym calls ∙ ap (wants_of s.program) gone)))

-- the entries
pub entry_made : (s : Setting) (w : State Shared Running) (n : ℕ) (e : Event) (m : Memory) (x : Entry)
    → w.shared.memory ≡ m → wants_of s.program (w.threads n) ≡ Calls e → x ≡ entry n e (reply_of m e)
    → x ∷ [] ≡ as_entries (entries_at (system_by s) w n systems.Turn)
entry_made s w n e m x memory calls is =
    ap (λ (z : Entry). z ∷ []) (is ∙ ap (λ z. entry n e (reply_of z e)) (sym memory)) ∙ ap (λ want. as_entries (entries_by (system_by s) w n want)) (sym calls)

none_by : (s : Setting) (w : State Shared Running) (n : ℕ) (want : Want Event) → called want ≡ None
    → ◌≡◌ {A = List Entry} [] (as_entries (entries_by (system_by s) w n want))
none_by s w n Turns none = refl
none_by s w n (Calls e) none = absurd (cc none)
none_by s w n Awaits none = refl
none_by s w n Gone none = refl

pub none_made : (s : Setting) (w : State Shared Running) (n : ℕ) → called (wants_of s.program (w.threads n)) ≡ None
    → ◌≡◌ {A = List Entry} [] (as_entries (entries_at (system_by s) w n systems.Turn))
none_made s w n none = none_by s w n (wants_of s.program (w.threads n)) none
