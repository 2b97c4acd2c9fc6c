-- What a thread saw of a recorded history, it saw of the history of acts.
use Rattle.std.proofs.Common.{◌≡◌, ℕ, ◌<◌, ◌≤◌, ◌==◌, Bool, List, [], ◌∷◌, ◌++◌, length, Option, Some, None, refl, sym, ◌∙◌, ap, subst}
use Rattle.std.proofs.lemmas.Bool.{cond_both, cond-false}
use Rattle.std.proofs.lemmas.List.{map-append, length-map}
use Rattle.types.specs.declared.event.Event.{Event}
use Rattle.types.specs.declared.event.Event.TheVariants as events
use Rattle.types.specs.declared.event.Answer.{Answer}
use Rattle.types.specs.declared.event.Reply.{Reply}
use Rattle.types.specs.declared.event.Entry as entries
use Rattle.types.specs.declared.outcome.Outcome.{Outcome}
use Rattle.shared_memory.specs.Memory.{Memory, state_after, touched}
use Rattle.shared_memory.specs.History.{entries_of, memory_after}
use Rattle.shared_memory.specs.Access as access
use Rattle.shared_memory.specs.Access.{Changes}
use Rattle.schedule.specs.System.{Want.Calls, Act, Act.Made, Act.Heard, Step, Step.Own, Step.Lost, Step.Full, Step.Acts}
use Rattle.schedule.specs.ThreadRun.{IsThreadRun}
use Rattle.schedule.specs.Histories.{acts_of, next_shared, shared_after}
use Rattle.schedule.specs.Tries as tries
use Rattle.schedule.specs.Machine.{Thread}
use Rattle.interp_machine.specs.Program.{Program}
use Rattle.interp_machine.specs.State.{State}
use Rattle.schedule_threads.specs.Shared.{Shared, act_by, act_of, try_rules, over_memory_and_queue}
use Rattle.schedule_threads.specs.Threads.{machine_of}
use Rattle.schedule_threads.specs.Seeing.{event_of, reply_with, entered, SeesLost, SeesFull, SeesAct, SeesAll}
use Rattle.schedule_threads.proofs.Asking.{wants_no_answer}
use Rattle.schedule_runs.specs.Runs.{Start, system_of, first_shared, acted, as_acts}

pub as_acts-append : (xs ys : List entries.Entry) → as_acts (xs ++ ys) ≡ as_acts xs ++ as_acts ys
as_acts-append xs ys = map-append acted xs ys

-- others' entries are others' acts
pub others_acts : (n : ℕ) (xs : List entries.Entry) → entries_of n xs ≡ [] → acts_of n (as_acts xs) ≡ []
others_acts n [] none = refl
others_acts n (e ∷ xs) none =
    cond_both (e.thread == n) (e ∷ entries_of n xs) (entries_of n xs) (λ w. w ≡ [] → acts_of n (as_acts (e ∷ xs)) ≡ []) (λ is bad. absurd (cc bad))
    (λ isnt rest. cond-false (e.thread == n) (act_of e ∷ acts_of n (as_acts xs)) (acts_of n (as_acts xs)) isnt ∙ others_acts n xs rest) none

-- the memory along both

memory_step : (b : Start) (x : Shared) (n : ℕ) (event : Event) (reply : Reply)
    → (next_shared (system_of b) x n (act_by event reply)).memory ≡ state_after x.memory event
memory_step b x n (events.Told answer) reply = refl
memory_step b x n event reply = refl

pub memory_along : (b : Start) (x : Shared) (m : Memory) (xs : List entries.Entry) → x.memory ≡ m
    → (shared_after (system_of b) x (as_acts xs)).memory ≡ memory_after m xs
memory_along b x m [] is = is
memory_along b x m (e ∷ xs) is =
    memory_along b (next_shared (system_of b) x e.thread (act_of e))
    (state_after m e.event) xs (memory_step b x e.thread e.event e.reply ∙ ap (λ w. state_after w e.event) is)

-- an act that is entered is that act again, unless it makes an event of an answer
abbrev IsBack : Act Event Reply Answer → Type 0
IsBack act = act_by (event_of act) (reply_with act) ≡ act

abbrev pub AreBack : List (Step Event Reply Answer) → Type 0
AreBack [] = Unit {0}
AreBack (Own ∷ steps) = AreBack steps
AreBack (Lost event ∷ steps) = AreBack steps
AreBack (Full event ∷ steps) = AreBack steps
AreBack (Acts act ∷ steps) = IsBack act × AreBack steps

made_back : (event : Event) (reply : Reply) → ((answer : Answer) → event ≡ events.Told answer → ⊥) → IsBack (Made event reply)
made_back (events.Told answer) reply apart = absurd (apart answer refl)
made_back event reply apart = refl

-- so for the acts of threads of a program
pub back_run : (p : Program) (start : ℕ → ℕ → State) (fuel : ℕ) (steps : List (Step Event Reply Answer)) (t end : Thread State Outcome)
    → IsThreadRun (over_memory_and_queue (machine_of p) start fuel) t steps end → AreBack steps
back_run p start fuel [] t end run = tt
back_run p start fuel (Own ∷ steps) t end run = back_run p start fuel steps _ end run.1
back_run p start fuel (Lost event ∷ steps) t end run = back_run p start fuel steps _ end run.1
back_run p start fuel (Full event ∷ steps) t end run = back_run p start fuel steps _ end run.1
back_run p start fuel (Acts (Made event reply) ∷ steps) t end run =
    (made_back event reply (λ answer is. wants_no_answer p t answer (run.0 ∙ ap Calls is)), back_run p start fuel steps _ end run.1)
back_run p start fuel (Acts (Heard answer) ∷ steps) t end run = (refl, back_run p start fuel steps _ end run.1)

-- what is seen in one step

same_room : (b : Start) (loses : Bool) (limit : Option ℕ) (act : Act Event Reply Answer) (xs : List entries.Entry) → access.HasRoom limit (event_of act) xs
    → tries.HasRoom limit (tries.is_act_exempt (system_of b) (try_rules loses limit) act) (length (as_acts xs))
same_room b loses None act xs room = tt
same_room b loses (Some limit) (Made event reply) xs room = λ is. subst (λ (k : ℕ). k < limit) (sym (length-map xs acted)) (room is)
same_room b loses (Some limit) (Heard answer) xs room = λ is. absurd (cc is)

same_reached : (limit : Option ℕ) (xs : List entries.Entry) → access.HasReached limit xs → tries.HasReached limit (length (as_acts xs))
same_reached None xs reached = reached
same_reached (Some limit) xs reached = subst (λ (k : ℕ). limit ≤ k) (sym (length-map xs acted)) reached

module _ (b : Start) (loses : Bool) (limit : Option ℕ) (n : ℕ) where
  abbrev Sees' : Step Event Reply Answer → List entries.Entry → List entries.Entry → Type 0
  Sees' p before after = tries.Sees (system_of b) (try_rules loses limit) (first_shared b) n p (as_acts before) (as_acts after)

  changed_acts : (event : Event) (before others : List entries.Entry) → Changes (memory_after b.opening before) event others
      → tries.IsChanged (system_of b) (try_rules loses limit) (shared_after (system_of b) (first_shared b) (as_acts before)) event (as_acts others)
  changed_acts event before others cause =
      let x : Shared = shared_after (system_of b) (first_shared b) (as_acts before) in
      let at : Shared.memory x ≡ memory_after b.opening before = memory_along b (first_shared b) b.opening before refl in
      let front : (ys : List entries.Entry)
      → touched (Shared.memory (shared_after (system_of b) x (as_acts ys))) event ≡ touched
      (memory_after (memory_after b.opening before) ys) event =
      λ ys. ap (λ m. touched m event) (memory_along b x (memory_after b.opening before) ys at) in
      record {
        front = as_acts cause.front;
        changing = acted cause.changing;
        back = as_acts cause.back;
        among = ap as_acts cause.among ∙ as_acts-append cause.front (cause.changing ∷ cause.back);
        changed = λ same. cause.changed (sym (front (cause.front ++ cause.changing ∷ []))
            ∙ (ap (λ w. touched (Shared.memory (shared_after (system_of b) x w)) event)
            (as_acts-append cause.front (cause.changing ∷ [])) ∙ (same ∙ front cause.front)));
      }

  lost_acts : (event : Event) (before after : List entries.Entry) → SeesLost loses b.opening n event before after → Sees' (Lost event) before after
  lost_acts event before after sees = record {
    others = as_acts sees.others;
    list = ap as_acts sees.list ∙ as_acts-append before sees.others;
    apart = others_acts n sees.others sees.apart;
    may = sees.may;
    cause = changed_acts event before sees.others sees.cause;
  }

  full_acts : (event : Event) (before after : List entries.Entry) → SeesFull limit n before after → Sees' (Full event) before after
  full_acts event before after sees = record {
    others = as_acts sees.others;
    list = ap as_acts sees.list ∙ as_acts-append before sees.others;
    apart = others_acts n sees.others sees.apart;
    reached = same_reached limit after sees.reached;
  }

  act_acts : (act : Act Event Reply Answer) (before after : List entries.Entry) → IsBack act → SeesAct limit n act before after → Sees' (Acts act) before after
  act_acts act before after back sees = record {
    others = as_acts sees.others;
    so_far = as_acts sees.so_far;
    behind = as_acts sees.behind;
    gains = ap as_acts sees.gains ∙ as_acts-append before sees.others;
    apart = others_acts n sees.others sees.apart;
    list = ap as_acts sees.list ∙ (as_acts-append sees.so_far (entered n act ∷ sees.behind)
        ∙ ap (λ (a : Act Event Reply Answer). as_acts sees.so_far ++ record { thread = n; act = a } ∷ as_acts sees.behind) back);
    apart_behind = others_acts n sees.behind sees.apart_behind;
    room = same_room b loses limit act sees.so_far sees.room;
  }

  pub seen_acts : (before last : List entries.Entry) (steps : List (Step Event Reply Answer)) → AreBack steps
      → SeesAll loses b.opening limit n before steps last
      → tries.SeesAll (system_of b) (try_rules loses limit) (first_shared b) n (as_acts before) steps (as_acts last)
  seen_acts before last [] back sees = ap as_acts sees
  seen_acts before last (Own ∷ steps) back sees = (as_acts sees.0, ap as_acts sees.1, seen_acts sees.0 last steps back sees.2)
  seen_acts before last (Lost event ∷ steps) back sees = (as_acts sees.0, lost_acts event before sees.0 sees.1, seen_acts sees.0 last steps back sees.2)
  seen_acts before last (Full event ∷ steps) back sees = (as_acts sees.0, full_acts event before sees.0 sees.1, seen_acts sees.0 last steps back sees.2)
  seen_acts before last (Acts act ∷ steps) back sees = (as_acts sees.0, act_acts act before sees.0 back.0 sees.1, seen_acts sees.0 last steps back.1 sees.2)
