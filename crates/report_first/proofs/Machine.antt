-- The run of a thread, turn by turn.
use Rattle.std.proofs.Common.{◌≡◌, ℕ, suc, ◌-◌, List, [], ◌∷◌, ◌++◌, sym, ◌∙◌, ap, subst, Option, arith, append-nil, append_assoc}
use Rattle.types.specs.declared.event.Event.{Event}
use Rattle.types.specs.declared.event.Event.TheVariants as events
use Rattle.types.specs.declared.event.Question.TheVariants.{Leave}
use Rattle.types.specs.declared.event.Entry.{Entry}
use Rattle.types.specs.declared.event.Reply.{Reply}
use Rattle.types.specs.declared.event.Answer.{Answer}
use Rattle.types.specs.declared.value.Value.{Value}
use Rattle.types.specs.declared.outcome.Trap.{Trap}
use Rattle.types.specs.declared.outcome.Outcome.{Outcome}
use Rattle.types.specs.declared.outcome.Outcome.TheVariants as outcomes
use Rattle.shared_memory.specs.Access.{HasReached}
use Rattle.schedule.specs.System.{Want.Turns, Want.Calls, Act.Made, Act.Heard, Step}
use Rattle.schedule.specs.System.{Step.Own, Step.Lost, Step.Full, Step.Acts}
use Rattle.schedule.specs.Machine.{Thread, Thread.Runs, Thread.Leaves, Thread.Left, wanted, takes_by}
use Rattle.schedule.specs.Machine.{thread_wants, thread_goes, thread_takes}
use Rattle.schedule.specs.ThreadRun.{IsThreadRun}
use Rattle.interp_machine.specs.Program.{Program}
use Rattle.interp_machine.specs.Config.{Config, Goes, Traps, Finishes, Asks}
use Rattle.interp_machine.specs.Step.{next}
use Rattle.interp_machine.specs.State as states
use Rattle.interp_machine.specs.State.{State, At, gone_by, replied_by}
use Rattle.schedule_threads.specs.Shared.{over_memory_and_queue}
use Rattle.schedule_threads.specs.Threads.{machine_of, wish_of}
use Rattle.schedule_threads.specs.Seeing.{entered}

-- The steps of the only thread of a run, which has seen the entries of nobody else: no try of it is lost, and the log is full only
-- of its own entries.
abbrev pub Alone : Option ℕ → List Entry → List (Step Event Reply Answer) → List Entry → Type 0
Alone limit before [] last = before ≡ last
Alone limit before (Own ∷ steps) last = Alone limit before steps last
Alone limit before (Lost e ∷ steps) last = ⊥
Alone limit before (Full e ∷ steps) last = HasReached limit before × Alone limit before steps last
Alone limit before (Acts act ∷ steps) last = Alone limit (before ++ entered 0 act ∷ []) steps last

pub alone_more : (limit : Option ℕ) (before last : List Entry) (steps : List (Step Event Reply Answer)) → Alone limit before steps last
    → (more : List Entry) × (last ≡ before ++ more)
alone_more limit before last [] alone = ([], sym (append-nil before ∙ alone))
alone_more limit before last (Own ∷ steps) alone = alone_more limit before last steps alone
alone_more limit before last (Lost e ∷ steps) alone = absurd alone
alone_more limit before last (Full e ∷ steps) alone = alone_more limit before last steps alone.1
alone_more limit before last (Acts act ∷ steps) alone =
    let rest = alone_more limit (before ++ entered 0 act ∷ []) last steps alone in
    (entered 0 act ∷ rest.0, rest.1 ∙ append_assoc before (entered 0 act ∷ []) rest.0)

module _ (p : Program) (start : ℕ → ℕ → State) (fuel : ℕ) (limit : Option ℕ) (outcome : Outcome) (left : ℕ) where
  -- A thread runs on by itself, from a list of entries to a last one.
  pub record RunsOn (t : Thread State Outcome) (before last : List Entry) : Type 0 where
    pub steps : List (Step Event Reply Answer)
    pub run : IsThreadRun (over_memory_and_queue (machine_of p) start fuel) t steps (Left outcome left)
    pub alone : Alone limit before steps last

  abbrev IsRun : Thread State Outcome → List (Step Event Reply Answer) → Type 0
  IsRun t steps = IsThreadRun (over_memory_and_queue (machine_of p) start fuel) t steps (Left outcome left)

  turn_by : (t : Thread State Outcome) (before last : List Entry) (steps : List (Step Event Reply Answer))
      → thread_wants (machine_of p) t ≡ Turns → IsRun t steps → Alone limit before steps last
      → RunsOn (thread_goes (machine_of p) t) before last
  turn_by t before last [] w run alone = absurd (cc (w, run.0))
  turn_by t before last (Own ∷ steps) w run alone = record { steps = steps; run = run.1; alone = alone }
  turn_by t before last (Lost e ∷ steps) w run alone = absurd alone
  turn_by t before last (Full e ∷ steps) w run alone = absurd (cc (w, run.0.0))
  turn_by t before last (Acts (Made e v) ∷ steps) w run alone = absurd (cc (w, run.0))
  turn_by t before last (Acts (Heard a) ∷ steps) w run alone = absurd (cc (w, run.0))

  -- An event that it made, and how it runs on with the reply.
  pub record HasMade (t : Thread State Outcome) (e : Event) (before last : List Entry) : Type 0 where
    pub reply : Reply
    pub on : RunsOn (thread_takes (machine_of p) t reply) (before ++ entered 0 (Made e reply) ∷ []) last

  call_by : (t : Thread State Outcome) (e : Event) (before last : List Entry) (steps : List (Step Event Reply Answer))
      → thread_wants (machine_of p) t ≡ Calls e → (HasReached limit before → ⊥) → IsRun t steps → Alone limit before steps last
      → HasMade t e before last
  call_by t e before last [] w room run alone = absurd (cc (w, run.0))
  call_by t e before last (Own ∷ steps) w room run alone = absurd (cc (w, run.0))
  call_by t e before last (Lost x ∷ steps) w room run alone = absurd alone
  call_by t e before last (Full x ∷ steps) w room run alone = absurd (room alone.0)
  call_by t e before last (Acts (Made x v) ∷ steps) w room run alone =
      let same : x ≡ e = cc (w, run.0) in
      record {
        reply = v;
        on = record { steps = steps; run = run.1; alone = subst (λ y. Alone limit (before ++ entered 0 (Made y v) ∷ []) steps last) same alone };
      }
  call_by t e before last (Acts (Heard a) ∷ steps) w room run alone = absurd (cc (w, run.0))

  -- ---- by what comes next

  module _ (c : Config) (n : ℕ) (before last : List Entry) (so : RunsOn (Runs (At c) (suc n)) before last) where
    turned : (thread_wants (machine_of p) (Runs (At c) (suc n)) ≡ Turns) → RunsOn (Runs (gone_by c (next p c)) n) before last
    turned w = turn_by (Runs (At c) (suc n)) before last so.steps w so.run so.alone

    pub goes : (after : Config) → next p c ≡ Goes after → RunsOn (Runs (At after) n) before last
    goes after e =
        subst (λ x. RunsOn (Runs (gone_by c x) n) before last) e (turned (ap (λ x. wanted (machine_of p) (suc n) (wish_of x)) e))

    pub traps : (t : Trap) → next p c ≡ Traps t → RunsOn (Runs (states.Over (outcomes.Trap t)) n) before last
    traps t e =
        subst (λ x. RunsOn (Runs (gone_by c x) n) before last) e (turned (ap (λ x. wanted (machine_of p) (suc n) (wish_of x)) e))

    pub finishes : (result : Option Value) → next p c ≡ Finishes result → RunsOn (Runs (states.Over (outcomes.Done result)) n) before last
    finishes result e =
        subst (λ x. RunsOn (Runs (gone_by c x) n) before last) e (turned (ap (λ x. wanted (machine_of p) (suc n) (wish_of x)) e))

    pub record HasAsked (event : Event) (go : ℕ → Config) : Type 0 where
      pub reply : Reply
      pub on : RunsOn (Runs (replied_by c (Asks event go) reply) n) (before ++ entered 0 (Made event reply) ∷ []) last

    less : suc n - 1 ≡ n
    less = omega arith

    pub asks : (event : Event) (go : ℕ → Config) → next p c ≡ Asks event go → (HasReached limit before → ⊥) → HasAsked event go
    asks event go e room =
        let made = call_by (Runs (At c) (suc n)) event before last so.steps
        (ap (λ x. wanted (machine_of p) (suc n) (wish_of x)) e) room so.run so.alone in
        record {
          reply = made.reply;
          on = subst (λ t. RunsOn t (before ++ entered 0 (Made event made.reply) ∷ []) last)
              (ap (λ x. takes_by (machine_of p) (wish_of x) (At c) (suc n) made.reply) e
              ∙ (ap (λ x. Runs (replied_by c x made.reply) (suc n - 1)) e ∙ ap (λ m. Runs (replied_by c (Asks event go) made.reply) m) less))
              made.on;
        }

  -- ---- the end

  gone_by_now : (o : Outcome) (n : ℕ) (before last : List Entry) (steps : List (Step Event Reply Answer))
      → IsRun (Left o n) steps → Alone limit before steps last → (outcome ≡ o) × (before ≡ last)
  gone_by_now o n before last [] run alone = (cc run.1, alone)
  gone_by_now o n before last (Own ∷ steps) run alone = absurd (cc run.0)
  gone_by_now o n before last (Lost e ∷ steps) run alone = absurd alone
  gone_by_now o n before last (Full e ∷ steps) run alone = absurd (cc run.0.0)
  gone_by_now o n before last (Acts (Made e v) ∷ steps) run alone = absurd (cc run.0)
  gone_by_now o n before last (Acts (Heard a) ∷ steps) run alone = absurd (cc run.0)

  told : (o : Outcome) (n : ℕ) (before last : List Entry) (steps : List (Step Event Reply Answer))
      → IsRun (Leaves o n) steps → Alone limit before steps last
      → (a : Answer) × (outcome ≡ o) × (before ++ entered 0 (Heard a) ∷ [] ≡ last)
  told o n before last [] run alone = absurd (cc run.0)
  told o n before last (Own ∷ steps) run alone = absurd (cc run.0)
  told o n before last (Lost e ∷ steps) run alone = absurd alone
  told o n before last (Full e ∷ steps) run alone = absurd (cc run.0.0)
  told o n before last (Acts (Made e v) ∷ steps) run alone = absurd (cc run.0)
  told o n before last (Acts (Heard a) ∷ steps) run alone = let h = gone_by_now o n (before ++ entered 0 (Heard a) ∷ []) last steps run.1 alone in (a, h.0, h.1)

  -- Who has ended asks to leave, hears the answer, and has left with its outcome.
  pub record Leaving (o : Outcome) (before last : List Entry) : Type 0 where
    pub reply : Reply
    pub answer : Answer
    pub outcome_is : outcome ≡ o
    pub list : last ≡ (before ++ entered 0 (Made (events.Ask Leave) reply) ∷ []) ++ entered 0 (Heard answer) ∷ []

  leaving_by : (o : Outcome) (n : ℕ) (before last : List Entry) (steps : List (Step Event Reply Answer))
      → IsRun (Runs (states.Over o) n) steps → Alone limit before steps last → Leaving o before last
  leaving_by o n before last [] run alone = absurd (cc run.0)
  leaving_by o n before last (Own ∷ steps) run alone = absurd (cc run.0)
  leaving_by o n before last (Lost e ∷ steps) run alone = absurd alone
  leaving_by o n before last (Full e ∷ steps) run alone = absurd (cc run.0.1)
  leaving_by o n before last (Acts (Made e v) ∷ steps) run alone =
      let same : e ≡ events.Ask Leave = cc run.0 in
      let h = told o n (before ++ entered 0 (Made e v) ∷ []) last steps run.1 alone in
      record {
        reply = v;
        answer = h.0;
        outcome_is = h.1;
        list = sym h.2 ∙ ap (λ y. (before ++ entered 0 (Made y v) ∷ []) ++ entered 0 (Heard h.0) ∷ []) same;
      }
  leaving_by o n before last (Acts (Heard a) ∷ steps) run alone = absurd (cc run.0)

  pub leaving : (o : Outcome) (n : ℕ) (before last : List Entry) → RunsOn (Runs (states.Over o) n) before last → Leaving o before last
  leaving o n before last on = leaving_by o n before last on.steps on.run on.alone
