-- A worked run: thread 0 spawns a thread and ends, and the other one ends with its argument meanwhile.
use Rattle.std.specs.Prelude.{ℕ, zero, suc, true, false, List, [], ◌∷◌, Some, None}
use Rattle.types.specs.declared.value.ValType.TheVariants as types
use Rattle.types.specs.declared.value.Value.TheVariants as values
use Rattle.types.specs.declared.instr.PlainInstr.TheVariants as plain
use Rattle.types.specs.declared.event.Event.TheVariants as events
use Rattle.types.specs.declared.event.Question.TheVariants.{Spawn, Leave}
use Rattle.types.specs.declared.event.Reply.TheVariants as replies
use Rattle.types.specs.declared.event.Answer.TheVariants.{Number}
use Rattle.types.specs.declared.event.Entry as entries
use Rattle.types.specs.declared.outcome.Outcome.{Outcome}
use Rattle.types.specs.declared.outcome.Outcome.TheVariants as outcomes
use Rattle.types.specs.Nesting.{Empty, Then}
use Rattle.shared_memory.specs.History.{entry}
use Rattle.interp_machine.specs.Program.{Program}
use Rattle.interp_machine.specs.Config.{Fresh}
use Rattle.interp_machine.specs.State.{State, At, Over}
use Rattle.schedule_runs.specs.Runs.{Start, RanTogether}

-- Function 0 is imported, and starts threads.
abbrev pub program : Program
program = record {
  types = record { params = types.I32 ∷ []; results = types.I32 ∷ [] } ∷ [];
  functions = 0 ∷ [];
  imported = 1;
  bodies = [];
  table = [];
  shared = true;
}

-- Thread 0 calls it with 7, drops its number and returns.
abbrev pub main : State
main = At (record {
  globals = [];
  frame = record {
    locals = [];
    code = Then (plain.Call 0) (Then plain.Drop Empty);
    operands = values.I32 7 ∷ [];
    labels = [];
    arity = 0;
  };
  callers = [];
  progress = Fresh;
})

-- Spawned threads end at once, with their argument.
abbrev pub spawned_example : ℕ → ℕ → State
spawned_example n arg = Over (outcomes.Done (Some (values.I32 arg)))

abbrev pub start : Start
start = record {
  program = program;
  main = main;
  spawned = spawned_example;
  fuel = 10;
  opening =
      record { bytes = []; max = 0 };
}

-- Thread 1 leaves before thread 0 does.
abbrev pub spawning : List entries.Entry
spawning = entry 0 (events.Ask (Spawn 7)) replies.Done ∷ entry 0 (events.Told (Number 1)) replies.Done ∷ []

abbrev pub history : List entries.Entry
history =
    entry 0 (events.Ask (Spawn 7)) replies.Done ∷ entry 0 (events.Told (Number 1)) replies.Done
    ∷ entry 1 (events.Ask Leave) replies.Done
    ∷ entry 1 (events.Told (Number 0)) replies.Done ∷ entry 0 (events.Ask Leave) replies.Done ∷ entry 0
    (events.Told (Number 0)) replies.Done ∷ []

-- Thread 0 spends a unit on the call, on the drop and on its return; thread 1 none.
abbrev pub outcomes_of : ℕ → Outcome
outcomes_of zero = outcomes.Done None
outcomes_of (suc n) = outcomes.Done (Some (values.I32 7))

abbrev pub lefts_of : ℕ → ℕ
lefts_of zero = 7
lefts_of (suc n) = 10

-- The log takes two entries, and beyond them leaves and answers alone.
abbrev pub TwoThreadsRanTogether : Type 0
TwoThreadsRanTogether = RanTogether start false (Some 2) history outcomes_of lefts_of
