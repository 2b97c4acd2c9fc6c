use Rattle.std.proofs.Common.{sym, ◌∙◌, ap, subst}
use Rattle.types.specs.declared.event.Event.TheVariants.{Ask}
use Rattle.shared_memory.specs.Events.{IsEvent}
use Rattle.schedule.specs.Scheduled.{after_turn}
use Rattle.schedule.specs.System.{Want.Calls}
use Rattle.interp_trait.specs.Turns.{wants_of}
use Rattle.schedule_machine.specs.Runs.{system_by}
use Rattle.schedule_program.specs.Runs.{IsAt}
use Rattle.schedule_program.proofs.Slots.{none_of}
use Rattle.schedule_program.proofs.Turning.{called_is}
use Rattle.schedule_program.proofs.Turns.{quiet, caller_there, entry_made, none_made}
use Rattle.schedule_program.proofs.stepping.Machine.turn.Goals as goal

pub go-requires : goal.go-requires
go-requires g c =
    let r = c.requires in
    (r.0, r.1, r.2, sym (c.wanted.ensures.wanted r.0 r.1 r.2) ∙ none_of c.wanted.result c.in_default.not-Some)

pub returns-in_default-clause-state : goal.returns-in_default-clause-state
returns-in_default-clause-state g c s w at =
    c.go.ensures s w at (sym (c.wanted.ensures.wanted s w at) ∙ none_of c.wanted.result c.in_default.not-Some)

pub returns-in_default-clause-entry : goal.returns-in_default-clause-entry
returns-in_default-clause-entry g c s w at =
    none_made s w c.args.n (sym (c.wanted.ensures.wanted s w at) ∙ none_of c.wanted.result c.in_default.not-Some)

pub question-requires-clause-question : goal.question-requires-clause-question
question-requires-clause-question g c =
    let r = c.requires in
    subst IsEvent c.in-Ask.is (c.wanted.ensures.event r.0 r.1 r.2 c.in-Some.event c.in-Some.is)

pub question-requires-clause-there : goal.question-requires-clause-there
question-requires-clause-there g c =
    let m = g.T.TakesTurns in
    let r = c.requires in
    let calls = called_is (wants_of (r.0).program ((r.1).threads c.args.n)) c.in-Some.event (sym (c.wanted.ensures.wanted r.0 r.1 r.2) ∙ c.in-Some.is) in
    caller_there m.meaning r.0 c.args.self.now.threads.items (r.1).threads c.args.n c.in-Some.event (r.2).threads calls

pub question-requires-clause-state : goal.question-requires-clause-state
question-requires-clause-state g c =
    let r = c.requires in
    let calls = called_is (wants_of (r.0).program ((r.1).threads c.args.n)) c.in-Some.event (sym (c.wanted.ensures.wanted r.0 r.1 r.2) ∙ c.in-Some.is) in
    (r.0, r.1, r.2, calls ∙ ap Calls c.in-Ask.is)

pub returns-in-Ask-clause-state : goal.returns-in-Ask-clause-state
returns-in-Ask-clause-state g c s w at =
    let m = g.T.TakesTurns in
    let calls = called_is (wants_of s.program (w.threads c.args.n)) c.in-Some.event
    (sym (c.wanted.ensures.wanted s w at) ∙ c.in-Some.is) ∙ ap Calls c.in-Ask.is in
    subst (λ want. IsAt m.meaning s c.question.new.self (after_turn (system_by s) w c.args.n want)) (sym calls) (c.question.ensures.state s w at calls)

pub returns-in-Ask-clause-entry : goal.returns-in-Ask-clause-entry
returns-in-Ask-clause-entry g c s w at =
    let calls = called_is (wants_of s.program (w.threads c.args.n)) c.in-Some.event
    (sym (c.wanted.ensures.wanted s w at) ∙ c.in-Some.is) ∙ ap Calls c.in-Ask.is in
    entry_made s w c.args.n (Ask c.in-Ask.question) c.args.self.now.memory c.question.result (ap (λ x. x.memory) at.shared) calls c.question.ensures.entry

pub access-requires : goal.access-requires
access-requires g c =
    let m = g.T.TakesTurns in
    let r = c.requires in
    let event = c.in-Some.event in
    let t = (r.1).threads c.args.n in
    let calls = called_is (wants_of (r.0).program t) event (sym (c.wanted.ensures.wanted r.0 r.1 r.2) ∙ c.in-Some.is) in record {
      event = c.wanted.ensures.event r.0 r.1 r.2 event c.in-Some.is;
      no_question = quiet (r.0).program t event calls c.in_default-event.not-Ask;
      there = caller_there m.meaning r.0 c.args.self.now.threads.items (r.1).threads c.args.n event (r.2).threads calls;
      state = (r.0, r.1, r.2, calls);
    }

pub returns-in_default-event : goal.returns-in_default-event
returns-in_default-event g c =
    let m = g.T.TakesTurns in record {
      state = λ s w at.
          let calls = called_is (wants_of s.program (w.threads c.args.n)) c.in-Some.event (sym (c.wanted.ensures.wanted s w at) ∙ c.in-Some.is) in
          subst (λ want. IsAt m.meaning s c.access.new.self (after_turn (system_by s) w c.args.n want)) (sym calls) (c.access.ensures.state s w at calls);
      entry = λ s w at.
          let calls = called_is (wants_of s.program (w.threads c.args.n)) c.in-Some.event (sym (c.wanted.ensures.wanted s w at) ∙ c.in-Some.is) in
          entry_made s w c.args.n c.in-Some.event c.args.self.now.memory c.access.result (ap (λ x. x.memory) at.shared) calls c.access.ensures.entry;
    }
