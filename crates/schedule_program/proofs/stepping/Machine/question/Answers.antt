use Rattle.std.proofs.Common.{◌≡◌, None, refl, sym, ◌∙◌, ap, subst}
use Rattle.types.specs.declared.event.Event.TheVariants.{Ask}
use Rattle.types.specs.declared.event.Reply.TheVariants.{OutOfBounds}
use Rattle.shared_memory.specs.Memory.{reply_of}
use Rattle.shared_memory.specs.History.{queue_step}
use Rattle.schedule.specs.Machine.{thread_takes}
use Rattle.schedule_threads.specs.Threads.{machine_of}
use Rattle.schedule_machine.specs.Threads.{IsMadeReply}
use Rattle.schedule_program.specs.Threads.{IsThread}
use Rattle.schedule_machine.specs.Runs.{opening_value}
use Rattle.schedule_program.proofs.Slots.{none_of, thread_in}
use Rattle.schedule_machine.proofs.Accesses.{memory_made, refused_starts}
use Rattle.schedule_program.proofs.Accesses.{at_access}
use Rattle.schedule_machine.proofs.Asking.{refused}
use Rattle.schedule_program.proofs.Asking as asking
use Rattle.schedule_program.proofs.stepping.Machine.question.Goals as goal

pub take-requires-clause-made : goal.take-requires-clause-made
take-requires-clause-made g c = subst IsMadeReply (sym c.step-reply.ensures.reply) (memory_made c.args.self.now.memory (Ask c.args.question))

pub ask-requires-clause-due : goal.ask-requires-clause-due
ask-requires-clause-due g c =
    let m = g.T.TakesTurns in
    let r = c.requires.state in
    let event = Ask c.args.question in
    let same = c.step-reply.ensures.reply ∙ ap (λ x. reply_of x.memory event) (sym (r.2).shared) in
    let value = ap opening_value (sym same) ∙ (sym c.loaded_by.ensures ∙ c.in-Some.is) in
    asking.due_long m.meaning r.0 r.1 c.args.n c.args.question c.in-Some.loaded c.args.self.now c.take.new.self r.2 r.3 c.requires.there value

pub ask-requires-clause-free : goal.ask-requires-clause-free
ask-requires-clause-free g c =
    let m = g.T.TakesTurns in
    let r = c.requires.state in
    let event = Ask c.args.question in
    let same = c.step-reply.ensures.reply ∙ ap (λ x. reply_of x.memory event) (sym (r.2).shared) in
    let value = ap opening_value (sym same) ∙ (sym c.loaded_by.ensures ∙ c.in-Some.is) in
    asking.free m.meaning r.0 r.1 c.args.n c.args.question c.in-Some.loaded c.args.self.now c.take.new.self r.2 r.3 c.requires.there value

pub ask-requires-clause-slots : goal.ask-requires-clause-slots
ask-requires-clause-slots g c =
    let m = g.T.TakesTurns in
    let r = c.requires.state in
    let event = Ask c.args.question in
    let same = c.step-reply.ensures.reply ∙ ap (λ x. reply_of x.memory event) (sym (r.2).shared) in
    let value = ap opening_value (sym same) ∙ (sym c.loaded_by.ensures ∙ c.in-Some.is) in
    asking.slots m.meaning r.0 r.1 c.args.n c.args.question c.in-Some.loaded c.args.self.now c.take.new.self r.2 r.3 c.requires.there value

pub ask-requires-clause-threads : goal.ask-requires-clause-threads
ask-requires-clause-threads g c =
    let m = g.T.TakesTurns in
    let r = c.requires.state in
    let s = r.0 in
    let w = r.1 in
    let at = r.2 in
    let n = c.args.n in
    let old = c.args.self.now in
    let v = c.in-Some.loaded in
    let y = c.take.new.self in
    let event = Ask c.args.question in
    let is = subst (λ z. IsThread m.meaning s z (w.threads n)) (sym c.index_mut.ensures.value)
    (thread_in m.meaning s old.threads.items w.threads n c.index_mut.result.now c.requires.there at.threads) in
    let same = c.step-reply.ensures.reply ∙ ap (λ x. reply_of x.memory event) (sym at.shared) in
    let value = ap opening_value (sym same) ∙ (sym c.loaded_by.ensures ∙ c.in-Some.is) in
    let took = subst (λ k. IsThread m.meaning s y (thread_takes (machine_of s.program) (w.threads n) k)) same
    (c.take.ensures s (w.threads n) is (event, r.3)) in (
      s,
      asking.asking m.meaning s w n c.args.question v old y at r.3 c.requires.there value,
      asking.are_asking m.meaning s w n c.args.question v old y at r.3 c.requires.there value took,
      asking.may m.meaning s w n c.args.question v old y at r.3 c.requires.there value,
      asking.absent m.meaning s w n c.args.question v old y at r.3 c.requires.there value,
    )

pub returns-in-Some-clause-state : goal.returns-in-Some-clause-state
returns-in-Some-clause-state g c s w at calls =
    let m = g.T.TakesTurns in
    let n = c.args.n in
    let old = c.args.self.now in
    let v = c.in-Some.loaded in
    let y = c.take.new.self in
    let event = Ask c.args.question in
    let is = subst (λ z. IsThread m.meaning s z (w.threads n)) (sym c.index_mut.ensures.value)
    (thread_in m.meaning s old.threads.items w.threads n c.index_mut.result.now c.requires.there at.threads) in
    let same = c.step-reply.ensures.reply ∙ ap (λ x. reply_of x.memory event) (sym at.shared) in
    let value = ap opening_value (sym same) ∙ (sym c.loaded_by.ensures ∙ c.in-Some.is) in
    let took = subst (λ k. IsThread m.meaning s y (thread_takes (machine_of s.program) (w.threads n) k)) same
    (c.take.ensures s (w.threads n) is (event, calls)) in
    let f = asking.asking m.meaning s w n c.args.question v old y at calls c.requires.there value in
    let are = asking.are_asking m.meaning s w n c.args.question v old y at calls c.requires.there value took in
    let may = asking.may m.meaning s w n c.args.question v old y at calls c.requires.there value in
    let absent = asking.absent m.meaning s w n c.args.question v old y at calls c.requires.there value in
    asking.at_question m.meaning s w n c.args.question v old y at calls c.requires.there value c.ask.new.self (record {
      memory = c.ask.ensures.memory ∙ c.step-reply.ensures.state;
      queue = c.ask.ensures.queue;
      long = c.ask.ensures.slots;
      next = c.ask.ensures.next;
      threads = c.ask.ensures.threads s f are may absent;
    })

pub returns-in_default-clause-state : goal.returns-in_default-clause-state
returns-in_default-clause-state g c s w at calls =
    let m = g.T.TakesTurns in
    let n = c.args.n in
    let old = c.args.self.now in
    let y = c.take.new.self in
    let event = Ask c.args.question in
    let is = subst (λ z. IsThread m.meaning s z (w.threads n)) (sym c.index_mut.ensures.value)
    (thread_in m.meaning s old.threads.items w.threads n c.index_mut.result.now c.requires.there at.threads) in
    let same = c.step-reply.ensures.reply ∙ ap (λ x. reply_of x.memory event) (sym at.shared) in
    let took = subst (λ k. IsThread m.meaning s y (thread_takes (machine_of s.program) (w.threads n) k)) same
    (c.take.ensures s (w.threads n) is (event, calls)) in
    let none : opening_value (reply_of w.shared.memory event) ≡ None = ap opening_value (sym same)
    ∙ (sym c.loaded_by.ensures ∙ none_of c.loaded_by.result c.in_default.not-Some) in
    let out : reply_of w.shared.memory event ≡ OutOfBounds = refused (reply_of w.shared.memory event) (memory_made w.shared.memory event) none in
    at_access m.meaning s w n old _ y event (record {
      within = c.requires.there;
      threads = refl;
      memory = c.step-reply.ensures.state;
      queue = refl;
      next = λ e. e;
      stays = ap (λ z. queue_step w.shared.queue n event z) out;
      nobody = λ k. refused_starts s w.shared c.args.question k out;
    }) at calls took
