use Rattle.std.proofs.Common.{refl, sym, ◌∙◌, ap, subst}
use Rattle.shared_memory.specs.Memory.{reply_of}
use Rattle.schedule.specs.Machine.{thread_takes}
use Rattle.schedule_threads.specs.Threads.{machine_of}
use Rattle.schedule_machine.specs.Threads.{IsMadeReply}
use Rattle.schedule_program.specs.Threads.{IsThread}
use Rattle.schedule_program.proofs.Slots.{thread_in}
use Rattle.schedule_machine.proofs.Accesses.{memory_made, queue_stays, none_starts}
use Rattle.schedule_program.proofs.Accesses.{at_access}
use Rattle.schedule_program.proofs.stepping.Machine.access.Goals as goal

pub take-requires-clause-made : goal.take-requires-clause-made
take-requires-clause-made g c = subst IsMadeReply (sym c.step-reply.ensures.reply) (memory_made c.args.self.now.memory c.args.event)

pub returns-clause-state : goal.returns-clause-state
returns-clause-state g c s w at calls =
    let m = g.T.TakesTurns in
    let n = c.args.n in
    let old = c.args.self.now in
    let is = subst (λ z. IsThread m.meaning s z (w.threads n)) (sym c.index_mut.ensures.value)
    (thread_in m.meaning s old.threads.items w.threads n c.index_mut.result.now c.requires.there at.threads) in
    let same = c.step-reply.ensures.reply ∙ ap (λ x. reply_of x.memory c.args.event) (sym at.shared) in
    at_access m.meaning s w n old _ c.take.new.self c.args.event
    (record {
      within = c.requires.there;
      threads = refl;
      memory = c.step-reply.ensures.state;
      queue = refl;
      next = λ e. e;
      stays = queue_stays w.shared.queue n c.args.event
          (reply_of w.shared.memory c.args.event) c.requires.no_question;
      nobody = λ k. none_starts s w.shared c.args.event k c.requires.no_question;
    }) at calls
    (subst (λ v. IsThread m.meaning s c.take.new.self (thread_takes (machine_of s.program) (w.threads n) v)) same
    (c.take.ensures s (w.threads n) is (c.args.event, calls)))
