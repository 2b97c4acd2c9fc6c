use Rattle.std.proofs.Common.{◌∙◌}
use Rattle.interp_trait.specs.Comes.{watched}
use Rattle.spawn_host_workers.proofs.Entered.{sees_collected}
use Rattle.interp_trait.proofs.Trying.{of_thread}
use Rattle.spawn_host_workers.proofs.Attending.{steps_reply, steps_answer, awaiting_stands, awaiting_given, may_be_told}
use Rattle.spawn_host_workers.proofs.running.attend.Goals as goal

pub serve-requires-clause-of_thread : goal.serve-requires-clause-of_thread
serve-requires-clause-of_thread g c κs within =
    let w = c.requires.wanted in of_thread (g.T.TakesTurns.meaning c.args.thread.now).program w.0 c.args.event w.1.1 w.1.2

pub advance-requires-in-Answered-2 : goal.advance-requires-in-Answered-2
advance-requires-in-Answered-2 g c =
    let m = g.M.SharedMemory in
    let p = (g.T.TakesTurns.meaning c.args.thread.now).program in
    let w = c.requires.wanted in
    let did = c.in-Answered.ensures.served in
    let first = c.advance-in-Answered.ensures.turned w.0 w.1.0 (w.1.1, c.args.event, w.1.2) in
    record {
      given = may_be_told p w.0 c.args.event w.1.1 w.1.2 did.reply did.opened _ _ first _ c.advance-in-Answered.ensures.stays.program c.in-Answered.answer;
    }

pub advance-requires-in-Open-2 : goal.advance-requires-in-Open-2
advance-requires-in-Open-2 g c =
    let m = g.M.SharedMemory in
    let p = (g.T.TakesTurns.meaning c.args.thread.now).program in
    let w = c.requires.wanted in
    let did = c.in-Open.ensures.served in
    let first = c.advance-in-Open.ensures.turned w.0 w.1.0 (w.1.1, c.args.event, w.1.2) in
    record {
      given = may_be_told p w.0 c.args.event w.1.1 w.1.2 did.reply did.opened _ _ first _ c.advance-in-Open.ensures.stays.program c.collect-answer.result;
    }

pub returns-in-Replied-clause-attended : goal.returns-in-Replied-clause-attended
returns-in-Replied-clause-attended g c t earlier wanted saw =
    let stands = wanted.0 in
    let none = wanted.1 in
    let want = wanted.2 in
    let m = g.M.SharedMemory in
    let meaning = g.T.TakesTurns.meaning c.args.thread.now in
    let did = c.in-Replied.ensures.served in
    let called = rw (c.name-name.ensures) at c.advance.ensures.called in
    steps_reply g.G.Gate meaning.fuel meaning.program m.LOSES m.opening (m.limit c.args.memory.now)
    (m.name c.args.seat.now) t c.args.event none want (watched m.seen m.lost c.args.seat.now earlier)
    (watched m.seen m.lost c.serve.new.seat c.advance.new.gate) c.args.gate.now saw c.in-Replied.reply c.advance.result
    _ did.0 did.1 c.in-Replied.ensures.tries (called t stands)
    (c.advance.ensures.turned t stands (none, c.args.event, want))

pub returns-in-Answered-clause-attended : goal.returns-in-Answered-clause-attended
returns-in-Answered-clause-attended g c t earlier wanted saw =
    let stands = wanted.0 in
    let none = wanted.1 in
    let want = wanted.2 in
    let m = g.M.SharedMemory in
    let limit = m.limit c.args.memory.now in
    let n = m.name c.args.seat.now in
    let meaning = g.T.TakesTurns.meaning c.args.thread.now in
    let p = meaning.program in
    let did = c.in-Answered.ensures.served in
    let first = c.advance-in-Answered.ensures.turned t stands (none, c.args.event, want) in
    let waits = awaiting_stands p t c.args.event none want did.reply did.opened _ _ first in
    let told = awaiting_given p t c.args.event none want did.reply did.opened _ _ first c.in-Answered.answer in
    let second = rw (c.advance-in-Answered.ensures.stays.program) at c.advance-in-Answered-2.ensures.turned in
    let replied = rw (c.name-name.ensures) at c.advance-in-Answered.ensures.called in
    let heard = rw (c.name-name.ensures, c.advance-in-Answered.ensures.stays.fuel) at c.advance-in-Answered-2.ensures.called in
    steps_answer p t c.args.event none want did.reply did.opened _ _ first g.G.Gate meaning.fuel m.LOSES m.opening limit n
    (watched m.seen m.lost c.args.seat.now earlier) (watched m.seen m.lost c.serve.new.seat c.advance-in-Answered-2.new.gate)
    c.args.gate.now c.advance-in-Answered.new.gate saw (replied t stands) (heard _ waits)
    c.in-Answered.answer did.middle c.advance-in-Answered-2.result _ did.asked did.heard c.in-Answered.ensures.tries
    (second _ waits told)

pub returns-in-Open-clause-attended : goal.returns-in-Open-clause-attended
returns-in-Open-clause-attended g c t earlier wanted saw =
    let stands = wanted.0 in
    let none = wanted.1 in
    let want = wanted.2 in
    let m = g.M.SharedMemory in
    let limit = m.limit c.args.memory.now in
    let n = m.name c.args.seat.now in
    let meaning = g.T.TakesTurns.meaning c.args.thread.now in
    let p = meaning.program in
    let middle = m.seen c.serve.new.seat in
    let after = watched m.seen m.lost c.collect-answer.new.seat c.advance-in-Open-2.new.gate in
    let answer = c.collect-answer.result in
    let did = c.in-Open.ensures.served in
    let collected = rw (c.serve.ensures.same.name_is) at c.collect-answer.ensures.collected in
    let first = c.advance-in-Open.ensures.turned t stands (none, c.args.event, want) in
    let waits = awaiting_stands p t c.args.event none want did.reply did.opened _ _ first in
    let told = awaiting_given p t c.args.event none want did.reply did.opened _ _ first answer in
    let second = rw (c.advance-in-Open.ensures.stays.program) at c.advance-in-Open-2.ensures.turned in
    let replied = rw (c.name-name.ensures) at c.advance-in-Open.ensures.called in
    let heard = rw (c.name-name.ensures, c.advance-in-Open.ensures.stays.fuel) at c.advance-in-Open-2.ensures.called in
    steps_answer p t c.args.event none want did.reply did.opened _ _ first g.G.Gate meaning.fuel m.LOSES m.opening limit n
    (watched m.seen m.lost c.args.seat.now earlier) after
    c.args.gate.now c.advance-in-Open.new.gate saw (replied t stands) (heard _ waits) answer
    middle c.advance-in-Open-2.result _ did.asked
    (sees_collected m.opening limit n answer middle after.seen collected.enters)
    (c.collect-answer.ensures.stays.lost_is ∙ c.in-Open.ensures.tries) (second _ waits told)

pub collect-answer-requires-clause-waiting : goal.collect-answer-requires-clause-waiting
collect-answer-requires-clause-waiting g c κs within = rw (c.serve.ensures.same.name_is) c.in-Open.ensures.served.waiting

pub returns-in-Replied-clause-stays : goal.returns-in-Replied-clause-stays
returns-in-Replied-clause-stays g c =
    record { stays = c.advance.ensures.stays; same = c.serve.ensures.same; free = c.in-Replied.ensures.served.2 }

pub returns-in-Answered-clause-stays : goal.returns-in-Answered-clause-stays
returns-in-Answered-clause-stays g c =
    let first = c.advance-in-Answered.ensures.stays in
    let second = c.advance-in-Answered-2.ensures.stays in record {
      stays = record { program = second.program ∙ first.program; fuel = second.fuel ∙ first.fuel };
      same = c.serve.ensures.same;
      free = c.in-Answered.ensures.served.free;
    }

pub returns-in-Open-clause-stays : goal.returns-in-Open-clause-stays
returns-in-Open-clause-stays g c =
    let first = c.advance-in-Open.ensures.stays in
    let second = c.advance-in-Open-2.ensures.stays in
    let asked = c.serve.ensures.same in
    let collected = c.collect-answer.ensures.stays.same in record {
      stays = record { program = second.program ∙ first.program; fuel = second.fuel ∙ first.fuel };
      same = record { name_is = collected.name_is ∙ asked.name_is; right_is = collected.right_is ∙ asked.right_is };
      free = rw (asked.name_is) at c.collect-answer.ensures.collected.free;
    }
