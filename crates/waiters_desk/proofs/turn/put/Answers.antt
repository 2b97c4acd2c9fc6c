use Rattle.std.proofs.Common.{refl, sym, ◌∙◌}
use Rattle.waiters_desk.proofs.Entering.{sound_beside}
use Rattle.waiters_desk.proofs.Turning.{puts_asleep, puts_told, some_due, never_for_good}
use Rattle.waiters_desk.proofs.Seats.{stays_on}
use Rattle.waiters_desk.proofs.turn.put.Goals as goal

pub returns-then-entered-clause-asked : goal.returns-then-entered-clause-asked
returns-then-entered-clause-asked g c =
    let step = rw c.in-Some.is at (c.in_ok-entered.ensures.step) in
    let asleep = rw c.in-Some.is at (c.in_ok-entered.ensures.asleep) in
    let asked = rw c.in-Some.is at (c.in_ok-entered.ensures.asked) in
    puts_asleep _ _ c.args.queue.now c.ask.new.queue _ c.args.question c.in-Some.entered.loaded _ _ c.requires.free
    (sound_beside _ _ c.requires.turn.beside) step
    (c.in_ok-entered.ensures.turn.beside) asked (sym asleep ∙ c.if-entered.true)

pub hear-requires-clause-due : goal.hear-requires-clause-due
hear-requires-clause-due g c κs within =
    let step = rw c.in-Some.is at (c.in_ok-entered.ensures.step) in
    let asleep = rw c.in-Some.is at (c.in_ok-entered.ensures.asleep) in
    rw (c.in_ok-entered.ensures.stays.same.name_is)
    (some_due c.args.queue.now c.ask.new.queue _ c.args.question c.in-Some.entered.loaded c.requires.free (sound_beside _ _ c.requires.turn.beside) step
    (sym asleep ∙ c.if-entered.false))

pub unreachable-requires : goal.unreachable-requires
unreachable-requires g c =
    let step = rw c.in-Some.is at (c.in_ok-entered.ensures.step) in
    let asleep = rw c.in-Some.is at (c.in_ok-entered.ensures.asleep) in
    let due = rw (c.in_ok-entered.ensures.stays.same.name_is) at (c.in-ForGood.ensures.due) in
    never_for_good c.args.queue.now c.ask.new.queue _ c.args.question c.in-Some.entered.loaded c.requires.free (sound_beside _ _ c.requires.turn.beside) step
    (sym asleep ∙ c.if-entered.false) due

pub returns-clause-asked : goal.returns-clause-asked
returns-clause-asked g c =
    let step = rw c.in-Some.is at (c.in_ok-entered.ensures.step) in
    let asleep = rw c.in-Some.is at (c.in_ok-entered.ensures.asleep) in
    let asked = rw c.in-Some.is at (c.in_ok-entered.ensures.asked) in
    let due = rw (c.in_ok-entered.ensures.stays.same.name_is) at (c.in-Number.ensures.due) in
    let took = rw (c.in_ok-entered.ensures.stays.same.name_is) at (c.in-Number.ensures.after) in
    let heard = rw (c.in_ok-entered.ensures.stays.same.name_is) at (c.in-Number.ensures.heard) in
    puts_told _ _ c.args.queue.now c.ask.new.queue c.hear.new.queue _ c.in-Some.entered.loaded _ _ _ _ c.requires.free (sound_beside _ _ c.requires.turn.beside)
    (c.in-Number.ensures.turn.beside) heard due took c.args.question c.in-Number.number asked step (sym asleep ∙ c.if-entered.false) refl

pub returns-in_default-clause-full : goal.returns-in_default-clause-full
returns-in_default-clause-full g c = tt

pub returns-in_default-clause-unchanged : goal.returns-in_default-clause-unchanged
returns-in_default-clause-unchanged g c = tt

pub returns-in_default-clause-exempt : goal.returns-in_default-clause-exempt
returns-in_default-clause-exempt g c = tt

pub returns-then-entered-clause-full : goal.returns-then-entered-clause-full
returns-then-entered-clause-full g c = tt

pub returns-then-entered-clause-unchanged : goal.returns-then-entered-clause-unchanged
returns-then-entered-clause-unchanged g c = tt

pub returns-then-entered-clause-exempt : goal.returns-then-entered-clause-exempt
returns-then-entered-clause-exempt g c = tt

pub returns-clause-full : goal.returns-clause-full
returns-clause-full g c = tt

pub returns-clause-unchanged : goal.returns-clause-unchanged
returns-clause-unchanged g c = tt

pub returns-clause-exempt : goal.returns-clause-exempt
returns-clause-exempt g c = tt

pub returns-in_err-entered-clause-stays : goal.returns-in_err-entered-clause-stays
returns-in_err-entered-clause-stays g c = c.ask.ensures.stays

pub returns-in_err-entered-clause-turn : goal.returns-in_err-entered-clause-turn
returns-in_err-entered-clause-turn g c = c.ask.ensures.turn

pub returns-in_default-clause-stays : goal.returns-in_default-clause-stays
returns-in_default-clause-stays g c = c.ask.ensures.stays

pub returns-in_default-clause-turn : goal.returns-in_default-clause-turn
returns-in_default-clause-turn g c = c.ask.ensures.turn

pub returns-then-entered-clause-stays : goal.returns-then-entered-clause-stays
returns-then-entered-clause-stays g c = c.ask.ensures.stays

pub returns-then-entered-clause-turn : goal.returns-then-entered-clause-turn
returns-then-entered-clause-turn g c = c.ask.ensures.turn

pub hear-requires-clause-turn : goal.hear-requires-clause-turn
hear-requires-clause-turn g c κs within = c.ask.ensures.turn

pub returns-clause-stays : goal.returns-clause-stays
returns-clause-stays g c = stays_on _ _ _ _ c.ask.ensures.stays c.hear.ensures.stays

pub returns-clause-turn : goal.returns-clause-turn
returns-clause-turn g c = c.hear.ensures.turn
