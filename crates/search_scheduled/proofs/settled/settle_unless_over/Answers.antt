use Rattle.std.proofs.Common.{◌∙◌, subst}
use Rattle.interp_machine.specs.Program.{Program}
use Rattle.interp_trait.specs.Turns.{IsTurned}
use Rattle.interp_trait.specs.declared.turn.Given.TheVariants as given
use Rattle.replay_walk.specs.Standing.{SettlesAs}
use Rattle.replay_walk.proofs.Turning.{goes_on, settles, settles_on}
use Rattle.search_scheduled.proofs.settled.settle_unless_over.Goals as goal

pub returns-in_default-clause-settled : goal.returns-in_default-clause-settled
returns-in_default-clause-settled g c = λ t stands here.
    let going = c.loop-made.invariant.going t stands here in
    settles (g.T.TakesTurns.meaning c.args.thread.now).program t (g.T.TakesTurns.meaning c.loop-made.thread).stands
    (g.T.TakesTurns.meaning c.turn.new.self).stands c.turn.result
    (λ moved. c.in_default.not-Moved moved) going
    (subst (λ (p : Program). IsTurned p going.now given.Nothing c.turn.result (g.T.TakesTurns.meaning c.turn.new.self).stands) c.loop-made.invariant.program
    (c.turn.ensures.turned going.now going.stands tt))

pub returns-in_default-clause-stays : goal.returns-in_default-clause-stays
returns-in_default-clause-stays g c = record {
  program = c.turn.ensures.stays.program ∙ c.loop-made.invariant.program;
  fuel = c.turn.ensures.stays.fuel ∙ c.loop-made.invariant.fuel;
}

pub loop-made-preserved : goal.loop-made-preserved
loop-made-preserved g c = record {
  program = c.turn.ensures.stays.program ∙ c.loop-made.invariant.program;
  fuel = c.turn.ensures.stays.fuel ∙ c.loop-made.invariant.fuel;
  going = λ t stands here.
      let going = c.loop-made.invariant.going t stands here in
      goes_on (g.T.TakesTurns.meaning c.args.thread.now).program t (g.T.TakesTurns.meaning c.loop-made.thread).stands
      (g.T.TakesTurns.meaning c.turn.new.self).stands c.turn.result
      c.in-Moved.is going
      (subst (λ (p : Program). IsTurned p going.now given.Nothing c.turn.result (g.T.TakesTurns.meaning c.turn.new.self).stands) c.loop-made.invariant.program
      (c.turn.ensures.turned going.now going.stands tt));
}

pub returns-clause-settled : goal.returns-clause-settled
returns-clause-settled g c = λ t stands here.
    let going = c.loop-made.invariant.going t stands here in
    settles_on (g.T.TakesTurns.meaning c.args.thread.now).program t (g.T.TakesTurns.meaning c.loop-made.thread).stands
    (g.T.TakesTurns.meaning c.settle.new.thread).stands c.settle.result going
    (subst (λ (p : Program). SettlesAs p going.now c.settle.result (g.T.TakesTurns.meaning c.settle.new.thread).stands) c.loop-made.invariant.program
    (c.settle.ensures.settled going.now going.stands going.here))

pub returns-clause-stays : goal.returns-clause-stays
returns-clause-stays g c = record {
  program = c.settle.ensures.stays.program ∙ c.loop-made.invariant.program;
  fuel = c.settle.ensures.stays.fuel ∙ c.loop-made.invariant.fuel;
}
